-- A part of a slice that a caller lent: which slice, where in it, and its bytes. Assumes nothing.
use Rattle.std.specs.Prelude.{◌≡◌, ℕ, ◌+◌, List}
use Rattle.std.specs.Borrow.{Bor}

-- A reference points into a block of memory, at an offset. The part p points into the lent slice's own block, `start` bytes behind
-- where the slice begins, and these are its bytes.
pub record PartOf (lent : Bor (List ℕ)) (start : ℕ) (contents : List ℕ) (p : Bor (List ℕ)) : Type 0 where
  pub block : p.ref_ptr.0 ≡ lent.ref_ptr.0
  pub offset : p.ref_ptr.1 ≡ start + lent.ref_ptr.1
  pub bytes : p.now ≡ contents
