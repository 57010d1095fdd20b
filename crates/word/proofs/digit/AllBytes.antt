-- A test that is computed for every byte, and what it says of one: for the table and for the ranges. Assumes nothing.
use Rattle.std.proofs.Common.{◌≡◌, ℕ, zero, suc, ◌+◌, ◌<◌, Bool, true, ◌&&◌, le_of_suc-le-suc, not-suc-le-zero, add-zero, add-suc, suc-add, zero-add}
use Rattle.std.proofs.lemmas.Bool.{and_parts}

-- a test of n bytes from c up
abbrev pub passes : (ℕ → Bool) → ℕ → ℕ → Bool
passes f c zero = true
passes f c (suc n) = f c && passes f (suc c) n

passes_at : (f : ℕ → Bool) (c n k : ℕ) → passes f c n ≡ true → k < n → f (c + k) ≡ true
passes_at f c zero k e h = absurd (not-suc-le-zero h)
passes_at f c (suc n) zero e h = rw (add-zero c) (and_parts (f c) (passes f (suc c) n) e).0
passes_at f c (suc n) (suc k) e h =
    rw (add-suc c k, ← suc-add c k) (passes_at f (suc c) n k (and_parts (f c) (passes f (suc c) n) e).1 (le_of_suc-le-suc h))

pub at_byte : (f : ℕ → Bool) → passes f 0 256 ≡ true → (c : ℕ) → c < 256 → f c ≡ true
at_byte f e c h = rw (zero-add c) at (passes_at f 0 256 c e h)
