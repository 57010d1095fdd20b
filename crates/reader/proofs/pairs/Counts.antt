-- Laws of the counts over bytes and the byte behind each, as the loops over a slice meet them: for the quick way through a column.
-- Assumes nothing.
use Rattle.std.proofs.Common.{◌≡◌, ℕ, zero, suc, ◌+◌, ◌-◌, ◌<◌, ◌≤◌, Bool, true, false, cond, not, ◌&&◌, ◌||◌, List, [], ◌∷◌, length, get_or, take, drop, refl, arith, length-drop, length-take}
use lib.Seq.{drop-nil}
use Rattle.std.specs.Int.{from_bool}
use Rattle.reader.specs.Code.Pairs.{matches_of, pairs_of}
use Rattle.reader.specs.declared.pairs.Pairs.{Pairs}

-- which kind a byte is of, told without a branch
pub kinds : (d s x y z : Bool) → (((d && x) || ((not d && s) && y)) || ((not d && not s) && z)) ≡ cond d x (cond s y z)
kinds true s true y z = refl
kinds true s false y z = refl
kinds false true x true z = refl
kinds false true x false z = refl
kinds false false x y z = refl

-- what a test adds to a count
pub one_or_none : (b : Bool) → from_bool b ≡ cond b 1 0
one_or_none true = refl
one_or_none false = refl

-- one pair adds at most one
pub at_most_one : (b : Bool) → cond b 1 0 ≤ 1
at_most_one true = omega arith
at_most_one false = omega arith

module _ (p : Pairs) where
  -- one byte of a list counts or not, and the rest is counted from the next on
  pub one_pair : (s : List ℕ) (j : ℕ) → suc j < length s
      → pairs_of p (drop j s) ≡ cond (matches_of p (get_or s j 0) (get_or s (suc j) 0)) 1 0 + pairs_of p (drop (suc j) s)
  one_pair [] j h = absurd (omega arith)
  one_pair (b ∷ []) j h = absurd (omega arith)
  one_pair (b ∷ n ∷ s) zero h = refl
  one_pair (b ∷ n ∷ s) (suc j) h = one_pair (n ∷ s) j (omega arith)

  -- the last byte makes no pair
  pub no_pair : (s : List ℕ) (j : ℕ) → length s ≤ suc j → pairs_of p (drop j s) ≡ 0
  no_pair [] j h = rw (drop-nil {A = ℕ} j)
  no_pair (b ∷ []) zero h = refl
  no_pair (b ∷ n ∷ s) zero h = absurd (omega arith)
  no_pair (b ∷ s) (suc j) h = no_pair s j (omega arith)

  -- there are fewer pairs than bytes
  pub pairs_below : (s : List ℕ) → 0 < length s → pairs_of p s < length s
  pairs_below [] h = absurd (omega arith)
  pairs_below (b ∷ []) h = omega arith
  pairs_below (b ∷ n ∷ s) h = omega (arith, at_most_one (matches_of p b n), pairs_below (n ∷ s) (omega arith))

  -- two parts that share a byte have together the pairs of the whole
  shared_byte : (s : List ℕ) (k : ℕ) → pairs_of p (take (suc k) s) + pairs_of p (drop k s) ≡ pairs_of p s
  shared_byte [] k = rw (drop-nil {A = ℕ} k)
  shared_byte (b ∷ s) zero = omega arith
  shared_byte (b ∷ []) (suc k) = rw (drop-nil {A = ℕ} k)
  shared_byte (b ∷ n ∷ s) (suc k) = omega (arith, shared_byte (n ∷ s) k)

-- A loop over a slice has come to the index i, and has counted the pairs whose second byte stands before it.
module _ (p : Pairs) (s : List ℕ) (i count : ℕ) (begun : 1 ≤ i) (same : count + pairs_of p (drop (i - 1) s) ≡ pairs_of p s) where
  -- one turn counts the pair of this byte and the one before it
  pub pair_turn :
      i < length s
      → cond (matches_of p (get_or s (i - 1) 0) (get_or s i 0)) 1 0 + count + pairs_of p (drop (i + 1 - 1) s) ≡ pairs_of p s
  pair_turn h =
      let next : suc (i - 1) ≡ i = omega arith in
      let back : i + 1 - 1 ≡ i = omega arith in
      rw back (omega (arith, rw next at (one_pair p s (i - 1) (omega arith))))

  -- past the slice all are counted
  pub pairs_end : length s ≤ i → count ≡ pairs_of p s
  pairs_end out = omega (arith, no_pair p s (i - 1) (omega arith))

-- The 225 bytes that a longer slice begins with, and so 224 pairs, of which `few` count: with those behind they are all.
pub part_turn :
    (p : Pairs) (rest : List ℕ) (few : ℕ) → 224 < length rest → few ≡ pairs_of p (take 225 rest)
    → (few + length (drop 224 rest) ≤ length rest) × (few + pairs_of p (drop 224 rest) ≡ pairs_of p rest)
part_turn p rest few long counted =
    let size : length (take 225 rest) ≡ 225 = simp length-take (omega arith) in (
      omega (arith, length-drop 224 rest, pairs_below p (take 225 rest) (omega arith)),
      omega (arith, shared_byte p rest 224),
    )
