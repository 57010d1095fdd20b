-- A search over the parts of one width that a slice begins with, from the first on: what it finds is how many widths the run of
-- separators has. For the two searches of src/search.rt. Assumes nothing.
use Rattle.std.proofs.Common.{◌≡◌, ℕ, zero, suc, ◌+◌, ◌-◌, ◌*◌, ◌/◌, ◌<◌, ◌≤◌, Bool, true, false, not, eqb, List, [], length, get_or, take, drop, replicate, Some, None, Option, MatchOption, sym, refl, ap, ◌∙◌, mul-le-mul_left, mul-zero, mul-suc, add-one, arith, drop-drop, one-mul}
use Rattle.std.specs.Option.{unwrap_or}
use Rattle.std.specs.List.{AllWithin, HoldsAt}
use Rattle.std.specs.Simd.{first_chunks}
use Rattle.reader.specs.Place.{separator_run}
use Rattle.std.specs.Cmp.Lexicographic.{pointwise, bytes_decides}
use Rattle.std.proofs.lemmas.Bool.{false≢true}
use Rattle.reader.proofs.search.RunSteps.{Stepping, stepping_starts, stepping_on, stops_on_other, stops_near_end, one_separator, one_other}

module _ (separator : ℕ) (s : List ℕ) (n : ℕ) where
  -- the j-th part has separators alone
  abbrev pub Same : ℕ → Type 0
  Same j = take n (drop (n * j) s) ≡ replicate n separator

  -- over so many of them
  steps_over : (steps : ℕ) → 0 < separator → n * steps ≤ length s → ((j : ℕ) → j < steps → Same j) → Stepping separator s n 0 (n * steps) steps
  steps_over zero positive room same = rw (mul-zero n) (stepping_starts separator s n 0 (omega arith))
  steps_over (suc steps) positive room same =
      let inside : n * steps + n ≤ length s = omega (arith, rw mul-suc at room) in
      let here = steps_over steps positive (omega arith) (λ j h. same j (omega arith)) in
      let on = stepping_on separator s n 0 (n * steps) steps here positive inside (same steps (omega arith)) in
      rw (mul-suc, ← add-one steps) on

  -- the first other part, or none of so many: with fewer bytes left than a part has
  pub found_in :
      (count : ℕ) (found : Option ℕ) → 0 < separator → 0 < n → n * count ≤ length s → length s - n * count < n
      → MatchOption found ((j : ℕ) → j < count → Same j) (λ i. (i < count) × (Same i → ⊥) × ((j : ℕ) → j < i → Same j))
      → unwrap_or found count ≡ separator_run separator s / n
  found_in count None positive wide room near same =
      stops_near_end separator s n 0 (n * count) count (steps_over count positive room same) wide near
  found_in count (Some i) positive wide room near told =
      let before : n * i ≤ n * count = mul-le-mul_left n (omega (arith, told.0)) in
      stops_on_other separator s n 0 (n * i) i (steps_over i positive (omega arith) told.2) wide told.1

-- the i-th chunk of a slice
pub chunk_at : (n k i : ℕ) (l : List ℕ) (d : List ℕ) → i < k → get_or (first_chunks n k l) i d ≡ take n (drop (n * i) l)
chunk_at n zero i l d h = absurd (omega arith)
chunk_at n (suc k) zero l d h = rw (mul-zero n)
chunk_at n (suc k) (suc i) l d h =
    let past : n + n * i ≡ n * suc i = rw mul-suc (omega arith) in
    rw (chunk_at n k i (drop n l) d (omega arith), drop-drop, ← past) refl

-- two lists are told apart by a test of each two of their numbers
pub same_told : (l m : List ℕ) → not (pointwise eqb l m) ≡ false → l ≡ m
same_told l m e = (bytes_decides l m).0 (go (pointwise eqb l m) e) where
  go : (b : Bool) → not b ≡ false → b ≡ true
  go true e = refl
  go false e = absurd (false≢true (sym e))

pub other_told : (l m : List ℕ) → not (pointwise eqb l m) ≡ true → l ≡ m → ⊥
other_told l m e same = false≢true (ap not (sym ((bytes_decides l m).1 same)) ∙ e)

-- What a search over the chunks of a slice tells, and one over its bytes, is told of its parts.
module _ (separator : ℕ) (s : List ℕ) where
  pub chunks_told :
      (n k : ℕ) (l : List (List ℕ)) (found : Option ℕ) → l ≡ first_chunks n k s → length l ≡ k
      → MatchOption found (AllWithin (λ x. x ≡ replicate n separator) l 0 (length l))
      (λ i. (i < length l) × HoldsAt (λ x. x ≡ replicate n separator → ⊥) l i × AllWithin (λ x. x ≡ replicate n separator) l 0 i)
      → MatchOption found ((j : ℕ) → j < k → Same separator s n j)
      (λ i. (i < k) × (Same separator s n i → ⊥) × ((j : ℕ) → j < i → Same separator s n j))
  chunks_told n k l None e size all = λ j h. rw (e, chunk_at n k j s [] h) at (all j [] (omega arith) (omega arith))
  chunks_told n k l (Some i) e size told = (
    omega (arith, told.0),
    rw (e, chunk_at n k i s [] (omega (arith, told.0))) at (told.1 []),
    λ j h. rw (e, chunk_at n k j s [] (omega (arith, told.0))) at (told.2 j [] (omega arith) h),
  )

  pub bytes_told :
      (found : Option ℕ)
      → MatchOption found (AllWithin (λ x. x ≡ separator) s 0 (length s))
      (λ i. (i < length s) × HoldsAt (λ x. x ≡ separator → ⊥) s i × AllWithin (λ x. x ≡ separator) s 0 i)
      → MatchOption found ((j : ℕ) → j < length s → Same separator s 1 j)
      (λ i. (i < length s) × (Same separator s 1 i → ⊥) × ((j : ℕ) → j < i → Same separator s 1 j))
  bytes_told None all = λ j h. rw (one-mul j) (one_separator separator s j h (all j 0 (omega arith) h))
  bytes_told (Some i) told = (
    told.0,
    rw (one-mul i) (one_other separator s i told.0 (told.1 0)),
    λ j h. rw (one-mul j) (one_separator separator s j (omega (arith, told.0)) (told.2 j 0 (omega arith) h)),
  )
