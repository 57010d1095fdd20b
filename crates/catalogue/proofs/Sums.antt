-- THE LAW OF ANY WEIGHT: whatever is summed over the entries, an entry that is put in adds its weight, and one that is taken out takes it away.
-- The kept tally is one such sum; how often an entry is listed is another. Assumes nothing.
use Rattle.std.proofs.Common.{◌≡◌, ℕ, ◌+◌, ◌≤◌, Bool, true, false, cond, eqb, ltb, List, [], ◌∷◌, length, Some, None, refl, ap, ◌∙◌, arith, eqb-true}
use Rattle.word.specs.declared.format_flags.Format.{Format}
use Rattle.catalogue.specs.declared.entries.Entry.{Entry}
use Rattle.catalogue.specs.Entries.{entry_of, look_up, inserted, without, sum_of}

module _ (weight : Entry → ℕ) where
  pub sum_inserted : (e : Entry) (l : List Entry) → sum_of weight (inserted e l) ≡ weight e + sum_of weight l
  sum_inserted e [] = refl
  sum_inserted e (x ∷ l) = go (ltb x.school e.school) (sum_inserted e l) where
    go : (t : Bool) → sum_of weight (inserted e l) ≡ weight e + sum_of weight l
        → sum_of weight (cond t (x ∷ inserted e l) (e ∷ x ∷ l)) ≡ weight e + (weight x + sum_of weight l)
    go true h = omega (arith, h)
    go false h = refl

  pub sum_without : (n : ℕ) (f : Format) (l : List Entry) → look_up n l ≡ Some f → sum_of weight l ≡ weight (entry_of n f) + sum_of weight (without n l)
  sum_without n f [] e = absurd cc
  sum_without n f (x ∷ l) e = go (ltb x.school n) (eqb x.school n) refl (sum_without n f l) e where
    go :
        (t u : Bool) → eqb x.school n ≡ u → (look_up n l ≡ Some f → sum_of weight l ≡ weight (entry_of n f) + sum_of weight (without n l))
        → cond t (look_up n l) (cond u (Some x.format) None) ≡ Some f
        → weight x + sum_of weight l ≡ weight (entry_of n f) + sum_of weight (cond t (x ∷ without n l) (cond u l (x ∷ l)))
    go true u same rest found = omega (arith, rest found)
    go false true same rest found =
        let school : x.school ≡ n = eqb-true x.school n same in
        let word : x.format ≡ f = cc in
        let whole : x ≡ entry_of n f = ap (λ (k : ℕ). entry_of k x.format) school ∙ ap (entry_of n) word in
        ap (λ (e : Entry). weight e + sum_of weight l) whole
    go false false same rest found = absurd cc

  -- weights of at most 1 come to at most the number of entries
  pub sum_few : ((e : Entry) → weight e ≤ 1) → (l : List Entry) → sum_of weight l ≤ length l
  sum_few small [] = omega arith
  sum_few small (e ∷ l) = omega (arith, small e, sum_few small l)
