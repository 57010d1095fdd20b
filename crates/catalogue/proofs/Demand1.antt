-- DEMAND 1 of a catalogue, for every catalogue, made from an empty one or otherwise, and every act: it is accepted, or told by one of its
-- numbers, for its own fault, and the catalogue is left as it was. Assumes nothing.
use Rattle.std.proofs.Common.{◌≡◌, ℕ, ◌<◌, Bool, true, false, eqb, ltb, ◌⊎◌, is_some, sym, refl, ◌∙◌, inl, inr, arith, ltb-false, ltb-true, eqb-true}
use borrow.Author.Tests.{eqb-false}
use Rattle.word.specs.declared.format_flags.Format.{Format}
use Rattle.word.specs.Check.{full_check}
use Rattle.catalogue.specs.Catalogue.{Catalogue, size, word_in, add_number, remove_number}
use Rattle.catalogue.specs.Acts.{Act, add, remove, number_for}
use Rattle.catalogue.specs.RefusalKeeps.{AddFault, ActRefusalKeeps}
use Rattle.catalogue.proofs.acts.Answers.{refused-word, refused_zero, refused_listed, refused_full, accepted, refused_adds, removes, unlisted}

-- THE NUMBER OF AN ADDITION, and where it is 0 all that it tested

pub record Addable (c : Catalogue) (n : ℕ) (f : Format) : Type 0 where
  pub word : full_check f ≡ 0
  pub school : n ≡ 0 → ⊥
  pub new : is_some (word_in c n) ≡ false
  pub room : size c < 64

pub judged : (c : Catalogue) (n : ℕ) (f : Format) → ((add_number c n f ≡ 0) × Addable c n f) ⊎ ((add_number c n f ≡ 0 → ⊥) × AddFault c n f (add_number c n f))
judged c n f = go (eqb (full_check f) 0) (eqb n 0) (is_some (word_in c n)) (ltb (size c) 64) refl refl refl refl where
  go :
      (v z l r : Bool) → eqb (full_check f) 0 ≡ v → eqb n 0 ≡ z → is_some (word_in c n) ≡ l → ltb (size c) 64 ≡ r
      → ((add_number c n f ≡ 0) × Addable c n f) ⊎ ((add_number c n f ≡ 0 → ⊥) × AddFault c n f (add_number c n f))
  go false z l r v e is room =
      let bad = eqb-false (full_check f) 0 v in
      let number = refused-word c n f bad in
      inr (λ k. bad (sym number ∙ k), inl (number, λ k. bad (sym number ∙ k)))
  go true true l r v e is room =
      let number = refused_zero c n f (eqb-true (full_check f) 0 v) (eqb-true n 0 e) in
      inr (λ k. omega (arith, number, k), inr (inl (number, inl (eqb-true n 0 e))))
  go true false true r v e is room =
      let number = refused_listed c n f (eqb-true (full_check f) 0 v) (eqb-false n 0 e) is in
      inr (λ k. omega (arith, number, k), inr (inl (number, inr is)))
  go true false false false v e is room =
      let full = ltb-false (size c) 64 room in
      let number = refused_full c n f (eqb-true (full_check f) 0 v) (eqb-false n 0 e) is full in
      inr (λ k. omega (arith, number, k), inr (inr (number, full)))
  go true false false true v e is room =
      let valid = eqb-true (full_check f) 0 v in
      let less = ltb-true (size c) 64 room in
      inl (accepted c n f valid (eqb-false n 0 e) is less, record { word = valid; school = eqb-false n 0 e; new = is; room = less })

-- an accepted addition passed every test
pub addable : (c : Catalogue) (n : ℕ) (f : Format) → add_number c n f ≡ 0 → Addable c n f
addable c n f e = go (judged c n f) where
  go : ((add_number c n f ≡ 0) × Addable c n f) ⊎ ((add_number c n f ≡ 0 → ⊥) × AddFault c n f (add_number c n f)) → Addable c n f
  go (inl known) = known.1
  go (inr fault) = absurd (fault.0 e)

-- THE THEOREM
pub catalogue_refusal : (c : Catalogue) (act : Act) → (number_for c act ≡ 0) ⊎ ActRefusalKeeps c act
catalogue_refusal c (add n f) = go (judged c n f) where
  go : ((add_number c n f ≡ 0) × Addable c n f) ⊎ ((add_number c n f ≡ 0 → ⊥) × AddFault c n f (add_number c n f)) → (add_number c n f ≡ 0) ⊎ ActRefusalKeeps c (add n f)
  go (inl known) = inl known.0
  go (inr fault) = inr (record { number = fault.1; catalogue = refused_adds c n f fault.0 })
catalogue_refusal c (remove n) = go (is_some (word_in c n)) refl where
  go : (l : Bool) → is_some (word_in c n) ≡ l → (remove_number c n ≡ 0) ⊎ ActRefusalKeeps c (remove n)
  go true is = inl (removes c n is)
  go false is = inr (record { number = ((unlisted c n is).0, is); catalogue = (unlisted c n is).1 })
