-- What an addition and a removal answer, and the words behind them, for each way that the code goes. Assumes nothing.
use Rattle.std.proofs.Common.{◌≡◌, ℕ, zero, suc, ◌<◌, ◌≤◌, true, false, not, ◌||◌, eqb, ltb, List, [], ◌∷◌, length, is_some, IsErrAnd, Some, None, Ok, Err, Option, Result, sym, refl, ap, ◌∙◌, arith, le-ltb, lt-ltb, eq-eqb, ne_eqb}
use Rattle.std.specs.Prelude.{⊤}
use Rattle.word.specs.declared.error.Error.{Error}
use Rattle.word.specs.declared.format_flags.Format.{Format}
use Rattle.word.specs.Error.{number_of}
use Rattle.word.specs.Check.{full_check, line, first_failing}
use Rattle.catalogue.specs.Entries.{entry_of}
use Rattle.catalogue.specs.declared.error.CatalogueError.{CatalogueError}
use Rattle.catalogue.specs.declared.error.CatalogueError.TheVariants.{InvalidWord}
use Rattle.catalogue.specs.Catalogue.{Catalogue, size, word_in, add_number, added, with_entry, remove_number, removed, without_listed, error_number, answer_number}
use Rattle.catalogue.specs.Block.{words_of, catalogue_in}
use Rattle.catalogue.proofs.entries.Words.{words_back}

-- ADDITIONS

first-line : (number : ℕ) (rest : List ℕ) → (number ≡ 0 → ⊥) → first_failing (number ∷ rest) ≡ number
first-line zero rest not-zero = absurd (not-zero refl)
first-line (suc n) rest not-zero = refl

pub refused-word : (c : Catalogue) (n : ℕ) (f : Format) → (full_check f ≡ 0 → ⊥) → add_number c n f ≡ full_check f
unfolding add_number
refused-word c n f bad = first-line (full_check f) (line 25 (not (eqb n 0 || is_some (word_in c n))) ∷ line 26 (ltb (size c) 64) ∷ []) bad

module _ (c : Catalogue) (n : ℕ) (f : Format) (valid : full_check f ≡ 0) where
  pub refused_zero : n ≡ 0 → add_number c n f ≡ 25
  unfolding add_number
  refused_zero e = rw (valid, eq-eqb n 0 e)

  pub refused_listed : (n ≡ 0 → ⊥) → is_some (word_in c n) ≡ true → add_number c n f ≡ 25
  unfolding add_number
  refused_listed e is = rw (valid, ne_eqb n 0 e, is)

  pub refused_full : (n ≡ 0 → ⊥) → is_some (word_in c n) ≡ false → 64 ≤ size c → add_number c n f ≡ 26
  unfolding add_number
  refused_full e is full = rw (valid, ne_eqb n 0 e, is, le-ltb (size c) 64 full)

  pub accepted : (n ≡ 0 → ⊥) → is_some (word_in c n) ≡ false → size c < 64 → add_number c n f ≡ 0
  unfolding add_number
  accepted e is room = rw (valid, ne_eqb n 0 e, is, lt-ltb (size c) 64 room)

pub adds : (c : Catalogue) (n : ℕ) (f : Format) → add_number c n f ≡ 0 → added c n f ≡ with_entry c (entry_of n f)
unfolding added
adds c n f e = rw (eq-eqb (add_number c n f) 0 e)

pub refused_adds : (c : Catalogue) (n : ℕ) (f : Format) → (add_number c n f ≡ 0 → ⊥) → added c n f ≡ c
unfolding added
refused_adds c n f bad = rw (ne_eqb (add_number c n f) 0 bad)

-- an error of the word's is told by its number
pub told_word : (r : Result ⊤ CatalogueError) (e : Error) → IsErrAnd r (λ x. x ≡ InvalidWord e) → answer_number r ≡ number_of e
told_word (Ok done) e is = absurd is
told_word (Err x) e is = ap error_number is

-- REMOVALS

pub removes : (c : Catalogue) (n : ℕ) → is_some (word_in c n) ≡ true → remove_number c n ≡ 0
unfolding remove_number
removes c n is = rw is

pub unlisted : (c : Catalogue) (n : ℕ) → is_some (word_in c n) ≡ false → (remove_number c n ≡ 27) × (removed c n ≡ c)
unfolding remove_number removed
unlisted c n is = (rw is, go (word_in c n) is) where
  go : (o : Option Format) → is_some o ≡ false → without_listed c n o ≡ c
  go None e = refl
  go (Some f) e = absurd cc

-- WHAT IS REFUSED leaves the words as they were

module _ (w : List ℕ) (fits : length w ≡ 194) where
  pub refused_add_words : (n : ℕ) (f : Format) → (add_number (catalogue_in w) n f ≡ 0 → ⊥) → w ≡ words_of (added (catalogue_in w) n f)
  refused_add_words n f bad = sym (words_back w fits) ∙ ap words_of (sym (refused_adds (catalogue_in w) n f bad))

  pub refused_add_keeps : (n : ℕ) (f : Format) (number : ℕ) → add_number (catalogue_in w) n f ≡ suc number → (suc number ≡ add_number (catalogue_in w) n f) × (w ≡ words_of (added (catalogue_in w) n f))
  refused_add_keeps n f number e = (sym e, refused_add_words n f (λ z. omega (arith, e, z)))

  pub refused_remove_keeps : (n : ℕ) → is_some (word_in (catalogue_in w) n) ≡ false → (27 ≡ remove_number (catalogue_in w) n) × (w ≡ words_of (removed (catalogue_in w) n))
  refused_remove_keeps n is =
      let kept = unlisted (catalogue_in w) n is in (sym kept.0, sym (words_back w fits) ∙ ap words_of (sym kept.1))
