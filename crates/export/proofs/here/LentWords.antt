-- A lent state is the list of its eight words, with and without another cursor: for the quick ways. Assumes nothing.
use Rattle.std.proofs.Common.{◌≡◌, refl, ℕ, zero, suc, ◌+◌, ◌≤◌, List, [], ◌∷◌, length, get_or, slice_set, arith}
use Rattle.export.specs.State.{state_in, state_words}
use Rattle.export.specs.Code.Here.{place_words}

by_eight : (Holds : List ℕ → Type 0) → ((a b c d e f g h : ℕ) → Holds (a ∷ b ∷ c ∷ d ∷ e ∷ f ∷ g ∷ h ∷ []))
    → (w : List ℕ) → length w ≡ 8 → Holds w
by_eight Holds holds (a ∷ b ∷ c ∷ d ∷ e ∷ f ∷ g ∷ h ∷ []) eight = holds a b c d e f g h
by_eight Holds holds [] eight = absurd (omega (arith, eight))
by_eight Holds holds (a ∷ []) eight = absurd (omega (arith, eight))
by_eight Holds holds (a ∷ b ∷ []) eight = absurd (omega (arith, eight))
by_eight Holds holds (a ∷ b ∷ c ∷ []) eight = absurd (omega (arith, eight))
by_eight Holds holds (a ∷ b ∷ c ∷ d ∷ []) eight = absurd (omega (arith, eight))
by_eight Holds holds (a ∷ b ∷ c ∷ d ∷ e ∷ []) eight = absurd (omega (arith, eight))
by_eight Holds holds (a ∷ b ∷ c ∷ d ∷ e ∷ f ∷ []) eight = absurd (omega (arith, eight))
by_eight Holds holds (a ∷ b ∷ c ∷ d ∷ e ∷ f ∷ g ∷ []) eight = absurd (omega (arith, eight))
by_eight Holds holds (a ∷ b ∷ c ∷ d ∷ e ∷ f ∷ g ∷ h ∷ i ∷ more) eight = absurd (omega (arith, eight))

-- where nothing is written
pub unmoved : (w : List ℕ) → length w ≡ 8 → w ≡ state_words w (state_in w)
unmoved w eight = by_eight (λ w. w ≡ state_words w (state_in w)) (λ a b c d e f g h. refl) w eight

pub placed : (w : List ℕ) (place : ℕ) → length w ≡ 8 → slice_set w 2 place ≡ place_words w place
placed w place eight = by_eight (λ w. slice_set w 2 place ≡ place_words w place) (λ a b c d e f g h. refl) w eight

-- the reader's own count, where the counts together are within the cursor
pub own_fits : (n : ℕ) → n ≤ 2 → (w : List ℕ) → get_or w 3 0 + get_or w 4 0 + get_or w 5 0 ≤ get_or w 2 0 → get_or w (3 + n) 0 ≤ get_or w 2 0
own_fits zero low w fit = omega (arith, fit)
own_fits (suc zero) low w fit = omega (arith, fit)
own_fits (suc (suc zero)) low w fit = omega (arith, fit)
own_fits (suc (suc (suc n))) low w fit = absurd (omega (arith, low))
