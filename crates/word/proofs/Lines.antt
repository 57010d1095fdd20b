-- Laws of a check as a list of lines, for both checks and for the reader's refusals: the first line of a list, and two lists joined.
-- Assumes nothing.
use Rattle.std.proofs.Common.{◌≡◌, ℕ, zero, suc, Bool, true, false, cond, eqb, List, [], ◌∷◌, ◌++◌, refl}
use lib.Dec.{eqb-suc-zero}
use Rattle.word.specs.Check.{line, first_failing}

-- a line with a number that is not 0 decides where it fails
pub line_first : (n : ℕ) (holds : Bool) (rest : List ℕ) → first_failing (line (suc n) holds ∷ rest) ≡ cond holds (first_failing rest) (suc n)
line_first n true rest = refl
line_first n false rest = refl

-- a line that stands alone is the answer, whatever its number
pub line_last : (n : ℕ) (holds : Bool) → first_failing (line n holds ∷ []) ≡ line n holds
line_last n true = refl
line_last zero false = refl
line_last (suc n) false = refl

-- the lines of a second list matter where none of the first fails
pub joined : (a b : List ℕ) → first_failing (a ++ b) ≡ cond (eqb (first_failing a) 0) (first_failing b) (first_failing a)
joined [] b = refl
joined (zero ∷ a) b = joined a b
joined (suc n ∷ a) b = rw (eqb-suc-zero n)

-- The step of a check that asks of the first list's answer e whether it is a success, s: it stops with e, or goes on to the second
-- list's answer m.
module _ (e : ℕ) (s : Bool) (a b : List ℕ) (answer : e ≡ first_failing a) (success : s ≡ eqb e 0) where
  pub stops : s ≡ false → e ≡ first_failing (a ++ b)
  stops fails = let k : eqb (first_failing a) 0 ≡ false = cc in rw (joined a b, k) answer

  pub goes_on : (m : ℕ) → s ≡ true → m ≡ first_failing b → m ≡ first_failing (a ++ b)
  goes_on m holds rest = let k : eqb (first_failing a) 0 ≡ true = cc in rw (joined a b, k) rest
