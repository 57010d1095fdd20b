-- A conversion that answers no error, but an option: for `parse` and `repeat`. Assumes nothing.
use mathlib.Core.Path.{◌≡◌, refl, ◌∙◌, ap, sym}
use Rattle.std.specs.Prelude.{Option, Some, None, Result, ok_or}
use Rattle.std.specs.Result.{result_ok}

same_option : {A E : Type 0} (o : Option A) (e : E) → result_ok (ok_or o e) ≡ o
same_option (Some x) e = refl
same_option None e = refl

-- what it was made of
pub made_of : {A E : Type 0} (o : Option A) (e : E) {r : Result A E} {told : Option A} → r ≡ ok_or o e → told ≡ result_ok r → o ≡ told
made_of o e is tells = sym (tells ∙ ap result_ok is ∙ same_option o e)
