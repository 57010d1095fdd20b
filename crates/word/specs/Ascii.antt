-- The bytes that count as valid ASCII (document 01, "Digits"): hex 09 to 0D and 20 to 7E. Assumes nothing.
use Rattle.std.specs.Prelude.{ℕ, Bool, ◌||◌}
use Rattle.word.specs.Digit.{among}

abbrev pub valid_ascii : ℕ → Bool
valid_ascii c = among 9 13 c || among 32 126 c
