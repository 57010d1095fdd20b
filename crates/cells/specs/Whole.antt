-- A cell's bytes that are no separators: what a digit run that reaches the cell's end takes (proofs/Digits). Assumes nothing.
use Rattle.std.specs.Prelude.{ℕ, cond, List, [], ◌∷◌}
use Rattle.reader.specs.Place.{is_separator}

abbrev pub others : ℕ → List ℕ → List ℕ
others separator [] = []
others separator (b ∷ rest) = cond (is_separator separator b) (others separator rest) (b ∷ others separator rest)
