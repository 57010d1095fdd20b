-- Counts over bytes and the byte behind each, by which ordinary cells of a column are told at once (OrdinaryCells, src/pairs.rt). Assumes nothing.
use Rattle.std.specs.Prelude.{ℕ, ◌+◌, Bool, false, cond, ◌&&◌, ◌||◌, List, [], ◌∷◌, ◌==◌}
use Rattle.word.specs.Digit.{is_digit}
use Rattle.reader.specs.declared.pairs.Pairs.{Pairs}

-- a byte and the one behind it count: the first is the separator, or may be any, and the second is of a kind that counts
abbrev pub matches_of : Pairs → ℕ → ℕ → Bool
matches_of p b n =
    (p.any || b == p.separator)
    && cond (is_digit n p.radix) p.digits (cond (n == p.separator) p.separators p.others)

abbrev pub matches_before : Pairs → ℕ → List ℕ → Bool
matches_before p b [] = false
matches_before p b (n ∷ rest) = matches_of p b n

-- how many of a list's bytes count so with the byte behind them
abbrev pub pairs_of : Pairs → List ℕ → ℕ
pairs_of p [] = 0
pairs_of p (b ∷ rest) = cond (matches_before p b rest) 1 0 + pairs_of p rest
