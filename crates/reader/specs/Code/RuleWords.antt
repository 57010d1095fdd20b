-- How the rule table is laid out as data: a word for each cell, a bit of it for each two neighbours. Assumes nothing.
use Rattle.std.specs.Prelude.{◌≡◌, ℕ, ◌+◌, ◌*◌, Bool, false, cond, not}
use Rattle.word.specs.Bits.{bit}
use Rattle.reader.specs.declared.rule.Flags.{Flags}
use Rattle.reader.specs.declared.rule.Neighbour.{Neighbour}
use Rattle.reader.specs.declared.rule.Later.{Later}
use Rattle.reader.specs.Rule.{rule_of}

-- the number of a cell: later, I, L, T and C as bits from the lowest up
abbrev pub cell_of : Flags → Bool → ℕ
cell_of f is_first =
    cond (not is_first) 1 0 + cond f.internal 2 0 + cond f.leading 4 0 + cond f.trailing 8 0 + cond f.consecutive 16 0

-- the number of a neighbour: that there is one, D and S likewise
abbrev pub code_of : Neighbour → ℕ
code_of p = cond p.exists 1 0 + cond p.digit 2 0 + cond p.separator 4 0

-- the word of a cell: each of its bits is the rule's answer for the two neighbours with these numbers
abbrev pub IsEntry : ℕ → ℕ → Type 0
IsEntry cell word =
    (f : Flags) (is_first : Bool) (p n : Neighbour) → cell ≡ cell_of f is_first → bit word (8 * code_of p + code_of n) ≡ rule_of f is_first p n

-- The rule of a reader that has counted, which does not ask for the neighbour before. A word without a bit never holds.
pub record IsLater (f : Flags) (l : Later) : Type 0 where
  pub holds : (p n : Neighbour) → bit l.0 (code_of n) ≡ rule_of f false p n
