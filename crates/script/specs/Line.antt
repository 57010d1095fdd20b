-- Lines of the output, and what it is to write bytes behind others. Assumes nothing.
use Rattle.std.specs.Prelude.{ℕ, ◌+◌, ◌*◌, ◌≡◌, List, [], ◌∷◌, ◌++◌, length, take}

-- "Each answer is a line, its fields parted by one space." A line ends in a newline.
abbrev pub behind : List (List ℕ) → List ℕ
behind [] = 10 ∷ []
behind (field ∷ rest) = 32 ∷ (field ++ behind rest)

abbrev pub line_of : List ℕ → List (List ℕ) → List ℕ
line_of field rest = field ++ behind rest

-- the most digits of a number of 64 bits, and with the space before it
abbrev pub longest_number : ℕ
longest_number = 20

abbrev pub longest_field : ℕ
longest_field = 1 + longest_number

-- The most bytes of a line: the digit of a kind, four fields, and a newline.
abbrev pub longest_line : ℕ
longest_line = 1 + 4 * longest_field + 1

-- A buffer was `before`, of which `at` bytes were written; now it is `after`, and these bytes are written behind them, up to `end`.
pub record Wrote (before : List ℕ) (at : ℕ) (bytes : List ℕ) (after : List ℕ) (end : ℕ) : Type 0 where
  pub size : length after ≡ length before
  pub place : end ≡ at + length bytes
  pub contents : take end after ≡ take at before ++ bytes
