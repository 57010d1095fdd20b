-- Digit runs worked out from the definitions, by computation: the first and the last value, the refusals, what stays of the last peek, and
-- words that the check refuses. Each from a fresh state. Assumes nothing.
use Rattle.std.proofs.Common.{◌≡◌, ℕ, Bool, true, false, List, [], ◌∷◌, map, Some, None, Option, refl}
use Rattle.word.specs.Digit.{digit_value, is_digit}
use Rattle.reader.specs.declared.rule.Flags.{Flags}
use Rattle.reader.specs.declared.state.Reader.{Reader}
use Rattle.reader.specs.declared.state.Reader.TheVariants.{Integer, Special}
use Rattle.reader.specs.declared.passing.Syntax.{Syntax}
use Rattle.reader.specs.Rule.{rule_of}
use Rattle.reader.specs.Place.{is_separator}
use Rattle.reader.specs.Reading.{reading_with, neighbour_of, may_pass, passed_at}
use Rattle.reader.specs.State.{fresh_of, count_of, moved_to, counted_by}
use Rattle.reader.specs.Calls.{refusal_with, peeked, peek_of, next_of}
use Rattle.reader.specs.ZeroSkip.{skip_refusal}
use Rattle.cells.specs.Value.{value_of}
use Rattle.cells.specs.DigitRun.{RunOutcome, digits_from, run_refusal, digit_run_of}

-- what a run shows: its number, the value, how many digits it took and separators it passed, the cursor and the integer count afterwards
pub record Shown : Type 0 where
  pub number : ℕ
  pub value : Option ℕ
  pub taken : ℕ
  pub passed : ℕ
  pub cursor : ℕ
  pub count : ℕ

pub record Example : Type 0 where
  pub reader : Reader
  pub syntax : Syntax
  pub text : List ℕ
  pub shows : Shown

-- flags I, L, T
abbrev pub flagged : Bool → Bool → Bool → Flags
flagged i l t = record { internal = i; leading = l; trailing = t; consecutive = false }

-- separator `_`, radix 10
abbrev pub decimal : Flags → Syntax
decimal f = record { separator = 95; radix = 10; flags = f }

abbrev pub of_radix : ℕ → Syntax
of_radix radix = record { separator = 0; radix = radix; flags = flagged false false false }

abbrev pub reads : ℕ → ℕ → ℕ → ℕ → ℕ → Shown
reads v taken passed cursor count = record { number = 0; value = Some v; taken = taken; passed = passed; cursor = cursor; count = count }

abbrev pub refuses : ℕ → Shown
refuses number = record { number = number; value = None; taken = 0; passed = 0; cursor = 0; count = 0 }

abbrev pub by : Syntax → List ℕ → Shown → Example
by x text shows = record { reader = Integer; syntax = x; text = text; shows = shows }

-- `1844674407370955161` and one digit more
abbrev pub largest_then : ℕ → List ℕ
largest_then b =
    49 ∷ 56 ∷ 52 ∷ 52 ∷ 54 ∷ 55 ∷ 52 ∷ 52 ∷ 48 ∷ 55 ∷ 51 ∷ 55 ∷ 48 ∷ 57 ∷ 53 ∷ 53 ∷ 49 ∷ 54 ∷ 49 ∷ b ∷ []

abbrev pub examples : List Example
examples =
    -- `1_204`, `0012`: separators passed, leading zeros taken
    by (decimal (flagged true false false)) (49 ∷ 95 ∷ 50 ∷ 48 ∷ 52 ∷ []) (reads 1204 4 1 5 4)
    ∷ by (decimal (flagged true false false)) (48 ∷ 48 ∷ 49 ∷ 50 ∷ []) (reads 12 4 0 4 4)
    -- `1_` with T, `1_x` with I: the last peek's passing stays, and the first other byte is untaken
    ∷ by (decimal (flagged false false true)) (49 ∷ 95 ∷ []) (reads 1 1 1 2 1)
    ∷ by (decimal (flagged true false false)) (49 ∷ 95 ∷ 120 ∷ []) (reads 1 1 0 1 1)
    -- `_x` with L: 23, and nothing is passed
    ∷ by (decimal (flagged false true false)) (95 ∷ 120 ∷ []) (refuses 23)
    -- the largest value, and one more
    ∷ by (decimal (flagged true false false)) (largest_then 53) (reads 18446744073709551615 20 0 20 20)
    ∷ by (decimal (flagged true false false)) (largest_then 54) (refuses 24)
    -- without flags digits are taken and none is counted: `12`
    ∷ by (decimal (flagged false false false)) (49 ∷ 50 ∷ []) (reads 12 2 0 2 0)
    -- radix 0: `0`; radix 1: `00x`; radix 200: `zZ`
    ∷ by (of_radix 0) (48 ∷ []) (refuses 23)
    ∷ by (of_radix 1) (48 ∷ 48 ∷ 120 ∷ []) (reads 0 2 0 2 0)
    ∷ by (of_radix 200) (122 ∷ 90 ∷ []) (reads 7035 2 0 2 0)
    -- radix 2, separator `0`, IL: `001`. The peek passes the first `0` and sees the second; the take passes that too, and takes `1`
    ∷ by (record { separator = 48; radix = 2; flags = flagged true true false }) (48 ∷ 48 ∷ 49 ∷ []) (reads 1 1 2 3 1)
    -- the special reader has no run
    ∷ record { reader = Special; syntax = decimal (flagged true false false); text = 49 ∷ []; shows = refuses 18 }
    ∷ []

abbrev pub shown_of : RunOutcome → Shown
shown_of o =
    record { number = o.refusal; value = o.value; taken = o.taken; passed = o.passed; cursor = o.state.cursor; count = o.state.integer.0 }

abbrev pub comes_to : Example → Shown
comes_to e = shown_of (digit_run_of e.syntax e.text (fresh_of (record { lo = 0; hi = 0 })) e.reader)

pub examples_hold : map comes_to examples ≡ map (λ (e : Example). e.shows) examples
unfolding digit_run_of run_refusal skip_refusal digits_from value_of peek_of peeked next_of refusal_with reading_with neighbour_of may_pass passed_at rule_of is_separator is_digit digit_value count_of moved_to counted_by
examples_hold = refl
