-- What the rules share, each by one test over every case, which antt computes: for passing, the column and demand 3. Assumes nothing.
use Rattle.std.proofs.Common.{◌≡◌, Bool, true, false, cond, not, ◌&&◌, ◌||◌, T, sym, refl, ◌∙◌}
use mathlib.Core.Bool.{beq}
use Rattle.reader.specs.declared.rule.Flags.{Flags}
use Rattle.reader.specs.declared.rule.Neighbour.{Neighbour}
use Rattle.reader.specs.declared.rule.Later.{Later}
use Rattle.reader.specs.Rule.{rule_of, names_of}
use Rattle.word.specs.Bits.{bit}
use Rattle.word.proofs.byte_set.Members.{zero_bit}
use Rattle.reader.specs.Code.RuleWords.{cell_of, code_of, IsLater}
use Rattle.reader.proofs.rule.Table.{same, every, every_cell, every_pair, cell_at, pair_at}

-- a test passes for every cell with every two neighbours
every_case : (Flags → Bool → Neighbour → Neighbour → Bool) → Bool
every_case test = every_cell (λ flags is_first. every_pair (test flags is_first))

case_at :
    (test : Flags → Bool → Neighbour → Neighbour → Bool) → T (every_case test) →
    (flags : Flags) (is_first : Bool) (p n : Neighbour) → T (test flags is_first p n)
unfolding every_case
case_at test t flags is_first = pair_at _ (cell_at _ t flags is_first)

-- where a neighbour is not named, any other may stand in its place: at first one that is not there
abbrev pub absent : Neighbour
absent = record { exists = false; digit = false; separator = false }

abbrev is_free : Flags → Bool → Neighbour → Neighbour → Bool
is_free flags is_first p n =
    beq (rule_of flags is_first p n)
    (rule_of flags is_first (cond (names_of flags is_first).previous p absent) (cond (names_of flags is_first).next n absent))

all_free : T (every_case is_free)
unfolding every every_cell every_pair every_case rule_of names_of
all_free = tt

absent_is_free :
    (flags : Flags) (is_first : Bool) (p n : Neighbour) →
    rule_of flags is_first p n
    ≡ rule_of flags is_first (cond (names_of flags is_first).previous p absent) (cond (names_of flags is_first).next n absent)
absent_is_free flags is_first p n = same _ _ (case_at is_free all_free flags is_first p n)

twice : (b : Bool) (p q r : Neighbour) → cond b (cond b p q) r ≡ cond b p r
twice true p q r = refl
twice false p q r = refl

-- a neighbour that the cell does not name does not matter
pub unnamed_is_free :
    (flags : Flags) (is_first : Bool) (p n p' n' : Neighbour) →
    rule_of flags is_first p n
    ≡ rule_of flags is_first (cond (names_of flags is_first).previous p p') (cond (names_of flags is_first).next n n')
unnamed_is_free flags is_first p n p' n' =
    absent_is_free flags is_first p n ∙ sym (absent_is_free flags is_first _ _ ∙ rw (twice _ p p', twice _ n n'))

-- once a reader has counted, the neighbour before does not matter
abbrev looks_behind : Flags → Bool → Neighbour → Neighbour → Bool
looks_behind flags is_first p n = is_first || beq (rule_of flags is_first absent n) (rule_of flags is_first p n)

all_look_behind : T (every_case looks_behind)
unfolding every every_cell every_pair every_case rule_of
all_look_behind = tt

pub later_looks_behind : (flags : Flags) (p n : Neighbour) → rule_of flags false absent n ≡ rule_of flags false p n
later_looks_behind flags p n = same _ _ (case_at looks_behind all_look_behind flags false p n)

-- where the word of a reader that has counted has no bit, its rule never holds
pub never_holds : (flags : Flags) (l : Later) → IsLater flags l → l.0 ≡ 0 → (p n : Neighbour) → rule_of flags false p n ≡ false
never_holds flags l later none p n = sym (later.holds p n) ∙ rw none (zero_bit (code_of n))

-- the cells of this mask, of readers that have counted and that have not: their rule never holds
abbrev is_silent : Flags → Bool → Neighbour → Neighbour → Bool
is_silent flags is_first p n = not (bit 0x00230023 (cell_of flags is_first)) || beq (rule_of flags is_first p n) false

all_silent : T (every_case is_silent)
unfolding every every_cell every_pair every_case rule_of bit
all_silent = tt

if_so : (a b : Bool) → T (not a || beq b false) → a ≡ true → b ≡ false
if_so true b t e = same b false t
if_so false b t e = absurd (cc)

pub never_holds_lem :
    (flags : Flags) (is_first : Bool) (p n : Neighbour) → bit 0x00230023 (cell_of flags is_first) ≡ true → rule_of flags is_first p n ≡ false
never_holds_lem flags is_first p n = if_so _ _ (case_at is_silent all_silent flags is_first p n)

-- a neighbour that is a separator, and so no digit
abbrev pub a_separator : Neighbour
a_separator = record { exists = true; digit = false; separator = true }

-- once a reader has counted, a rule without the consecutive flag does not hold in front of a separator
abbrev stops_before : Flags → Bool → Neighbour → Neighbour → Bool
stops_before flags is_first p n = is_first || flags.consecutive || beq (rule_of flags is_first p a_separator) false

all_stop : T (every_case stops_before)
unfolding every every_cell every_pair every_case rule_of
all_stop = tt

unless : (a b : Bool) → T (false || a || beq b false) → a ≡ false → b ≡ false
unless true b t e = absurd (cc)
unless false b t e = same b false t

pub single_stops : (flags : Flags) (p : Neighbour) → flags.consecutive ≡ false → rule_of flags false p a_separator ≡ false
single_stops flags p = unless _ _ (case_at stops_before all_stop flags false p absent)

abbrev is_settled : Flags → Bool → Neighbour → Neighbour → Bool
is_settled flags is_first p n =
    beq (not flags.consecutive && rule_of flags is_first p a_separator && rule_of flags is_first a_separator n) false

all_settled : T (every_case is_settled)
unfolding every every_cell every_pair every_case rule_of
all_settled = tt

not_third : (a b c : Bool) → T (beq (not a && b && c) false) → a ≡ false → b ≡ true → c ≡ false
not_third a b c t ha hb = rw (ha, hb) at (same (not a && b && c) false t)

-- without the consecutive flag, a rule that holds in front of a separator does not hold right behind one
pub settles :
    (flags : Flags) (is_first : Bool) (p n : Neighbour) →
    flags.consecutive ≡ false → rule_of flags is_first p a_separator ≡ true → rule_of flags is_first a_separator n ≡ false
settles flags is_first p n alone front = not_third _ _ _ (case_at is_settled all_settled flags is_first p n) alone front
