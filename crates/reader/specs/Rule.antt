-- The rule table of document 01 ("Passing"): when a separator may be passed, by the reader's flags and what is known of the
-- separator's two neighbours. D is `.digit`, S is `.separator`. Without the consecutive flag the neighbours are p and n, the bytes
-- just before and after; with it they are P and N, the nearest ones that are no separators. Assumes nothing.
use Rattle.std.specs.Prelude.{Bool, true, false, cond, not, ◌&&◌, ◌||◌}
use Rattle.reader.specs.declared.rule.Flags.{Flags}
use Rattle.reader.specs.declared.rule.Neighbour.{Neighbour}
use Rattle.reader.specs.declared.rule.Wanted.{Wanted}

-- "not" before a list of two or three: none of it holds
abbrev pub neither : Bool → Bool → Bool
neither a b = not a && not b

abbrev pub none_of : Bool → Bool → Bool → Bool
none_of a b c = not a && not b && not c

-- column "First", row by row; the four flags are I, L, T and C
abbrev pub first : Bool → Bool → Bool → Bool → Neighbour → Neighbour → Bool
first true false false false p n = p.digit && n.digit
first false true false false p n = none_of p.digit p.separator n.separator
first false false true false p n = none_of n.digit n.separator p.separator
first true true false false p n = cond p.digit n.digit (not p.separator)
first true false true false p n = not n.separator && (p.digit || not n.digit)
first false true true false p n = neither p.separator n.separator && not (p.digit && n.digit)
first true true true false p n = neither p.separator n.separator
first true false false true p n = p.digit && n.digit
first false true false true p n = not p.digit
first false false true true p n = not n.digit
first true true false true p n = n.digit || not p.digit
first true false true true p n = (p.exists && not p.digit) || not n.digit
first false true true true p n = not (p.digit && n.digit)
first true true true true p n = true
first false false false c p n = false

-- column "Later"
abbrev pub later : Bool → Bool → Bool → Bool → Neighbour → Neighbour → Bool
later true false false false p n = n.digit
later false true false false p n = false
later false false true false p n = neither n.digit n.separator
later true true false false p n = n.digit
later true false true false p n = not n.separator
later false true true false p n = neither n.digit n.separator
later true true true false p n = not n.separator
later true false false true p n = n.digit
later false true false true p n = false
later false false true true p n = not n.digit
later true true false true p n = not n.exists || n.digit
later true false true true p n = true
later false true true true p n = not n.digit
later true true true true p n = true
later false false false c p n = false

-- the table's cell for a reader with these flags: `is_first` while its count is 0
unfoldable pub rule_of : Flags → Bool → Neighbour → Neighbour → Bool
rule_of f is_first p n =
    cond is_first
    (first f.internal f.leading f.trailing f.consecutive p n)
    (later f.internal f.leading f.trailing f.consecutive p n)

-- which neighbours a cell names: no other byte is looked at to decide it
abbrev pub both : Wanted
both = record { previous = true; next = true }

abbrev pub previous_only : Wanted
previous_only = record { previous = true; next = false }

abbrev pub next_only : Wanted
next_only = record { previous = false; next = true }

abbrev pub nothing : Wanted
nothing = record { previous = false; next = false }

abbrev pub first_names : Bool → Bool → Bool → Bool → Wanted
first_names true false false false = both
first_names false true false false = both
first_names false false true false = both
first_names true true false false = both
first_names true false true false = both
first_names false true true false = both
first_names true true true false = both
first_names true false false true = both
first_names false true false true = previous_only
first_names false false true true = next_only
first_names true true false true = both
first_names true false true true = both
first_names false true true true = both
first_names true true true true = nothing
first_names false false false c = nothing

abbrev pub later_names : Bool → Bool → Bool → Bool → Wanted
later_names true false false false = next_only
later_names false true false false = nothing
later_names false false true false = next_only
later_names true true false false = next_only
later_names true false true false = next_only
later_names false true true false = next_only
later_names true true true false = next_only
later_names true false false true = next_only
later_names false true false true = nothing
later_names false false true true = next_only
later_names true true false true = next_only
later_names true false true true = nothing
later_names false true true true = next_only
later_names true true true true = nothing
later_names false false false c = nothing

unfoldable pub names_of : Flags → Bool → Wanted
names_of f is_first =
    cond is_first
    (first_names f.internal f.leading f.trailing f.consecutive)
    (later_names f.internal f.leading f.trailing f.consecutive)
