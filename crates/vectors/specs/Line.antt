-- A line of the record, taken apart: a letter for its kind, then fields, each a space and a number in upper-case hex. Assumes nothing.
use Rattle.std.specs.Prelude.{ℕ, zero, suc, ◌+◌, ◌-◌, cond, ◌&&◌, List, [], ◌∷◌, ◌==◌, nat_lt, length, take, drop, slice_index, set, replicate, Option, None, Some}
use Rattle.vectors.specs.declared.record.Kind.{Kind}
use Rattle.vectors.specs.declared.record.Kind.TheVariants.{Word, Digit, Call, RunEnd}
use Rattle.vectors.specs.declared.record.Record.{Record}
use Rattle.vectors.specs.Hex.{read_hex}
use Rattle.vectors.specs.Packed.{low_byte_behind}

-- `W` is 87, `D` is 68, `R` is 82 and `E` is 69
abbrev pub kind_of : ℕ → Option Kind
kind_of letter =
    cond (letter == 87) (Some Word)
    (cond (letter == 68) (Some Digit)
    (cond (letter == 82) (Some Call)
    (cond (letter == 69) (Some RunEnd) None)))

abbrev pub of_kind : Kind → Record
of_kind kind = record { kind = kind; count = 0; shape = 0; values = replicate 8 0 }

-- With one more field: `shape` has each field's count of digits in a byte of its own, the last one's lowest.
abbrev pub added : Record → ℕ → Option ℕ → Option Record
added r digits None = None
added r digits (Some v) =
    Some (record { kind = r.kind; count = r.count + 1; shape = low_byte_behind r.shape digits; values = set r.values r.count v })

-- There are at most eight fields, and each is given with the space before it, which is 32.
unfoldable pub with_field : Record → List ℕ → Option Record
with_field r field =
    cond (nat_lt r.count 8 && nat_lt 0 (length field) && (slice_index field 0 == 32))
    (added r (length field - 1) (read_hex (drop 1 field)))
    None

-- how many bytes stand before the next space, or before the end
unfoldable pub until_space : List ℕ → ℕ
until_space [] = 0
until_space (c ∷ rest) = cond (c == 32) 0 (suc (until_space rest))

-- what comes of a record, if there is one
abbrev pub if_record : Option Record → (Record → Option Record) → Option Record
if_record None goes_on = None
if_record (Some r) goes_on = goes_on r

-- the fields one after the other, where `left` bytes of the one before are still to be passed
unfoldable pub with_fields : ℕ → Record → List ℕ → Option Record
with_fields left r [] = Some r
with_fields zero r (c ∷ rest) =
    if_record (with_field r (c ∷ take (until_space rest) rest)) (λ after. with_fields (until_space rest) after rest)
with_fields (suc left) r (c ∷ rest) = with_fields left r rest

-- what comes of a kind, if there is one
abbrev pub if_kind : Option Kind → (Kind → Option Record) → Option Record
if_kind None goes_on = None
if_kind (Some kind) goes_on = goes_on kind

-- nothing where the line is no record
unfoldable pub record_of : List ℕ → Option Record
record_of [] = None
record_of (letter ∷ rest) = if_kind (kind_of letter) (λ kind. with_fields 0 (of_kind kind) rest)
