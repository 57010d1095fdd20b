-- The records of a call script (document 01, "Call script"): one byte of kind, then a fixed body. Assumes nothing.
use Rattle.std.specs.Prelude.{ℕ, ◌+◌, ◌*◌, cond, List, [], ◌∷◌, ◌==◌, nat_lt, length, take, drop, Result, Ok, Err}
use Rattle.script.specs.declared.record.Kind.{Kind}
use Rattle.script.specs.declared.record.Kind.TheVariants as kind
use Rattle.script.specs.declared.record.Call.TheVariants as call
use Rattle.script.specs.declared.record.Record.{Record}
use Rattle.script.specs.declared.record.Record.TheVariants as record'
use Rattle.script.specs.declared.refusal.Refusal.{Refusal}
use Rattle.script.specs.declared.refusal.Refusal.TheVariants as refusal

-- "0: one text byte. 1: open. 2 peek, 3 take, 5 zero skip. 4 read. 6 block."
unfoldable pub kind_of : ℕ → Result Kind Refusal
kind_of n =
    cond (n == 0) (Ok kind.Text)
    (cond (n == 1) (Ok kind.Open)
    (cond (n == 2) (Ok kind.Peek)
    (cond (n == 3) (Ok kind.Take)
    (cond (n == 4) (Ok kind.Read)
    (cond (n == 5) (Ok kind.ZeroSkip)
    (cond (n == 6) (Ok kind.Block) (Err refusal.Unknown)))))))

-- how many bytes follow the kind: one text byte; 16 bytes of a word; a reader byte; reader, value; reader, 4-byte count
abbrev pub body_length : Kind → ℕ
body_length kind.Text = 1
body_length kind.Open = 16
body_length kind.Peek = 1
body_length kind.Take = 1
body_length kind.Read = 2
body_length kind.ZeroSkip = 1
body_length kind.Block = 5

-- nothing follows what is no kind
abbrev pub size_behind : Result Kind Refusal → ℕ
size_behind (Ok k) = body_length k
size_behind (Err refused) = 0

abbrev pub longest_body : ℕ
longest_body = body_length kind.Open

-- "lowest first"
abbrev pub little_endian : List ℕ → ℕ
little_endian [] = 0
little_endian (b ∷ rest) = b + 256 * little_endian rest

-- the number in the bytes from a place on, as many as `size`; one byte is the number that it is
abbrev pub number_at : List ℕ → ℕ → ℕ → ℕ
number_at body place size = little_endian (take size (drop place body))

-- a record whose body is whole, from its kind and what follows it
abbrev pub whole_record : Kind → List ℕ → Record
whole_record kind.Text body = record'.Text (number_at body 0 1)
whole_record kind.Open body = record'.Open (number_at body 0 8) (number_at body 8 8)
whole_record kind.Peek body = record'.Call (number_at body 0 1) call.Peek
whole_record kind.Take body = record'.Call (number_at body 0 1) call.Take
whole_record kind.Read body = record'.Call (number_at body 0 1) (call.Read (number_at body 1 1))
whole_record kind.ZeroSkip body = record'.Call (number_at body 0 1) call.ZeroSkip
whole_record kind.Block body = record'.Call (number_at body 0 1) (call.Block (number_at body 1 4))

-- The record behind a kind, from all that follows of the input: the kind is tested first, then the length.
abbrev pub record_behind : Result Kind Refusal → List ℕ → Result Record Refusal
record_behind (Err refused) rest = Err refused
record_behind (Ok k) rest = cond (nat_lt (length rest) (body_length k)) (Err refusal.CutShort) (Ok (whole_record k rest))

unfoldable pub record_at : ℕ → List ℕ → Result Record Refusal
record_at n rest = record_behind (kind_of n) rest
