-- How a move and a count change a state: what the loops, the column and the byte tally know of it. Assumes nothing.
use Rattle.std.proofs.Common.{◌≡◌, ℕ, ◌+◌, ◌≤◌, true, cond, sym, refl, add-zero, arith}
use Rattle.reader.specs.declared.state.Reader.{Reader}
use Rattle.reader.specs.declared.state.Reader.TheVariants.{Integer, Fraction, Exponent, Special}
use Rattle.reader.specs.declared.state.State.{State}
use Rattle.reader.specs.State.{is_counted, count_of, count_sum, moved_to, counted_by, sheet_of, fresh_of}
use Rattle.reader.specs.Code.TakeSums.{with_count}
use Rattle.reader.specs.Calls.{own_count}
use Rattle.reader.specs.History.{counts_for}
use Rattle.word.specs.declared.format_flags.Format.{Format}

-- the state at a place with a count
abbrev pub state_at : State → Reader → ℕ → ℕ → State
state_at st r at count = with_count (moved_to st at) r count

-- laws of the reader's own count
pub own_count_lem : (st : State) (r : Reader) → state_at st r st.cursor (count_of st r) ≡ st
unfolding with_count moved_to count_of
own_count_lem st Integer = refl
own_count_lem st Fraction = refl
own_count_lem st Exponent = refl
own_count_lem st Special = refl

pub moved_on : (st : State) (r : Reader) (at to count : ℕ) → moved_to (state_at st r at count) to ≡ state_at st r to count
unfolding with_count moved_to
moved_on st Integer at to count = refl
moved_on st Fraction at to count = refl
moved_on st Exponent at to count = refl
moved_on st Special at to count = refl

pub at_cursor : (st : State) (r : Reader) (at count : ℕ) → (state_at st r at count).cursor ≡ at
unfolding with_count moved_to
at_cursor st Integer at count = refl
at_cursor st Fraction at count = refl
at_cursor st Exponent at count = refl
at_cursor st Special at count = refl

-- past the byte at a place
pub past_byte : (st : State) (r : Reader) (place count : ℕ)
    → moved_to (state_at st r place count) ((state_at st r place count).cursor + 1) ≡ state_at st r (place + 1) count
past_byte st r place count = rw (moved_on, at_cursor st r place count)

-- one more is counted; a count of the special reader changes nothing
pub counts_one : (st : State) (r : Reader) (at count : ℕ) → counted_by (state_at st r at count) r ≡ state_at st r at (count + 1)
unfolding with_count counted_by
counts_one st Integer at count = refl
counts_one st Fraction at count = refl
counts_one st Exponent at count = refl
counts_one st Special at count = refl

pub raised : (st : State) (r : Reader) → with_count st r (count_of st r + 1) ≡ counted_by st r
unfolding count_of with_count counted_by
raised st Integer = refl
raised st Fraction = refl
raised st Exponent = refl
raised st Special = refl

-- a counted reader's state tells the count
pub counted_tells : (st : State) (r : Reader) (at count : ℕ) → is_counted r ≡ true → count_of (state_at st r at count) r ≡ count
unfolding with_count count_of
counted_tells st Integer at count e = refl
counted_tells st Fraction at count e = refl
counted_tells st Exponent at count e = refl
counted_tells st Special at count e = cc

pub sum_on : (st : State) (r : Reader) (at to count n : ℕ) → n ≤ count + 1 → count_sum (state_at st r to n) ≤ count_sum (state_at st r at count) + 1
unfolding with_count moved_to
sum_on st Integer at to count n h = omega arith
sum_on st Fraction at to count n h = omega arith
sum_on st Exponent at to count n h = omega arith
sum_on st Special at to count n h = omega arith

pub count_in_sum : (st : State) (r : Reader) → count_of st r ≤ count_sum st
unfolding count_of
count_in_sum st Integer = omega arith
count_in_sum st Fraction = omega arith
count_in_sum st Exponent = omega arith
count_in_sum st Special = omega arith

-- a count leaves the cursor where it is
pub counted_stays : (st : State) (r : Reader) → (counted_by st r).cursor ≡ st.cursor
unfolding counted_by
counted_stays st Integer = refl
counted_stays st Fraction = refl
counted_stays st Exponent = refl
counted_stays st Special = refl

-- a move leaves the counts
pub count_moved : (st : State) (place : ℕ) (r : Reader) → count_of (moved_to st place) r ≡ count_of st r
unfolding count_of moved_to
count_moved st place Integer = refl
count_moved st place Fraction = refl
count_moved st place Exponent = refl
count_moved st place Special = refl

pub counted_adds : (st : State) (r q : Reader) → count_of (counted_by st r) q ≡ count_of st q + cond (counts_for q r) 1 0
unfolding count_of counted_by
counted_adds st Integer Integer = refl
counted_adds st Integer Fraction = sym (add-zero st.fraction.0)
counted_adds st Integer Exponent = sym (add-zero st.exponent.0)
counted_adds st Integer Special = refl
counted_adds st Fraction Integer = sym (add-zero st.integer.0)
counted_adds st Fraction Fraction = refl
counted_adds st Fraction Exponent = sym (add-zero st.exponent.0)
counted_adds st Fraction Special = refl
counted_adds st Exponent Integer = sym (add-zero st.integer.0)
counted_adds st Exponent Fraction = sym (add-zero st.fraction.0)
counted_adds st Exponent Exponent = refl
counted_adds st Exponent Special = refl
counted_adds st Special Integer = sym (add-zero st.integer.0)
counted_adds st Special Fraction = sym (add-zero st.fraction.0)
counted_adds st Special Exponent = sym (add-zero st.exponent.0)
counted_adds st Special Special = refl

pub counted_sum : (st : State) (r : Reader) → count_sum (counted_by st r) ≤ count_sum st + 1
unfolding counted_by
counted_sum st Integer = omega arith
counted_sum st Fraction = omega arith
counted_sum st Exponent = omega arith
counted_sum st Special = omega arith

-- nor does it change what of the state says how it is read
pub counted_sheet : (st : State) (r : Reader) → sheet_of (counted_by st r) ≡ sheet_of st
unfolding counted_by
counted_sheet st Integer = refl
counted_sheet st Fraction = refl
counted_sheet st Exponent = refl
counted_sheet st Special = refl

-- nothing is counted in a fresh state
pub fresh_count : (f : Format) (r : Reader) → 0 ≡ count_of (fresh_of f) r
unfolding count_of
fresh_count f Integer = refl
fresh_count f Fraction = refl
fresh_count f Exponent = refl
fresh_count f Special = refl

-- the count of a reader to which one is given
pub given_count : (st : State) (r : Reader) (n : ℕ) → count_of (with_count st r n) r ≡ own_count r n
unfolding count_of with_count
given_count st Integer n = refl
given_count st Fraction n = refl
given_count st Exponent n = refl
given_count st Special n = refl

-- a reader's own count is at most the count that it is given
pub counted_at_most : (r : Reader) (n : ℕ) → own_count r n ≤ n
counted_at_most Integer n = omega arith
counted_at_most Fraction n = omega arith
counted_at_most Exponent n = omega arith
counted_at_most Special n = omega arith
