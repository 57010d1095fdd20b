-- What a call may count on that is not refused, and what it answers where it is: for every call. Assumes nothing.
use Rattle.std.specs.Result.{IsErrAnd}
use Rattle.std.proofs.Common.{◌≡◌, ℕ, ◌<◌, ◌≤◌, Bool, true, false, not, eqb, leb, List, [], ◌∷◌, ◌++◌, length, Ok, Err, Result, sym, refl, ap, ◌∙◌, arith, le-leb, leb-false, leb-true}
use borrow.Author.Tests.{lt-leb}
use Rattle.reader.specs.declared.rule.Flags.{Flags}
use Rattle.reader.specs.declared.state.Reader.{Reader}
use Rattle.reader.specs.declared.state.Reader.TheVariants.{Integer, Fraction, Exponent, Special}
use Rattle.reader.specs.declared.state.State.{State}
use Rattle.reader.specs.declared.state.Refusal.{Refusal}
use Rattle.reader.specs.declared.state.Refusal.TheVariants.{CursorPastEnd, CountsExceedCursor, SpecialReader, ConsecutiveInteger, ConsecutiveFraction, ConsecutiveExponent}
use Rattle.reader.specs.State.{is_counted, count_sum}
use Rattle.word.specs.Check.{line, first_failing}
use Rattle.word.proofs.Lines.{joined, line_last}
use Rattle.reader.specs.Reading.{Reading, is_consecutive_alone}
use Rattle.reader.specs.Answer.{number_of, count_outcome_of}
use Rattle.reader.specs.Calls.{line16, line17, line18, line_consecutive, consecutive_number, place_refusal, refusal_with, refusal_of, refused, peeked, peek_of, current_count_of}
use Rattle.reader.specs.ZeroSkip.{skip_refusal}
use Rattle.reader.specs.Block.{block_refusal}

-- two tests of order that hold together are the same test: for those that form no sum
pub leb_same : (a b x y : ℕ) → (a ≤ b → x ≤ y) → (b < a → y < x) → leb a b ≡ leb x y
leb_same a b x y holds fails = go (leb a b) refl where
  go : (t : Bool) → leb a b ≡ t → leb a b ≡ leb x y
  go true t = t ∙ sym (le-leb x y (holds (leb-true a b t)))
  go false t = t ∙ sym (lt-leb x y (fails (leb-false a b t)))

-- a refusal's number is not that of success
pub refusal_tells : (e : Refusal) → eqb (number_of e) 0 ≡ false
refusal_tells CursorPastEnd = refl
refusal_tells CountsExceedCursor = refl
refusal_tells SpecialReader = refl
refusal_tells ConsecutiveInteger = refl
refusal_tells ConsecutiveFraction = refl
refusal_tells ConsecutiveExponent = refl

-- what a `?` passes on is the refusal that it was given
pub passed_on : {A : Type 0} (r : Result A Refusal) (e : Refusal) → IsErrAnd r (λ y. y ≡ e) → r ≡ Err e
passed_on {A = A} (Ok _) e same = elim same [ ]
passed_on (Err y) e same = ap Err same

-- Of two lists of tests the second matters where the first has no refusal, and only there.
module _ (a b : List ℕ) where
  pub goes_past : first_failing a ≡ 0 → first_failing (a ++ b) ≡ first_failing b
  goes_past clear = joined a b ∙ rw clear

  pub stopped : (e : Refusal) → number_of e ≡ first_failing a → number_of e ≡ first_failing (a ++ b)
  stopped e number = number ∙ sym (joined a b ∙ rw (sym number, refusal_tells e))

-- where the tests 16 and 17 hold and whatever comes after them, the cursor is within the buffer and the counts within the cursor
module _ (s : List ℕ) (st : State) (rest : List ℕ) where
  Clear : Type 0
  Clear = first_failing (line16 s st ∷ line17 st ∷ rest) ≡ 0

  cursor_within : Clear → st.cursor ≤ length s
  unfolding Clear
  cursor_within clear = go (leb st.cursor (length s)) refl clear where
    go : (t : Bool) → leb st.cursor (length s) ≡ t → Clear → st.cursor ≤ length s
    go true t h = leb-true st.cursor (length s) t
    go false t h = absurd (let z : 16 ≡ 0 = rw t at h in omega arith)

  counts_within : Clear → count_sum st ≤ st.cursor
  unfolding Clear
  counts_within clear = go (leb st.cursor (length s)) (leb (count_sum st) st.cursor) refl refl clear where
    go : (t u : Bool) → leb st.cursor (length s) ≡ t → leb (count_sum st) st.cursor ≡ u → Clear → count_sum st ≤ st.cursor
    go t true p q h = leb-true (count_sum st) st.cursor q
    go false false p q h = absurd (let z : 16 ≡ 0 = rw p at h in omega arith)
    go true false p q h = absurd (let z : 17 ≡ 0 = rw (p, q) at h in omega arith)

  -- so that what comes after them decides
  rest_clear : Clear → first_failing rest ≡ 0
  unfolding Clear
  rest_clear clear =
      rw (le-leb st.cursor (length s) (cursor_within clear), le-leb (count_sum st) st.cursor (counts_within clear)) at clear

  clear_with : st.cursor ≤ length s → count_sum st ≤ st.cursor → first_failing rest ≡ 0 → Clear
  unfolding Clear
  clear_with cursor counts h = rw (le-leb st.cursor (length s) cursor, le-leb (count_sum st) st.cursor counts) h

-- A call's own tests come after 16 and 17, and a zero skip's own after 18.
abbrev pub place_lines : List ℕ → State → List ℕ
place_lines s st = line16 s st ∷ line17 st ∷ []

module _ (s : List ℕ) (st : State) (r : Reader) where
  pub then_reader : place_refusal s st ≡ 0 → (number : ℕ) → number ≡ line18 r → number ≡ block_refusal s st r
  unfolding place_refusal block_refusal
  then_reader clear number own = own ∙ sym (goes_past (place_lines s st) (line18 r ∷ []) clear ∙ line_last 18 (is_counted r))

  pub no_place_for_block : (e : Refusal) → number_of e ≡ place_refusal s st → number_of e ≡ block_refusal s st r
  unfolding place_refusal block_refusal
  no_place_for_block e number = stopped (place_lines s st) (line18 r ∷ []) e number

module _ (f : Flags) (s : List ℕ) (st : State) (r : Reader) where
  module _ (clear : place_refusal s st ≡ 0) where
    pub then_flags : (number : ℕ) → number ≡ line_consecutive f r → number ≡ refusal_with f s st r
    unfolding place_refusal refusal_with
    then_flags number own = own ∙ sym (goes_past (place_lines s st) (line_consecutive f r ∷ []) clear ∙ line_last (consecutive_number r) (not (is_consecutive_alone f)))

    pub not_counted : (e : Refusal) → number_of e ≡ line18 r → number_of e ≡ skip_refusal f s st r
    unfolding place_refusal skip_refusal
    not_counted e own =
        stopped (line18 r ∷ []) (line_consecutive f r ∷ []) e (own ∙ sym (line_last 18 (is_counted r)))
        ∙ sym (goes_past (place_lines s st) (line18 r ∷ line_consecutive f r ∷ []) clear)

    pub then_both : line18 r ≡ 0 → (number : ℕ) → number ≡ line_consecutive f r → number ≡ skip_refusal f s st r
    unfolding place_refusal skip_refusal
    then_both counted number own =
        own
        ∙ sym (goes_past (place_lines s st) (line18 r ∷ line_consecutive f r ∷ []) clear
        ∙ goes_past (line18 r ∷ []) (line_consecutive f r ∷ []) (line_last 18 (is_counted r) ∙ counted)
        ∙ line_last (consecutive_number r) (not (is_consecutive_alone f)))

  -- what is refused by its place is so by every call
  module _ (e : Refusal) (number : number_of e ≡ place_refusal s st) where
    pub no_place : number_of e ≡ refusal_with f s st r
    unfolding place_refusal refusal_with
    no_place = stopped (place_lines s st) (line_consecutive f r ∷ []) e number

    pub no_place_for_skip : number_of e ≡ skip_refusal f s st r
    unfolding place_refusal skip_refusal
    no_place_for_skip = stopped (place_lines s st) (line18 r ∷ line_consecutive f r ∷ []) e number

-- and they hold of another state that is so within
still_clear : (s : List ℕ) (st here : State) (rest : List ℕ) → Clear s st rest → here.cursor ≤ length s → count_sum here ≤ here.cursor → Clear s here rest
still_clear s st here rest clear cursor counts = clear_with s here rest cursor counts (rest_clear s st rest clear)

pub place_within : (s : List ℕ) (st : State) → place_refusal s st ≡ 0 → (st.cursor ≤ length s) × (count_sum st ≤ st.cursor)
unfolding place_refusal Clear
place_within s st clear = (cursor_within s st [] clear, counts_within s st [] clear)

pub within : (f : Flags) (s : List ℕ) (st : State) (r : Reader) → refusal_with f s st r ≡ 0 → (st.cursor ≤ length s) × (count_sum st ≤ st.cursor)
unfolding refusal_with Clear
within f s st r clear =
    let rest = line (consecutive_number r) (not (is_consecutive_alone f)) ∷ [] in
    (cursor_within s st rest clear, counts_within s st rest clear)

pub block_within : (s : List ℕ) (st : State) (r : Reader) → block_refusal s st r ≡ 0 → st.cursor ≤ length s
unfolding block_refusal Clear
block_within s st r clear = cursor_within s st (line18 r ∷ []) clear

pub skip_within : (f : Flags) (s : List ℕ) (st : State) (r : Reader) → skip_refusal f s st r ≡ 0 → (st.cursor ≤ length s) × (count_sum st ≤ st.cursor)
unfolding skip_refusal Clear
skip_within f s st r clear =
    let rest = line18 r ∷ line_consecutive f r ∷ [] in
    (cursor_within s st rest clear, counts_within s st rest clear)

-- A zero skip that is not refused is by a counted reader, whose other calls are not refused either.
counted_only : (f : Flags) (r : Reader) → first_failing (line18 r ∷ line_consecutive f r ∷ []) ≡ 0
    → (is_counted r ≡ true) × (first_failing (line_consecutive f r ∷ []) ≡ 0)
counted_only f Integer h = (refl, h)
counted_only f Fraction h = (refl, h)
counted_only f Exponent h = (refl, h)
counted_only f Special h = absurd (omega arith)

pub skip_admits : (f : Flags) (s : List ℕ) (st : State) (r : Reader) → skip_refusal f s st r ≡ 0 → (is_counted r ≡ true) × (refusal_with f s st r ≡ 0)
unfolding skip_refusal refusal_with Clear
skip_admits f s st r clear =
    let within = skip_within f s st r clear in
    let rest = counted_only f r (rest_clear s st (line18 r ∷ line_consecutive f r ∷ []) clear) in
    (rest.0, clear_with s st (line_consecutive f r ∷ []) within.0 within.1 rest.1)

-- a state that is not refused stays so while its cursor is within the buffer and its counts within the cursor
module _ (f : Flags) (s : List ℕ) (st here : State) (r : Reader) (cursor : here.cursor ≤ length s) (counts : count_sum here ≤ here.cursor) where
  pub still_admitted : refusal_with f s st r ≡ 0 → refusal_with f s here r ≡ 0
  unfolding refusal_with Clear
  still_admitted clear = still_clear s st here (line_consecutive f r ∷ []) clear cursor counts

  pub still_skipping : skip_refusal f s st r ≡ 0 → skip_refusal f s here r ≡ 0
  unfolding skip_refusal Clear
  still_skipping clear = still_clear s st here (line18 r ∷ line_consecutive f r ∷ []) clear cursor counts

module _ (m : Reading) (s : List ℕ) (st : State) (r : Reader) where
  pub count_refused : (e : Refusal) → number_of e ≡ place_refusal s st → count_outcome_of (Err e) ≡ current_count_of m s st r
  unfolding current_count_of
  count_refused e number = rw (sym number, refusal_tells e)

  pub peek_admitted : refusal_with m.flags s st r ≡ 0 → peek_of m s st r ≡ peeked m s st r
  unfolding peek_of
  peek_admitted clear = rw clear

  pub peek_refused : (e : Refusal) → number_of e ≡ refusal_with m.flags s st r → peek_of m s st r ≡ refused (number_of e) st
  unfolding peek_of
  peek_refused e number = rw (sym number, refusal_tells e)

  pub turned_away : eqb (refusal_of m s st r) 0 ≡ false → peek_of m s st r ≡ refused (refusal_of m s st r) st
  unfolding peek_of
  turned_away t = rw t
