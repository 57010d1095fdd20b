-- DEMAND 1: every call answers a result, or one of document 01's numbers, told of its own fault, with nothing taken, nothing passed and
-- the state that it was given. For every meaning of words, buffer, state and call; nothing is assumed.
use Rattle.std.proofs.Common.{◌≡◌, ℕ, zero, suc, ◌<◌, Bool, true, false, not, eqb, leb, ◌⊎◌, List, [], ◌∷◌, length, Some, None, Option, refl, ap, ◌∙◌, inl, inr, arith, eqb-true, leb-false}
use Rattle.word.specs.declared.format_flags.Format.{Format}
use Rattle.word.specs.Check.{line, first_failing}
use Rattle.reader.specs.declared.rule.Flags.{Flags}
use Rattle.reader.specs.declared.state.Reader.{Reader}
use Rattle.reader.specs.declared.state.Reader.TheVariants.{Integer, Fraction, Exponent, Special}
use Rattle.reader.specs.declared.state.State.{State}
use Rattle.reader.specs.Reading.{Reading, has_any_flag, is_consecutive_alone}
use Rattle.reader.specs.State.{Sheet, sheet_of, count_sum, fresh_of, is_counted}
use Rattle.reader.specs.Answer.{Outcome}
use Rattle.reader.specs.Calls.{consecutive_number, line16, line17, line18, line_consecutive, place_refusal, refusal_with, refusal_of, refused, peeked, peek_of, take_byte, next_of, read_byte_if, read_if_of, refused_read, next_all_of, current_count_of}
use Rattle.reader.specs.Repeat.{until_none, repeated}
use Rattle.reader.specs.ZeroSkip.{skip_refusal, refused_skip}
use Rattle.reader.specs.Block.{block_refusal, refused_block, take_n_of, take_n_part}
use Rattle.reader.specs.Plain.{PlainOutcome, plain_peek_of, plain_take_byte, plain_next_of}
use Rattle.reader.specs.Column.{column_of}
use Rattle.reader.specs.History.{Call, peek_by, take_by, read_if_by, zero_skip_by, block_by, Answered, peek_answered, take_answered, read_answered, skip_answered, block_answered, answer_by, answer_to, number_in, taken_in, passed_in, returned, shown_in, seen_in, part_in}
use Rattle.reader.specs.RefusalKeeps.{PlaceFault, SpecialFault, OwnFault, Fault, ResultOrRefusal, CountRefusalKeeps, PlainRefusalKeeps, ColumnRefusalKeeps}
use Rattle.reader.proofs.state.Refusals.{turned_away}
use Rattle.reader.proofs.iterator.ConditionalReads.{read_cases}
use Rattle.reader.proofs.iterator.Zeros.{skip_cases}
use Rattle.reader.proofs.Repeats.{repeated-stops}
use Rattle.reader.proofs.ByteTally.Steps.{moves_clear, take_step}

or_else : {A B C : Type 0} → (B → C) → A ⊎ B → A ⊎ C
or_else f (inl a) = inl a
or_else f (inr b) = inr (f b)

-- NUMBERS: what holds of 0 and, under its fault, of each number that a list of tests may answer, holds of its answer

module _ (P : ℕ → Type 0) where
  place_lines : (s : List ℕ) (st : State) (rest : List ℕ) → (length s < st.cursor → P 16) → (st.cursor < count_sum st → P 17)
      → P (first_failing rest) → P (first_failing (line16 s st ∷ line17 st ∷ rest))
  place_lines s st rest past above then = go (leb st.cursor (length s)) (leb (count_sum st) st.cursor) refl refl where
    go : (a b : Bool) → leb st.cursor (length s) ≡ a → leb (count_sum st) st.cursor ≡ b → P (first_failing (line 16 a ∷ line 17 b ∷ rest))
    go false b e f = past (leb-false st.cursor (length s) e)
    go true false e f = above (leb-false (count_sum st) st.cursor f)
    go true true e f = then

  special_line : (r : Reader) (rest : List ℕ) → (is_counted r ≡ false → P 18) → P (first_failing rest) → P (first_failing (line18 r ∷ rest))
  special_line Integer rest special then = then
  special_line Fraction rest special then = then
  special_line Exponent rest special then = then
  special_line Special rest special then = special refl

  own_line : (f : Flags) (r : Reader) → P 0 → ((number : ℕ) → OwnFault f r number → P number) → P (first_failing (line_consecutive f r ∷ []))
  own_line f r success own = go r (is_consecutive_alone f) refl own where
    go :
        (r : Reader) (c : Bool) → is_consecutive_alone f ≡ c → ((number : ℕ) → OwnFault f r number → P number)
        → P (first_failing (line (consecutive_number r) (not c) ∷ []))
    go r false e own = success
    go Integer true e own = own 12 (refl, e)
    go Fraction true e own = own 13 (refl, e)
    go Exponent true e own = own 14 (refl, e)
    go Special true e own = success

-- so the answer of each list is 0, or a number told of its fault
abbrev Judged : (ℕ → Type 0) → ℕ → Type 0
Judged Faults number = (number ≡ 0) ⊎ Faults number

module _ (f : Flags) (s : List ℕ) (st : State) (r : Reader) where
  place_number : Judged (PlaceFault s st) (place_refusal s st)
  unfolding place_refusal
  place_number =
      place_lines (Judged (PlaceFault s st)) s st [] (λ past. inr (inl (refl, past))) (λ above. inr (inr (refl, above))) (inl refl)

  reader_number_lem : Judged (λ n. PlaceFault s st n ⊎ OwnFault f r n) (refusal_with f s st r)
  unfolding refusal_with
  reader_number_lem =
      let P : ℕ → Type 0 = Judged (λ n. PlaceFault s st n ⊎ OwnFault f r n) in
      place_lines P s st (line_consecutive f r ∷ []) (λ past. inr (inl (inl (refl, past)))) (λ above. inr (inl (inr (refl, above))))
      (own_line P f r (inl refl) (λ number own. inr (inr own)))

  skip_number_lem : Judged (λ n. PlaceFault s st n ⊎ (SpecialFault r n ⊎ OwnFault f r n)) (skip_refusal f s st r)
  unfolding skip_refusal
  skip_number_lem =
      let P : ℕ → Type 0 = Judged (λ n. PlaceFault s st n ⊎ (SpecialFault r n ⊎ OwnFault f r n)) in
      place_lines P s st (line18 r ∷ line_consecutive f r ∷ []) (λ past. inr (inl (inl (refl, past)))) (λ above. inr (inl (inr (refl, above))))
      (special_line P r (line_consecutive f r ∷ []) (λ special. inr (inr (inl (refl, special))))
      (own_line P f r (inl refl) (λ number own. inr (inr (inr own)))))

  block_number_lem : Judged (λ n. PlaceFault s st n ⊎ SpecialFault r n) (block_refusal s st r)
  unfolding block_refusal
  block_number_lem =
      let P : ℕ → Type 0 = Judged (λ n. PlaceFault s st n ⊎ SpecialFault r n) in
      place_lines P s st (line18 r ∷ []) (λ past. inr (inl (inl (refl, past)))) (λ above. inr (inl (inr (refl, above))))
      (special_line P r [] (λ special. inr (inr (refl, special))) (inl refl))

-- CALLS THAT BEGIN WITH A PEEK: a result, or the refusal
module _ (m : Reading) (s : List ℕ) (st : State) (r : Reader) where
  abbrev own : ℕ
  own = refusal_of m s st r

  abbrev Turned : Outcome → Type 0
  Turned o = (o.refusal ≡ 0) ⊎ (o ≡ refused own st)

  peek_turned : Turned (peek_of m s st r)
  unfolding peek_of peeked
  peek_turned = go (eqb own 0) refl where
    go : (t : Bool) → eqb own 0 ≡ t → Turned (peek_of m s st r)
    go true t = inl (rw t)
    go false t = inr (rw t)

  take_turned : Turned (next_of m s st r)
  unfolding next_of
  take_turned = go peek_turned where
    success : (b : Option ℕ) → (peek_of m s st r).refusal ≡ 0 → (take_byte m r (peek_of m s st r) b).refusal ≡ 0
    success None e = e
    success (Some b) e = refl

    go : Turned (peek_of m s st r) → Turned (take_byte m r (peek_of m s st r) (peek_of m s st r).byte)
    go (inl e) = inl (success (peek_of m s st r).byte e)
    go (inr away) = inr (ap (λ (o : Outcome). take_byte m r o o.byte) away)

  read_succeeds : (wanted : ℕ → Bool) → (peek_of m s st r).refusal ≡ 0 → (read_if_of m s st r wanted).refusal ≡ 0
  read_succeeds wanted e = read_cases m s st r wanted (λ o. o.refusal ≡ 0) (λ b h. refl) refl (λ h. e)

  -- what holds of a result and of the refusal holds of the answer
  either : (P : Outcome → Type 0) (o : Outcome) → Turned o → (o.refusal ≡ 0 → P o) → P (refused own st) → P o
  either P o (inl e) result refusal = result e
  either P o (inr away) result refusal = rw away refusal

-- THE FIVE CALLS
module _ (m : Reader → Reading) (s : List ℕ) (st : State) where
  -- an answer that takes, passes, moves and shows nothing, by a number that is 0 or told of its fault
  keeps : (call : Call) (a : Answered) → taken_in a ≡ 0 → passed_in a ≡ 0 → returned a ≡ st → shown_in a ≡ None → seen_in a ≡ None → part_in a ≡ []
      → Judged (Fault m s st call) (number_in a) → ResultOrRefusal m s st call a
  keeps call a taken passed state shown seen part =
      or_else (λ fault. record { number = fault; taken = taken; passed = passed; state = state; shown = shown; seen = seen; part = part })

  -- a read is what it makes of its peek's answer, which sees nothing where it is refused
  read_keeps : (r : Reader) (wanted : ℕ → Bool) → ResultOrRefusal m s st (read_if_by r wanted) (answer_by m s st (read_if_by r wanted))
  unfolding read_if_of
  read_keeps r wanted =
      either (m r) s st r
      (λ o. ResultOrRefusal m s st (read_if_by r wanted) (read_answered r (record { outcome = read_byte_if wanted o o.byte; seen = o.byte })))
      (peek_of (m r) s st r) (peek_turned (m r) s st r) (λ e. inl (read_succeeds (m r) s st r wanted e))
      (keeps (read_if_by r wanted) (read_answered r (refused_read (refusal_of (m r) s st r) st)) refl refl refl refl refl refl (reader_number_lem (m r).flags s st r))

  skip_keeps : (r : Reader) → ResultOrRefusal m s st (zero_skip_by r) (answer_by m s st (zero_skip_by r))
  skip_keeps r =
      skip_cases (m r) s st r (λ o reads. ResultOrRefusal m s st (zero_skip_by r) (skip_answered r o reads)) (λ clear. inl refl)
      (λ away. keeps (zero_skip_by r) (skip_answered r (refused_skip (skip_refusal (m r).flags s st r) st) []) refl refl refl refl refl refl (skip_number_lem (m r).flags s st r))

  block_keeps : (r : Reader) (n : ℕ) → ResultOrRefusal m s st (block_by r n) (answer_by m s st (block_by r n))
  unfolding take_n_of take_n_part
  block_keeps r n = go (eqb (block_refusal s st r) 0) (has_any_flag (m r).flags) refl refl where
    go :
        (t a : Bool) → eqb (block_refusal s st r) 0 ≡ t → has_any_flag (m r).flags ≡ a
        → ResultOrRefusal m s st (block_by r n) (answer_by m s st (block_by r n))
    go true true t a = inl (rw (t, a))
    go true false t a = inl (rw (t, a))
    go false a t e =
        rw t (keeps (block_by r n) (block_answered r (refused_block (block_refusal s st r) st) []) refl refl refl refl refl refl (block_number_lem (m r).flags s st r))

  pub result_or_refusal : (call : Call) → ResultOrRefusal m s st call (answer_by m s st call)
  result_or_refusal (peek_by r) =
      either (m r) s st r (λ o. ResultOrRefusal m s st (peek_by r) (peek_answered r o)) (peek_of (m r) s st r) (peek_turned (m r) s st r) inl
      (keeps (peek_by r) (peek_answered r (refused (refusal_of (m r) s st r) st)) refl refl refl refl refl refl (reader_number_lem (m r).flags s st r))
  result_or_refusal (take_by r) =
      either (m r) s st r (λ o. ResultOrRefusal m s st (take_by r) (take_answered r o)) (next_of (m r) s st r) (take_turned (m r) s st r) inl
      (keeps (take_by r) (take_answered r (refused (refusal_of (m r) s st r) st)) refl refl refl refl refl refl (reader_number_lem (m r).flags s st r))
  result_or_refusal (read_if_by r wanted) = read_keeps r wanted
  result_or_refusal (zero_skip_by r) = skip_keeps r
  result_or_refusal (block_by r n) = block_keeps r n

-- DEMAND 1
pub demand_1 : (m : Sheet → Reader → Reading) (s : List ℕ) (st : State) (call : Call)
    → ResultOrRefusal (m (sheet_of st)) s st call (answer_to m s st call)
demand_1 m s st call = result_or_refusal (m (sheet_of st)) s st call

-- THE OTHERS

-- A take to the end is refused as a take is: one whose first take is refused makes no other, and behind a take that is not refused none is.
module _ (m : Reader → Reading) (s : List ℕ) (r : Reader) where
  abbrev call : State → Outcome
  call = λ here. next_of (m r) s here r

  take_clear : (st : State) → refusal_of (m r) s st r ≡ 0 → (call st).refusal ≡ 0
  take_clear st clear = either (m r) s st r (λ o. o.refusal ≡ 0) (call st) (take_turned (m r) s st r) (λ e. e) clear

  all_clear : (n : ℕ) (st : State) → refusal_of (m r) s st r ≡ 0 → (repeated n call st).refusal ≡ 0
  unfolding until_none
  all_clear zero st clear = take_clear st clear
  all_clear (suc n) st clear =
      go (call st).byte refl (all_clear n (call st).state (moves_clear m s st _ (call st).state (take_step m s st r) (m r).flags r clear))
    where
      go : (b : Option ℕ) → (call st).byte ≡ b → (repeated n call (call st).state).refusal ≡ 0 → (repeated (suc n) call st).refusal ≡ 0
      go None e rest = rw e (take_clear st clear)
      go (Some b) e rest = rw e rest

  refuses : (st : State) → eqb (refusal_of (m r) s st r) 0 ≡ false → repeated (length s) call st ≡ refused (refusal_of (m r) s st r) st
  unfolding next_of
  refuses st t =
      let one : call st ≡ refused (refusal_of (m r) s st r) st = rw (turned_away (m r) s st r t) in
      repeated-stops call (length s) st (ap (λ (o : Outcome). o.byte) one) ∙ one

  pub next_all_refusal : (st : State) → ResultOrRefusal m s st (take_by r) (take_answered r (next_all_of (m r) s st r))
  unfolding next_all_of
  next_all_refusal st = go (eqb (refusal_of (m r) s st r) 0) refl where
    go : (t : Bool) → eqb (refusal_of (m r) s st r) 0 ≡ t → ResultOrRefusal m s st (take_by r) (take_answered r (next_all_of (m r) s st r))
    go true t = inl (all_clear (length s) st (eqb-true (refusal_of (m r) s st r) 0 t))
    go false t =
        rw (refuses st t)
        (keeps m s st (take_by r) (take_answered r (refused (refusal_of (m r) s st r) st)) refl refl refl refl refl refl (reader_number_lem (m r).flags s st r))

module _ (m : Reading) (s : List ℕ) (st : State) (r : Reader) where
  pub current_count_refusal : ((current_count_of m s st r).refusal ≡ 0) ⊎ CountRefusalKeeps s st (current_count_of m s st r)
  unfolding current_count_of
  current_count_refusal = go (eqb (place_refusal s st) 0) refl where
    go : (t : Bool) → eqb (place_refusal s st) 0 ≡ t → ((current_count_of m s st r).refusal ≡ 0) ⊎ CountRefusalKeeps s st (current_count_of m s st r)
    go true t = inl (rw t)
    go false t = rw t (or_else (λ fault. record { number = fault; count = refl }) (place_number m.flags s st r))

-- the plain reader
module _ (s : List ℕ) (at : ℕ) where
  abbrev past_end : PlainOutcome
  past_end = record { refusal = 16; byte = None; taken = 0; passed = 0; cursor = at }

  abbrev PlainTurned : PlainOutcome → Type 0
  PlainTurned o = (o.refusal ≡ 0) ⊎ ((length s < at) × (o ≡ past_end))

  plain_kept : (o : PlainOutcome) → PlainTurned o → (o.refusal ≡ 0) ⊎ PlainRefusalKeeps s at o
  plain_kept o (inl e) = inl e
  plain_kept o (inr away) =
      inr (rw away.1 (record { number = (refl, away.0); taken = refl; passed = refl; cursor = refl; byte = refl }))

  plain_peek_turned : PlainTurned (plain_peek_of s at)
  unfolding plain_peek_of
  plain_peek_turned = go (leb at (length s)) refl where
    go : (t : Bool) → leb at (length s) ≡ t → PlainTurned (plain_peek_of s at)
    go true t = inl (rw t)
    go false t = inr (leb-false at (length s) t, rw t)

  plain_next_turned : PlainTurned (plain_next_of s at)
  unfolding plain_next_of
  plain_next_turned = go plain_peek_turned where
    success : (b : Option ℕ) → (plain_peek_of s at).refusal ≡ 0 → (plain_take_byte (plain_peek_of s at) b).refusal ≡ 0
    success None e = e
    success (Some b) e = refl

    go : PlainTurned (plain_peek_of s at) → PlainTurned (plain_take_byte (plain_peek_of s at) (plain_peek_of s at).byte)
    go (inl e) = inl (success (plain_peek_of s at).byte e)
    go (inr away) = inr (away.0, ap (λ (o : PlainOutcome). plain_take_byte o o.byte) away.1)

  pub plain_peek_refusal : ((plain_peek_of s at).refusal ≡ 0) ⊎ PlainRefusalKeeps s at (plain_peek_of s at)
  plain_peek_refusal = plain_kept (plain_peek_of s at) plain_peek_turned

  pub plain_next_refusal : ((plain_next_of s at).refusal ≡ 0) ⊎ PlainRefusalKeeps s at (plain_next_of s at)
  plain_next_refusal = plain_kept (plain_next_of s at) plain_next_turned

-- a column: its cells begin fresh, so 16 and 17 hold
module _ (m : Reading) (f : Format) (r : Reader) (s ends : List ℕ) where
  column_number : Judged (OwnFault m.flags r) (refusal_with m.flags s (fresh_of f) r)
  unfolding refusal_with
  column_number =
      let P : ℕ → Type 0 = Judged (OwnFault m.flags r) in
      place_lines P s (fresh_of f) (line_consecutive m.flags r ∷ []) (λ past. absurd (omega (arith, past))) (λ above. absurd (omega (arith, above)))
      (own_line P m.flags r (inl refl) (λ number own. inr own))

  pub column_refusal : ((column_of m f r s ends).refusal ≡ 0) ⊎ ColumnRefusalKeeps m.flags r (column_of m f r s ends)
  unfolding column_of
  column_refusal = go (eqb (refusal_with m.flags s (fresh_of f) r) 0) refl where
    go :
        (t : Bool) → eqb (refusal_with m.flags s (fresh_of f) r) 0 ≡ t
        → ((column_of m f r s ends).refusal ≡ 0) ⊎ ColumnRefusalKeeps m.flags r (column_of m f r s ends)
    go true t = inl (rw t)
    go false t = rw t (or_else (λ fault. record { number = fault; totals = refl }) column_number)
