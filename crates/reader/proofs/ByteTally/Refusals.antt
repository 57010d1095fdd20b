-- Which refusals a list of calls can meet: from a fresh cursor, by demand 1 and the byte tally, neither 16 nor 17, and so 18 only where
-- no reader's consecutive flag stands alone. Assumes nothing.
use Rattle.std.proofs.Common.{◌≡◌, ℕ, ◌≤◌, Bool, true, not, ◌⊎◌, List, [], ◌∷◌, length, sym, ◌∙◌, subst, inl, inr, ⊎_elim, arith}
use Rattle.word.specs.Check.{line}
use Rattle.reader.specs.declared.state.Reader.{Reader}
use Rattle.reader.specs.declared.state.Reader.TheVariants.{Integer, Fraction, Exponent, Special}
use Rattle.reader.specs.declared.state.State.{State}
use Rattle.reader.specs.Reading.{Reading, is_consecutive_alone}
use Rattle.reader.specs.State.{Sheet, count_sum, fresh_on}
use Rattle.reader.specs.Calls.{line_consecutive}
use Rattle.reader.specs.History.{Call, peek_by, take_by, read_if_by, zero_skip_by, block_by, Answered, answer_by, answer_to, number_in, Trace, trace_from, with_answer, trace_of}
use Rattle.reader.specs.ByteTally.{NeverRefusedBy, trace_fresh}
use Rattle.reader.specs.RefusalKeeps.{PlaceFault, OwnFault, Fault}
use Rattle.reader.proofs.Demand1.{result_or_refusal}
use Rattle.reader.proofs.ByteTally.AnyReading.{Kept, kept_fresh, kept_on, own_word}

alone_fails : (alone : Bool) (number : ℕ) → alone ≡ true → line number (not alone) ≡ number
alone_fails alone number e = rw e

-- of a state within the buffer, whose counts are within the cursor, where no reader's consecutive flag stands alone
module _ (m : Reader → Reading) (s : List ℕ) (st : State) (own : (r : Reader) → line_consecutive (m r).flags r ≡ 0)
    (cursor : st.cursor ≤ length s) (counts : count_sum st ≤ st.cursor)
  where
    no_place : (number : ℕ) → PlaceFault s st number → ⊥
    no_place number (inl past) = omega (arith, past.1)
    no_place number (inr above) = omega (arith, above.1)

    no_own : (r : Reader) (number : ℕ) → OwnFault (m r).flags r number → ⊥
    no_own Integer number fault = omega (arith, sym (alone_fails (is_consecutive_alone (m Integer).flags) 12 fault.1) ∙ own Integer)
    no_own Fraction number fault = omega (arith, sym (alone_fails (is_consecutive_alone (m Fraction).flags) 13 fault.1) ∙ own Fraction)
    no_own Exponent number fault = omega (arith, sym (alone_fails (is_consecutive_alone (m Exponent).flags) 14 fault.1) ∙ own Exponent)
    no_own Special number fault = absurd fault

    only_special : (call : Call) (number : ℕ) → Fault m s st call number → number ≡ 18
    only_special (peek_by r) number = ⊎_elim (λ place. absurd (no_place number place)) (λ fault. absurd (no_own r number fault))
    only_special (take_by r) number = ⊎_elim (λ place. absurd (no_place number place)) (λ fault. absurd (no_own r number fault))
    only_special (read_if_by r wanted) number = ⊎_elim (λ place. absurd (no_place number place)) (λ fault. absurd (no_own r number fault))
    only_special (zero_skip_by r) number =
        ⊎_elim (λ place. absurd (no_place number place)) (⊎_elim (λ special. special.0) (λ fault. absurd (no_own r number fault)))
    only_special (block_by r n) number = ⊎_elim (λ place. absurd (no_place number place)) (λ special. special.0)

    pub result_or_18 : (call : Call) → (number_in (answer_by m s st call) ≡ 0) ⊎ (number_in (answer_by m s st call) ≡ 18)
    result_or_18 call = ⊎_elim inl (λ keeps. inr (only_special call (number_in (answer_by m s st call)) keeps.number)) (result_or_refusal m s st call)

-- so, over a list, no call is refused by another number
module _ (m : Sheet → Reader → Reading) (s : List ℕ) (sheet : Sheet) (own : (r : Reader) → line_consecutive (m sheet r).flags r ≡ 0)
    (number : ℕ) (success : 0 ≡ number → ⊥) (special : 18 ≡ number → ⊥)
  where
    never_on : (calls : List Call) (w : Trace) → Kept m s sheet w → NeverRefusedBy number w.history → NeverRefusedBy number (trace_of m s w calls).history
    never_on [] w so_far never = never
    never_on (call ∷ rest) w so_far never =
        let here = so_far.tallied in
        let either : (number_in (answer_by (m sheet) s w.state call) ≡ 0) ⊎ (number_in (answer_by (m sheet) s w.state call) ≡ 18)
        = result_or_18 (m sheet) s w.state own here.inside here.sums call in
        let other : number_in (answer_to m s w.state call) ≡ number → ⊥ =
        subst (λ (a : Answered). number_in a ≡ number → ⊥) (sym (own_word m s sheet w so_far call))
        (λ e. ⊎_elim (λ z. success (sym z ∙ e)) (λ z. special (sym z ∙ e)) either) in
        never_on rest (with_answer w (answer_to m s w.state call)) (kept_on m s sheet w so_far call) (never, other)

    pub never_refused_by : (calls : List Call) → NeverRefusedBy number (trace_fresh m s sheet calls).history
    never_refused_by calls = never_on calls (trace_from (fresh_on sheet)) (kept_fresh m s sheet) tt
