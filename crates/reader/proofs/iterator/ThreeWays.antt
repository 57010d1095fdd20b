-- "Let the read answer three ways: taken, declined with the byte seen, or end exactly where its peek answers end" (document 02, 2026-03):
-- what a read answers is made of its peek's own answer. A theorem, used by no function. Assumes nothing.
use Rattle.std.proofs.Common.{◌≡◌, ℕ, Bool, true, false, cond, List, Some, None, Ok, Err, Option, Result, sym, refl, ap, ◌∙◌}
use Rattle.reader.specs.declared.state.Reader.{Reader}
use Rattle.reader.specs.declared.state.Refusal.{Refusal}
use Rattle.reader.specs.declared.state.State.{State}
use Rattle.reader.specs.declared.answer.Answer.{Answer}
use Rattle.reader.specs.declared.answer.Read.{Read}
use Rattle.reader.specs.declared.answer.Read.TheVariants as read
use Rattle.reader.specs.Reading.{Reading}
use Rattle.reader.specs.Answer.{Outcome, ReadOutcome, refusal_in, found_in, outcome_of, read_outcome_of}
use Rattle.reader.specs.Calls.{peek_of, read_byte_if, read_if_of, read_of}
use Rattle.reader.proofs.Outcomes.{read_from, read_back}

-- taken where the byte seen is wanted, else declined; the end at the end, and refused where the peek is
abbrev pub way_of : (ℕ → Bool) → Result (Option ℕ) Refusal → Result Read Refusal
way_of wanted (Ok (Some b)) = Ok (cond (wanted b) (read.Taken b) (read.Declined b))
way_of wanted (Ok None) = Ok read.End
way_of wanted (Err e) = Err e

module _ (wanted : ℕ → Bool) where
  -- the case that a peek's outcome leads to
  abbrev case_by : Outcome → Result Read Refusal
  case_by o = read_from (read_byte_if wanted o o.byte).refusal (read_byte_if wanted o o.byte).byte o.byte

  abbrev seen_as : (taken passed : ℕ) → State → Result (Option ℕ) Refusal → Outcome
  seen_as taken passed st x = record { refusal = refusal_in x; byte = found_in x; taken = taken; passed = passed; state = st }

  by_seen : (taken passed : ℕ) (st : State) (x : Result (Option ℕ) Refusal) → case_by (seen_as taken passed st x) ≡ way_of wanted x
  by_seen taken passed st (Ok (Some b)) = go (wanted b) refl where
    go : (t : Bool) → wanted b ≡ t → case_by (seen_as taken passed st (Ok (Some b))) ≡ way_of wanted (Ok (Some b))
    go true e = rw e
    go false e = rw e
  by_seen taken passed st (Ok None) = refl
  by_seen taken passed st (Err e) = read_back (Err e)

  module _ (m : Reading) (s : List ℕ) (st : State) (r : Reader) where
    by_peek : (p : Answer (Result (Option ℕ) Refusal)) → outcome_of p ≡ peek_of m s st r
        → read_from (read_of m s st r wanted).outcome.refusal (read_of m s st r wanted).outcome.byte (read_of m s st r wanted).seen ≡ way_of wanted p.report.found
    unfolding read_if_of
    by_peek p peeks = sym (ap case_by peeks) ∙ by_seen p.report.taken p.report.passed p.state p.report.found

    -- Of the answers that the contracts of `read_if` and `peek` promise from one state: the read's is made of the peek's.
    pub read_by_peek : (a : Answer (Result Read Refusal)) (p : Answer (Result (Option ℕ) Refusal))
        → read_outcome_of a ≡ read_of m s st r wanted → outcome_of p ≡ peek_of m s st r → a.report.found ≡ way_of wanted p.report.found
    read_by_peek a p reads peeks =
        sym (read_back a.report.found)
        ∙ ap (λ (o : ReadOutcome). read_from o.outcome.refusal o.outcome.byte o.seen) reads
        ∙ by_peek p peeks
