-- `vectors::call::answer_to` meets its contract. Assumes nothing.
use Rattle.std.specs.Prelude.{Some}
use mathlib.Core.Path.{◌∙◌, ap}
use native.Mathlib.Omega.{arith}
use borrow.Author.Tests.{ne_eqb}
use Rattle.vectors.specs.Call.{answer_to, packed_outcome, packed_read, packed_skip, packed_block, packed_run}
use Rattle.vectors.proofs.call.PackedAnswers.{seen_packed, read_packed, zeros_packed, block_packed, run_packed}
use Rattle.vectors.proofs.call.answer_to.Goals as goal

pub returns-in-0 : goal.returns-in-0
unfolding answer_to
returns-in-0 c = rw c.in-0.is (ap Some (c.pack.ensures ∙ seen_packed c.peek.result ∙ ap packed_outcome c.peek.ensures))

pub returns-in-1 : goal.returns-in-1
unfolding answer_to
returns-in-1 c = rw c.in-1.is (ap Some (c.pack-in-1.ensures ∙ seen_packed c.next.result ∙ ap packed_outcome c.next.ensures))

pub returns-in-2 : goal.returns-in-2
unfolding answer_to
returns-in-2 c = rw c.in-2.is (ap Some (c.pack-in-2.ensures ∙ read_packed c.read_if_value_cased.result ∙ ap packed_read c.read_if_value_cased.ensures))

pub returns-in-3 : goal.returns-in-3
unfolding answer_to
returns-in-3 c = rw c.in-3.is (ap Some (c.pack-in-3.ensures ∙ seen_packed c.next_all.result ∙ ap packed_outcome c.next_all.ensures))

pub returns-in-4 : goal.returns-in-4
unfolding answer_to
returns-in-4 c = rw c.in-4.is (ap Some (c.pack-in-4.ensures ∙ zeros_packed c.skip_zeros.result ∙ ap packed_skip c.skip_zeros.ensures))

pub returns-in-5 : goal.returns-in-5
unfolding answer_to
returns-in-5 c =
    rw c.in-5.is (ap Some (c.pack-in-5.ensures ∙ block_packed c.take_n.result ∙ ap packed_block (rw c.from.ensures at c.take_n.ensures)))

pub returns-in-6 : goal.returns-in-6
unfolding answer_to
returns-in-6 c = rw c.in-6.is cc

pub returns-in-7 : goal.returns-in-7
unfolding answer_to
returns-in-7 c = rw c.in-7.is (ap Some (c.pack-in-7.ensures ∙ run_packed c.digit_run.result ∙ ap packed_run c.digit_run.ensures))

pub returns-in-8 : goal.returns-in-8
unfolding answer_to
returns-in-8 c = rw c.in-8.is cc

pub returns-in_default : goal.returns-in_default
unfolding answer_to
returns-in_default c =
    let kind = c.args.kind in
    rw (
      ne_eqb kind 0 (omega arith),
      ne_eqb kind 1 (omega arith),
      ne_eqb kind 2 (omega arith),
      ne_eqb kind 3 (omega arith),
      ne_eqb kind 4 (omega arith),
      ne_eqb kind 5 (omega arith),
      ne_eqb kind 6 (omega arith),
      ne_eqb kind 7 (omega arith),
      ne_eqb kind 8 (omega arith),
    )
