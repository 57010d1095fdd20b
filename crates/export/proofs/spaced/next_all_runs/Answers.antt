-- `export::spaced::next_all_runs` meets its contract: a cell whose runs each stand before a digit is taken by numbers, any other is left
-- to the reader. Assumes nothing.
use Rattle.std.proofs.Common.{sym, ◌∙◌}
use Rattle.export.proofs.next_all.EndWords.{spaced_written}
use Rattle.export.proofs.spaced.next_all_runs.Goals as goal

pub returns-in-Some : goal.returns-in-Some
returns-in-Some c =
    let a = c.args in
    let cell = rw (c.digit_separator.ensures, c.mantissa_radix_byte.ensures, c.format_in-format.ensures) at c.in-Some.ensures.1 in
    let law = spaced_written a.reader a.state.now a.s.now c.requires _ _ cell
    (sym (rw c.format_in-format.ensures at c.has_consecutive-consecutive.ensures) ∙ c.if-not-consecutive.false) a.answer.now in
    let e = c.put_end.ensures in
    record {
      number = e.number ∙ law.0;
      moved = e.moved ∙ law.1.0;
      written = e.written ∙ law.1.1;
    }
