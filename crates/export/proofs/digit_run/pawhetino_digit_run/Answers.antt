-- `export::digit_run::pawhetino_digit_run` meets its contract: a grouped cell's digits go by numbers, any other run is left to the reader. Assumes nothing.
use Rattle.std.proofs.Common.{sym, ◌∙◌}
use Rattle.export.proofs.digit_run.RunWords.{run_written}
use Rattle.export.proofs.digit_run.pawhetino_digit_run.Goals as goal

pub returns-in-Some-grouped_run : goal.returns-in-Some-grouped_run
returns-in-Some-grouped_run c =
    let a = c.args in
    let fresh = c.in-Some.ensures in
    let run = rw (c.digit_separator.ensures, fresh.0) at c.in-Some-grouped_run.ensures in
    let ten = sym (rw fresh.0 at c.mantissa_radix_byte-lettered.ensures) ∙ c.if-lettered.false in
    let law = run_written a.reader a.state.now a.s.now fresh.1 _ _ _ _ ten run a.answer.now in
    let e = c.put_run.ensures in
    record {
      number = e.number ∙ law.number;
      moved = e.moved ∙ law.moved;
      written = e.written ∙ law.written;
    }
