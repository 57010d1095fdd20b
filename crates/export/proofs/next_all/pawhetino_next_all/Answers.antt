-- `export::next_all::pawhetino_next_all` meets its contract: a grouped cell is taken by numbers, any other is left to the reader. Assumes nothing.
use Rattle.std.proofs.Common.{◌∙◌}
use Rattle.export.proofs.next_all.EndWords.{grouped_written}
use Rattle.export.proofs.next_all.pawhetino_next_all.Goals as goal

pub returns-in-Ok : goal.returns-in-Ok
returns-in-Ok c =
    let a = c.args in
    let fresh = c.in-Some.ensures in
    let cell = rw (c.digit_separator-separator.ensures, c.mantissa_radix_byte.ensures, fresh.0) at c.in-Ok.ensures.1 in
    let law = grouped_written a.reader a.state.now a.s.now fresh.1 _ _ cell a.answer.now in
    let e = c.put_end.ensures in
    record {
      number = e.number ∙ law.0;
      moved = e.moved ∙ law.1.0;
      written = e.written ∙ law.1.1;
    }
