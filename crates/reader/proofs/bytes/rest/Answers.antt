-- `reader::bytes::rest` meets its contract: the part to the end is all that is left there. Assumes nothing.
use Rattle.std.proofs.Common.{◌≡◌, ℕ, ◌+◌, ◌≤◌, min, List, length, drop, sym, refl, ap, ◌∙◌, arith, drop_of_length-le}
use borrow.Author.Rules.{part_to_end}
use Rattle.reader.proofs.bytes.rest.Goals as goal

past : (s : List ℕ) (i : ℕ) → length s ≤ i → drop (length s) s ≡ drop i s
past s i le = drop_of_length-le s {i = length s} (omega arith) ∙ sym (drop_of_length-le s {i = i} le)

pub returns-then-end-cursor : goal.returns-then-end-cursor
returns-then-end-cursor c =
    let a = c.args in
    let at_end : length a.s.now ≡ min a.state.cursor (length a.s.now) = omega (arith, c.if-end-cursor.true) in
    record {
      block = refl;
      offset = ap (λ (k : ℕ). k + a.s.ref_ptr.1) at_end;
      bytes = part_to_end a.s.now (length a.s.now) ∙ past a.s.now a.state.cursor (omega (arith, c.if-end-cursor.true));
    }

pub returns : goal.returns
returns c =
    let a = c.args in
    let at_cursor : a.state.cursor ≡ min a.state.cursor (length a.s.now) = omega (arith, c.if-end-cursor.false) in
    record { block = refl; offset = ap (λ (k : ℕ). k + a.s.ref_ptr.1) at_cursor; bytes = part_to_end a.s.now a.state.cursor }
