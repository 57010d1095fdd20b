-- `reader::passing::past_taken` meets its contract: behind a separator stands what its rule looks at. Assumes nothing.
use Rattle.std.proofs.Common.{◌≡◌, ◌<◌, ap, ◌∙◌, sym, arith, rules}
use Rattle.reader.specs.declared.passing.Syntax.{Syntax}
use Rattle.reader.specs.Reading.{syntax_in}
use Rattle.reader.proofs.passing.RefusedRuns.{goes_on, not_zero}
use Rattle.reader.proofs.passing.past_taken.Goals as goal

pub returns-then-not-refused : goal.returns-then-not-refused
returns-then-not-refused c = (rw c.if-not-refused.true, omega arith, search rules)

pub returns-in_default : goal.returns-in_default
returns-in_default c = (rw (c.if-not-refused.false, c.in_default.ensures), omega arith, search rules)

pub behind-requires : goal.behind-requires
behind-requires c =
    (c.requires.0, c.requires.1 c.if-not-refused.false ∙ ap (λ (y : Syntax). y.separator) (sym c.in-Some.ensures))

pub returns : goal.returns
returns c =
    let a = c.args in
    let x = c.in-Some.separated in
    let same : syntax_in x ≡ a.syntax = c.in-Some.ensures in
    let told = ap (λ (y : Syntax). y.separator) same in
    let positive : 0 < a.syntax.separator = omega (arith, x.separator.ok, told) in
    let ends = rw (told, ap (λ (y : Syntax). y.flags) same) at c.behind.ensures in (
      rw (c.if-not-refused.false, not_zero a.syntax.separator positive) ends.1,
      goes_on a.syntax.separator a.syntax.flags.consecutive a.s.now a.at c.requires.0 positive (c.requires.1 c.if-not-refused.false) _ ends.1,
      ends.2,
    )
