-- `reader::passing::later_landing` meets its contract: the rule is asked of the byte behind, where a cursor lands that passes.
-- Assumes nothing.
use Rattle.std.proofs.Common.{◌≡◌, ◌<◌, false, refl, ap, arith, rules}
use Rattle.reader.specs.declared.passing.Syntax.{Syntax}
use Rattle.reader.specs.Reading.{reading_with, syntax_in, previous, following}
use Rattle.reader.specs.Rule.{rule_of}
use Rattle.reader.proofs.rule.CommonLaws.{never_holds}
use Rattle.reader.proofs.passing.Places.{no_separator_at_all}
use Rattle.reader.proofs.passing.Landings.{asked_behind, stays_on_other, stays_behind, passes_behind}
use Rattle.reader.proofs.passing.later_landing.Goals as goal

pub returns-in_default : goal.returns-in_default
returns-in_default c =
    (stays_on_other _ _ _ _ c.requires.1 (no_separator_at_all _ _ c.in_default.ensures), search rules)

pub returns-then-never : goal.returns-then-never
returns-then-never c =
    let a = c.args in
    let x = c.in-Some.separated in
    let same : syntax_in x ≡ a.syntax = c.in-Some.ensures in
    let positive : 0 < a.syntax.separator = omega (arith, x.separator.ok, ap (λ (y : Syntax). y.separator) same) in
    let m = reading_with a.syntax in
    let p = previous m a.s.now a.at in
    let n = following m a.s.now a.at in
    let never = never_holds a.syntax.flags a.later c.requires.0 c.if-never.true p n in
    (stays_behind a.syntax a.s.now false a.at c.requires.1 positive c.requires.2 (rule_of a.syntax.flags false p n) refl never, search rules)

pub behind-place-requires : goal.behind-place-requires
behind-place-requires c =
    (c.requires.1, omega (arith, c.requires.2, ap (λ (y : Syntax). y.separator) c.in-Some.ensures))

pub returns-then-passes_before : goal.returns-then-passes_before
returns-then-passes_before c =
    let a = c.args in
    let x = c.in-Some.separated in
    let same : syntax_in x ≡ a.syntax = c.in-Some.ensures in
    let positive : 0 < a.syntax.separator = omega (arith, x.separator.ok, ap (λ (y : Syntax). y.separator) same) in
    let stands = rw (ap (λ (y : Syntax). y.separator) same, ap (λ (y : Syntax). y.flags) same) at c.behind-place.ensures in
    let asked = asked_behind a.syntax a.s.now a.at a.later.0 c.behind-place.result _ _ c.requires.0.holds c.neighbour_at-next.ensures stands.0 c.passes_before.ensures in (
      passes_behind a.syntax a.s.now false a.at c.requires.1 positive c.requires.2 _ asked _ c.if-passes_before.true stands.1,
      c.behind-place.ensures.2,
    )

pub returns : goal.returns
returns c =
    let a = c.args in
    let x = c.in-Some.separated in
    let same : syntax_in x ≡ a.syntax = c.in-Some.ensures in
    let positive : 0 < a.syntax.separator = omega (arith, x.separator.ok, ap (λ (y : Syntax). y.separator) same) in
    let stands = rw (ap (λ (y : Syntax). y.separator) same, ap (λ (y : Syntax). y.flags) same) at c.behind-place.ensures in
    let asked = asked_behind a.syntax a.s.now a.at a.later.0 c.behind-place.result _ _ c.requires.0.holds c.neighbour_at-next.ensures stands.0 c.passes_before.ensures in
    (stays_behind a.syntax a.s.now false a.at c.requires.1 positive c.requires.2 _ asked c.if-passes_before.false, search rules)
