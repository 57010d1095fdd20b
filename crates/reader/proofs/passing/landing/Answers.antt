-- `reader::passing::landing` meets its contract. Assumes nothing.
use Rattle.std.proofs.Common.{◌≡◌, ◌∙◌, sym, ap, arith, rules}
use Rattle.reader.specs.declared.passing.Syntax.{Syntax}
use Rattle.reader.specs.Reading.{syntax_in}
use Rattle.reader.proofs.passing.Places.{no_separator, no_separator_at_all}
use Rattle.reader.proofs.passing.Landings.{stays_at_end, stays_on_other, stays_behind, passes_behind}
use Rattle.reader.proofs.passing.landing.Goals as goal

pub returns-then-s-at : goal.returns-then-s-at
returns-then-s-at c = (stays_at_end _ _ _ _ c.if-s-at.true, search rules)

pub returns-then-b-syntax : goal.returns-then-b-syntax
returns-then-b-syntax c = (stays_on_other _ _ _ _ (omega arith) (no_separator _ _ c.if-b-syntax.true), search rules)

pub returns-in_default : goal.returns-in_default
returns-in_default c =
    (stays_on_other _ _ _ _ (omega arith) (no_separator_at_all _ _ c.in_default.ensures), search rules)

pub returns-then-not-may : goal.returns-then-not-may
returns-then-not-may c =
    let x = c.in-Some.separated in
    let same : syntax_in x ≡ c.args.syntax = c.in-Some.ensures in
    let byte = c.if-b-syntax.false ∙ ap (λ (y : Syntax). y.separator) (sym same) in (
      rw (← same) (stays_behind (syntax_in x) _ _ _ (omega arith) x.separator.ok byte _ c.passes-may.ensures c.if-not-may.true),
      search rules,
    )

pub behind-requires : goal.behind-requires
behind-requires c =
    (omega arith, c.if-b-syntax.false ∙ ap (λ (y : Syntax). y.separator) (sym c.in-Some.ensures))

pub returns : goal.returns
returns c =
    let x = c.in-Some.separated in
    let same : syntax_in x ≡ c.args.syntax = c.in-Some.ensures in
    let byte = c.if-b-syntax.false ∙ ap (λ (y : Syntax). y.separator) (sym same) in (
      rw (← same)
          (passes_behind (syntax_in x) _ _ _ (omega arith) x.separator.ok byte _ c.passes-may.ensures _ c.if-not-may.false c.behind.ensures.1),
      c.behind.ensures.2,
    )
