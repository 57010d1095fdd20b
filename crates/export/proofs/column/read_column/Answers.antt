-- `export::column::read_column` meets its contract: what `map_err` makes of an error is its number. Assumes nothing.
use Rattle.std.specs.Prelude.{ℕ, Result, Ok, Err, MatchResult, IsErrAnd}
use Rattle.std.proofs.Common.{◌≡◌, ◌∙◌, refl, sym, arith, rules}
use Rattle.reader.specs.declared.column.Totals.{Totals}
use Rattle.reader.specs.declared.state.Reader.{Reader}
use Rattle.reader.specs.declared.state.Refusal.{Refusal}
use Rattle.reader.specs.declared.state.UnknownReader.{UnknownReader}
use Rattle.reader.specs.Answer.{number_of}
use Rattle.reader.specs.State.{reader_named}
use Rattle.reader.specs.Column.{column_outcome_of}
use Rattle.reader.proofs.state.Readers.{named, unnamed}
use Rattle.export.specs.Column.{column_read_by, column_written, held_of}
use Rattle.export.proofs.column.read_column.Goals as goal

-- what is held of a column's answer
held : (column : Result Totals Refusal) (told : Result Totals ℕ) (Says : Refusal → ℕ → Type 0)
    → MatchResult column (λ t. told ≡ Ok t) (λ e. IsErrAnd told (Says e)) → ((e : Refusal) (n : ℕ) → Says e n → n ≡ number_of e)
    → held_of told ≡ column_written (column_outcome_of column)
held (Ok t) told Says is says = rw is refl
held (Err e) (Ok t) Says is says = elim is [ ]
held (Err e) (Err n) Says is says = rw (says e n is) refl

-- who was named, and what is told where nobody was
by_name : (r : Result Reader UnknownReader) (told : Result Reader ℕ) (Says : UnknownReader → ℕ → Type 0)
    → MatchResult r (λ x. told ≡ Ok x) (λ e. IsErrAnd told (Says e)) → (x : Reader) → told ≡ Ok x → r ≡ Ok x
by_name (Ok y) told Says is x same = let z : ◌≡◌ {A = Result Reader ℕ} (Ok y) (Ok x) = sym is ∙ same in grind (arith, z)
by_name (Err e) (Ok y) Says is x same = elim is [ ]
by_name (Err e) (Err n) Says is x same = grind (arith, same)

by_none : (r : Result Reader UnknownReader) (told : Result Reader ℕ) (Says : UnknownReader → ℕ → Type 0)
    → MatchResult r (λ x. told ≡ Ok x) (λ e. IsErrAnd told (Says e)) → (n : ℕ) → told ≡ Err n
    → (e : UnknownReader) × (r ≡ Err e) × Says e n
by_none (Ok y) told Says is n same = absurd (let z : ◌≡◌ {A = Result Reader ℕ} (Ok y) (Err n) = sym is ∙ same in grind (arith, z))
by_none (Err e) (Ok y) Says is n same = elim is [ ]
by_none (Err e) (Err m) Says is n same = let z : m ≡ n = grind (arith, same) in (e, refl, rw z at is)

pub returns : goal.returns
unfolding column_read_by
returns c =
    let who = named (reader_named c.args.reader) _ c.in_ok-by.by (sym (by_name c.try_from.result c.map_err.result _ c.map_err.ensures.cases c.in_ok-by.by c.in_ok-by.was) ∙ c.try_from.ensures) in
    rw (who, ← c.next_all_column.ensures) (held c.next_all_column.result c.map_err-2.result _ c.map_err-2.ensures.cases (λ e n says. search rules))

pub returns-in_err-by : goal.returns-in_err-by
unfolding column_read_by
returns-in_err-by c =
    let none = by_none c.try_from.result c.map_err.result _ c.map_err.ensures.cases c.in_err-by.field-0.0 c.in_err-by.was in
    let who = unnamed (reader_named c.args.reader) _ none.0 (sym none.1 ∙ c.try_from.ensures) in
    let number : c.in_err-by.field-0.0 ≡ 19 = let says = none.2 in search rules in
    let gone : c.from_residual.result ≡ Err c.in_err-by.field-0.0 = search rules in
    rw (gone, who, number) refl
