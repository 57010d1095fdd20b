-- `reader::search::single_steps` meets its contract: a byte is a part of width one (Parts). Assumes nothing.
use Rattle.std.proofs.Common.{◌≡◌, ◌∙◌, length, div-one, arith, rules, tests}
use Rattle.std.proofs.lemmas.Iterator.{IsFirst-from_position, YieldsList-from_slice}
use Rattle.reader.specs.Place.{separator_run}
use Rattle.reader.proofs.passing.Passed.{run_fits}
use Rattle.reader.proofs.search.Parts.{found_in, bytes_told}
use Rattle.reader.proofs.search.single_steps.Goals as goal

pub returns : goal.returns
returns c =
    let s = c.args.s.now in
    let separator = c.get-byte.result in
    let first = IsFirst-from_position _ _ _ (λ x. x ≡ separator → ⊥) (λ x. x ≡ separator) c.position-found.ensures.ran (YieldsList-from_slice s c.iter.ensures.rest) (λ x q k. search (rules, tests)) (λ x q k. search (rules, tests)) in
    let count : c.unwrap_or.result ≡ separator_run separator s =
    c.unwrap_or.ensures ∙ found_in separator s 1 (length s) _ c.get-byte.ensures.nonzero (omega arith) (omega arith) (omega arith) (bytes_told separator s _ first) ∙ div-one _ in
    rw (← c.get-byte.ensures.value) (count, omega (arith, run_fits separator s))
