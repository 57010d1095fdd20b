-- `reader::search::eight_steps` meets its contract: a chunk is a part of width eight (Parts). Assumes nothing.
use Rattle.std.proofs.Common.{◌≡◌, ◌/◌, ◌∙◌, length, replicate, arith, rules}
use Rattle.std.proofs.lemmas.Iterator.{IsFirst-from_position, YieldsList-from_slice}
use Rattle.reader.specs.Place.{separator_run}
use Rattle.reader.proofs.passing.Passed.{run_fits}
use Rattle.reader.proofs.search.Parts.{found_in, chunks_told, same_told, other_told}
use Rattle.reader.proofs.search.eight_steps.Goals as goal

pub returns : goal.returns
returns c =
    let s = c.args.s.now in
    let separator = c.get-byte.result in
    let all = replicate 8 separator in
    let chunks = c.as_chunks.ensures in
    let first = IsFirst-from_position _ _ _ (λ x. x ≡ all → ⊥) (λ x. x ≡ all) c.position-found.ensures.ran (YieldsList-from_slice _ c.iter.ensures.rest) (λ x q k. search (rules, other_told)) (λ x q k. search (rules, same_told)) in
    let told = chunks_told separator s 8 (length s / 8) _ _ chunks.front chunks.front_len first in
    let count : c.unwrap_or.result ≡ separator_run separator s / 8 =
    c.unwrap_or.ensures ∙ rw chunks.front_len (found_in separator s 8 (length s / 8) _ c.get-byte.ensures.nonzero (omega arith) (omega arith) (omega arith) told) in
    rw (← c.get-byte.ensures.value) (count, omega (arith, run_fits separator s))
