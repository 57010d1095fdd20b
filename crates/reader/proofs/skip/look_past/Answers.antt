-- `reader::skip::look_past` meets its contract: what stands at the landing is what a peek sees. Assumes nothing.
use Rattle.std.proofs.Common.{◌∙◌}
use Rattle.reader.specs.Calls.{peeked}
use Rattle.reader.proofs.passing.Places.{byte_got}
use Rattle.reader.proofs.skip.Looks.{looked, look_fits}
use Rattle.reader.proofs.skip.look_past.Goals as goal

pub returns : goal.returns
unfolding peeked
returns c =
    let a = c.args in
    let moves = rw c.count.ensures at c.landing-place.ensures.0 in
    let seen = c.copied-byte.ensures ∙ byte_got a.s.now c.landing-place.result c.get.result c.get.ensures.lookup in record {
      outcome = looked a.s.now a.state c.landing-place.result _ moves c.copied-byte.result seen;
      fits = look_fits a.s.now a.state c.landing-place.result _ moves c.copied-byte.result seen c.requires.1;
    }
