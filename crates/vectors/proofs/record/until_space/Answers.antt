-- `vectors::record::until_space` meets its contract. Assumes nothing.
use Rattle.std.proofs.Common.{◌≡◌, ◌∙◌, ap, length}
use Rattle.std.specs.Option.{unwrap_or}
use Rattle.vectors.specs.Line.{until_space}
use Rattle.vectors.proofs.record.Fields.{to_space, within_line}
use Rattle.vectors.proofs.record.until_space.Goals as goal

pub returns : goal.returns
returns c =
    let line = c.args.line.now in
    let is : c.unwrap_or.result ≡ until_space line =
    c.unwrap_or.ensures ∙ ap (λ o. unwrap_or o (length line)) c.next_space.ensures ∙ to_space line in
    (is, rw is (within_line line))
