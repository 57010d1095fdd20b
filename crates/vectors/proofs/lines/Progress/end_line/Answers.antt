-- `vectors::lines::Progress::end_line` meets its contract. Assumes nothing.
use Rattle.std.proofs.Common.{◌≡◌, ap, rules}
use Rattle.std.specs.Option.{option_map}
use Rattle.vectors.specs.Lines.{settled, line_ended}
use Rattle.vectors.proofs.lines.Progress.end_line.Goals as goal

pub returns : goal.returns
unfolding line_ended
returns g c =
    let kind : c.map.result ≡ option_map (λ r. r.kind) c.parse_filled-parsed.result = search rules in
    rw (c.with-self.ensures, kind, c.tell-self.ensures, c.saturating_add-self.ensures, c.compare-verdict.ensures)
    (ap (settled c.args.self.now) c.parse_filled-parsed.ensures)
