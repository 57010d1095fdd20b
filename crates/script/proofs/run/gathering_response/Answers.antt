-- `script::run::gathering_response` meets its contract. Assumes nothing.
use Rattle.script.proofs.run.gathering_response.Goals as goal

pub returns-in-Text : goal.returns-in-Text
returns-in-Text c = rw c.in-Text.is (c.add_text.ensures c.args.out.now)
