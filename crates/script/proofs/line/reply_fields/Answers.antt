-- `script::line::reply_fields` meets its contract. Assumes nothing.
use mathlib.Core.Path.{refl}
use Rattle.script.proofs.line.Writes.{wrote_then, wrote_as}
use Rattle.script.proofs.line.reply_fields.Goals as goal

pub returns-in-Number : goal.returns-in-Number
returns-in-Number c = wrote_as (wrote_then c.field-end.ensures.wrote c.last_fields.ensures) (rw c.in-Number.is) refl

pub returns-in-Dash : goal.returns-in-Dash
returns-in-Dash c = wrote_as (wrote_then c.dash_field-end.ensures c.last_fields-in-Dash.ensures) (rw c.in-Dash.is) refl

pub returns-in-NoBlock : goal.returns-in-NoBlock
returns-in-NoBlock c = wrote_as c.none_field.ensures (rw c.in-NoBlock.is) refl

pub returns-in-Refused : goal.returns-in-Refused
returns-in-Refused c = wrote_as (wrote_then c.put-begun.ensures c.refusal_line.ensures) (rw c.in-Refused.is) refl
