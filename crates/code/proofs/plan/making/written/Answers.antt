use Rattle.std.proofs.Common.{rules}
use Rattle.std.proofs.lemmas.Slice.{overwrites}
use Rattle.code.proofs.plan.making.written.Goals as goal

pub returns : goal.returns
returns c = record { room = search (rules, overwrites); answers = search (rules, overwrites) }
