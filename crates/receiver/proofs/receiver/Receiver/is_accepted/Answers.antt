use Rattle.std.proofs.Common.{arith}
use Rattle.receiver.proofs.Fields.{heard_parts}
use Rattle.receiver.proofs.receiver.Receiver.is_accepted.Goals as goal

pub returns-then-contains : goal.returns-then-contains
returns-then-contains c =
    grind (arith, heard_parts c.args.self.now c.args.number c.min-first.result, c.contains.ensures.value, c.split_at.ensures.front, c.if-contains.true)

pub returns-else-contains : goal.returns-else-contains
returns-else-contains c =
    grind (arith, heard_parts c.args.self.now c.args.number c.min-first.result, c.contains.ensures.value, c.contains-else-contains.ensures.value, c.split_at.ensures.front, c.split_at.ensures.back, c.if-contains.false)
