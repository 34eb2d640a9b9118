use Rattle.std.proofs.Common.{sym, arith}
use Rattle.code.proofs.Makes.{repeated_is}
use Rattle.code.proofs.plan.making.is_repeated.Goals as goal

pub returns : goal.returns
returns c = sym (repeated_is c.args.nodes.now c.args.i c.contains.result (omega arith) c.contains.ensures.cases)
