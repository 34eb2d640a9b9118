use Rattle.std.proofs.Common.{add-one}
use Rattle.receiver.proofs.solve.weights.products_at.Goals as goal

pub loop-node-preserved : goal.loop-node-preserved
loop-node-preserved g c = rw add-one (cc, cc)
