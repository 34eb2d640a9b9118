use Rattle.std.proofs.Common.{◌≡◌}
use Rattle.checks.specs.Checks.{at}
use Rattle.code.specs.Solving.{away, slope}
use Rattle.field.specs.Rows.{numbers}
use Rattle.receiver.proofs.solve.weights.products_at.Given as goal

abbrev pub invariant-loop-node : goal.invariant-loop-node
invariant-loop-node g l =
    let O = numbers (g.F.Field.ops l.field) in
    (l.away ≡ away O (at l.nodes) l.node-index l.z) × (l.slope ≡ slope O (at l.nodes) l.node-index l.z)
