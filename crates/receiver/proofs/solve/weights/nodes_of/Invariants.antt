use Rattle.std.proofs.Common.{◌≡◌, ℕ, ◌<◌, length}
use Rattle.checks.specs.Checks.{at}
use Rattle.code.specs.Plans.{view}
use Rattle.receiver.proofs.solve.weights.nodes_of.Given as goal

abbrev pub invariant-loop-t : goal.invariant-loop-t
invariant-loop-t l = (length l.nodes ≡ 64) × ((k : ℕ) → k < l.t → at l.nodes k ≡ at (view l.plan).nodes (at l.numbers k))
