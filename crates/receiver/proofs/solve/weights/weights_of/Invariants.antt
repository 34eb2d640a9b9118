use Rattle.std.proofs.Common.{◌≡◌, ℕ, ◌<◌, length}
use Rattle.checks.specs.Checks.{at}
use Rattle.code.specs.Plans.{view}
use Rattle.code.specs.Solving.{weight}
use Rattle.field.specs.Rows.{numbers}
use Rattle.receiver.proofs.solve.weights.weights_of.Given as goal

abbrev pub invariant-loop-t : goal.invariant-loop-t
invariant-loop-t g l =
    let p = view l.fn.plan in
    (length l.weights ≡ 64) × ((k : ℕ) → k < l.t → at l.weights k ≡ weight (numbers (g.F.Field.ops l.field)) (at p.nodes) p.m (at l.numbers) k)
