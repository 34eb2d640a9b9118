use Rattle.std.proofs.Common.{◌≡◌, ℕ, ◌<◌, length}
use Rattle.checks.specs.Checks.{at}
use Rattle.code.specs.Solving.{part}
use Rattle.field.specs.Rows.{numbers}
use Rattle.receiver.specs.Solvers.{plan_in}
use Rattle.receiver.proofs.solve.Solver.parts.Given as goal

abbrev pub invariant-loop-t : goal.invariant-loop-t
invariant-loop-t g l =
    let p = plan_in l.fn.self in
    (length l.parts ≡ 64)
    × ((k : ℕ) → k < l.t → at l.parts k ≡ part (numbers (g.F.Field.ops l.fn.self.field.now)) (at p.nodes) p.m (at l.fn.self.numbers.now) l.number k)
