use Rattle.std.proofs.Common.{◌≡◌, ℕ, ◌<◌, List}
use Rattle.code.specs.Rows.{row, Explains}
use Rattle.receiver.specs.Shelves.{row_on}
use Rattle.receiver.specs.Solvers.{plan_in, packets_in}
use Rattle.receiver.proofs.solve.Solver.write_message.Given as goal

abbrev pub invariant-loop-n : goal.invariant-loop-n
invariant-loop-n g l =
    let o = g.F.Field.ops l.self.field.now in
    let p = plan_in l.self in
    (M : List ℕ) → Explains o p M (packets_in l.self) → (j : ℕ) → j < l.n → row_on l.out j p.L ≡ row o p M j
