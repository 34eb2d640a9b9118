use Rattle.std.proofs.Common.{◌≡◌, ℕ, ◌<◌, length}
use Rattle.checks.specs.Checks.{at}
use Rattle.field.specs.Field.{inverse_of}
use Rattle.field.specs.Rows.{numbers, minus}
use Rattle.code.specs.Plans.{view}
use Rattle.code.proofs.plan.Plan.factors.Given as goal

abbrev pub invariant-loop-j : goal.invariant-loop-j
invariant-loop-j g l =
    let o = g.F.Field.ops l.field in
    let nodes = (view l.self).nodes in
    (length l.factors ≡ 64) × ((j : ℕ) → j < l.j → at l.factors j ≡ inverse_of o (minus (numbers o) (at nodes l.number) (at nodes j)))
