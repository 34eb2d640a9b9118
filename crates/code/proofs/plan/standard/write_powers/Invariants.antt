use Rattle.std.proofs.Common.{◌≡◌, ℕ, ◌<◌}
use Rattle.checks.specs.Checks.{at}
use Rattle.field.specs.Field.{power}
use Rattle.code.proofs.plan.standard.write_powers.Given as goal

abbrev pub invariant-loop-place : goal.invariant-loop-place
invariant-loop-place g l =
    let o = g.F.Field.ops l.field in
    (l.power ≡ power o l.step l.place-index) × ((i : ℕ) → i < l.place-index → at l.powers i ≡ power o l.step i)
