use Rattle.std.proofs.Common.{length, arith}
use Rattle.field.specs.Field.{power}
use Rattle.code.proofs.Filled.{filled_more, filled}
use Rattle.code.proofs.Makes.{power_more}
use Rattle.code.proofs.plan.standard.write_powers.Goals as goal

pub loop-place-preserved : goal.loop-place-preserved
loop-place-preserved g c =
    let o = g.F.Field.ops c.args.field.now in
    let i = c.loop-place.place-index in (
      power_more o c.args.step i c.loop-place.power c.product-power.result c.product-power.ensures c.loop-place.invariant.0,
      filled_more (power o c.args.step) c.loop-place.powers i c.loop-place.power (omega arith) c.loop-place.invariant.1 c.loop-place.invariant.0,
    )

pub returns : goal.returns
returns g c =
    filled (power (g.F.Field.ops c.args.field.now) c.args.step) c.loop-place.powers (length c.args.powers.now) (omega arith)
    (λ k h. c.loop-place.invariant.1 k (omega arith))
