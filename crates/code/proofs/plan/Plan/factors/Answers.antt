use Rattle.std.proofs.Common.{◌<◌, ◌∙◌, refl, arith}
use Rattle.std.proofs.lemmas.List.{length-set, length-take-le, get_or-take}
use Rattle.checks.specs.Checks.{at}
use Rattle.field.specs.Field.{inverse_of}
use Rattle.field.specs.Rows.{numbers, minus}
use Rattle.code.specs.Plans.{view}
use Rattle.code.proofs.Filled.{filled_more}
use Rattle.code.proofs.Views.{factor_is}
use Rattle.code.proofs.plan.Plan.factors.Goals as goal

pub loop-j-preserved : goal.loop-j-preserved
loop-j-preserved g c =
    let o = g.F.Field.ops c.args.field.now in
    let p = c.args.self.now in
    let n = c.args.number in
    let j = c.loop-j.j in
    let within : j < (view p).m = rw (length-take-le (view p).m p.nodes (omega (arith, p.room, p.few_data))) at c.loop-j-test.true in
    let there = get_or-take (view p).m p.nodes j 0 within in (
      length-set c.loop-j.factors j c.inverse.result ∙ c.loop-j.invariant.0,
      filled_more (λ j. inverse_of o (minus (numbers o) (at (view p).nodes n) (at (view p).nodes j))) c.loop-j.factors j c.inverse.result (omega arith) c.loop-j.invariant.1
          (factor_is p o n j c.requires.within (omega arith) c.inverse.ensures (c.difference.ensures ∙ rw there refl)),
    )

pub returns : goal.returns
returns g c = record { room = c.loop-j.invariant.0; answers = λ j h. c.loop-j.invariant.1 j (omega arith) }
