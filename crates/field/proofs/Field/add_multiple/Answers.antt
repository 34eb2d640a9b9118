use Rattle.std.proofs.Common.{◌<◌, refl, ◌∙◌, arith, length-take}
use Rattle.std.proofs.lemmas.List.{get_or-take}
use Rattle.field.proofs.Written.{written_none, written_more}
use Rattle.field.proofs.Combining.{added_all}
use Rattle.field.proofs.Field.add_multiple.Goals as goal

pub loop-s-init : goal.loop-s-init
loop-s-init g c = written_none _ _

pub loop-s-preserved : goal.loop-s-preserved
loop-s-preserved g c =
    let long = length-take c.min-common.result c.args.row.now in
    let e = c.loop-s.invariant.1 c.loop-s.s (omega arith) in
    let within : c.loop-s.s < c.min-common.result = omega arith in
    let symbol = get_or-take c.min-common.result c.args.row.now c.loop-s.s 0 within in
    written_more _ _ c.loop-s.into c.loop-s.s c.sum.result c.loop-s.invariant (omega arith)
    (c.sum.ensures ∙ rw (c.product.ensures, symbol, e) refl)

pub returns : goal.returns
returns g c =
    let long = length-take c.min-common.result c.args.row.now in
    added_all (g.Self.Field.ops c.args.self.now) c.args.factor c.loop-s.s c.args.row.now c.args.into.now c.loop-s.into (omega arith) c.loop-s.invariant
