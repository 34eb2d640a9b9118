use Rattle.std.proofs.Common.{length, arith}
use Rattle.std.proofs.lemmas.List.{length-set}
use Rattle.checks.specs.Checks.{at}
use Rattle.code.specs.Plans.{view}
use Rattle.code.specs.Solving.{weight}
use Rattle.code.proofs.Filled.{filled_more}
use Rattle.field.specs.Rows.{numbers}
use Rattle.receiver.proofs.Scales.{weight_is}
use Rattle.receiver.proofs.solve.weights.weights_of.Goals as goal

pub loop-t-preserved : goal.loop-t-preserved
loop-t-preserved g c =
    let o = g.F.Field.ops c.args.field.now in
    let p = view c.args.plan.now in
    let ns = c.args.numbers.now in
    let t = c.loop-t.t in
    let many = c.requires.numbered.many in (
      omega (arith, length-set c.loop-t.weights t c.product.result),
      filled_more (weight (numbers o) (at p.nodes) p.m (at ns)) c.loop-t.weights t c.product.result (omega arith) c.loop-t.invariant.1
          (weight_is o p ns c.nodes_of-nodes.result (omega arith) c.nodes_of-nodes.ensures.answers
          (length ns) t c.from.result many (omega (arith, many)) c.from.ensures c.product.ensures c.inverse.ensures
          c.products_at-products.ensures.slope c.scale_of-scale.ensures),
    )
