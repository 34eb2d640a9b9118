use Rattle.std.proofs.Common.{ap, ◌∙◌, ◌<◌, length, arith}
use Rattle.std.proofs.lemmas.List.{length-set, get_or-take}
use Rattle.checks.specs.Checks.{at}
use Rattle.code.specs.Solving.{part}
use Rattle.code.proofs.Filled.{filled_more}
use Rattle.field.specs.Rows.{numbers}
use Rattle.receiver.specs.Solvers.{plan_in}
use Rattle.receiver.proofs.Scales.{part_is}
use Rattle.receiver.proofs.solve.Solver.parts.Goals as goal

pub loop-t-preserved : goal.loop-t-preserved
loop-t-preserved g c =
    let s = c.args.self.now in
    let o = g.F.Field.ops s.field.now in
    let p = plan_in s in
    let ns = s.numbers.now in
    let n = c.args.number in
    let t = c.loop-t.t in
    let many = s.given.numbered.many in
    let l : t < p.m = omega (arith, many) in (
      omega (arith, length-set c.loop-t.parts t c.product-in-loop-t.result),
      filled_more (part (numbers o) (at p.nodes) p.m (at ns) n) c.loop-t.parts t c.product-in-loop-t.result (omega arith) c.loop-t.invariant.1
          (part_is o p ns c.nodes_of-nodes.result (omega arith) c.nodes_of-nodes.ensures.answers (length ns) n t many l (ap (λ xs. at xs n) c.nodes.ensures)
          c.product-in-loop-t.ensures c.product-common.ensures c.inverse.ensures c.scale_of.ensures c.products_at-away.ensures.away
          c.product.ensures c.inverse-near.ensures c.difference.ensures (get_or-take (length ns) s.weights t 0 (omega arith) ∙ s.weighs t l)),
    )
