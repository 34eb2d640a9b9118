use Rattle.std.proofs.Common.{◌≡◌, min, length, take, drop, refl, ap, ◌∙◌, arith}
use Rattle.field.proofs.Combining.{combined_more, rest_more}
use Rattle.field.proofs.Field.combine.Goals as goal

pub loop-factor-preserved : goal.loop-factor-preserved
loop-factor-preserved g c =
    let len = length c.fill.new.self in
    let laws = g.met.Self.Field.lawful c.args.self.now in
    let j = c.loop-factor.factor-index in
    let rest = c.loop-factor.rest.now in
    let mid : c.min.result ≡ min len (length rest) = omega arith in
    let front = c.split_at.ensures.front ∙ ap (λ k. take k rest) mid in
    let back = c.split_at.ensures.back ∙ ap (λ k. drop k rest) mid in (
      rest_more laws c.args.factors.now c.args.rows.now len j rest _ c.loop-factor.invariant.0 front _ back,
      combined_more laws c.args.factors.now c.args.rows.now len j rest _ c.loop-factor.invariant.0 front _ c.loop-factor.out c.add_multiple.new.into (omega arith) refl c.add_multiple.ensures c.loop-factor.invariant.1,
    )
