use Rattle.std.proofs.Common.{◌≡◌, take, drop, Err, ap, ◌∙◌, subst, sym, arith}
use Rattle.std.proofs.lemmas.Result.{err_from_is_err_and}
use Rattle.code.proofs.Makes.{ranges}
use Rattle.cutting.specs.Cutting.{Planned, cutter_checks, cutter_plan}
use Rattle.cutting.proofs.Counting.{part_counted, planned_ok, planned_err}
use Rattle.cutting.proofs.plans.counted_plan.Goals as goal

pub returns-in_err-make : goal.returns-in_err-make
returns-in_err-make g c =
    let q = (g.F.Field.ops c.args.field.now).size in
    let m = c.args.counts.data_count in
    let r = c.args.counts.check_count in
    let h = ranges m r c.args.counts.row_len c.in_ok-check.ensures in
    let nodes = c.count_up-nodes.ensures in
    let front = c.split_at.ensures.front ∙ ap (λ xs. take m xs) nodes ∙ part_counted 0 m 128 m (omega arith) (omega arith) in
    let back = c.split_at-2.ensures.front ∙ ap (λ xs. take r xs) (c.split_at.ensures.back ∙ ap (λ xs. drop m xs) nodes) ∙ part_counted m r 128 r (omega arith) (omega arith) in
    let e = err_from_is_err_and c.from_residual-in_err-make.result c.from_residual-in_err-make.ensures.1 in
    let result : c.from_residual-in_err-make.result ≡ Err c.in_err-make.field-0.0 = e.1 ∙ ap Err e.2 in
    subst (Planned (cutter_checks q m r c.args.counts.row_len) (cutter_plan q m r c.args.counts.row_len)) (sym result)
    (planned_err q m r c.args.counts.row_len _ _ front back _ c.make.new.self c.in_err-make.field-0.0 c.make.result c.in_err-make.was c.make.ensures)

pub returns : goal.returns
returns g c =
    let q = (g.F.Field.ops c.args.field.now).size in
    let m = c.args.counts.data_count in
    let r = c.args.counts.check_count in
    let h = ranges m r c.args.counts.row_len c.in_ok-check.ensures in
    let nodes = c.count_up-nodes.ensures in
    let front = c.split_at.ensures.front ∙ ap (λ xs. take m xs) nodes ∙ part_counted 0 m 128 m (omega arith) (omega arith) in
    let back = c.split_at-2.ensures.front ∙ ap (λ xs. take r xs) (c.split_at.ensures.back ∙ ap (λ xs. drop m xs) nodes) ∙ part_counted m r 128 r (omega arith) (omega arith) in
    planned_ok q m r c.args.counts.row_len _ _ front back _ c.make.new.self c.make.result c.in_ok-make.was c.make.ensures
