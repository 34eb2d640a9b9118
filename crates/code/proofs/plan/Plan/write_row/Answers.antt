use Rattle.std.proofs.Common.{arith, rules}
use Rattle.code.specs.Plans.{view}
use Rattle.code.proofs.Rows.{row_within, data_row, check_row}
use Rattle.code.proofs.plan.Plan.write_row.Goals as goal

pub slice_bounds-copy_from_slice-end : goal.slice_bounds-copy_from_slice-end
slice_bounds-copy_from_slice-end g c =
    let p = c.args.self.now in
    let h = row_within c.args.number p.counts.data_count p.counts.row_len c.if-number-self.true in
    search rules

pub returns-then-number-self : goal.returns-then-number-self
returns-then-number-self g c =
    let a = c.args in
    data_row (g.F.Field.ops a.field.now) (view a.self.now) a.message.now a.number c.copy_from_slice.new.self c.if-number-self.true (omega arith) c.copy_from_slice.ensures.after

pub returns-else-number-self : goal.returns-else-number-self
returns-else-number-self g c =
    let a = c.args in
    let f = c.factors-factors.ensures in
    check_row (g.F.Field.ops a.field.now) (view a.self.now) a.message.now a.number c.factors-factors.result c.combine.new.out c.if-number-self.false (omega (arith, a.self.now.few_data)) (omega arith) f.answers
    c.combine.ensures
