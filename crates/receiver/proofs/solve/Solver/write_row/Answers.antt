use Rattle.std.proofs.Common.{length, ap, ◌∙◌, arith}
use Rattle.code.proofs.Views.{sound_of}
use Rattle.receiver.specs.Shelves.{row_on}
use Rattle.receiver.specs.Solvers.{plan_in}
use Rattle.receiver.proofs.Solved.{between_row, stored_row, lost_row}
use Rattle.receiver.proofs.solve.Solver.write_row.Goals as goal

pub returns-in-Some : goal.returns-in-Some
returns-in-Some g c =
    let s = c.args.self.now in
    let t = c.in-Some.t in
    stored_row (plan_in s) s.numbers.now s.rows.now s.given (g.F.Field.ops s.field.now) c.args.number t c.copy_from_slice.new.self c.in-Some.ensures
    (c.copy_from_slice.ensures.after ∙ between_row s.rows.now t (length c.args.out.now) ∙ ap (row_on s.rows.now t) c.requires.fits)

pub returns-in_default : goal.returns-in_default
returns-in_default g c =
    let s = c.args.self.now in
    lost_row (plan_in s) s.numbers.now s.rows.now s.given (g.F.Field.ops s.field.now) (g.met.F.Field.lawful s.field.now) (sound_of s.plan.now) s.sized
    c.args.number c.parts-parts.result c.combine.new.out c.requires.within c.in_default.ensures
    (omega (arith, c.parts-parts.ensures.room, s.plan.now.few_data)) c.parts-parts.ensures.answers (omega arith) c.combine.ensures
