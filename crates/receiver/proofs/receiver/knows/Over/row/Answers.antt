use Rattle.std.proofs.Common.{rules}
use Rattle.receiver.specs.Receivers.{plan_of, state_of}
use Rattle.receiver.proofs.Knowing.{knows_solved, knows_stored, knows_none}
use Rattle.receiver.proofs.receiver.knows.Over.row.Goals as goal

pub returns-then-is_settled-clause-answers : goal.returns-then-is_settled-clause-answers
returns-then-is_settled-clause-answers g c =
    let r = c.args.self.now.receiver.now in
    knows_solved (g.F.Field.ops c.args.self.now.field.now) (plan_of r) (state_of r) c.args.number (search rules) c.write_row.new.out
    (rw (c.solver.ensures.fields, c.solver.ensures.plans, c.solver.ensures.knows) at c.write_row.ensures)

pub returns-in_err-t-clause-answers : goal.returns-in_err-t-clause-answers
returns-in_err-t-clause-answers g c = search (rules, knows_none)

pub returns-clause-answers : goal.returns-clause-answers
returns-clause-answers g c = search (rules, knows_stored)
