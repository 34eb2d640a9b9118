use Rattle.std.proofs.Common.{rules}
use Rattle.std.proofs.lemmas.Result.{err_from_is_err_and}
use Rattle.receiver.specs.Receivers.{plan_of, job_of, state_of}
use Rattle.receiver.proofs.Judging.{judged_front, judged_last, judged_well}
use Rattle.receiver.proofs.receiver.Receiver.check_offer.Goals as goal

pub returns-in_err-number : goal.returns-in_err-number
returns-in_err-number g c =
    let e = err_from_is_err_and c.from_residual-in_err-number.result c.from_residual-in_err-number.ensures.1 in
    rw (e.1, e.2) (search (rules, judged_front))

pub returns-in_err-compare : goal.returns-in_err-compare
returns-in_err-compare g c =
    let e = err_from_is_err_and c.from_residual-in_err-compare.result c.from_residual-in_err-compare.ensures.1 in
    let r = c.args.self.now in
    let over = c.in_ok-over.ensures in
    rw (e.1, e.2) (judged_last (g.F.Field.ops c.args.field.now) (plan_of r) (job_of r) (state_of r) c.args.bytes.now over.2
    c.in_ok-number.number c.examine.new.row c.in_ok-number.ensures _ (rw (over.0, over.1) at c.in_err-compare.ensures))

pub returns : goal.returns
returns g c =
    let r = c.args.self.now in
    let over = c.in_ok-over.ensures in
    judged_well (g.F.Field.ops c.args.field.now) (plan_of r) (job_of r) (state_of r) c.args.bytes.now over.2
    c.in_ok-number.number c.examine.new.row c.in_ok-number.ensures _ (rw (over.0, over.1) at c.in_ok-compare.ensures)
