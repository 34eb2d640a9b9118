use Rattle.std.proofs.Common.{ap, ◌∙◌, arith, rules}
use Rattle.std.proofs.lemmas.Result.{err_from_is_err_and}
use Rattle.checks.proofs.Order.{answered_ok, answered_err}
use Rattle.receiver.specs.Receivers.{plan_of}
use Rattle.receiver.proofs.Examining.{not_ours, row_carried, too_big, passes}
use Rattle.receiver.proofs.receiver.Receiver.examine.Goals as goal

pub returns-in_err-check_job : goal.returns-in_err-check_job
returns-in_err-check_job c =
    let e = err_from_is_err_and c.from_residual-in_err-check_job.result c.from_residual-in_err-check_job.ensures.1 in
    let ok = answered_ok _ _ _ c.in_ok-packet.ensures in
    rw (e.1, e.2) (not_ours _ _ _ ok.0 _ _ (answered_err _ _ _ c.in_err-check_job.ensures))

pub returns-in-Some : goal.returns-in-Some
returns-in-Some c =
    let ok = answered_ok _ _ _ c.in_ok-packet.ensures in
    let ours = answered_ok _ _ _ c.in_ok-check_job.ensures in
    let row = row_carried (plan_of c.args.self.now) c.args.self.now.job c.args.bytes.now ok.0 ours.0 c.row.result.now c.symbols_of.new.row
    (c.row.ensures ∙ ap (λ k. k.row) ok.1) c.symbols_of.ensures (omega (arith, c.symbols_of.auto.row)) in
    search (rules, too_big)

pub returns : goal.returns
returns c =
    let ok = answered_ok _ _ _ c.in_ok-packet.ensures in
    let ours = answered_ok _ _ _ c.in_ok-check_job.ensures in
    let row = row_carried (plan_of c.args.self.now) c.args.self.now.job c.args.bytes.now ok.0 ours.0 c.row.result.now c.symbols_of.new.row
    (c.row.ensures ∙ ap (λ k. k.row) ok.1) c.symbols_of.ensures (omega (arith, c.symbols_of.auto.row)) in
    search (rules, passes)
