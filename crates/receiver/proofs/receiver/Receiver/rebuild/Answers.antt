use Rattle.std.proofs.Common.{◌≡◌, sym, ◌∙◌, rules}
use Rattle.std.proofs.lemmas.Result.{err_from_is_err_and}
use Rattle.checks.proofs.Order.{answered_ok, left_none}
use Rattle.packet.specs.Writing.{written}
use Rattle.receiver.specs.Receivers.{plan_of, job_of}
use Rattle.receiver.specs.declared.fault.ReceiverFault.TheVariants.{TooFew}
use Rattle.receiver.proofs.Answering.{rebuild-front, rebuild_unknown, rebuilds}
use Rattle.receiver.proofs.receiver.Receiver.rebuild.Goals as goal

pub returns-in_err-check_rebuild : goal.returns-in_err-check_rebuild
returns-in_err-check_rebuild g c =
    let e = err_from_is_err_and c.from_residual-in_err-check_rebuild.result c.from_residual-in_err-check_rebuild.ensures.1 in
    let lawful = g.met.F.Field.lawful c.args.field.now in
    let size = c.in_ok-over.ensures.2 in
    rw (e.1, e.2) (search (rules, rebuild-front))

pub returns-in_err-row : goal.returns-in_err-row
returns-in_err-row g c =
    let r = c.args.self.now in
    let over = c.in_ok-over.ensures in
    let none = c.in_err-row.ensures.ok_part in
    let e = err_from_is_err_and c.from_residual-in_err-row.result c.from_residual-in_err-row.ensures.1 in
    let few : c.in_err-row.field-0.0 ≡ TooFew c.accepted.result = cc (rw none at c.in_err-row.ensures.value) in
    rw (e.1, e.2, few) (rebuild_unknown (g.F.Field.ops c.args.field.now) (g.met.F.Field.lawful c.args.field.now) r c.args.number c.args.out.now
    over.2 _ c.in_ok-check_rebuild.ensures c.accepted.result c.accepted.ensures
    (rw (none, over.0, over.1) at c.row.ensures.answers))

pub returns : goal.returns
returns g c =
    let r = c.args.self.now in
    let over = c.in_ok-over.ensures in
    let row = c.in_ok-row.row.now in
    let ok = answered_ok _ _ _ (sym c.in_ok-write.was ∙ c.write.ensures.answers) in
    let after = c.write.ensures.leaves ∙ left_none _ c.args.out.now (written (plan_of r) (job_of r) c.args.number row c.args.out.now) ok.0 in
    rebuilds (g.F.Field.ops c.args.field.now) (g.met.F.Field.lawful c.args.field.now) r c.args.number c.args.out.now
    over.2 _ c.in_ok-check_rebuild.ensures c.in_ok-write.field-0 row c.write.new.out ok.1
    (rw (c.in_ok-row.ensures.ok_part, over.0, over.1) at c.row.ensures.answers) after
