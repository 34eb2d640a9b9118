use Rattle.std.proofs.Common.{Err, ap, ◌∙◌, arith}
use Rattle.std.proofs.lemmas.Result.{err_from_is_err_and}
use Rattle.code.specs.Plans.{view}
use Rattle.job.specs.Calls.{total}
use Rattle.joining.proofs.Reading.{zeros, joined_unread, joined_refused, joined_job}
use Rattle.joining.proofs.jobs.read_job.Goals as goal

pub returns-in_err-read : goal.returns-in_err-read
returns-in_err-read g c =
    let e = err_from_is_err_and c.from_residual.result c.from_residual.ensures.1 in
    joined_unread (g.F.Field.ops c.args.field.now) c.args.plan.now c.args.receiver.now c.args.len
    (zeros c.message_len.result (total (view c.args.plan.now)) 8192 c.message_len.ensures.answers (omega arith))
    c.in_err-read.field-0.0 c.from_residual.result c.in_err-read.ensures (e.1 ∙ ap Err e.2)

pub returns-in_err-unpack : goal.returns-in_err-unpack
returns-in_err-unpack g c =
    let e = err_from_is_err_and c.from_residual-in_err-unpack.result c.from_residual-in_err-unpack.ensures.1 in
    joined_refused (g.F.Field.ops c.args.field.now) c.args.plan.now c.args.receiver.now c.args.len
    (zeros c.message_len.result (total (view c.args.plan.now)) 8192 c.message_len.ensures.answers (omega arith))
    c.unpack.result c.in_ok-read.ensures c.unpack.ensures c.in_err-unpack.field-0.0 c.from_residual-in_err-unpack.result
    c.in_err-unpack.was (e.1 ∙ ap Err e.2)

pub returns : goal.returns
returns g c =
    joined_job (g.F.Field.ops c.args.field.now) c.args.plan.now c.args.receiver.now c.args.len
    (zeros c.message_len.result (total (view c.args.plan.now)) 8192 c.message_len.ensures.answers (omega arith))
    c.unpack.result c.in_ok-read.ensures c.unpack.ensures c.in_ok-unpack.field-0 c.in_ok-unpack.was
