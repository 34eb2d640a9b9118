use Rattle.std.proofs.Common.{Err, refl, ap, ◌∙◌, arith}
use Rattle.std.proofs.lemmas.Result.{err_from_is_err_and}
use Rattle.cutting.specs.Answers.{request_view_of, request_fault, request_packets}
use Rattle.cutting.proofs.Answering.{refused_as, job_refused, message-elements, request_answered}
use Rattle.cutting.proofs.cut.cut_request.Goals as goal

pub returns-in_err-pack : goal.returns-in_err-pack
returns-in_err-pack g c =
    let o = g.F.Field.ops c.args.field.now in
    let a = request_view_of c.args.request.now in
    let p = err_from_is_err_and c.from_residual-in_err-pack.result c.from_residual-in_err-pack.ensures.1 in
    refused_as (request_fault o a) (request_packets o a) c.from_residual-in_err-pack.result _ (p.1 ∙ ap Err p.2)
    (job_refused o a c.in_ok-plan.plan c.in_ok-plan.ensures c.pack.result c.pack.ensures (omega arith) c.in_err-pack.field-0.0 c.in_err-pack.was)

pub cut_message-requires : goal.cut_message-requires
cut_message-requires g c =
    let a = request_view_of c.args.request.now in
    let made = c.in_ok-plan.ensures in
    record {
      long = omega arith;
      element = message-elements (g.F.Field.ops c.args.field.now) a c.in_ok-plan.plan made c.pack.result c.pack.ensures (omega arith) c.in_ok-pack.field-0 c.in_ok-pack.was;
    }

pub returns : goal.returns
returns g c =
    let a = request_view_of c.args.request.now in
    request_answered (g.F.Field.ops c.args.field.now) a c.in_ok-plan.plan c.in_ok-plan.ensures c.pack.result c.pack.ensures (omega arith) c.in_ok-pack.field-0 c.in_ok-pack.was
    _ refl c.in_ok-cut_message.field-0 c.in_ok-cut_message.ensures
