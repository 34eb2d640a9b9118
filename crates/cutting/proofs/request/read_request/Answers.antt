use Rattle.cutting.proofs.Requests.{request_read}
use Rattle.cutting.proofs.request.read_request.Goals as goal

pub returns : goal.returns
returns c =
    request_read c.args.input.now c.in_ok-try_from.field-0 _ _ _ c.in-len4-up.len_at_least c.in_ok-try_from.ensures
    c.from.ensures c.from-2.ensures c.from-3.ensures
