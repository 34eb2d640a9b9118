use Rattle.std.proofs.Common.{rules}
use Rattle.std.proofs.lemmas.Result.{err_from_is_err_and}
use Rattle.receiver.proofs.Answering.{read-front}
use Rattle.receiver.proofs.receiver.Receiver.read.Goals as goal

pub returns-in_err-check_reading : goal.returns-in_err-check_reading
returns-in_err-check_reading g c =
    let e = err_from_is_err_and c.from_residual-in_err-check_reading.result c.from_residual-in_err-check_reading.ensures.1 in
    let lawful = g.met.F.Field.lawful c.args.field.now in
    let size = c.in_ok-over.ensures.2 in
    rw (e.1, e.2) (search (rules, read-front))
