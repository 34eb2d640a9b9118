use Rattle.std.proofs.Common.{rules}
use Rattle.std.proofs.lemmas.Result.{err_from_is_err_and}
use Rattle.receiver.proofs.Offering.{refuses_offer, accepts, accepted_reached}
use Rattle.receiver.proofs.receiver.Receiver.offer.Goals as goal

pub returns-in_err-number-clause-answers : goal.returns-in_err-number-clause-answers
returns-in_err-number-clause-answers g c =
    let e = err_from_is_err_and c.from_residual.result c.from_residual.ensures.1 in
    let lawful = g.met.F.Field.lawful c.args.field.now in
    rw (e.1, e.2) (search (rules, refuses_offer))

pub keep-requires-clause-reaches : goal.keep-requires-clause-reaches
keep-requires-clause-reaches g c = let lawful = g.met.F.Field.lawful c.args.field.now in search (rules, accepted_reached)

pub returns-clause-answers : goal.returns-clause-answers
returns-clause-answers g c = let lawful = g.met.F.Field.lawful c.args.field.now in search (rules, accepts)
