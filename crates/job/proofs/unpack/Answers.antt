use Rattle.std.proofs.Common.{ap, ◌∙◌}
use Rattle.job.specs.Packing.{symbols_a_byte, symbol_limit}
use Rattle.job.proofs.Outcomes.{lifting_small, unpacking_done}
use Rattle.job.proofs.unpack.Goals as goal

pub lift-requires-clause-small : goal.lift-requires-clause-small
lift-requires-clause-small c =
    lifting_small c.args.plan.now _ c.args.job.now _ _ _ (c.over.ensures.limit ∙ ap symbol_limit c.size.ensures.answers)
    (c.over.ensures.count ∙ ap symbols_a_byte c.size.ensures.answers) c.in_ok-check_message.ensures

pub returns : goal.returns
returns c =
    unpacking_done c.args.plan.now _ c.args.job.now _ _ _ (c.over.ensures.limit ∙ ap symbol_limit c.size.ensures.answers)
    (c.over.ensures.count ∙ ap symbols_a_byte c.size.ensures.answers) c.in_ok-check_message.ensures _ c.lift.ensures
