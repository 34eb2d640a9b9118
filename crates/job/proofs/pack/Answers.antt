use Rattle.std.proofs.Common.{ap, ◌∙◌, arith}
use Rattle.job.specs.Packing.{symbols_a_byte, symbol_limit}
use Rattle.job.proofs.Outcomes.{packing_done}
use Rattle.job.proofs.pack.Goals as goal

pub returns : goal.returns
returns c =
    packing_done c.args.plan.now c.args.job.now c.args.message.now c.lay.new.message c.over.result.limit c.over.result.count
    (c.over.ensures.limit ∙ ap symbol_limit c.size.ensures.answers) (c.over.ensures.count ∙ ap symbols_a_byte c.size.ensures.answers)
    c.in_ok-check_job.ensures (λ i. omega (arith, c.type_inv.job i)) c.lay.ensures
