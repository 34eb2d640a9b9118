use Rattle.std.proofs.Common.{arith}
use Rattle.std.proofs.lemmas.List.FromFn.{fill_by_all}
use Rattle.job.proofs.spread.Spread.lift.Goals as goal

pub returns : goal.returns
returns c = fill_by_all _ c.loop-i.job _ 0 c.loop-i.auto.job (λ k h. c.loop-i.invariant k (omega arith))
