use Rattle.std.proofs.Common.{refl, arith}
use Rattle.std.proofs.lemmas.List.FromFn.{fill_by_all}
use Rattle.packet.proofs.reads.symbols_of.Goals as goal

pub returns : goal.returns
returns c = rw c.size-size.ensures.answers at (fill_by_all _ c.loop-s.row _ 0 refl (λ k h. c.loop-s.invariant k (omega arith)))
