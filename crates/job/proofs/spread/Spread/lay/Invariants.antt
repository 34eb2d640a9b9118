use Rattle.std.proofs.Common.{◌≡◌, length, take}
use Rattle.job.specs.Packing.{laid}
use Rattle.job.proofs.spread.Spread.lay.Given as goal

abbrev pub invariant-loop-i : goal.invariant-loop-i
invariant-loop-i l = l.message ≡ laid l.self.limit l.self.count (take l.i l.job) (length l.initial.message)
