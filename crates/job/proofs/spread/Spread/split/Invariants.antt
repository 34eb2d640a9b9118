use Rattle.std.proofs.Common.{◌≡◌, ◌++◌, length, drop}
use Rattle.job.specs.Packing.{digits}
use Rattle.job.proofs.spread.Spread.split.Given as goal

abbrev pub invariant-loop-t : goal.invariant-loop-t
invariant-loop-t l = digits l.self.limit l.t l.rest ++ drop l.t l.symbols ≡ digits l.self.limit (length l.initial.symbols) l.byte
