use Rattle.std.proofs.Common.{◌≡◌, ℕ, ◌<◌}
use Rattle.std.specs.Int.Digits.{number_from_digits}
use Rattle.checks.specs.Checks.{at}
use Rattle.job.specs.Packing.{slot}
use Rattle.job.proofs.spread.Spread.lift.Given as goal

abbrev pub invariant-loop-i : goal.invariant-loop-i
invariant-loop-i l = (k : ℕ) → k < l.i → at l.job k ≡ number_from_digits l.self.limit (slot l.self.count l.message k)
