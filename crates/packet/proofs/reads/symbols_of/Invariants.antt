use Rattle.std.proofs.Common.{◌≡◌, ℕ, ◌<◌}
use Rattle.checks.specs.Checks.{at}
use Rattle.packet.specs.Bytes.{symbol_at}
use Rattle.packet.proofs.reads.symbols_of.Given as goal

abbrev pub invariant-loop-s : goal.invariant-loop-s
invariant-loop-s l = (k : ℕ) → k < l.s → at l.row k ≡ symbol_at l.size l.bytes k
