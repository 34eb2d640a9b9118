use Rattle.std.proofs.Common.{◌≡◌, ◌*◌, take}
use Rattle.packet.specs.Bytes.{low_bytes}
use Rattle.packet.proofs.writes.write_numbers.Given as goal

abbrev pub invariant-loop-i : goal.invariant-loop-i
invariant-loop-i g l = take (l.i * g.row.WIDTH) l.out ≡ low_bytes g.row.WIDTH (take l.i l.numbers)
