use Rattle.std.proofs.Common.{◌≡◌, ℕ, ◌*◌, ◌<◌, length, drop}
use Rattle.checks.specs.Checks.{at}
use Rattle.field.specs.Rows.{numbers, dot, symbol}
use Rattle.field.proofs.Field.combine.Given as goal

abbrev pub invariant-loop-factor : goal.invariant-loop-factor
invariant-loop-factor g l =
    let O = numbers (g.Self.Field.ops l.self) in
    let len = length l.initial.out in
    (l.rest ≡ drop (l.factor-index * len) l.rows)
    × ((s : ℕ) → s < len → at l.out s ≡ dot O (at l.factors) (symbol l.rows len s) l.factor-index)
