use Rattle.checks.specs.Checks.{at}
use Rattle.field.specs.Field.{sum_of, product_of}
use Rattle.field.proofs.Written.{Written}
use Rattle.field.proofs.Field.add_multiple.Given as goal

abbrev pub invariant-loop-s : goal.invariant-loop-s
invariant-loop-s g l =
    let o = g.Self.Field.ops l.self in
    Written (λ s. sum_of o (at l.initial.into s) (product_of o l.factor (at l.row s))) l.initial.into l.into l.s
