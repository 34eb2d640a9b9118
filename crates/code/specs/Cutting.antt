-- Asking for the row of a packet: the checks in their order, and what a call answers and leaves. Assumes nothing.
use Rattle.std.specs.Prelude.{◌≡◌, ℕ, ◌+◌, ◌*◌, ◌<◌, List, [], ◌∷◌, length, Option, Result, ◌==◌, nat_lt}
use Rattle.checks.specs.Checks.{at, unless, first, answered, left}
use Rattle.field.specs.Field.{Ops, inverse_of}
use Rattle.field.specs.Rows.{numbers, minus}
use Rattle.code.specs.Plans.{PlanView}
use Rattle.code.specs.Rows.{row}
use Rattle.code.specs.declared.fault.PlanFault.{PlanFault}
use Rattle.code.specs.declared.fault.PlanFault.TheVariants.{Count, OtherField, Number}

-- the field has the plan's size; M has m · L symbols; the plan has a packet n; the buffer has L symbols
abbrev pub row_checks : Ops → PlanView → List ℕ → ℕ → List ℕ → List (Option PlanFault)
row_checks o p M n buffer =
    unless (o.size == p.q) (OtherField p.q)
    ∷ unless (length M == p.m * p.L) (Count (p.m * p.L))
    ∷ unless (nat_lt n (p.m + p.r)) (Number n)
    ∷ unless (length buffer == p.L) (Count p.L)
    ∷ []

-- factor j is the inverse of the difference of the nodes of packets n and j
abbrev pub Factors : Ops → PlanView → ℕ → List ℕ → Type 0
Factors o p n factors = (j : ℕ) → j < p.m → at factors j ≡ inverse_of o (minus (numbers o) (at p.nodes n) (at p.nodes j))

-- asked for the row of packet n of M, a plan p answers a and turns the buffer old into new
pub record RowAnswered (o : Ops) (p : PlanView) (M : List ℕ) (n : ℕ) (old new : List ℕ) (a : Result (Unit {0}) PlanFault) : Type 0 where
  pub answers : a ≡ answered (first (row_checks o p M n old)) tt
  pub leaves : new ≡ left (first (row_checks o p M n old)) old (row o p M n)
