-- Making a plan: the checks in their order, and what a call answers and leaves. Assumes nothing.
--     most_packets, most_symbols        the greatest m and r, and the greatest L
--     in_range top n                    n is from 1 to top
--     range_checks m r L                m, r and L are in range
--     repeated nodes i                  the node at place i stands at an earlier place too
--     making_checks m r L q ds cs       the checks of making a plan of given nodes
--     standard_checks m r L period      the checks of making a standard plan
--     standard_nodes o step k           the first k powers of the step
--     Made checks plan old new a        such a call answers a, and turns the plan old into new
use Rattle.std.specs.Prelude.{◌≡◌, ℕ, ◌+◌, Bool, ◌&&◌, List, [], ◌∷◌, ◌++◌, map, length, is_some, Ok, Err, Option, Result, ◌==◌, nat_eq, nat_le}
use Rattle.std.specs.List.{range_with_len}
use Rattle.std.specs.Option.{option_map}
use Rattle.checks.specs.Checks.{at, unless, first, answered, lowest, too_large}
use Rattle.field.specs.Field.{Ops, power}
use Rattle.code.specs.Plans.{PlanView, view}
use Rattle.code.specs.declared.fault.PlanFault.{PlanFault}
use Rattle.code.specs.declared.fault.PlanFault.TheVariants.{Range, TooMany, NotElement, Repeated, Count}
use Rattle.code.specs.declared.plan.Plan.{Plan}

abbrev pub most_packets : ℕ
most_packets = 64

abbrev pub most_symbols : ℕ
most_symbols = 128

-- n is from 1 to top
abbrev pub in_range : ℕ → ℕ → Bool
in_range top n = nat_le 1 n && nat_le n top

-- m, r and L are in range, and the first that is not is named
abbrev pub range_checks : ℕ → ℕ → ℕ → List (Option PlanFault)
range_checks m r L =
    unless (in_range most_packets m) (Range 0)
    ∷ unless (in_range most_packets r) (Range 1)
    ∷ unless (in_range most_symbols L) (Range 2)
    ∷ []

-- the node at place i stands at an earlier place too
abbrev pub repeated : List ℕ → ℕ → Bool
repeated nodes i = is_some (lowest (λ j. nat_eq (at nodes j) (at nodes i)) i)

-- a field of q has nodes enough; there are m data nodes ds and r check nodes cs; all are elements, and no two are the same
abbrev pub making_checks : ℕ → ℕ → ℕ → ℕ → List ℕ → List ℕ → List (Option PlanFault)
making_checks m r L q ds cs =
    range_checks m r L ++
    unless (nat_le (m + r) q) (TooMany q)
    ∷ unless (length ds == m) (Count m)
    ∷ unless (length cs == r) (Count r)
    ∷ option_map NotElement (lowest (too_large q (ds ++ cs)) (m + r))
    ∷ option_map Repeated (lowest (repeated (ds ++ cs)) (m + r))
    ∷ []

-- the step has powers enough
abbrev pub standard_checks : ℕ → ℕ → ℕ → ℕ → List (Option PlanFault)
standard_checks m r L period = range_checks m r L ++ unless (nat_le (m + r) period) (TooMany period) ∷ []

-- the powers of the step from 0 to k - 1
abbrev pub standard_nodes : Ops → ℕ → ℕ → List ℕ
standard_nodes o step k = map (power o step) (range_with_len 0 k)

abbrev pub plan_of : ℕ → ℕ → ℕ → ℕ → List ℕ → PlanView
plan_of m r L q nodes = record { m = m; r = r; L = L; q = q; nodes = nodes }

-- the plan asked for stands in its place, or a refusal left the old one
abbrev pub Leaves : PlanView → Plan → Plan → Result (Unit {0}) PlanFault → Type 0
Leaves plan old new (Ok x) = view new ≡ plan
Leaves plan old new (Err f) = new ≡ old

-- a making with these checks answers a, and turns the plan old into new
pub record Made (checks : List (Option PlanFault)) (plan : PlanView) (old new : Plan) (a : Result (Unit {0}) PlanFault) : Type 0 where
  pub answers : a ≡ answered (first checks) tt
  pub leaves : Leaves plan old new a
