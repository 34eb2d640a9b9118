-- The faults of the plan layer: their layer, their number and their place. Assumes nothing.
use Rattle.checks.specs.declared.fault.Fault.{Fault}
use Rattle.checks.specs.declared.fault.Layer.TheVariants.{Plan}
use Rattle.code.specs.declared.fault.PlanFault.{PlanFault}
use Rattle.code.specs.declared.fault.PlanFault.TheVariants.{Range, TooMany, NotElement, Repeated, Count, OtherField, Number}

abbrev pub plan_fault : PlanFault → Fault
plan_fault (Range which) = record { layer = Plan; number = 1; place = which }
plan_fault (TooMany choice) = record { layer = Plan; number = 2; place = choice }
plan_fault (NotElement position) = record { layer = Plan; number = 3; place = position }
plan_fault (Repeated position) = record { layer = Plan; number = 4; place = position }
plan_fault (Count wanted) = record { layer = Plan; number = 5; place = wanted }
plan_fault (OtherField q) = record { layer = Plan; number = 6; place = q }
plan_fault (Number n) = record { layer = Plan; number = 8; place = n }
