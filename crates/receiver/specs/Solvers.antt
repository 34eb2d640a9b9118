-- What a solver stands for. Assumes nothing.
--     plan_in s       its plan
--     packets_in s    the packets whose rows it has
use Rattle.code.specs.Plans.{PlanView, view}
use Rattle.code.specs.Rows.{Packet}
use Rattle.std.specs.Prelude.{List}
use Rattle.receiver.specs.Solves.{packets}
use Rattle.receiver.specs.declared.solve.Solver.{Solver}

abbrev pub plan_in : {F : Type 0} {g : _} → Solver F g → PlanView
plan_in s = view s.plan.now

abbrev pub packets_in : {F : Type 0} {g : _} → Solver F g → List Packet
packets_in s = packets (view s.plan.now) s.numbers.now s.rows.now
