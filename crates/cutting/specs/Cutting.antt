-- All packets of a message, in order, and the cutter's plan. Assumes nothing.
--     packet_of o p j M n          the bytes of packet n of the message M
--     packets_to o p j M k         the first k packets, nothing between
--     all_packets o p j M          all of them
--     sheet_of p M                 a sheet of the plan p that holds M
--     Whole p s                    the sheet s is one of the plan p, whole
--     cutter_checks q m r L        the checks of the cutter's plan over a field of q
--     cutter_plan q m r L          that plan: the node of packet n is n
--     Planned os p a               making that plan answers it, or the fault
use Rattle.std.specs.Prelude.{◌≡◌, ℕ, zero, suc, ◌+◌, ◌*◌, List, [], ◌++◌, length, Some, None, Ok, Err, Option, Result}
use Rattle.std.specs.List.{range_with_len}
use Rattle.checks.specs.Checks.{first}
use Rattle.code.specs.Making.{making_checks, plan_of}
use Rattle.code.specs.Plans.{PlanView, view}
use Rattle.code.specs.declared.fault.PlanFault.{PlanFault}
use Rattle.code.specs.declared.plan.Plan.{Plan}
use Rattle.code.specs.Rows.{row}
use Rattle.field.specs.Field.{Ops}
use Rattle.packet.specs.Layout.{laid}
use Rattle.packet.specs.declared.Job.{Job}
use Rattle.sheet.specs.Sheets.{SheetView}

-- the bytes of packet n of the message M for this job
abbrev pub packet_of : Ops → PlanView → Job → List ℕ → ℕ → List ℕ
packet_of o p j M n = laid p j n (row o p M n)

-- the first k packets, nothing between
abbrev pub packets_to : Ops → PlanView → Job → List ℕ → ℕ → List ℕ
packets_to o p j M zero = []
packets_to o p j M (suc k) = packets_to o p j M k ++ packet_of o p j M k

abbrev pub all_packets : Ops → PlanView → Job → List ℕ → List ℕ
all_packets o p j M = packets_to o p j M (p.m + p.r)

-- a sheet of the plan p that holds M
abbrev pub sheet_of : PlanView → List ℕ → SheetView
sheet_of p M = record { m = p.m; L = p.L; q = p.q; content = M }

-- the sheet s is one of the plan p, and its buffer is m · L symbols
pub record Whole (p : PlanView) (s : SheetView) : Type 0 where
  pub same : s ≡ sheet_of p s.content
  pub long : length s.content ≡ p.m * p.L

-- the data nodes are 0 to m - 1, and the check nodes go on from m
abbrev pub cutter_checks : ℕ → ℕ → ℕ → ℕ → List (Option PlanFault)
cutter_checks q m r L = making_checks m r L q (range_with_len 0 m) (range_with_len m r)

abbrev pub cutter_plan : ℕ → ℕ → ℕ → ℕ → PlanView
cutter_plan q m r L = plan_of m r L q (range_with_len 0 m ++ range_with_len m r)

-- the plan that was asked for, or the first fault
abbrev pub Planned : List (Option PlanFault) → PlanView → Result Plan PlanFault → Type 0
Planned checks p (Ok plan) = (first checks ≡ None) × (view plan ≡ p)
Planned checks p (Err f) = first checks ≡ Some f
