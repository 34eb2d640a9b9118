-- What a receiver stands for. Assumes nothing.
--     plan_of r, job_of r     what it was opened with
--     state_of r              the machine's state that it holds
--     kept r n row            that state once it keeps a packet more
--     offer_answer, read_answer, rebuild_answer    what a call answers, as the machine says it
--     Answers o r c a after t    over the field o the receiver r answers the call c as the machine does, and is t then
--     Keeps r t               t has the plan and the job of r
--     Missing p s a           a is some data packet's number that is not accepted, or none if all are
use Rattle.std.specs.Prelude.{◌≡◌, ℕ, ◌<◌, min, true, false, List, map, take, drop, Some, None, Ok, Err, Option, Result}
use Rattle.std.specs.List.{range_with_len}
use Rattle.checks.specs.Checks.{at}
use Rattle.code.specs.Plans.{PlanView, view}
use Rattle.code.specs.Rows.{Packet}
use Rattle.packet.specs.declared.Job.{Job}
use Rattle.field.specs.Field.{Ops}
use Rattle.receiver.specs.Machine.{Call, Answer, counts, filled, wrote, refuses, State, keeping, heard, Step}
use Rattle.receiver.specs.Shelves.{shelved, row_on}
use Rattle.receiver.specs.declared.fault.ReceiverFault.{ReceiverFault}
use Rattle.receiver.specs.declared.receiver.Receiver.{Receiver}

abbrev pub plan_of : Receiver → PlanView
plan_of r = view r.plan

abbrev pub job_of : Receiver → Job
job_of r = r.job

-- the packet at place t of the shelf
abbrev pub packet_at : ℕ → List ℕ → List ℕ → ℕ → Packet
packet_at len numbers shelf t = record { number = at numbers t; row = row_on shelf t len }

-- the first m accepted numbers with their rows, and those accepted later
unfoldable pub state : ℕ → ℕ → ℕ → List ℕ → List ℕ → State
state m len count numbers shelf = record {
  stored = map (packet_at len numbers shelf) (range_with_len 0 (min count m));
  later = drop m (take count numbers);
}

abbrev pub state_of : Receiver → State
state_of r = state (view r.plan).m (view r.plan).L r.count r.numbers (shelved r.shelf)

-- the state of a receiver that keeps one packet more
abbrev pub kept : Receiver → ℕ → List ℕ → State
kept r n row = keeping (plan_of r) (state_of r) (record { number = n; row = row })

-- what an offer, a reading and a rebuild answer
abbrev pub offer_answer : Result ℕ ReceiverFault → Answer
offer_answer (Ok n) = counts n
offer_answer (Err f) = refuses f

abbrev pub read_answer : Result (Unit {0}) ReceiverFault → Answer
read_answer (Ok u) = filled
read_answer (Err f) = refuses f

abbrev pub rebuild_answer : Result ℕ ReceiverFault → Answer
rebuild_answer (Ok n) = wrote n
rebuild_answer (Err f) = refuses f

-- over the field o the receiver r answers the call c with a, as the machine does; the buffer holds after then, and the receiver is t
abbrev pub Answers : Ops → Receiver → Call → Answer → List ℕ → Receiver → Type 0
Answers o r c a after t = Step o (plan_of r) (job_of r) (state_of r) c a after (state_of t)

pub record Keeps (r t : Receiver) : Type 0 where
  pub plan : plan_of t ≡ plan_of r
  pub job : job_of t ≡ job_of r

abbrev pub Missing : PlanView → State → Option ℕ → Type 0
Missing p s None = (n : ℕ) → n < p.m → heard s n ≡ true
Missing p s (Some n) = (n < p.m) × (heard s n ≡ false)
