-- The cases of the worked examples: three small plans, what their packets read as, and a run. Assumes nothing.
--     plan o ds cs          the plan over the field o with data nodes ds and check nodes cs, with rows of one symbol
--     IsMade o ds cs        this plan is made
--     two_and_one           over the prime field: data nodes 0 and 1, check node 2
--     two_and_two           over the byte field: data nodes 0 and 1, check nodes 2 and 3
--     one_and_one           over the prime field: data node 0, check node 256
--     packet n y            packet n with the symbol y
--     ReadsAs o p ks M      the packets ks, if they alone are accepted, are read as the message M
--     a_run, after_the_run  calls of a receiver with their answers, and the state that they lead to
use Rattle.std.specs.Prelude.{◌≡◌, ℕ, ◌*◌, List, [], ◌∷◌, ◌++◌, length, replicate, None}
use Rattle.binary.specs.Binary.{byte}
use Rattle.checks.specs.Checks.{first}
use Rattle.code.specs.Making.{making_checks, plan_of}
use Rattle.code.specs.Plans.{PlanView}
use Rattle.code.specs.Rows.{Packet, Explains}
use Rattle.field.specs.Field.{Ops}
use Rattle.packet.specs.Layout.{laid}
use Rattle.packet.specs.declared.Job.{Job}
use Rattle.prime.specs.Prime.{prime}
use Rattle.receiver.specs.Machine.{Answer, offer, read, rebuild, counts, filled, wrote, refuses, State, Step}
use Rattle.receiver.specs.Runs.{Event}
use Rattle.receiver.specs.declared.fault.ReceiverFault.TheVariants.{Repeated, Contradicts, TooFew}

abbrev pub plan : Ops → List ℕ → List ℕ → PlanView
plan o ds cs = plan_of (length ds) (length cs) 1 o.size (ds ++ cs)

abbrev pub IsMade : Ops → List ℕ → List ℕ → Type 0
IsMade o ds cs = first (making_checks (length ds) (length cs) 1 o.size ds cs) ≡ None

abbrev pub two_and_one : PlanView
two_and_one = plan prime (0 ∷ 1 ∷ []) (2 ∷ [])

abbrev pub two_and_two : PlanView
two_and_two = plan byte (0 ∷ 1 ∷ []) (2 ∷ 3 ∷ [])

abbrev pub one_and_one : PlanView
one_and_one = plan prime (0 ∷ []) (256 ∷ [])

abbrev pub packet : ℕ → ℕ → Packet
packet n y = record { number = n; row = y ∷ [] }

-- the packets ks alone are accepted
abbrev pub holding : List Packet → State
holding ks = record { stored = ks; later = [] }

-- M fits the packets ks, no other message does, and a reading of them leaves M, whatever is in the buffer before
pub record ReadsAs (o : Ops) (p : PlanView) (ks : List Packet) (M : List ℕ) : Type 0 where
  pub fits : Explains o p M ks
  pub only : (N : List ℕ) → Explains o p N ks → N ≡ M
  pub is_read : (j : Job) (old : List ℕ) → length old ≡ p.m * p.L → Step o p j (holding ks) (read old) filled M (holding ks)

-- the job of the run
abbrev pub job : Job
job = record { number = 1; length = 2 }

-- packet n with the symbol y is offered and answered so
abbrev pub offers : ℕ → ℕ → Answer → Event
offers n y a = let bs : List ℕ = laid two_and_one job n (y ∷ []) in record { call = offer bs; answer = a; after = bs }

-- the message buffer old is read into, which leaves new
abbrev pub reads : List ℕ → Answer → List ℕ → Event
reads old a new = record { call = read old; answer = a; after = new }

-- packet n is rebuilt into the packet buffer old, which leaves new
abbrev pub rebuilds : ℕ → List ℕ → Answer → List ℕ → Event
rebuilds n old a new = record { call = rebuild n old; answer = a; after = new }

-- the calls of the run with their answers, where the message is 3 and 5
abbrev pub a_run : List Event
a_run =
    offers 1 5 (counts 1)
    ∷ offers 1 5 (refuses (Repeated 1))
    ∷ offers 1 6 (refuses (Contradicts 0))
    ∷ reads (9 ∷ 9 ∷ []) (refuses (TooFew 1)) (9 ∷ 9 ∷ [])
    ∷ rebuilds 0 (replicate 22 9) (refuses (TooFew 1)) (replicate 22 9)
    ∷ rebuilds 1 (replicate 24 9) (wrote 22) (laid two_and_one job 1 (5 ∷ []) ++ 9 ∷ 9 ∷ [])
    ∷ offers 2 135 (counts 2)
    ∷ offers 0 4 (refuses (Contradicts 0))
    ∷ offers 0 3 (counts 3)
    ∷ reads (9 ∷ 9 ∷ []) filled (3 ∷ 5 ∷ [])
    ∷ []

abbrev pub after_the_run : State
after_the_run = record { stored = packet 1 5 ∷ packet 2 135 ∷ []; later = 0 ∷ [] }
