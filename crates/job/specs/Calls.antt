-- What packing and unpacking answer and leave, with their checks in order. Assumes nothing.
--     total p                               the symbols of a message
--     capacity_of p                         the most bytes of a job
--     remains start message i               symbol i is not 0, and stands at start or behind it
--     pack_checks p n room                  the checks of packing n bytes into a buffer of room symbols
--     unpack_checks p message n room        the checks of unpacking n bytes into a buffer of room bytes
--     checked os                            the answer of a call whose checks are os
--     GivesBack p job message               unpacking the message gives the job
--     Packing plan job old new a            packing answers a, and turns the message buffer old into new
--     Unpacking plan message n old new a    unpacking answers a, and turns the job buffer old into new
use Rattle.std.specs.Prelude.{◌≡◌, ℕ, ◌*◌, ◌/◌, ◌≤◌, Bool, not, ◌&&◌, List, [], ◌∷◌, ◌++◌, length, take, drop, IfOk, None, Option, Result, ◌==◌, nat_le}
use Rattle.std.specs.Option.{option_map}
use Rattle.checks.specs.Checks.{at, unless, first, answered, left, lowest, too_large}
use Rattle.code.specs.Plans.{PlanView, view}
use Rattle.code.specs.declared.plan.Plan.{Plan}
use Rattle.job.specs.Packing.{symbols_a_byte, symbol_limit, packed, unpacked}
use Rattle.job.specs.declared.fault.JobFault.{JobFault}
use Rattle.job.specs.declared.fault.JobFault.TheVariants.{Count, Capacity, Symbol, Rest}

-- the symbols of a message
abbrev pub total : PlanView → ℕ
total p = p.m * p.L

-- the most bytes of a job: a remainder is dropped
abbrev pub capacity_of : PlanView → ℕ
capacity_of p = total p / symbols_a_byte p.q

-- symbol i is not 0, and stands at start or behind it
abbrev pub remains : ℕ → List ℕ → ℕ → Bool
remains start message i = nat_le start i && not (at message i == 0)

-- the buffer is a message's, and n bytes are not above the capacity
abbrev pub pack_checks : PlanView → ℕ → ℕ → List (Option JobFault)
pack_checks p n room =
    unless (room == total p) (Count (total p))
    ∷ unless (nat_le n (capacity_of p)) (Capacity (capacity_of p))
    ∷ []

-- the buffers are long enough, each symbol of the n bytes fits its bits, and those behind them are 0
abbrev pub unpack_checks : PlanView → List ℕ → ℕ → ℕ → List (Option JobFault)
unpack_checks p message n room =
    unless (length message == total p) (Count (total p))
    ∷ unless (nat_le n (capacity_of p)) (Capacity (capacity_of p))
    ∷ unless (nat_le n room) (Count n)
    ∷ option_map Symbol (lowest (too_large (symbol_limit p.q) message) (n * symbols_a_byte p.q))
    ∷ option_map Rest (lowest (remains (n * symbols_a_byte p.q) message) (length message))
    ∷ []

-- the first check that applies decides
abbrev pub checked : List (Option JobFault) → Result (Unit {0}) JobFault
checked os = answered (first os) tt

-- unpacking the message is answered, into any buffer that is long enough, and gives the job
pub record GivesBack (p : PlanView) (job message : List ℕ) : Type 0 where
  pub accepted : (room : ℕ) → length job ≤ room → first (unpack_checks p message (length job) room) ≡ None
  pub same : unpacked p.q message (length job) ≡ job

-- packing answers a and turns the message buffer old into new, which gives the job back
pub record Packing (plan : Plan) (job old new : List ℕ) (a : Result (Unit {0}) JobFault) : Type 0 where
  pub answers : a ≡ checked (pack_checks (view plan) (length job) (length old))
  pub leaves : new ≡ left (first (pack_checks (view plan) (length job) (length old))) old
      (packed (view plan).q job (total (view plan)))
  pub back : IfOk a (λ _. GivesBack (view plan) job new)

-- unpacking answers a and turns the job buffer old into new, whose first n bytes are packed into this message
pub record Unpacking (plan : Plan) (message : List ℕ) (n : ℕ) (old new : List ℕ) (a : Result (Unit {0}) JobFault)
    : Type 0 where
  pub answers : a ≡ checked (unpack_checks (view plan) message n (length old))
  pub leaves : new ≡ left (first (unpack_checks (view plan) message n (length old))) old
      (unpacked (view plan).q message n ++ drop n old)
  pub back : IfOk a (λ _. packed (view plan).q (take n new) (total (view plan)) ≡ message)
