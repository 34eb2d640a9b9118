-- The job that a receiver gives. Assumes nothing.
--     unread a                    the fault of a reading that answered a
--     no_job p a M n room         why no job of n bytes comes out of it, where M is the message that it left
--     Joined o p r n old new a    reading a job of n bytes from the receiver r answers a, and turns the buffer old into new
use Rattle.std.specs.Prelude.{◌≡◌, ℕ, List, [], ◌∷◌, ◌++◌, length, drop, replicate, Some, None, Option, Result}
use Rattle.std.specs.Option.{option_map}
use Rattle.checks.specs.Checks.{first, answered, left}
use Rattle.code.specs.Plans.{PlanView}
use Rattle.field.specs.Field.{Ops}
use Rattle.job.specs.Calls.{total, unpack_checks}
use Rattle.job.specs.Packing.{unpacked}
use Rattle.receiver.specs.Machine.{Answer, counts, filled, wrote, refuses, read}
use Rattle.receiver.specs.Receivers.{Answers}
use Rattle.receiver.specs.declared.receiver.Receiver.{Receiver}
use Rattle.joining.specs.declared.fault.JoinFault.{JoinFault}
use Rattle.joining.specs.declared.fault.JoinFault.TheVariants.{Receiver as InReceiver, Job as InJob}

abbrev pub unread : Answer → Option JoinFault
unread (counts n) = None
unread filled = None
unread (wrote n) = None
unread (refuses f) = Some (InReceiver f)

-- the reading is refused, or else the unpacking of its message is
abbrev pub no_job : PlanView → Answer → List ℕ → ℕ → ℕ → Option JoinFault
no_job p a M n room = first (unread a ∷ option_map InJob (first (unpack_checks p M n room)) ∷ [])

-- the receiver r answers a reading into a buffer of zeros as its machine does; the job is what that message unpacks to
pub record Joined (o : Ops) (p : PlanView) (r : Receiver) (n : ℕ) (old new : List ℕ) (a : Result (Unit {0}) JoinFault)
    : Type 0 where
  pub answer : Answer
  pub message : List ℕ
  pub reads : Answers o r (read (replicate (total p) 0)) answer message r
  pub answers : a ≡ answered (no_job p answer message n (length old)) tt
  pub leaves : new ≡ left (no_job p answer message n (length old)) old (unpacked p.q message n ++ drop n old)
