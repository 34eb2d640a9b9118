-- The job that a receiver gives, from what reading and unpacking answer. Assumes nothing.
use Rattle.std.proofs.Common.{◌≡◌, ℕ, ◌-◌, ◌≤◌, List, length, take, drop, replicate, Some, None, Ok, Err, Result, sym, refl, ap, ◌∙◌, subst, arith}
use Rattle.std.proofs.lemmas.List.{take-replicate}
use Rattle.std.specs.Option.{option_map}
use Rattle.checks.specs.Checks.{first, answered}
use Rattle.checks.proofs.Order.{answered_ok, answered_err, left_none, left_some, last}
use Rattle.code.specs.Plans.{view}
use Rattle.code.specs.declared.plan.Plan.{Plan}
use Rattle.field.specs.Field.{Ops}
use Rattle.job.specs.Calls.{total, unpack_checks, Unpacking}
use Rattle.job.specs.declared.fault.JobFault.{JobFault}
use Rattle.receiver.specs.Machine.{filled, refuses, read}
use Rattle.receiver.specs.Receivers.{Answers}
use Rattle.receiver.specs.declared.fault.ReceiverFault.{ReceiverFault}
use Rattle.receiver.specs.declared.receiver.Receiver.{Receiver}
use Rattle.joining.specs.Jobs.{no_job, Joined}
use Rattle.joining.specs.declared.fault.JoinFault.{JoinFault}
use Rattle.joining.specs.declared.fault.JoinFault.TheVariants.{Receiver as InReceiver, Job as InJob}

-- the front of a room of zeros
pub zeros : (k t room : ℕ) → k ≡ t → t ≤ room → take (k - 0) (drop 0 (replicate {A = ℕ} room 0)) ≡ replicate t 0
zeros k t room is fits =
    let all : k - 0 ≡ t = omega arith in
    ap (λ n. take n (replicate {A = ℕ} room 0)) all ∙ take-replicate t room 0 fits

module _ (o : Ops) (plan : Plan) (r : Receiver) (n : ℕ) {buffer message old : List ℕ} (blank : buffer ≡ replicate (total (view plan)) 0) where
  -- the reading is refused
  pub joined_unread : (f : ReceiverFault) (a : Result (Unit {0}) JoinFault) → Answers o r (read buffer) (refuses f) message r → a ≡ Err (InReceiver f)
      → Joined o (view plan) r n old old a
  joined_unread f a h is = record {
    answer = refuses f;
    message = message;
    reads = subst (λ xs. Answers o r (read xs) (refuses f) message r) blank h;
    answers = is;
    leaves = refl;
  }

  -- it is answered, and unpacking answers b
  module _ {new : List ℕ} (b : Result (Unit {0}) JobFault) (h : Answers o r (read buffer) filled message r) (unpacks : Unpacking plan message n old new b) where
    reads : Answers o r (read (replicate (total (view plan)) 0)) filled message r
    reads = subst (λ xs. Answers o r (read xs) filled message r) blank h

    pub joined_refused : (f : JobFault) (a : Result (Unit {0}) JoinFault) → b ≡ Err f → a ≡ Err (InJob f) → Joined o (view plan) r n old new a
    joined_refused f a was is =
        let none : first (unpack_checks (view plan) message n (length old)) ≡ Some f = answered_err _ f tt (sym was ∙ unpacks.answers) in
        let fault : no_job (view plan) filled message n (length old) ≡ Some (InJob f) = last _ ∙ ap (option_map InJob) none in
        record {
          answer = filled;
          message = message;
          reads = reads;
          answers = is ∙ sym (ap (λ x. answered x tt) fault);
          leaves = unpacks.leaves ∙ left_some _ f old _ none ∙ sym (left_some _ (InJob f) old _ fault);
        }

    pub joined_job : (u : Unit {0}) → b ≡ Ok u → Joined o (view plan) r n old new (Ok tt)
    joined_job u was =
        let none : first (unpack_checks (view plan) message n (length old)) ≡ None = (answered_ok _ u tt (sym was ∙ unpacks.answers)).0 in
        let fault : no_job (view plan) filled message n (length old) ≡ None = last _ ∙ ap (option_map InJob) none in
        record {
          answer = filled;
          message = message;
          reads = reads;
          answers = sym (ap (λ x. answered x tt) fault);
          leaves = unpacks.leaves ∙ left_none _ old _ none ∙ sym (left_none _ old _ fault);
        }
