-- How a reading and a rebuild of the machine are shown of code. Assumes nothing.
use Rattle.std.proofs.Common.{◌≡◌, ℕ, true, List, [], ◌∷◌, ◌++◌, drop, is_some, Some, None, Ok, Err, Option, Result, unwrap_or, ap, ◌∙◌}
use Rattle.std.proofs.lemmas.Bool.{eq-eqb}
use Rattle.checks.specs.Checks.{unless, first, answered}
use Rattle.checks.proofs.Order.{unless_true, skip, answered_ok, answered_err}
use Rattle.code.specs.Plans.{PlanView}
use Rattle.code.specs.Rows.{Explains}
use Rattle.field.specs.Field.{Ops, Lawful}
use Rattle.packet.specs.Layout.{packet_length, laid}
use Rattle.packet.specs.declared.Job.{Job}
use Rattle.receiver.specs.Examining.{Knows, read_front, rebuild_front}
use Rattle.receiver.specs.Machine.{read, rebuild, filled, wrote, refuses, State, count, settled, known, Outcome, decided, read_checks, rebuild_checks, Step}
use Rattle.receiver.specs.Receivers.{plan_of, job_of, state_of}
use Rattle.receiver.specs.declared.fault.ReceiverFault.{ReceiverFault}
use Rattle.receiver.specs.declared.fault.ReceiverFault.TheVariants.{TooFew}
use Rattle.receiver.specs.declared.receiver.Receiver.{Receiver}
use Rattle.receiver.proofs.Fields.{message}
use Rattle.receiver.proofs.Judging.{first_stop, first-last}

module _ (o : Ops) (lawful : Lawful o) (r : Receiver) where
  abbrev p : PlanView
  p = plan_of r

  abbrev j : Job
  j = job_of r

  abbrev s : State
  s = state_of r

  -- readings
  module _ (buffer : List ℕ) where
    abbrev reading : List ℕ → Outcome
    reading M = record { answer = filled; after = M; state = s }

    read_refused : (f : ReceiverFault) → ((M : List ℕ) → first (read_checks o p j M s buffer) ≡ Some f) → Step o p j s (read buffer) (refuses f) buffer s
    read_refused f is =
        let (M, fits) = message r o lawful in
        record { M = M; fits = fits; ruled = ap (λ x. decided x buffer s (reading M)) (is M) }

    module _ (size : o.size ≡ p.q) where
      behind : (M : List ℕ) → first (read_checks o p j M s buffer) ≡ first (read_front p s buffer)
      behind M = skip _ _ (unless_true _ _ (eq-eqb o.size p.q size))

      pub read-front : (f : ReceiverFault) → ◌≡◌ {A = Result (Unit {0}) ReceiverFault} (Err f) (answered (first (read_front p s buffer)) tt)
          → Step o p j s (read buffer) (refuses f) buffer s
      read-front f e = read_refused f (λ M. behind M ∙ answered_err _ f tt e)

  -- rebuilds of number n
  module _ (n : ℕ) (buffer : List ℕ) where
    abbrev writing : Option (List ℕ) → Outcome
    writing x = record { answer = wrote (packet_length p); after = laid p j n (unwrap_or x []) ++ drop (packet_length p) buffer; state = s }

    rebuild_refused : (f : ReceiverFault) → ((M : List ℕ) → (o.size ≡ p.q → settled p s ≡ true → Explains o p M s.stored)
        → first (rebuild_checks o p j M s n buffer) ≡ Some f) → Step o p j s (rebuild n buffer) (refuses f) buffer s
    rebuild_refused f is =
        let (M, fits) = message r o lawful in
        record { M = M; fits = fits; ruled = ap (λ x. decided x buffer s (writing (known o p M s n))) (is M fits) }

    module _ (size : o.size ≡ p.q) where
      last_too : (M : List ℕ) → first (rebuild_checks o p j M s n buffer)
          ≡ first (rebuild_front p n buffer ++ unless (is_some (known o p M s n)) (TooFew (count s)) ∷ [])
      last_too M = skip _ _ (unless_true _ _ (eq-eqb o.size p.q size))

      pub rebuild-front : (f : ReceiverFault) → ◌≡◌ {A = Result (Unit {0}) ReceiverFault} (Err f) (answered (first (rebuild_front p n buffer)) tt)
          → Step o p j s (rebuild n buffer) (refuses f) buffer s
      rebuild-front f e = rebuild_refused f (λ M _. last_too M ∙ first_stop (rebuild_front p n buffer) _ f (answered_err _ f tt e))

      module _ (u : Unit {0}) (ok : Ok u ≡ answered (first (rebuild_front p n buffer)) tt) where
        -- the last check asks whether the row is known
        last_decides : (M : List ℕ) (x : Option (List ℕ)) → known o p M s n ≡ x
            → first (rebuild_checks o p j M s n buffer) ≡ unless (is_some x) (TooFew (count s))
        last_decides M x e =
            last_too M ∙ first-last (rebuild_front p n buffer) _ (answered_ok _ u tt ok).0
            ∙ ap (λ y. unless (is_some y) (TooFew (count s))) e

        pub rebuild_unknown : (k : ℕ) → k ≡ count s → Knows o p s n None → Step o p j s (rebuild n buffer) (refuses (TooFew k)) buffer s
        rebuild_unknown k many knows = rw many (rebuild_refused _ (λ M fits. last_decides M None (knows M (fits size))))

        pub rebuilds : (k : ℕ) (row after : List ℕ) → k ≡ packet_length p → Knows o p s n (Some row) → after ≡ laid p j n row ++ drop (packet_length p) buffer
            → Step o p j s (rebuild n buffer) (wrote k) after s
        rebuilds k row after long knows is = rw (long, is) (
            let (M, fits) = message r o lawful in
            let here = knows M (fits size) in
            record {
              M = M;
              fits = fits;
              ruled = ap (λ x. decided x buffer s (writing (known o p M s n))) (last_decides M (Some row) here) ∙ ap writing here;
            })
