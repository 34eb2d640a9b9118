-- Which check of an offer decides, whatever the message. Assumes nothing.
use Rattle.std.proofs.Common.{◌≡◌, ℕ, true, List, [], ◌∷◌, ◌++◌, Some, None, Ok, Err, Option, Result, sym, refl, ap, ◌∙◌, subst}
use Rattle.std.proofs.lemmas.Bool.{false≢true, eq-eqb}
use Rattle.checks.specs.Checks.{first, answered}
use Rattle.checks.proofs.Order.{unless_true, skip, answered_ok, answered_err}
use Rattle.code.specs.Plans.{PlanView}
use Rattle.code.specs.Rows.{Explains}
use Rattle.field.specs.Field.{Ops}
use Rattle.packet.specs.Bytes.{word}
use Rattle.packet.specs.Layout.{number_at, carried}
use Rattle.packet.specs.declared.Job.{Job}
use Rattle.receiver.specs.Examining.{front_checks, Examined, Judges, Judged}
use Rattle.receiver.specs.Machine.{State, settled, heard, known, against, offer_checks}
use Rattle.receiver.specs.declared.fault.ReceiverFault.{ReceiverFault}
use Rattle.receiver.proofs.Stored.{packet_is}

-- a check behind others decides if none of them does
pub first_stop : {A : Type 0} (os : List (Option A)) (x : Option A) (f : A) → first os ≡ Some f → first (os ++ x ∷ []) ≡ Some f
first_stop [] None f e = e
first_stop [] (Some a) f e = cc
first_stop (None ∷ os) x f e = first_stop os x f e
first_stop (Some a ∷ os) x f e = e

pub first-last : {A : Type 0} (os : List (Option A)) (x : Option A) → first os ≡ None → first (os ++ x ∷ []) ≡ x
first-last [] None e = refl
first-last [] (Some a) e = refl
first-last (None ∷ os) x e = first-last os x e
first-last (Some a ∷ os) x e = cc

module _ (o : Ops) (p : PlanView) (j : Job) (s : State) (bs : List ℕ) where
  refused : (f : ReceiverFault) (row : List ℕ) → ((M : List ℕ) → first (offer_checks o p j M s bs) ≡ Some f) → Judged o p j s bs (Err f) row
  refused f row is = record { answers = λ M _. sym (ap (λ x. answered x (word bs number_at)) (is M)); reads = λ e. absurd (false≢true e) }

  module _ (size : o.size ≡ p.q) where
    behind : (M : List ℕ) → first (offer_checks o p j M s bs)
        ≡ first (front_checks p j bs ++ against (heard s (word bs number_at)) (carried p bs) (known o p M s (word bs number_at)) ∷ [])
    behind M = skip _ _ (unless_true _ _ (eq-eqb o.size p.q size))

    pub judged_front : (f : ReceiverFault) (row : List ℕ) → Examined p j bs (Err f) row → Judged o p j s bs (Err f) row
    judged_front f row examined = refused f row (λ M. behind M ∙ first_stop (front_checks p j bs) _ f (answered_err _ f _ examined.answers))

    -- the checks before the last passed: number and row are what the bytes carry
    module _ (n : ℕ) (row : List ℕ) (examined : Examined p j bs (Ok n) row) where
      none : first (front_checks p j bs) ≡ None
      none = (answered_ok _ _ _ examined.answers).0

      is_number : n ≡ word bs number_at
      is_number = (answered_ok _ _ _ examined.answers).1

      -- so the last check decides
      last_decides : (r : Result (Unit {0}) ReceiverFault) → Judges o p s (record { number = n; row = row }) r
          → (M : List ℕ) → (o.size ≡ p.q → settled p s ≡ true → Explains o p M s.stored) → r ≡ answered (first (offer_checks o p j M s bs)) tt
      last_decides r judges M fits =
          subst (λ k. Judges o p s k r) (packet_is _ _ _ _ is_number (examined.reads none)) judges M (fits size)
          ∙ ap (λ x. answered x tt) (sym (behind M ∙ first-last (front_checks p j bs) _ none))

      pub judged_last : (f : ReceiverFault) → Judges o p s (record { number = n; row = row }) (Err f) → Judged o p j s bs (Err f) row
      judged_last f judges = record {
        answers = λ M fits. sym (ap (λ x. answered x (word bs number_at)) (answered_err _ f tt (last_decides (Err f) judges M fits)));
        reads = λ e. absurd (false≢true e);
      }

      pub judged_well : (u : Unit {0}) → Judges o p s (record { number = n; row = row }) (Ok u) → Judged o p j s bs (Ok n) row
      judged_well u judges = record {
        answers = λ M fits. rw (answered_ok _ u tt (last_decides (Ok u) judges M fits)).0 (ap Ok is_number);
        reads = λ _. examined.reads none;
      }
