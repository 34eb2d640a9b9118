-- How an offer of the machine is shown of code. Assumes nothing.
use Rattle.std.proofs.Common.{◌≡◌, ℕ, true, List, None, Ok, Err, sym, refl, ap, ◌∙◌}
use Rattle.checks.specs.Checks.{first}
use Rattle.checks.proofs.Order.{answered_ok, answered_err}
use Rattle.code.specs.Plans.{PlanView}
use Rattle.code.specs.Rows.{Explains}
use Rattle.field.specs.Field.{Ops, Lawful}
use Rattle.packet.specs.Layout.{carried}
use Rattle.packet.specs.declared.Job.{Job}
use Rattle.receiver.specs.Examining.{Judged}
use Rattle.receiver.specs.Machine.{offer, counts, refuses, State, count, settled, keeping, Outcome, decided, offer_checks, Step}
use Rattle.receiver.specs.Receivers.{plan_of, job_of, state_of, kept}
use Rattle.receiver.specs.States.{Reached}
use Rattle.receiver.specs.declared.fault.ReceiverFault.{ReceiverFault}
use Rattle.receiver.specs.declared.receiver.Receiver.{Receiver}
use Rattle.receiver.proofs.Fields.{message, reached_by}
use Rattle.receiver.proofs.Stored.{packet_is}
use Rattle.receiver.proofs.Settled.{step_reached}

module _ (o : Ops) (lawful : Lawful o) (r : Receiver) (bs : List ℕ) where
  abbrev p : PlanView
  p = plan_of r

  abbrev j : Job
  j = job_of r

  abbrev s : State
  s = state_of r

  abbrev accepting : Outcome
  accepting = record { answer = counts (count (keeping p s (carried p bs))); after = bs; state = keeping p s (carried p bs) }

  pub refuses_offer : (f : ReceiverFault) (row : List ℕ) → Judged o p j s bs (Err f) row → Step o p j s (offer bs) (refuses f) bs s
  refuses_offer f row judged =
      let (M, fits) = message r o lawful in
      record { M = M; fits = fits; ruled = ap (λ x. decided x bs s accepting) (answered_err _ f _ (judged.answers M fits)) }

  -- no check applies
  module _ (n : ℕ) (row : List ℕ) (judged : Judged o p j s bs (Ok n) row) where
    passes : (M : List ℕ) → (o.size ≡ p.q → settled p s ≡ true → Explains o p M s.stored) → first (offer_checks o p j M s bs) ≡ None
    passes M fits = (answered_ok _ _ _ (judged.answers M fits)).0

    is_kept : kept r n row ≡ keeping p s (carried p bs)
    is_kept =
        let (M, fits) = message r o lawful in
        ap (keeping p s) (packet_is _ _ _ _ (answered_ok _ _ _ (judged.answers M fits)).1 (judged.reads refl))

    pub accepts : (k : ℕ) (t : State) → t ≡ kept r n row → k ≡ count t → Step o p j s (offer bs) (counts k) bs t
    accepts k t same many =
        let (M, fits) = message r o lawful in
        let there : keeping p s (carried p bs) ≡ t = sym (same ∙ is_kept) in
        record {
          M = M;
          fits = fits;
          ruled = ap (λ x. decided x bs s accepting) (passes M fits)
              ∙ ap (λ u. record { answer = counts (count u); after = bs; state = u }) there
              ∙ ap (λ c. record { answer = counts c; after = bs; state = t }) (sym many);
        }

    pub accepted_reached : Reached p (kept r n row)
    accepted_reached =
        step_reached o p j s (reached_by r) (offer bs) (counts (count (kept r n row))) bs (kept r n row) (accepts _ _ refl refl)
