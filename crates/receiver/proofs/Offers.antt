-- Once m accepted packets are one message's, exactly the new packets of that message are accepted. Assumes nothing.
use Rattle.std.proofs.Common.{◌≡◌, ℕ, ◌+◌, ◌<◌, true, List, length, Some, None, sym, ap, ◌∙◌, subst, inl, inr, arith}
use Rattle.std.specs.List.{AllByRecursion}
use Rattle.std.proofs.lemmas.Bool.{cases_Bool}
use Rattle.checks.specs.Checks.{first}
use Rattle.checks.proofs.Order.{none_some}
use Rattle.code.specs.Plans.{PlanView, Sound}
use Rattle.code.specs.Rows.{Packet, Message, row, Fits, Explains}
use Rattle.code.specs.Settles.{New}
use Rattle.code.proofs.Rows.{length-row}
use Rattle.code.proofs.Whole.{row-elements}
use Rattle.field.specs.Field.{Ops, Lawful}
use Rattle.packet.specs.Bytes.{word}
use Rattle.packet.specs.Layout.{number_at, carried, laid}
use Rattle.packet.specs.declared.Job.{Job}
use Rattle.packet.proofs.Reading.{headed-laid, laid-headed, laid-number, laid-row}
use Rattle.receiver.specs.Machine.{offer, Answer, refuses, State, settled, heard, known, judged, against, offer_checks, Step}
use Rattle.receiver.specs.Runs.{AtLeast, OfferedRight}
use Rattle.receiver.specs.declared.fault.ReceiverFault.TheVariants.{Contradicts}
use Rattle.receiver.proofs.Invariant.{Inv, stored_one, explains_stored, consistent, new_unheard, accepted_new, accepted-fits}
use Rattle.receiver.proofs.Known.{known_is, against_same, judged_none}
use Rattle.receiver.proofs.Passing.{decided-view, Passed, passed, only-last}
use Rattle.receiver.proofs.Readings.{length_less}
use Rattle.receiver.proofs.Picked.{at_least_length, picked}

-- m accepted packets are the message M's, so that it fits all of them
module _ (o : Ops) (lawful : Lawful o) (p : PlanView) (sound : Sound p) (s : State) (ks : List Packet) (inv : Inv o p s ks)
    (M : List ℕ) (message : Message p M) (many : AtLeast p.m (Fits o p M) ks) where
  pub many_sized : o.size ≡ p.q
  many_sized = elim inv.sized [
    | inl e ↦ absurd (omega (arith, at_least_length _ _ ks many, ap length e, sound.m_least))
    | inr e ↦ e
  ]

  pub many-fits : Explains o p M ks
  many-fits =
      let (N, x) = consistent o lawful p sound s ks inv in
      let same : M ≡ N = picked o lawful p sound many_sized ks inv.good inv.apart M N x message many in
      subst (λ N. Explains o p N ks) (sym same) x

module _ (o : Ops) (lawful : Lawful o) (p : PlanView) (sound : Sound p) (j : Job) (s t : State) (ks : List Packet) (inv : Inv o p s ks)
    (bs : List ℕ) (bytes : AllByRecursion (λ b. b < 256) bs) (a : Answer) (after : List ℕ) (step : Step o p j s (offer bs) a after t)
    (M : List ℕ) (message : Message p M) (many : AtLeast p.m (Fits o p M) ks) where
  size : o.size ≡ p.q
  size = many_sized o lawful p sound s ks inv M message many

  full : settled p s ≡ true
  full = elim (cases_Bool (settled p s)) [
    | inl e ↦ e
    | inr e ↦ absurd (omega (arith, at_least_length _ _ ks many, length_less o lawful p sound j s t ks inv e))
  ]

  stored-fits : Explains o p M s.stored
  stored-fits = explains_stored o lawful p sound s ks inv M (many-fits o lawful p sound s ks inv M message many)

  row_is : (n : ℕ) → known o p step.M s n ≡ Some (row o p M n)
  row_is n =
      known_is o p step.M s n full M stored-fits (stored_one o lawful p sound s ks inv size full step.M M (step.fits size full) stored-fits)

  -- a packet of the message passes all checks but the last
  ours : (n : ℕ) → n < p.m + p.r → bs ≡ laid p j n (row o p M n) → first (offer_checks o p j step.M s bs) ≡ judged (heard s n) n None
  ours n l e =
      let elements = row-elements o lawful p sound size M message n in
      let number : word bs number_at ≡ n = ap (λ bs. word bs number_at) e ∙ laid-number p j n (row o p M n) in
      let is : (carried p bs).row ≡ row o p M n = ap (λ bs. (carried p bs).row) e ∙ laid-row p j n (row o p M n) elements in
      let pass : Passed o p j bs = record {
        sized = size;
        headed = rw e (laid-headed p j n (row o p M n) (omega (arith, sound.q_least)) (length-row o p M n));
        good = record {
          inside = omega arith;
          long = ap length is ∙ length-row o p M n;
          elements = rw is elements;
        };
      } in
      only-last o p j step.M s bs pass
      ∙ ap (against (heard s (word bs number_at)) (carried p bs)) (row_is (word bs number_at) ∙ ap Some (ap (row o p M) number ∙ sym is))
      ∙ against_same (heard s (word bs number_at)) (carried p bs)
      ∙ ap (λ n. judged (heard s n) n None) number

  -- bytes that pass are a new packet of the message
  theirs : first (offer_checks o p j step.M s bs) ≡ None
      → (n : ℕ) × (n < p.m + p.r) × (bs ≡ laid p j n (row o p M n)) × New n ks
  theirs none =
      let (k, last) = passed o p j step.M s bs none in
      let fit = accepted-fits o lawful p sound s ks inv step.M (carried p bs) k.good last size (step.fits size) full M stored-fits in (
        word bs number_at,
        k.good.inside,
        headed-laid p j bs bytes k.headed ∙ ap (laid p j (word bs number_at)) (sym fit),
        accepted_new o lawful p sound s ks inv step.M (carried p bs) k.good last,
      )

  pub offered_right : OfferedRight o p j M ks bs a
  offered_right = elim (decided-view (first (offer_checks o p j step.M s bs)) bs s _ a after t step.ruled) [
    | inl q ↦ record {
      accepts = (
        (λ r. absurd (cc (q.2, r.1))),
        λ r.
            let (n, l, e, new) = r in
            absurd (none_some _ _ (ours n l e ∙ ap (λ b. judged b n None) (new_unheard o lawful p sound s ks inv n new)) q.1),
      );
      agrees = λ n place l e r.
          let same : refuses q.0 ≡ refuses (Contradicts place) = sym q.2 ∙ r in
          let f : q.0 ≡ Contradicts place = cc in
          judged_none (heard s n) n place (sym (ours n l e) ∙ q.1 ∙ ap Some f);
    }
    | inr q ↦ record {
      accepts = ((λ r. theirs q.0), λ r. (_, q.1));
      agrees = λ n place l e r. cc (r, q.1);
    }
  ]
