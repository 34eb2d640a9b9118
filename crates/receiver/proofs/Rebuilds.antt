-- A rebuild answers exactly what the accepted packets settle of its number. Assumes nothing.
use Rattle.std.proofs.Common.{◌≡◌, ℕ, ◌+◌, ◌<◌, ◌≤◌, true, List, [], ◌++◌, length, drop, is_some, Some, None, Option, unwrap_or, sym, refl, ap, ◌∙◌, subst, inl, inr}
use Rattle.std.proofs.lemmas.Bool.{eqb-true, eq-eqb, le-leb, lt-ltb}
use Rattle.checks.specs.Checks.{first}
use Rattle.checks.proofs.Order.{none_some, unless_none, unless_true, first_none, skip}
use Rattle.code.specs.Plans.{PlanView, Sound}
use Rattle.code.specs.Rows.{Packet, row, Explains}
use Rattle.code.specs.Settles.{New}
use Rattle.code.proofs.Settling.{two_messages}
use Rattle.field.specs.Field.{Ops, Lawful}
use Rattle.packet.specs.Layout.{laid, packet_length}
use Rattle.packet.specs.declared.Job.{Job}
use Rattle.receiver.specs.Machine.{rebuild, Answer, wrote, State, known, rebuild_checks, Step}
use Rattle.receiver.specs.Runs.{OneRow, rebuilt, RebuiltRight}
use Rattle.receiver.proofs.Invariant.{Inv, all-stored, stored_one, explains_stored}
use Rattle.receiver.proofs.Known.{known_none, known_right}
use Rattle.receiver.proofs.Passing.{decided-view}
use Rattle.receiver.proofs.Readings.{length_less}

value_some : (x : Option (List ℕ)) → is_some x ≡ true → x ≡ Some (unwrap_or x [])
value_some None e = cc
value_some (Some y) e = refl

module _ (o : Ops) (lawful : Lawful o) (p : PlanView) (sound : Sound p) (j : Job) (s t : State) (ks : List Packet) (inv : Inv o p s ks)
    (n : ℕ) (buffer : List ℕ) (a : Answer) (after : List ℕ) (step : Step o p j s (rebuild n buffer) a after t) where
  abbrev known_row : List ℕ
  known_row = unwrap_or (known o p step.M s n) []

  rebuild_passed : (l : ℕ) → a ≡ wrote l → (o.size ≡ p.q) × (known o p step.M s n ≡ Some known_row)
      × (after ≡ laid p j n known_row ++ drop (packet_length p) buffer)
  rebuild_passed l e = elim (decided-view (first (rebuild_checks o p j step.M s n buffer)) buffer s _ a after t step.ruled) [
    | inl r ↦ absurd (cc (r.2, e))
    | inr r ↦ (
        let h = first_none (rebuild_checks o p j step.M s n buffer) r.0 in
        (eqb-true _ _ (unless_none _ _ h.0), value_some _ (unless_none _ _ h.1.1.1.0), r.2)
        )
  ]

  rebuild-answered : o.size ≡ p.q → n < p.m + p.r → packet_length p ≤ length buffer → is_some (known o p step.M s n) ≡ true
      → a ≡ wrote (packet_length p)
  rebuild-answered size inside long full =
      elim (decided-view (first (rebuild_checks o p j step.M s n buffer)) buffer s _ a after t step.ruled) [
        | inl r ↦ absurd (none_some _ _ (
            skip _ _ (unless_true _ _ (eq-eqb _ _ size)) ∙ skip _ _ (unless_true _ _ (lt-ltb _ _ inside))
            ∙ skip _ _ (unless_true _ _ (le-leb _ _ long)) ∙ skip _ _ (unless_true _ _ full)) r.1)
        | inr r ↦ r.1
      ]

  row-known : (l : ℕ) → a ≡ wrote l → (M : List ℕ) → Explains o p M ks → row o p M n ≡ known_row
  row-known l e M x =
      let (size, is, _) = rebuild_passed l e in
      let y = explains_stored o lawful p sound s ks inv M x in
      known_right o p step.M s n _ is M y (λ full. stored_one o lawful p sound s ks inv size full step.M M (step.fits size full) y)

  -- what is rebuilt is the packet of the message that fits
  pub rebuild-content : (l : ℕ) → a ≡ wrote l → (M : List ℕ) → Explains o p M ks → after ≡ rebuilt o p j M n buffer
  rebuild-content l e M x = (rebuild_passed l e).2 ∙ ap (λ y. laid p j n y ++ drop (packet_length p) buffer) (sym (row-known l e M x))

  pub rebuild_right : o.size ≡ p.q → n < p.m + p.r → packet_length p ≤ length buffer → RebuiltRight o p j ks n buffer a after
  rebuild_right size inside long = record {
    answered = ((λ e M N x y. row-known _ e M x ∙ sym (row-known _ e N y)), λ one. go one (known o p step.M s n) refl);
    content = rebuild-content (packet_length p);
  }
    where
      go : OneRow o p j n ks → (x : Option (List ℕ)) → known o p step.M s n ≡ x → a ≡ wrote (packet_length p)
      go one (Some y) e = rebuild-answered size inside long (ap is_some e)
      go one None e =
          let (new, less) = known_none o p step.M s n e in
          let new' : New n ks = subst (λ xs. New n xs) (sym (all-stored o lawful p sound s ks inv less)) new in
          let few = length_less o lawful p sound j s t ks inv less in
          let (M, N, x, y, not) = two_messages o lawful p sound size ks few inv.good inv.apart n inside new' in
          absurd (not (one M N x y))
