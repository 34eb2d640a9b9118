-- A reading answers exactly what the accepted packets settle. Assumes nothing.
use Rattle.std.proofs.Common.{◌≡◌, ℕ, ◌*◌, ◌<◌, true, false, List, length, ap, ◌∙◌, inl, inr, arith}
use Rattle.std.proofs.lemmas.Bool.{cases_Bool, eqb-true, eq-eqb, leb-false}
use Rattle.checks.specs.Checks.{first}
use Rattle.checks.proofs.Order.{none_some, unless_none, unless_true, first_none, skip}
use Rattle.code.specs.Plans.{PlanView, Sound}
use Rattle.code.specs.Rows.{Packet, row, Explains}
use Rattle.code.proofs.Settling.{two_messages, new_number}
use Rattle.field.specs.Field.{Ops, Lawful}
use Rattle.packet.specs.declared.Job.{Job}
use Rattle.receiver.specs.Machine.{read, Answer, filled, State, settled, read_checks, Step}
use Rattle.receiver.specs.Runs.{ReadRight}
use Rattle.receiver.proofs.Invariant.{Inv, all-stored, stored_one, explains_stored}
use Rattle.receiver.proofs.Passing.{decided-view}

module _ (o : Ops) (lawful : Lawful o) (p : PlanView) (sound : Sound p) (j : Job) (s t : State) (ks : List Packet) (inv : Inv o p s ks) where
  pub length_less : settled p s ≡ false → length ks < p.m
  length_less less = omega (arith, ap length (all-stored o lawful p sound s ks inv less), leb-false _ _ less)

  module _ (buffer : List ℕ) (a : Answer) (after : List ℕ) (step : Step o p j s (read buffer) a after t) where
    read_passed : a ≡ filled → (o.size ≡ p.q) × (settled p s ≡ true) × (after ≡ step.M)
    read_passed e = elim (decided-view (first (read_checks o p j step.M s buffer)) buffer s _ a after t step.ruled) [
      | inl r ↦ absurd (cc (r.2, e))
      | inr r ↦ (
          let h = first_none (read_checks o p j step.M s buffer) r.0 in
          (eqb-true _ _ (unless_none _ _ h.0), unless_none _ _ h.1.1.0, r.2)
          )
    ]

    read-answered : o.size ≡ p.q → length buffer ≡ p.m * p.L → settled p s ≡ true → a ≡ filled
    read-answered size long full = elim (decided-view (first (read_checks o p j step.M s buffer)) buffer s _ a after t step.ruled) [
      | inl r ↦ absurd (none_some _ _ (
          skip _ _ (unless_true _ _ (eq-eqb _ _ size)) ∙ skip _ _ (unless_true _ _ (eq-eqb _ _ long)) ∙ skip _ _ (unless_true _ _ full)) r.1)
      | inr r ↦ r.1
    ]

    -- what is read is the message that fits
    pub read-content : a ≡ filled → (M : List ℕ) → Explains o p M ks → after ≡ M
    read-content e M x =
        let (size, full, is) = read_passed e in
        is ∙ stored_one o lawful p sound s ks inv size full step.M M (step.fits size full) (explains_stored o lawful p sound s ks inv M x)

    pub read_right : o.size ≡ p.q → length buffer ≡ p.m * p.L → ReadRight o p j ks buffer a after
    read_right size long = record {
      answered = (
        (λ e M N x y. stored_one o lawful p sound s ks inv size (read_passed e).1 M N
            (explains_stored o lawful p sound s ks inv M x) (explains_stored o lawful p sound s ks inv N y)),
        λ one. elim (cases_Bool (settled p s)) [
          | inl full ↦ read-answered size long full
          | inr less ↦ (
              let (n, l, new) = new_number o lawful p sound size ks (length_less less) in
              let (M, N, x, y, not) = two_messages o lawful p sound size ks (length_less less) inv.good inv.apart n l new in
              absurd (not (ap (λ M. row o p M n) (one M N x y)))
              )
        ],
      );
      content = read-content;
    }
