-- The machine has one outcome for each call, and it leads to a state that is reached. Assumes nothing.
use Rattle.std.proofs.Common.{◌≡◌, ℕ, true, false, cond, List, [], length, Some, None, Option, sym, refl, ap, ◌∙◌, inl, inr, arith}
use Rattle.std.specs.Option.{option_or}
use Rattle.std.proofs.lemmas.Bool.{both_ways, cases_Bool, cases_eq, ne_eqb, leb-true}
use Rattle.checks.specs.Checks.{first}
use Rattle.checks.proofs.Order.{unless_none, first_none}
use Rattle.code.specs.Plans.{PlanView, Sound}
use Rattle.code.specs.Rows.{row, Explains}
use Rattle.code.specs.Settles.{Different}
use Rattle.code.proofs.Settling.{one_message, some_message}
use Rattle.field.specs.Field.{Ops, Lawful}
use Rattle.packet.specs.Bytes.{word}
use Rattle.packet.specs.Layout.{number_at, carried}
use Rattle.packet.specs.declared.Job.{Job}
use Rattle.receiver.specs.Machine.{Call, offer, read, rebuild, Answer, filled, State, settled, find, known, Outcome, decided, rule, Step}
use Rattle.receiver.specs.Machine.{offer_checks, read_checks, rebuild_checks}
use Rattle.receiver.specs.States.{Reached, Settles}
use Rattle.receiver.specs.declared.fault.ReceiverFault.{ReceiverFault}
use Rattle.receiver.proofs.Growing.{not_heard, keeps}
use Rattle.receiver.proofs.Passing.{decided-view, passed}
use Rattle.receiver.proofs.Unlike.{unlike_apart}

module _ (o : Ops) (p : PlanView) (j : Job) (s : State) where
  -- over a field of another size every call is refused
  other : (o.size ≡ p.q → ⊥) → (M N : List ℕ) (c : Call) → rule o p j M s c ≡ rule o p j N s c
  other ne M N (offer bs) = rw (ne_eqb o.size p.q ne)
  other ne M N (read buffer) = rw (ne_eqb o.size p.q ne)
  other ne M N (rebuild n buffer) = rw (ne_eqb o.size p.q ne)

  -- with fewer than m the message is not looked at
  known_same : settled p s ≡ false → (M N : List ℕ) (n : ℕ) → known o p M s n ≡ known o p N s n
  unfolding known
  known_same less M N n = ap (option_or (find n s.stored))
      (ap (λ b. cond b (Some (row o p M n)) None) less ∙ sym (ap (λ b. cond b (Some (row o p N n)) None) less))

  early : settled p s ≡ false → (M N : List ℕ) (c : Call) → rule o p j M s c ≡ rule o p j N s c
  early less M N (offer bs) = rw (known_same less M N (word bs number_at))
  early less M N (read buffer) = go (first (read_checks o p j M s buffer)) refl
    where
      go : (x : Option ReceiverFault) → first (read_checks o p j M s buffer) ≡ x
          → decided x buffer s (record { answer = filled; after = M; state = s })
          ≡ decided x buffer s (record { answer = filled; after = N; state = s })
      go (Some f) e = refl
      go None e = let h = first_none (read_checks o p j M s buffer) e in absurd (both_ways _ less (unless_none _ _ h.1.1.0))
  early less M N (rebuild n buffer) = rw (known_same less M N n)

module _ (o : Ops) (lawful : Lawful o) (p : PlanView) (sound : Sound p) (j : Job) (s : State) (reached : Reached p s) where
  apart : Different s.stored
  apart = unlike_apart s.stored s.later reached.apart

  -- one message, and one set of rules
  one-rule : (c : Call) (M N : List ℕ) → (o.size ≡ p.q → settled p s ≡ true → Explains o p M s.stored)
      → (o.size ≡ p.q → settled p s ≡ true → Explains o p N s.stored) → rule o p j M s c ≡ rule o p j N s c
  one-rule c M N fits-m fits_n = elim (cases_eq o.size p.q) [
    | inr ne ↦ other o p j s ne M N c
    | inl size ↦ elim (cases_Bool (settled p s)) [
      | inr less ↦ early o p j s less M N c
      | inl full ↦ (
          let many : length s.stored ≡ p.m = omega (arith, reached.few, leb-true _ _ full) in
          ap (λ M. rule o p j M s c)
          (one_message o lawful p sound size s.stored many reached.good apart M N (fits-m size full) (fits_n size full))
          )
    ]
  ]

  -- a message that fits what is stored, once m are
  pub fitting : (M : List ℕ) × (o.size ≡ p.q → settled p s ≡ true → Explains o p M s.stored)
  fitting = elim (cases_eq o.size p.q) [
    | inr ne ↦ ([], λ size. absurd (ne size))
    | inl size ↦ (
        let (M, e) = some_message o lawful p sound size s.stored reached.few reached.good apart in
        (M, λ _ _. e)
        )
  ]

-- a step leads to a state that is reached
pub step_reached : (o : Ops) (p : PlanView) (j : Job) (s : State) → Reached p s
    → (c : Call) (a : Answer) (after : List ℕ) (t : State) → Step o p j s c a after t → Reached p t
step_reached o p j s reached (offer bs) a after t step =
    elim (decided-view (first (offer_checks o p j step.M s bs)) bs s _ a after t step.ruled) [
      | inl r ↦ rw r.3 reached
      | inr r ↦ (
          let (k, last) = passed o p j step.M s bs r.0 in
          rw r.3 (keeps p s reached (carried p bs) k.good (not_heard p s reached o step.M (carried p bs) k.good last))
          )
    ]
step_reached o p j s reached (read buffer) a after t step =
    elim (decided-view (first (read_checks o p j step.M s buffer)) buffer s _ a after t step.ruled)
    [ inl r ↦ rw r.3 reached | inr r ↦ rw r.3 reached ]
step_reached o p j s reached (rebuild n buffer) a after t step =
    elim (decided-view (first (rebuild_checks o p j step.M s n buffer)) buffer s _ a after t step.ruled)
    [ inl r ↦ rw r.3 reached | inr r ↦ rw r.3 reached ]

pub settles : Settles
settles o lawful p sound j s reached c =
    let (M, fits) = fitting o lawful p sound j s reached in
    let out : Outcome = rule o p j M s c in
    let step : Step o p j s c out.answer out.after out.state = record { M = M; fits = fits; ruled = refl } in (
      out,
      step,
      step_reached o p j s reached c _ _ _ step,
      λ a after t other. one-rule o lawful p sound j s reached c M other.M fits other.fits ∙ other.ruled,
    )
