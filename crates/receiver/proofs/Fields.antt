-- What the fields of every receiver say of the state that it holds. Assumes nothing.
use Rattle.std.proofs.Common.{◌≡◌, ℕ, ◌≤◌, true, leb, List, length, take, drop, ◌++◌, ◌||◌, ◌==◌, sym, ap, ◌∙◌, arith}
use Rattle.std.proofs.lemmas.List.{take-append-drop}
use Rattle.std.proofs.lemmas.List.Folds.{list_any-append}
use Rattle.code.specs.Rows.{Explains}
use Rattle.code.proofs.Views.{sound_of}
use Rattle.field.specs.Field.{Ops, Lawful}
use Rattle.receiver.specs.Machine.{count, settled, heard, has}
use Rattle.receiver.specs.Receivers.{plan_of, state_of}
use Rattle.receiver.specs.Shelves.{shelved}
use Rattle.receiver.specs.States.{Reached}
use Rattle.receiver.specs.declared.receiver.Receiver.{Receiver}
use Rattle.receiver.proofs.Reaches.{reached_of}
use Rattle.receiver.proofs.Settled.{fitting}
use Rattle.receiver.proofs.Shelves.{heard-state, count-state}
use Rattle.receiver.proofs.Stored.{settled_by}

module _ (r : Receiver) where
  pub few : r.count ≤ length r.numbers
  few = omega (arith, r.room, r.plan.few_data, r.plan.few_checks, r.places)

  pub reached_by : Reached (plan_of r) (state_of r)
  reached_by =
      reached_of (plan_of r) (sound_of r.plan) r.count r.numbers (shelved r.shelf) few r.whole
      (record { room = r.room; inside = r.inside; apart = r.apart; symbols = r.symbols })

  pub heard_fields : (n : ℕ) → heard (state_of r) n ≡ has n (take r.count r.numbers)
  heard_fields = heard-state (plan_of r).m (plan_of r).L r.count r.numbers (shelved r.shelf) few

  -- in a part in front and a part behind it
  pub heard_parts : (n k : ℕ) → heard (state_of r) n ≡ (has n (take k (take r.count r.numbers)) || has n (drop k (take r.count r.numbers)))
  heard_parts n k =
      heard_fields n ∙ ap (has n) (sym (take-append-drop k (take r.count r.numbers)))
      ∙ list_any-append (λ x. x == n) (take k (take r.count r.numbers)) (drop k (take r.count r.numbers))

  pub count_fields : count (state_of r) ≡ r.count
  count_fields = count-state (plan_of r).m (plan_of r).L r.count r.numbers (shelved r.shelf) few

  pub settled_fields : settled (plan_of r) (state_of r) ≡ leb (plan_of r).m r.count
  settled_fields = sym (settled_by (plan_of r) r.count r.numbers (shelved r.shelf))

  -- some message that fits what is stored, once m are
  pub message : (o : Ops) → Lawful o
      → (M : List ℕ) × (o.size ≡ (plan_of r).q → settled (plan_of r) (state_of r) ≡ true → Explains o (plan_of r) M (state_of r).stored)
  message o lawful = fitting o lawful (plan_of r) (sound_of r.plan) r.job (state_of r) reached_by
