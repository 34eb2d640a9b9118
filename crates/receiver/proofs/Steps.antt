-- Every call and every run keep the invariant. Assumes nothing.
use Rattle.std.proofs.Common.{◌≡◌, ℕ, List, [], ◌∷◌, ◌++◌, sym, refl, ap, ◌∙◌, inl, inr}
use Rattle.std.proofs.lemmas.List.{append-nil, append_assoc}
use Rattle.checks.specs.Checks.{first}
use Rattle.code.specs.Plans.{PlanView, Sound}
use Rattle.code.specs.Rows.{Packet}
use Rattle.field.specs.Field.{Ops, Lawful}
use Rattle.packet.specs.Layout.{carried}
use Rattle.packet.specs.declared.Job.{Job}
use Rattle.receiver.specs.Machine.{Call, offer, read, rebuild, Answer, State, opened, offer_checks, read_checks, rebuild_checks, Step}
use Rattle.receiver.specs.Runs.{Event, Runs, taken, accepted}
use Rattle.receiver.proofs.Invariant.{Inv, starts, kept}
use Rattle.receiver.proofs.Passing.{decided-view, passed}

module _ (o : Ops) (lawful : Lawful o) (p : PlanView) (sound : Sound p) (j : Job) where
  pub step_inv : (s t : State) (ks : List Packet) (c : Call) (a : Answer) (after : List ℕ)
      → Inv o p s ks → Step o p j s c a after t → Inv o p t (ks ++ taken p c a)
  step_inv s t ks (offer bs) a after inv step =
      elim (decided-view (first (offer_checks o p j step.M s bs)) bs s _ a after t step.ruled) [
        | inl r ↦ rw (r.2, r.3, append-nil ks) inv
        | inr r ↦ (
            let (k, last) = passed o p j step.M s bs r.0 in
            rw (r.1, r.3) (kept o lawful p sound s ks inv step.M (carried p bs) k.good last k.sized (step.fits k.sized))
            )
      ]
  step_inv s t ks (read buffer) a after inv step =
      elim (decided-view (first (read_checks o p j step.M s buffer)) buffer s _ a after t step.ruled) [
        | inl r ↦ rw (r.3, append-nil ks) inv
        | inr r ↦ rw (r.3, append-nil ks) inv
      ]
  step_inv s t ks (rebuild n buffer) a after inv step =
      elim (decided-view (first (rebuild_checks o p j step.M s n buffer)) buffer s _ a after t step.ruled) [
        | inl r ↦ rw (r.3, append-nil ks) inv
        | inr r ↦ rw (r.3, append-nil ks) inv
      ]

  grown : (es : List Event) (s u : State) (ks : List Packet) → Inv o p s ks → Runs o p j s es u → Inv o p u (ks ++ accepted p es)
  grown [] s u ks inv run = rw (← run, append-nil ks) inv
  grown (e ∷ es) s u ks inv (t, step, run) =
      rw (← append_assoc ks (taken p e.call e.answer) (accepted p es))
      (grown es t u _ (step_inv s t ks e.call e.answer e.after inv step) run)

  -- after a run from the start the state has the packets that were accepted
  pub run_inv : (es : List Event) (u : State) → Runs o p j opened es u → Inv o p u (accepted p es)
  run_inv es u run = grown es opened u [] (starts o p) run

-- the parts of a run
pub runs_split : (o : Ops) (p : PlanView) (j : Job) (es fs : List Event) (s u : State) → Runs o p j s (es ++ fs) u
    → (t : State) × Runs o p j s es t × Runs o p j t fs u
runs_split o p j [] fs s u run = (s, refl, run)
runs_split o p j (e ∷ es) fs s u (t, step, run) =
    let (v, a, b) = runs_split o p j es fs t u run in (v, (t, step, a), b)

pub accepted-append : (p : PlanView) (es fs : List Event) → accepted p (es ++ fs) ≡ accepted p es ++ accepted p fs
accepted-append p [] fs = refl
accepted-append p (e ∷ es) fs =
    ap (λ ks. taken p e.call e.answer ++ ks) (accepted-append p es fs)
    ∙ sym (append_assoc (taken p e.call e.answer) (accepted p es) (accepted p fs))
