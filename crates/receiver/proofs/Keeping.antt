-- Every run keeps the promise. Assumes nothing.
use Rattle.std.proofs.Common.{◌≡◌, ℕ, List, [], ◌∷◌, ◌++◌, subst}
use Rattle.std.specs.List.{AllByRecursion}
use Rattle.code.specs.Plans.{PlanView, Sound}
use Rattle.code.specs.Rows.{Packet, Message, Fits, Explains}
use Rattle.field.specs.Field.{Ops, Lawful}
use Rattle.packet.specs.declared.Job.{Job}
use Rattle.receiver.specs.Machine.{Call, offer, read, rebuild, Answer, State, opened, Step}
use Rattle.receiver.specs.Runs.{Event, Bytes, Runs, accepted, AtLeast, AsKnown, IsTheMessages, Settled, Kept, Promise}
use Rattle.receiver.proofs.Finding.{all-front}
use Rattle.receiver.proofs.Invariant.{Inv, consistent}
use Rattle.receiver.proofs.Offers.{many-fits, offered_right}
use Rattle.receiver.proofs.Readings.{read-content, read_right}
use Rattle.receiver.proofs.Rebuilds.{rebuild-content, rebuild_right}
use Rattle.receiver.proofs.Steps.{run_inv, runs_split, accepted-append}

-- one call, where the machine stands at s and the packets ks are accepted
module _ (o : Ops) (lawful : Lawful o) (p : PlanView) (sound : Sound p) (j : Job) (s t : State) (ks : List Packet) (inv : Inv o p s ks) where
  known_at : (c : Call) (a : Answer) (after : List ℕ) → Step o p j s c a after t → AsKnown o p j ks c a after
  known_at (offer bs) a after step = tt
  known_at (read buffer) a after step = read_right o lawful p sound j s t ks inv buffer a after step
  known_at (rebuild n buffer) a after step = rebuild_right o lawful p sound j s t ks inv n buffer a after step

  message_at : (c : Call) (a : Answer) (after : List ℕ) → Step o p j s c a after t
      → (M : List ℕ) → Explains o p M ks → IsTheMessages o p j M c a after
  message_at (offer bs) a after step M x = tt
  message_at (read buffer) a after step M x = λ e. read-content o lawful p sound j s t ks inv buffer a after step e M x
  message_at (rebuild n buffer) a after step M x = λ l e. rebuild-content o lawful p sound j s t ks inv n buffer a after step l e M x

  settled_at : (c : Call) (a : Answer) (after : List ℕ) → Step o p j s c a after t → Bytes c
      → (M : List ℕ) → Message p M → AtLeast p.m (Fits o p M) ks → Settled o p j M ks c a
  settled_at (offer bs) a after step bytes M message many = offered_right o lawful p sound j s t ks inv bs bytes a after step M message many
  settled_at (read buffer) a after step bytes M message many = tt
  settled_at (rebuild n buffer) a after step bytes M message many = tt

the_call : (before after : List Event) (e : Event) → AllByRecursion (λ e. Bytes e.call) (before ++ e ∷ after) → Bytes e.call
the_call [] after e h = h.0
the_call (b ∷ before) after e h = the_call before after e h.1

module _ (o : Ops) (lawful : Lawful o) (p : PlanView) (sound : Sound p) (j : Job) where
  -- where the machine stands after the front part of a run
  at_call : (es before after : List Event) (e : Event) (u : State) → Runs o p j opened es u → es ≡ before ++ e ∷ after
      → (s t : State) × Inv o p s (accepted p before) × Step o p j s e.call e.answer e.after t
  at_call es before after e u run is =
      let (s, first, then) = runs_split o p j before (e ∷ after) opened u (rw is at run) in
      let (t, step, _) = then in
      (s, t, run_inv o lawful p sound j before s first, step)

  front : (before after : List Event) (M : List ℕ) → Explains o p M (accepted p (before ++ after)) → Explains o p M (accepted p before)
  front before after M x = record {
    message = x.message;
    fits = all-front (Fits o p M) (accepted p before) (accepted p after) (rw (accepted-append p before after) at x.fits);
  }

  pub kept : (es : List Event) → AllByRecursion (λ e. Bytes e.call) es → (u : State) → Runs o p j opened es u → Kept o p j es
  kept es bytes u run = record {
    consistent = λ before after is.
        let (s, first, _) = runs_split o p j before after opened u (rw is at run) in
        consistent o lawful p sound s _ (run_inv o lawful p sound j before s first);
    as_known = λ before after e is.
        let (s, t, inv, step) = at_call es before after e u run is in
        known_at o lawful p sound j s t (accepted p before) inv e.call e.answer e.after step;
    one_message = λ M message many before after e is.
        let (s, t, inv, step) = at_call es before after e u run is in
        let all = many-fits o lawful p sound u (accepted p es) (run_inv o lawful p sound j es u run) M message many in
        let part = front before (e ∷ after) M (subst (λ es. Explains o p M (accepted p es)) is all) in
        message_at o lawful p sound j s t (accepted p before) inv e.call e.answer e.after step M part;
    settled = λ M message before after e is many.
        let (s, t, inv, step) = at_call es before after e u run is in
        let offered = the_call before after e (rw is at bytes) in
        settled_at o lawful p sound j s t (accepted p before) inv e.call e.answer e.after step offered M message many;
  }

pub promise : Promise
promise o lawful p sound j es bytes u run = kept o lawful p sound j es bytes u run
