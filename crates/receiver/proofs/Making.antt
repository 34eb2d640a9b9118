-- A run of calls that grows. Assumes nothing.
use Rattle.std.proofs.Common.{◌≡◌, ℕ, ◌+◌, ◌<◌, List, [], ◌∷◌, ◌++◌, length, get_or, take, sym, refl, ap, ◌∙◌, subst}
use Rattle.std.specs.List.{AllByRecursion}
use Rattle.std.proofs.ByRecursion.{All-push}
use Rattle.std.proofs.lemmas.List.{take_more}
use Rattle.code.specs.Plans.{PlanView}
use Rattle.field.specs.Field.{Ops}
use Rattle.packet.specs.declared.Job.{Job}
use Rattle.receiver.specs.Calls.{event, events, Alike, AllAlike, Makes}
use Rattle.receiver.specs.Machine.{opened, Step}
use Rattle.receiver.specs.Receivers.{plan_of, job_of, state_of, Keeps}
use Rattle.receiver.specs.Runs.{Bytes, Runs}
use Rattle.receiver.specs.declared.receiver.Receiver.{Receiver}
use Rattle.receiver.specs.declared.run.Call.{Call}
use Rattle.receiver.specs.declared.run.Done.{Done}
use Rattle.receiver.proofs.Replays.{runs_push}

-- the calls cs were made, ds were done, and the receiver is r now
pub record Going (o : Ops) (p : PlanView) (j : Job) (cs : List Call) (ds : List Done) (r : Receiver) : Type 0 where
  pub plan : plan_of r ≡ p
  pub job : job_of r ≡ j
  pub alike : AllAlike cs ds
  pub bytes : AllByRecursion (λ e. Bytes e.call) (events cs ds)
  pub run : Runs o p j opened (events cs ds) (state_of r)

alike_push : (cs : List Call) (ds : List Done) (c : Call) (d : Done) → AllAlike cs ds → Alike c d → AllAlike (cs ++ c ∷ []) (ds ++ d ∷ [])
alike_push [] [] c d h a = (a, tt)
alike_push [] (e ∷ ds) c d h a = absurd h
alike_push (b ∷ cs) [] c d h a = absurd h
alike_push (b ∷ cs) (e ∷ ds) c d h a = (h.0, alike_push cs ds c d h.1 a)

events_push : (cs : List Call) (ds : List Done) (c : Call) (d : Done) → AllAlike cs ds → events (cs ++ c ∷ []) (ds ++ d ∷ []) ≡ events cs ds ++ event c d ∷ []
events_push [] [] c d h = refl
events_push [] (e ∷ ds) c d h = absurd h
events_push (b ∷ cs) [] c d h = absurd h
events_push (b ∷ cs) (e ∷ ds) c d h = ap (λ es. event b e ∷ es) (events_push cs ds c d h.1)

module _ (o : Ops) (p : PlanView) (j : Job) where
  -- one call more
  going_push : (cs : List Call) (ds : List Done) (r t : Receiver) (c : Call) (d : Done) → Going o p j cs ds r → Makes o r c d t → Keeps r t
      → Going o p j (cs ++ c ∷ []) (ds ++ d ∷ []) t
  going_push cs ds r t c d going makes keeps =
      let es = events_push cs ds c d going.alike in
      let step : Step o p j (state_of r) (event c d).call (event c d).answer (event c d).after (state_of t) =
      subst (λ k. Step o p k (state_of r) (event c d).call (event c d).answer (event c d).after (state_of t)) going.job
      (subst (λ q. Step o q (job_of r) (state_of r) (event c d).call (event c d).answer (event c d).after (state_of t)) going.plan makes.answers) in
      record {
        plan = keeps.plan ∙ going.plan;
        job = keeps.job ∙ going.job;
        alike = alike_push cs ds c d going.alike makes.alike;
        bytes = subst (AllByRecursion (λ e. Bytes e.call)) (sym es) (All-push (λ e. Bytes e.call) (events cs ds) (event c d) going.bytes makes.bytes);
        run = subst (λ es. Runs o p j opened es (state_of t)) (sym es) (runs_push o p j (events cs ds) (event c d) opened (state_of r) (state_of t) going.run step);
      }

  pub going_more : (cs : List Call) (i : ℕ) (ds es : List Done) (r t : Receiver) (c : Call) (d : Done) → i < length cs → c ≡ get_or cs i c → es ≡ ds ++ d ∷ []
      → Going o p j (take i cs) ds r → Makes o r c d t → Keeps r t → Going o p j (take (i + 1) cs) es t
  going_more cs i ds es r t c d within read pushed going makes keeps =
      let more : take (i + 1) cs ≡ take i cs ++ c ∷ [] = take_more cs i c within ∙ ap (λ x. take i cs ++ x ∷ []) (sym read) in
      rw (more, pushed) (going_push (take i cs) ds r t c d going makes keeps)
