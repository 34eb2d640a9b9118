-- The calls settle a run, and a run grows by steps. Assumes nothing.
use Rattle.std.proofs.Common.{◌≡◌, ℕ, List, [], ◌∷◌, ◌++◌, map, sym, refl, ap, subst, ap₂, arith}
use Rattle.code.specs.Plans.{PlanView, Sound}
use Rattle.field.specs.Field.{Ops, Lawful}
use Rattle.packet.specs.declared.Job.{Job}
use Rattle.receiver.specs.Machine.{Call, Answer, State, Outcome, opened, Step}
use Rattle.receiver.specs.Runs.{Event, Runs, OneRun}
use Rattle.receiver.specs.States.{Reached}
use Rattle.receiver.proofs.Settled.{settles}

pub opened_reached : (p : PlanView) → Reached p opened
opened_reached p = record { few = omega arith; early = λ h. refl; good = tt; inside = tt; apart = tt; room = omega arith }

pub runs_push : (o : Ops) (p : PlanView) (j : Job) (es : List Event) (e : Event) (s t u : State) → Runs o p j s es t
    → Step o p j t e.call e.answer e.after u → Runs o p j s (es ++ e ∷ []) u
runs_push o p j [] e s t u run step = (u, subst (λ s. Step o p j s e.call e.answer e.after u) (sym run) step, refl)
runs_push o p j (f ∷ es) e s t u (v, first, run) step = (v, first, runs_push o p j es e v t u run step)

module _ (o : Ops) (lawful : Lawful o) (p : PlanView) (sound : Sound p) (j : Job) where
  -- no other events answer the calls cs from s than es
  abbrev Only : State → List Call → List Event → Type 0
  Only s cs es = (fs : List Event) (v : State) → map (λ e. e.call) fs ≡ cs → Runs o p j s fs v → fs ≡ es

  RunOf : State → List Call → Type 0
  RunOf s cs = (es : List Event) × (u : State) × (map (λ e. e.call) es ≡ cs) × Runs o p j s es u × Only s cs es

  -- one call more in front, whose outcome is out
  module _ (s : State) (c : Call) (cs : List Call) (out : Outcome)
      (one : (a : Answer) (after : List ℕ) (t : State) → Step o p j s c a after t → out ≡ record { answer = a; after = after; state = t }) where
    abbrev made : Event
    made = record { call = c; answer = out.answer; after = out.after }

    only_more : (es : List Event) → Only out.state cs es → Only s (c ∷ cs) (made ∷ es)
    only_more es only [] v e run = cc
    only_more es only (f ∷ fs) v e (t, step, run) =
        let call : f.call ≡ c = cc in
        let calls : map (λ e. e.call) fs ≡ cs = cc in
        let is : out ≡ record { answer = f.answer; after = f.after; state = t } =
        one f.answer f.after t (subst (λ c. Step o p j s c f.answer f.after t) call step) in
        let head : f ≡ made =
        λ i. record { call = call i; answer = sym (ap (λ o. o.answer) is) i; after = sym (ap (λ o. o.after) is) i } in
        let rest : fs ≡ es = only fs v calls (subst (λ t. Runs o p j t fs v) (sym (ap (λ o. o.state) is)) run) in
        ap₂ ◌∷◌ head rest

  run_of : (cs : List Call) (s : State) → Reached p s → RunOf s cs
  unfolding RunOf
  run_of [] s reached = ([], s, refl, refl, only)
    where
      only : Only s [] []
      only [] v e run = refl
      only (f ∷ fs) v e run = cc
  run_of (c ∷ cs) s reached =
      let (out, step, next, one) = settles o lawful p sound j s reached c in
      let (es, u, calls, run, only) = run_of cs out.state next in
      (made s c cs out one ∷ es, u, ap (λ cs. c ∷ cs) calls, (out.state, step, run), only_more s c cs out one es only)

pub one_run : OneRun
unfolding RunOf
one_run o lawful p sound j cs = run_of o lawful p sound j cs opened (opened_reached p)
