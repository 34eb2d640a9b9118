-- What the checks of a call say: a refusal alters nothing, and bytes that pass are a packet of this job. Assumes nothing.
use Rattle.std.proofs.Common.{◌≡◌, ℕ, eqb, ◌⊎◌, List, drop, Some, None, Option, sym, refl, ap, ◌∙◌, inl, inr, arith}
use Rattle.std.specs.Option.{option_map}
use Rattle.std.proofs.lemmas.List.{length-drop}
use Rattle.std.proofs.lemmas.Bool.{eqb-true, eq-eqb, ltb-true, lt-ltb}
use Rattle.checks.specs.Checks.{unless, first}
use Rattle.checks.proofs.Lowest.{all_below, none_large}
use Rattle.checks.proofs.Order.{unless_none, unless_true, first_none, skip, last, mapped_none}
use Rattle.code.specs.Plans.{PlanView}
use Rattle.code.specs.Settles.{Good}
use Rattle.field.specs.Field.{Ops}
use Rattle.packet.specs.Bytes.{word}
use Rattle.packet.specs.Layout.{header_length, number_at, Headed, carried}
use Rattle.packet.specs.Opening.{opening}
use Rattle.packet.specs.declared.Job.{Job}
use Rattle.packet.proofs.Numbers.{length_symbols}
use Rattle.packet.proofs.Opening.{headed-opens, opens-headed}
use Rattle.receiver.specs.Machine.{Answer, refuses, State, heard, known, job_checks, against, Outcome, decided, offer_checks}
use Rattle.receiver.specs.declared.fault.ReceiverFault.{ReceiverFault}
use Rattle.receiver.specs.declared.fault.ReceiverFault.TheVariants.{Packet as InPacket, OtherJob, Symbol}

-- the two ways of a call
pub decided-view : (x : Option ReceiverFault) (before : List ℕ) (s : State) (out : Outcome) (a : Answer) (after : List ℕ) (t : State)
    → decided x before s out ≡ record { answer = a; after = after; state = t }
    → ((f : ReceiverFault) × (x ≡ Some f) × (a ≡ refuses f) × (t ≡ s))
    ⊎ ((x ≡ None) × (a ≡ out.answer) × (after ≡ out.after) × (t ≡ out.state))
decided-view (Some f) before s out a after t e = inl (f, refl, ap (λ z. z.answer) (sym e), ap (λ z. z.state) (sym e))
decided-view None before s out a after t e =
    inr (refl, ap (λ z. z.answer) (sym e), ap (λ z. z.after) (sym e), ap (λ z. z.state) (sym e))

-- bytes that pass every check of an offer but the last
pub record Passed (o : Ops) (p : PlanView) (j : Job) (bs : List ℕ) : Type 0 where
  pub sized : o.size ≡ p.q
  pub headed : Headed p j bs
  pub good : Good p (carried p bs)

-- the last check of an offer: the packet against the row that is known of its number
abbrev pub last_check : Ops → PlanView → List ℕ → State → List ℕ → Option ReceiverFault
last_check o p M s bs = against (heard s (word bs number_at)) (carried p bs) (known o p M s (word bs number_at))

same : {A : Type 0} (a b : ℕ) (f : A) → a ≡ b → unless (eqb a b) f ≡ None
same a b f e = unless_true _ f (eq-eqb a b e)

module _ (o : Ops) (p : PlanView) (j : Job) (M : List ℕ) (s : State) (bs : List ℕ) where
  pub passed : first (offer_checks o p j M s bs) ≡ None → Passed o p j bs × (last_check o p M s bs ≡ None)
  passed e =
      let h = first_none (offer_checks o p j M s bs) e in
      let ours = first_none (job_checks p j bs) (mapped_none OtherJob (first (job_checks p j bs)) h.1.1.0) in
      let headed = opens-headed p j bs (mapped_none InPacket (opening bs) h.1.0)
      (eqb-true _ _ (unless_none _ _ ours.0)) (eqb-true _ _ (unless_none _ _ ours.1.0))
      (eqb-true _ _ (unless_none _ _ ours.1.1.0)) (eqb-true _ _ (unless_none _ _ ours.1.1.1.0))
      (eqb-true _ _ (unless_none _ _ ours.1.1.1.1.0)) (eqb-true _ _ (unless_none _ _ ours.1.1.1.1.1.0)) in
      let good : Good p (carried p bs) = record {
        inside = ltb-true _ _ (unless_none _ _ h.1.1.1.0);
        long = length_symbols p.q p.L (drop header_length bs) (length-drop header_length bs ∙ omega (arith, headed.long));
        elements = all_below p.q (carried p bs).row (mapped_none Symbol _ h.1.1.1.1.0);
      } in
      (record { sized = eqb-true _ _ (unless_none _ _ h.0); headed = headed; good = good }, h.1.1.1.1.1.0)

  -- then the last check decides
  pub only-last : Passed o p j bs → first (offer_checks o p j M s bs) ≡ last_check o p M s bs
  only-last k =
      let h = k.headed in
      let ours : first (job_checks p j bs) ≡ None =
      skip _ _ (same _ _ _ h.m) ∙ skip _ _ (same _ _ _ h.r) ∙ skip _ _ (same _ _ _ h.L)
      ∙ skip _ _ (same _ _ _ h.q) ∙ skip _ _ (same _ _ _ h.number) ∙ skip _ _ (same _ _ _ h.len) in
      skip _ _ (same _ _ _ k.sized)
      ∙ skip _ _ (ap (option_map InPacket) (headed-opens p j bs h))
      ∙ skip _ _ (ap (option_map OtherJob) ours)
      ∙ skip _ _ (unless_true _ _ (lt-ltb _ _ k.good.inside))
      ∙ skip _ _ (ap (option_map Symbol) (none_large p.q (carried p bs).row k.good.elements))
      ∙ last _
