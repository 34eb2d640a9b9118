-- What is answered to a request, from what its parts answer. Assumes nothing.
use Rattle.std.proofs.Common.{◌≡◌, ℕ, ◌<◌, List, length, Some, None, Ok, Err, vec_items, Option, Result, Vec, sym, ap, ◌∙◌, subst, ap₂}
use Rattle.std.specs.Option.{option_map}
use Rattle.std.specs.declared.alloc.Global.{Global}
use Rattle.std.specs.List.{AllByRecursion}
use Rattle.checks.specs.Checks.{first, answered}
use Rattle.checks.specs.declared.fault.Fault.{Fault}
use Rattle.checks.proofs.Order.{skip, last, answered_ok, answered_err, left_none}
use Rattle.code.specs.Faults.{plan_fault}
use Rattle.code.specs.Plans.{view}
use Rattle.code.specs.declared.plan.Plan.{Plan}
use Rattle.field.specs.Field.{Ops}
use Rattle.job.specs.Calls.{pack_checks, total, Packing}
use Rattle.job.specs.Faults.{job_fault}
use Rattle.job.specs.Packing.{packed}
use Rattle.job.specs.declared.fault.JobFault.{JobFault}
use Rattle.job.proofs.Elements.{packed-elements}
use Rattle.packet.specs.declared.Job.{Job}
use Rattle.cutting.specs.Answers.{Answers, request_fault, request_packets, field_of, input_fault, input_packets}
use Rattle.cutting.specs.Cutting.{Planned, all_packets, cutter_checks, cutter_plan}
use Rattle.cutting.specs.Requests.{RequestView, requested, input_checked, input_named}
use Rattle.cutting.specs.declared.request.FieldChoice.{FieldChoice}
use Rattle.cutting.specs.declared.cut.CutError.{CutError}
use Rattle.cutting.specs.declared.cut.CutError.TheVariants.{Refused}

pub refused_as : (fault : Option Fault) (bytes : List ℕ) (r : Result (Vec ℕ Global) CutError) (f : Fault) → r ≡ Err (Refused f) → fault ≡ Some f → Answers fault bytes r
refused_as fault bytes r f is e = subst (Answers fault bytes) (sym is) e

-- a request whose plan was made, and whose job was packed into a buffer of a message
module _ (o : Ops) (a : RequestView) (plan : Plan)
    (planned : Planned (cutter_checks o.size a.m a.r a.L) (cutter_plan o.size a.m a.r a.L) (Ok plan))
    {old new : List ℕ} (r : Result (Unit {0}) JobFault) (packing : Packing plan a.job old new r) (sized : length old ≡ total (view plan)) where
  by_job : request_fault o a ≡ option_map job_fault (first (pack_checks (view plan) (length a.job) (length old)))
  by_job =
      skip _ _ (ap (option_map plan_fault) planned.0) ∙ last _
      ∙ sym (ap₂ (λ t n. option_map job_fault (first (pack_checks t (length a.job) n))) planned.1 (sized ∙ ap total planned.1))

  pub job_refused : (e : JobFault) → r ≡ Err e → request_fault o a ≡ Some (job_fault e)
  job_refused e was = by_job ∙ ap (option_map job_fault) (answered_err (first (pack_checks (view plan) (length a.job) (length old))) e tt (sym was ∙ packing.answers))

  module _ (u : Unit {0}) (was : r ≡ Ok u) where
    none : first (pack_checks (view plan) (length a.job) (length old)) ≡ None
    none = (answered_ok (first (pack_checks (view plan) (length a.job) (length old))) u tt (sym was ∙ packing.answers)).0

    packed-message : new ≡ packed (view plan).q a.job (total (view plan))
    packed-message = packing.leaves ∙ left_none _ old _ none

    pub message-elements : AllByRecursion (λ x. x < (view plan).q) new
    message-elements = subst (AllByRecursion (λ x. x < (view plan).q)) (sym packed-message) (packed-elements (view plan).q plan.least_size a.job (total (view plan)))

    pub request_answered : (j : Job) → j ≡ record { number = 1; length = length a.job } → (v : Vec ℕ Global) → vec_items v ≡ all_packets o (view plan) j new
        → Answers (request_fault o a) (request_packets o a) (Ok v)
    request_answered j job v is = (
      by_job ∙ ap (option_map job_fault) none,
      is ∙ ap₂ (λ k M. all_packets o (view plan) k M) job packed-message
          ∙ ap (λ p. all_packets o p (record { number = 1; length = length a.job }) (packed p.q a.job (total p))) planned.1,
    )

-- an input that is read asks for what was requested
pub input_answered : (bs : List ℕ) (choice : FieldChoice) (a : RequestView) (r : Result (Vec ℕ Global) CutError) → Ok a ≡ answered (input_checked bs) (requested bs) → a.choice ≡ choice
    → Answers (request_fault (field_of choice) a) (request_packets (field_of choice) a) r → Answers (input_fault bs) (input_packets bs) r
input_answered bs choice a r read chose h =
    let parts = answered_ok (input_checked bs) a (requested bs) read in
    let same : field_of choice ≡ field_of (requested bs).choice = ap field_of (sym chose) ∙ ap (λ b. field_of b.choice) parts.1 in
    let e : input_fault bs ≡ request_fault (field_of choice) a = skip _ _ (ap (option_map input_named) parts.0) ∙ last _ ∙ sym (ap₂ request_fault same parts.1) in
    let f : input_packets bs ≡ request_packets (field_of choice) a = sym (ap₂ request_packets same parts.1) in
    subst (λ z. Answers z (input_packets bs) r) (sym e) (subst (λ z. Answers (request_fault (field_of choice) a) z r) (sym f) h)
