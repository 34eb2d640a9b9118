-- What the cutter answers to an input. Assumes nothing.
--     Answers fault bytes r        r is the bytes, unless there is a fault; want of memory may come in between
--     request_fault o a            the first fault of what is asked for: of the plan, then of the job
--     request_packets o a          all packets of what is asked for
--     input_fault bs               the first fault of an input: of the input itself, then of what it asks for
--     input_packets bs             all packets of what it asks for
use Rattle.std.specs.Prelude.{◌≡◌, ℕ, List, [], ◌∷◌, length, Some, None, Ok, Err, vec_items, Option, Result, Vec}
use Rattle.std.specs.Option.{option_map}
use Rattle.std.specs.declared.alloc.Global.{Global}
use Rattle.binary.specs.Binary.{byte, nibble}
use Rattle.checks.specs.Checks.{first}
use Rattle.checks.specs.declared.fault.Fault.{Fault}
use Rattle.code.specs.Faults.{plan_fault}
use Rattle.code.specs.Plans.{PlanView}
use Rattle.field.specs.Field.{Ops}
use Rattle.job.specs.Calls.{pack_checks, total}
use Rattle.job.specs.Faults.{job_fault}
use Rattle.job.specs.Packing.{packed}
use Rattle.prime.specs.Prime.{prime}
use Rattle.cutting.specs.Cutting.{all_packets, cutter_checks, cutter_plan}
use Rattle.cutting.specs.Requests.{RequestView, input_named, input_checked, requested}
use Rattle.cutting.specs.declared.cut.CutError.{CutError}
use Rattle.cutting.specs.declared.cut.CutError.TheVariants.{Refused, Memory}
use Rattle.cutting.specs.declared.request.FieldChoice.{FieldChoice}
use Rattle.cutting.specs.declared.request.FieldChoice.TheVariants.{Byte, Nibble, Prime}
use Rattle.cutting.specs.declared.request.Request.{Request}

-- the bytes come out if there is no fault; otherwise the fault is answered
abbrev pub Answers : Option Fault → List ℕ → Result (Vec ℕ Global) CutError → Type 0
Answers fault bytes (Ok v) = (fault ≡ None) × (vec_items v ≡ bytes)
Answers fault bytes (Err (Refused f)) = fault ≡ Some f
Answers fault bytes (Err Memory) = Unit {0}

-- a request without its reference
abbrev pub request_view_of : Request → RequestView
request_view_of a = record { choice = a.field; m = a.counts.data_count; r = a.counts.check_count; L = a.counts.row_len; job = a.job.now }

-- the plan over the field o that is asked for
abbrev pub request_plan : Ops → RequestView → PlanView
request_plan o a = cutter_plan o.size a.m a.r a.L

abbrev pub request_fault : Ops → RequestView → Option Fault
request_fault o a = first (
    option_map plan_fault (first (cutter_checks o.size a.m a.r a.L))
    ∷ option_map job_fault (first (pack_checks (request_plan o a) (length a.job) (total (request_plan o a))))
    ∷ []
    )

-- the job is packed into a message, and every packet of it is cut, as job 1
abbrev pub request_packets : Ops → RequestView → List ℕ
request_packets o a =
    let p : PlanView = request_plan o a in
    all_packets o p (record { number = 1; length = length a.job }) (packed p.q a.job (total p))

-- the field that is chosen
abbrev pub field_of : FieldChoice → Ops
field_of Byte = byte
field_of Nibble = nibble
field_of Prime = prime

abbrev pub input_fault : List ℕ → Option Fault
input_fault bs = first (option_map input_named (input_checked bs) ∷ request_fault (field_of (requested bs).choice) (requested bs) ∷ [])

abbrev pub input_packets : List ℕ → List ℕ
input_packets bs = request_packets (field_of (requested bs).choice) (requested bs)
