-- What a header tells of its job. Assumes nothing.
use Rattle.std.specs.Prelude.{ℕ, ◌+◌, cond, List, Ok, Err, Result, ◌==◌}
use Rattle.code.specs.Texts.{sized_text}
use Rattle.binary.specs.Binary.{byte, nibble}
use Rattle.code.specs.declared.fault.PlanFault.{PlanFault}
use Rattle.code.specs.declared.plan.Plan.{Plan}
use Rattle.cutting.specs.Cutting.{Planned, cutter_checks, cutter_plan}
use Rattle.cutting.specs.declared.request.FieldChoice.{FieldChoice}
use Rattle.cutting.specs.declared.request.FieldChoice.TheVariants.{Byte, Nibble, Prime}
use Rattle.packet.specs.Bytes.{word}
use Rattle.prime.specs.Prime.{prime}
use Rattle.packet.specs.Layout.{m_at, r_at, L_at, q_at, job_number_at, job_length_at}
use Rattle.joining.specs.declared.fault.JoinFault.{JoinFault}
use Rattle.joining.specs.declared.fault.JoinFault.TheVariants.{NoField}
use Rattle.joining.specs.declared.heading.Heading.{Heading}

-- the numbers of the header in front of bs that are the same in all packets of its job
abbrev pub told : List ℕ → Heading
told bs = record {
  counts = record { data_count = word bs m_at; check_count = word bs r_at; row_len = word bs L_at };
  size = word bs q_at + 1;
  job = record { number = word bs job_number_at; length = word bs job_length_at };
}

-- the field of q elements, if it is one of the three
abbrev pub field_sized : ℕ → Result FieldChoice JoinFault
field_sized q =
    cond (q == nibble.size) (Ok Nibble)
    (cond (q == byte.size) (Ok Byte)
    (cond (q == prime.size) (Ok Prime)
    (Err (NoField q_at))))

-- a heading in output
abbrev pub heading_text : Heading → List ℕ
heading_text h = sized_text h.counts.data_count h.counts.check_count h.counts.row_len h.size

-- the cutter's plan of the counts of h over a field of q, or the first fault of it
abbrev pub Asked : ℕ → Heading → Result Plan PlanFault → Type 0
Asked q h =
    Planned (cutter_checks q h.counts.data_count h.counts.check_count h.counts.row_len)
    (cutter_plan q h.counts.data_count h.counts.check_count h.counts.row_len)
