-- The layout of a packet: a header of twenty bytes, then the row. Assumes nothing.
--     mark, header_length, number_at ...   the letters JB, and where each number of the header stands
--     row_count p             the bytes of a row
--     packet_length p         the bytes of a packet
--     numbers p j n           the nine numbers of this job's header for packet n
--     header p j n            the mark, then those numbers, 16 bits each
--     laid p j n ys           packet n of this job with the row ys
--     Headed p j bs           the bytes bs bear this job's header, for some number, and are as long as it says
--     carried p bs            the number and the row that bytes carry
use Rattle.std.specs.Prelude.{◌≡◌, ℕ, ◌+◌, ◌-◌, ◌*◌, List, [], ◌∷◌, ◌++◌, length, drop}
use Rattle.checks.specs.Checks.{at}
use Rattle.code.specs.Plans.{PlanView}
use Rattle.code.specs.Rows as code
use Rattle.packet.specs.Bytes.{words, word, symbol_bytes, row_bytes, symbols}
use Rattle.packet.specs.declared.Job.{Job}

-- the letters JB
abbrev pub mark : List ℕ
mark = 74 ∷ 66 ∷ []

abbrev pub header_length : ℕ
header_length = 20

-- the places of the header, in bytes
abbrev pub mark_at : ℕ
mark_at = 0

abbrev pub number_at : ℕ
number_at = 2

abbrev pub m_at : ℕ
m_at = 4

abbrev pub r_at : ℕ
r_at = 6

abbrev pub L_at : ℕ
L_at = 8

-- here stands q - 1
abbrev pub q_at : ℕ
q_at = 10

abbrev pub job_number_at : ℕ
job_number_at = 12

abbrev pub job_length_at : ℕ
job_length_at = 14

abbrev pub row_offset_at : ℕ
row_offset_at = 16

abbrev pub row_count_at : ℕ
row_count_at = 18

abbrev pub row_count : PlanView → ℕ
row_count p = p.L * symbol_bytes p.q

abbrev pub packet_length : PlanView → ℕ
packet_length p = header_length + row_count p

-- the nine numbers of this job's header for packet n
abbrev pub numbers : PlanView → Job → ℕ → List ℕ
numbers p j n = n ∷ p.m ∷ p.r ∷ p.L ∷ (p.q - 1) ∷ j.number ∷ j.length ∷ header_length ∷ row_count p ∷ []

abbrev pub header : PlanView → Job → ℕ → List ℕ
header p j n = mark ++ words (numbers p j n)

-- packet n of this job with the row ys
unfoldable pub laid : PlanView → Job → ℕ → List ℕ → List ℕ
laid p j n ys = header p j n ++ row_bytes p.q ys

-- the bytes bs bear this job's header, for some number, and are as long as it says
pub record Headed (p : PlanView) (j : Job) (bs : List ℕ) : Type 0 where
  pub mark_0 : at bs 0 ≡ at mark 0
  pub mark_1 : at bs 1 ≡ at mark 1
  pub m : word bs m_at ≡ p.m
  pub r : word bs r_at ≡ p.r
  pub L : word bs L_at ≡ p.L
  pub q : word bs q_at + 1 ≡ p.q
  pub number : word bs job_number_at ≡ j.number
  pub len : word bs job_length_at ≡ j.length
  pub offset : word bs row_offset_at ≡ header_length
  pub count : word bs row_count_at ≡ row_count p
  pub long : length bs ≡ packet_length p

-- the number and the row that the bytes bs carry, for the plan p
abbrev pub carried : PlanView → List ℕ → code.Packet
carried p bs = record { number = word bs number_at; row = symbols p.q (drop header_length bs) }
