-- Opening a packet. Assumes nothing.
--     PacketView            an opened packet without its references
--     seen k, viewed r      the packet k, and the answer r of opening, without references
--     row_told bs           the count of row bytes that follows from the header's L and q
--     opening_checks bs     what opening refuses, in its order
--     opening bs            the first that applies
--     opened bs             what is opened where none applies
use Rattle.std.specs.Prelude.{ℕ, ◌+◌, ◌*◌, Bool, true, false, ◌&&◌, List, [], ◌∷◌, length, drop, Ok, Err, Option, Result, ◌==◌, nat_le, nat_lt}
use Rattle.checks.specs.Checks.{at, unless, first}
use Rattle.packet.specs.Bytes.{word, symbol_bytes}
use Rattle.packet.specs.Layout.{mark, header_length, mark_at, number_at, m_at, L_at, q_at, row_offset_at, row_count_at}
use Rattle.packet.specs.declared.Packet.{Packet}
use Rattle.packet.specs.declared.Packet.TheVariants.{Data, Check}
use Rattle.packet.specs.declared.fault.PacketFault.{PacketFault}
use Rattle.packet.specs.declared.fault.PacketFault.TheVariants.{Length, Layout}

pub record PacketView : Type 0 where
  pub is_data : Bool
  pub number : ℕ
  pub row : List ℕ

abbrev pub seen : Packet → PacketView
seen (Data n row) = record { is_data = true; number = n; row = row.now }
seen (Check n row) = record { is_data = false; number = n; row = row.now }

abbrev pub viewed : Result Packet PacketFault → Result PacketView PacketFault
viewed (Ok k) = Ok (seen k)
viewed (Err f) = Err f

-- L · w by the header's own L and q, which stands there as q - 1
abbrev pub row_told : List ℕ → ℕ
row_told bs = word bs L_at * symbol_bytes (word bs q_at + 1)

-- the checks in their order: the first that applies decides
abbrev pub opening_checks : List ℕ → List (Option PacketFault)
opening_checks bs =
    unless (nat_le header_length (length bs)) (Length (length bs))
    ∷ unless (at bs 0 == at mark 0 && at bs 1 == at mark 1) (Layout mark_at)
    ∷ unless (word bs row_offset_at == header_length) (Layout row_offset_at)
    ∷ unless (word bs row_count_at == row_told bs) (Layout row_count_at)
    ∷ unless (length bs == header_length + word bs row_count_at) (Length (length bs))
    ∷ []

abbrev pub opening : List ℕ → Option PacketFault
opening bs = first (opening_checks bs)

-- a data packet if its number is below the header's m; its row is what follows the header
abbrev pub opened : List ℕ → PacketView
opened bs = record {
  is_data = nat_lt (word bs number_at) (word bs m_at);
  number = word bs number_at;
  row = drop header_length bs;
}
