-- Messages, and the row of each packet. Assumes nothing.
--     Message p M        M is a message of the plan p
--     row o p M n        the row of packet n of the message M
--     Fits o p M k       the message M fits the packet k: its row of that number is that row
--     Explains o p M ks  M is a message that fits each of the packets ks
use Rattle.std.specs.Prelude.{◌≡◌, ℕ, ◌*◌, ◌<◌, List, map, length}
use Rattle.std.specs.List.{range_with_len, AllByRecursion}
use Rattle.checks.specs.Checks.{at}
use Rattle.field.specs.Field.{Ops}
use Rattle.field.specs.Rows.{numbers, symbol}
use Rattle.code.specs.Packets.{packet}
use Rattle.code.specs.Plans.{PlanView}

-- a packet as it counts: its number and its row
pub record Packet : Type 0 where
  pub number : ℕ
  pub row : List ℕ

-- m rows of L elements, row 0 first
pub record Message (p : PlanView) (M : List ℕ) : Type 0 where
  pub long : length M ≡ p.m * p.L
  pub elements : AllByRecursion (λ x. x < p.q) M

-- symbol s of the row is what packet n carries of symbol s of each row of M
unfoldable pub row : Ops → PlanView → List ℕ → ℕ → List ℕ
row o p M n = map (λ s. packet (numbers o) (at p.nodes) p.m (symbol M p.L s) n) (range_with_len 0 p.L)

-- the row of that number is that row: the packet is the message's
abbrev pub Fits : Ops → PlanView → List ℕ → Packet → Type 0
Fits o p M k = row o p M k.number ≡ k.row

pub record Explains (o : Ops) (p : PlanView) (M : List ℕ) (ks : List Packet) : Type 0 where
  pub message : Message p M
  pub fits : AllByRecursion (Fits o p M) ks
