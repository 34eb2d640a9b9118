-- Solving for rows from the rows of m packets. Assumes nothing.
--     packets p ns rows       the packets of the numbers ns, whose rows stand one behind the other in rows
--     Numbered p ns           ns are the numbers of m packets of the plan
--     Given p ns rows         the packets are m different ones, with rows of elements
--     Placed p ns nodes       nodes begins with the nodes of the packets ns
--     ProductsAt o nodes z a s    a is the product of the differences of z from the nodes, and s its derivative
--     scale_in o p n          what row n is multiplied by to be the value at its node of the message's polynomial
--     Weighs o p ns ws        ws begins with what each of the packets ns counts for in any other
--     Parts o p ns n fs       fs begins with what each counts for in packet n
--     Lacks ns n              none of the numbers is n
--     First ns n t            n stands at place t and at none before
--     RowOf o p ks n out      out is row n of every message that fits the packets ks
use Rattle.std.specs.Prelude.{◌≡◌, ℕ, ◌+◌, ◌*◌, ◌<◌, List, map, length}
use Rattle.std.specs.List.{range_with_len}
use Rattle.checks.specs.Checks.{at}
use Rattle.code.specs.Nodes.{Elements, Apart}
use Rattle.code.specs.Plans.{PlanView}
use Rattle.code.specs.Rows.{Packet, row, Explains}
use Rattle.code.specs.Solving.{away, slope, scale, weight, part}
use Rattle.field.specs.Field.{Ops}
use Rattle.field.specs.Rows.{numbers}
use Rattle.receiver.specs.Receivers.{packet_at}

abbrev pub packets : PlanView → List ℕ → List ℕ → List Packet
packets p ns rows = map (packet_at p.L ns rows) (range_with_len 0 p.m)

pub record Numbered (p : PlanView) (ns : List ℕ) : Type 0 where
  pub many : length ns ≡ p.m
  pub inside : Elements (p.m + p.r) p.m ns

pub record Given (p : PlanView) (ns rows : List ℕ) : Type 0 where
  pub numbered : Numbered p ns
  pub apart : Apart p.m ns
  pub whole : length rows ≡ p.m * p.L
  pub symbols : Elements p.q (p.m * p.L) rows

abbrev pub Placed : PlanView → List ℕ → List ℕ → Type 0
Placed p ns nodes = (t : ℕ) → t < p.m → at nodes t ≡ at p.nodes (at ns t)

pub record ProductsAt (o : Ops) (nodes : List ℕ) (z a s : ℕ) : Type 0 where
  pub away : a ≡ away (numbers o) (at nodes) (length nodes) z
  pub slope : s ≡ slope (numbers o) (at nodes) (length nodes) z

abbrev pub scale_in : Ops → PlanView → ℕ → ℕ
scale_in o p n = scale (numbers o) (at p.nodes) p.m n

abbrev pub Weighs : Ops → PlanView → List ℕ → List ℕ → Type 0
Weighs o p ns ws = (t : ℕ) → t < p.m → at ws t ≡ weight (numbers o) (at p.nodes) p.m (at ns) t

abbrev pub Parts : Ops → PlanView → List ℕ → ℕ → List ℕ → Type 0
Parts o p ns n factors = (t : ℕ) → t < p.m → at factors t ≡ part (numbers o) (at p.nodes) p.m (at ns) n t

abbrev pub Lacks : List ℕ → ℕ → Type 0
Lacks ns n = (t : ℕ) → t < length ns → ¬ (at ns t ≡ n)

pub record First (ns : List ℕ) (n t : ℕ) : Type 0 where
  pub within : t < length ns
  pub there : at ns t ≡ n
  pub before : (k : ℕ) → k < t → ¬ (at ns k ≡ n)

abbrev pub RowOf : Ops → PlanView → List Packet → ℕ → List ℕ → Type 0
RowOf o p ks n out = (M : List ℕ) → Explains o p M ks → out ≡ row o p M n
