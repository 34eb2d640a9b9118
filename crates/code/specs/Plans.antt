-- Plans as values. Assumes nothing.
--     m   data packets        r   check packets        L   symbols of a row
--     q   size of the field   n   a packet's number, from 0 to m + r - 1, data packets first
use Rattle.std.specs.Prelude.{◌≡◌, ℕ, ◌+◌, ◌≤◌, List, [], ◌∷◌, length, take}
use Rattle.code.specs.Nodes.{Elements, Apart}
use Rattle.code.specs.declared.plan.Plan.{Plan}

-- a plan without its proofs; the nodes are the packets', data nodes first
pub record PlanView : Type 0 where
  pub m : ℕ
  pub r : ℕ
  pub L : ℕ
  pub q : ℕ
  pub nodes : List ℕ

abbrev pub view : Plan → PlanView
view p = record {
  m = p.counts.data_count;
  r = p.counts.check_count;
  L = p.counts.row_len;
  q = p.size;
  nodes = take (p.counts.data_count + p.counts.check_count) p.nodes;
}

-- what a plan's place holds before its first making
abbrev pub unmade : PlanView
unmade = record { m = 1; r = 1; L = 1; q = 2; nodes = 0 ∷ 1 ∷ [] }

-- what every plan keeps
pub record Sound (p : PlanView) : Type 0 where
  pub m_least : 1 ≤ p.m
  pub m_most : p.m ≤ 64
  pub r_least : 1 ≤ p.r
  pub r_most : p.r ≤ 64
  pub L_least : 1 ≤ p.L
  pub L_most : p.L ≤ 128
  pub q_least : 2 ≤ p.q
  pub q_most : p.q ≤ 65536
  pub a_node_each : length p.nodes ≡ p.m + p.r
  pub elements : Elements p.q (p.m + p.r) p.nodes
  pub different : Apart (p.m + p.r) p.nodes
