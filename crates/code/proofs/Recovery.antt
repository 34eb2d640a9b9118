-- A row that was never received, from the rows of m other packets. Assumes nothing.
use Rattle.std.proofs.Common.{◌≡◌, ℕ, ◌+◌, ◌<◌, List, length, sym, refl, ◌∙◌, arith}
use mathlib.Core.Path.{fst_path}
use Rattle.checks.specs.Checks.{at}
use Rattle.field.specs.Field.{Ops, Lawful}
use Rattle.field.specs.Rows.{numbers, dot, symbol}
use Rattle.code.specs.Nodes.{Elements, Apart}
use Rattle.code.specs.Plans.{PlanView, Sound}
use Rattle.code.specs.Rows.{Message, row}
use Rattle.code.specs.Solving.{part}
use Rattle.code.proofs.Sums.{dot_same}
use Rattle.code.proofs.Carried.{carries, recovered}
use Rattle.code.proofs.Elements.{laws, parts_num}
use Rattle.code.proofs.Rows.{length-row}
use Rattle.code.proofs.Whole.{nodes, column, known, row_num}
use Rattle.checks.proofs.Lowest.{same_places}

module _ (o : Ops) (lawful : Lawful o) (p : PlanView) (sound : Sound p) (size : o.size ≡ p.q) where
  module _ (ns : List ℕ) (inside : Elements (p.m + p.r) (length ns) ns) (apart : Apart (length ns) ns) (many : length ns ≡ p.m) where
    module _ (M : List ℕ) (message : Message p M) (n : ℕ) (within : n < p.m + p.r) (lacks : (t : ℕ) → t < length ns → ¬ (at ns t ≡ n)) where
      -- each symbol of another row is the sum of the symbols there of the rows of m packets, each times its part
      pub recovered_row : (s : ℕ) → s < p.L
          → at (row o p M n) s ≡ dot (numbers o) (part (numbers o) (at p.nodes) p.m (at ns) n) (λ t. at (row o p M (at ns t)) s) p.m
      recovered_row s h =
          let N = nodes o lawful p sound size in
          let u = column o lawful p sound size M message s in
          row_num o lawful p sound size M message n s h
          ∙ fst_path (recovered (laws lawful) N (known o lawful p sound size ns inside apart many) (λ t. carries (laws lawful) N u (at ns t)) u (λ t l. refl)
          n within (λ t l. lacks t (omega arith)))
          ∙ parts_num lawful N.node p.m (at ns) n (λ t. carries (laws lawful) N u (at ns t))
          ∙ dot_same (numbers o) _ _ _ _ p.m (λ j l. refl) (λ j l. sym (row_num o lawful p sound size M message (at ns j) s h))

      -- so it is what is summed up of the stored rows, which stand one behind the other
      pub solved_row : (rows out : List ℕ) → ((t : ℕ) → t < p.m → (s : ℕ) → s < p.L → symbol rows p.L s t ≡ at (row o p M (at ns t)) s)
          → length out ≡ p.L
          → ((s : ℕ) → s < p.L → at out s ≡ dot (numbers o) (part (numbers o) (at p.nodes) p.m (at ns) n) (symbol rows p.L s) p.m)
          → out ≡ row o p M n
      solved_row rows out stored long sums = same_places out (row o p M n) (long ∙ sym (length-row o p M n)) (λ s h.
          let l : s < p.L = omega arith in
          sums s l ∙ dot_same (numbers o) _ _ _ _ p.m (λ j k. refl) (λ j k. stored j k s l) ∙ sym (recovered_row s l))
