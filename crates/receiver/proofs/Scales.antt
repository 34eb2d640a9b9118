-- Products over nodes that stand in front of a list. Assumes nothing.
use Rattle.std.proofs.Common.{◌≡◌, ℕ, ◌<◌, ◌≤◌, List, length, take, refl, ◌∙◌}
use Rattle.std.proofs.lemmas.List.{length-take-le, get_or-take}
use Rattle.std.proofs.lemmas.Bool.{cond_below, cond_above}
use Rattle.checks.specs.Checks.{at}
use Rattle.code.specs.Plans.{PlanView}
use Rattle.code.specs.Solving.{away, slope, scale, weight, part}
use Rattle.code.proofs.Sums.{away_same, slope_same}
use Rattle.field.specs.Field.{Ops, product_of, inverse_of}
use Rattle.field.specs.Rows.{Arith, numbers, minus}
use Rattle.receiver.specs.Solves.{Placed}

module _ (O : Arith ℕ) (m : ℕ) (x : ℕ → ℕ) (xs : List ℕ) (room : m ≤ length xs) (same : (k : ℕ) → k < m → at xs k ≡ x k) (z : ℕ) where
  at_front : (k : ℕ) → k < m → at (take m xs) k ≡ x k
  at_front k h = get_or-take m xs k 0 h ∙ same k h

  pub slope-front : slope O (at (take m xs)) (length (take m xs)) z ≡ slope O x m z
  slope-front = rw (length-take-le m xs room) (slope_same O _ _ m z at_front)

  pub away-front : away O (at (take m xs)) (length (take m xs)) z ≡ away O x m z
  away-front = rw (length-take-le m xs room) (away_same O _ _ m z at_front)

-- the scale of a packet, where all nodes are xs and the first m are the data packets'
module _ (O : Arith ℕ) (xs : List ℕ) (m n : ℕ) (room : m ≤ length xs) where
  pub scale_data : n < m → slope O (at (take m xs)) (length (take m xs)) (at xs n) ≡ scale O (at xs) m n
  scale_data l = slope-front O m (at xs) xs room (λ k h. refl) (at xs n) ∙ cond_below n m _ _ l

  pub scale_check : m ≤ n → away O (at (take m xs)) (length (take m xs)) (at xs n) ≡ scale O (at xs) m n
  scale_check l = away-front O m (at xs) xs room (λ k h. refl) (at xs n) ∙ cond_above n m _ _ _ l refl

-- the nodes of the packets ns stand in front of a list
module _ (o : Ops) (p : PlanView) (ns nodes : List ℕ) (room : p.m ≤ length nodes) (placed : Placed p ns nodes) where
  abbrev O : Arith ℕ
  O = numbers o

  abbrev node_of : ℕ → ℕ
  node_of s = at p.nodes (at ns s)

  -- a weight, as it is computed
  pub weight_is : (k t n : ℕ) {r i s v : ℕ} → k ≡ p.m → t < p.m → n ≡ at ns t → r ≡ product_of o i v → i ≡ inverse_of o s
      → s ≡ slope O (at (take k nodes)) (length (take k nodes)) (at nodes t) → v ≡ scale O (at p.nodes) p.m n
      → r ≡ weight O (at p.nodes) p.m (at ns) t
  weight_is k t n count l number product inverse sum scaled =
      cc (slope-front O p.m node_of nodes room placed (at nodes t), placed t l)

  -- a part, as it is computed
  pub part_is : (k n t : ℕ) {r e i a v z f q d w : ℕ} → k ≡ p.m → t < p.m → z ≡ at p.nodes n
      → r ≡ product_of o e f → e ≡ product_of o i a → i ≡ inverse_of o v → v ≡ scale O (at p.nodes) p.m n
      → a ≡ away O (at (take k nodes)) (length (take k nodes)) z
      → f ≡ product_of o q w → q ≡ inverse_of o d → d ≡ minus O z (at nodes t) → w ≡ weight O (at p.nodes) p.m (at ns) t
      → r ≡ part O (at p.nodes) p.m (at ns) n t
  part_is k n t {z = z} count l node product common inverse scaled sum near inverted difference weighed =
      cc (away-front O p.m node_of nodes room placed z, placed t l)
