-- What other packets are solved by. Assumes nothing.
--     away O d m z         the product over k below m of z - d k
--     slope O d m z        its derivative
--     scale O x m n        what packet n is multiplied by to be the value at its node of the message's polynomial
--     weight O x m at t    what the known packet at t counts for in any other, but for the difference of the two nodes
--     part O x m at n t    what the known packet at t counts for in packet n
-- The packets' nodes are x, and the known packets are at 0 .. at (m - 1).
use Rattle.std.specs.Prelude.{ℕ, zero, suc, cond, nat_lt}
use Rattle.field.specs.Rows.{Arith, minus}

module _ {K : Type 0} (O : Arith K) where
  infixl 65 ◌⊕◌
  infixl 65 ◌⊝◌
  infixl 70 ◌⊗◌
  open O use {𝟘, 𝟙, ◌⊕◌, ◌⊗◌, inv}

  abbrev ◌⊝◌ : K → K → K
  ◌⊝◌ = minus O

  -- the product over k below m of z - d k
  abbrev pub away : (ℕ → K) → ℕ → K → K
  away d zero z = 𝟙
  away d (suc m) z = (z ⊝ d m) ⊗ away d m z

  -- its derivative: at d n it is the product over the k below m other than n of d n - d k
  abbrev pub slope : (ℕ → K) → ℕ → K → K
  slope d zero z = 𝟘
  slope d (suc m) z = away d m z ⊕ (z ⊝ d m) ⊗ slope d m z

  -- a data packet's scale is the product of the differences of its node from the other data nodes, a check packet's that from all
  abbrev pub scale : (ℕ → K) → ℕ → ℕ → K
  scale x m n = cond (nat_lt n m) (slope x m (x n)) (away x m (x n))

  abbrev pub weight : (ℕ → K) → ℕ → (ℕ → ℕ) → ℕ → K
  weight x m at t = inv (slope (λ s. x (at s)) m (x (at t))) ⊗ scale x m (at t)

  abbrev pub part : (ℕ → K) → ℕ → (ℕ → ℕ) → ℕ → ℕ → K
  part x m at n t = (inv (scale x m n) ⊗ away (λ s. x (at s)) m (x n)) ⊗ (inv (x n ⊝ x (at t)) ⊗ weight x m at t)
