-- What a packet carries of a message of one symbol a row. Assumes nothing.
--     packet O x m u n     what packet n carries of the message u, where the packets' nodes are x
use Rattle.std.specs.Prelude.{ℕ, cond, nat_lt}
use Rattle.field.specs.Rows.{Arith, dot, minus}

module _ {K : Type 0} (O : Arith K) where
  -- packet n carries u n if n is below m, otherwise the sum over j below m of u j divided by x n - x j
  abbrev pub packet : (ℕ → K) → ℕ → (ℕ → K) → ℕ → K
  packet x m u n = cond (nat_lt n m) (u n) (dot O (λ j. O.inv (minus O (x n) (x j))) u m)
