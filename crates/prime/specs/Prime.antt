-- The numbers below p, with the sum and the product that division by p leaves: a field where p is prime. Assumes nothing.
use Rattle.std.specs.Prelude.{ℕ, zero, suc, ◌+◌, ◌-◌, ◌*◌, ◌%◌, ◌^◌, List, [], ◌∷◌}
use Rattle.field.specs.Field.{Ops, inverse_by}

-- the numbers below p
abbrev pub remainders : ℕ → Ops
remainders p = record {
  size = p;
  sum = λ a b. (a + b) % p;
  negative = λ a. (p - a) % p;
  product = λ a b. a * b % p;
  inverse = inverse_by (λ a b. a * b % p) p;
}

-- a prime number, one more than the numbers of a byte
abbrev pub prime_size : ℕ
prime_size = 257

abbrev pub prime : Ops
prime = remainders prime_size

-- the inverses of the n numbers from a on, where p is prime: the powers p - 2
abbrev pub inverse_table : ℕ → ℕ → ℕ → List ℕ
inverse_table p zero a = []
inverse_table p (suc n) a = a ^ (p - 2) % p ∷ inverse_table p n (suc a)
