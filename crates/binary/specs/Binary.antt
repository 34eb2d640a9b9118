-- Fields of polynomials over two values: bit i of a number is the coefficient of x to the power i. Assumes nothing.
--     coefficient v i        the coefficient of x to the power i in v
--     poly_product n a b     the product of b and the terms of a below x to the power n
--     rest m d n v           what the division of v by the polynomial m of degree d leaves
--     reduced m d a b        the product of a and b, reduced by m
--     binary m d             the field of 2 ^ d elements whose products are reduced by m
--     byte_polynomial        x^8 + x^4 + x^3 + x^2 + 1
--     nibble_polynomial      x^4 + x + 1
--     byte, nibble           the fields of 256 and of 16 elements
use Rattle.std.specs.Prelude.{ℕ, zero, suc, ◌+◌, ◌*◌, ◌/◌, ◌%◌, ◌^◌, bit_xor}
use Rattle.field.specs.Field.{Ops, inverse_by}

-- the coefficient of x to the power i in v
abbrev pub coefficient : ℕ → ℕ → ℕ
coefficient v i = v / 2 ^ i % 2

-- the product of b and the terms of a below x to the power n: b * 2 ^ i is b times x to the power i
unfoldable pub poly_product : ℕ → ℕ → ℕ → ℕ
poly_product zero a b = 0
poly_product (suc i) a b = bit_xor (poly_product i a b) (coefficient a i * (b * 2 ^ i))

-- what the division of v, whose terms are below x to the power d + n, by m, whose first term is x to the power d, leaves
unfoldable pub rest : ℕ → ℕ → ℕ → ℕ → ℕ
rest m d zero v = v
rest m d (suc i) v = rest m d i (bit_xor v (coefficient v (d + i) * (m * 2 ^ i)))

-- the product of a and b, which are below x to the power d, reduced by m
unfoldable pub reduced : ℕ → ℕ → ℕ → ℕ → ℕ
unfolding poly_product rest
reduced m d a b = rest m d d (poly_product d a b)

-- the field of 2 ^ d elements whose products are reduced by m: each element is its own negative
abbrev pub binary : ℕ → ℕ → Ops
binary m d = record {
  size = 2 ^ d;
  sum = bit_xor;
  negative = λ a. a;
  product = reduced m d;
  inverse = inverse_by (reduced m d) (2 ^ d);
}

-- x^8 + x^4 + x^3 + x^2 + 1
abbrev pub byte_polynomial : ℕ
byte_polynomial = 2 ^ 8 + 2 ^ 4 + 2 ^ 3 + 2 ^ 2 + 1

-- x^4 + x + 1
abbrev pub nibble_polynomial : ℕ
nibble_polynomial = 2 ^ 4 + 2 + 1

abbrev pub byte : Ops
byte = binary byte_polynomial 8

abbrev pub nibble : Ops
nibble = binary nibble_polynomial 4
