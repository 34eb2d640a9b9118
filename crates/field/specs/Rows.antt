-- Sums of products over rows of symbols. Assumes nothing.
--     Arith K                   the operations over any type of elements
--     numbers o                 the numbers of a program, with a field's operations
--     minus O a b               the difference of a and b
--     dot O c u m               the sum over j below m of c j · u j
--     symbol rows len s j       symbol s of row j, where rows of len symbols stand one behind the other
--     Added o k row old new     k times the row is added, as far as the row reaches
--     Combined o ks rows out    out is the sum of the rows, each times its factor
use Rattle.std.specs.Prelude.{◌≡◌, ℕ, zero, suc, ◌+◌, ◌*◌, ◌<◌, cond, List, length, nat_lt}
use Rattle.checks.specs.Checks.{at}
use Rattle.field.specs.Field.{Ops, sum_of, negative_of, product_of, inverse_of}

-- the operations over any type of elements: the numbers of a program, or the elements that a proof works with
pub record Arith (K : Type 0) : Type 0 where
  pub 𝟘 : K
  pub 𝟙 : K
  pub ◌⊕◌ : K → K → K
  pub neg : K → K
  pub ◌⊗◌ : K → K → K
  pub inv : K → K

abbrev pub numbers : Ops → Arith ℕ
numbers o = record { 𝟘 = 0; 𝟙 = 1; ◌⊕◌ = sum_of o; neg = negative_of o; ◌⊗◌ = product_of o; inv = inverse_of o }

-- a plus the negative of b
unfoldable pub minus : {K : Type 0} → Arith K → K → K → K
minus O a b = O.◌⊕◌ a (O.neg b)

-- the sum over j below m of c j · u j
abbrev pub dot : {K : Type 0} → Arith K → (ℕ → K) → (ℕ → K) → ℕ → K
dot O c u zero = O.𝟘
dot O c u (suc m) = O.◌⊕◌ (dot O c u m) (O.◌⊗◌ (c m) (u m))

-- symbol s of row j
abbrev pub symbol : List ℕ → ℕ → ℕ → ℕ → ℕ
symbol rows len s j = at rows (j * len + s)

-- new is old with k times the row added, as far as the row reaches
abbrev pub Added : Ops → ℕ → List ℕ → List ℕ → List ℕ → Type 0
Added o k row old new =
    (s : ℕ) → s < length old → at new s ≡ cond (nat_lt s (length row)) (sum_of o (at old s) (product_of o k (at row s))) (at old s)

-- each symbol of out is the sum of the symbols there of the rows, each times its factor; past the end of the rows a symbol is 0
abbrev pub Combined : Ops → List ℕ → List ℕ → List ℕ → Type 0
Combined o factors rows out =
    (s : ℕ) → s < length out → at out s ≡ dot (numbers o) (at factors) (symbol rows (length out) s) (length factors)
