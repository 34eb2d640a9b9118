-- What a finite field is. Its elements are the numbers below its size. Assumes nothing.
--     Ops                     a size, and four operations on the elements
--     Lawful o                the laws that an implementation shows, of all elements
--     element o a             the element that a number counts as
--     sum_of o a b            the operations at any numbers: sum_of, negative_of, product_of, inverse_of
--     inverse_by op q a       the number below q whose product with a is 1
--     power o g k             g to the power k
--     Steps o g p             the powers of g from 0 to p - 1 are all different, and the power p is 1
use Rattle.std.specs.Prelude.{◌≡◌, ℕ, zero, suc, ◌<◌, ◌≤◌, cond, ◌==◌, ◌≢◌, nat_lt}

pub record Ops : Type 0 where
  pub size : ℕ
  pub sum : ℕ → ℕ → ℕ
  pub negative : ℕ → ℕ
  pub product : ℕ → ℕ → ℕ
  pub inverse : ℕ → ℕ

-- what an implementation shows, of all elements a, b and e
pub record Lawful (o : Ops) : Type 0 where
  pub size_least : 2 ≤ o.size
  pub size_most : o.size ≤ 65536
  pub sum_element : (a b : ℕ) → a < o.size → b < o.size → o.sum a b < o.size
  pub negative_element : (a : ℕ) → a < o.size → o.negative a < o.size
  pub product_element : (a b : ℕ) → a < o.size → b < o.size → o.product a b < o.size
  pub inverse_element : (a : ℕ) → a < o.size → o.inverse a < o.size
  pub sum_comm : (a b : ℕ) → a < o.size → b < o.size → o.sum a b ≡ o.sum b a
  pub sum_assoc : (a b e : ℕ) → a < o.size → b < o.size → e < o.size → o.sum (o.sum a b) e ≡ o.sum a (o.sum b e)
  pub sum_zero : (a : ℕ) → a < o.size → o.sum a 0 ≡ a
  pub sum_negative : (a : ℕ) → a < o.size → o.sum a (o.negative a) ≡ 0
  pub product_comm : (a b : ℕ) → a < o.size → b < o.size → o.product a b ≡ o.product b a
  pub product_assoc : (a b e : ℕ) → a < o.size → b < o.size → e < o.size → o.product (o.product a b) e ≡ o.product a (o.product b e)
  pub product_one : (a : ℕ) → a < o.size → o.product a 1 ≡ a
  pub product_inverse : (a : ℕ) → a < o.size → (a ≢ 0) → o.product a (o.inverse a) ≡ 1
  pub product_sum : (a b e : ℕ) → a < o.size → b < o.size → e < o.size → o.product a (o.sum b e) ≡ o.sum (o.product a b) (o.product a e)
  pub inverse_zero : o.inverse 0 ≡ 0

-- a number of `size` or more counts as 0
abbrev pub element : Ops → ℕ → ℕ
element o a = cond (nat_lt a o.size) a 0

abbrev pub sum_of : Ops → ℕ → ℕ → ℕ
sum_of o a b = o.sum (element o a) (element o b)

abbrev pub negative_of : Ops → ℕ → ℕ
negative_of o a = o.negative (element o a)

abbrev pub product_of : Ops → ℕ → ℕ → ℕ
product_of o a b = o.product (element o a) (element o b)

abbrev pub inverse_of : Ops → ℕ → ℕ
inverse_of o a = o.inverse (element o a)

-- the number below q whose product with a is 1, and 0 where there is none; where there are several, the greatest
unfoldable pub inverse_by : (ℕ → ℕ → ℕ) → ℕ → ℕ → ℕ
inverse_by op zero a = 0
inverse_by op (suc b) a = cond (op a b == 1) b (inverse_by op b a)

-- g to the power k
abbrev pub power : Ops → ℕ → ℕ → ℕ
power o g zero = 1
power o g (suc k) = product_of o g (power o g k)

-- the step is an element; its powers from 0 to period - 1 are all different, and the power `period` is 1
pub record Steps (o : Ops) (step period : ℕ) : Type 0 where
  pub step_element : step < o.size
  pub returns_to_one : power o step period ≡ 1
  pub all_different : (i j : ℕ) → i < period → j < period → power o step i ≡ power o step j → i ≡ j
