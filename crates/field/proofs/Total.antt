-- The laws of a field's operations at all numbers, where one of `size` or more counts as 0.
-- Assumes nothing.
use Rattle.std.proofs.Common.{◌≡◌, ℕ, ◌<◌, ltb, sym, ap, ◌∙◌, ap₂, arith}
use Rattle.std.proofs.lemmas.Bool.{cond_both, ltb-true, lt-ltb, cond-true}
use Rattle.field.specs.Field.{Ops, Lawful, element, sum_of, negative_of, product_of, inverse_of}

pub element_is : (o : Ops) (a : ℕ) → a < o.size → element o a ≡ a
element_is o a h = cond-true (ltb a o.size) a 0 (lt-ltb a o.size h)

module _ {o : Ops} (laws : Lawful o) where
  pub zero-element : 0 < o.size
  zero-element = omega (arith, laws.size_least)

  pub one-element : 1 < o.size
  one-element = omega (arith, laws.size_least)

  pub element_below : (a : ℕ) → element o a < o.size
  element_below a = cond_both (ltb a o.size) a 0 (λ x. x < o.size) (λ e. ltb-true a o.size e) (λ e. zero-element)

  pub sum_of-element : (a b : ℕ) → sum_of o a b < o.size
  sum_of-element a b = laws.sum_element _ _ (element_below a) (element_below b)

  pub product_of-element : (a b : ℕ) → product_of o a b < o.size
  product_of-element a b = laws.product_element _ _ (element_below a) (element_below b)

  element-sum : (a b : ℕ) → element o (sum_of o a b) ≡ sum_of o a b
  element-sum a b = element_is o (sum_of o a b) (sum_of-element a b)

  element-product : (a b : ℕ) → element o (product_of o a b) ≡ product_of o a b
  element-product a b = element_is o (product_of o a b) (product_of-element a b)

  pub sum_of_comm : (a b : ℕ) → sum_of o a b ≡ sum_of o b a
  sum_of_comm a b = laws.sum_comm _ _ (element_below a) (element_below b)

  pub sum_of_assoc : (a b e : ℕ) → sum_of o (sum_of o a b) e ≡ sum_of o a (sum_of o b e)
  sum_of_assoc a b e =
      ap (λ x. o.sum x (element o e)) (element-sum a b) ∙ laws.sum_assoc _ _ _ (element_below a) (element_below b) (element_below e)
      ∙ ap (o.sum (element o a)) (sym (element-sum b e))

  pub sum_of-zero : (a : ℕ) → a < o.size → sum_of o a 0 ≡ a
  sum_of-zero a h = ap₂ o.sum (element_is o a h) (element_is o 0 zero-element) ∙ laws.sum_zero a h

  pub zero-sum_of : (a : ℕ) → a < o.size → sum_of o 0 a ≡ a
  zero-sum_of a h = sum_of_comm 0 a ∙ sum_of-zero a h

  pub product_of_comm : (a b : ℕ) → product_of o a b ≡ product_of o b a
  product_of_comm a b = laws.product_comm _ _ (element_below a) (element_below b)

  pub product_of_assoc : (a b e : ℕ) → product_of o (product_of o a b) e ≡ product_of o a (product_of o b e)
  product_of_assoc a b e =
      ap (λ x. o.product x (element o e)) (element-product a b) ∙ laws.product_assoc _ _ _ (element_below a) (element_below b) (element_below e)
      ∙ ap (o.product (element o a)) (sym (element-product b e))

  pub product_of-one : (a : ℕ) → a < o.size → product_of o a 1 ≡ a
  product_of-one a h = ap₂ o.product (element_is o a h) (element_is o 1 one-element) ∙ laws.product_one a h

  pub product_of-sum : (a b e : ℕ) → product_of o a (sum_of o b e) ≡ sum_of o (product_of o a b) (product_of o a e)
  product_of-sum a b e =
      ap (o.product (element o a)) (element-sum b e) ∙ laws.product_sum _ _ _ (element_below a) (element_below b) (element_below e)
      ∙ ap₂ o.sum (sym (element-product a b)) (sym (element-product a e))

  pub negative_of-element : (a : ℕ) → negative_of o a < o.size
  negative_of-element a = laws.negative_element _ (element_below a)

  pub inverse_of-element : (a : ℕ) → inverse_of o a < o.size
  inverse_of-element a = laws.inverse_element _ (element_below a)

  pub sum_of-negative : (a : ℕ) → sum_of o a (negative_of o a) ≡ 0
  sum_of-negative a = ap (o.sum (element o a)) (element_is o (negative_of o a) (negative_of-element a)) ∙ laws.sum_negative _ (element_below a)

  pub product_of-inverse : (a : ℕ) → a < o.size → (a ≡ 0 → ⊥) → product_of o a (inverse_of o a) ≡ 1
  product_of-inverse a h n =
      ap₂ o.product (element_is o a h) (element_is o (inverse_of o a) (inverse_of-element a) ∙ ap o.inverse (element_is o a h)) ∙ laws.product_inverse a h n

  -- a summand that is added to both sides may be left out
  sum_of_cancel : (a b e : ℕ) → b < o.size → e < o.size → sum_of o a b ≡ sum_of o a e → b ≡ e
  sum_of_cancel a b e hb he same = sym (back b hb) ∙ ap (sum_of o (negative_of o a)) same ∙ back e he
    where
      back : (x : ℕ) → x < o.size → sum_of o (negative_of o a) (sum_of o a x) ≡ x
      back x hx = sym (sum_of_assoc (negative_of o a) a x) ∙ ap (λ n. sum_of o n x) (sum_of_comm (negative_of o a) a ∙ sum_of-negative a) ∙ zero-sum_of x hx

  pub product_of-zero : (a : ℕ) → product_of o a 0 ≡ 0
  product_of-zero a =
      sum_of_cancel (product_of o a 0) (product_of o a 0) 0 (product_of-element a 0) zero-element
      (sym (product_of-sum a 0 0) ∙ ap (product_of o a) (sum_of-zero 0 zero-element) ∙ sym (sum_of-zero (product_of o a 0) (product_of-element a 0)))
