-- A field of polynomials that is tested: products and inverses by its tables, its laws, and its step. Assumes nothing.
use Rattle.std.specs.Prelude.{◌≡◌, ℕ, zero, suc, ◌+◌, ◌-◌, ◌*◌, ◌^◌, ◌<◌, List, ◌≢◌}
use Rattle.std.proofs.Common.{sym, ap, ap₂, ◌∙◌, suc-add, zero-add, ltb→lt, arith}
use Rattle.std.proofs.lemmas.Nat.{xor_lt, xor_comm}
use Rattle.std.specs.Int.Bits.{xor_assoc, xor_self, xor_zero_r}
use Rattle.checks.specs.Checks.{at}
use Rattle.field.specs.Field.{Lawful, Steps, inverse_by, power, element}
use Rattle.field.proofs.Total.{element_is}
use Rattle.field.proofs.Inverse.{inverse_below, inverse_found, inverse_none}
use Rattle.binary.specs.Binary.{reduced, binary}
use Rattle.binary.specs.Linear.{sum_right, zero_left}
use Rattle.binary.specs.Basis.{reduced-element, reduced_comm, reduced_assoc, reduced-one, one-reduced}
use Rattle.binary.specs.Tested.{TestedTables, two, power_element, power_first, power_next, power_round}
use Rattle.binary.specs.Tested.{exponent_below, power_exponent, exponent_power}

module _ {m d top : ℕ} {ps es : List ℕ} (t : TestedTables m d top ps es) where
  -- the product of two powers
  powers_product : (i j : ℕ) → suc (i + j) < 2 * top → reduced m d (at ps i) (at ps j) ≡ at ps (i + j)
  powers_product zero j h =
      ap (λ n. reduced m d n (at ps j)) (power_first t) ∙ one-reduced t.basis (at ps j) (power_element t j (omega arith))
      ∙ ap (at ps) (sym (zero-add j))
  powers_product (suc i) j h =
      let hi : suc i < 2 * top = omega arith in
      let hs : suc (i + j) < 2 * top = omega arith in
      ap (λ n. reduced m d n (at ps j)) (sym (power_next t i hi))
      ∙ reduced_assoc t.basis 2 (at ps i) (at ps j) (two t) (power_element t i (omega (arith, hi))) (power_element t j (omega (arith, hi)))
      ∙ ap (reduced m d 2) (powers_product i j hs) ∙ power_next t (i + j) hs ∙ ap (at ps) (sym (suc-add i j))

  -- the product of two elements but 0 is the power whose exponent is the sum of theirs
  pub product_is : (a b : ℕ) → a < 2 ^ d → b < 2 ^ d → (a ≢ 0) → (b ≢ 0) → at ps (at es a + at es b) ≡ reduced m d a b
  product_is a b ha hb na nb =
      sym (powers_product (at es a) (at es b) (omega (arith, exponent_below t a ha, exponent_below t b hb)))
      ∙ ap₂ (reduced m d) (power_exponent t a ha na) (power_exponent t b hb nb)

  inverse_element : (a : ℕ) → inverse_by (reduced m d) (2 ^ d) a < 2 ^ d
  inverse_element a = inverse_below (reduced m d) (2 ^ d) a (omega (arith, two t))

  module _ (a : ℕ) (ha : a < 2 ^ d) (na : a ≢ 0) where
    -- the power whose exponent and that of a make 2 ^ d - 1
    other : ℕ
    other = at ps (top - at es a)

    other_element : other < 2 ^ d
    unfolding other
    other_element = power_element t (top - at es a) (omega (arith, exponent_below t a ha, two t, t.size))

    product_other : reduced m d a other ≡ 1
    unfolding other
    product_other =
        let l : at es a < top = exponent_below t a ha in
        let whole : at es a + (top - at es a) ≡ top = omega arith in
        ap (λ n. reduced m d n (at ps (top - at es a))) (sym (power_exponent t a ha na))
        ∙ powers_product (at es a) (top - at es a) (omega (arith, whole, two t, t.size)) ∙ ap (at ps) whole ∙ power_round t

    product_inverse : reduced m d a (inverse_by (reduced m d) (2 ^ d) a) ≡ 1
    product_inverse = inverse_found (reduced m d) (2 ^ d) a other other_element product_other

    -- the inverse of an element but 0 is that power
    pub inverse_is : at ps (2 ^ d - 1 - at es a) ≡ inverse_by (reduced m d) (2 ^ d) a
    unfolding other
    inverse_is =
        let last : 2 ^ d - 1 ≡ top = omega (arith, t.size) in
        let y : ℕ = inverse_by (reduced m d) (2 ^ d) a in
        let hy : y < 2 ^ d = inverse_element a in
        ap (λ n. at ps (n - at es a)) last ∙ sym (sym (reduced-one t.basis y hy) ∙ ap (reduced m d y) (sym product_other)
        ∙ sym (reduced_assoc t.basis y a other hy ha other_element)
        ∙ ap (λ n. reduced m d n other) (reduced_comm t.basis y a hy ha ∙ product_inverse) ∙ one-reduced t.basis other other_element)

  pub lawful : Lawful (binary m d)
  lawful = record {
    size_least = omega (arith, two t);
    size_most = omega (arith, ltb→lt (2 ^ d) 65537 t.basis.most);
    sum_element = λ a b. xor_lt d a b;
    negative_element = λ a h. h;
    product_element = reduced-element t.basis;
    inverse_element = λ a h. inverse_element a;
    sum_comm = λ a b ha hb. xor_comm a b;
    sum_assoc = λ a b e ha hb he. xor_assoc a b e;
    sum_zero = λ a h. xor_zero_r a;
    sum_negative = λ a h. xor_self a;
    product_comm = reduced_comm t.basis;
    product_assoc = reduced_assoc t.basis;
    product_one = reduced-one t.basis;
    product_inverse = product_inverse;
    product_sum = λ a b e ha hb he. sum_right m d a b e;
    inverse_zero = inverse_none (reduced m d) 0 (zero_left m d) (2 ^ d);
  }

  power_is : (k : ℕ) → suc k < 2 * top → power (binary m d) 2 k ≡ at ps k
  power_is zero h = sym (power_first t)
  power_is (suc k) h =
      let hk : suc k < 2 * top = omega arith in
      let e = element_is (binary m d) (at ps k) (power_element t k (omega (arith, hk))) in
      ap₂ (reduced m d) (element_is (binary m d) 2 (two t)) (ap (element (binary m d)) (power_is k hk) ∙ e) ∙ power_next t k hk

  exponent_is : (k : ℕ) → k < top → at es (power (binary m d) 2 k) ≡ k
  exponent_is k h = ap (at es) (power_is k (omega (arith, two t, t.size))) ∙ exponent_power t k h

  pub steps : Steps (binary m d) 2 top
  steps = record {
    step_element = two t;
    returns_to_one = power_is top (omega (arith, two t, t.size)) ∙ power_round t;
    all_different = λ i j hi hj e. sym (exponent_is i hi) ∙ ap (at es) e ∙ exponent_is j hj;
  }
