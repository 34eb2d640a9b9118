-- The laws of the reduced product, from tests at the powers of x. Assumes nothing.
use Rattle.std.specs.Prelude.{◌≡◌, ℕ, ◌^◌, ◌<◌, T, ltb, bit_xor, nat_eq, nat_lt}
use Rattle.std.proofs.Common.{sym, ap, ap₂, subst, ◌∙◌, arith, eqb→eq, ltb→lt, pow_pos}
use Rattle.std.proofs.lemmas.Nat.{xor_lt}
use Rattle.field.proofs.Tested.{all, at}
use Rattle.binary.specs.Binary.{reduced}
use Rattle.binary.specs.Span.{span}
use Rattle.binary.specs.Linear.{sum_left, sum_right, zero_left, zero_right}

-- what antt computes: the size, and the laws at the powers of x
pub record Basis (m d : ℕ) : Type 0 where
  pub least : T (nat_lt 2 (2 ^ d))
  pub most : T (nat_lt (2 ^ d) 65537)
  pub element : T (all d (λ i. all d (λ j. ltb (reduced m d (2 ^ i) (2 ^ j)) (2 ^ d))))
  pub comm : T (all d (λ i. all d (λ j. nat_eq (reduced m d (2 ^ i) (2 ^ j)) (reduced m d (2 ^ j) (2 ^ i)))))
  pub assoc : T (all d (λ i. all d (λ j. all d (λ k.
      nat_eq (reduced m d (reduced m d (2 ^ i) (2 ^ j)) (2 ^ k)) (reduced m d (2 ^ i) (reduced m d (2 ^ j) (2 ^ k)))))))
  pub one : T (all d (λ i. nat_eq (reduced m d (2 ^ i) 1) (2 ^ i)))

module _ {m d : ℕ} (t : Basis m d) where
  pub reduced-element : (a b : ℕ) → a < 2 ^ d → b < 2 ^ d → reduced m d a b < 2 ^ d
  reduced-element a b ha hb =
      span (λ x. reduced m d x b < 2 ^ d) (subst (λ (n : ℕ). n < 2 ^ d) (sym (zero_left m d b)) (pow_pos d))
      (λ u v p q. subst (λ (n : ℕ). n < 2 ^ d) (sym (sum_left m d u v b)) (xor_lt d _ _ p q)) d
      (λ i hi. span (λ y. reduced m d (2 ^ i) y < 2 ^ d) (subst (λ (n : ℕ). n < 2 ^ d) (sym (zero_right m d (2 ^ i))) (pow_pos d))
      (λ u v p q. subst (λ (n : ℕ). n < 2 ^ d) (sym (sum_right m d (2 ^ i) u v)) (xor_lt d _ _ p q)) d
      (λ j hj. ltb→lt _ _ (at d _ (at d _ t.element i hi) j hj)) b hb) a ha

  pub reduced_comm : (a b : ℕ) → a < 2 ^ d → b < 2 ^ d → reduced m d a b ≡ reduced m d b a
  reduced_comm a b ha hb =
      span (λ x. reduced m d x b ≡ reduced m d b x) (zero_left m d b ∙ sym (zero_right m d b))
      (λ u v p q. sum_left m d u v b ∙ ap₂ bit_xor p q ∙ sym (sum_right m d b u v)) d
      (λ i hi. span (λ y. reduced m d (2 ^ i) y ≡ reduced m d y (2 ^ i)) (zero_right m d (2 ^ i) ∙ sym (zero_left m d (2 ^ i)))
      (λ u v p q. sum_right m d (2 ^ i) u v ∙ ap₂ bit_xor p q ∙ sym (sum_left m d u v (2 ^ i))) d
      (λ j hj. eqb→eq _ _ (at d _ (at d _ t.comm i hi) j hj)) b hb) a ha

  pub reduced_assoc : (a b e : ℕ) → a < 2 ^ d → b < 2 ^ d → e < 2 ^ d → reduced m d (reduced m d a b) e ≡ reduced m d a (reduced m d b e)
  reduced_assoc a b e ha hb he =
      span (λ x. reduced m d (reduced m d x b) e ≡ reduced m d x (reduced m d b e))
      (ap (λ n. reduced m d n e) (zero_left m d b) ∙ zero_left m d e ∙ sym (zero_left m d (reduced m d b e)))
      (λ u v p q. ap (λ n. reduced m d n e) (sum_left m d u v b) ∙ sum_left m d _ _ e ∙ ap₂ bit_xor p q
      ∙ sym (sum_left m d u v (reduced m d b e))) d
      (λ i hi. span (λ y. reduced m d (reduced m d (2 ^ i) y) e ≡ reduced m d (2 ^ i) (reduced m d y e))
      (ap (λ n. reduced m d n e) (zero_right m d (2 ^ i)) ∙ zero_left m d e
      ∙ sym (ap (reduced m d (2 ^ i)) (zero_left m d e) ∙ zero_right m d (2 ^ i)))
      (λ u v p q. ap (λ n. reduced m d n e) (sum_right m d (2 ^ i) u v) ∙ sum_left m d _ _ e ∙ ap₂ bit_xor p q
      ∙ sym (ap (reduced m d (2 ^ i)) (sum_left m d u v e) ∙ sum_right m d (2 ^ i) _ _)) d
      (λ j hj. span (λ z. reduced m d (reduced m d (2 ^ i) (2 ^ j)) z ≡ reduced m d (2 ^ i) (reduced m d (2 ^ j) z))
      (zero_right m d _ ∙ sym (ap (reduced m d (2 ^ i)) (zero_right m d (2 ^ j)) ∙ zero_right m d (2 ^ i)))
      (λ u v p q. sum_right m d _ u v ∙ ap₂ bit_xor p q
      ∙ sym (ap (reduced m d (2 ^ i)) (sum_right m d (2 ^ j) u v) ∙ sum_right m d (2 ^ i) _ _)) d
      (λ k hk. eqb→eq _ _ (at d _ (at d _ (at d _ t.assoc i hi) j hj) k hk)) e he) b hb) a ha

  pub reduced-one : (a : ℕ) → a < 2 ^ d → reduced m d a 1 ≡ a
  reduced-one a ha =
      span (λ x. reduced m d x 1 ≡ x) (zero_left m d 1) (λ u v p q. sum_left m d u v 1 ∙ ap₂ bit_xor p q) d
      (λ i hi. eqb→eq _ _ (at d _ t.one i hi)) a ha

  pub two_below : 2 < 2 ^ d
  two_below = ltb→lt _ _ t.least

  pub one_below : 1 < 2 ^ d
  one_below = omega (arith, two_below)

  pub one-reduced : (a : ℕ) → a < 2 ^ d → reduced m d 1 a ≡ a
  one-reduced a h = reduced_comm 1 a one_below h ∙ reduced-one a h
