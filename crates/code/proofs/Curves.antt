-- The polynomial of a message, by its nodes and its symbols. Assumes nothing.
use Rattle.std.proofs.Common.{◌≡◌, ℕ, zero, suc, ◌<◌, sym, refl, ap, ◌∙◌, ap₂, inl, inr, arith}
use Rattle.std.proofs.lemmas.Bool.{cases_eq}
use Rattle.field.specs.Rows.{Arith, dot, minus}
use Rattle.code.specs.Solving.{away, slope}
use Rattle.code.proofs.Ring.{Laws, zero-sum, product-zero, zero-product, inverse-product, product_nonzero, minus_self, minus_same, miss_step, hit_step}
use Rattle.code.proofs.Degrees.{Distinct, Deg, deg_sum, deg_times}

below_more : (P : ℕ → Type 0) (m : ℕ) → ((n : ℕ) → n < m → P n) → P m → (n : ℕ) → n < suc m → P n
below_more P m below here n h = elim (cases_eq n m) [ inl e ↦ rw e here | inr k ↦ below n (omega arith) ]

module _ {K : Type 0} {O : Arith K} (F : Laws O) where
  infixl 65 ◌⊕◌
  infixl 65 ◌⊝◌
  infixl 70 ◌⊗◌
  open O use {𝟘, ◌⊕◌, ◌⊗◌, inv}

  abbrev ◌⊝◌ : K → K → K
  ◌⊝◌ = minus O

  -- the sum over j below m of u j times the product over the k other than j of x - d k
  abbrev pub curve : (ℕ → K) → (ℕ → K) → ℕ → K → K
  curve d u zero x = 𝟘
  curve d u (suc m) x = u m ⊗ away O d m x ⊕ (x ⊝ d m) ⊗ curve d u m x

  module _ (d : ℕ → K) where
    pub deg_away : (m : ℕ) → Deg F (suc m) (away O d m)
    deg_away zero = λ a. ((λ x. 𝟘), (λ x. refl), λ x. sym (ap (λ z. O.𝟙 ⊕ z) (product-zero F (x ⊝ a)) ∙ F.sum_zero O.𝟙))
    deg_away (suc m) = deg_times F (suc m) (d m) _ (deg_away m)

    pub deg_curve : (u : ℕ → K) (m : ℕ) → Deg F m (curve d u m)
    deg_curve u zero = λ x. refl
    deg_curve u (suc m) = deg_sum F (suc m) (u m) _ _ (deg_away m) (deg_times F m (d m) _ (deg_curve u m))

    pub away_hit : (m n : ℕ) → n < m → away O d m (d n) ≡ 𝟘
    away_hit zero n h = absurd (omega arith)
    away_hit (suc m) n h = below_more (λ n. away O d (suc m) (d n) ≡ 𝟘) m
        (λ n h. ap (λ z. (d n ⊝ d m) ⊗ z) (away_hit m n h) ∙ product-zero F _)
        (ap (λ z. z ⊗ away O d m (d m)) (minus_self F (d m)) ∙ zero-product F _) n h

    -- at a node the curve is the symbol there times the slope
    pub curve_hit : (u : ℕ → K) (m n : ℕ) → n < m → curve d u m (d n) ≡ u n ⊗ slope O d m (d n)
    curve_hit u zero n h = absurd (omega arith)
    curve_hit u (suc m) n h = below_more (λ n. curve d u (suc m) (d n) ≡ u n ⊗ slope O d (suc m) (d n)) m
        (λ n h. hit_step F _ _ _ _ _ _ (away_hit m n h) (curve_hit u m n h)) (top m (curve d u m (d m)) (slope O d m (d m))) n h
      where
        none : (m : ℕ) (y : K) → (d m ⊝ d m) ⊗ y ≡ 𝟘
        none m y = ap (λ z. z ⊗ y) (minus_self F (d m)) ∙ zero-product F y

        top : (m : ℕ) (y z : K) → u m ⊗ away O d m (d m) ⊕ (d m ⊝ d m) ⊗ y ≡ u m ⊗ (away O d m (d m) ⊕ (d m ⊝ d m) ⊗ z)
        top m y z =
            ap (λ v. u m ⊗ away O d m (d m) ⊕ v) (none m y) ∙ F.sum_zero _
            ∙ sym (ap (λ v. u m ⊗ v) (ap (λ v. away O d m (d m) ⊕ v) (none m z) ∙ F.sum_zero _))

    module _ (x : K) where
      pub away_miss : (m : ℕ) → ((k : ℕ) → k < m → ¬ (x ≡ d k)) → ¬ (away O d m x ≡ 𝟘)
      away_miss zero miss = F.one-zero
      away_miss (suc m) miss = product_nonzero F _ _ (λ e. miss m (omega arith) (minus_same F _ _ e)) (away_miss m (λ k h. miss k (omega arith)))

      -- elsewhere it is the sum of the symbols, each divided by the difference from its node, times the product of all differences
      pub curve_miss : (u : ℕ → K) (m : ℕ) → ((k : ℕ) → k < m → ¬ (x ≡ d k)) → curve d u m x ≡ away O d m x ⊗ dot O (λ j. inv (x ⊝ d j)) u m
      curve_miss u zero miss = sym (product-zero F _)
      curve_miss u (suc m) miss =
          ap₂ ◌⊕◌ (sym (inverse-product F (x ⊝ d m) _ (λ e. miss m (omega arith) (minus_same F _ _ e))))
          (ap (λ z. (x ⊝ d m) ⊗ z) (curve_miss u m (λ k h. miss k (omega arith)))) ∙ miss_step F _ _ _ _ _

    pub slope_hit : (m n : ℕ) → Distinct d m → n < m → ¬ (slope O d m (d n) ≡ 𝟘)
    slope_hit zero n apart h = absurd (omega arith)
    slope_hit (suc m) n apart h = below_more (λ n. ¬ (slope O d (suc m) (d n) ≡ 𝟘)) m
        (λ n h e.
        product_nonzero F _ _ (λ e. omega (arith, apart n m (omega arith) (omega arith) (minus_same F _ _ e)))
        (slope_hit m n (λ i j a b. apart i j (omega arith) (omega arith)) h)
        (sym (zero-sum F _) ∙ ap (λ v. v ⊕ (d n ⊝ d m) ⊗ slope O d m (d n)) (sym (away_hit m n h)) ∙ e))
        (λ e. away_miss (d m) m (λ k l e. omega (arith, apart m k (omega arith) (omega arith) e))
        (sym (F.sum_zero _) ∙ ap (λ v. away O d m (d m) ⊕ v) (sym (ap (λ v. v ⊗ slope O d m (d m)) (minus_self F (d m)) ∙ zero-product F _)) ∙ e)) n h
