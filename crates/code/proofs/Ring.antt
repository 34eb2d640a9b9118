-- The laws of a field whose elements are a type of their own, and the equations of sums and products that follow. Assumes nothing.
use Rattle.std.proofs.Common.{◌≡◌, sym, ap, ◌∙◌, ap₂}
use Rattle.field.specs.Rows.{Arith, minus}

module _ {K : Type 0} (O : Arith K) where
  infixl 65 ◌⊕◌
  infixl 70 ◌⊗◌
  open O use {𝟘, 𝟙, ◌⊕◌, neg, ◌⊗◌, inv}

  pub record Laws : Type 0 where
    pub sum_comm : (a b : K) → a ⊕ b ≡ b ⊕ a
    pub sum_assoc : (a b e : K) → (a ⊕ b) ⊕ e ≡ a ⊕ (b ⊕ e)
    pub sum_zero : (a : K) → a ⊕ 𝟘 ≡ a
    pub sum_negative : (a : K) → a ⊕ neg a ≡ 𝟘
    pub product_comm : (a b : K) → a ⊗ b ≡ b ⊗ a
    pub product_assoc : (a b e : K) → (a ⊗ b) ⊗ e ≡ a ⊗ (b ⊗ e)
    pub product_one : (a : K) → a ⊗ 𝟙 ≡ a
    pub product_inverse : (a : K) → ¬ (a ≡ 𝟘) → a ⊗ inv a ≡ 𝟙
    pub product_sum : (a b e : K) → a ⊗ (b ⊕ e) ≡ a ⊗ b ⊕ a ⊗ e
    pub one-zero : ¬ (𝟙 ≡ 𝟘)

module _ {K : Type 0} {O : Arith K} (F : Laws O) where
  infixl 65 ◌⊕◌
  infixl 65 ◌⊝◌
  infixl 70 ◌⊗◌
  open O use {𝟘, 𝟙, ◌⊕◌, neg, ◌⊗◌, inv}

  sum_comm : (a b : K) → a ⊕ b ≡ b ⊕ a
  sum_comm = F.sum_comm

  sum_assoc : (a b e : K) → (a ⊕ b) ⊕ e ≡ a ⊕ (b ⊕ e)
  sum_assoc = F.sum_assoc

  product_comm : (a b : K) → a ⊗ b ≡ b ⊗ a
  product_comm = F.product_comm

  product_assoc : (a b e : K) → (a ⊗ b) ⊗ e ≡ a ⊗ (b ⊗ e)
  product_assoc = F.product_assoc

  product_sum : (a b e : K) → a ⊗ (b ⊕ e) ≡ a ⊗ b ⊕ a ⊗ e
  product_sum = F.product_sum

  sum_left : (a b e : K) → a ⊕ (b ⊕ e) ≡ b ⊕ (a ⊕ e)
  sum_left a b e = cc (sum_assoc a b e, sum_assoc b a e, sum_comm a b)

  pub product_left : (a b e : K) → a ⊗ (b ⊗ e) ≡ b ⊗ (a ⊗ e)
  product_left a b e = cc (product_assoc a b e, product_assoc b a e, product_comm a b)

  pub sum-product : (a b e : K) → (a ⊕ b) ⊗ e ≡ a ⊗ e ⊕ b ⊗ e
  sum-product a b e = product_comm (a ⊕ b) e ∙ product_sum e a b ∙ ap₂ ◌⊕◌ (product_comm e a) (product_comm e b)

  -- for `simp`: an equation between sums of products of variables
  ruleset ring = (sum_assoc, sum_left, sum_comm, product_assoc, product_left, product_comm, product_sum, sum-product)

  pub zero-sum : (a : K) → 𝟘 ⊕ a ≡ a
  zero-sum a = sum_comm 𝟘 a ∙ F.sum_zero a

  negative-sum : (a b : K) → neg a ⊕ (a ⊕ b) ≡ b
  negative-sum a b = sym (sum_assoc (neg a) a b) ∙ ap (λ z. z ⊕ b) (sum_comm (neg a) a ∙ F.sum_negative a) ∙ zero-sum b

  pub sum_cancel : (a b e : K) → a ⊕ b ≡ a ⊕ e → b ≡ e
  sum_cancel a b e h = sym (negative-sum a b) ∙ ap (λ z. neg a ⊕ z) h ∙ negative-sum a e

  pub product-zero : (a : K) → a ⊗ 𝟘 ≡ 𝟘
  product-zero a = sum_cancel (a ⊗ 𝟘) (a ⊗ 𝟘) 𝟘 (sym (product_sum a 𝟘 𝟘) ∙ ap (λ z. a ⊗ z) (F.sum_zero 𝟘) ∙ sym (F.sum_zero (a ⊗ 𝟘)))

  pub zero-product : (a : K) → 𝟘 ⊗ a ≡ 𝟘
  zero-product a = product_comm 𝟘 a ∙ product-zero a

  -- a factor and its inverse may be left out
  pub inverse-product : (a b : K) → ¬ (a ≡ 𝟘) → a ⊗ (inv a ⊗ b) ≡ b
  inverse-product a b n = sym (product_assoc a (inv a) b) ∙ ap (λ z. z ⊗ b) (F.product_inverse a n) ∙ product_comm 𝟙 b ∙ F.product_one b

  pub product_cancel : (a b e : K) → ¬ (a ≡ 𝟘) → a ⊗ b ≡ a ⊗ e → b ≡ e
  product_cancel a b e n h =
      sym (inverse-product a b n) ∙ product_left a (inv a) b ∙ ap (λ z. inv a ⊗ z) h ∙ product_left (inv a) a e ∙ inverse-product a e n

  pub product_nonzero : (a b : K) → ¬ (a ≡ 𝟘) → ¬ (b ≡ 𝟘) → ¬ (a ⊗ b ≡ 𝟘)
  product_nonzero a b n k e = k (product_cancel a b 𝟘 n (e ∙ sym (product-zero a)))

  -- differences are shut: all that is used of them is these four facts
  abbrev ◌⊝◌ : K → K → K
  ◌⊝◌ = minus O

  pub minus_self : (a : K) → a ⊝ a ≡ 𝟘
  unfolding minus
  minus_self = F.sum_negative

  pub minus_same : (a b : K) → a ⊝ b ≡ 𝟘 → a ≡ b
  unfolding minus
  minus_same a b e = sum_cancel (neg b) a b (sum_comm (neg b) a ∙ e ∙ sym (F.sum_negative b) ∙ sum_comm b (neg b))

  pub minus_split : (x a d : K) → x ⊝ d ≡ (x ⊝ a) ⊕ (a ⊝ d)
  unfolding minus
  minus_split x a d = sym (sum_assoc x (neg a) (a ⊕ neg d) ∙ ap (λ z. x ⊕ z) (negative-sum a (neg d)))

  pub sum-minus : (a b : K) → a ⊕ (b ⊝ a) ≡ b
  unfolding minus
  sum-minus a b = sum_comm a _ ∙ sum_assoc b (neg a) a ∙ ap (λ z. b ⊕ z) (sum_comm (neg a) a ∙ F.sum_negative a) ∙ F.sum_zero b

  -- equations of the steps of inductions, over variables
  pub deg_sum_step : (c p b g q k : K) → c ⊗ (p ⊕ b ⊗ g) ⊕ (q ⊕ b ⊗ k) ≡ (c ⊗ p ⊕ q) ⊕ b ⊗ (c ⊗ g ⊕ k)
  deg_sum_step c p b g q k = simp ring

  pub deg_times_step : (b e p v g : K) → b ⊗ v ⊕ e ⊗ (p ⊕ b ⊗ g) ≡ e ⊗ p ⊕ b ⊗ (e ⊗ g ⊕ v)
  deg_times_step b e p v g = simp ring

  pub miss_step : (a i n s v : K) → a ⊗ (i ⊗ (v ⊗ n)) ⊕ a ⊗ (n ⊗ s) ≡ (a ⊗ n) ⊗ (s ⊕ i ⊗ v)
  miss_step a i n s v = simp ring

  pub hit_step : (a n c v w s : K) → n ≡ 𝟘 → c ≡ w ⊗ s → v ⊗ n ⊕ a ⊗ c ≡ w ⊗ (n ⊕ a ⊗ s)
  hit_step a n c v w s p r = simp (p, r, product-zero, zero-sum, product_left)

  pub sum_step : (a p r c v w : K) → (p ⊕ a ⊗ r) ⊕ c ⊗ (v ⊕ a ⊗ w) ≡ (p ⊕ c ⊗ v) ⊕ a ⊗ (r ⊕ c ⊗ w)
  sum_step a p r c v w = simp ring

  pub part_step : (a p r i w s y : K) → a ⊗ p ≡ r → a ⊗ (p ⊕ i ⊗ (w ⊗ (s ⊗ y))) ≡ r ⊕ (a ⊗ (i ⊗ (w ⊗ s))) ⊗ y
  part_step a p r i w s y e = product_sum a p _ ∙ ap₂ ◌⊕◌ e (simp ring)
