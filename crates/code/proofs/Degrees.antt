-- Polynomials of a degree below m, without coefficients: they are known by their values at m points. Assumes nothing.
use Rattle.std.proofs.Common.{◌≡◌, ℕ, zero, suc, ◌<◌, sym, ap, ◌∙◌, ap₂, arith}
use Rattle.field.specs.Rows.{Arith, minus}
use Rattle.code.proofs.Ring.{Laws, sum-product, sum_cancel, product-zero, product_cancel, minus_same, minus_split, deg_sum_step, deg_times_step}

-- no two of the first m are the same
abbrev pub Distinct : {K : Type 0} → (ℕ → K) → ℕ → Type 0
Distinct p m = (i j : ℕ) → i < m → j < m → p i ≡ p j → i ≡ j

module _ {K : Type 0} {O : Arith K} (F : Laws O) where
  infixl 65 ◌⊕◌
  infixl 65 ◌⊝◌
  infixl 70 ◌⊗◌
  open O use {𝟘, ◌⊕◌, ◌⊗◌}

  abbrev ◌⊝◌ : K → K → K
  ◌⊝◌ = minus O

  -- f is a polynomial of degree below m: it is 0, or the difference from any of its values is x - a times one of a degree less
  abbrev pub Deg : ℕ → (K → K) → Type 0
  Deg zero f = (x : K) → f x ≡ 𝟘
  Deg (suc m) f = (a : K) → (g : K → K) × Deg m g × ((x : K) → f x ≡ f a ⊕ (x ⊝ a) ⊗ g x)

  pub deg_sum : (m : ℕ) (c : K) (f h : K → K) → Deg m f → Deg m h → Deg m (λ x. c ⊗ f x ⊕ h x)
  deg_sum zero c f h p r = λ x. ap₂ (λ y z. c ⊗ y ⊕ z) (p x) (r x) ∙ F.sum_zero (c ⊗ 𝟘) ∙ product-zero F c
  deg_sum (suc m) c f h p r = λ a.
      let (g, dg, e) = p a in
      let (k, dk, i) = r a in
      ((λ x. c ⊗ g x ⊕ k x), deg_sum m c g k dg dk, λ x. ap₂ (λ y z. c ⊗ y ⊕ z) (e x) (i x) ∙ deg_sum_step F c (f a) (x ⊝ a) (g x) (h a) (k x))

  pub deg_more : (m : ℕ) (f : K → K) → Deg m f → Deg (suc m) f
  deg_more zero f p = λ a. (f, p, λ x. p x ∙ sym (ap₂ (λ y z. y ⊕ (x ⊝ a) ⊗ z) (p a) (p x) ∙ ap (λ z. 𝟘 ⊕ z) (product-zero F (x ⊝ a)) ∙ F.sum_zero 𝟘))
  deg_more (suc m) f p = λ a. let (g, dg, e) = p a in (g, deg_more m g dg, e)

  pub deg_times : (m : ℕ) (d : K) (f : K → K) → Deg m f → Deg (suc m) (λ x. (x ⊝ d) ⊗ f x)
  deg_times zero d f p = deg_more zero _ (λ x. ap (λ z. (x ⊝ d) ⊗ z) (p x) ∙ product-zero F (x ⊝ d))
  deg_times (suc m) d f p = λ a.
      let (g, dg, e) = p a in (
        (λ x. (a ⊝ d) ⊗ g x ⊕ f x),
        deg_sum (suc m) (a ⊝ d) g f (deg_more m g dg) p,
        λ x. rw (minus_split F x a d)
            (sum-product F _ _ _ ∙ ap (λ y. (x ⊝ a) ⊗ f x ⊕ (a ⊝ d) ⊗ y) (e x) ∙ deg_times_step F (x ⊝ a) (a ⊝ d) (f a) (f x) (g x)),
      )

  -- two polynomials of degree below m that agree at m different points are one
  pub agree : (m : ℕ) (f h : K → K) → Deg m f → Deg m h → (p : ℕ → K) → Distinct p m
      → ((i : ℕ) → i < m → f (p i) ≡ h (p i)) → (x : K) → f x ≡ h x
  agree zero f h df dh p apart same x = df x ∙ sym (dh x)
  agree (suc m) f h df dh p apart same x =
      let (g, dg, e) = df (p m) in
      let (k, dk, i) = dh (p m) in
      let top : f (p m) ≡ h (p m) = same m (omega arith) in
      let rest : (j : ℕ) → j < m → g (p j) ≡ k (p j) = λ j l.
      let off : ¬ (p j ⊝ p m ≡ 𝟘) = λ z. omega (arith, apart j m (omega arith) (omega arith) (minus_same F _ _ z)) in
      product_cancel F (p j ⊝ p m) _ _ off (sum_cancel F (f (p m)) _ _
      (sym (e (p j)) ∙ same j (omega arith) ∙ i (p j) ∙ ap (λ y. y ⊕ (p j ⊝ p m) ⊗ k (p j)) (sym top))) in
      e x ∙ ap₂ (λ y z. y ⊕ (x ⊝ p m) ⊗ z) top
      (agree m g k dg dk p (λ i j a b. apart i j (omega arith) (omega arith)) rest x) ∙ sym (i x)
