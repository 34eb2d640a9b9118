-- What packets carry of a message of one symbol a row, over elements: m of them settle it, fewer tell nothing of another. Assumes nothing.
use Rattle.std.proofs.Common.{◌≡◌, ℕ, zero, suc, ◌<◌, ◌≤◌, sym, refl, ap, ◌∙◌, inl, inr, arith}
use native.Mathlib.Decide.{le_ind}
use Rattle.std.proofs.lemmas.Bool.{cases_lt, lt-ltb, le-ltb}
use Rattle.field.specs.Rows.{Arith, dot, minus}
use Rattle.code.specs.Packets.{packet}
use Rattle.code.specs.Solving.{away, slope, scale, part}
use Rattle.code.proofs.Sums.{dot_same}
use Rattle.code.proofs.Ring.{Laws, product-zero, inverse-product, product_cancel, sum-minus, sum_step, part_step}
use Rattle.code.proofs.Degrees.{Distinct, Deg, deg_more, agree}
use Rattle.code.proofs.Curves.{curve, deg_away, deg_curve, away_hit, away_miss, curve_hit, curve_miss, slope_hit}

-- count packets with their nodes, of which the first m carry the message
pub record Nodes (K : Type 0) : Type 0 where
  pub node : ℕ → K
  pub m : ℕ
  pub count : ℕ
  pub few : m ≤ count
  pub apart : Distinct node count

-- m different packets of those
pub record Known (m count : ℕ) : Type 0 where
  pub at : ℕ → ℕ
  pub inside : (t : ℕ) → t < m → at t < count
  pub apart : Distinct at m

module _ {K : Type 0} {O : Arith K} (F : Laws O) where
  infixl 65 ◌⊕◌
  infixl 70 ◌⊗◌
  open O use {𝟘, ◌⊕◌, ◌⊗◌, inv}

  dot-sum : (c u w : ℕ → K) (a : K) (m : ℕ) → dot O c (λ j. u j ⊕ a ⊗ w j) m ≡ dot O c u m ⊕ a ⊗ dot O c w m
  dot-sum c u w a zero = sym (ap (λ z. 𝟘 ⊕ z) (product-zero F a) ∙ F.sum_zero 𝟘)
  dot-sum c u w a (suc m) = ap (λ z. z ⊕ c m ⊗ (u m ⊕ a ⊗ w m)) (dot-sum c u w a m) ∙ sum_step F _ _ _ _ _ _

  dot-part : (a : K) (i w s y : ℕ → K) (m : ℕ) → a ⊗ dot O i (λ t. w t ⊗ (s t ⊗ y t)) m ≡ dot O (λ t. a ⊗ (i t ⊗ (w t ⊗ s t))) y m
  dot-part a i w s y zero = product-zero F a
  dot-part a i w s y (suc m) = part_step F _ _ _ _ _ _ _ (dot-part a i w s y m)

  module _ (N : Nodes K) where
    open N use {node as x, m, count, apart}

    -- what packet n carries of the message u
    abbrev pub carries : (ℕ → K) → ℕ → K
    carries = packet O x m

    -- packets look at nothing but the message
    pub carries_same : (u w : ℕ → K) (n : ℕ) → ((j : ℕ) → j < m → u j ≡ w j) → carries u n ≡ carries w n
    carries_same u w n same = elim (cases_lt n m)
        [ inl h ↦ rw (lt-ltb n m h) (same n h) | inr h ↦ rw (le-ltb n m h) (dot_same O _ _ u w m (λ j _. refl) same) ]

    carries-sum : (u w : ℕ → K) (a : K) (n : ℕ) → carries (λ j. u j ⊕ a ⊗ w j) n ≡ carries u n ⊕ a ⊗ carries w n
    carries-sum u w a n = elim (cases_lt n m) [ inl h ↦ rw (lt-ltb n m h) | inr h ↦ rw (le-ltb n m h) (dot-sum _ u w a m) ]

    missed : (n : ℕ) → m ≤ n → n < count → (k : ℕ) → k < m → ¬ (x n ≡ x k)
    missed n h l k b e = omega (arith, apart n k (omega arith) (omega arith) e)

    apart_data : Distinct x m
    apart_data i j a b = apart i j (omega arith) (omega arith)

    -- times its scale, what a packet carries is the curve's value at the packet's node
    tied : (u : ℕ → K) (n : ℕ) → n < count → scale O x m n ⊗ carries u n ≡ curve F x u m (x n)
    tied u n l = elim (cases_lt n m) [
      | inl h ↦ rw (lt-ltb n m h) (F.product_comm _ _ ∙ sym (curve_hit F x u m n h))
      | inr h ↦ rw (le-ltb n m h) (sym (curve_miss F x (x n) u m (missed n h l)))
    ]

    scale_not : (n : ℕ) → n < count → ¬ (scale O x m n ≡ 𝟘)
    scale_not n l = elim (cases_lt n m)
        [ inl h ↦ rw (lt-ltb n m h) (slope_hit F x m n apart_data h) | inr h ↦ rw (le-ltb n m h) (away_miss F x (x n) m (missed n h l)) ]

    by_scale : (n : ℕ) (a b : K) → n < count → scale O x m n ⊗ a ≡ scale O x m n ⊗ b → a ≡ b
    by_scale n a b l = product_cancel F _ a b (scale_not n l)

    -- the message whose polynomial is f
    message_of : (K → K) → ℕ → K
    message_of f j = inv (slope O x m (x j)) ⊗ f (x j)

    realised : (f : K → K) → Deg F m f → (n : ℕ) → n < count → scale O x m n ⊗ carries (message_of f) n ≡ f (x n)
    unfolding message_of
    realised f df n l = tied (message_of f) n l ∙ agree F m (curve F x (message_of f) m) f (deg_curve F x _ m) df x apart_data
        (λ j h. curve_hit F x (message_of f) m j h ∙ F.product_comm _ _ ∙ inverse-product F _ _ (slope_hit F x m j apart_data h)) (x n)

    -- fewer than m packets tell nothing of another: some message has the same at them and any value there
    pub fewer : (k : ℕ) (at : ℕ → ℕ) (n : ℕ) → k < m → ((t : ℕ) → t < k → at t < count) → n < count → ((t : ℕ) → t < k → ¬ (at t ≡ n))
        → (u : ℕ → K) (v : K) → (w : ℕ → K) × ((t : ℕ) → t < k → carries w (at t) ≡ carries u (at t)) × (carries w n ≡ v)
    fewer k at n less inside l other u v =
        let d : ℕ → K = λ t. x (at t) in
        let e = message_of (away O d k) in
        let real = realised (away O d k) (le_ind (λ n. Deg F n (away O d k)) (deg_away F d k) (λ n _ e. deg_more F n _ e) m less) in
        let none : (t : ℕ) → t < k → carries e (at t) ≡ 𝟘 = λ t h.
        by_scale (at t) _ _ (inside t h) (real (at t) (inside t h) ∙ away_hit F d k t h ∙ sym (product-zero F _)) in
        let some : ¬ (carries e n ≡ 𝟘) = λ z. away_miss F d (x n) k (λ t h e. other t h (sym (apart n (at t) l (inside t h) e)))
        (sym (real n l) ∙ ap (λ v. scale O x m n ⊗ v) z ∙ product-zero F _) in
        let a = inv (carries e n) ⊗ minus O v (carries u n) in (
          (λ j. u j ⊕ a ⊗ e j),
          (λ t h. carries-sum u e a (at t) ∙ ap (λ z. carries u (at t) ⊕ a ⊗ z) (none t h) ∙ ap (λ z. carries u (at t) ⊕ z) (product-zero F a) ∙ F.sum_zero _),
          carries-sum u e a n ∙ ap (λ z. carries u n ⊕ z) (F.product_comm _ _ ∙ inverse-product F _ _ some) ∙ sum-minus F _ _,
        )

    module _ (known : Known m count) where
      open known use {at, inside}

      abbrev d : ℕ → K
      d t = x (at t)

      known-apart : Distinct d m
      known-apart i j a b e = known.apart i j a b (apart (at i) (at j) (inside i a) (inside j b) e)

      -- a message is known by its known packets
      same_curve : (u : ℕ → K) (f : K → K) → Deg F m f → ((t : ℕ) → t < m → scale O x m (at t) ⊗ carries u (at t) ≡ f (d t))
          → (n : ℕ) → n < count → scale O x m n ⊗ carries u n ≡ f (x n)
      same_curve u f df same n l = tied u n l ∙ agree F m _ _ (deg_curve F x u m) df d known-apart
          (λ t h. sym (tied u (at t) (inside t h)) ∙ same t h) (x n)

      pub unique : (u w : ℕ → K) → ((t : ℕ) → t < m → carries u (at t) ≡ carries w (at t)) → (n : ℕ) → n < count → carries u n ≡ carries w n
      unique u w same n l = by_scale n _ _ l
          (same_curve u (curve F x w m) (deg_curve F x w m) (λ t h. ap (λ z. scale O x m (at t) ⊗ z) (same t h) ∙ tied w (at t) (inside t h)) n l
          ∙ sym (tied w n l))

      -- the polynomial of the message that carries y at the known packets
      module _ (y : ℕ → K) where
        height : ℕ → K
        height t = inv (slope O d m (d t)) ⊗ (scale O x m (at t) ⊗ y t)

        through_known : (t : ℕ) → t < m → curve F d height m (d t) ≡ scale O x m (at t) ⊗ y t
        unfolding height
        through_known t l = curve_hit F d height m t l ∙ F.product_comm _ _ ∙ inverse-product F _ _ (slope_hit F d m t known-apart l)

        -- any other packet is the sum of the known ones, each times its part
        pub recovered : (u : ℕ → K) → ((t : ℕ) → t < m → carries u (at t) ≡ y t)
            → (n : ℕ) → n < count → ((t : ℕ) → t < m → ¬ (at t ≡ n)) → carries u n ≡ dot O (part O x m at n) y m
        unfolding height
        recovered u carried n l other =
            by_scale n _ _ l
            (same_curve u (curve F d height m) (deg_curve F d height m) (λ t h. ap (λ z. scale O x m (at t) ⊗ z) (carried t h) ∙ sym (through_known t h)) n l
            ∙ curve_miss F d (x n) height m (λ t h e. other t h (sym (apart n (at t) l (inside t h) e)))
            ∙ sym (inverse-product F (scale O x m n) _ (scale_not n l)))
            ∙ sym (F.product_assoc _ _ _) ∙ dot-part _ _ _ _ _ m
