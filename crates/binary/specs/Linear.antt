-- The reduced product of a sum is the sum of the reduced products, on either side. Assumes nothing.
use Rattle.std.specs.Prelude.{◌≡◌, ℕ, zero, suc, ◌+◌, ◌*◌, ◌/◌, ◌%◌, ◌^◌, ◌<◌, ◌⊎◌, bit_xor, refl}
use Rattle.std.proofs.Common.{sym, ap₂, subst, ◌∙◌, inl, inr, zero-mul, one-mul, mod-lt, add-zero, arith, pow_pos}
use Rattle.std.proofs.Math.Path.{ap}
use Rattle.std.specs.Int.Bits.{xor_assoc, xor_self, xor_zero_r}
use Rattle.std.proofs.lemmas.Nat.{xor_comm, xor_shr, xor_mod, xor_block}
use Rattle.std.proofs.lemmas.Bool.{cases_eq}
use Rattle.binary.specs.Binary.{coefficient, poly_product, rest, reduced}

pub four : (a b c d : ℕ) → bit_xor (bit_xor a b) (bit_xor c d) ≡ bit_xor (bit_xor a c) (bit_xor b d)
four a b c d =
    xor_assoc a b (bit_xor c d) ∙ ap (bit_xor a) (sym (xor_assoc b c d) ∙ ap (λ (n : ℕ). bit_xor n d) (xor_comm b c) ∙ xor_assoc c b d)
    ∙ sym (xor_assoc a c (bit_xor b d))

coefficient_below : (v i : ℕ) → coefficient v i < 2
coefficient_below v i = mod-lt (v / 2 ^ i) (omega arith)

coefficient-sum : (u v i : ℕ) → coefficient (bit_xor u v) i ≡ bit_xor (coefficient u i) (coefficient v i)
coefficient-sum u v i = ap (λ (n : ℕ). n % 2) (xor_shr u v i) ∙ xor_mod (u / 2 ^ i) (v / 2 ^ i) 1

bit : (c : ℕ) → c < 2 → (c ≡ 0) ⊎ (c ≡ 1)
bit c h = elim (cases_eq c 0) [ inl e ↦ inl e | inr n ↦ inr (omega arith) ]

by_bit : (P : ℕ → Type 0) → P 0 → P 1 → (c : ℕ) → c < 2 → P c
by_bit P p q c h = elim (bit c h) [ inl e ↦ subst P (sym e) p | inr e ↦ subst P (sym e) q ]

scale-sum : (u v : ℕ) (c : ℕ) → c < 2 → c * bit_xor u v ≡ bit_xor (c * u) (c * v)
scale-sum u v =
    by_bit (λ c. c * bit_xor u v ≡ bit_xor (c * u) (c * v))
    (zero-mul (bit_xor u v) ∙ sym (ap₂ bit_xor (zero-mul u) (zero-mul v)))
    (one-mul (bit_xor u v) ∙ sym (ap₂ bit_xor (one-mul u) (one-mul v)))

sum-scale : (v : ℕ) (e : ℕ) → e < 2 → (c : ℕ) → c < 2 → bit_xor c e * v ≡ bit_xor (c * v) (e * v)
sum-scale v e h =
    by_bit (λ c. bit_xor c e * v ≡ bit_xor (c * v) (e * v))
    (sym (ap (λ (n : ℕ). bit_xor n (e * v)) (zero-mul v)))
    (by_bit (λ e. bit_xor 1 e * v ≡ bit_xor (1 * v) (e * v))
    (sym (ap (bit_xor (1 * v)) (zero-mul v) ∙ xor_zero_r (1 * v)))
    (zero-mul v ∙ sym (xor_self (1 * v))) e h)

shift_sum : (u v i : ℕ) → bit_xor u v * 2 ^ i ≡ bit_xor (u * 2 ^ i) (v * 2 ^ i)
shift_sum u v i =
    sym (add-zero (bit_xor u v * 2 ^ i)) ∙ sym (xor_block i u v 0 0 (pow_pos i) (pow_pos i))
    ∙ ap₂ bit_xor (add-zero (u * 2 ^ i)) (add-zero (v * 2 ^ i))

pub product_left : (n a b e : ℕ) → poly_product n (bit_xor a b) e ≡ bit_xor (poly_product n a e) (poly_product n b e)
unfolding poly_product
product_left zero a b e = refl
product_left (suc i) a b e =
    ap₂ bit_xor (product_left i a b e)
    (ap (λ (n : ℕ). n * (e * 2 ^ i)) (coefficient-sum a b i)
    ∙ sum-scale (e * 2 ^ i) (coefficient b i) (coefficient_below b i) (coefficient a i) (coefficient_below a i))
    ∙ four (poly_product i a e) (poly_product i b e) (coefficient a i * (e * 2 ^ i)) (coefficient b i * (e * 2 ^ i))

pub product_right : (n a b e : ℕ) → poly_product n a (bit_xor b e) ≡ bit_xor (poly_product n a b) (poly_product n a e)
unfolding poly_product
product_right zero a b e = refl
product_right (suc i) a b e =
    ap₂ bit_xor (product_right i a b e)
    (ap (λ (n : ℕ). coefficient a i * n) (shift_sum b e i) ∙ scale-sum (b * 2 ^ i) (e * 2 ^ i) (coefficient a i) (coefficient_below a i))
    ∙ four (poly_product i a b) (poly_product i a e) (coefficient a i * (b * 2 ^ i)) (coefficient a i * (e * 2 ^ i))

pub rest_sum : (m d n u v : ℕ) → rest m d n (bit_xor u v) ≡ bit_xor (rest m d n u) (rest m d n v)
unfolding rest
rest_sum m d zero u v = refl
rest_sum m d (suc i) u v =
    let k : ℕ = m * 2 ^ i in
    ap (rest m d i)
    (ap (bit_xor (bit_xor u v))
    (ap (λ (n : ℕ). n * k) (coefficient-sum u v (d + i))
    ∙ sum-scale k (coefficient v (d + i)) (coefficient_below v (d + i)) (coefficient u (d + i)) (coefficient_below u (d + i)))
    ∙ four u v (coefficient u (d + i) * k) (coefficient v (d + i) * k))
    ∙ rest_sum m d i (bit_xor u (coefficient u (d + i) * k)) (bit_xor v (coefficient v (d + i) * k))

module _ (m d : ℕ) where
  pub sum_left : (a b e : ℕ) → reduced m d (bit_xor a b) e ≡ bit_xor (reduced m d a e) (reduced m d b e)
  unfolding reduced
  sum_left a b e = ap (rest m d d) (product_left d a b e) ∙ rest_sum m d d (poly_product d a e) (poly_product d b e)

  pub sum_right : (a b e : ℕ) → reduced m d a (bit_xor b e) ≡ bit_xor (reduced m d a b) (reduced m d a e)
  unfolding reduced
  sum_right a b e = ap (rest m d d) (product_right d a b e) ∙ rest_sum m d d (poly_product d a b) (poly_product d a e)

  pub zero_left : (a : ℕ) → reduced m d 0 a ≡ 0
  zero_left a = sum_left 0 0 a ∙ xor_self (reduced m d 0 a)

  pub zero_right : (a : ℕ) → reduced m d a 0 ≡ 0
  zero_right a = sum_right a 0 0 ∙ xor_self (reduced m d a 0)
