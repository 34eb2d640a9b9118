-- The laws of the remainders by p, of which each but 0 has an inverse. Assumes nothing.
use Rattle.std.specs.Prelude.{◌≡◌, ℕ, zero, suc, ◌+◌, ◌-◌, ◌*◌, ◌%◌, ◌<◌, ◌≤◌, T, List, ◌==◌, ◌≢◌, nat_lt, refl}
use Rattle.std.proofs.Common.{sym, ap, ◌∙◌, add_assoc, add_comm, add-zero, mul_comm, mul_assoc, mul-one, mul-add, zero-mul, mod-lt, mod-eq_of_lt, arith, eqb→eq, ltb→lt}
use Rattle.std.proofs.Math.Nat.{mod_self, mod-add-mod, add-mod-mod, add-mod, zero-mod}
use Rattle.std.proofs.lemmas.Nat.{mul-mod_first, mul-mod_second}
use Rattle.checks.specs.Checks.{at}
use Rattle.field.specs.Field.{Lawful}
use Rattle.field.proofs.Tested.{all, at as passed, both, both_left, both_right}
use Rattle.field.proofs.Inverse.{inverse_below, inverse_found, inverse_none, unique}
use Rattle.prime.specs.Prime.{remainders}

module _ (p : ℕ) (low : 2 ≤ p) (high : p ≤ 65536) (others : (a : ℕ) → a < p → (a ≢ 0) → (x : ℕ) × (x < p) × (a * x % p ≡ 1)) where
  above : 0 < p
  above = omega arith

  pub lawful : Lawful (remainders p)
  lawful = record {
    size_least = low;
    size_most = high;
    sum_element = λ a b ha hb. mod-lt (a + b) above;
    negative_element = λ a ha. mod-lt (p - a) above;
    product_element = λ a b ha hb. mod-lt (a * b) above;
    inverse_element = λ a ha. inverse_below (λ a b. a * b % p) p a above;
    sum_comm = λ a b ha hb. ap (λ n. n % p) (add_comm a b);
    sum_assoc = λ a b e ha hb he. mod-add-mod (a + b) p e ∙ ap (λ n. n % p) (add_assoc a b e) ∙ sym (add-mod-mod a (b + e) p);
    sum_zero = λ a ha. ap (λ n. n % p) (add-zero a) ∙ mod-eq_of_lt ha;
    sum_negative = λ a ha. let whole : a + (p - a) ≡ p = omega arith in add-mod-mod a (p - a) p ∙ ap (λ n. n % p) whole ∙ mod_self p;
    product_comm = λ a b ha hb. ap (λ n. n % p) (mul_comm a b);
    product_assoc = λ a b e ha hb he. mul-mod_first (a * b) e p ∙ ap (λ n. n % p) (mul_assoc a b e) ∙ sym (mul-mod_second a (b * e) p);
    product_one = λ a ha. ap (λ n. n % p) (mul-one a) ∙ mod-eq_of_lt ha;
    product_inverse = λ a ha na. let x = others a ha na in inverse_found (λ a b. a * b % p) p a x.0 x.1 x.2;
    product_sum = λ a b e ha hb he. mul-mod_second a (b + e) p ∙ ap (λ n. n % p) (mul-add a b e) ∙ add-mod (a * b) (a * e) p;
    inverse_zero = inverse_none (λ a b. a * b % p) 0 (λ b. ap (λ n. n % p) (zero-mul b) ∙ zero-mod p) p;
  }

-- the same from a table of inverses, at p = suc top: `tested` is what antt computes
module _ (top : ℕ) (table : List ℕ) (low : 2 ≤ suc top) (high : suc top ≤ 65536)
    (tested : T (all top (λ k. both (nat_lt (at table (suc k)) (suc top)) (suc k * at table (suc k) % suc top == 1))))
    (zeroth : at table 0 ≡ 0) where
  found_in : (a : ℕ) → a < suc top → (a ≢ 0) → at table a < suc top
  found_in zero h n = absurd (n refl)
  found_in (suc k) h n = ltb→lt _ _ (both_left _ _ (passed top _ tested k (omega arith)))

  found : (a : ℕ) → a < suc top → (a ≢ 0) → a * at table a % suc top ≡ 1
  found zero h n = absurd (n refl)
  found (suc k) h n = eqb→eq _ _ (both_right _ _ (passed top _ tested k (omega arith)))

  pub lawful_by_table : Lawful (remainders (suc top))
  lawful_by_table = lawful (suc top) low high (λ a h n. (at table a, found_in a h n, found a h n))

  pub inverse_by_table : (a : ℕ) → a < suc top → at table a ≡ (remainders (suc top)).inverse a
  inverse_by_table zero h = zeroth ∙ sym lawful_by_table.inverse_zero
  inverse_by_table (suc k) h =
      let n : suc k ≡ 0 → ⊥ = λ e. omega arith in
      unique lawful_by_table (suc k) (at table (suc k)) ((remainders (suc top)).inverse (suc k)) h (found_in (suc k) h n)
      (lawful_by_table.inverse_element (suc k) h) (found (suc k) h n) (lawful_by_table.product_inverse (suc k) h n)
