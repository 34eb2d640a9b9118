-- The tests of a field of polynomials and of its tables, which antt computes, and what they show of each number. Assumes nothing.
use Rattle.std.specs.Prelude.{◌≡◌, ℕ, zero, suc, pred, ◌+◌, ◌-◌, ◌*◌, ◌^◌, ◌<◌, T, ltb, List, length, ◌==◌, ◌≢◌, nat_eq, nat_lt, refl}
use Rattle.std.proofs.Common.{inl, inr, subst, eqb→eq, ltb→lt, arith}
use Rattle.std.proofs.lemmas.Bool.{cases_lt}
use Rattle.std.proofs.Math.Pow.{pow_mono}
use Rattle.checks.specs.Checks.{at}
use Rattle.field.proofs.Tested.{all, at as passed, both, both_left, both_right}
use Rattle.binary.specs.Binary.{reduced}
use Rattle.binary.specs.Tables.{power_table, exponent_table}
use Rattle.binary.specs.Basis.{Basis, two_below, reduced-element}

-- what antt computes of the powers ps and the exponents es of a field of suc top elements, whose products are reduced by m
pub record TestedTables (m d top : ℕ) (ps es : List ℕ) : Type 0 where
  pub basis : Basis m d
  pub size : suc top ≡ 2 ^ d
  pub all_powers : length ps ≡ 2 * top
  pub all_exponents : length es ≡ suc top
  pub first : T (at ps 0 == 1)
  pub next : T (all (pred (top + top)) (λ k. both (nat_lt (at ps k) (2 ^ d)) (reduced m d 2 (at ps k) == at ps (suc k))))
  pub round : T (at ps top == 1)
  pub exponent : T (all (2 ^ d) (λ a. ltb (at es a) top))
  pub there : T (all top (λ k. nat_eq (at ps (at es (suc k))) (suc k)))
  pub back : T (all top (λ k. nat_eq (at es (at ps k)) k))

-- the same of the tables of the field of 2 ^ d elements
abbrev pub Tested : ℕ → ℕ → Type 0
Tested m d = TestedTables m d (2 ^ d - 1) (power_table m d) (exponent_table m d)

module _ {m d top : ℕ} {ps es : List ℕ} (t : TestedTables m d top ps es) where
  pub two : 2 < 2 ^ d
  two = two_below t.basis

  pub power_first : at ps 0 ≡ 1
  power_first = eqb→eq _ _ t.first

  pub power_next : (k : ℕ) → suc k < 2 * top → reduced m d 2 (at ps k) ≡ at ps (suc k)
  power_next k h = eqb→eq _ _ (both_right _ _ (passed (pred (top + top)) _ t.next k (omega arith)))

  pub power_element : (k : ℕ) → k < 2 * top → at ps k < 2 ^ d
  power_element zero h = rw power_first (omega (arith, two))
  power_element (suc k) h =
      let here : at ps k < 2 ^ d = ltb→lt _ _ (both_left _ _ (passed (pred (top + top)) _ t.next k (omega arith))) in
      subst (λ n. n < 2 ^ d) (power_next k h) (reduced-element t.basis 2 (at ps k) two here)

  pub power_round : at ps top ≡ 1
  power_round = eqb→eq _ _ t.round

  pub exponent_below : (a : ℕ) → a < 2 ^ d → at es a < top
  exponent_below a h = ltb→lt _ _ (passed (2 ^ d) _ t.exponent a h)

  pub power_exponent : (a : ℕ) → a < 2 ^ d → (a ≢ 0) → at ps (at es a) ≡ a
  power_exponent zero h n = absurd (n refl)
  power_exponent (suc k) h n = eqb→eq _ _ (passed top _ t.there k (omega (arith, t.size)))

  pub exponent_power : (k : ℕ) → k < top → at es (at ps k) ≡ k
  exponent_power k h = eqb→eq _ _ (passed top _ t.back k h)

pub degree_below : {m d : ℕ} → Tested m d → d < 32
degree_below {m} {d} t = elim (cases_lt d 32) [ inl low ↦ low | inr high ↦ absurd (omega (arith, pow_mono high, ltb→lt _ _ t.basis.most)) ]
