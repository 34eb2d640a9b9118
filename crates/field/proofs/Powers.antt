-- The powers of a step: they are all different where none between the first and the last is 1.
-- Assumes nothing.
use Rattle.std.proofs.Common.{◌≡◌, ℕ, zero, suc, ◌+◌, ◌-◌, ◌<◌, Bool, true, not, T, eqb, sym, ap, ◌∙◌, subst, inl, inr, not-suc-le-zero, add-zero, add-suc, suc-add, zero-add, arith, T_not}
use Rattle.std.proofs.lemmas.Bool.{cases_order, eq-eqb}
use Rattle.field.specs.Field.{Ops, Lawful, Steps, product_of, power}
use Rattle.field.proofs.Total.{one-element, product_of-element, product_of_comm, product_of_assoc, product_of-one}
use Rattle.field.proofs.Tested.{both, both_left, both_right}

-- none of v, v * g, v * g * g .., n of them, is 1
abbrev pub never_one : Ops → ℕ → ℕ → ℕ → Bool
never_one o g zero v = true
never_one o g (suc n) v = both (not (eqb v 1)) (never_one o g n (product_of o g v))

module _ {o : Ops} (laws : Lawful o) (g : ℕ) where
  power_in : (k : ℕ) → power o g k < o.size
  power_in zero = one-element laws
  power_in (suc k) = product_of-element laws g (power o g k)

  pub power-add : (i j : ℕ) → power o g (i + j) ≡ product_of o (power o g i) (power o g j)
  power-add zero j = ap (power o g) (zero-add j) ∙ sym (product_of_comm laws 1 (power o g j) ∙ product_of-one laws (power o g j) (power_in j))
  power-add (suc i) j = ap (power o g) (suc-add i j) ∙ ap (product_of o g) (power-add i j) ∙ sym (product_of_assoc laws g (power o g i) (power o g j))

  not_one : (n k : ℕ) → T (never_one o g n (power o g k)) → (i : ℕ) → i < n → power o g (k + i) ≡ 1 → ⊥
  not_one zero k t i h e = absurd (not-suc-le-zero h)
  not_one (suc n) k t zero h e =
      T_not (eqb (power o g k) 1) (both_left _ _ t) (subst T (sym (eq-eqb (power o g k) 1 (ap (power o g) (sym (add-zero k)) ∙ e))) tt)
  not_one (suc n) k t (suc i) h e = not_one n (suc k) (both_right _ _ t) i (omega arith) (ap (power o g) (suc-add k i ∙ sym (add-suc k i)) ∙ e)

  module _ (p : ℕ) (last : power o g (suc p) ≡ 1) (t : T (never_one o g p (power o g 1))) where
    none : (i j : ℕ) → i < j → j < suc p → power o g i ≡ power o g j → ⊥
    none i j h k e =
        let m : ℕ = suc p - j in
        let whole : j + (suc p - j) ≡ suc p = omega arith in
        let part : i + (suc p - j) ≡ 1 + (i + (p - j)) = omega arith in
        not_one p 1 t (i + (p - j)) (omega arith)
        (ap (power o g) (sym part) ∙ power-add i (suc p - j) ∙ ap (λ n. product_of o n (power o g (suc p - j))) e ∙ sym (power-add j (suc p - j)) ∙ ap (power o g) whole ∙ last)

    pub steps_from : g < o.size → Steps o g (suc p)
    steps_from h = record {
      step_element = h;
      returns_to_one = last;
      all_different = λ i j hi hj e. elim (cases_order i j) [
        | inl same ↦ same
        | inr (inl lt) ↦ absurd (none i j lt hj e)
        | inr (inr gt) ↦ absurd (none j i gt hi (sym e))
      ];
    }
