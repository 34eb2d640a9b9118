-- The inverse of an element is the one element whose product with it is 1.
-- Assumes nothing.
use Rattle.std.proofs.Common.{◌≡◌, ℕ, zero, suc, ◌<◌, cond, eqb, sym, refl, ap, ◌∙◌, subst, inl, inr, not-suc-le-zero, arith}
use Rattle.std.proofs.lemmas.Bool.{cond_both, cases_eq, eqb-true, eqb-false}
use Rattle.field.specs.Field.{Ops, Lawful, inverse_by}

pub inverse_in : (op : ℕ → ℕ → ℕ) (q a : ℕ) → inverse_by op (suc q) a < suc q
unfolding inverse_by
inverse_in op zero a = cond_both (eqb (op a 0) 1) 0 0 (λ x. x < 1) (λ e. omega arith) (λ e. omega arith)
inverse_in op (suc q) a = cond_both (eqb (op a (suc q)) 1) (suc q) (inverse_by op (suc q) a) (λ x. x < suc (suc q)) (λ e. omega arith) (λ e. omega (arith, inverse_in op q a))

-- where some number does it, the one found does
pub inverse_found : (op : ℕ → ℕ → ℕ) (q a x : ℕ) → x < q → op a x ≡ 1 → op a (inverse_by op q a) ≡ 1
unfolding inverse_by
inverse_found op zero a x h e = absurd (not-suc-le-zero h)
inverse_found op (suc q) a x h e =
    cond_both (eqb (op a q) 1) q (inverse_by op q a) (λ y. op a y ≡ 1) (eqb-true (op a q) 1)
    (λ f. elim (cases_eq x q) [
      | inl same ↦ absurd (eqb-false (op a q) 1 f (subst (λ (y : ℕ). op a y ≡ 1) same e))
      | inr ne ↦ inverse_found op q a x (omega arith) e
    ])

pub inverse_none : (op : ℕ → ℕ → ℕ) (a : ℕ) → ((b : ℕ) → op a b ≡ 0) → (q : ℕ) → inverse_by op q a ≡ 0
unfolding inverse_by
inverse_none op a none zero = refl
inverse_none op a none (suc q) = ap (λ (n : ℕ). cond (eqb n 1) q (inverse_by op q a)) (none q) ∙ inverse_none op a none q

-- two elements whose products with a are 1 are one
pub unique : {o : Ops} (laws : Lawful o) (a x y : ℕ) → a < o.size → x < o.size → y < o.size → o.product a x ≡ 1 → o.product a y ≡ 1 → x ≡ y
unique {o} laws a x y ha hx hy ex ey =
    sym (laws.product_one x hx) ∙ ap (o.product x) (sym ey) ∙ sym (laws.product_assoc x a y hx ha hy)
    ∙ ap (λ n. o.product n y) (laws.product_comm x a hx ha ∙ ex) ∙ laws.product_comm 1 y (omega (arith, laws.size_least)) hy ∙ laws.product_one y hy

pub inverse_below : (op : ℕ → ℕ → ℕ) (q a : ℕ) → 0 < q → inverse_by op q a < q
inverse_below op zero a h = absurd (not-suc-le-zero h)
inverse_below op (suc q) a h = inverse_in op q a
