-- Fewer than m numbers leave one below m out. Assumes nothing.
use Rattle.std.proofs.Common.{◌≡◌, ℕ, zero, suc, ◌<◌, ◌≤◌, cond, eqb, ◌⊎◌, List, [], ◌∷◌, length, sym, ◌∙◌, inl, inr, arith}
use Rattle.std.specs.List.{AllByRecursion}
use Rattle.std.proofs.lemmas.Bool.{cases_Bool, eqb-true, eqb-false}

-- the numbers other than n
without : ℕ → List ℕ → List ℕ
without n [] = []
without n (x ∷ xs) = cond (eqb x n) (without n xs) (x ∷ without n xs)

without_most : (n : ℕ) (xs : List ℕ) → length (without n xs) ≤ length xs
unfolding without
without_most n [] = omega arith
without_most n (x ∷ xs) = elim (cases_Bool (eqb x n)) [
  | inl t ↦ rw t (omega (arith, without_most n xs))
  | inr f ↦ rw f (omega (arith, without_most n xs))
]

-- n is none of them, or leaving it out makes them fewer
without_fewer : (n : ℕ) (xs : List ℕ) → AllByRecursion (λ x. ¬ (x ≡ n)) xs ⊎ (length (without n xs) < length xs)
unfolding without
without_fewer n [] = inl tt
without_fewer n (x ∷ xs) = elim (cases_Bool (eqb x n)) [
  | inl t ↦ inr (rw t (omega (arith, without_most n xs)))
  | inr f ↦ elim (without_fewer n xs) [
    | inl none ↦ inl (eqb-false x n f, none)
    | inr less ↦ inr (rw f (omega arith))
  ]
]

without_back : (n k : ℕ) (xs : List ℕ) → ¬ (k ≡ n) → AllByRecursion (λ x. ¬ (x ≡ k)) (without n xs) → AllByRecursion (λ x. ¬ (x ≡ k)) xs
unfolding without
without_back n k [] ne h = tt
without_back n k (x ∷ xs) ne h = elim (cases_Bool (eqb x n)) [
  | inl t ↦ ((λ e. ne (sym e ∙ eqb-true x n t)), without_back n k xs ne (rw t at h))
  | inr f ↦ (let g : (¬ (x ≡ k)) × AllByRecursion (λ x. ¬ (x ≡ k)) (without n xs) = rw f at h in (g.0, without_back n k xs ne g.1))
]

pub missing : (m : ℕ) (xs : List ℕ) → length xs < m → (n : ℕ) × (n < m) × AllByRecursion (λ x. ¬ (x ≡ n)) xs
missing zero xs h = absurd (omega arith)
missing (suc m) xs h = elim (without_fewer m xs) [
  | inl none ↦ (m, omega arith, none)
  | inr less ↦ (
      let (n, l, none) = missing m (without m xs) (omega arith) in
      (n, omega arith, without_back m n xs (omega arith) none)
      )
]
