-- What holds of 0, of each power of 2 below 2^d, and of the sum of two numbers of which it holds, holds of all numbers below 2^d.
-- Assumes nothing.
use Rattle.std.specs.Prelude.{◌≡◌, ℕ, zero, suc, ◌-◌, ◌^◌, ◌<◌, ◌≤◌, bit_xor}
use Rattle.std.proofs.Common.{sym, ap, subst, ◌∙◌, inl, inr, pow-suc, one-mul, arith}
use Rattle.std.specs.Int.Bits.{xor_shifted}
use Rattle.std.proofs.lemmas.Bool.{cases_lt}

top_bit : (d a : ℕ) → 2 ^ d ≤ a → a < 2 ^ suc d → bit_xor (2 ^ d) (a - 2 ^ d) ≡ a
top_bit d a lo hi =
    let low : a - 2 ^ d < 2 ^ d = omega (arith, pow-suc 2 d) in
    ap (λ (n : ℕ). bit_xor n (a - 2 ^ d)) (sym (one-mul (2 ^ d))) ∙ xor_shifted 1 d (a - 2 ^ d) low ∙ omega arith

pub span : (P : ℕ → Type 0) → P 0 → ((u v : ℕ) → P u → P v → P (bit_xor u v)) → (d : ℕ) → ((i : ℕ) → i < d → P (2 ^ i))
    → (a : ℕ) → a < 2 ^ d → P a
span P none sum zero one a h = let z : 0 ≡ a = omega arith in subst P z none
span P none sum (suc d) one a h =
    elim (cases_lt a (2 ^ d)) [
      | inl low ↦ span P none sum d (λ i k. one i (omega arith)) a low
      | inr high ↦
          let low : a - 2 ^ d < 2 ^ d = omega (arith, pow-suc 2 d) in
          let rest : P (a - 2 ^ d) = span P none sum d (λ i k. one i (omega arith)) (a - 2 ^ d) low in
          subst P (top_bit d a high h) (sum (2 ^ d) (a - 2 ^ d) (one d (omega arith)) rest)
    ]
