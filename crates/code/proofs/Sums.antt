-- What is computed of the first m of a row is computed of nothing else. Assumes nothing.
use Rattle.std.proofs.Common.{◌≡◌, ℕ, zero, suc, ◌<◌, refl, arith}
use Rattle.field.specs.Rows.{Arith, dot}
use Rattle.code.specs.Solving.{away, slope}

module _ {K : Type 0} (O : Arith K) where
  pub dot_same : (c e u w : ℕ → K) (m : ℕ) → ((j : ℕ) → j < m → c j ≡ e j) → ((j : ℕ) → j < m → u j ≡ w j) → dot O c u m ≡ dot O e w m
  dot_same c e u w zero rows same = refl
  dot_same c e u w (suc m) rows same =
      cc (dot_same c e u w m (λ j h. rows j (omega arith)) (λ j h. same j (omega arith)), rows m (omega arith), same m (omega arith))

  pub away_same : (d e : ℕ → K) (m : ℕ) (z : K) → ((k : ℕ) → k < m → d k ≡ e k) → away O d m z ≡ away O e m z
  away_same d e zero z same = refl
  away_same d e (suc m) z same = cc (away_same d e m z (λ k h. same k (omega arith)), same m (omega arith))

  pub slope_same : (d e : ℕ → K) (m : ℕ) (z : K) → ((k : ℕ) → k < m → d k ≡ e k) → slope O d m z ≡ slope O e m z
  slope_same d e zero z same = refl
  slope_same d e (suc m) z same =
      let less : (k : ℕ) → k < m → d k ≡ e k = λ k h. same k (omega arith) in
      cc (away_same d e m z less, slope_same d e m z less, same m (omega arith))
