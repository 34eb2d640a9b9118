-- The row of a packet, symbol by symbol. Assumes nothing.
use Rattle.std.proofs.Common.{◌≡◌, ℕ, ◌+◌, ◌*◌, ◌<◌, ◌≤◌, List, length, take, refl, ap, ◌∙◌, add-mul, arith}
use Rattle.std.specs.List.{between}
use Rattle.std.proofs.lemmas.Nat.{mul-le}
use Rattle.std.proofs.lemmas.List.FromFn.{length-map-range_with_len, get_or-map-range_with_len, fill_by_all}
use Rattle.std.proofs.lemmas.List.Edits.{get_or-between}
use Rattle.std.proofs.lemmas.List.{get_or-take, length-take-le}
use Rattle.std.proofs.lemmas.Bool.{cond_below, cond_above}
use Rattle.checks.specs.Checks.{at}
use Rattle.field.specs.Field.{Ops}
use Rattle.field.specs.Rows.{numbers, symbol, Combined}
use Rattle.code.specs.Cutting.{Factors}
use Rattle.code.specs.Packets.{packet}
use Rattle.code.specs.Plans.{PlanView}
use Rattle.code.specs.Rows.{row}
use Rattle.code.proofs.Sums.{dot_same}

-- row j of m rows ends within them
pub row_within : (j m len : ℕ) → j < m → j * len + len ≤ m * len
row_within j m len h = omega (arith, mul-le (j + 1) len m len (omega arith) (omega arith), add-mul j 1 len)

module _ (o : Ops) (p : PlanView) (M : List ℕ) (n : ℕ) where
  pub length-row : length (row o p M n) ≡ p.L
  unfolding row
  length-row = length-map-range_with_len _ 0 p.L

  pub row_at : (s : ℕ) → s < p.L → at (row o p M n) s ≡ packet (numbers o) (at p.nodes) p.m (symbol M p.L s) n
  unfolding row
  row_at s h = get_or-map-range_with_len _ 0 p.L s s 0 h (omega arith)

  -- a row with these symbols is the row
  pub row_is : (out : List ℕ) → length out ≡ p.L → ((s : ℕ) → s < p.L → at out s ≡ packet (numbers o) (at p.nodes) p.m (symbol M p.L s) n)
      → out ≡ row o p M n
  unfolding row
  row_is out long is = fill_by_all _ out p.L 0 long is

  -- a data packet carries its row
  pub data_row : (out : List ℕ) → n < p.m → length out ≡ p.L → out ≡ between (n * p.L) (n * p.L + p.L) M → out ≡ row o p M n
  data_row out l long same =
      row_is out long (λ s h. ap (λ xs. at xs s) same ∙ get_or-between M (n * p.L) (n * p.L + p.L) s 0 (omega arith) ∙ cond_below n p.m _ _ l)

  -- and a check packet the sum of the rows, each times its factor
  pub check_row : (factors out : List ℕ) → p.m ≤ n → p.m ≤ length factors → length out ≡ p.L
      → Factors o p n factors → Combined o (take p.m factors) M out → out ≡ row o p M n
  check_row factors out l room long are sums = row_is out long (λ s h.
      sums s (omega arith) ∙ rw (long, length-take-le p.m factors room)
      (dot_same (numbers o) _ _ _ _ p.m (λ j k. get_or-take p.m factors j 0 k ∙ are j k) (λ j k. refl) ∙ cond_above n p.m _ _ _ l refl))
