-- A message that is laid on a sheet row by row. Assumes nothing.
use Rattle.std.proofs.Common.{◌≡◌, ℕ, ◌+◌, ◌-◌, ◌*◌, ◌<◌, ◌≤◌, min, None, List, ◌++◌, length, take, drop, replicate, sym, ap, ◌∙◌, ap₂, add-mul, ⊎_elim, arith}
use Rattle.std.specs.List.{AllByRecursion}
use Rattle.std.proofs.Math.Nat.{lt_of_mul-lt-mul_right}
use Rattle.std.proofs.ByRecursion.{All-take, All-drop}
use Rattle.std.proofs.lemmas.List.{length-append, length-take, length-drop, length-replicate, take-append-drop, take-take, drop-take, take_at, drop_at, drop-drop, drop_all, take_all, append_assoc, append-nil}
use Rattle.std.proofs.lemmas.Bool.{cases_eq}
use Rattle.checks.proofs.Lowest.{none_large}
use Rattle.checks.proofs.Order.{left_none}
use Rattle.code.specs.Plans.{PlanView}
use Rattle.sheet.specs.Sheets.{SheetView, laying, laid_on, with_row}
use Rattle.sheet.proofs.Laying.{row_within, laying_none}
use Rattle.cutting.specs.Cutting.{sheet_of}

-- a sheet with the first j rows of the message laid
abbrev pub partly : PlanView → List ℕ → ℕ → SheetView
partly p M j = sheet_of p (take (j * p.L) M ++ drop (j * p.L) (replicate (p.m * p.L) 0))

pub partly-all : (p : PlanView) (M : List ℕ) → length M ≡ p.m * p.L → partly p M p.m ≡ sheet_of p M
partly-all p M long =
    ap (sheet_of p) (ap₂ ◌++◌ (take_all (p.m * p.L) M (omega arith)) (drop_all (p.m * p.L) (replicate (p.m * p.L) 0) (omega (arith, length-replicate {A = ℕ} (p.m * p.L) 0))) ∙ append-nil M)

take-sum : (a b : ℕ) (xs : List ℕ) → take (a + b) xs ≡ take a xs ++ take b (drop a xs)
take-sum a b xs = sym (take-append-drop a (take (a + b) xs)) ∙ ap₂ ◌++◌ (take-take a (a + b) xs (omega arith)) (drop-take a b xs)

-- one row more
module _ (p : PlanView) (M : List ℕ) (j : ℕ) (long : length M ≡ p.m * p.L) (small : AllByRecursion (λ x. x < p.q) M) (inside : j < p.m) where
  front : ℕ
  front = j * p.L

  end : front + p.L ≤ p.m * p.L
  unfolding front
  end = row_within j p.m p.L inside

  zeros : List ℕ
  zeros = replicate (p.m * p.L) 0

  many : length zeros ≡ p.m * p.L
  unfolding zeros
  many = length-replicate (p.m * p.L) 0

  left : length (take front M) ≡ front
  left = length-take front M ∙ omega (arith, end)

  whole : length (partly p M j).content ≡ p.m * p.L
  unfolding front zeros
  whole = length-append (take front M) (drop front zeros) ∙ omega (arith, left, length-drop front zeros, many, end)

  -- a row of the message is laid and not refused
  pub lays : (row : List ℕ) → row ≡ take p.L (drop (j * p.L) M) → laying (partly p M j) j row ≡ None
  unfolding front
  lays row here =
      let wide : length row ≡ p.L = ap length here ∙ length-take p.L (drop front M) ∙ omega (arith, length-drop front M, end) in
      let fine : AllByRecursion (λ x. x < p.q) row = rw here (All-take (λ x. x < p.q) p.L (drop front M) (All-drop (λ x. x < p.q) front M small)) in
      laying_none (partly p M j) j row whole wide inside (none_large p.q row fine)

  pub partly_more : (s : SheetView) (row : List ℕ) → s ≡ partly p M j → row ≡ take p.L (drop (j * p.L) M) → laid_on s j row ≡ partly p M (j + 1)
  unfolding front zeros
  partly_more s row is here =
      let next : (j + 1) * p.L ≡ front + p.L = omega (arith, add-mul j 1 p.L) in
      let none = lays row here in
      let a = take_at (take front M) (drop front zeros) front left in
      let b : drop (front + p.L) (take front M ++ drop front zeros) ≡ drop (front + p.L) zeros =
      sym (drop-drop p.L front (take front M ++ drop front zeros)) ∙ ap (drop p.L) (drop_at (take front M) (drop front zeros) front left) ∙ drop-drop p.L front zeros in
      let rows : with_row (partly p M j) j row ≡ take ((j + 1) * p.L) M ++ drop ((j + 1) * p.L) zeros =
      ap₂ (λ x y. x ++ (row ++ y)) a b ∙ sym (append_assoc (take front M) row (drop (front + p.L) zeros))
      ∙ ap (λ x. (take front M ++ x) ++ drop (front + p.L) zeros) here
      ∙ ap (λ x. x ++ drop (front + p.L) zeros) (sym (take-sum front p.L M))
      ∙ ap (λ k. take k M ++ drop k zeros) (sym next) in
      ap (λ t. laid_on t j row) is ∙ ap (sheet_of p) (left_none (laying (partly p M j) j row) (partly p M j).content (with_row (partly p M j) j row) none ∙ rows)

-- what a chunk of a row's length is, and what is left behind it, once k chunks are taken
pub record Chunk (p : PlanView) (M : List ℕ) (k : ℕ) (row rest : List ℕ) : Type 0 where
  pub inside : k < p.m
  pub here : row ≡ take p.L (drop (k * p.L) M)
  pub behind : rest ≡ drop ((k + 1) * p.L) M

pub chunk : (p : PlanView) (M : List ℕ) (k : ℕ) (old row rest : List ℕ) → length M ≡ p.m * p.L → old ≡ drop (k * p.L) M → old ≡ row ++ rest
    → length row ≡ min p.L (length old) → 0 < length old → Chunk p M k row rest
chunk p M k old row rest long is parts wide some =
    let left : length old ≡ p.m * p.L - k * p.L = ap length is ∙ length-drop (k * p.L) M ∙ omega (arith, long) in
    let inside : k < p.m = lt_of_mul-lt-mul_right p.L (omega arith) in
    let end = row_within k p.m p.L inside in
    let one : length row ≡ p.L = omega arith in
    let next : k * p.L + p.L ≡ (k + 1) * p.L = omega (arith, add-mul k 1 p.L) in
    record {
      inside = inside;
      here = sym (take_at row rest p.L one) ∙ ap (take p.L) (sym parts ∙ is);
      behind = sym (drop_at row rest p.L one) ∙ ap (drop p.L) (sym parts ∙ is) ∙ drop-drop p.L (k * p.L) M ∙ ap (λ n. drop n M) next;
    }

-- once nothing is left all chunks are taken
pub all_taken : (p : PlanView) (M : List ℕ) (k : ℕ) → length M ≡ p.m * p.L → k ≤ p.m → 1 ≤ p.L → length (drop (k * p.L) M) ≡ 0 → k ≡ p.m
all_taken p M k long few some none =
    ⊎_elim (λ (e : k ≡ p.m). e)
    (λ (ne : k ≡ p.m → ⊥). let end = row_within k p.m p.L (omega arith) in absurd (omega (arith, length-drop (k * p.L) M))) (cases_eq k p.m)
