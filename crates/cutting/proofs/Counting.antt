-- Numbers that are counted up, and parts of them. Assumes nothing.
use Rattle.std.proofs.Common.{◌≡◌, ℕ, ◌+◌, ◌<◌, ◌≤◌, List, ◌++◌, length, take, drop, Ok, Err, Result, sym, ◌∙◌, ap₂, arith}
use Rattle.std.specs.List.{range_with_len}
use Rattle.std.proofs.lemmas.List.FromFn.{length-range_with_len, get_or-range_with_len}
use Rattle.std.proofs.lemmas.List.{length-take, length-drop, get_or-take, get_or-drop}
use Rattle.checks.specs.Checks.{at, first}
use Rattle.checks.proofs.Lowest.{same_places}
use Rattle.checks.proofs.Order.{answered_ok, answered_err}
use Rattle.code.specs.Making.{making_checks, plan_of, Made}
use Rattle.code.specs.declared.fault.PlanFault.{PlanFault}
use Rattle.code.specs.declared.plan.Plan.{Plan}
use Rattle.cutting.specs.Cutting.{Planned, cutter_checks, cutter_plan}

pub all_counted : (xs : List ℕ) (n : ℕ) → length xs ≡ n → ((k : ℕ) → k < n → at xs k ≡ k) → xs ≡ range_with_len 0 n
all_counted xs n long is =
    same_places xs (range_with_len 0 n) (long ∙ sym (length-range_with_len 0 n)) (λ k h. is k (omega arith) ∙ sym (get_or-range_with_len 0 n k 0 (omega arith) ∙ omega arith))

-- from a on, b of them
pub part_counted : (a b n k : ℕ) → a + b ≤ n → k ≡ b → take k (drop a (range_with_len 0 n)) ≡ range_with_len a b
part_counted a b n k h is =
    let long : length (take k (drop a (range_with_len 0 n))) ≡ b = length-take k (drop a (range_with_len 0 n)) ∙ omega (arith, length-drop a (range_with_len 0 n), length-range_with_len 0 n) in
    same_places (take k (drop a (range_with_len 0 n))) (range_with_len a b) (long ∙ sym (length-range_with_len a b)) (λ i l.
    get_or-take k (drop a (range_with_len 0 n)) i 0 (omega arith) ∙ get_or-drop a (range_with_len 0 n) i 0 ∙ get_or-range_with_len 0 n (a + i) 0 (omega arith)
    ∙ sym (get_or-range_with_len a b i 0 (omega arith) ∙ omega arith))

-- a plan that is made of those numbers
module _ (q m r L : ℕ) (ds cs : List ℕ) (front : ds ≡ range_with_len 0 m) (back : cs ≡ range_with_len m r) (old new : Plan) where
  pub planned_ok : (a : Result (Unit {0}) PlanFault) → a ≡ Ok tt → Made (making_checks m r L q ds cs) (plan_of m r L q (ds ++ cs)) old new a
      → Planned (cutter_checks q m r L) (cutter_plan q m r L) (Ok new)
  planned_ok (Ok u) was made =
      let parts = answered_ok (first (making_checks m r L q ds cs)) tt tt made.answers in
      (sym (ap₂ (λ x y. first (making_checks m r L q x y)) front back) ∙ parts.0, made.leaves ∙ ap₂ (λ x y. plan_of m r L q (x ++ y)) front back)
  planned_ok (Err f) was made = absurd (let z : ◌≡◌ {A = ℕ} 0 1 = cc in omega arith)

  pub planned_err : (f : PlanFault) (a : Result (Unit {0}) PlanFault) → a ≡ Err f → Made (making_checks m r L q ds cs) (plan_of m r L q (ds ++ cs)) old new a
      → Planned (cutter_checks q m r L) (cutter_plan q m r L) (Err f)
  planned_err f a was made =
      sym (ap₂ (λ x y. first (making_checks m r L q x y)) front back) ∙ answered_err (first (making_checks m r L q ds cs)) f tt (sym was ∙ made.answers)
