-- Rows that are added up, one multiple after the other. Assumes nothing.
use Rattle.std.proofs.Common.{◌≡◌, ℕ, zero, suc, ◌+◌, ◌*◌, ◌<◌, min, ltb, List, length, take, drop, sym, refl, ap, ◌∙◌, ap₂, inl, inr, add-mul, add-one, arith}
use Rattle.std.proofs.lemmas.List.{length-take, get_or-take, get_or-drop, get_or_past, drop-drop, drop_all}
use Rattle.std.proofs.lemmas.Bool.{cases_lt, cond_below, cond_above, cond-true, cond-false, lt-ltb, le-ltb}
use Rattle.checks.specs.Checks.{at}
use Rattle.field.specs.Field.{Ops, Lawful, sum_of, product_of}
use Rattle.field.specs.Rows.{numbers, dot, symbol, Added}
use Rattle.field.proofs.Total.{zero-element, sum_of-element, sum_of-zero, product_of-zero}
use Rattle.field.proofs.Written.{Written}

-- a multiple is added as far as both rows reach
pub added_all : (o : Ops) (k common : ℕ) (row old new : List ℕ) → common ≡ min (length row) (length old)
    → Written (λ s. sum_of o (at old s) (product_of o k (at row s))) old new common → Added o k row old new
added_all o k common row old new is written s h =
    elim (cases_lt s (length row)) [
      | inl l ↦ written.0 s (omega arith) ∙ cond_below s (length row) _ _ l
      | inr l ↦ written.1 s (omega arith) ∙ cond_above s (length row) _ _ _ l refl
    ]

module _ {o : Ops} (laws : Lawful o) where
  pub dot-element : (c u : ℕ → ℕ) (m : ℕ) → dot (numbers o) c u m < o.size
  dot-element c u zero = zero-element laws
  dot-element c u (suc m) = sum_of-element laws _ _

  -- the sum is not changed by a symbol that is 0
  dot_none : (c u : ℕ → ℕ) (m : ℕ) → u m ≡ 0 → dot (numbers o) c u (suc m) ≡ dot (numbers o) c u m
  dot_none c u m none =
      ap (λ x. sum_of o (dot (numbers o) c u m) (product_of o (c m) x)) none
      ∙ ap (sum_of o (dot (numbers o) c u m)) (product_of-zero laws (c m)) ∙ sum_of-zero laws _ (dot-element c u m)

  -- one row more is added up
  module _ (factors rows : List ℕ) (len j : ℕ) (rest row : List ℕ) (from : rest ≡ drop (j * len) rows) (part : row ≡ take (min len (length rest)) rest) where
    long : length row ≡ min len (length rest)
    long = ap length part ∙ length-take (min len (length rest)) rest ∙ omega arith

    here : (s : ℕ) → at rest s ≡ symbol rows len s j
    here s = ap (λ xs. at xs s) from ∙ get_or-drop (j * len) rows s 0

    pub combined_more : (k : ℕ) (old new : List ℕ) → length old ≡ len → k ≡ at factors j → Added o k row old new
        → ((s : ℕ) → s < len → at old s ≡ dot (numbers o) (at factors) (symbol rows len s) j)
        → (s : ℕ) → s < len → at new s ≡ dot (numbers o) (at factors) (symbol rows len s) (j + 1)
    combined_more k old new is factor added before s h =
        let step = added s (omega arith) in
        let i = before s h in
        rw add-one (elim (cases_lt s (length row)) [
          | inl l ↦ (
              let r : at row s ≡ symbol rows len s j = ap (λ xs. at xs s) part ∙ get_or-take (min len (length rest)) rest s 0 (omega (arith, long)) ∙ here s in
              step ∙ cond-true (ltb s (length row)) _ _ (lt-ltb s (length row) l) ∙ ap₂ (λ x y. sum_of o x y) i (ap₂ (product_of o) factor r)
              )
          | inr l ↦ (
              let none : symbol rows len s j ≡ 0 = sym (here s) ∙ get_or_past rest s 0 (omega (arith, long)) in
              step ∙ cond-false (ltb s (length row)) _ _ (le-ltb s (length row) l) ∙ i ∙ sym (dot_none (at factors) (symbol rows len s) j none)
              )
        ])

    -- what is left of the rows
    pub rest_more : (behind : List ℕ) → behind ≡ drop (min len (length rest)) rest → behind ≡ drop ((j + 1) * len) rows
    rest_more behind is =
        let next : (j + 1) * len ≡ j * len + len = omega (arith, add-mul j 1 len) in
        is ∙ elim (cases_lt (length rest) len) [
          | inl l ↦ (
              drop_all (min len (length rest)) rest (omega arith) ∙ sym (drop_all len rest (omega arith))
              )
          | inr l ↦ ap (λ k. drop k rest) (omega arith)
        ] ∙ ap (drop len) from ∙ drop-drop len (j * len) rows ∙ ap (λ k. drop k rows) (sym next)
