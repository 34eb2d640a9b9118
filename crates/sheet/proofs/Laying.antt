-- What laying a row answers and leaves where no check applies. Assumes nothing.
use Rattle.std.proofs.Common.{◌≡◌, ℕ, ◌+◌, ◌-◌, ◌*◌, ◌<◌, ◌≤◌, List, ◌++◌, length, take, drop, None, sym, ap, ◌∙◌, ap₂, add-mul, arith}
use borrow.Rule.Slice.PartMut.{put_mid}
use Rattle.std.proofs.lemmas.Nat.{mul-le}
use Rattle.std.proofs.lemmas.List.{drop-drop}
use Rattle.std.proofs.lemmas.Bool.{eq-eqb, lt-ltb}
use Rattle.std.specs.Option.{option_map}
use Rattle.checks.specs.Checks.{lowest, too_large}
use Rattle.checks.proofs.Order.{skip, last, unless_true, left_none}
use Rattle.sheet.specs.Sheets.{SheetView, laying, laid_on, with_row}
use Rattle.sheet.specs.declared.fault.SheetFault.TheVariants.{Symbol}

pub row_within : (j m len : ℕ) → j < m → j * len + len ≤ m * len
row_within j m len h = omega (arith, mul-le (j + 1) len m len (omega arith) (omega arith), add-mul j 1 len)

module _ (s : SheetView) (j : ℕ) (row : List ℕ) (all : length s.content ≡ s.m * s.L) (long : length row ≡ s.L) (inside : j < s.m)
    (small : lowest (too_large s.q row) (length row) ≡ None) where
  pub laying_none : laying s j row ≡ None
  laying_none =
      skip _ _ (unless_true _ _ (eq-eqb _ _ all)) ∙ skip _ _ (unless_true _ _ (eq-eqb _ _ long)) ∙ skip _ _ (unless_true _ _ (lt-ltb _ _ inside))
      ∙ last _ ∙ ap (option_map Symbol) small

  -- the buffer after the row is written
  pub laid-row : (start len : ℕ) (new : List ℕ) → start ≡ j * len → len ≡ s.L → new ≡ row
      → put_mid start (start + len - start) s.content new ≡ (laid_on s j row).content
  laid-row start len new at_row is same =
      let k : start + len - start ≡ len = omega arith in
      let behind = drop-drop len start s.content in
      let there : start ≡ j * s.L = at_row ∙ ap (λ n. j * n) is in
      let end : start + len ≡ j * s.L + s.L = omega (arith, there) in
      let back : drop (start + len - start) (drop start s.content) ≡ drop (j * s.L + s.L) s.content =
      ap (λ n. drop n (drop start s.content)) k ∙ behind ∙ ap (λ n. drop n s.content) end in
      ap₂ (λ n zs. take n s.content ++ (new ++ zs)) there back ∙ ap (λ ys. take (j * s.L) s.content ++ (ys ++ drop (j * s.L + s.L) s.content)) same
      ∙ sym (left_none (laying s j row) s.content (with_row s j row) laying_none)
