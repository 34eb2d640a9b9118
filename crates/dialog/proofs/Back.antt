-- A word that is written is read as what it was written of. Assumes nothing.
use Rattle.std.proofs.Common.{◌≡◌, ℕ, ◌<◌, ◌≤◌, List, [], ◌∷◌, ◌++◌, length, take, drop, false, cond, eqb, Some, Option, refl, subst, ap, ◌∙◌, arith, length-append}
use Rattle.std.proofs.Math.Seq.{take-append_seam, drop-append_seam}
use Rattle.std.proofs.lemmas.List.{take_all}
use Rattle.std.proofs.lemmas.Bool.Decides.{nat_tests}
use Rattle.std.specs.List.{flat_map, AllByRecursion}
use Rattle.dialog.specs.Cells.{before, dashed, text, Spells, Lawful}

-- a word of two characters or more is read by f
dashed_two : {A : Type 0} (f : List ℕ → Option (List A)) (word : List ℕ) → 2 ≤ length word → dashed f word ≡ f word
dashed_two f word h = grind (arith, nat_tests)

text_some : {A : Type 0} (f : A → List ℕ) (x : A) (xs : List A) → text f (x ∷ xs) ≡ flat_map f (x ∷ xs)
text_some f x xs = grind (arith, nat_tests)

module _ {A : Type 0} (n : ℕ) (one : List ℕ → Option A) (row : List ℕ → Option (List A)) (written : A → List ℕ) (l : Lawful n one row written) where
  -- x is read as it is written
  abbrev Back : A → Type 0
  Back x = one (written x) ≡ Some x

  -- a cell's digits in front are read as that cell
  row_written : (x : A) (digits : List ℕ) → Back x → row (written x ++ digits) ≡ before (Some x) (row digits)
  row_written x digits h =
      let some : 0 < length (written x ++ digits) = simp length-append (omega (arith, l.digits x, l.two_at_least)) in
      let front : take n (written x ++ digits) ≡ written x = rw (← l.digits x) (take-append_seam (written x) digits) in
      let behind : drop n (written x ++ digits) ≡ digits = rw (← l.digits x) (drop-append_seam (written x) digits) in
      l.row_more (written x ++ digits) some ∙ rw (front, behind, h)

  row_text : (xs : List A) → AllByRecursion Back xs → row (flat_map written xs) ≡ Some xs
  row_text [] h = l.row_none
  row_text (x ∷ xs) h = row_written x (flat_map written xs) h.0 ∙ ap (before (Some x)) (row_text xs h.1)

  word_back : (xs : List A) → AllByRecursion Back xs → dashed row (text written xs) ≡ Some xs
  word_back [] h = refl
  word_back (x ∷ xs) h =
      let long : 2 ≤ length (flat_map written (x ∷ xs)) = simp length-append (omega (arith, l.digits x, l.two_at_least)) in
      rw text_some (dashed_two row (flat_map written (x ∷ xs)) long ∙ row_text (x ∷ xs) h)

  -- once all cells are written
  pub all_spelled : (xs : List A) (i : ℕ) (word : List ℕ) → length xs ≤ i → false ≡ eqb (length xs) 0 →
      (word ≡ flat_map written (take i xs)) × AllByRecursion Back (take i xs) → Spells (dashed row) written xs word
  all_spelled xs i word whole some h =
      let all = take_all i xs whole in
      let spelled : word ≡ text written xs = h.0 ∙ ap (flat_map written) all ∙ ap (λ b. cond b (45 ∷ []) (flat_map written xs)) some in
      record { spelled = spelled; back = ap (dashed row) spelled ∙ word_back xs (subst (AllByRecursion Back) all h.1) }
