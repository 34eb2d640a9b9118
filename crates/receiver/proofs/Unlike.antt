-- Different numbers: below a bound there are at most as many as it. Assumes nothing.
use Rattle.std.proofs.Common.{◌≡◌, ℕ, ◌<◌, ◌≤◌, false, eqb, List, [], ◌∷◌, ◌++◌, length, sym}
use Rattle.std.specs.List.{AllByRecursion, IsDistinct}
use Rattle.std.proofs.ByRecursion.{All-push, All-weaker}
use Rattle.std.proofs.lemmas.Bool.{eqb-true, ne_eqb}
use Rattle.std.proofs.lemmas.List.Elements.{All-contains, All-from_recursion}
use Rattle.std.proofs.lemmas.Map.Steps.{length-le_from_distinct_below}
use Rattle.std.proofs.lemmas.Map.Views.{Contains-from_any}
use Rattle.code.specs.Rows.{Packet}
use Rattle.code.specs.Settles.{New, Different}
use Rattle.code.proofs.Settling.{numbers}
use Rattle.receiver.specs.States.{Unlike}

distinct : (xs : List ℕ) → Unlike xs → IsDistinct eqb xs
unfolding IsDistinct
distinct [] u = tt
distinct (x ∷ xs) u = (All-weaker (λ y. ¬ (y ≡ x)) (λ y. eqb x y ≡ false) (λ y ne. ne_eqb x y (λ e. ne (sym e))) xs u.0, distinct xs u.1)

pub at_most : (b : ℕ) (xs : List ℕ) → AllByRecursion (λ x. x < b) xs → Unlike xs → length xs ≤ b
at_most b xs below u =
    length-le_from_distinct_below xs b (distinct xs u)
    (λ q e. All-contains (λ x. x < b) xs q (All-from_recursion (λ x. x < b) xs below) (Contains-from_any eqb-true q xs e))

pub unlike_push : (xs : List ℕ) (n : ℕ) → Unlike xs → AllByRecursion (λ y. ¬ (y ≡ n)) xs → Unlike (xs ++ n ∷ [])
unlike_push [] n u h = (tt, tt)
unlike_push (x ∷ xs) n u h = (All-push (λ y. ¬ (y ≡ x)) xs n u.0 (λ e. h.0 (sym e)), unlike_push xs n u.1 h.1)

-- packets whose numbers are different are apart
pub unlike_apart : (ks : List Packet) (xs : List ℕ) → Unlike (numbers ks ++ xs) → Different ks
unlike_apart [] xs u = tt
unlike_apart (k ∷ ks) xs u = (new ks u.0, unlike_apart ks xs u.1)
  where
    new : (ks : List Packet) → AllByRecursion (λ y. ¬ (y ≡ k.number)) (numbers ks ++ xs) → New k.number ks
    new [] h = tt
    new (j ∷ ks) h = (h.0, new ks h.1)
