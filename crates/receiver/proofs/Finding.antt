-- Numbers and packets looked for, and the parts of a list. Assumes nothing.
use Rattle.std.proofs.Common.{◌≡◌, ℕ, false, eqb, List, [], ◌∷◌, ◌++◌, map, Some, None, Option, refl, inl, inr}
use Rattle.std.specs.List.{AllByRecursion}
use Rattle.std.proofs.ByRecursion.{All-map}
use Rattle.std.proofs.lemmas.Bool.{cases_Bool, eqb-true, eqb-false, ne_eqb, or_parts, or_from}
use Rattle.code.specs.Rows.{Packet}
use Rattle.code.specs.Settles.{New}
use Rattle.receiver.specs.Machine.{has, find}

-- none of the numbers is n
has_none : (n : ℕ) (xs : List ℕ) → AllByRecursion (λ x. ¬ (x ≡ n)) xs → has n xs ≡ false
has_none n [] h = refl
has_none n (x ∷ xs) h = or_from _ _ (ne_eqb x n h.0) (has_none n xs h.1)

pub none_has : (n : ℕ) (xs : List ℕ) → has n xs ≡ false → AllByRecursion (λ x. ¬ (x ≡ n)) xs
none_has n [] h = tt
none_has n (x ∷ xs) h = let r = or_parts (eqb x n) (has n xs) h in (eqb-false x n r.0, none_has n xs r.1)

-- n is the number of none of the packets
pub not_has : (n : ℕ) (ks : List Packet) → New n ks → has n (map (λ k. k.number) ks) ≡ false
not_has n ks h = has_none n _ (All-map (λ x. ¬ (x ≡ n)) (λ k. k.number) ks h)

pub has_not : (n : ℕ) (ks : List Packet) → has n (map (λ k. k.number) ks) ≡ false → New n ks
has_not n [] h = tt
has_not n (k ∷ ks) h =
    let r = or_parts (eqb k.number n) (has n (map (λ k. k.number) ks)) h in
    (eqb-false k.number n r.0, has_not n ks r.1)

pub new_find : (n : ℕ) (ks : List Packet) → find n ks ≡ None → New n ks
new_find n [] e = tt
new_find n (k ∷ ks) e = elim (cases_Bool (eqb k.number n)) [
  | inl t ↦ absurd (cc (rw t at e))
  | inr f ↦ (eqb-false _ n f, new_find n ks (rw f at e))
]

-- what holds of each packet holds of the one that is found
pub found : (P : ℕ → List ℕ → Type 0) (n : ℕ) (ks : List Packet) (y : List ℕ) → find n ks ≡ Some y
    → AllByRecursion (λ k. P k.number k.row) ks → P n y
found P n [] y e h = absurd cc
found P n (k ∷ ks) y e h = elim (cases_Bool (eqb k.number n)) [
  | inl t ↦ (
      let here : ◌≡◌ {A = Option (List ℕ)} (Some k.row) (Some y) = rw t at e in
      let r : k.row ≡ y = cc in
      let s : k.number ≡ n = eqb-true _ n t in
      rw (← r, ← s) h.0
      )
  | inr f ↦ found P n ks y (rw f at e) h.1
]

-- what holds of each of a list holds of its parts
pub all-front : {A : Type 0} (P : A → Type 0) (xs ys : List A) → AllByRecursion P (xs ++ ys) → AllByRecursion P xs
all-front P [] ys h = tt
all-front P (x ∷ xs) ys h = (h.0, all-front P xs ys h.1)

pub all_back : {A : Type 0} (P : A → Type 0) (xs ys : List A) → AllByRecursion P (xs ++ ys) → AllByRecursion P ys
all_back P [] ys h = h
all_back P (x ∷ xs) ys h = all_back P xs ys h.1
