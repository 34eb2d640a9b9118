-- The digits of a number, and the number that digits write. Assumes nothing.
use Rattle.std.proofs.Common.{◌≡◌, ℕ, zero, suc, ◌+◌, ◌*◌, ◌/◌, ◌%◌, ◌^◌, ◌<◌, ◌≤◌, List, [], ◌∷◌, ◌++◌, length, get_or, take, drop, sym, refl, ap, ◌∙◌, ap₂, pow-suc, add-one, arith}
use native.Mathlib.Nat.{pow-zero}
use Rattle.std.proofs.lemmas.Nat.{div-mul-add, mod-mul-add, div-add-mod', div_below, mod_below}
use Rattle.std.proofs.lemmas.Int.Digits.{number_push, number_more, number_after_append, number_after_ge}
use Rattle.std.proofs.ByRecursion.{All-push, All-get_or}
use Rattle.std.proofs.lemmas.List.{length_push, take_more, take_all, take-append-drop}
use Rattle.std.specs.Int.Digits.{number_from_digits, number_from_digits_after, AllBelowBase}
use Rattle.job.specs.Packing.{digits}

-- a front that writes n, and the digit behind it, write no more than the whole
pub number-front : (b n : ℕ) (ds : List ℕ) (i : ℕ) → n ≡ number_from_digits b (take i ds) → 0 < b → i < length ds → n * b + get_or ds i 0 ≤ number_from_digits b ds
number-front b n ds i is pos within = rw is (
    let more = number_more b ds i within in
    let whole : number_from_digits b ds ≡ number_from_digits_after b (number_from_digits b (take (i + 1) ds)) (drop (i + 1) ds) =
    ap (number_from_digits b) (sym (take-append-drop (i + 1) ds)) ∙ number_after_append b 0 (take (i + 1) ds) (drop (i + 1) ds) in
    omega (arith, number_after_ge b (number_from_digits b (take (i + 1) ds)) (drop (i + 1) ds) pos))

pub length_digits : (b k v : ℕ) → length (digits b k v) ≡ k
length_digits b zero v = refl
length_digits b (suc k) v = length_push (digits b k (v / b)) (v % b) ∙ omega (arith, length_digits b k (v / b))

pub under_digits : (b k v : ℕ) → 0 < b → AllBelowBase b (digits b k v)
under_digits b zero v pos = tt
under_digits b (suc k) v pos = All-push (λ d. d < b) (digits b k (v / b)) (v % b) (under_digits b k (v / b) pos) (mod_below v b pos)

-- the digits of a number write it
pub number_digits : (b k v : ℕ) → 0 < b → v < b ^ k → number_from_digits b (digits b k v) ≡ v
number_digits b zero v pos small = omega (arith, pow-zero b)
number_digits b (suc k) v pos small =
    number_push b (digits b k (v / b)) (v % b)
    ∙ ap (λ n. n * b + v % b) (number_digits b k (v / b) pos (div_below v b (b ^ k) pos (rw pow-suc at small)))
    ∙ div-add-mod' v b

digits-front : (b : ℕ) (ds : List ℕ) (i : ℕ) → AllBelowBase b ds → i ≤ length ds → digits b i (number_from_digits b (take i ds)) ≡ take i ds
digits-front b ds zero under within = refl
digits-front b ds (suc i) under within =
    let n = number_from_digits b (take i ds) in
    let d = get_or ds i 0 in
    let small : d < b = All-get_or (λ x. x < b) ds i 0 (omega arith) under in
    let more : number_from_digits b (take (suc i) ds) ≡ n * b + d = rw add-one at (number_more b ds i (omega arith)) in
    let front : take (suc i) ds ≡ take i ds ++ d ∷ [] = rw add-one at (take_more ds i 0 (omega arith)) in
    ap (digits b (suc i)) more
    ∙ ap₂ (λ x y. digits b i x ++ y ∷ []) (div-mul-add n b d small) (mod-mul-add n b d small)
    ∙ ap (λ xs. xs ++ d ∷ []) (digits-front b ds i under (omega arith))
    ∙ sym front

-- digits are those of the number that they write
pub digits_number : (b k : ℕ) (ds : List ℕ) → AllBelowBase b ds → length ds ≡ k → digits b k (number_from_digits b ds) ≡ ds
digits_number b k ds under long =
    let all = take_all k ds (omega arith) in
    ap (λ xs. digits b k (number_from_digits b xs)) (sym all) ∙ digits-front b ds k under (omega arith) ∙ all
