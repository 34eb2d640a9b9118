-- The lowest place where a test passes, and how a search finds it. Assumes nothing.
use Rattle.std.proofs.Common.{◌≡◌, ◌≢◌, ℕ, zero, suc, ◌<◌, ◌≤◌, min, Bool, true, false, not, ◌⊎◌, List, length, Some, None, is_some, Option, sym, refl, ap, ◌∙◌, inl, inr, ⊎_elim, arith}
use Rattle.std.specs.List.{AllByRecursion, AllWithin, HoldsAt, zip}
use Rattle.std.specs.Option.{MatchOption}
use Rattle.std.proofs.ByRecursion.{All-from_get_or, All-get_or}
use Rattle.std.proofs.lemmas.List.{same_lists, get_or_default}
use Rattle.std.proofs.lemmas.Bool.{cases_eq, leb-false, lt-leb, eqb-true, eq-eqb, not-false, ne_eqb, not_from_true, not_from_false}
use Rattle.std.proofs.lemmas.Slice.Zip.{get_or-zip, length-zip}
use Rattle.checks.specs.Checks.{at, lowest, or_here, too_large, differs}

-- the search ends
pub lowest_found : (p : ℕ → Bool) (i n : ℕ) → lowest p i ≡ None → p i ≡ true → i < n → lowest p n ≡ Some i
lowest_found p i zero none passes h = absurd (omega arith)
lowest_found p i (suc n) none passes h =
    ⊎_elim
    (λ (e : i ≡ n). let a : lowest p n ≡ None = rw e at none in let b : p n ≡ true = rw e at passes in rw (a, b, e))
    (λ (ne : i ≡ n → ⊥). let before : lowest p n ≡ Some i = lowest_found p i n none passes (omega arith) in rw before)
    (cases_eq i n)

here_none : (o : Option ℕ) (b : Bool) (n : ℕ) → or_here o b n ≡ None → (o ≡ None) × (b ≡ false)
here_none (Some k) b n e = absurd (let z : ◌≡◌ {A = ℕ} 0 1 = cc in omega arith)
here_none None true n e = absurd (let z : ◌≡◌ {A = ℕ} 0 1 = cc in omega arith)
here_none None false n e = (refl, refl)

-- none passes
pub none_passes : (p : ℕ → Bool) (n k : ℕ) → lowest p n ≡ None → k < n → p k ≡ false
none_passes p zero k none h = absurd (omega arith)
none_passes p (suc n) k none h =
    let parts = here_none (lowest p n) (p n) n none in
    ⊎_elim (λ (e : k ≡ n). rw e parts.1) (λ (ne : k ≡ n → ⊥). none_passes p n k parts.0 (omega arith)) (cases_eq k n)

-- where none passes none is found
pub lowest_none : (p : ℕ → Bool) (n : ℕ) → ((k : ℕ) → k < n → p k ≡ false) → lowest p n ≡ None
lowest_none p zero fails = refl
lowest_none p (suc n) fails = let before = lowest_none p n (λ k h. fails k (omega arith)) in rw (before, fails n (omega arith))

-- only what lies below n decides
pub lowest_same : (p r : ℕ → Bool) (n : ℕ) → ((k : ℕ) → k < n → p k ≡ r k) → lowest p n ≡ lowest r n
lowest_same p r zero same = refl
lowest_same p r (suc n) same = let before = lowest_same p r n (λ k h. same k (omega arith)) in rw (before, same n (omega arith))

here_some : (o : Option ℕ) (b : Bool) (n k : ℕ) → or_here o b n ≡ Some k → (o ≡ Some k) ⊎ ((k ≡ n) × (b ≡ true))
here_some (Some j) b n k e = inl e
here_some None true n k e = inr (cc, refl)
here_some None false n k e = absurd (let z : ◌≡◌ {A = ℕ} 0 1 = cc in omega arith)

-- what is found lies below n and passes
pub lowest_some : (p : ℕ → Bool) (n k : ℕ) → lowest p n ≡ Some k → (k < n) × (p k ≡ true)
lowest_some p zero k e = absurd (let z : ◌≡◌ {A = ℕ} 0 1 = cc in omega arith)
lowest_some p (suc n) k e =
    ⊎_elim (λ (f : lowest p n ≡ Some k). let h = lowest_some p n k f in (omega (arith, h.0), h.1))
    (λ (f : (k ≡ n) × (p n ≡ true)). (omega (arith, f.0), rw f.0 f.1)) (here_some (lowest p n) (p n) n k e)

-- no symbol is too large exactly if all are below the limit
pub all_below : (q : ℕ) (xs : List ℕ) → lowest (too_large q xs) (length xs) ≡ None → AllByRecursion (λ x. x < q) xs
all_below q xs none = All-from_get_or (λ x. x < q) xs 0 (λ k h. leb-false q (at xs k) (none_passes (too_large q xs) (length xs) k none h))

pub none_large : (q : ℕ) (xs : List ℕ) → AllByRecursion (λ x. x < q) xs → lowest (too_large q xs) (length xs) ≡ None
none_large q xs all = lowest_none (too_large q xs) (length xs) (λ k h. lt-leb q (at xs k) (All-get_or (λ x. x < q) xs k 0 h all))

-- lists that agree at each place are equal
pub same_places : (xs ys : List ℕ) → length xs ≡ length ys → ((k : ℕ) → k < length xs → at xs k ≡ at ys k) → xs ≡ ys
same_places xs ys long same =
    same_lists xs ys long (λ k d h. get_or_default xs k d 0 h ∙ same k h ∙ get_or_default ys k 0 d (omega arith))

-- rows of one length that differ nowhere are equal
pub same_rows : (xs ys : List ℕ) (n : ℕ) → length xs ≡ n → length ys ≡ n → lowest (differs xs ys) n ≡ None → xs ≡ ys
same_rows xs ys n lx ly none =
    same_places xs ys (lx ∙ sym ly) (λ k h. eqb-true (at xs k) (at ys k) (not-false _ (none_passes (differs xs ys) n k none (omega arith))))

pub no_difference : (xs : List ℕ) (n : ℕ) → lowest (differs xs xs) n ≡ None
no_difference xs n = lowest_none (differs xs xs) n (λ k h. ap not (eq-eqb (at xs k) (at xs k) refl))

-- what a search of the library finds, where its test on the places of a list is p
pub lowest_position : {X : Type 0} (p : ℕ → Bool) (Yes No : X → Type 0) (xs : List X) (r : Option ℕ)
    → ((k : ℕ) → k < length xs → HoldsAt Yes xs k → p k ≡ true)
    → ((k : ℕ) → k < length xs → HoldsAt No xs k → p k ≡ false)
    → MatchOption r (AllWithin No xs 0 (length xs)) (λ i. (i < length xs) × HoldsAt Yes xs i × AllWithin No xs 0 i)
    → r ≡ lowest p (length xs)
lowest_position p Yes No xs None passes fails all = sym (lowest_none p (length xs) (λ k h. fails k h (λ d. all k d (omega arith) h)))
lowest_position p Yes No xs (Some i) passes fails all =
    let before : lowest p i ≡ None = lowest_none p i (λ k h. fails k (omega (arith, all.0)) (λ d. all.2 k d (omega arith) h)) in
    sym (lowest_found p i (length xs) before (passes i all.0 all.1) all.0)

-- the same of a search through two lists at once for a place where they differ
pub lowest_zip : (xs ys : List ℕ) (r : Option ℕ)
    → MatchOption r (AllWithin (λ p. p.0 ≡ p.1) (zip xs ys) 0 (length (zip xs ys)))
    (λ i. (i < length (zip xs ys)) × HoldsAt (λ p. p.0 ≢ p.1) (zip xs ys) i × AllWithin (λ p. p.0 ≡ p.1) (zip xs ys) 0 i)
    → r ≡ lowest (differs xs ys) (min (length xs) (length ys))
lowest_zip xs ys r found =
    let long = length-zip xs ys in
    rw long at (lowest_position (differs xs ys) (λ p. p.0 ≢ p.1) (λ p. p.0 ≡ p.1) (zip xs ys) r
    (λ k h here. not_from_false _ (ne_eqb _ _ (rw (get_or-zip xs ys k (0, 0) (omega arith) (omega arith)) at (here (0, 0)))))
    (λ k h here. not_from_true _ (eq-eqb _ _ (rw (get_or-zip xs ys k (0, 0) (omega arith) (omega arith)) at (here (0, 0)))))
    found)

any_here : (p : ℕ → Bool) (n k : ℕ) → k < n → p k ≡ true → (o : Option ℕ) → lowest p n ≡ o → is_some o ≡ true
any_here p n k h passes (Some i) e = refl
any_here p n k h passes None e = let fails = none_passes p n k e h in cc

-- where one passes one is found
pub lowest_any : (p : ℕ → Bool) (n k : ℕ) → k < n → p k ≡ true → is_some (lowest p n) ≡ true
lowest_any p n k h passes = any_here p n k h passes (lowest p n) refl

-- and of a search through the places themselves
pub lowest_range : (p : ℕ → Bool) (n : ℕ) (r : Option ℕ)
    → MatchOption r ((k : ℕ) → 0 ≤ k → k < n → p k ≡ false) (λ i. (0 ≤ i) × (i < n) × (p i ≡ true) × ((k : ℕ) → 0 ≤ k → k < i → p k ≡ false))
    → r ≡ lowest p n
lowest_range p n None fails = sym (lowest_none p n (λ k h. fails k (omega arith) h))
lowest_range p n (Some i) found = sym (lowest_found p i n (lowest_none p i (λ k h. found.3 k (omega arith) h)) found.2 found.1)
