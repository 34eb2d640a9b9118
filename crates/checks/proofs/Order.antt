-- Checks in their order. Assumes nothing.
use Rattle.std.proofs.Common.{◌≡◌, ℕ, Bool, true, false, List, [], ◌∷◌, Some, None, Ok, Err, Option, refl, arith}
use Rattle.std.specs.Option.{option_map}
use Rattle.std.specs.List.{AllByRecursion}
use Rattle.checks.specs.Checks.{unless, first, answered, left}

-- None is no Some
pub none_some : {A : Type 0} (o : Option A) (a : A) → o ≡ None → o ≡ Some a → ⊥
none_some o a p q = let z : ◌≡◌ {A = ℕ} 0 1 = cc in omega arith

pub unless_none : {A : Type 0} (b : Bool) (f : A) → unless b f ≡ None → b ≡ true
unless_none true f e = refl
unless_none false f e = absurd (none_some _ f e refl)

pub unless_true : {A : Type 0} (b : Bool) (f : A) → b ≡ true → unless b f ≡ None
unless_true b f e = rw e

-- no check applies exactly if none of them does
pub first_none : {A : Type 0} (os : List (Option A)) → first os ≡ None → AllByRecursion (λ o. o ≡ None) os
first_none [] e = tt
first_none (None ∷ os) e = (refl, first_none os e)
first_none (Some f ∷ os) e = absurd (none_some _ f e refl)

pub none_first : {A : Type 0} (os : List (Option A)) → AllByRecursion (λ o. o ≡ None) os → first os ≡ None
none_first [] h = refl
none_first (None ∷ os) h = none_first os h.1
none_first (Some f ∷ os) h = h.0

-- a check that does not apply
pub skip : {A : Type 0} (o : Option A) (os : List (Option A)) → o ≡ None → first (o ∷ os) ≡ first os
skip None os e = refl
skip (Some a) os e = absurd (none_some _ a e refl)

-- a check that applies
pub stop : {A : Type 0} (o : Option A) (os : List (Option A)) (a : A) → o ≡ Some a → first (o ∷ os) ≡ Some a
stop None os a e = absurd (none_some _ a refl e)
stop (Some b) os a e = e

-- the last check
pub last : {A : Type 0} (o : Option A) → first (o ∷ []) ≡ o
last None = refl
last (Some a) = refl

pub mapped_none : {A B : Type 0} (f : A → B) (o : Option A) → option_map f o ≡ None → o ≡ None
mapped_none f None e = refl
mapped_none f (Some a) e = absurd (none_some _ _ e refl)

-- a call that answers had no fault, and one that is refused had that one
pub answered_ok : {X E : Type 0} (o : Option E) (x y : X) → Ok x ≡ answered o y → (o ≡ None) × (x ≡ y)
answered_ok None x y e = (refl, cc)
answered_ok (Some f) x y e = absurd (let z : ◌≡◌ {A = ℕ} 0 1 = cc in omega arith)

pub answered_err : {X E : Type 0} (o : Option E) (f : E) (y : X) → Err f ≡ answered o y → o ≡ Some f
answered_err None f y e = absurd (let z : ◌≡◌ {A = ℕ} 0 1 = cc in omega arith)
answered_err (Some g) f y e = cc

-- what is left where no check applies, and where one does
pub left_none : {X E : Type 0} (o : Option E) (old new : X) → o ≡ None → left o old new ≡ new
left_none o old new e = rw e

pub left_some : {X E : Type 0} (o : Option E) (f : E) (old new : X) → o ≡ Some f → left o old new ≡ old
left_some o f old new e = rw e
