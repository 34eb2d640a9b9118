-- Checks in their order, and the lowest place where a check applies. Assumes nothing.
--     at xs i                 the number at place i, 0 past the end
--     unless b f              the fault f, unless the test b passes
--     first os                the first fault of a list of checks
--     answered o x            the answer of a call whose checks give o: the fault, or x
--     left o old new          what such a call leaves: a refusal changes nothing
--     lowest p n              the lowest place below n where the test p passes
--     too_large limit xs i    the symbol at place i is the limit or more
--     differs xs ys i         two rows have different symbols at place i
use Rattle.std.specs.Prelude.{ℕ, zero, suc, Bool, true, false, cond, not, List, [], ◌∷◌, Some, None, Ok, Err, Option, Result, ◌==◌, nat_le, slice_index}

-- the number at place i
abbrev pub at : List ℕ → ℕ → ℕ
at xs i = slice_index xs i

-- the fault f, unless the test b passes
abbrev pub unless : {A : Type 0} → Bool → A → Option A
unless true f = None
unless false f = Some f

-- the first check that applies decides
abbrev pub first : {A : Type 0} → List (Option A) → Option A
first [] = None
first (None ∷ os) = first os
first (Some f ∷ os) = Some f

-- the answer of a call whose checks give o
abbrev pub answered : {X E : Type 0} → Option E → X → Result X E
answered None x = Ok x
answered (Some f) x = Err f

-- what such a call leaves of old: the new content, or all as it was
abbrev pub left : {X E : Type 0} → Option E → X → X → X
left None old new = new
left (Some f) old new = old

-- what is found so far, or else n if the test there passes
abbrev pub or_here : Option ℕ → Bool → ℕ → Option ℕ
or_here (Some k) b n = Some k
or_here None b n = cond b (Some n) None

-- the lowest place below n where the test p passes
abbrev pub lowest : (ℕ → Bool) → ℕ → Option ℕ
lowest p zero = None
lowest p (suc n) = or_here (lowest p n) (p n) n

-- the symbol at place i is the limit or more
abbrev pub too_large : ℕ → List ℕ → ℕ → Bool
too_large limit xs i = nat_le limit (at xs i)

-- two rows have different symbols at place i
abbrev pub differs : List ℕ → List ℕ → ℕ → Bool
differs xs ys i = not (at xs i == at ys i)
