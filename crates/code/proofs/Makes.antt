-- What the checks of a making say of the plan that is made. Assumes nothing.
use Rattle.std.proofs.Common.{◌≡◌, ℕ, zero, suc, ◌+◌, ◌-◌, ◌<◌, ◌≤◌, Bool, true, false, eqb, leb, List, ◌++◌, length, take, drop, is_some, Some, None, Ok, Option, sym, refl, ap, ◌∙◌, add-one, arith}
use Rattle.std.proofs.lemmas.List.FromFn.{get_or-map-range_with_len}
use Rattle.std.proofs.lemmas.List.{get_or-take, length-take-le, length-append}
use Rattle.std.specs.List.{IsAnyAnswer}
use Rattle.std.proofs.Math.Seq.{take-append_seam}
use Rattle.std.proofs.lemmas.Bool.{and_parts, leb-true, leb-false, eqb-false, both_ways}
use Rattle.checks.specs.Checks.{at, first, answered, lowest, too_large}
use Rattle.checks.proofs.Lowest.{none_passes, lowest_none, lowest_any}
use Rattle.checks.proofs.Order.{first_none, unless_none}
use Rattle.field.specs.Field.{Ops, Lawful, Steps, product_of, power}
use Rattle.field.proofs.Total.{one-element, product_of-element}
use Rattle.code.specs.Nodes.{Elements, Apart}
use Rattle.code.specs.Making.{in_range, range_checks, repeated, standard_nodes}

-- a call that is answered passed its checks
pub answered_none : {X E : Type 0} (o : Option E) (x y : X) → Ok y ≡ answered o x → o ≡ None
answered_none None x y e = refl
answered_none (Some f) x y e = absurd (let z : ◌≡◌ {A = ℕ} 0 1 = cc in omega arith)

-- m, r and L are in range
pub record Ranges (m r L : ℕ) : Type 0 where
  pub m_least : 1 ≤ m
  pub m_most : m ≤ 64
  pub r_least : 1 ≤ r
  pub r_most : r ≤ 64
  pub L_least : 1 ≤ L
  pub L_most : L ≤ 128

in_range_is : (top n : ℕ) → in_range top n ≡ true → (1 ≤ n) × (n ≤ top)
in_range_is top n e = let h = and_parts (leb 1 n) (leb n top) e in (leb-true 1 n h.0, leb-true n top h.1)

pub ranges : (m r L : ℕ) {x : Unit {0}} → Ok x ≡ answered (first (range_checks m r L)) tt → Ranges m r L
ranges m r L {x} e =
    let none = first_none (range_checks m r L) (answered_none (first (range_checks m r L)) tt x e) in
    let dm = in_range_is 64 m (unless_none (in_range 64 m) _ none.0) in
    let cr = in_range_is 64 r (unless_none (in_range 64 r) _ none.1.0) in
    let sl = in_range_is 128 L (unless_none (in_range 128 L) _ none.1.1.0) in
    record { m_least = dm.0; m_most = dm.1; r_least = cr.0; r_most = cr.1; L_least = sl.0; L_most = sl.1 }

some_none : (o : Option ℕ) → is_some o ≡ false → o ≡ None
some_none (Some k) e = absurd (both_ways true e refl)
some_none None e = refl

-- two lists of nodes that were joined fill as many places as both have
pub joined_long : (m r : ℕ) (ds cs all : List ℕ) → length ds ≡ m → length cs ≡ r → take (length ds + length cs) all ≡ ds ++ cs → length (take (m + r) all) ≡ m + r
joined_long m r ds cs all dm cr is =
    let n : m + r ≡ length ds + length cs = omega arith in
    rw n (ap length is ∙ length-append ds cs)

-- the first k of all nodes, as a part of them is written in code, have passed the searches
module _ (k : ℕ) (all : List ℕ) (room : length (take k all) ≡ k) where
  part : take (k - 0) all ≡ take k all
  part = ap (λ n. take n all) (omega arith)

  front : (i : ℕ) → i < k → at (take k all) i ≡ at all i
  front i h = get_or-take k all i 0 h

  passed : (p : List ℕ → ℕ → Bool) → None ≡ lowest (p (take (k - 0) all)) (length (take (k - 0) all)) → lowest (p (take k all)) k ≡ None
  passed p none = ap (λ n. lowest (p (take k all)) n) (sym room) ∙ ap (λ xs. lowest (p xs) (length xs)) (sym part) ∙ sym none

  pub elements_from : (q : ℕ) → None ≡ lowest (too_large q (take (k - 0) all)) (length (take (k - 0) all)) → Elements q k all
  elements_from q none i h =
      rw (sym (front i h)) (leb-false q (at (take k all) i) (none_passes (too_large q (take k all)) k i (passed (too_large q) none) h))

  pub apart_from : None ≡ lowest (repeated (take (k - 0) all)) (length (take (k - 0) all)) → Apart k all
  apart_from none i j h lt same =
      let xs = take k all in
      let fails = none_passes (repeated xs) k i (passed repeated none) h in
      let before = none_passes (λ j. eqb (at xs j) (at xs i)) i j (some_none _ fails) lt in
      eqb-false (at xs j) (at xs i) before (front j (omega arith) ∙ same ∙ sym (front i h))

pub power_more : (o : Ops) (g k v w : ℕ) → w ≡ product_of o g v → v ≡ power o g k → w ≡ power o g (k + 1)
power_more o g k v w times before = rw add-one (cc)

-- every power of a step is an element
pub power-element : {o : Ops} (laws : Lawful o) (g k : ℕ) → power o g k < o.size
power-element laws g zero = one-element laws
power-element {o} laws g (suc k) = product_of-element laws g (power o g k)

-- the first k powers of a step are different elements
module _ {o : Ops} (laws : Lawful o) (g k : ℕ) (all : List ℕ) (is : take k all ≡ standard_nodes o g k) where
  pub power_at : (i : ℕ) → i < k → at all i ≡ power o g i
  power_at i h = sym (get_or-take k all i 0 h) ∙ ap (λ xs. at xs i) is ∙ get_or-map-range_with_len (power o g) 0 k i i 0 h (omega arith)

  pub powers_elements : (q : ℕ) → q ≡ o.size → Elements q k all
  powers_elements q size i h = rw (size, power_at i h) (power-element laws g i)

  pub powers_apart : (p : ℕ) → Steps o g p → k ≤ p → Apart k all
  powers_apart p steps few i j h lt same =
      let e = steps.all_different j i (omega arith) (omega arith) (sym (power_at j (omega arith)) ∙ same ∙ power_at i h) in
      omega arith

-- a search among the nodes in front of place i tells whether its node is repeated
pub repeated_is : (nodes : List ℕ) (i : ℕ) (r : Bool) → i ≤ length nodes
    → IsAnyAnswer (λ y b. eqb y (at nodes i) ≡ b) (take i nodes) r → repeated nodes i ≡ r
repeated_is nodes i true within found =
    let long = length-take-le i nodes within in
    let below : found.0 < i = omega arith in
    lowest_any (λ j. eqb (at nodes j) (at nodes i)) i found.0 below (rw (get_or-take i nodes found.0 0 below) at (found.2 0))
repeated_is nodes i false within found =
    let long = length-take-le i nodes within in
    ap is_some (lowest_none (λ j. eqb (at nodes j) (at nodes i)) i
    (λ k h. rw (get_or-take i nodes k 0 h) at (found k 0 (omega arith) (omega arith))))

-- the powers stand in front of what they were written over
pub front_of : (o : Ops) (g : ℕ) (ps xs : List ℕ) (k : ℕ) → ps ≡ standard_nodes o g (length (take k xs)) → length ps ≡ length (take k xs) → k ≤ length xs
    → take k (ps ++ drop k xs) ≡ standard_nodes o g k
front_of o g ps xs k same long within =
    let e : length ps ≡ k = long ∙ length-take-le k xs within in
    rw (← e) (take-append_seam ps (drop (length ps) xs)) ∙ same ∙ ap (standard_nodes o g) (length-take-le k xs within)
