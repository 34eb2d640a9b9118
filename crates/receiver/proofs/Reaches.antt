-- What a receiver's fields say of the state that it holds, and what that state says of them. Assumes nothing.
use Rattle.std.proofs.Common.{◌≡◌, ℕ, zero, suc, ◌+◌, ◌*◌, ◌/◌, ◌%◌, ◌<◌, ◌≤◌, min, List, [], ◌∷◌, length, take, drop, sym, ap, ◌∙◌, subst, add-mul, one-mul, arith}
use Rattle.std.specs.List.{AllByRecursion}
use Rattle.std.proofs.lemmas.Nat.{mul-le, div_below, mod_below, div-add-mod'}
use Rattle.std.proofs.lemmas.List.FromFn.{length-map-range_with_len, get_or-map-range_with_len}
use Rattle.std.proofs.ByRecursion.{All-get_or, All-from_get_or}
use Rattle.std.proofs.lemmas.List.{get_or-take, get_or-drop, length-take-le, length-drop, drop_all}
use Rattle.checks.specs.Checks.{at}
use Rattle.code.specs.Nodes as nodes
use Rattle.code.specs.Plans.{PlanView, Sound}
use Rattle.code.specs.Settles.{Good}
use Rattle.code.proofs.Rows.{row_within}
use Rattle.receiver.specs.Machine.{State}
use Rattle.receiver.specs.Receivers.{packet_at, state}
use Rattle.receiver.specs.Shelves.{row_on}
use Rattle.receiver.specs.States.{Unlike, Reached}
use Rattle.receiver.proofs.Shelves.{numbers-state, count-state}

-- what a receiver keeps of its fields
pub record Held (p : PlanView) (k : ℕ) (numbers shelf : List ℕ) : Type 0 where
  pub room : k ≤ p.m + p.r
  pub inside : nodes.Elements (p.m + p.r) k numbers
  pub apart : nodes.Apart k numbers
  pub symbols : nodes.Elements p.q (min k p.m * p.L) shelf

-- numbers of which no two are the same
unlike_of : (xs : List ℕ) → nodes.Apart (length xs) xs → Unlike xs
unlike_of [] h = tt
unlike_of (x ∷ xs) h = (
  All-from_get_or (λ y. ¬ (y ≡ x)) xs 0 (λ i l e. h (suc i) zero (omega arith) (omega arith) (sym e)),
  unlike_of xs (λ i j a b e. h (suc i) (suc j) (omega arith) (omega arith) e),
)

of_unlike : (xs : List ℕ) → Unlike xs → nodes.Apart (length xs) xs
of_unlike [] u i j h l e = omega arith
of_unlike (x ∷ xs) u zero j h l e = omega arith
of_unlike (x ∷ xs) u (suc i) zero h l e = All-get_or (λ y. ¬ (y ≡ x)) xs i 0 (omega arith) u.0 (sym e)
of_unlike (x ∷ xs) u (suc i) (suc j) h l e = of_unlike xs u.1 i j (omega arith) (omega arith) e

-- there is room for each row
pub shelf_end : (t len : ℕ) → t < 64 → len ≤ 128 → t * len + len ≤ 8192
shelf_end t len few short = omega (arith, mul-le (t + 1) len 64 128 (omega arith) short, add-mul t 1 len, one-mul len)

-- symbol s of the row at place t
pub row-symbol : (xs : List ℕ) (t len s : ℕ) → s < len → at (row_on xs t len) s ≡ at xs (t * len + s)
row-symbol xs t len s h = get_or-take len (drop (t * len) xs) s 0 h ∙ get_or-drop (t * len) xs s 0

pub length-row_on : (xs : List ℕ) (t len : ℕ) → t * len + len ≤ length xs → length (row_on xs t len) ≡ len
length-row_on xs t len h = length-take-le len (drop (t * len) xs) (omega (arith, length-drop (t * len) xs))

module _ (p : PlanView) (sound : Sound p) (k : ℕ) (numbers shelf : List ℕ) (long : k ≤ length numbers) (whole : length shelf ≡ 8192) where
  abbrev held_state : State
  held_state = state p.m p.L k numbers shelf

  front : length (take k numbers) ≡ k
  front = length-take-le k numbers long

  stored_row : (t : ℕ) → t < min k p.m → length (row_on shelf t p.L) ≡ p.L
  stored_row t h = length-row_on shelf t p.L (omega (arith, shelf_end t p.L (omega (arith, sound.m_most)) sound.L_most))

  pub reached_of : Held p k numbers shelf → Reached p held_state
  unfolding state
  reached_of held =
      let stored : length held_state.stored ≡ min k p.m = length-map-range_with_len (packet_at p.L numbers shelf) 0 (min k p.m) in
      let at_front : (i : ℕ) → i < k → at (take k numbers) i ≡ at numbers i = λ i h. get_or-take k numbers i 0 h in
      record {
        few = omega arith;
        early = λ h. drop_all p.m (take k numbers) (omega (arith, front));
        good = All-from_get_or (Good p) held_state.stored (packet_at p.L numbers shelf 0) (λ t h.
            let l : t < min k p.m = omega arith in
            subst (Good p) (sym (get_or-map-range_with_len (packet_at p.L numbers shelf) 0 (min k p.m) t t (packet_at p.L numbers shelf 0) l (omega arith)))
            (record {
              inside = held.inside t (omega arith);
              long = stored_row t l;
              elements = All-from_get_or (λ y. y < p.q) (row_on shelf t p.L) 0 (λ s g.
                  let g' : s < p.L = omega (arith, stored_row t l) in
                  rw (row-symbol shelf t p.L s g') (held.symbols (t * p.L + s) (omega (arith, row_within t (min k p.m) p.L l))));
            }));
        inside = subst (AllByRecursion (λ n. n < p.m + p.r)) (sym (numbers-state p.m p.L k numbers shelf long))
            (All-from_get_or (λ n. n < p.m + p.r) (take k numbers) 0 (λ i h. let l : i < k = omega (arith, front) in rw (at_front i l) (held.inside i l)));
        apart = subst Unlike (sym (numbers-state p.m p.L k numbers shelf long))
            (unlike_of (take k numbers) (λ i j h l e.
            let ik : i < k = omega (arith, front) in
            held.apart i j ik l (sym (at_front j (omega arith)) ∙ e ∙ at_front i ik)));
        room = omega (arith, count-state p.m p.L k numbers shelf long, held.room);
      }

  pub held_of : Reached p held_state → Held p k numbers shelf
  unfolding state
  held_of reached =
      let below : AllByRecursion (λ n. n < p.m + p.r) (take k numbers) = subst (AllByRecursion (λ n. n < p.m + p.r)) (numbers-state p.m p.L k numbers shelf long) reached.inside in
      let unlike : Unlike (take k numbers) = subst Unlike (numbers-state p.m p.L k numbers shelf long) reached.apart in
      let at_front : (i : ℕ) → i < k → at (take k numbers) i ≡ at numbers i = λ i h. get_or-take k numbers i 0 h in
      let stored : length held_state.stored ≡ min k p.m = length-map-range_with_len (packet_at p.L numbers shelf) 0 (min k p.m) in
      let good : (t : ℕ) → t < min k p.m → Good p (packet_at p.L numbers shelf t) = λ t h.
      subst (Good p) (get_or-map-range_with_len (packet_at p.L numbers shelf) 0 (min k p.m) t t (packet_at p.L numbers shelf 0) h (omega arith))
      (All-get_or (Good p) held_state.stored t (packet_at p.L numbers shelf 0) (omega arith) reached.good) in
      record {
        room = omega (arith, count-state p.m p.L k numbers shelf long, reached.room);
        inside = λ i h. rw (at_front i h) at (All-get_or (λ n. n < p.m + p.r) (take k numbers) i 0 (omega (arith, front)) below);
        apart = λ i j h l e. of_unlike (take k numbers) unlike i j (omega (arith, front)) l (at_front j (omega arith) ∙ e ∙ sym (at_front i h));
        symbols = λ i h.
            let w : 0 < p.L = sound.L_least in
            let t : i / p.L < min k p.m = div_below i p.L (min k p.m) w h in
            let s : i % p.L < p.L = mod_below i p.L w in
            let is : at (row_on shelf (i / p.L) p.L) (i % p.L) ≡ at shelf i =
            row-symbol shelf (i / p.L) p.L (i % p.L) s ∙ ap (at shelf) (div-add-mod' i p.L) in
            rw is at (All-get_or (λ y. y < p.q) (row_on shelf (i / p.L) p.L) (i % p.L) 0 (omega (arith, stored_row (i / p.L) t)) (good (i / p.L) t).elements);
      }
