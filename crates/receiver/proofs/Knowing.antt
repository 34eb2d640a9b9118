-- What a receiver knows of a row, by its fields. Assumes nothing.
use Rattle.std.proofs.Common.{◌≡◌, ℕ, zero, suc, ◌*◌, ◌<◌, ◌≤◌, min, true, false, List, [], ◌∷◌, map, length, get_or, take, Some, None, Option, sym, refl, ap, ◌∙◌, arith}
use Rattle.std.specs.List.{range_with_len}
use Rattle.std.specs.Option.{option_or}
use Rattle.std.proofs.lemmas.Nat.{mul-le}
use Rattle.std.proofs.lemmas.List.FromFn.{length-map-range_with_len, get_or-map-range_with_len}
use Rattle.std.proofs.lemmas.List.{get_or-take, length-take-le, take-take}
use Rattle.std.proofs.lemmas.Bool.{eq-eqb, ne_eqb, leb-true, leb-false}
use Rattle.checks.specs.Checks.{at}
use Rattle.code.specs.Plans.{PlanView}
use Rattle.code.specs.Rows.{Packet}
use Rattle.field.specs.Field.{Ops}
use Rattle.receiver.specs.Examining.{Knows}
use Rattle.receiver.specs.Machine.{State, settled, find, known}
use Rattle.receiver.specs.Receivers.{packet_at, state, plan_of, state_of}
use Rattle.receiver.specs.Shelves.{shelved, row_on}
use Rattle.receiver.specs.Solves.{packets, Given, Lacks, First, RowOf}
use Rattle.receiver.specs.declared.receiver.Receiver.{Receiver}
use Rattle.receiver.proofs.Fields.{few, settled_fields}
use Rattle.receiver.proofs.Known.{known_is}
use Rattle.receiver.proofs.Stored.{same_map, packet_is, row_same}

-- the first packet with the number is found
find_first : (d : Packet) (ks : List Packet) (n t : ℕ) → t < length ks → (get_or ks t d).number ≡ n
    → ((i : ℕ) → i < t → ¬ ((get_or ks i d).number ≡ n)) → find n ks ≡ Some (get_or ks t d).row
find_first d [] n t h is before = absurd (omega arith)
find_first d (k ∷ ks) n zero h is before = rw (eq-eqb k.number n is)
find_first d (k ∷ ks) n (suc t) h is before =
    rw (ne_eqb k.number n (before 0 (omega arith))) (find_first d ks n t (omega arith) is (λ i l. before (suc i) (omega arith)))

find_none : (d : Packet) (ks : List Packet) (n : ℕ) → ((i : ℕ) → i < length ks → ¬ ((get_or ks i d).number ≡ n)) → find n ks ≡ None
find_none d [] n none = refl
find_none d (k ∷ ks) n none =
    rw (ne_eqb k.number n (none 0 (omega arith))) (find_none d ks n (λ i l. none (suc i) (omega arith)))

module _ (o : Ops) (p : PlanView) (s : State) (n : ℕ) where
  -- once m are accepted, what is solved is known
  pub knows_solved : settled p s ≡ true → (out : List ℕ) → RowOf o p s.stored n out → Knows o p s n (Some out)
  knows_solved full out is M fits = known_is o p M s n full M (fits full) refl ∙ ap Some (sym (is M (fits full)))

  -- before, what is found
  knows_found : settled p s ≡ false → (x : Option (List ℕ)) → find n s.stored ≡ x → Knows o p s n x
  unfolding known
  knows_found less x e M fits = rw (e, less) (go x)
    where
      go : (x : Option (List ℕ)) → option_or x None ≡ x
      go None = refl
      go (Some y) = refl

module _ (r : Receiver) where
  abbrev p : PlanView
  p = plan_of r

  abbrev shelf : List ℕ
  shelf = shelved r.shelf

  abbrev k : ℕ
  k = r.count

  -- m are accepted: the first m numbers, and the front of the shelf
  module _ (full : settled p (state_of r) ≡ true) where
    many : p.m ≤ k
    many = leb-true p.m k (sym (settled_fields r) ∙ full)

    fit : p.m * p.L ≤ length shelf
    fit = omega (arith, mul-le p.m p.L 64 128 r.plan.few_data r.plan.few_symbols, r.whole)

    pub given_of : Given p (take p.m r.numbers) (take (p.m * p.L) shelf)
    given_of = record {
      numbered = record {
        many = length-take-le p.m r.numbers (omega (arith, many, few r));
        inside = λ i h. rw (get_or-take p.m r.numbers i 0 h) (r.inside i (omega (arith, many)));
      };
      apart = λ i j h l e. r.apart i j (omega (arith, many)) l (sym (get_or-take p.m r.numbers j 0 (omega arith)) ∙ e ∙ get_or-take p.m r.numbers i 0 h);
      whole = length-take-le (p.m * p.L) shelf fit;
      symbols = λ i h.
          let all : min k p.m ≡ p.m = omega (arith, many) in
          rw (get_or-take (p.m * p.L) shelf i 0 h) (r.symbols i (rw all h));
    }

    pub packets_stored : packets p (take p.m r.numbers) (take (p.m * p.L) shelf) ≡ (state_of r).stored
    unfolding state
    packets_stored =
        let all : min k p.m ≡ p.m = omega (arith, many) in
        same_map (packet_at p.L r.numbers shelf) _ p.m (λ t h. packet_is _ _ _ _ (get_or-take p.m r.numbers t 0 h)
        (row_same p.m p.L t h (take (p.m * p.L) shelf) shelf (take-take (p.m * p.L) (p.m * p.L) shelf (omega arith))))
        ∙ ap (λ c. map (packet_at p.L r.numbers shelf) (range_with_len 0 c)) (sym all)

  -- fewer are accepted: what is stored is known, and nothing else
  module _ (less : settled p (state_of r) ≡ false) (o : Ops) (n : ℕ) where
    all-stored : min k p.m ≡ k
    all-stored = omega (arith, leb-false p.m k (sym (settled_fields r) ∙ less))

    packet_0 : Packet
    packet_0 = packet_at p.L r.numbers shelf 0

    at_stored : (t : ℕ) → t < k → get_or (state_of r).stored t packet_0 ≡ packet_at p.L r.numbers shelf t
    unfolding state
    at_stored t h = get_or-map-range_with_len (packet_at p.L r.numbers shelf) 0 (min k p.m) t t packet_0 (omega (arith, all-stored)) (omega arith)

    length-stored : length (state_of r).stored ≡ k
    unfolding state
    length-stored = length-map-range_with_len (packet_at p.L r.numbers shelf) 0 (min k p.m) ∙ all-stored

    number-stored : (t : ℕ) → t < k → (get_or (state_of r).stored t packet_0).number ≡ at (take k r.numbers) t
    number-stored t h = ap (λ x. x.number) (at_stored t h) ∙ sym (get_or-take k r.numbers t 0 h)

    length_front : length (take k r.numbers) ≡ k
    length_front = length-take-le k r.numbers (few r)

    module _ (t : ℕ) (has : First (take k r.numbers) n t) where
      pub knows_stored : Knows o p (state_of r) n (Some (row_on shelf t p.L))
      knows_stored =
          let l : t < k = omega (arith, has.within, length_front) in
          knows_found o p (state_of r) n less _ (find_first packet_0 (state_of r).stored n t (omega (arith, length-stored)) (number-stored t l ∙ has.there)
          (λ i h e. has.before i h (sym (number-stored i (omega arith)) ∙ e))
          ∙ ap Some (ap (λ x. x.row) (at_stored t l)))

    pub knows_none : Lacks (take k r.numbers) n → Knows o p (state_of r) n None
    knows_none lacks =
        knows_found o p (state_of r) n less None (find_none packet_0 (state_of r).stored n (λ i h e.
        let l : i < k = omega (arith, length-stored) in
        lacks i (omega (arith, length_front)) (sym (number-stored i l) ∙ e)))
