-- An accepted packet leads to a state that is reached. Assumes nothing.
use Rattle.std.proofs.Common.{◌≡◌, ℕ, ◌+◌, ◌<◌, ◌≤◌, Bool, true, false, List, [], ◌∷◌, ◌++◌, None, sym, refl, ap, ◌∙◌, subst, inl, inr, arith}
use Rattle.std.specs.List.{AllByRecursion}
use Rattle.std.proofs.ByRecursion.{All-push, All-append, All-map}
use Rattle.std.proofs.lemmas.List.{length_push, length-append, length-map, append_assoc, append-nil, map_push}
use Rattle.std.proofs.lemmas.Bool.{leb-true, leb-false, or_parts}
use Rattle.code.specs.Plans.{PlanView}
use Rattle.code.specs.Rows.{Packet}
use Rattle.code.specs.Settles.{Good}
use Rattle.code.proofs.Settling.{numbers}
use Rattle.field.specs.Field.{Ops}
use Rattle.receiver.specs.Machine.{State, count, settled, keeping, has, heard, known, against}
use Rattle.receiver.specs.States.{numbers_of, Unlike, Reached}
use Rattle.receiver.proofs.Known.{known_none, known-long, against_none}
use Rattle.receiver.proofs.Finding.{none_has}
use Rattle.receiver.proofs.Unlike.{at_most, unlike_push}

module _ (p : PlanView) (s : State) (reached : Reached p s) where
  both : (P : ℕ → Type 0) → AllByRecursion P (numbers s.stored) → AllByRecursion P s.later → AllByRecursion P (numbers_of s)
  both P = All-append P (numbers s.stored) s.later

  -- a packet that the last check passes is new
  pub not_heard : (o : Ops) (M : List ℕ) (k : Packet) → Good p k → against (heard s k.number) k (known o p M s k.number) ≡ None
      → AllByRecursion (λ y. ¬ (y ≡ k.number)) (numbers_of s)
  not_heard o M k good e =
      let n = k.number in
      elim (against_none _ k _ (λ y e. known-long o p M s n reached.good y e ∙ sym good.long) e) [
        | inl none ↦ (
            let (new, less) = known_none o p M s n none in
            let stored = All-map (λ y. ¬ (y ≡ n)) (λ k. k.number) s.stored new in
            both (λ y. ¬ (y ≡ n)) stored (subst (AllByRecursion (λ y. ¬ (y ≡ n))) (sym (reached.early (leb-false _ _ less))) tt)
            )
        | inr same ↦ (
            let r = or_parts (has n (numbers s.stored)) (has n s.later) same.1 in
            both (λ y. ¬ (y ≡ n)) (none_has n (numbers s.stored) r.0) (none_has n s.later r.1)
            )
      ]

  more : (t : State) (n : ℕ) → n < p.m + p.r → AllByRecursion (λ y. ¬ (y ≡ n)) (numbers_of s) → numbers_of t ≡ numbers_of s ++ n ∷ []
      → AllByRecursion (λ n. n < p.m + p.r) (numbers_of t) × Unlike (numbers_of t) × (count t ≤ p.m + p.r)
  more t n inside new is =
      let below = subst (AllByRecursion (λ n. n < p.m + p.r)) (sym is) (All-push _ (numbers_of s) n reached.inside inside) in
      let apart = subst Unlike (sym is) (unlike_push (numbers_of s) n reached.apart new) in
      let few = at_most (p.m + p.r) (numbers_of t) below apart in
      (below, apart, omega (arith, few, length-append (numbers t.stored) t.later, length-map t.stored (λ k. k.number)))

  pub keeps : (k : Packet) → Good p k → AllByRecursion (λ y. ¬ (y ≡ k.number)) (numbers_of s) → Reached p (keeping p s k)
  keeps k good new = go (settled p s) refl
    where
      -- a later number stands behind all numbers; so does the next stored one, since there are none later
      later : numbers s.stored ++ (s.later ++ k.number ∷ []) ≡ numbers_of s ++ k.number ∷ []
      later = sym (append_assoc (numbers s.stored) s.later (k.number ∷ []))

      next : s.later ≡ [] → numbers (s.stored ++ k ∷ []) ++ s.later ≡ numbers_of s ++ k.number ∷ []
      next none =
          let all : numbers_of s ≡ numbers s.stored = ap (λ xs. numbers s.stored ++ xs) none ∙ append-nil _ in
          ap (λ xs. numbers (s.stored ++ k ∷ []) ++ xs) none ∙ append-nil _ ∙ map_push (λ k. k.number) s.stored k
          ∙ sym (ap (λ xs. xs ++ k.number ∷ []) all)

      go : (b : Bool) → settled p s ≡ b → Reached p (keeping p s k)
      go true full = rw full (
          let t : State = record { stored = s.stored; later = s.later ++ k.number ∷ [] } in
          let (below, apart, room) = more t k.number good.inside new later in
          record {
            few = reached.few;
            early = λ h. absurd (omega (arith, leb-true _ _ full));
            good = reached.good;
            inside = below;
            apart = apart;
            room = room;
          })
      go false less = rw less (
          let none : s.later ≡ [] = reached.early (leb-false _ _ less) in
          let t : State = record { stored = s.stored ++ k ∷ []; later = s.later } in
          let (below, apart, room) = more t k.number good.inside new (next none) in
          record {
            few = omega (arith, length_push s.stored k, leb-false _ _ less);
            early = λ h. none;
            good = All-push (Good p) s.stored k reached.good good;
            inside = below;
            apart = apart;
            room = room;
          })
