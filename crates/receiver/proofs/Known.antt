-- What is known of a number's row, and what the last check of an offer says. Assumes nothing.
use Rattle.std.proofs.Common.{◌≡◌, ℕ, min, Bool, true, false, cond, ◌⊎◌, List, length, Some, None, Option, Result, sym, refl, ap, ◌∙◌, inl, inr, arith}
use Rattle.std.specs.List.{AllByRecursion}
use Rattle.std.specs.Option.{option_or}
use Rattle.std.proofs.ByRecursion.{All-weaker}
use Rattle.std.proofs.lemmas.Bool.{both_ways}
use Rattle.checks.specs.Checks.{answered, lowest, differs}
use Rattle.checks.proofs.Lowest.{same_rows, no_difference}
use Rattle.code.specs.Plans.{PlanView}
use Rattle.code.specs.Rows.{Packet, row, Explains}
use Rattle.code.specs.Settles.{Good, New}
use Rattle.code.proofs.Rows.{length-row}
use Rattle.field.specs.Field.{Ops}
use Rattle.receiver.specs.Examining.{Knows, Judges}
use Rattle.receiver.specs.Machine.{State, settled, heard, find, known, judged, against}
use Rattle.receiver.specs.declared.fault.ReceiverFault.{ReceiverFault}
use Rattle.receiver.specs.declared.fault.ReceiverFault.TheVariants.{Contradicts}
use Rattle.receiver.proofs.Finding.{new_find, found}

module _ (o : Ops) (p : PlanView) (M : List ℕ) (s : State) (n : ℕ) where
  pub known_none : known o p M s n ≡ None → New n s.stored × (settled p s ≡ false)
  unfolding known
  known_none = go (find n s.stored) refl (settled p s) refl
    where
      go : (x : Option (List ℕ)) → find n s.stored ≡ x → (b : Bool) → settled p s ≡ b
          → option_or x (cond b (Some (row o p M n)) None) ≡ None → New n s.stored × (settled p s ≡ false)
      go (Some y) f b e h = absurd cc
      go None f true e h = absurd cc
      go None f false e h = (new_find n s.stored f, e)

  pub known_some : (y : List ℕ) → known o p M s n ≡ Some y
      → (find n s.stored ≡ Some y) ⊎ (New n s.stored × (settled p s ≡ true) × (row o p M n ≡ y))
  unfolding known
  known_some y = go (find n s.stored) refl (settled p s) refl
    where
      go : (x : Option (List ℕ)) → find n s.stored ≡ x → (b : Bool) → settled p s ≡ b
          → option_or x (cond b (Some (row o p M n)) None) ≡ Some y
          → (find n s.stored ≡ Some y) ⊎ (New n s.stored × (settled p s ≡ true) × (row o p M n ≡ y))
      go (Some x) f b e h = inl (f ∙ h)
      go None f true e h = inr (new_find n s.stored f, e, cc)
      go None f false e h = absurd cc

  -- a known row is that of every message that fits what is stored, if that is the message
  pub known_right : (y : List ℕ) → known o p M s n ≡ Some y
      → (N : List ℕ) → Explains o p N s.stored → (settled p s ≡ true → M ≡ N) → row o p N n ≡ y
  known_right y e N g same = elim (known_some y e) [
    | inl f ↦ found (λ n y. row o p N n ≡ y) n s.stored y f g.fits
    | inr r ↦ ap (λ M. row o p M n) (sym (same r.1)) ∙ r.2
  ]

  -- once m are stored every row is known
  pub known_is : settled p s ≡ true → (N : List ℕ) → Explains o p N s.stored → M ≡ N → known o p M s n ≡ Some (row o p N n)
  known_is full N g same = go (known o p M s n) refl
    where
      go : (x : Option (List ℕ)) → known o p M s n ≡ x → x ≡ Some (row o p N n)
      go None e = absurd (both_ways _ (known_none e).1 full)
      go (Some y) e = ap Some (sym (known_right y e N g (λ f. same)))

  -- a known row has L symbols
  pub known-long : AllByRecursion (Good p) s.stored → (y : List ℕ) → known o p M s n ≡ Some y → length y ≡ p.L
  known-long good y e = elim (known_some y e) [
    | inl f ↦ (
        let long = All-weaker (Good p) (λ k. length k.row ≡ p.L) (λ k g. g.long) s.stored good in
        found (λ n y. length y ≡ p.L) n s.stored y f long
        )
    | inr r ↦ ap length (sym r.2) ∙ length-row o p M n
  ]

-- the last check finds nothing: the row is not known, or it is the known one and the number is not accepted
pub against_none : (b : Bool) (k : Packet) (x : Option (List ℕ)) → ((y : List ℕ) → x ≡ Some y → length y ≡ length k.row)
    → against b k x ≡ None → (x ≡ None) ⊎ ((x ≡ Some k.row) × (b ≡ false))
against_none b k None long e = inl refl
against_none b k (Some y) long e = go b (lowest (differs y k.row) (length k.row)) refl e
  where
    go : (b : Bool) (d : Option ℕ) → lowest (differs y k.row) (length k.row) ≡ d → judged b k.number d ≡ None
        → (◌≡◌ {A = Option (List ℕ)} (Some y) None) ⊎ ((Some y ≡ Some k.row) × (b ≡ false))
    go true (Some i) f h = absurd cc
    go false (Some i) f h = absurd cc
    go true None f h = absurd cc
    go false None f h = inr (ap Some (same_rows y k.row (length k.row) (long y refl) refl f), refl)

-- the same row does not contradict
pub against_same : (b : Bool) (k : Packet) → against b k (Some k.row) ≡ judged b k.number None
against_same b k = ap (judged b k.number) (no_difference k.row (length k.row))

pub judged_none : (b : Bool) (n place : ℕ) → judged b n None ≡ Some (Contradicts place) → ⊥
judged_none true n place e = cc
judged_none false n place e = cc

-- what the last check finds of the packet k where its row is known to be y
pub judges_known : (o : Ops) (p : PlanView) (s : State) (k : Packet) (y : List ℕ) → Knows o p s k.number (Some y) → length y ≡ length k.row
    → (r : Result (Unit {0}) ReceiverFault) → r ≡ answered (judged (heard s k.number) k.number (lowest (differs y k.row) (min (length y) (length k.row)))) tt
    → Judges o p s k r
judges_known o p s k y knows long r is M fits =
    let all : min (length y) (length k.row) ≡ length k.row = omega arith in
    is ∙ rw (knows M fits, all)
