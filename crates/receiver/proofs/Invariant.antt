-- What every call keeps: the state has the accepted packets, and they are some message's. Assumes nothing.
use Rattle.std.proofs.Common.{◌≡◌, ℕ, ◌<◌, ◌≤◌, Bool, true, false, ◌⊎◌, List, [], ◌∷◌, ◌++◌, length, Some, None, sym, refl, ap, ◌∙◌, subst, inl, inr, arith}
use Rattle.std.specs.List.{AllByRecursion}
use Rattle.std.proofs.ByRecursion.{All-push, All-append}
use Rattle.std.proofs.lemmas.List.{append-nil, append_assoc, length_push, map_push}
use Rattle.std.proofs.lemmas.Bool.{both_ways, cases_Bool, leb-true, leb-false, or_parts, or_from}
use Rattle.code.specs.Plans.{PlanView, Sound}
use Rattle.code.specs.Rows.{Packet, row, Fits, Explains}
use Rattle.code.specs.Settles.{Good, New, Different}
use Rattle.code.proofs.Settling.{numbers, different_push, zeros, zeros_message, one_message, some_message}
use Rattle.field.specs.Field.{Ops, Lawful}
use Rattle.receiver.specs.Machine.{State, opened, settled, keeping, has, heard, known, against}
use Rattle.receiver.proofs.Finding.{not_has, has_not, all-front, all_back}
use Rattle.receiver.proofs.Known.{known_none, known_right, known-long, against_none}

-- the packets ks are the stored ones and a rest whose numbers are the later ones; over a field of the plan's size
-- a message that fits m stored packets fits all of them
pub record Inv (o : Ops) (p : PlanView) (s : State) (ks : List Packet) : Type 0 where
  pub rest : List Packet
  pub whole : ks ≡ s.stored ++ rest
  pub later : numbers rest ≡ s.later
  pub few : length s.stored ≤ p.m
  pub early : length s.stored < p.m → rest ≡ []
  pub good : AllByRecursion (Good p) ks
  pub apart : Different ks
  pub sized : (ks ≡ []) ⊎ (o.size ≡ p.q)
  pub one : p.m ≤ length s.stored → (M : List ℕ) → Explains o p M s.stored → Explains o p M ks

pub starts : (o : Ops) (p : PlanView) → Inv o p opened []
starts o p = record {
  rest = [];
  whole = refl;
  later = refl;
  few = omega arith;
  early = λ h. refl;
  good = tt;
  apart = tt;
  sized = inl refl;
  one = λ h M e. e;
}

apart-front : (xs ys : List Packet) → Different (xs ++ ys) → Different xs
apart-front [] ys a = tt
apart-front (x ∷ xs) ys a = (all-front _ xs ys a.0, apart-front xs ys a.1)

module _ (o : Ops) (lawful : Lawful o) (p : PlanView) (sound : Sound p) (s : State) (ks : List Packet) (inv : Inv o p s ks) where
  good-stored : AllByRecursion (Good p) s.stored
  good-stored = all-front (Good p) s.stored inv.rest (rw inv.whole at inv.good)

  apart-stored : Different s.stored
  apart-stored = apart-front s.stored inv.rest (rw inv.whole at inv.apart)

  pub all-stored : settled p s ≡ false → ks ≡ s.stored
  all-stored e = inv.whole ∙ ap (λ r. s.stored ++ r) (inv.early (leb-false _ _ e)) ∙ append-nil s.stored

  -- two messages that fit what is stored are equal, once m are
  pub stored_one : o.size ≡ p.q → settled p s ≡ true → (M N : List ℕ) → Explains o p M s.stored → Explains o p N s.stored → M ≡ N
  stored_one size full =
      let many : length s.stored ≡ p.m = omega (arith, inv.few, leb-true _ _ full) in
      one_message o lawful p sound size s.stored many good-stored apart-stored

  pub explains_stored : (M : List ℕ) → Explains o p M ks → Explains o p M s.stored
  explains_stored M e = record { message = e.message; fits = all-front (Fits o p M) s.stored inv.rest (rw inv.whole at e.fits) }

  explains_all : (M : List ℕ) → settled p s ≡ false → Explains o p M s.stored → Explains o p M ks
  explains_all M less e = subst (λ xs. Explains o p M xs) (sym (all-stored less)) e

  -- some message fits all that is accepted
  pub consistent : (M : List ℕ) × Explains o p M ks
  consistent = elim inv.sized [
    | inl e ↦ (zeros p, record { message = zeros_message p sound; fits = rw e tt })
    | inr size ↦ (
        let (M, e) = some_message o lawful p sound size s.stored inv.few good-stored apart-stored in
        elim (cases_Bool (settled p s)) [
          | inl full ↦ (M, inv.one (leb-true _ _ full) M e)
          | inr less ↦ (M, explains_all M less e)
        ]
        )
  ]

  -- a number is accepted exactly if a packet of it is
  pub unheard_new : (n : ℕ) → heard s n ≡ false → New n ks
  unheard_new n e =
      let r = or_parts (has n (numbers s.stored)) (has n s.later) e in
      rw inv.whole (All-append (λ k. ¬ (k.number ≡ n)) s.stored inv.rest (has_not n s.stored r.0)
      (has_not n inv.rest (rw inv.later r.1)))

  pub new_unheard : (n : ℕ) → New n ks → heard s n ≡ false
  new_unheard n e =
      let h = rw inv.whole at e in
      or_from (has n (numbers s.stored)) (has n s.later) (not_has n s.stored (all-front _ s.stored inv.rest h))
      (rw (← inv.later) (not_has n inv.rest (all_back _ s.stored inv.rest h)))

  -- a packet that the last check passes: its row is not known, or it is the known one and the number is not accepted
  module _ (M : List ℕ) (k : Packet) (good : Good p k) (passes : against (heard s k.number) k (known o p M s k.number) ≡ None) where
    pub unknown_or_same : (known o p M s k.number ≡ None) ⊎ ((known o p M s k.number ≡ Some k.row) × (heard s k.number ≡ false))
    unknown_or_same =
        against_none _ k _ (λ y e. known-long o p M s k.number good-stored y e ∙ sym good.long) passes

    -- it is new
    pub accepted_new : New k.number ks
    accepted_new = elim unknown_or_same [
      | inl none ↦ (let r = known_none o p M s k.number none in rw (all-stored r.1) r.0)
      | inr same ↦ unheard_new k.number same.1
    ]

    -- it is every fitting message's, once m are stored
    pub accepted-fits : o.size ≡ p.q → (settled p s ≡ true → Explains o p M s.stored) → settled p s ≡ true
        → (N : List ℕ) → Explains o p N s.stored → row o p N k.number ≡ k.row
    accepted-fits size message full N x = elim unknown_or_same [
      | inl none ↦ absurd (both_ways _ (known_none o p M s k.number none).1 full)
      | inr same ↦ known_right o p M s k.number k.row same.0 N x (λ f. stored_one size f M N (message f) x)
    ]

    pub kept : o.size ≡ p.q → (settled p s ≡ true → Explains o p M s.stored) → Inv o p (keeping p s k) (ks ++ k ∷ [])
    kept size message = go (settled p s) refl
      where
        go : (b : Bool) → settled p s ≡ b → Inv o p (keeping p s k) (ks ++ k ∷ [])
        go true full = rw full (record {
          rest = inv.rest ++ k ∷ [];
          whole = ap (λ xs. xs ++ k ∷ []) inv.whole ∙ append_assoc s.stored inv.rest (k ∷ []);
          later = map_push (λ k. k.number) inv.rest k ∙ ap (λ xs. xs ++ k.number ∷ []) inv.later;
          few = inv.few;
          early = λ h. absurd (omega (arith, leb-true _ _ full));
          good = All-push (Good p) ks k inv.good good;
          apart = different_push ks k inv.apart accepted_new;
          sized = inr size;
          one = λ h N x. record {
            message = x.message;
            fits = All-push (Fits o p N) ks k (inv.one h N x).fits (accepted-fits size message full N x);
          };
        })
        go false less = rw less (
            let now : ks ++ k ∷ [] ≡ s.stored ++ k ∷ [] = ap (λ xs. xs ++ k ∷ []) (all-stored less) in
            record {
              rest = [];
              whole = now ∙ sym (append-nil (s.stored ++ k ∷ []));
              later = ap numbers (sym (inv.early (leb-false _ _ less))) ∙ inv.later;
              few = omega (arith, length_push s.stored k, leb-false _ _ less);
              early = λ h. refl;
              good = All-push (Good p) ks k inv.good good;
              apart = different_push ks k inv.apart accepted_new;
              sized = inr size;
              one = λ h N x. rw now x;
            })
