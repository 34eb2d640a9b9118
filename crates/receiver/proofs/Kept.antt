-- Keeping a packet, by the fields of a receiver. Assumes nothing.
use Rattle.std.proofs.Common.{◌≡◌, ℕ, ◌+◌, ◌*◌, ◌<◌, ◌≤◌, true, false, leb, List, length, take, set, sym, ap, ◌∙◌, subst, arith}
use Rattle.std.proofs.lemmas.List.{length-set}
use Rattle.std.proofs.lemmas.Bool.{leb-true, leb-false}
use Rattle.code.specs.Plans.{PlanView, Sound}
use Rattle.code.proofs.Views.{sound_of}
use Rattle.receiver.specs.Receivers.{state, plan_of, state_of, kept}
use Rattle.receiver.specs.Shelves.{shelved, row_on, with_row}
use Rattle.receiver.specs.States.{Reached}
use Rattle.receiver.specs.declared.receiver.Receiver.{Receiver}
use Rattle.receiver.proofs.Fields.{count_fields}
use Rattle.receiver.proofs.Reaches.{Held, held_of, shelf_end}
use Rattle.receiver.proofs.Stored.{keep_room, kept_late, kept-early, row_below, row_here, length-with_row}

-- the number n comes to the receiver r with its row
module _ (r : Receiver) (n : ℕ) (row : List ℕ) (reached : Reached (plan_of r) (kept r n row)) where
  abbrev p : PlanView
  p = plan_of r

  sound : Sound p
  sound = sound_of r.plan

  abbrev numbers : List ℕ
  numbers = set r.numbers r.count n

  -- what holds then of the fields, where the shelf is xs
  pub record Kept (xs : List ℕ) : Type 0 where
    pub leaves : state p.m p.L (r.count + 1) numbers xs ≡ kept r n row
    pub held : Held p (r.count + 1) numbers xs
    pub whole : length xs ≡ 8192

  pub fewer : r.count < 128
  fewer = keep_room p sound (state_of r) _ r.count (count_fields r) reached

  from_state : (xs : List ℕ) → length xs ≡ 8192 → state p.m p.L (r.count + 1) numbers xs ≡ kept r n row → Kept xs
  from_state xs whole is =
      let few : r.count + 1 ≤ length numbers = omega (arith, fewer, r.places, length-set r.numbers r.count n) in
      record {
        leaves = is;
        held = held_of p sound (r.count + 1) numbers xs few whole (subst (Reached p) (sym is) reached);
        whole = whole;
      }

  -- m are stored
  pub late : true ≡ leb p.m r.count → Kept (shelved r.shelf)
  late full =
      from_state (shelved r.shelf) r.whole
      (kept_late p r.count r.numbers (shelved r.shelf) n row (omega (arith, fewer, r.places)) (leb-true p.m r.count (sym full)))

  -- fewer are
  module _ (less : false ≡ leb p.m r.count) (fits : length row ≡ p.L) where
    pub on_shelf : r.count * length row + length row ≤ 8192
    on_shelf = rw fits (shelf_end r.count p.L (omega (arith, leb-false p.m r.count (sym less), sound.m_most)) sound.L_most)

    pub early : (xs : List ℕ) → xs ≡ with_row (shelved r.shelf) r.count row → Kept xs
    early xs put =
        let shelf = shelved r.shelf in
        let room : r.count * p.L + p.L ≤ length shelf = omega (arith, rw fits at on_shelf, r.whole) in
        from_state xs (ap length put ∙ length-with_row r.count p.L shelf row fits room ∙ r.whole)
        (kept-early p r.count r.numbers shelf n row (omega (arith, fewer, r.places)) (leb-false p.m r.count (sym less)) xs
        (ap (take (r.count * p.L)) put ∙ row_below r.count p.L shelf row fits room)
        (ap (λ zs. row_on zs r.count p.L) put ∙ row_here r.count p.L shelf row fits room))
