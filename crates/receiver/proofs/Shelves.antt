-- What the parts of a receiver say of the state that it holds. Assumes nothing.
use Rattle.std.proofs.Common.{◌≡◌, ◌==◌, ℕ, ◌≤◌, min, List, ◌++◌, map, length, take, drop, sym, ap, ◌∙◌, ap₂, inl, inr, arith}
use lib.Seq.{drop-nil}
use Rattle.std.specs.List.{range_with_len}
use Rattle.std.proofs.lemmas.List.FromFn.{fill_by_all, length-map-range_with_len}
use Rattle.std.proofs.lemmas.Simd.{map-map}
use Rattle.std.proofs.lemmas.Bool.{cases_lt}
use Rattle.std.proofs.lemmas.List.Folds.{list_any-append}
use Rattle.std.proofs.lemmas.List.{get_or-take, length-take, length-drop, take-take, take-append-drop, drop_all, append-nil}
use Rattle.checks.specs.Checks.{at}
use Rattle.receiver.specs.Machine.{opened, count, heard, has}
use Rattle.receiver.specs.Receivers.{packet_at, state}
use Rattle.receiver.specs.States.{numbers_of}

module _ (m len k : ℕ) (numbers shelf : List ℕ) (room : k ≤ length numbers) where
  stored-numbers : map (λ p. p.number) (map (packet_at len numbers shelf) (range_with_len 0 (min k m))) ≡ take (min k m) numbers
  stored-numbers =
      map-map (λ p. p.number) (packet_at len numbers shelf) (range_with_len 0 (min k m))
      ∙ sym (fill_by_all (at numbers) (take (min k m) numbers) (min k m) 0 (length-take (min k m) numbers ∙ omega arith) (λ i h. get_or-take (min k m) numbers i 0 h))

  -- the accepted numbers are the first k
  pub numbers-state : numbers_of (state m len k numbers shelf) ≡ take k numbers
  unfolding state
  numbers-state =
      ap (λ xs. xs ++ drop m (take k numbers)) stored-numbers ∙ elim (cases_lt k m) [
        | inl l ↦ (
            let short : min k m ≡ k = omega arith in
            ap₂ (λ i xs. take i numbers ++ xs) short (drop_all m (take k numbers) (omega (arith, length-take k numbers))) ∙ append-nil (take k numbers)
            )
        | inr l ↦ (
            let all : min k m ≡ m = omega arith in
            ap (λ xs. xs ++ drop m (take k numbers)) (ap (λ i. take i numbers) all ∙ sym (take-take m k numbers l)) ∙ take-append-drop m (take k numbers)
            )
      ]

  pub heard-state : (n : ℕ) → heard (state m len k numbers shelf) n ≡ has n (take k numbers)
  unfolding state
  heard-state n =
      sym (list_any-append (λ x. x == n) (map (λ p. p.number) (state m len k numbers shelf).stored) (state m len k numbers shelf).later) ∙ ap (has n) numbers-state

  pub count-state : count (state m len k numbers shelf) ≡ k
  unfolding state
  count-state =
      omega (arith, length-map-range_with_len (packet_at len numbers shelf) 0 (min k m), length-drop m (take k numbers), length-take k numbers)

-- nothing is accepted at first
pub state_none : (m len : ℕ) (numbers shelf : List ℕ) → state m len 0 numbers shelf ≡ opened
unfolding state
state_none m len numbers shelf =
    let none : min 0 m ≡ 0 = omega arith in
    ap₂ (λ i xs. record { stored = map (packet_at len numbers shelf) (range_with_len 0 i); later = xs }) none (drop-nil m)
