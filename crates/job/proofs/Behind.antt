-- The symbols behind a job. Assumes nothing.
use Rattle.std.proofs.Common.{◌≡◌, ◌≢◌, ℕ, ◌+◌, ◌-◌, ◌<◌, ◌≤◌, true, false, List, length, get_or, drop, Some, None, Option, sym, ◌∙◌, ⊎_elim, arith}
use Rattle.std.specs.List.{AllWithin, HoldsAt}
use Rattle.std.specs.Option.{MatchOption, option_map}
use Rattle.std.proofs.lemmas.List.{length-drop, get_or-drop}
use Rattle.std.proofs.lemmas.Bool.{cases_lt, lt-leb, le-leb, ne_eqb, eq-eqb, eqb-true, not_from_true, not_from_false, not-false, and_left, and_right, and_from}
use Rattle.checks.proofs.Lowest.{lowest_none, lowest_found, none_passes}
use Rattle.checks.specs.Checks.{at, lowest}
use Rattle.job.specs.Calls.{remains}

is_zero : (start : ℕ) (message : List ℕ) (i : ℕ) → at message i ≡ 0 → remains start message i ≡ false
is_zero start message i zeros = and_right _ _ (not_from_true _ (eq-eqb (at message i) 0 zeros))

not_zero : (start : ℕ) (message : List ℕ) (i : ℕ) → start ≤ i → (at message i ≡ 0 → ⊥) → remains start message i ≡ true
not_zero start message i behind other = and_from _ _ (le-leb start i behind) (not_from_false _ (ne_eqb (at message i) 0 other))

-- zeros behind start pass
pub none_behind : (start : ℕ) (message : List ℕ) (n : ℕ) → ((i : ℕ) → start ≤ i → i < n → at message i ≡ 0) → lowest (remains start message) n ≡ None
none_behind start message n zeros = lowest_none (remains start message) n (λ i below.
    ⊎_elim (λ (before : i < start). and_left _ _ (lt-leb start i before)) (λ (behind : start ≤ i). is_zero start message i (zeros i behind below)) (cases_lt i start))

-- and nothing else does
pub zero_behind : (start : ℕ) (message : List ℕ) (n i : ℕ) → lowest (remains start message) n ≡ None → start ≤ i → i < n → at message i ≡ 0
zero_behind start message n i none behind below =
    eqb-true (at message i) 0 (not-false _ (rw (le-leb start i behind) at (none_passes (remains start message) n i none below)))

at_behind : (start : ℕ) (message : List ℕ) (i : ℕ) → start ≤ i → get_or (drop start message) (i - start) 0 ≡ 0 → at message i ≡ 0
at_behind start message i behind zero =
    let place : start + (i - start) ≡ i = omega arith in
    rw (get_or-drop, place) at zero

-- what a search from start on finds is the first that is left there
pub first_behind : (start : ℕ) (message : List ℕ) (r : Option ℕ) → start ≤ length message
    → MatchOption r (AllWithin (λ x. x ≡ 0) (drop start message) 0 (length (drop start message)))
    (λ i. (i < length (drop start message)) × HoldsAt (λ x. x ≢ 0) (drop start message) i × AllWithin (λ x. x ≡ 0) (drop start message) 0 i)
    → option_map (λ place. start + place) r ≡ lowest (remains start message) (length message)
first_behind start message None within all = sym (none_behind start message (length message) (λ i behind below.
    at_behind start message i behind (all (i - start) 0 (omega arith) (omega (arith, length-drop start message)))))
first_behind start message (Some k) within found =
    let before = none_behind start message (start + k) (λ i behind below. at_behind start message i behind (found.2 (i - start) 0 (omega arith) (omega arith))) in
    sym (lowest_found (remains start message) (start + k) (length message) before
    (not_zero start message (start + k) (omega arith) (λ zero. found.1 0 (get_or-drop start message k 0 ∙ zero))) (omega (arith, found.0, length-drop start message)))
