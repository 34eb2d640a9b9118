-- What is read of an input that passes its checks. Assumes nothing.
use Rattle.std.proofs.Common.{◌≡◌, ℕ, ◌-◌, ◌≤◌, List, length, take, drop, None, Ok, sym, ap, ◌∙◌}
use Rattle.std.proofs.lemmas.List.{take_rest}
use Rattle.std.proofs.lemmas.Bool.{le-leb}
use Rattle.checks.specs.Checks.{at, answered}
use Rattle.checks.proofs.Order.{skip, last, unless_true, answered_ok}
use Rattle.cutting.specs.Requests.{RequestView, requested, chosen, field_check, input_checked}
use Rattle.cutting.specs.declared.request.FieldChoice.{FieldChoice}

pub request_read : (bs : List ℕ) (choice : FieldChoice) (m r L : ℕ) → 4 ≤ length bs → Ok choice ≡ answered (field_check (at bs 0)) (chosen (at bs 0))
    → m ≡ at bs 1 → r ≡ at bs 2 → L ≡ at bs 3
    → Ok (record { choice = choice; m = m; r = r; L = L; job = take (length bs - 4) (drop 4 bs) }) ≡ answered (input_checked bs) (requested bs)
request_read bs choice m r L long field em er eL =
    let parts = answered_ok (field_check (at bs 0)) choice (chosen (at bs 0)) field in
    let none : input_checked bs ≡ None = skip _ _ (unless_true _ _ (le-leb 4 (length bs) long)) ∙ last _ ∙ parts.0 in
    let v : ◌≡◌ {A = RequestView} (record { choice = choice; m = m; r = r; L = L; job = take (length bs - 4) (drop 4 bs) }) (requested bs) =
    rw (parts.1, em, er, eL, take_rest) in
    ap Ok v ∙ sym (ap (λ o. answered o (requested bs)) none)
