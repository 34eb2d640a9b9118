-- Whether bytes begin with a packet, from what opening them answers. Assumes nothing.
use Rattle.std.proofs.Common.{◌≡◌, ℕ, ◌≤◌, not, ◌&&◌, List, length, take, is_some, is_ok, Some, None, Ok, Err, Option, Result, sym, refl, ap, ◌∙◌, arith}
use Rattle.std.proofs.lemmas.Bool.{le-leb}
use Rattle.checks.specs.Checks.{answered}
use Rattle.packet.specs.Opening.{PacketView, viewed, opening, opened}
use Rattle.packet.specs.declared.Packet.{Packet}
use Rattle.packet.specs.declared.fault.PacketFault.{PacketFault}
use Rattle.joining.specs.Finding.{told_length, begins}

seen_ok : (r : Result Packet PacketFault) (o : Option PacketFault) (k : PacketView) → viewed r ≡ answered o k → is_ok r ≡ not (is_some o)
seen_ok (Ok k) None v e = refl
seen_ok (Ok k) (Some f) v e = absurd (let z : ◌≡◌ {A = ℕ} 0 1 = cc in omega arith)
seen_ok (Err f) None v e = absurd (let z : ◌≡◌ {A = ℕ} 0 1 = cc in omega arith)
seen_ok (Err f) (Some g) v e = refl

-- as much as the header tells was opened
pub begins-opened : (bs front : List ℕ) (r : Result Packet PacketFault) → told_length bs ≤ length bs → front ≡ take (told_length bs) bs
    → viewed r ≡ answered (opening front) (opened front) → is_ok r ≡ begins bs
begins-opened bs front r long is e =
    seen_ok r (opening front) (opened front) e ∙ ap (λ xs. not (is_some (opening xs))) is
    ∙ sym (ap (λ b. b && not (is_some (opening (take (told_length bs) bs)))) (le-leb (told_length bs) (length bs) long))
