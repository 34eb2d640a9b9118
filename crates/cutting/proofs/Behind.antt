-- Packets that are cut one behind the other. Assumes nothing.
use Rattle.std.proofs.Common.{◌≡◌, ℕ, ◌+◌, cond, List, ◌++◌, length, take, drop, is_ok, IfOk, Ok, Err, Result, ap, ◌∙◌, ap₂, add-one}
use Rattle.std.proofs.lemmas.List.{take_at}
use Rattle.std.proofs.lemmas.List.FromFn.{length-map-range_with_len}
use Rattle.std.specs.declared.alloc.AllocError.{AllocError}
use Rattle.checks.proofs.Order.{answered_ok, left_none}
use Rattle.code.specs.Plans.{PlanView}
use Rattle.code.specs.Rows.{row}
use Rattle.field.specs.Field.{Ops}
use Rattle.packet.specs.Layout.{packet_length}
use Rattle.packet.specs.declared.Job.{Job}
use Rattle.packet.proofs.Reading.{length-laid}
use Rattle.sheet.specs.Sheets.{SheetView, Cut, cutting}
use Rattle.cutting.specs.Cutting.{packet_of, packets_to}

length-row : (o : Ops) (p : PlanView) (M : List ℕ) (n : ℕ) → length (row o p M n) ≡ p.L
unfolding row
length-row o p M n = length-map-range_with_len _ 0 p.L

-- the bytes that a cut wrote in front
pub cut_bytes : (s : SheetView) (p : PlanView) (o : Ops) (j : Job) (n : ℕ) (old new : List ℕ) (len : ℕ) → Cut s p o j n old new (Ok len)
    → take len new ≡ packet_of o p j s.content n
cut_bytes s p o j n old new len cut =
    let parts = answered_ok (cutting s p o.size n (length old)) len (packet_length p) cut.answers in
    let bytes = packet_of o p j s.content n in
    let content : new ≡ bytes ++ drop (packet_length p) old = cut.leaves ∙ left_none (cutting s p o.size n (length old)) old _ parts.0 in
    ap₂ take parts.1 content ∙ take_at bytes (drop (packet_length p) old) (packet_length p) (length-laid p j n (row o p s.content n) (length-row o p s.content n))

-- one packet more
pub packets_more : (o : Ops) (p : PlanView) (j : Job) (M : List ℕ) (k : ℕ) (old new : List ℕ) → old ≡ packets_to o p j M k → new ≡ old ++ packet_of o p j M k
    → new ≡ packets_to o p j M (k + 1)
packets_more o p j M k old new before more = more ∙ ap (λ bs. bs ++ packet_of o p j M k) before ∙ rw add-one

-- bytes that are pushed behind others, where memory does not fail
pub pushed_bytes : (r : Result (Unit {0}) AllocError) (old new part bytes : List ℕ) → new ≡ cond (is_ok r) (old ++ part) old → part ≡ bytes → IfOk r (λ _. new ≡ old ++ bytes)
pushed_bytes (Ok u) old new part bytes e same = e ∙ ap (λ xs. old ++ xs) same
pushed_bytes (Err f) old new part bytes e same = tt
