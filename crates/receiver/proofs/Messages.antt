-- A message that is written row by row. Assumes nothing.
use Rattle.std.proofs.Common.{◌≡◌, ℕ, ◌+◌, ◌-◌, ◌*◌, ◌/◌, ◌%◌, ◌<◌, ◌≤◌, List, ◌++◌, length, take, sym, ap, ◌∙◌, subst, arith, below_more}
use borrow.Rule.Slice.PartMut.{put_mid, post_of}
use Rattle.std.proofs.lemmas.Nat.{div_below, mod_below, div-add-mod'}
use Rattle.std.proofs.lemmas.List.{length-take-le, take_at, drop_at}
use Rattle.std.proofs.lemmas.Slice.{take-put_mid_below}
use Rattle.checks.specs.Checks.{at}
use Rattle.checks.proofs.Lowest.{same_places}
use Rattle.code.specs.Plans.{PlanView, Sound}
use Rattle.code.specs.Rows.{Packet, row, Message, Explains}
use Rattle.code.proofs.Rows.{data_row, row_within}
use Rattle.field.specs.Field.{Ops}
use Rattle.receiver.specs.Shelves.{row_on}
use Rattle.receiver.proofs.Reaches.{row-symbol, length-row_on}
use Rattle.receiver.proofs.Solved.{between_row}
use Rattle.receiver.proofs.Stored.{row_same}

-- one row more; w is the row's length as the code has it
pub rows_more : (R : ℕ → List ℕ) (old new : List ℕ) (n len w : ℕ) → w ≡ len → n * len + len ≤ length old → length new ≡ len
    → ((j : ℕ) → j < n → row_on old j len ≡ R j) → new ≡ R n
    → (j : ℕ) → j < n + 1 → row_on (put_mid (n * w) (n * w + w - n * w) old new) j len ≡ R j
rows_more R old new n len w is room long before here =
    let after : ℕ → List ℕ = λ v. put_mid (n * v) (n * v + v - n * v) old new in
    below_more (λ j. row_on (after w) j len ≡ R j) n
    (λ j h. ap (λ v. row_on (after v) j len) is
    ∙ row_same n len j h (after len) old (take-put_mid_below (n * len) (n * len + len - n * len) old new (n * len) (omega arith) (omega arith))
    ∙ before j h)
    (ap (λ v. row_on (after v) n len) is
    ∙ ap (take len) (drop_at (take (n * len) old) (new ++ post_of (n * len) (n * len + len - n * len) old) (n * len) (length-take-le (n * len) old (omega arith)))
    ∙ take_at new _ len long ∙ here)

-- the rows are all of it
pub same_message : (m len : ℕ) (xs ys : List ℕ) → 0 < len → length xs ≡ m * len → length ys ≡ m * len
    → ((j : ℕ) → j < m → row_on xs j len ≡ row_on ys j len) → xs ≡ ys
same_message m len xs ys some lx ly same = same_places xs ys (lx ∙ sym ly) (λ i h.
    let t = div_below i len m some (omega arith) in
    let s = mod_below i len some in
    let there : (zs : List ℕ) → at zs i ≡ at (row_on zs (i / len) len) (i % len) =
    λ zs. ap (at zs) (sym (div-add-mod' i len)) ∙ sym (row-symbol zs (i / len) len (i % len) s) in
    there xs ∙ ap (λ zs. at zs (i % len)) (same (i / len) t) ∙ sym (there ys))

-- a message has its own rows at the data packets' numbers
pub data_rows : (o : Ops) (p : PlanView) (M : List ℕ) → Message p M → (j : ℕ) → j < p.m → row_on M j p.L ≡ row o p M j
data_rows o p M g j h =
    data_row o p M j (row_on M j p.L) h (length-row_on M j p.L (omega (arith, row_within j p.m p.L h, g.long))) (sym (between_row M j p.L))

-- all data rows are those of a message that fits: it is that message
pub message_is : (o : Ops) (p : PlanView) → Sound p → (ks : List Packet) (M out : List ℕ) → Explains o p M ks → length out ≡ p.m * p.L
    → ((j : ℕ) → j < p.m → row_on out j p.L ≡ row o p M j) → Explains o p out ks
message_is o p sound ks M out e long rows =
    let same : M ≡ out = same_message p.m p.L M out sound.L_least e.message.long long (λ j h. data_rows o p M e.message j h ∙ sym (rows j h)) in
    subst (λ N. Explains o p N ks) same e
