-- Any m packets settle the message, and fewer leave every other row open. Assumes nothing.
use Rattle.std.specs.Prelude.{◌≡◌, ℕ, ◌+◌, ◌<◌, List, [], ◌∷◌, length}
use Rattle.std.specs.List.{AllByRecursion}
use Rattle.field.specs.Field.{Ops, Lawful}
use Rattle.code.specs.Plans.{PlanView, Sound}
use Rattle.code.specs.Rows.{Packet, Explains, row}

-- the packet k is one of the plan's: its number is below m + r, and its row is L elements
pub record Good (p : PlanView) (k : Packet) : Type 0 where
  pub inside : k.number < p.m + p.r
  pub long : length k.row ≡ p.L
  pub elements : AllByRecursion (λ y. y < p.q) k.row

-- n is the number of none of the packets ks
abbrev pub New : ℕ → List Packet → Type 0
New n ks = AllByRecursion (λ k. ¬ (k.number ≡ n)) ks

-- no two packets have one number
abbrev pub Different : List Packet → Type 0
Different [] = Unit
Different (k ∷ ks) = New k.number ks × Different ks

-- for every sound plan p and every lawful field o of its size: whatever rows m different packets carry, exactly one message fits them
abbrev pub AnyMPacketsSettleTheMessage : Type 0
AnyMPacketsSettleTheMessage = (o : Ops) → Lawful o → (p : PlanView) → Sound p → o.size ≡ p.q
    → (ks : List Packet) → length ks ≡ p.m → AllByRecursion (Good p) ks → Different ks
    → (M : List ℕ) × Explains o p M ks × ((N : List ℕ) → Explains o p N ks → N ≡ M)

-- and fewer than m packets leave the row of any other number n open: whatever row y is, some message fits them and has the row y there
abbrev pub FewerLeaveEveryOtherRowOpen : Type 0
FewerLeaveEveryOtherRowOpen = (o : Ops) → Lawful o → (p : PlanView) → Sound p → o.size ≡ p.q
    → (ks : List Packet) → length ks < p.m → AllByRecursion (Good p) ks → Different ks
    → (n : ℕ) → n < p.m + p.r → New n ks → (y : List ℕ) → length y ≡ p.L → AllByRecursion (λ x. x < p.q) y
    → (M : List ℕ) × Explains o p M ks × (row o p M n ≡ y)
