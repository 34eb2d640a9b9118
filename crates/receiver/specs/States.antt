-- What every state of the machine keeps, and that the machine settles every call. Assumes nothing.
use Rattle.std.specs.Prelude.{◌≡◌, ℕ, ◌+◌, ◌<◌, ◌≤◌, List, [], ◌∷◌, ◌++◌, map, length}
use Rattle.std.specs.List.{AllByRecursion}
use Rattle.code.specs.Plans.{PlanView, Sound}
pub use Rattle.code.specs.Settles.{Good, New}
use Rattle.field.specs.Field.{Ops, Lawful}
use Rattle.packet.specs.declared.Job.{Job}
use Rattle.receiver.specs.Machine.{Call, Answer, State, Outcome, Step, count}

-- the accepted numbers
abbrev pub numbers_of : State → List ℕ
numbers_of s = map (λ k. k.number) s.stored ++ s.later

-- no number stands twice
abbrev pub Unlike : List ℕ → Type 0
Unlike [] = Unit
Unlike (x ∷ xs) = AllByRecursion (λ y. ¬ (y ≡ x)) xs × Unlike xs

-- at most m packets are stored, with rows of elements, and others are accepted only after them;
-- the accepted numbers are different numbers of the plan, so that there are at most m + r
pub record Reached (p : PlanView) (s : State) : Type 0 where
  pub few : length s.stored ≤ p.m
  pub early : length s.stored < p.m → s.later ≡ []
  pub good : AllByRecursion (Good p) s.stored
  pub inside : AllByRecursion (λ n. n < p.m + p.r) (numbers_of s)
  pub apart : Unlike (numbers_of s)
  pub room : count s ≤ p.m + p.r

-- the machine settles every call, whatever lawful field it names: there is one outcome and no other
abbrev pub Settles : Type 0
Settles = (o : Ops) → Lawful o → (p : PlanView) → Sound p → (j : Job) (s : State) → Reached p s → (c : Call)
    → (out : Outcome) × Step o p j s c out.answer out.after out.state × Reached p out.state
    × ((a : Answer) (after : List ℕ) (t : State) → Step o p j s c a after t → out ≡ record { answer = a; after = after; state = t })
