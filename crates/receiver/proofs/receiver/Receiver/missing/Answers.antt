use Rattle.std.proofs.Common.{◌≡◌, ◌<◌, ◌≤◌, ℕ, true, false, None, Some, Option, arith, rules}
use Rattle.std.specs.Option.{MatchOption}
use Rattle.std.proofs.lemmas.Iterator.{first_from_Range}
use Rattle.code.specs.Plans.{PlanView}
use Rattle.receiver.specs.Machine.{State, heard}
use Rattle.receiver.specs.Receivers.{plan_of, state_of, Missing}
use Rattle.receiver.proofs.receiver.Receiver.missing.Goals as goal

missing_from : (p : PlanView) (s : State) (m : ℕ) (r : Option ℕ) (Q : ℕ → Type 0) → m ≡ p.m
    → MatchOption r ((n : ℕ) → 0 ≤ n → n < m → heard s n ≡ true) (λ n. (0 ≤ n) × (n < m) × (heard s n ≡ false) × Q n) → Missing p s r
missing_from p s m None Q e h = λ n l. h n (omega arith) (omega arith)
missing_from p s m (Some n) Q e h = (omega (arith, h.1), h.2)

pub returns : goal.returns
returns c =
    let s = state_of c.args.self.now in
    missing_from (plan_of c.args.self.now) s c.data_count.result c.find.result _ c.data_count.ensures.answers
    (first_from_Range _ _ _ c.find.result (λ n. heard s n ≡ false) (λ n. heard s n ≡ true) c.find.ensures.ran (λ x q k. search rules) (λ x q k. search rules))
