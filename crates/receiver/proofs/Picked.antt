-- A message that m of some message's packets fit is that message. Assumes nothing.
use Rattle.std.proofs.Common.{◌≡◌, ℕ, zero, suc, ◌≤◌, List, [], ◌∷◌, length, refl, ap, inl, inr, arith}
use Rattle.std.specs.List.{AllByRecursion}
use Rattle.code.specs.Plans.{PlanView, Sound}
use Rattle.code.specs.Rows.{Packet, Message, Fits, Explains}
use Rattle.code.specs.Settles.{Good, Different}
use Rattle.code.proofs.Settling.{one_message}
use Rattle.field.specs.Field.{Ops, Lawful}
use Rattle.receiver.specs.Runs.{AtLeast}

pub at_least_length : {A : Type 0} (n : ℕ) (P : A → Type 0) (xs : List A) → AtLeast n P xs → n ≤ length xs
at_least_length zero P xs h = omega arith
at_least_length (suc n) P [] h = absurd h
at_least_length (suc n) P (x ∷ xs) (inl h) = omega (arith, at_least_length n P xs h.1)
at_least_length (suc n) P (x ∷ xs) (inr h) = omega (arith, at_least_length (suc n) P xs h)

-- n of the packets ks that are so, in their order: what holds of all of ks holds of these
chosen : (n : ℕ) (P : Packet → Type 0) (ks : List Packet) → AtLeast n P ks
    → (js : List Packet) × (length js ≡ n) × AllByRecursion P js × ((Q : Packet → Type 0) → AllByRecursion Q ks → AllByRecursion Q js) × (Different ks → Different js)
chosen zero P ks h = ([], refl, tt, (λ Q q. tt), λ a. tt)
chosen (suc n) P [] h = absurd h
chosen (suc n) P (k ∷ ks) (inl h) =
    let (js, l, all, some, apart) = chosen n P ks h.1 in
    (k ∷ js, ap suc l, (h.0, all), (λ Q q. (q.0, some Q q.1)), λ a. (some _ a.0, apart a.1))
chosen (suc n) P (k ∷ ks) (inr h) =
    let (js, l, all, some, apart) = chosen (suc n) P ks h in
    (js, l, all, (λ Q q. some Q q.1), λ a. apart a.1)

pub picked : (o : Ops) → Lawful o → (p : PlanView) → Sound p → o.size ≡ p.q → (ks : List Packet) → AllByRecursion (Good p) ks → Different ks
    → (M N : List ℕ) → Explains o p N ks → Message p M → AtLeast p.m (Fits o p M) ks → M ≡ N
picked o lawful p sound size ks good apart M N e message many =
    let (js, l, all, some, part) = chosen p.m (Fits o p M) ks many in
    one_message o lawful p sound size js l (some _ good) (part apart) M N
    (record { message = message; fits = all }) (record { message = e.message; fits = some _ e.fits })
