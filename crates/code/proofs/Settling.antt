-- What packets tell of the message: m settle it, fewer tell nothing of another number. Assumes nothing.
use Rattle.std.proofs.Common.{◌≡◌, ℕ, zero, suc, ◌+◌, ◌*◌, ◌<◌, ◌≤◌, List, [], ◌∷◌, ◌++◌, map, length, replicate, sym, ap, ◌∙◌, arith}
use Rattle.std.specs.List.{AllByRecursion}
use Rattle.std.proofs.ByRecursion.{All-get_or, All-map, All-weaker}
use Rattle.std.proofs.lemmas.List.{length-map, length-replicate, get_or-replicate}
use Rattle.checks.specs.Checks.{at}
use Rattle.field.specs.Field.{Ops, Lawful}
use Rattle.code.specs.Nodes.{Elements, Apart}
use Rattle.code.specs.Plans.{PlanView, Sound}
use Rattle.code.specs.Rows.{Packet, Message, row, Fits, Explains}
use Rattle.code.specs.Settles.{Good, New, Different, AnyMPacketsSettleTheMessage, FewerLeaveEveryOtherRowOpen}
use Rattle.code.proofs.Missing.{missing}
use Rattle.code.proofs.Whole.{unique_message, free_message}

abbrev pub numbers : List Packet → List ℕ
numbers ks = map (λ k. k.number) ks

pub all_two : {A : Type 0} (P Q R : A → Type 0) → ((x : A) → P x → Q x → R x) → (xs : List A) → AllByRecursion P xs → AllByRecursion Q xs → AllByRecursion R xs
all_two P Q R f [] p q = tt
all_two P Q R f (x ∷ xs) p q = (f x p.0 q.0, all_two P Q R f xs p.1 q.1)

pub different_push : (ks : List Packet) (k : Packet) → Different ks → New k.number ks → Different (ks ++ k ∷ [])
different_push [] k a n = (tt, tt)
different_push (j ∷ ks) k a n = (new_push ks a.0, different_push ks k a.1 n.1)
  where
    new_push : (ks : List Packet) → New j.number ks → New j.number (ks ++ k ∷ [])
    new_push [] h = ((λ e. n.0 (sym e)), tt)
    new_push (i ∷ ks) h = (h.0, new_push ks h.1)

-- what holds of each number of the packets
pub at_number : (P : ℕ → Type 0) (ks : List Packet) → AllByRecursion (λ k. P k.number) ks → (t : ℕ) → t < length (numbers ks) → P (at (numbers ks) t)
at_number P ks h t l = All-get_or P (numbers ks) t 0 l (All-map P (λ k. k.number) ks h)

pub of_numbers : (P : ℕ → Type 0) (ks : List Packet) → ((t : ℕ) → t < length (numbers ks) → P (at (numbers ks) t)) → AllByRecursion (λ k. P k.number) ks
of_numbers P [] h = tt
of_numbers P (k ∷ ks) h = (h 0 (omega arith), of_numbers P ks (λ t l. h (suc t) (omega arith)))

-- different packets have different numbers
pub numbers_apart : (ks : List Packet) → Different ks → Apart (length (numbers ks)) (numbers ks)
numbers_apart [] a i j h l e = omega arith
numbers_apart (k ∷ ks) a zero j h l e = omega arith
numbers_apart (k ∷ ks) a (suc i) zero h l e = at_number (λ n. ¬ (n ≡ k.number)) ks a.0 i (omega arith) (sym e)
numbers_apart (k ∷ ks) a (suc i) (suc j) h l e = numbers_apart ks a.1 i j (omega arith) (omega arith) e

flat_elements : (n v q : ℕ) → v < q → AllByRecursion (λ x. x < q) (replicate n v)
flat_elements zero v q h = tt
flat_elements (suc n) v q h = (h, flat_elements n v q h)

pub zeros : PlanView → List ℕ
zeros p = replicate (p.m * p.L) 0

pub zeros_message : (p : PlanView) → Sound p → Message p (zeros p)
unfolding zeros
zeros_message p sound = record {
  long = length-replicate (p.m * p.L) 0;
  elements = flat_elements (p.m * p.L) 0 p.q (omega (arith, sound.q_least));
}

module _ (o : Ops) (lawful : Lawful o) (p : PlanView) (sound : Sound p) (size : o.size ≡ p.q) where
  inside : (ks : List Packet) → AllByRecursion (Good p) ks → Elements (p.m + p.r) (length (numbers ks)) (numbers ks)
  inside ks good = at_number (λ n. n < p.m + p.r) ks (All-weaker (Good p) (λ k. k.number < p.m + p.r) (λ k g. g.inside) ks good)

  -- m packets are one message's
  pub one_message : (ks : List Packet) → length ks ≡ p.m → AllByRecursion (Good p) ks → Different ks
      → (M N : List ℕ) → Explains o p M ks → Explains o p N ks → M ≡ N
  one_message ks many good apart M N em en =
      unique_message o lawful p sound size (numbers ks) (inside ks good) (numbers_apart ks apart) (length-map ks (λ k. k.number) ∙ many) M N
      em.message en.message
      (at_number (λ n. row o p M n ≡ row o p N n) ks
      (all_two (Fits o p M) (Fits o p N) (λ k. row o p M k.number ≡ row o p N k.number) (λ k a b. a ∙ sym b) ks em.fits en.fits))

  -- with fewer, another number may have any row
  pub any_row : (ks : List Packet) → length ks < p.m → AllByRecursion (Good p) ks → (k : Packet) → Good p k → New k.number ks
      → (M : List ℕ) → Explains o p M ks → (N : List ℕ) × Explains o p N (k ∷ ks)
  any_row ks less good k g new M e =
      let (N, message, same, there) = free_message o lawful p sound size (numbers ks) (inside ks good) (omega (arith, length-map ks (λ k. k.number)))
      k.number g.inside (at_number (λ n. ¬ (n ≡ k.number)) ks new) M e.message k.row g.long g.elements in (
        N,
        record {
          message = message;
          fits = (
            there,
            all_two (λ k. row o p N k.number ≡ row o p M k.number) (Fits o p M) (Fits o p N) (λ k a b. a ∙ b) ks
                (of_numbers (λ n. row o p N n ≡ row o p M n) ks same) e.fits,
          );
        },
      )

  -- up to m packets are some message's
  pub some_message : (ks : List Packet) → length ks ≤ p.m → AllByRecursion (Good p) ks → Different ks → (M : List ℕ) × Explains o p M ks
  some_message [] few good apart = (zeros p, record { message = zeros_message p sound; fits = tt })
  some_message (k ∷ ks) few good apart =
      let (M, e) = some_message ks (omega arith) good.1 apart.1 in
      any_row ks (omega arith) good.1 k good.0 apart.0 M e

  -- a row of one value is a row of elements
  flat : (n v : ℕ) → v < 2 → n < p.m + p.r → Good p (record { number = n; row = replicate p.L v })
  flat n v h l = record { inside = l; long = length-replicate p.L v; elements = flat_elements p.L v p.q (omega (arith, sound.q_least)) }

  -- fewer than m packets are two messages' that differ at another number
  pub two_messages : (ks : List Packet) → length ks < p.m → AllByRecursion (Good p) ks → Different ks → (n : ℕ) → n < p.m + p.r → New n ks
      → (M N : List ℕ) × Explains o p M ks × Explains o p N ks × ¬ (row o p M n ≡ row o p N n)
  two_messages ks less good apart n l new =
      let (O, e) = some_message ks (omega arith) good apart in
      let (M, a) = any_row ks less good _ (flat n 0 (omega arith) l) new O e in
      let (N, b) = any_row ks less good _ (flat n 1 (omega arith) l) new O e in (
        M,
        N,
        record { message = a.message; fits = a.fits.1 },
        record { message = b.message; fits = b.fits.1 },
        λ same.
            let w : 0 < p.L = sound.L_least in
            let c : replicate p.L 0 ≡ replicate p.L 1 = sym a.fits.0 ∙ same ∙ b.fits.0 in
            omega (arith, ap (λ r. at r 0) c, get_or-replicate {A = ℕ} p.L 0 0 0 w, get_or-replicate {A = ℕ} p.L 0 1 0 w),
      )

  -- fewer than m packets leave a number out
  pub new_number : (ks : List Packet) → length ks < p.m → (n : ℕ) × (n < p.m + p.r) × New n ks
  new_number ks less =
      let (n, l, a) = missing p.m (numbers ks) (omega (arith, length-map ks (λ k. k.number))) in
      (n, omega arith, of_numbers (λ x. ¬ (x ≡ n)) ks (λ t h. All-get_or (λ x. ¬ (x ≡ n)) (numbers ks) t 0 h a))

pub any_m_packets_settle_the_message : AnyMPacketsSettleTheMessage
any_m_packets_settle_the_message o lawful p sound size ks many good apart =
    let (M, e) = some_message o lawful p sound size ks (omega arith) good apart in
    (M, e, λ N f. one_message o lawful p sound size ks many good apart N M f e)

pub fewer_leave_every_other_row_open : FewerLeaveEveryOtherRowOpen
fewer_leave_every_other_row_open o lawful p sound size ks less good apart n l new y long small =
    let (M, e) = some_message o lawful p sound size ks (omega arith) good apart in
    let k : Packet = record { number = n; row = y } in
    let (N, f) = any_row o lawful p sound size ks less good k (record { inside = l; long = long; elements = small }) new M e in
    (N, record { message = f.message; fits = f.fits.1 }, f.fits.0)
