-- The layout and its reading undo one another. Assumes nothing.
use Rattle.std.proofs.Common.{◌≡◌, ℕ, ◌+◌, ◌-◌, ◌*◌, ◌/◌, ◌%◌, ◌<◌, ◌≤◌, List, ◌++◌, map, length, take, drop, sym, refl, ap, ◌∙◌, arith}
use Rattle.std.specs.List.{range_with_len, AllByRecursion}
use Rattle.std.proofs.lemmas.List.FromFn.{fill_by_all}
use Rattle.std.proofs.ByRecursion.{All-get_or, All-drop}
use Rattle.std.proofs.lemmas.List.{get_or-take, length-drop, length-take-le, take-append-drop}
use Rattle.checks.specs.Checks.{at}
use Rattle.code.specs.Plans.{PlanView}
use Rattle.packet.specs.Bytes.{word, symbol_bytes, row_bytes, symbols}
use Rattle.packet.specs.Layout.{packet_length, laid, Headed, carried}
use Rattle.packet.specs.declared.Job.{Job}
use Rattle.packet.proofs.Numbers.{length-row_bytes, symbols-row, row-symbols}

-- the first k bytes one by one, and the rest
fronts : (k : ℕ) (bs : List ℕ) → k ≤ length bs → bs ≡ map (at bs) (range_with_len 0 k) ++ drop k bs
fronts k bs h =
    let front = fill_by_all (at bs) (take k bs) k 0 (length-take-le k bs h) (λ i l. get_or-take k bs i 0 l) in
    sym (take-append-drop k bs) ∙ ap (λ xs. xs ++ drop k bs) front

-- the bytes of a number of 16 bits
halves : (bs : List ℕ) (i v : ℕ) → AllByRecursion (λ b. b < 256) bs → i + 1 < length bs → word bs i ≡ v → (at bs i ≡ v / 256) × (at bs (i + 1) ≡ v % 256)
halves bs i v h l e = let low = All-get_or (λ b. b < 256) bs (i + 1) 0 l h in (omega arith, omega arith)

-- bytes that bear a job's header are the packet of the number and the row that they carry
pub headed-laid : (p : PlanView) (j : Job) (bs : List ℕ) → AllByRecursion (λ b. b < 256) bs → Headed p j bs
    → bs ≡ laid p j (carried p bs).number (carried p bs).row
unfolding laid
headed-laid p j bs h k =
    let l : 20 ≤ length bs = omega (arith, k.long) in
    let rest : row_bytes p.q (symbols p.q (drop 20 bs)) ≡ drop 20 bs =
    row-symbols p.q p.L (drop 20 bs) (length-drop 20 bs ∙ omega (arith, k.long)) (All-drop (λ b. b < 256) 20 bs h) in
    let at_word : (i v : ℕ) → i + 1 < 20 → word bs i ≡ v → (at bs i ≡ v / 256) × (at bs (i + 1) ≡ v % 256) =
    λ i v w e. halves bs i v h (omega arith) e in
    let number = at_word 2 _ (omega arith) refl in
    let m = at_word 4 _ (omega arith) k.m in
    let r = at_word 6 _ (omega arith) k.r in
    let row_len = at_word 8 _ (omega arith) k.L in
    let q = at_word 10 (p.q - 1) (omega arith) (omega (arith, k.q)) in
    let job-number = at_word 12 _ (omega arith) k.number in
    let job-length = at_word 14 _ (omega arith) k.len in
    let offset = at_word 16 _ (omega arith) k.offset in
    let count = at_word 18 _ (omega arith) k.count in
    fronts 20 bs l ∙ cc

module _ (p : PlanView) (j : Job) (n : ℕ) (ys : List ℕ) where
  pub length-laid : length ys ≡ p.L → length (laid p j n ys) ≡ packet_length p
  unfolding laid
  length-laid l = omega (arith, length-row_bytes p.q ys ∙ ap (λ z. z * symbol_bytes p.q) l)

  -- a packet bears its job's header
  pub laid-headed : 1 ≤ p.q → length ys ≡ p.L → Headed p j (laid p j n ys)
  unfolding laid
  laid-headed some l = record {
    mark_0 = refl;
    mark_1 = refl;
    m = omega arith;
    r = omega arith;
    L = omega arith;
    q = omega arith;
    number = omega arith;
    len = omega arith;
    offset = refl;
    count = omega arith;
    long = length-laid l;
  }

  pub laid-number : word (laid p j n ys) 2 ≡ n
  unfolding laid
  laid-number = omega arith

  -- a row of elements is carried as it was
  pub laid-row : AllByRecursion (λ y. y < p.q) ys → symbols p.q (drop 20 (laid p j n ys)) ≡ ys
  unfolding laid
  laid-row h = symbols-row p.q ys h
