-- The theorem at the size of messages: columns put together. Assumes nothing.
use Rattle.std.proofs.Common.{◌≡◌, ℕ, ◌+◌, ◌*◌, ◌/◌, ◌%◌, ◌<◌, List, map, length, sym, ap, ◌∙◌, inl, inr, mul_comm, arith}
use mathlib.Core.Path.{fst_path}
use native.Mathlib.Fin
use Rattle.std.specs.List.{range_with_len, AllByRecursion}
use Rattle.std.proofs.lemmas.Nat.{mul-add-lt, div-mul-add, mod-mul-add, div_below, mod_below, div-add-mod'}
use Rattle.std.proofs.lemmas.List.FromFn.{length-map-range_with_len, get_or-map-range_with_len}
use Rattle.std.proofs.ByRecursion.{All-get_or, All-from_get_or}
use Rattle.std.proofs.lemmas.List.{ext_get_or, get_or_past}
use Rattle.std.proofs.lemmas.Bool.{cases_lt, cases_order, cond_below}
use Rattle.checks.specs.Checks.{at}
use Rattle.field.specs.Field.{Ops, Lawful}
use Rattle.code.specs.Nodes.{Elements, Apart}
use Rattle.code.specs.Plans.{PlanView, Sound}
use Rattle.code.specs.Rows.{Message, row}
use Rattle.code.proofs.Degrees.{Distinct}
use Rattle.code.proofs.Carried.{Nodes, Known, carries, carries_same, unique, fewer}
use Rattle.code.proofs.Elements.{Element, laws, packet_num}
use Rattle.code.proofs.Rows.{length-row, row_at}

pub distinct : (k : ℕ) (xs : List ℕ) → Apart k xs → Distinct (at xs) k
distinct k xs apart i j a b e = elim (cases_order i j) [
  | inl same ↦ same
  | inr (inl lt) ↦ absurd (apart j i b lt e)
  | inr (inr gt) ↦ absurd (apart i j a gt (sym e))
]

module _ (o : Ops) (lawful : Lawful o) (p : PlanView) (sound : Sound p) (size : o.size ≡ p.q) where
  abbrev pub E : Type 0
  E = Element lawful

  abbrev pub Column : Type 0
  Column = ℕ → E

  -- a list of elements as a function: past its end it is 0
  abbrev pub symbols : (xs : List ℕ) → Elements p.q (length xs) xs → Column
  symbols xs small i = (at xs i, within)
    where
      within : at xs i < o.size
      within = elim (cases_lt i (length xs)) [ inl h ↦ omega (arith, small i h) | inr h ↦ rw (get_or_past xs i 0 h) (omega (arith, lawful.size_least)) ]

  abbrev pub nodes : Nodes E
  nodes = record {
    node = symbols p.nodes (λ i h. sound.elements i (omega (arith, sound.a_node_each)));
    m = p.m;
    count = p.m + p.r;
    few = omega arith;
    apart = λ i j a b e. distinct (p.m + p.r) p.nodes sound.different i j a b (fst_path e);
  }

  pub within : (M : List ℕ) → AllByRecursion (λ x. x < p.q) M → Elements p.q (length M) M
  within M small i h = All-get_or (λ x. x < p.q) M i 0 h small

  -- symbol s of each row
  abbrev pub column : (M : List ℕ) → Message p M → ℕ → Column
  column M g s j = symbols M (within M g.elements) (j * p.L + s)

  pub row_num : (M : List ℕ) (g : Message p M) (n s : ℕ) → s < p.L → at (row o p M n) s ≡ (carries (laws lawful) nodes (column M g s) n).0
  row_num M g n s h = row_at o p M n s h ∙ sym (packet_num lawful nodes.node p.m (column M g s) n)

  -- the rows of a message are rows of elements
  pub row-elements : (M : List ℕ) → Message p M → (n : ℕ) → AllByRecursion (λ y. y < p.q) (row o p M n)
  row-elements M g n = All-from_get_or (λ y. y < p.q) (row o p M n) 0 (λ s h.
      let l : s < p.L = omega (arith, length-row o p M n) in
      rw (row_num M g n s l) (omega (arith, (carries (laws lawful) nodes (column M g s) n).1)))

  -- a message of its columns
  gathered : (ℕ → Column) → List ℕ
  gathered u = map (λ i. (u (i % p.L) (i / p.L)).0) (range_with_len 0 (p.m * p.L))

  length_gathered : (u : ℕ → Column) → length (gathered u) ≡ p.m * p.L
  unfolding gathered
  length_gathered u = length-map-range_with_len _ 0 (p.m * p.L)

  message_gathered : (u : ℕ → Column) → Message p (gathered u)
  unfolding gathered
  message_gathered u = record {
    long = length_gathered u;
    elements = All-from_get_or (λ y. y < p.q) (gathered u) 0 (λ i h.
        let l : i < p.m * p.L = omega (arith, length_gathered u) in
        rw (get_or-map-range_with_len (λ i. (u (i % p.L) (i / p.L)).0) 0 (p.m * p.L) i i 0 l (omega arith))
        (omega (arith, (u (i % p.L) (i / p.L)).1)));
  }

  place : (j s : ℕ) → j < p.m → s < p.L → j * p.L + s < p.m * p.L
  place j s l h = omega (arith, mul-add-lt j p.L s p.m l h, mul_comm p.L p.m)

  at_gathered : (u : ℕ → Column) (j s : ℕ) → j < p.m → s < p.L → at (gathered u) (j * p.L + s) ≡ (u s j).0
  unfolding gathered
  at_gathered u j s l h =
      get_or-map-range_with_len (λ i. (u (i % p.L) (i / p.L)).0) 0 (p.m * p.L) (j * p.L + s) (j * p.L + s) 0 (place j s l h) (omega arith)
      ∙ cc (div-mul-add j p.L s h, mod-mul-add j p.L s h)

  module _ (ns : List ℕ) (inside : Elements (p.m + p.r) (length ns) ns) where
    abbrev pub known : Apart (length ns) ns → length ns ≡ p.m → Known p.m (p.m + p.r)
    known apart many = record {
      at = at ns;
      inside = λ t h. inside t (omega arith);
      apart = λ s t a b e. distinct (length ns) ns apart s t (omega arith) (omega arith) e;
    }

    -- m packets are one message's only
    pub unique_message : Apart (length ns) ns → length ns ≡ p.m → (M N : List ℕ) → Message p M → Message p N
        → ((t : ℕ) → t < length ns → row o p M (at ns t) ≡ row o p N (at ns t)) → M ≡ N
    unique_message apart many M N gm gn same = ext_get_or 0 M N (gm.long ∙ sym gn.long) (λ i h.
        let l : i < p.m * p.L = omega (arith, gm.long) in
        let w : 0 < p.L = sound.L_least in
        rw (← div-add-mod' i p.L) (symbol (i / p.L) (i % p.L) (div_below i p.L p.m w l) (mod_below i p.L w)))
      where
        symbol : (j s : ℕ) → j < p.m → s < p.L → at M (j * p.L + s) ≡ at N (j * p.L + s)
        symbol j s l h =
            fst_path (cond_below j p.m (column M gm s j) _ l
            ∙ unique (laws lawful) nodes (known apart many) (column M gm s) (column N gn s)
            (λ t a. Fin.val_path (sym (row_num M gm (at ns t) s h) ∙ ap (λ r. at r s) (same t (omega arith)) ∙ row_num N gn (at ns t) s h))
            j (omega arith)
            ∙ sym (cond_below j p.m (column N gn s j) _ l))

    -- fewer than m packets leave any row for another number
    pub free_message : length ns < p.m → (n : ℕ) → n < p.m + p.r → ((t : ℕ) → t < length ns → ¬ (at ns t ≡ n))
        → (M : List ℕ) → Message p M → (y : List ℕ) → length y ≡ p.L → AllByRecursion (λ x. x < p.q) y
        → (N : List ℕ) × Message p N × ((t : ℕ) → t < length ns → row o p N (at ns t) ≡ row o p M (at ns t)) × (row o p N n ≡ y)
    free_message less n l lacks M g y long small = (
      gathered (λ s. (another s).0),
      message_gathered _,
      (λ t h. by_symbols _ _ (length-row o p _ _) (length-row o p _ _) (λ s k.
          columns (at ns t) s k ∙ fst_path ((another s).1 t h) ∙ sym (row_num M g (at ns t) s k))),
      by_symbols _ _ (length-row o p _ _) long (λ s k. columns n s k ∙ fst_path (another s).2),
    )
      where
        another : (s : ℕ) → (w : Column) × ((t : ℕ) → t < length ns → carries (laws lawful) nodes w (at ns t) ≡ carries (laws lawful) nodes (column M g s) (at ns t))
            × (carries (laws lawful) nodes w n ≡ symbols y (within y small) s)
        another s = fewer (laws lawful) nodes (length ns) (at ns) n less inside l lacks (column M g s) (symbols y (within y small) s)

        columns : (k s : ℕ) → s < p.L → at (row o p (gathered (λ s. (another s).0)) k) s ≡ (carries (laws lawful) nodes (another s).0 k).0
        columns k s h =
            let u : ℕ → Column = λ s. (another s).0 in
            row_num (gathered u) (message_gathered u) k s h
            ∙ fst_path (carries_same (laws lawful) nodes (column (gathered u) (message_gathered u) s) (u s) k
            (λ j a. Fin.val_path (at_gathered u j s a h)))

        by_symbols : (a b : List ℕ) → length a ≡ p.L → length b ≡ p.L → ((s : ℕ) → s < p.L → at a s ≡ at b s) → a ≡ b
        by_symbols a b la lb same = ext_get_or 0 a b (la ∙ sym lb) (λ s h. same s (omega arith))
