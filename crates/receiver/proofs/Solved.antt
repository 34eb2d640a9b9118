-- Rows solved from the rows of m packets are those of every message that fits them. Assumes nothing.
use Rattle.std.proofs.Common.{◌≡◌, ℕ, zero, suc, ◌+◌, ◌-◌, ◌*◌, ◌<◌, ◌≤◌, List, [], ◌∷◌, length, get_or, take, drop, sym, refl, ap, ◌∙◌, subst, arith}
use Rattle.std.specs.List.{between, AllByRecursion}
use Rattle.std.proofs.lemmas.List.FromFn.{length-map-range_with_len, get_or-map-range_with_len}
use Rattle.std.proofs.ByRecursion.{All-get_or, All-from_get_or}
use Rattle.std.proofs.lemmas.List.{get_or-take, length-take-le}
use Rattle.checks.specs.Checks.{at}
use Rattle.code.specs.Plans.{PlanView, Sound}
use Rattle.code.specs.Rows.{Packet, row, Fits, Explains}
use Rattle.code.specs.Settles.{Good, Different}
use Rattle.code.proofs.Recovery.{solved_row}
use Rattle.code.proofs.Rows.{row_within}
use Rattle.code.proofs.Settling.{some_message}
use Rattle.code.proofs.Sums.{dot_same}
use Rattle.field.specs.Field.{Ops, Lawful}
use Rattle.field.specs.Rows.{numbers, Combined}
use Rattle.receiver.specs.Receivers.{packet_at}
use Rattle.receiver.specs.Shelves.{row_on}
use Rattle.receiver.specs.Solves.{packets, Given, Parts, Lacks, First, RowOf}
use Rattle.receiver.proofs.Reaches.{row-symbol, length-row_on}

-- packets whose numbers differ place by place
different_of : (d : Packet) (ks : List Packet) → ((i j : ℕ) → i < length ks → j < i → ¬ ((get_or ks j d).number ≡ (get_or ks i d).number)) → Different ks
different_of d [] h = tt
different_of d (k ∷ ks) h = (
  All-from_get_or (λ x. ¬ (x.number ≡ k.number)) ks d (λ i l e. h (suc i) zero (omega arith) (omega arith) (sym e)),
  different_of d ks (λ i j a b e. h (suc i) (suc j) (omega arith) (omega arith) e),
)

-- a part of len symbols
pub between_row : (xs : List ℕ) (t len : ℕ) → between (t * len) (t * len + len) xs ≡ row_on xs t len
between_row xs t len = let e : t * len + len - t * len ≡ len = omega arith in ap (λ k. take k (drop (t * len) xs)) e

module _ (p : PlanView) (ns rows : List ℕ) (given : Given p ns rows) where
  abbrev ks : List Packet
  ks = packets p ns rows

  packet_0 : Packet
  packet_0 = packet_at p.L ns rows 0

  length-packets : length ks ≡ p.m
  length-packets = length-map-range_with_len (packet_at p.L ns rows) 0 p.m

  at_packets : (t : ℕ) → t < p.m → get_or ks t packet_0 ≡ packet_at p.L ns rows t
  at_packets t h = get_or-map-range_with_len (packet_at p.L ns rows) 0 p.m t t packet_0 h (omega arith)

  given_row : (t : ℕ) → t < p.m → length (row_on rows t p.L) ≡ p.L
  given_row t h = length-row_on rows t p.L (omega (arith, row_within t p.m p.L h, given.whole))

  good-packets : AllByRecursion (Good p) ks
  good-packets = All-from_get_or (Good p) ks packet_0 (λ t h.
      let l : t < p.m = omega (arith, length-packets) in
      subst (Good p) (sym (at_packets t l)) (record {
        inside = given.numbered.inside t l;
        long = given_row t l;
        elements = All-from_get_or (λ y. y < p.q) (row_on rows t p.L) 0 (λ s g.
            let g' : s < p.L = omega (arith, given_row t l) in
            rw (row-symbol rows t p.L s g') (given.symbols (t * p.L + s) (omega (arith, row_within t p.m p.L l))));
      }))

  different-packets : Different ks
  different-packets = different_of packet_0 ks (λ i j h l e.
      let im : i < p.m = omega (arith, length-packets) in
      given.apart i j im l (sym (ap (λ k. k.number) (at_packets j (omega arith))) ∙ e ∙ ap (λ k. k.number) (at_packets i im)))

  -- what a message that fits them has at a known number
  fits_at : (o : Ops) (M : List ℕ) → Explains o p M ks → (t : ℕ) → t < p.m → row o p M (at ns t) ≡ row_on rows t p.L
  fits_at o M e t h =
      subst (Fits o p M) (at_packets t h) (All-get_or (Fits o p M) ks t packet_0 (omega (arith, length-packets)) e.fits)

  -- a row that is known
  pub stored_row : (o : Ops) (n t : ℕ) (out : List ℕ) → First ns n t → out ≡ row_on rows t p.L → RowOf o p ks n out
  stored_row o n t out has same M e = same ∙ sym (fits_at o M e t (omega (arith, has.within, given.numbered.many))) ∙ ap (row o p M) has.there

  module _ (o : Ops) (lawful : Lawful o) (sound : Sound p) (size : o.size ≡ p.q) where
    -- some message fits them
    pub some_fits : (M : List ℕ) × Explains o p M ks
    some_fits = some_message o lawful p sound size ks (omega (arith, length-packets)) good-packets different-packets

    -- a row that is not known
    pub lost_row : (n : ℕ) (factors out : List ℕ) → n < p.m + p.r → Lacks ns n → p.m ≤ length factors → Parts o p ns n factors
        → length out ≡ p.L → Combined o (take (length ns) factors) rows out → RowOf o p ks n out
    lost_row n factors out within lacks room parts long sums M e =
        solved_row o lawful p sound size ns (λ i h. given.numbered.inside i (omega (arith, given.numbered.many)))
        (λ i j h l. given.apart i j (omega (arith, given.numbered.many)) l) given.numbered.many M e.message n within lacks rows out
        (λ t h s l. sym (row-symbol rows t p.L s l) ∙ ap (λ ys. at ys s) (sym (fits_at o M e t h)))
        long (λ s h.
        let many = given.numbered.many in
        sums s (omega arith) ∙ rw (many, long, length-take-le p.m factors room)
        (dot_same (numbers o) _ _ _ _ p.m (λ j l. get_or-take p.m factors j 0 l ∙ parts j l) (λ j l. refl)))
