-- The loop that writes numbers, and parts written one behind the other. Assumes nothing.
use Rattle.std.proofs.Common.{◌≡◌, ℕ, zero, suc, ◌+◌, ◌-◌, ◌*◌, ◌/◌, ◌%◌, ◌^◌, ◌<◌, ◌≤◌, List, [], ◌∷◌, ◌++◌, length, take, drop, sym, refl, ap, ◌∙◌, ap₂, add-mul, one-mul, arith}
use Rattle.std.proofs.lemmas.Nat.{mul-le}
use Rattle.std.specs.Int.{w16, to_be_bytes}
use borrow.Rule.Slice.PartMut.{put_mid}
use Rattle.std.proofs.lemmas.List.{append_assoc, take_at, take_more, drop_at, drop-drop, map-append}
use Rattle.std.proofs.lemmas.Bool.Decides.{nat_tests}
use Rattle.std.proofs.lemmas.Slice.{take-put_mid}
use Rattle.checks.specs.Checks.{at}
use Rattle.code.specs.Plans.{PlanView}
use Rattle.packet.specs.Bytes.{words, low_byte, row_bytes, low_bytes}
use Rattle.packet.specs.Layout.{mark, numbers, packet_length, laid}
use Rattle.packet.specs.Writing.{written, Lays}
use Rattle.packet.specs.declared.Job.{Job}
use Rattle.packet.proofs.Opening.{laid-reopens}
use Rattle.packet.proofs.Reading.{length-laid}

words_append : (ms ns : List ℕ) → words (ms ++ ns) ≡ words ms ++ words ns
words_append [] ns = refl
words_append (m ∷ ms) ns = ap (λ bs. (m / 256) ∷ (m % 256) ∷ bs) (words_append ms ns)

low_bytes_append : (w : ℕ) (ms ns : List ℕ) → low_bytes w (ms ++ ns) ≡ low_bytes w ms ++ low_bytes w ns
low_bytes_append w ms ns = grind (arith, nat_tests, words_append, map-append low_byte)

-- what holds of one byte and of two holds of each width
by_width : (P : ℕ → Type 0) → P 1 → P 2 → (w : ℕ) → 1 ≤ w → w ≤ 2 → P w
by_width P one two zero some few = absurd (omega arith)
by_width P one two (suc zero) some few = one
by_width P one two (suc (suc zero)) some few = two
by_width P one two (suc (suc (suc w))) some few = absurd (omega arith)

-- the last w bytes of a number of 16 bits
last_bytes : (w n : ℕ) → 1 ≤ w → w ≤ 2 → n < 2 ^ 16 → take (2 - (2 - w)) (drop (2 - w) (to_be_bytes w16 n)) ≡ low_bytes w (n ∷ [])
last_bytes w n some few small =
    by_width (λ w. take (2 - (2 - w)) (drop (2 - w) (to_be_bytes w16 n)) ≡ low_bytes w (n ∷ []))
    (ap₂ ◌∷◌ (omega arith) refl) (ap₂ ◌∷◌ (omega arith) (ap₂ ◌∷◌ (omega arith) refl)) w some few

length-last : (w n : ℕ) → 1 ≤ w → w ≤ 2 → length (low_bytes w (n ∷ [])) ≡ w
length-last w n = by_width (λ w. length (low_bytes w (n ∷ [])) ≡ w) refl refl w

-- one number more is written
pub low_bytes_more : (w : ℕ) (ns out part : List ℕ) (i : ℕ) → 1 ≤ w → w ≤ 2 → i < length ns → length out ≡ length ns * w → at ns i < 2 ^ 16
    → part ≡ take (2 - (2 - w)) (drop (2 - w) (to_be_bytes w16 (at ns i))) → take (i * w) out ≡ low_bytes w (take i ns)
    → take ((i + 1) * w) (put_mid (i * w) (i * w + w - i * w) out part) ≡ low_bytes w (take (i + 1) ns)
low_bytes_more w ns out part i some few within fits small is so =
    let last = is ∙ last_bytes w (at ns i) some few small in
    let long = ap length last ∙ length-last w (at ns i) some few in
    let front : i * w ≤ length out = omega (arith, mul-le i w (length ns) w (omega arith) (omega arith)) in
    take-put_mid (i * w) (i * w + w - i * w) out part ((i + 1) * w) (omega (arith, long, add-mul i 1 w, one-mul w)) front
    ∙ ap₂ ◌++◌ so last ∙ sym (low_bytes_append w (take i ns) (at ns i ∷ [])) ∙ ap (low_bytes w) (sym (take_more ns i 0 within))

-- a part is written behind the front
behind : (front part old : List ℕ) (a k e : ℕ) → length front ≡ a → a + k ≡ e
    → put_mid a k (front ++ drop a old) part ≡ (front ++ part) ++ drop e old
behind front part old a k e la ae =
    let t = take_at front (drop a old) a la in
    let d = drop_at front (drop a old) a la in
    let dd : drop k (drop a old) ≡ drop e old = drop-drop k a old ∙ ap (λ n. drop n old) ae in
    simp (t, d, dd, append_assoc)

module _ (p : PlanView) (j : Job) (n : ℕ) (ys old : List ℕ) where
  -- mark, numbers and row are written one behind the other
  pub parts_written : {m w r : List ℕ} (len : ℕ) → m ≡ mark → w ≡ words (numbers p j n) → r ≡ row_bytes p.q ys → len ≡ packet_length p
      → put_mid 20 (len - 20) (put_mid 2 18 (m ++ drop 2 old) w) r ≡ written p j n ys old
  unfolding laid
  parts_written {m} {w} {r} len em ew er el =
      let head : put_mid 2 18 (mark ++ drop 2 old) (words (numbers p j n)) ≡ (mark ++ words (numbers p j n)) ++ drop 20 old =
      behind mark (words (numbers p j n)) old 2 18 20 refl refl in
      let all : put_mid 20 (packet_length p - 20) ((mark ++ words (numbers p j n)) ++ drop 20 old) (row_bytes p.q ys) ≡ written p j n ys old =
      behind (mark ++ words (numbers p j n)) (row_bytes p.q ys) old 20 (packet_length p - 20) (packet_length p) refl (omega arith) in
      cc

  pub laid_in_front : (new : List ℕ) → 1 ≤ p.q → length ys ≡ p.L → new ≡ written p j n ys old → Lays p j n ys old new
  laid_in_front new some l is = record {
    leaves = is;
    reopens = λ elements. (
        let front : take (packet_length p) new ≡ laid p j n ys =
        ap (take (packet_length p)) is ∙ take_at (laid p j n ys) (drop (packet_length p) old) (packet_length p) (length-laid p j n ys l) in
        rw front (laid-reopens p j n ys some l elements)
        );
  }
