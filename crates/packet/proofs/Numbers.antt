-- Numbers and rows as bytes, and back. Assumes nothing.
use Rattle.std.proofs.Common.{◌≡◌, ℕ, zero, suc, ◌+◌, ◌*◌, ◌/◌, ◌%◌, ◌<◌, ◌≤◌, ltb, List, [], ◌∷◌, map, length, sym, refl, ap, ◌∙◌, ap₂, inl, inr, arith}
use Rattle.std.specs.List.{AllByRecursion}
use Rattle.std.proofs.lemmas.List.{length-map}
use Rattle.std.proofs.ByRecursion.{All-weaker}
use Rattle.std.proofs.lemmas.List.FromFn.{fill_by_all}
use Rattle.std.proofs.lemmas.Bool.{cases_Bool}
use Rattle.std.proofs.lemmas.Bool.Decides.{nat_tests}
use Rattle.checks.specs.Checks.{at}
use Rattle.packet.specs.Bytes.{words, word, pairs, symbol_bytes, low_byte, row_bytes, symbols, symbol_at, symbols_in, ReadFrom}

pub length-words : (ns : List ℕ) → length (words ns) ≡ length ns * 2
length-words [] = refl
length-words (n ∷ ns) = omega (arith, length-words ns)

pub pairs-words : (ns : List ℕ) → pairs (words ns) ≡ ns
pairs-words [] = refl
pairs-words (n ∷ ns) = ap₂ ◌∷◌ (omega arith) (pairs-words ns)

pub words-pairs : (k : ℕ) (bs : List ℕ) → length bs ≡ k * 2 → AllByRecursion (λ b. b < 256) bs → words (pairs bs) ≡ bs
words-pairs k [] e h = refl
words-pairs zero (a ∷ bs) e h = absurd (omega arith)
words-pairs (suc k) (a ∷ []) e h = absurd (omega arith)
words-pairs (suc k) (a ∷ b ∷ bs) e h =
    let lb : b < 256 = h.1.0 in
    let hi : (a * 256 + b) / 256 ≡ a = omega arith in
    let lo : (a * 256 + b) % 256 ≡ b = omega arith in
    cc (hi, lo, words-pairs k bs (omega arith) h.1.1)

pub length_pairs : (k : ℕ) (bs : List ℕ) → length bs ≡ k * 2 → length (pairs bs) ≡ k
length_pairs zero [] e = refl
length_pairs (suc k) [] e = absurd (omega arith)
length_pairs zero (a ∷ bs) e = absurd (omega arith)
length_pairs (suc k) (a ∷ []) e = absurd (omega arith)
length_pairs (suc k) (a ∷ b ∷ bs) e = ap suc (length_pairs k bs (omega arith))

-- bytes are their own low bytes
map-low_byte : (bs : List ℕ) → AllByRecursion (λ b. b < 256) bs → map low_byte bs ≡ bs
map-low_byte [] h = refl
map-low_byte (b ∷ bs) h = let small : b < 256 = h.0 in ap₂ ◌∷◌ (omega arith) (map-low_byte bs h.1)

pub length-row_bytes : (q : ℕ) (ys : List ℕ) → length (row_bytes q ys) ≡ length ys * symbol_bytes q
length-row_bytes q ys = grind (arith, nat_tests, length-words, length-map {A = ℕ} {B = ℕ})

-- a row of elements is read back as it was
pub symbols-row : (q : ℕ) (ys : List ℕ) → AllByRecursion (λ y. y < q) ys → symbols q (row_bytes q ys) ≡ ys
symbols-row q ys h =
    let below = λ (f : q ≤ 256). All-weaker (λ y. y < q) (λ y. y < 256) (λ y small. omega arith) ys h in
    grind (arith, nat_tests, pairs-words, map-low_byte)

pub row-symbols : (q k : ℕ) (bs : List ℕ) → length bs ≡ k * symbol_bytes q → AllByRecursion (λ b. b < 256) bs → row_bytes q (symbols q bs) ≡ bs
row-symbols q k bs e h = grind (arith, nat_tests, words-pairs k, map-low_byte)

pub length_symbols : (q k : ℕ) (bs : List ℕ) → length bs ≡ k * symbol_bytes q → length (symbols q bs) ≡ k
length_symbols q k bs e = grind (arith, nat_tests, length_pairs k)

-- a number of two bytes by its place
at_pairs : (bs : List ℕ) (s : ℕ) → s * 2 + 1 < length bs → at (pairs bs) s ≡ word bs (s * 2)
at_pairs [] s h = absurd (omega arith)
at_pairs (a ∷ []) s h = absurd (omega arith)
at_pairs (a ∷ b ∷ bs) zero h = refl
at_pairs (a ∷ b ∷ bs) (suc s) h =
    let two : suc s * 2 ≡ suc (suc (s * 2)) = omega arith in
    let next : suc (suc (s * 2)) + 1 ≡ suc (suc (s * 2 + 1)) = omega arith in
    rw (two, next) (at_pairs bs s (omega arith))

-- where the bytes are those of k symbols, the first k symbols are all
pub symbols-all : (q k : ℕ) (bs : List ℕ) → length bs ≡ k * symbol_bytes q → symbols_in q bs k ≡ symbols q bs
symbols-all q k bs e =
    sym (fill_by_all (symbol_at q bs) (symbols q bs) k 0 (length_symbols q k bs e) (λ s h. elim (cases_Bool (ltb 256 q)) [
      | inl t ↦ rw t (let g : length bs ≡ k * 2 = rw t at e in at_pairs bs s (omega arith))
      | inr f ↦ rw f
    ]))

-- a row of k symbols that is read from the bytes of k symbols is what those bytes are
pub row_read : (q k : ℕ) (bs row : List ℕ) → ReadFrom q bs row → length row ≡ k → length bs ≡ k * symbol_bytes q → row ≡ symbols q bs
row_read q k bs row is l e = is ∙ ap (symbols_in q bs) l ∙ symbols-all q k bs e
