-- Numbers and rows of symbols as bytes. Assumes nothing.
--     words ns            the bytes of numbers of 16 bits, high byte first
--     word bs i           the number of 16 bits at byte i
--     pairs bs            the numbers that bytes are, two bytes each
--     symbol_bytes q      the bytes that a symbol takes
--     row_bytes q ys      the bytes of a row
--     low_bytes w ns      the low w bytes of numbers
--     symbols q bs        the row that bytes are
--     symbol_at q bs s    symbol s of the bytes of a row
--     symbols_in q bs k   the first k of them
--     ReadFrom q bs row   the row is what stands first in the bytes
use Rattle.std.specs.Prelude.{◌≡◌, ℕ, ◌+◌, ◌*◌, ◌/◌, ◌%◌, cond, List, [], ◌∷◌, map, length, nat_lt}
use Rattle.std.specs.List.{range_with_len}
use Rattle.checks.specs.Checks.{at}

-- the bytes of the numbers ns, two each, high byte first
abbrev pub words : List ℕ → List ℕ
words [] = []
words (n ∷ ns) = (n / 256) ∷ (n % 256) ∷ words ns

-- the number whose high byte is byte i; a byte past the end counts as 0
abbrev pub word : List ℕ → ℕ → ℕ
word bs i = at bs i * 256 + at bs (i + 1)

-- the numbers that the bytes bs are, two bytes each, high byte first
abbrev pub pairs : List ℕ → List ℕ
pairs [] = []
pairs (a ∷ []) = []
pairs (a ∷ b ∷ bs) = (a * 256 + b) ∷ pairs bs

-- a symbol of a field of q takes one byte for q up to 256, otherwise two
abbrev pub symbol_bytes : ℕ → ℕ
symbol_bytes q = cond (nat_lt 256 q) 2 1

abbrev pub low_byte : ℕ → ℕ
low_byte y = y % 256

-- the bytes of the row ys over a field of q; where a symbol takes one byte, it is the low one
abbrev pub row_bytes : ℕ → List ℕ → List ℕ
row_bytes q ys = cond (nat_lt 256 q) (words ys) (map low_byte ys)

-- the low w bytes of each of the numbers ns, the high one first, for w of 1 or 2
abbrev pub low_bytes : ℕ → List ℕ → List ℕ
low_bytes w ns = cond (nat_lt 1 w) (words ns) (map low_byte ns)

-- the row that the bytes bs are over a field of q
abbrev pub symbols : ℕ → List ℕ → List ℕ
symbols q bs = cond (nat_lt 256 q) (pairs bs) bs

-- symbol s of the bytes bs over a field of q; a byte past the end counts as 0
abbrev pub symbol_at : ℕ → List ℕ → ℕ → ℕ
symbol_at q bs s = cond (nat_lt 256 q) (word bs (s * 2)) (at bs s)

-- the first k symbols of the bytes bs
abbrev pub symbols_in : ℕ → List ℕ → ℕ → List ℕ
symbols_in q bs k = map (symbol_at q bs) (range_with_len 0 k)

-- the row holds the first symbols of the bytes bs, as many as it takes
abbrev pub ReadFrom : ℕ → List ℕ → List ℕ → Type 0
ReadFrom q bs row = row ≡ symbols_in q bs (length row)
