-- Bytes and symbols as words: digits of base sixteen, two a byte, four a symbol, high ones first, and a dash for none. Assumes nothing.
--     digit c               the value of the digit c, of either case
--     letter d              how a digit of value d is written
--     byte high low         the byte that two digits write
--     symbol high low       the symbol of two bytes
--     before o rest         what o holds, in front of what rest holds
--     paired f xs           f of each two of xs, if none is left over and f answers all
--     byte_in, symbol_in    the byte or symbol that digits write, if they are two, or four
--     byte_row, symbol_row  the bytes or symbols of a row of digits
--     bytes word            the bytes that a word stands for, if it is readable
--     symbols word          the symbols that a word stands for, if it is readable
--     byte_text b           the digits of a byte
--     symbol_text s         the digits of a symbol
--     text f xs             the word that stands for xs, of which each is written by f
use Rattle.std.specs.Prelude.{◌≡◌, ℕ, ◌+◌, ◌-◌, ◌*◌, ◌/◌, ◌%◌, ◌<◌, ◌≤◌, Bool, cond, ◌&&◌, List, [], ◌∷◌, ◌++◌, length, take, drop, Some, None, Option, ◌==◌, nat_lt, slice_index}
use Rattle.std.specs.Int.{is_in_range}
use Rattle.std.specs.List.{flat_map}
use Rattle.std.specs.Option.{option_map, option_and_then}

-- the value of the digit c: 0 to 9, a to f, A to F
abbrev pub digit : ℕ → Option ℕ
digit c =
    cond (is_in_range 48 57 c) (Some (c - 48))
    (cond (is_in_range 97 102 c) (Some (c - 97 + 10))
    (cond (is_in_range 65 70 c) (Some (c - 65 + 10)) None))

-- 0 to 9, a to f
abbrev pub letter : ℕ → ℕ
letter d = cond (nat_lt d 10) (48 + d) (87 + d)

-- the byte that two digits write
abbrev pub byte : ℕ → ℕ → Option ℕ
byte high low = option_and_then (λ h. option_map (λ l. h * 16 + l) (digit low)) (digit high)

-- the symbol of two bytes
abbrev pub symbol : ℕ → ℕ → Option ℕ
symbol high low = Some (high * 256 + low)

-- what o holds, in front of what rest holds
abbrev pub before : {A : Type 0} → Option A → Option (List A) → Option (List A)
before o rest = option_and_then (λ v. option_map (λ vs. v ∷ vs) rest) o

-- f of each two of xs, if none is left over and f answers all
abbrev pub paired : (ℕ → ℕ → Option ℕ) → List ℕ → Option (List ℕ)
paired f [] = Some []
paired f (x ∷ []) = None
paired f (x ∷ y ∷ xs) = before (f x y) (paired f xs)

-- the byte that digits write, if they are two
abbrev pub byte_in : List ℕ → Option ℕ
byte_in (a ∷ b ∷ []) = byte a b
byte_in _ = None

-- the symbol that digits write, if they are four
abbrev pub symbol_in : List ℕ → Option ℕ
symbol_in digits = option_and_then (λ high. option_and_then (λ low. symbol high low) (byte_in (drop 2 digits))) (byte_in (take 2 digits))

-- the bytes of a row of digits
abbrev pub byte_row : List ℕ → Option (List ℕ)
byte_row digits = paired byte digits

-- the symbols of a row of digits
abbrev pub symbol_row : List ℕ → Option (List ℕ)
symbol_row digits = option_and_then (paired symbol) (byte_row digits)

-- the word is a dash alone
abbrev pub dash : List ℕ → Bool
dash word = length word == 1 && slice_index word 0 == 45

-- a dash stands for none, an empty word for nothing, and any other word is read by f
abbrev pub dashed : {A : Type 0} → (List ℕ → Option (List A)) → List ℕ → Option (List A)
dashed f word = cond (dash word) (Some []) (cond (length word == 0) None (f word))

-- the bytes that a word stands for
abbrev pub bytes : List ℕ → Option (List ℕ)
bytes word = dashed byte_row word

-- the symbols that a word stands for
abbrev pub symbols : List ℕ → Option (List ℕ)
symbols word = dashed symbol_row word

-- the digits of a byte
abbrev pub byte_text : ℕ → List ℕ
byte_text b = letter (b / 16) ∷ letter (b % 16) ∷ []

-- the digits of a symbol
abbrev pub symbol_text : ℕ → List ℕ
symbol_text s = byte_text (s / 256) ++ byte_text (s % 256)

-- the word that stands for xs, of which each is written by f
abbrev pub text : {A : Type 0} → (A → List ℕ) → List A → List ℕ
text f xs = cond (length xs == 0) (45 ∷ []) (flat_map f xs)

-- the word stands for xs, as `read` reads it too
pub record Spells {A : Type 0} (read : List ℕ → Option (List A)) (f : A → List ℕ) (xs : List A) (word : List ℕ) : Type 0 where
  pub spelled : word ≡ text f xs
  pub back : read word ≡ Some xs

-- a kind of cell is written by n digits each, and a row of digits is read a cell at a time
pub record Lawful {A : Type 0} (n : ℕ) (one : List ℕ → Option A) (row : List ℕ → Option (List A)) (written : A → List ℕ)
    : Type 0 where
  pub two_at_least : 2 ≤ n
  pub digits : (x : A) → length (written x) ≡ n
  pub row_none : row [] ≡ Some []
  pub row_more : (xs : List ℕ) → 0 < length xs → row xs ≡ before (one (take n xs)) (row (drop n xs))
