-- The laws of bytes and of symbols as cells. Assumes nothing.
use Rattle.std.proofs.Common.{◌≡◌, ℕ, ◌<◌, List, [], ◌∷◌, length, take, drop, None, Some, Option, refl, arith}
use Rattle.std.specs.Option.{option_and_then}
use Rattle.dialog.specs.Cells.{byte, symbol, before, paired, byte_in, symbol_in, byte_row, symbol_row, byte_text, symbol_text, Lawful}

-- a row is read as its first byte, and what is behind it
byte_more : (xs : List ℕ) → 0 < length xs → byte_row xs ≡ before (byte_in (take 2 xs)) (byte_row (drop 2 xs))
byte_more [] h = absurd (omega arith)
byte_more (a ∷ []) h = refl
byte_more (a ∷ b ∷ xs) h = refl

-- two bytes in front make a symbol in front
symbol_two : (high low : Option ℕ) (rest : Option (List ℕ)) →
    option_and_then (paired symbol) (before high (before low rest))
    ≡ before (option_and_then (λ h. option_and_then (λ l. symbol h l) low) high) (option_and_then (paired symbol) rest)
symbol_two None low rest = refl
symbol_two (Some h) None rest = refl
symbol_two (Some h) (Some l) None = refl
symbol_two (Some h) (Some l) (Some ws) = refl

-- a byte is left over, where it and what is behind it make no symbols
left_over : (high : Option ℕ) (rest symbols : Option (List ℕ)) →
    ((h : ℕ) → option_and_then (paired symbol) (before (Some h) rest) ≡ None) →
    option_and_then (paired symbol) (before high rest) ≡ before (option_and_then (λ h. None) high) symbols
left_over None rest symbols none = refl
left_over (Some h) rest symbols none = none h

-- a row is read as its first symbol, and what is behind it
symbol_more : (xs : List ℕ) → 0 < length xs → symbol_row xs ≡ before (symbol_in (take 4 xs)) (symbol_row (drop 4 xs))
symbol_more [] h = absurd (omega arith)
symbol_more (a ∷ []) h = refl
symbol_more (a ∷ b ∷ []) h = left_over (byte a b) (Some []) (Some []) (λ v. refl)
symbol_more (a ∷ b ∷ c ∷ []) h = left_over (byte a b) None (Some []) (λ v. refl)
symbol_more (a ∷ b ∷ c ∷ d ∷ xs) h = symbol_two (byte a b) (byte c d) (byte_row xs)

-- the laws of bytes
pub byte_lawful : Lawful 2 byte_in byte_row byte_text
byte_lawful = record { two_at_least = omega arith; digits = λ b. refl; row_none = refl; row_more = byte_more }

-- the laws of symbols
pub symbol_lawful : Lawful 4 symbol_in symbol_row symbol_text
symbol_lawful = record { two_at_least = omega arith; digits = λ s. refl; row_none = refl; row_more = symbol_more }
