-- How the bytes of a job lie in a message. Assumes nothing.
--     byte_values                 the values of eight bits, beside nibble_values of four and bit_values of one
--     symbols_a_byte q            the symbols that a byte fills over a field of q
--     symbol_limit q              what a symbol of a job stays below
--     digits b k v                the k digits of v in base b, the highest first
--     laid b k job total          the k digits of each byte of the job, then zeros up to total symbols
--     slot k message i            the k symbols of byte i
--     lifted b k message n        the numbers that the first n times k symbols write
--     packed q job total          the message of total symbols that the job is packed into
--     unpacked q message n        the first n bytes of a message
use Rattle.std.specs.Prelude.{ℕ, zero, suc, ◌-◌, ◌*◌, ◌/◌, ◌%◌, cond, List, [], ◌∷◌, ◌++◌, map, length, take, drop, replicate, nat_le}
use Rattle.std.specs.List.{range_with_len, flat_map}
use Rattle.std.specs.Int.Digits.{number_from_digits}

abbrev pub byte_values : ℕ
byte_values = 256

abbrev pub nibble_values : ℕ
nibble_values = 16

abbrev pub bit_values : ℕ
bit_values = 2

-- a byte fills one symbol if q is 256 or more, two if q is 16 to 255, otherwise eight
abbrev pub symbols_a_byte : ℕ → ℕ
symbols_a_byte q = cond (nat_le byte_values q) 1 (cond (nat_le nibble_values q) 2 8)

-- such a symbol holds the byte, four bits of it, or one
abbrev pub symbol_limit : ℕ → ℕ
symbol_limit q = cond (nat_le byte_values q) byte_values (cond (nat_le nibble_values q) nibble_values bit_values)

-- the k digits of v in base b, the highest first
abbrev pub digits : ℕ → ℕ → ℕ → List ℕ
digits b zero v = []
digits b (suc k) v = digits b k (v / b) ++ v % b ∷ []

-- the k digits of each byte of the job, then zeros up to total symbols
abbrev pub laid : ℕ → ℕ → List ℕ → ℕ → List ℕ
laid b k job total = flat_map (digits b k) job ++ replicate (total - length job * k) 0

-- the k symbols of byte i
abbrev pub slot : ℕ → List ℕ → ℕ → List ℕ
slot k message i = take k (drop (i * k) message)

-- byte i is the number that its k symbols write in base b
abbrev pub lifted : ℕ → ℕ → List ℕ → ℕ → List ℕ
lifted b k message n = map (λ i. number_from_digits b (slot k message i)) (range_with_len 0 n)

-- the message of total symbols that the job is packed into
abbrev pub packed : ℕ → List ℕ → ℕ → List ℕ
packed q = laid (symbol_limit q) (symbols_a_byte q)

-- the first n bytes of a message
abbrev pub unpacked : ℕ → List ℕ → ℕ → List ℕ
unpacked q = lifted (symbol_limit q) (symbols_a_byte q)
