-- Tables of a field of polynomials: the powers of x, and the exponent of each element but 0. Assumes nothing.
--     times_x m d v            x times v, reduced by m
--     powers_from m d n v      n numbers from v on, each x times the one before
--     place a xs               where a stands in xs
--     places xs n a            where the n numbers from a on stand in xs
--     power_table m d          the powers of x, twice all of them
--     exponent_table m d       which power of x each element is; that of 0 is not used
use Rattle.std.specs.Prelude.{ℕ, zero, suc, ◌-◌, ◌*◌, ◌^◌, cond, List, [], ◌∷◌, ◌==◌, bit_xor, nat_lt}

-- x times v, reduced by m
abbrev pub times_x : ℕ → ℕ → ℕ → ℕ
times_x m d v = cond (nat_lt (2 * v) (2 ^ d)) (2 * v) (bit_xor (2 * v) m)

-- n numbers from v on, each x times the one before
abbrev pub powers_from : ℕ → ℕ → ℕ → ℕ → List ℕ
powers_from m d zero v = []
powers_from m d (suc n) v = v ∷ powers_from m d n (times_x m d v)

-- where a stands in the list
abbrev pub place : ℕ → List ℕ → ℕ
place a [] = 0
place a (x ∷ xs) = cond (a == x) 0 (suc (place a xs))

-- where the n numbers from a on stand in the list
abbrev pub places : List ℕ → ℕ → ℕ → List ℕ
places xs zero a = []
places xs (suc n) a = place a xs ∷ places xs n (suc a)

-- the powers of x, twice all of them
abbrev pub power_table : ℕ → ℕ → List ℕ
power_table m d = powers_from m d (2 * (2 ^ d - 1)) 1

-- which power of x each element is
abbrev pub exponent_table : ℕ → ℕ → List ℕ
exponent_table m d = 0 ∷ places (powers_from m d (2 ^ d - 1) 1) (2 ^ d - 1) 1
