-- The tests of the inverses and of the step 3 of the field of 257 elements, which antt computes. Assumes nothing.
use Rattle.std.specs.Prelude.{◌≡◌, ℕ, ◌<◌, nat_eq, refl}
use Rattle.std.proofs.Common.{sym, ap, ◌∙◌, arith, eqb→eq, lit<, lit≤}
use Rattle.checks.specs.Checks.{at}
use Rattle.field.specs.Field.{Lawful, Steps}
use Rattle.field.proofs.Powers.{steps_from}
use Rattle.field.proofs.Tested.{at as passed}
use Rattle.prime.specs.Prime.{prime, prime_size, inverse_table}
use Rattle.prime.specs.Remainders.{lawful_by_table, inverse_by_table}

pub lawful : Lawful prime
lawful = lawful_by_table 256 (inverse_table prime_size prime_size 0) (lit≤ tt) (lit≤ tt) tt refl

inverse_is : (a : ℕ) → a < prime_size → at (inverse_table prime_size prime_size 0) a ≡ prime.inverse a
inverse_is = inverse_by_table 256 (inverse_table prime_size prime_size 0) (lit≤ tt) (lit≤ tt) tt refl

-- the table of the code has the inverses of all but the last
pub inverse_low : (a : ℕ) → a < 256 → at (inverse_table prime_size 256 0) a ≡ prime.inverse a
inverse_low a h =
    eqb→eq _ _ (passed 256 (λ a. nat_eq (at (inverse_table prime_size 256 0) a) (at (inverse_table prime_size prime_size 0) a)) tt a h)
    ∙ inverse_is a (omega (arith, h))

-- the last element is its own inverse
pub inverse_last : (a : ℕ) → a ≡ 256 → 256 ≡ prime.inverse a
inverse_last a e = inverse_is 256 (lit< tt) ∙ ap prime.inverse (sym e)

pub steps : Steps prime 3 256
steps = steps_from lawful 3 255 refl tt (lit< tt)
