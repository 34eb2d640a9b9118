-- The three ways in which a byte fills symbols. Assumes nothing.
use Rattle.std.proofs.Common.{◌≡◌, ℕ, ◌^◌, ◌≤◌, arith}
use Rattle.std.proofs.lemmas.Bool.Decides.{nat_tests}
use Rattle.job.specs.Packing.{symbols_a_byte, symbol_limit}

-- the symbols of a byte have all its values
pub limit_power : (q : ℕ) → symbol_limit q ^ symbols_a_byte q ≡ 256
limit_power q = grind (arith, nat_tests)

pub limit_least : (q : ℕ) → 2 ≤ symbol_limit q
limit_least q = grind (arith, nat_tests)
