-- The symbols of a packed job are elements of the plan's field. Assumes nothing.
use Rattle.std.proofs.Common.{ℕ, zero, suc, ◌-◌, ◌*◌, ◌<◌, ◌≤◌, List, length, replicate, arith}
use Rattle.std.specs.List.{flat_map, AllByRecursion}
use Rattle.std.proofs.ByRecursion.{All-append, All-weaker}
use Rattle.std.proofs.lemmas.Bool.Decides.{nat_tests}
use Rattle.job.specs.Packing.{digits, symbol_limit, symbols_a_byte, packed}
use Rattle.job.proofs.Returning.{under_joined}
use Rattle.job.proofs.Sizes.{limit_least}

-- a job's symbols are no larger than the field
limit_fits : (q : ℕ) → 2 ≤ q → symbol_limit q ≤ q
limit_fits q h = grind (arith, nat_tests)

all_zeros : (q n : ℕ) → 0 < q → AllByRecursion (λ x. x < q) (replicate n 0)
all_zeros q zero h = tt
all_zeros q (suc n) h = (h, all_zeros q n h)

pub packed-elements : (q : ℕ) → 2 ≤ q → (job : List ℕ) (total : ℕ) → AllByRecursion (λ x. x < q) (packed q job total)
packed-elements q h job total =
    All-append (λ x. x < q) (flat_map (digits (symbol_limit q) (symbols_a_byte q)) job) (replicate (total - length job * symbols_a_byte q) 0)
    (All-weaker (λ d. d < symbol_limit q) (λ x. x < q) (λ d small. omega (arith, limit_fits q h)) _ (under_joined (symbol_limit q) (symbols_a_byte q) job (omega (arith, limit_least q))))
    (all_zeros q _ (omega arith))
