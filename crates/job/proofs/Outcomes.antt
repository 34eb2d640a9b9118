-- What packing and unpacking end with, once no check applies. Assumes nothing.
use Rattle.std.proofs.Common.{◌≡◌, ℕ, ◌*◌, ◌^◌, ◌<◌, ◌≤◌, List, ◌++◌, length, take, drop, None, Ok, Result, sym, ap, ◌∙◌, div-mul-le_self, arith}
use Rattle.std.proofs.lemmas.Nat.{mul-le}
use Rattle.std.proofs.lemmas.List.FromFn.{length-map-range_with_len}
use Rattle.std.proofs.lemmas.List.{take_at, length-take-le}
use Rattle.std.proofs.lemmas.Bool.{eq-eqb, eqb-true, le-leb, lt-leb, leb-true, leb-false}
use Rattle.std.specs.Option.{option_map}
use Rattle.std.specs.Int.Digits.{number_from_digits}
use Rattle.std.specs.List.{AllByRecursion}
use Rattle.std.proofs.ByRecursion.{All-from_get_or}
use Rattle.checks.proofs.Lowest.{lowest_none, none_passes}
use Rattle.checks.proofs.Order.{first_none, skip, unless_true, unless_none, mapped_none, answered_ok, left_none}
use Rattle.checks.specs.Checks.{at, first, lowest, too_large}
use Rattle.code.specs.Plans.{PlanView, view}
use Rattle.code.specs.declared.plan.Plan.{Plan}
use Rattle.job.specs.Calls.{total, capacity_of, remains, pack_checks, unpack_checks, checked, GivesBack, Packing, Unpacking}
use Rattle.job.specs.Packing.{byte_values, symbols_a_byte, symbol_limit, laid, slot, lifted, packed}
use Rattle.job.specs.declared.fault.JobFault.{JobFault}
use Rattle.job.specs.declared.fault.JobFault.TheVariants.{Symbol, Rest}
use Rattle.job.proofs.Behind.{none_behind, zero_behind}
use Rattle.job.proofs.Returning.{length-laid, laid_small, laid-zero, lifted-laid, laid-lifted}
use Rattle.job.proofs.Sizes.{limit_power, limit_least}

-- what the capacity allows fits
fits : (p : PlanView) (n : ℕ) → n ≤ capacity_of p → n * symbols_a_byte p.q ≤ total p
fits p n few =
    let k = symbols_a_byte p.q in
    omega (arith, mul-le n k (capacity_of p) k few (omega arith), div-mul-le_self (total p) k)

positive : (q : ℕ) → 0 < symbol_limit q
positive q = omega (arith, limit_least q)

-- a job that fits comes back
given_back : (p : PlanView) (job : List ℕ) → length job ≤ capacity_of p → AllByRecursion (λ v. v < byte_values) job → GivesBack p job (packed p.q job (total p))
given_back p job few bytes =
    let q = p.q in
    let b = symbol_limit q in
    let k = symbols_a_byte q in
    let message = packed q job (total p) in
    let enough = fits p (length job) few in
    record {
      accepted = λ room within.
          skip _ _ (unless_true _ _ (eq-eqb (length message) (total p) (length-laid b k (total p) (positive q) (limit_power q) job enough)))
          ∙ skip _ _ (unless_true _ _ (le-leb (length job) (capacity_of p) few))
          ∙ skip _ _ (unless_true _ _ (le-leb (length job) room within))
          ∙ skip _ _ (ap (option_map Symbol) (lowest_none (too_large b message) (length job * k)
          (λ i h. lt-leb b (at message i) (laid_small b k (total p) (positive q) (limit_power q) job enough i h))))
          ∙ skip _ _ (ap (option_map Rest) (none_behind (length job * k) message (length message) (λ i behind below. laid-zero b k (total p) (positive q) (limit_power q) job enough i behind)));
      same = lifted-laid b k (total p) (positive q) (limit_power q) job enough bytes;
    }

pub packing_done : (plan : Plan) (job old new : List ℕ) (b k : ℕ) → b ≡ symbol_limit (view plan).q → k ≡ symbols_a_byte (view plan).q
    → ◌≡◌ {A = Result (Unit {0}) JobFault} (Ok tt) (checked (pack_checks (view plan) (length job) (length old)))
    → ((i : ℕ) → at job i < byte_values) → new ≡ laid b k job (length old) → Packing plan job old new (Ok tt)
packing_done plan job old new b k is_b is_k ok bytes is =
    let p = view plan in
    let none = (answered_ok _ _ _ ok).0 in
    let checks = first_none (pack_checks p (length job) (length old)) none in
    let long : length old ≡ total p = eqb-true _ _ (unless_none _ _ checks.0) in
    let whole : new ≡ packed p.q job (total p) = rw (is_b, is_k, long) at is in
    record {
      answers = ok;
      leaves = whole ∙ sym (left_none _ _ _ none);
      back = rw whole (given_back p job (leb-true _ _ (unless_none _ _ checks.1.0)) (All-from_get_or (λ v. v < byte_values) job 0 (λ i _. bytes i)));
    }

-- a message that passes the checks
module _ (plan : Plan) (message old : List ℕ) (n b k : ℕ) (is_b : b ≡ symbol_limit (view plan).q) (is_k : k ≡ symbols_a_byte (view plan).q)
    (ok : ◌≡◌ {A = Result (Unit {0}) JobFault} (Ok tt) (checked (unpack_checks (view plan) message n (length old)))) where
  none : first (unpack_checks (view plan) message n (length old)) ≡ None
  none = (answered_ok _ _ _ ok).0

  checks : AllByRecursion (λ o. o ≡ None) (unpack_checks (view plan) message n (length old))
  checks = first_none (unpack_checks (view plan) message n (length old)) none

  long : length message ≡ total (view plan)
  long = eqb-true _ _ (unless_none _ _ checks.0)

  few : n * k ≤ total (view plan)
  few = rw is_k (fits (view plan) n (leb-true _ _ (unless_none _ _ checks.1.0)))

  part : length (take n old) ≡ n
  part = length-take-le n old (leb-true _ _ (unless_none _ _ checks.1.1.0))

  some : 0 < b
  some = rw is_b (positive (view plan).q)

  whole : b ^ k ≡ byte_values
  whole = rw (is_b, is_k) (limit_power (view plan).q)

  small : (i : ℕ) → i < n * k → at message i < b
  small i below =
      let none_large : lowest (too_large b message) (n * k) ≡ None = rw (is_b, is_k) (mapped_none Symbol _ checks.1.1.1.0) in
      leb-false b (at message i) (none_passes (too_large b message) (n * k) i none_large below)

  zeros : (i : ℕ) → n * k ≤ i → i < total (view plan) → at message i ≡ 0
  zeros i behind below =
      let none_left : lowest (remains (n * k) message) (length message) ≡ None = rw is_k (mapped_none Rest _ checks.1.1.1.1.0) in
      zero_behind (n * k) message (length message) i none_left behind (rw long below)

  -- the symbols that are lifted
  pub lifting_small : (i : ℕ) → i < length (take n old) * k → at message i < b
  lifting_small = rw part small

  pub unpacking_done : (job : List ℕ) → job ≡ lifted b k message (length (take n old)) → Unpacking plan message n old (job ++ drop n old) (Ok tt)
  unpacking_done job lifts =
      let new = job ++ drop n old in
      let is : new ≡ lifted b k message n ++ drop n old = ap (λ xs. xs ++ drop n old) (rw part at lifts) in
      let front = ap (take n) is ∙ take_at (lifted b k message n) (drop n old) n (length-map-range_with_len (λ i. number_from_digits b (slot k message i)) 0 n) in
      let again : laid b k (take n new) (total (view plan)) ≡ message =
      ap (λ xs. laid b k xs (total (view plan))) front ∙ laid-lifted b k (total (view plan)) some whole message n long few small zeros in
      record {
        answers = ok;
        leaves = (rw (is_b, is_k) at is) ∙ sym (left_none _ _ _ none);
        back = rw (is_b, is_k) at again;
      }
