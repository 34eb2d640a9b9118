-- The table of worked examples stands. Assumes nothing.
use Rattle.std.proofs.Common.{◌≡◌, ℕ, ◌<◌, [], ◌∷◌, refl, arith}
use Rattle.binary.specs.Binary.{byte, reduced, poly_product, rest}
use Rattle.binary.specs.Instances.{byte_tested}
use Rattle.binary.specs.Lookup as binary
use Rattle.field.specs.Rows.{minus}
use Rattle.code.specs.Rows.{row}
use Rattle.field.specs.Field.{inverse_by}
use Rattle.prime.specs.Prime.{prime}
use Rattle.prime.specs.Instance as prime
use Rattle.examples.specs.Cases.{two_and_one, two_and_two, one_and_one, packet, ReadsAs}
use Rattle.examples.specs.Table.{WorkedExamples}
use Rattle.examples.proofs.Plans.{made_sound, reads_as}
use Rattle.examples.proofs.Run.{two, run}

not_same : (a b : ℕ) → a < b → ¬ (b ≡ a)
not_same a b h e = omega arith

row_and_check : ReadsAs prime two_and_one (packet 1 5 ∷ packet 2 135 ∷ []) (3 ∷ 5 ∷ [])
row_and_check =
    reads_as prime prime.lawful two_and_one (made_sound prime prime.lawful (0 ∷ 1 ∷ []) (2 ∷ []) refl) refl _ refl (
      record { inside = omega arith; long = refl; elements = (omega arith, tt) },
      (record { inside = omega arith; long = refl; elements = (omega arith, tt) }, tt),
    )
    ((not_same 1 2 (omega arith), tt), (tt, tt)) refl (3 ∷ 5 ∷ []) two

two_checks : ReadsAs byte two_and_two (packet 2 123 ∷ packet 3 245 ∷ []) (1 ∷ 2 ∷ [])
unfolding row minus inverse_by reduced poly_product rest
two_checks =
    reads_as byte (binary.lawful byte_tested) two_and_two (made_sound byte (binary.lawful byte_tested) (0 ∷ 1 ∷ []) (2 ∷ 3 ∷ []) refl) refl _ refl (
      record { inside = omega arith; long = refl; elements = (omega arith, tt) },
      (record { inside = omega arith; long = refl; elements = (omega arith, tt) }, tt),
    )
    ((not_same 2 3 (omega arith), tt), (tt, tt)) refl (1 ∷ 2 ∷ [])
    (record { message = record { long = refl; elements = (omega arith, (omega arith, tt)) }; fits = (refl, (refl, tt)) })

one_check : ReadsAs prime one_and_one (packet 1 1 ∷ []) (256 ∷ [])
unfolding row minus inverse_by
one_check =
    reads_as prime prime.lawful one_and_one (made_sound prime prime.lawful (0 ∷ []) (256 ∷ []) refl) refl _ refl
    (record { inside = omega arith; long = refl; elements = (omega arith, tt) }, tt)
    (tt, tt) refl (256 ∷ [])
    (record { message = record { long = refl; elements = (omega arith, tt) }; fits = (refl, tt) })

pub worked_examples : WorkedExamples
unfolding row minus inverse_by reduced poly_product rest
worked_examples = record {
  byte_product = refl;
  byte_inverses = refl;
  nibble_product = refl;
  nibble_inverse = refl;
  prime_product = refl;
  prime_inverses = refl;
  two_and_one_is_made = refl;
  check_of_3_and_5 = refl;
  a_row_and_the_check_read_as_3_and_5 = row_and_check;
  two_and_two_is_made = refl;
  checks_of_1_and_2 = refl;
  two_checks_read_as_1_and_2 = two_checks;
  one_and_one_is_made = refl;
  a_check_reads_as_256 = one_check;
  symbol_256_is_no_byte = refl;
  answers_of_a_run = run;
  its_fault_numbers = refl;
}
