-- The worked examples as one table: small cases of the rules, with the numbers that come out of them. Assumes nothing.
use Rattle.std.specs.Prelude.{◌≡◌, [], ◌∷◌, map, Some}
use Rattle.std.specs.Option.{option_map}
use Rattle.binary.specs.Binary.{byte, nibble}
use Rattle.checks.specs.Checks.{first}
use Rattle.checks.specs.declared.fault.Layer.TheVariants.{Job}
use Rattle.code.specs.Rows.{row}
use Rattle.job.specs.Calls.{unpack_checks}
use Rattle.job.specs.Faults.{job_fault}
use Rattle.prime.specs.Prime.{prime}
use Rattle.receiver.specs.Faults.{receiver_fault}
use Rattle.receiver.specs.Machine.{opened}
use Rattle.receiver.specs.Runs.{Runs}
use Rattle.receiver.specs.declared.fault.ReceiverFault.TheVariants.{Repeated, Contradicts, TooFew}
use Rattle.examples.specs.Cases.{IsMade, two_and_one, two_and_two, one_and_one, packet, ReadsAs, job, a_run, after_the_run}

pub record WorkedExamples : Type 0 where
  pub byte_product : byte.product 2 128 ≡ 29
  pub byte_inverses : map byte.inverse (2 ∷ 3 ∷ []) ≡ 142 ∷ 244 ∷ []
  pub nibble_product : nibble.product 2 8 ≡ 3
  pub nibble_inverse : nibble.inverse 2 ≡ 9
  pub prime_product : prime.product 16 16 ≡ 256
  pub prime_inverses : map prime.inverse (2 ∷ 3 ∷ []) ≡ 129 ∷ 86 ∷ []
  pub two_and_one_is_made : IsMade prime (0 ∷ 1 ∷ []) (2 ∷ [])
  pub check_of_3_and_5 : row prime two_and_one (3 ∷ 5 ∷ []) 2 ≡ 135 ∷ []
  pub a_row_and_the_check_read_as_3_and_5 : ReadsAs prime two_and_one (packet 1 5 ∷ packet 2 135 ∷ []) (3 ∷ 5 ∷ [])
  pub two_and_two_is_made : IsMade byte (0 ∷ 1 ∷ []) (2 ∷ 3 ∷ [])
  pub checks_of_1_and_2 : map (row byte two_and_two (1 ∷ 2 ∷ [])) (2 ∷ 3 ∷ []) ≡ (123 ∷ []) ∷ (245 ∷ []) ∷ []
  pub two_checks_read_as_1_and_2 : ReadsAs byte two_and_two (packet 2 123 ∷ packet 3 245 ∷ []) (1 ∷ 2 ∷ [])
  pub one_and_one_is_made : IsMade prime (0 ∷ []) (256 ∷ [])
  pub a_check_reads_as_256 : ReadsAs prime one_and_one (packet 1 1 ∷ []) (256 ∷ [])
  pub symbol_256_is_no_byte : option_map job_fault (first (unpack_checks one_and_one (256 ∷ []) 1 1))
      ≡ Some (record { layer = Job; number = 16; place = 0 })
  pub answers_of_a_run : Runs prime two_and_one job opened a_run after_the_run
  pub its_fault_numbers : map (λ f. (receiver_fault f).number) (Repeated 1 ∷ Contradicts 0 ∷ TooFew 1 ∷ []) ≡ 12 ∷ 13 ∷ 14 ∷ []
