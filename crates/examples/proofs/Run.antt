-- The run of the examples, by computing. Assumes nothing.
use Rattle.std.proofs.Common.{◌≡◌, ℕ, List, [], ◌∷◌, drop, refl, arith}
use Rattle.field.specs.Rows.{minus}
use Rattle.code.specs.Rows.{row, Message, Explains}
use Rattle.field.specs.Field.{inverse_by}
use Rattle.packet.specs.Layout.{laid}
use Rattle.prime.specs.Prime.{prime}
use Rattle.receiver.specs.Machine.{Call, Answer, State, opened, known, rule, Step}
use Rattle.receiver.specs.Runs.{Runs}
use Rattle.examples.specs.Cases.{two_and_one, packet, job, a_run, after_the_run}

-- every step is by the message 3, 5, which fits what is stored
module _ (s : State) (fits : Explains prime two_and_one (3 ∷ 5 ∷ []) s.stored) (c : Call) (a : Answer) (after : List ℕ) (t : State) where
  by_message : rule prime two_and_one job (3 ∷ 5 ∷ []) s c ≡ record { answer = a; after = after; state = t }
      → Step prime two_and_one job s c a after t
  by_message e = record { M = 3 ∷ 5 ∷ []; fits = λ _ _. fits; ruled = e }

message : Message two_and_one (3 ∷ 5 ∷ [])
message = record { long = refl; elements = (omega arith, (omega arith, tt)) }

none : Explains prime two_and_one (3 ∷ 5 ∷ []) []
none = record { message = message; fits = tt }

one : Explains prime two_and_one (3 ∷ 5 ∷ []) (packet 1 5 ∷ [])
unfolding row minus inverse_by
one = record { message = message; fits = (refl, tt) }

pub two : Explains prime two_and_one (3 ∷ 5 ∷ []) (packet 1 5 ∷ packet 2 135 ∷ [])
unfolding row minus inverse_by
two = record { message = message; fits = (refl, (refl, tt)) }

after_two : Runs prime two_and_one job (record { stored = packet 1 5 ∷ packet 2 135 ∷ []; later = [] }) (drop 7 a_run) after_the_run
unfolding row minus inverse_by laid known
after_two = (_, by_message _ two _ _ _ _ refl, (_, by_message _ two _ _ _ _ refl, (_, by_message _ two _ _ _ _ refl, refl)))

after_one : Runs prime two_and_one job (record { stored = packet 1 5 ∷ []; later = [] }) (drop 1 a_run) after_the_run
unfolding row minus inverse_by laid known
after_one = (
  _,
  by_message _ one _ _ _ _ refl,
  (
    _,
    by_message _ one _ _ _ _ refl,
    (
      _,
      by_message _ one _ _ _ _ refl,
      (
        _,
        by_message _ one _ _ _ _ refl,
        (
          _,
          by_message _ one _ _ _ _ refl,
          (_, by_message _ one _ _ _ _ refl, after_two),
        ),
      ),
    ),
  ),
)

pub run : Runs prime two_and_one job opened a_run after_the_run
unfolding row minus inverse_by laid known
run = (_, by_message _ none _ _ _ _ refl, after_one)
