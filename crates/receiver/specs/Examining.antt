-- The checks of a call, as code makes them. Assumes nothing.
--     front_checks p j bs       the checks of an offer behind the first, which is of the field, and before the last
--     Examined p j bs r row     what they find
--     Knows o p s n x           what is known of row n
--     Judges o p s k r          what the last check of an offer finds
--     Judged o p j s bs r row   what all of them find
--     read_front p s buffer     the checks of a reading behind the first
--     rebuild_front p n buffer  the checks of a rebuild behind the first and before the last
use Rattle.std.specs.Prelude.{◌≡◌, ℕ, ◌+◌, ◌*◌, true, List, [], ◌∷◌, length, is_ok, None, Option, Result, ◌==◌, nat_le, nat_lt}
use Rattle.std.specs.Option.{option_map}
use Rattle.checks.specs.Checks.{unless, first, answered, lowest, too_large}
use Rattle.code.specs.Plans.{PlanView}
use Rattle.code.specs.Rows.{Packet, Explains}
use Rattle.field.specs.Field.{Ops}
use Rattle.packet.specs.Bytes.{word}
use Rattle.packet.specs.Layout.{number_at, packet_length, carried}
use Rattle.packet.specs.Opening.{opening}
use Rattle.packet.specs.declared.Job.{Job}
use Rattle.receiver.specs.Machine.{State, count, settled, heard, known, job_checks, against, offer_checks}
use Rattle.receiver.specs.declared.fault.ReceiverFault.{ReceiverFault}
use Rattle.receiver.specs.declared.fault.ReceiverFault.TheVariants.{Packet as InPacket, Count, Symbol, Number, OtherJob, TooFew}

-- the checks of an offer between the first and the last: they look at nothing but the bytes
abbrev pub front_checks : PlanView → Job → List ℕ → List (Option ReceiverFault)
front_checks p j bs =
    option_map InPacket (opening bs)
    ∷ option_map OtherJob (first (job_checks p j bs))
    ∷ unless (nat_lt (word bs number_at) (p.m + p.r)) (Number (word bs number_at))
    ∷ option_map Symbol (lowest (too_large p.q (carried p bs).row) (length (carried p bs).row))
    ∷ []

-- the first that applies decides; where none does, the number is answered and the row is read
pub record Examined (p : PlanView) (j : Job) (bs : List ℕ) (r : Result ℕ ReceiverFault) (row : List ℕ) : Type 0 where
  pub answers : r ≡ answered (first (front_checks p j bs)) (word bs number_at)
  pub reads : first (front_checks p j bs) ≡ None → row ≡ (carried p bs).row

-- whatever message fits the stored rows, once m are stored: x is what is known of row n
abbrev pub Knows : Ops → PlanView → State → ℕ → Option (List ℕ) → Type 0
Knows o p s n x = (M : List ℕ) → (settled p s ≡ true → Explains o p M s.stored) → known o p M s n ≡ x

-- and r is what the last check of an offer of the packet k finds
abbrev pub Judges : Ops → PlanView → State → Packet → Result (Unit {0}) ReceiverFault → Type 0
Judges o p s k r =
    (M : List ℕ) → (settled p s ≡ true → Explains o p M s.stored)
    → r ≡ answered (against (heard s k.number) k (known o p M s k.number)) tt

-- and r is what all checks of an offer find; where none applies, the number is answered and the row is read
pub record Judged (o : Ops) (p : PlanView) (j : Job) (s : State) (bs : List ℕ) (r : Result ℕ ReceiverFault) (row : List ℕ) : Type 0 where
  pub answers : (M : List ℕ) → (o.size ≡ p.q → settled p s ≡ true → Explains o p M s.stored)
      → r ≡ answered (first (offer_checks o p j M s bs)) (word bs number_at)
  pub reads : is_ok r ≡ true → row ≡ (carried p bs).row

-- the checks of a reading behind the first, which look at no message
abbrev pub read_front : PlanView → State → List ℕ → List (Option ReceiverFault)
read_front p s buffer =
    unless (length buffer == p.m * p.L) (Count (p.m * p.L))
    ∷ unless (settled p s) (TooFew (count s))
    ∷ []

-- the checks of a rebuild between the first and the last, which alone asks whether the row is known
abbrev pub rebuild_front : PlanView → ℕ → List ℕ → List (Option ReceiverFault)
rebuild_front p n buffer =
    unless (nat_lt n (p.m + p.r)) (Number n)
    ∷ unless (nat_le (packet_length p) (length buffer)) (Count (packet_length p))
    ∷ []
