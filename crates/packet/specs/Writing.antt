-- Writing a packet, and that it opens again. Assumes nothing.
use Rattle.std.specs.Prelude.{◌≡◌, ℕ, ◌<◌, List, [], ◌∷◌, ◌++◌, length, take, drop, IfOk, None, Option, Result, ◌==◌, nat_le, nat_lt}
use Rattle.std.specs.List.{AllByRecursion}
use Rattle.checks.specs.Checks.{unless, first, answered, left}
use Rattle.code.specs.Plans.{PlanView}
use Rattle.packet.specs.Layout.{packet_length, laid, Headed, carried}
use Rattle.packet.specs.Opening.{opening, opened}
use Rattle.packet.specs.declared.Job.{Job}
use Rattle.packet.specs.declared.fault.PacketFault.{PacketFault}
use Rattle.packet.specs.declared.fault.PacketFault.TheVariants.{Count}

-- the checks in their order, for the row ys and the buffer old: the first that applies decides
abbrev pub writing : PlanView → List ℕ → List ℕ → Option PacketFault
writing p ys old = first (
    unless (length ys == p.L) (Count p.L)
    ∷ unless (nat_le (packet_length p) (length old)) (Count (packet_length p))
    ∷ []
    )

-- the buffer old with the packet in front, and all as it was behind it
abbrev pub written : PlanView → Job → ℕ → List ℕ → List ℕ → List ℕ
written p j n ys old = laid p j n ys ++ drop (packet_length p) old

-- opening the bytes bs gives back packet n of this job with the row ys, a data packet if n is below m
pub record Reopens (p : PlanView) (j : Job) (n : ℕ) (ys bs : List ℕ) : Type 0 where
  pub opens : opening bs ≡ None
  pub kind : (opened bs).is_data ≡ nat_lt n p.m
  pub headed : Headed p j bs
  pub number : (carried p bs).number ≡ n
  pub row : (carried p bs).row ≡ ys

-- the packet is laid in front of the buffer old, and a row of elements is found there again
pub record Lays (p : PlanView) (j : Job) (n : ℕ) (ys old new : List ℕ) : Type 0 where
  pub leaves : new ≡ written p j n ys old
  pub reopens : AllByRecursion (λ y. y < p.q) ys → Reopens p j n ys (take (packet_length p) new)

-- what writing packet n of this job with the row ys into the buffer old answers, and what it leaves there
pub record Writes (p : PlanView) (j : Job) (n : ℕ) (ys old : List ℕ) (r : Result ℕ PacketFault) (new : List ℕ) : Type 0 where
  pub answers : r ≡ answered (writing p ys old) (packet_length p)
  pub leaves : new ≡ left (writing p ys old) old (written p j n ys old)
  pub reopens : IfOk r (λ _. AllByRecursion (λ y. y < p.q) ys → Reopens p j n ys (take (packet_length p) new))
