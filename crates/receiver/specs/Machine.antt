-- The machine that a receiver is held to: its state, and its answer to each call. Assumes nothing.
--     Call, Answer            a call with what its buffer holds before; what it answers
--     State                   the first m accepted packets, and the numbers accepted later
--     settled p s             m are accepted, so that the message is known
--     heard s n               number n is accepted
--     known o p M s n         the row of number n, where it is known; M is the message, if m are accepted
--     rule o p j M s c        the outcome of a call, by its checks in their order
--     Step o p j s c a after t    the machine goes from s to t with this call, answer and later content of the buffer
use Rattle.std.specs.Prelude.{◌≡◌, ℕ, ◌+◌, ◌*◌, Bool, true, false, cond, ◌||◌, List, [], ◌∷◌, ◌++◌, map, length, drop, is_some, Some, None, Option, ◌==◌, nat_le, nat_lt}
use Rattle.std.specs.List.{list_any}
use Rattle.std.specs.Option.{option_map, option_or, unwrap_or}
use Rattle.checks.specs.Checks.{unless, first, lowest, too_large, differs}
use Rattle.code.specs.Plans.{PlanView}
use Rattle.code.specs.Rows.{Packet, row, Explains}
use Rattle.field.specs.Field.{Ops}
use Rattle.packet.specs.Bytes.{word}
use Rattle.packet.specs.Layout.{number_at, m_at, r_at, L_at, q_at, job_number_at, job_length_at, carried, laid, packet_length}
use Rattle.packet.specs.Opening.{opening}
use Rattle.packet.specs.declared.Job.{Job}
use Rattle.receiver.specs.declared.fault.ReceiverFault.{ReceiverFault}
use Rattle.receiver.specs.declared.fault.ReceiverFault.TheVariants.{Packet as InPacket, Count, OtherField, Symbol, Number, OtherJob, Repeated, Contradicts, TooFew}

-- an offer of bytes, a reading into a message buffer, a rebuild of a number into a packet buffer
pub data Call : Type 0 where
  offer : List ℕ → Call
  read : List ℕ → Call
  rebuild : ℕ → List ℕ → Call

-- the count of accepted packets; the buffer is filled with the message; so many bytes are written; a refusal
pub data Answer : Type 0 where
  counts : ℕ → Answer
  filled : Answer
  wrote : ℕ → Answer
  refuses : ReceiverFault → Answer

-- the first m accepted packets, and the numbers accepted later, each in the order in which they came
pub record State : Type 0 where
  pub stored : List Packet
  pub later : List ℕ

abbrev pub opened : State
opened = record { stored = []; later = [] }

-- how many are accepted
abbrev pub count : State → ℕ
count s = length s.stored + length s.later

abbrev pub settled : PlanView → State → Bool
settled p s = nat_le p.m (length s.stored)

-- an accepted packet is kept with its row if fewer than m are, otherwise its number alone is
abbrev pub keeping : PlanView → State → Packet → State
keeping p s k =
    cond (settled p s)
    (record { stored = s.stored; later = s.later ++ k.number ∷ [] })
    (record { stored = s.stored ++ k ∷ []; later = s.later })

-- n is among the numbers
abbrev pub has : ℕ → List ℕ → Bool
has n = list_any (λ x. x == n)

abbrev pub heard : State → ℕ → Bool
heard s n = has n (map (λ k. k.number) s.stored) || has n s.later

-- the row of the packet with number n
abbrev pub find : ℕ → List Packet → Option (List ℕ)
find n [] = None
find n (k ∷ ks) = cond (k.number == n) (Some k.row) (find n ks)

-- a stored row is known, and every row is once m are accepted
unfoldable pub known : Ops → PlanView → List ℕ → State → ℕ → Option (List ℕ)
known o p M s n = option_or (find n s.stored) (cond (settled p s) (Some (row o p M n)) None)

-- the byte of the first number of the header that is not this job's
abbrev pub job_checks : PlanView → Job → List ℕ → List (Option ℕ)
job_checks p j bs =
    unless (word bs m_at == p.m) m_at
    ∷ unless (word bs r_at == p.r) r_at
    ∷ unless (word bs L_at == p.L) L_at
    ∷ unless (word bs q_at + 1 == p.q) q_at
    ∷ unless (word bs job_number_at == j.number) job_number_at
    ∷ unless (word bs job_length_at == j.length) job_length_at
    ∷ []

-- a packet whose row differs from the known one contradicts; the same row of an accepted number repeats
abbrev pub judged : Bool → ℕ → Option ℕ → Option ReceiverFault
judged b n (Some place) = Some (Contradicts place)
judged true n None = Some (Repeated n)
judged false n None = None

-- the packet against the row that is known of its number; b: the number is accepted
abbrev pub against : Bool → Packet → Option (List ℕ) → Option ReceiverFault
against b k None = None
against b k (Some y) = judged b k.number (lowest (differs y k.row) (length k.row))

-- what a call answers, what its buffer holds after, and the state after
pub record Outcome : Type 0 where
  pub answer : Answer
  pub after : List ℕ
  pub state : State

-- a refused call alters nothing
abbrev pub decided : Option ReceiverFault → List ℕ → State → Outcome → Outcome
decided (Some f) before s out = record { answer = refuses f; after = before; state = s }
decided None before s out = out

-- the rules, where M is the message if m are accepted; the checks stand in their order
module _ (o : Ops) (p : PlanView) (j : Job) (M : List ℕ) (s : State) where
  abbrev pub field_check : Option ReceiverFault
  field_check = unless (o.size == p.q) (OtherField p.q)

  abbrev pub offer_checks : List ℕ → List (Option ReceiverFault)
  offer_checks bs =
      field_check
      ∷ option_map InPacket (opening bs)
      ∷ option_map OtherJob (first (job_checks p j bs))
      ∷ unless (nat_lt (word bs number_at) (p.m + p.r)) (Number (word bs number_at))
      ∷ option_map Symbol (lowest (too_large p.q (carried p bs).row) (length (carried p bs).row))
      ∷ against (heard s (word bs number_at)) (carried p bs) (known o p M s (word bs number_at))
      ∷ []

  abbrev pub read_checks : List ℕ → List (Option ReceiverFault)
  read_checks buffer =
      field_check
      ∷ unless (length buffer == p.m * p.L) (Count (p.m * p.L))
      ∷ unless (settled p s) (TooFew (count s))
      ∷ []

  abbrev pub rebuild_checks : ℕ → List ℕ → List (Option ReceiverFault)
  rebuild_checks n buffer =
      field_check
      ∷ unless (nat_lt n (p.m + p.r)) (Number n)
      ∷ unless (nat_le (packet_length p) (length buffer)) (Count (packet_length p))
      ∷ unless (is_some (known o p M s n)) (TooFew (count s))
      ∷ []

  abbrev pub rule : Call → Outcome
  rule (offer bs) =
      let t : State = keeping p s (carried p bs) in
      decided (first (offer_checks bs)) bs s (record { answer = counts (count t); after = bs; state = t })
  rule (read buffer) =
      decided (first (read_checks buffer)) buffer s (record { answer = filled; after = M; state = s })
  rule (rebuild n buffer) =
      decided (first (rebuild_checks n buffer)) buffer s (record {
        answer = wrote (packet_length p);
        after = laid p j n (unwrap_or (known o p M s n) []) ++ drop (packet_length p) buffer;
        state = s;
      })

-- as the rules say, where, once m are accepted, the message is one that fits those m over the named field
pub record Step (o : Ops) (p : PlanView) (j : Job) (s : State) (c : Call) (a : Answer) (after : List ℕ) (t : State) : Type 0 where
  pub M : List ℕ
  pub fits : o.size ≡ p.q → settled p s ≡ true → Explains o p M s.stored
  pub ruled : rule o p j M s c ≡ record { answer = a; after = after; state = t }
