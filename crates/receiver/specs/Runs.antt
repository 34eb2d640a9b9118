-- Whole runs of a receiver, and what is promised of each. Assumes nothing.
use Rattle.std.specs.Prelude.{◌≡◌, ℕ, zero, suc, ◌+◌, ◌*◌, ◌<◌, ◌≤◌, ◌⊎◌, ◌↔◌, List, [], ◌∷◌, ◌++◌, map, length, drop}
use Rattle.std.specs.List.{AllByRecursion}
use Rattle.code.specs.Plans.{PlanView, Sound}
use Rattle.code.specs.Rows.{Packet, Message, row, Fits, Explains}
use Rattle.field.specs.Field.{Ops, Lawful}
use Rattle.packet.specs.Layout.{carried, laid, packet_length}
use Rattle.packet.specs.declared.Job.{Job}
use Rattle.receiver.specs.Machine.{Call, offer, read, rebuild, Answer, counts, filled, wrote, refuses, State, opened, Step}
use Rattle.receiver.specs.States.{New}
use Rattle.receiver.specs.declared.fault.ReceiverFault.TheVariants.{Contradicts}

-- a call that was made, its answer, and what its buffer held after
pub record Event : Type 0 where
  pub call : Call
  pub answer : Answer
  pub after : List ℕ

-- what is offered is bytes
abbrev pub Bytes : Call → Type 0
Bytes (offer bs) = AllByRecursion (λ b. b < 256) bs
Bytes (read buffer) = Unit
Bytes (rebuild n buffer) = Unit

-- the machine answers these calls so, one after the other
abbrev pub Runs : Ops → PlanView → Job → State → List Event → State → Type 0
Runs o p j s [] u = s ≡ u
Runs o p j s (e ∷ es) u = (t : State) × Step o p j s e.call e.answer e.after t × Runs o p j t es u

-- the accepted packets: number and row of each offer that was not refused
abbrev pub taken : PlanView → Call → Answer → List Packet
taken p (offer bs) (counts n) = carried p bs ∷ []
taken p (offer bs) filled = []
taken p (offer bs) (wrote n) = []
taken p (offer bs) (refuses f) = []
taken p (read buffer) a = []
taken p (rebuild n buffer) a = []

abbrev pub accepted : PlanView → List Event → List Packet
accepted p [] = []
accepted p (e ∷ es) = taken p e.call e.answer ++ accepted p es

-- at least n of them are so
abbrev pub AtLeast : {A : Type 0} → ℕ → (A → Type 0) → List A → Type 0
AtLeast zero P xs = Unit
AtLeast (suc n) P [] = ⊥
AtLeast (suc n) P (x ∷ xs) = (P x × AtLeast n P xs) ⊎ AtLeast (suc n) P xs

module _ (o : Ops) (p : PlanView) (j : Job) where
  -- all messages that fit these packets are equal; they give n the same row
  abbrev pub OneMessage : List Packet → Type 0
  OneMessage ks = (M N : List ℕ) → Explains o p M ks → Explains o p N ks → M ≡ N

  abbrev pub OneRow : ℕ → List Packet → Type 0
  OneRow n ks = (M N : List ℕ) → Explains o p M ks → Explains o p N ks → row o p M n ≡ row o p N n

  -- the message's packet n for this job in front, and what was behind it unchanged
  abbrev pub rebuilt : List ℕ → ℕ → List ℕ → List ℕ
  rebuilt M n buffer = laid p j n (row o p M n) ++ drop (packet_length p) buffer

  -- a reading when the packets ks are accepted
  pub record ReadRight (ks : List Packet) (buffer : List ℕ) (a : Answer) (after : List ℕ) : Type 0 where
    pub answered : (a ≡ filled) ↔ OneMessage ks
    pub content : a ≡ filled → (M : List ℕ) → Explains o p M ks → after ≡ M

  -- a rebuild of n when the packets ks are accepted
  pub record RebuiltRight (ks : List Packet) (n : ℕ) (buffer : List ℕ) (a : Answer) (after : List ℕ) : Type 0 where
    pub answered : (a ≡ wrote (packet_length p)) ↔ OneRow n ks
    pub content : a ≡ wrote (packet_length p) → (M : List ℕ) → Explains o p M ks → after ≡ rebuilt M n buffer

  -- what is known at one call: exactly as much is answered as is known of the packets accepted until then
  abbrev pub AsKnown : List Packet → Call → Answer → List ℕ → Type 0
  AsKnown ks (offer bs) a after = Unit
  AsKnown ks (read buffer) a after =
      o.size ≡ p.q → length buffer ≡ p.m * p.L → ReadRight ks buffer a after
  AsKnown ks (rebuild n buffer) a after =
      o.size ≡ p.q → n < p.m + p.r → packet_length p ≤ length buffer → RebuiltRight ks n buffer a after

  -- one message at one call: what is answered is the message's
  abbrev pub IsTheMessages : List ℕ → Call → Answer → List ℕ → Type 0
  IsTheMessages M (offer bs) a after = Unit
  IsTheMessages M (read buffer) a after = a ≡ filled → after ≡ M
  IsTheMessages M (rebuild n buffer) a after = (l : ℕ) → a ≡ wrote l → after ≡ rebuilt M n buffer

  -- once it is settled, at one call: accepted exactly if it is a new packet of the message; and none of its packets contradicts
  pub record OfferedRight (M : List ℕ) (ks : List Packet) (bs : List ℕ) (a : Answer) : Type 0 where
    pub accepts : ((c : ℕ) × (a ≡ counts c)) ↔ ((n : ℕ) × (n < p.m + p.r) × (bs ≡ laid p j n (row o p M n)) × New n ks)
    pub agrees : (n place : ℕ) → n < p.m + p.r → bs ≡ laid p j n (row o p M n) → ¬ (a ≡ refuses (Contradicts place))

  abbrev pub Settled : List ℕ → List Packet → Call → Answer → Type 0
  Settled M ks (offer bs) a = OfferedRight M ks bs a
  Settled M ks (read buffer) a = Unit
  Settled M ks (rebuild n buffer) a = Unit

  -- what is promised of the calls that were made
  pub record Kept (es : List Event) : Type 0 where
    pub consistent : (before after : List Event) → es ≡ before ++ after → (M : List ℕ) × Explains o p M (accepted p before)
    pub as_known : (before after : List Event) (e : Event) → es ≡ before ++ e ∷ after
        → AsKnown (accepted p before) e.call e.answer e.after
    pub one_message : (M : List ℕ) → Message p M → AtLeast p.m (Fits o p M) (accepted p es)
        → (before after : List Event) (e : Event) → es ≡ before ++ e ∷ after → IsTheMessages M e.call e.answer e.after
    pub settled : (M : List ℕ) → Message p M → (before after : List Event) (e : Event) → es ≡ before ++ e ∷ after
        → AtLeast p.m (Fits o p M) (accepted p before) → Settled M (accepted p before) e.call e.answer

-- what a replay of calls says of the calls that it made: they were answered by the rules, and the promise is kept
pub record Promised (o : Ops) (p : PlanView) (j : Job) (es : List Event) (s : State) : Type 0 where
  pub by_the_rules : Runs o p j opened es s
  pub kept : Kept o p j es

-- the calls alone settle the run: there is one, and no other
abbrev pub OneRun : Type 0
OneRun = (o : Ops) → Lawful o → (p : PlanView) → Sound p → (j : Job) (cs : List Call)
    → (es : List Event) × (s : State) × (map (λ e. e.call) es ≡ cs) × Runs o p j opened es s
    × ((fs : List Event) (u : State) → map (λ e. e.call) fs ≡ cs → Runs o p j opened fs u → fs ≡ es)

-- every run over every lawful field, plan and job keeps the promise
abbrev pub Promise : Type 0
Promise = (o : Ops) → Lawful o → (p : PlanView) → Sound p → (j : Job)
    → (es : List Event) → AllByRecursion (λ e. Bytes e.call) es → (s : State) → Runs o p j opened es s → Kept o p j es
