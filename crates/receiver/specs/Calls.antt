-- The calls of a run, and what was done, as the machine's events. Assumes nothing.
--     told d                  what was answered
--     held d                  what the buffer of a reading or a rebuild holds after
--     event c d               the call c, where d was done
--     events cs ds            the calls cs, where ds were done, in their order
--     Alike c d               d is of the kind of c
--     Makes o r c d t         over the field o the receiver r makes the call c as the machine does: d is done, and it is t then
--     Ran o p j cs ds         each call was made, and the run keeps the promise
--     Replayed o p j cs r     what was done is handed back, unless memory is wanting
use Rattle.std.specs.Prelude.{◌≡◌, ℕ, List, [], ◌∷◌, Ok, Err, vec_items, Result, Vec}
use Rattle.std.specs.declared.alloc.AllocError.{AllocError}
use Rattle.std.specs.declared.alloc.Global.{Global}
use Rattle.code.specs.Plans.{PlanView}
use Rattle.field.specs.Field.{Ops}
use Rattle.packet.specs.declared.Job.{Job}
use Rattle.receiver.specs.Machine as machine
use Rattle.receiver.specs.Receivers.{offer_answer, read_answer, rebuild_answer, Answers}
use Rattle.receiver.specs.Runs.{Event, Bytes, Promised}
use Rattle.receiver.specs.declared.receiver.Receiver.{Receiver}
use Rattle.receiver.specs.declared.run.Call.{Call}
use Rattle.receiver.specs.declared.run.Call.TheVariants.{Offer, Read, Rebuild}
use Rattle.receiver.specs.declared.run.Done.{Done}
use Rattle.receiver.specs.declared.run.Done.TheVariants.{Offered, Filled, Rebuilt}

abbrev pub told : Done → machine.Answer
told (Offered a) = offer_answer a
told (Filled a buffer) = read_answer a
told (Rebuilt a buffer) = rebuild_answer a

abbrev pub held : Done → List ℕ
held (Offered a) = []
held (Filled a buffer) = vec_items buffer
held (Rebuilt a buffer) = vec_items buffer

-- an offer alters no bytes
abbrev pub event : Call → Done → Event
event (Offer bytes) d = record { call = machine.offer bytes.now; answer = told d; after = bytes.now }
event (Read buffer) d = record { call = machine.read buffer.now; answer = told d; after = held d }
event (Rebuild n buffer) d = record { call = machine.rebuild n buffer.now; answer = told d; after = held d }

abbrev pub events : List Call → List Done → List Event
events [] ds = []
events (c ∷ cs) [] = []
events (c ∷ cs) (d ∷ ds) = event c d ∷ events cs ds

abbrev pub Alike : Call → Done → Type 0
Alike (Offer bytes) (Offered a) = Unit
Alike (Offer bytes) (Filled a buffer) = ⊥
Alike (Offer bytes) (Rebuilt a buffer) = ⊥
Alike (Read before) (Offered a) = ⊥
Alike (Read before) (Filled a buffer) = Unit
Alike (Read before) (Rebuilt a buffer) = ⊥
Alike (Rebuild n before) (Offered a) = ⊥
Alike (Rebuild n before) (Filled a buffer) = ⊥
Alike (Rebuild n before) (Rebuilt a buffer) = Unit

-- each was done, and no more
abbrev pub AllAlike : List Call → List Done → Type 0
AllAlike [] [] = Unit
AllAlike [] (d ∷ ds) = ⊥
AllAlike (c ∷ cs) [] = ⊥
AllAlike (c ∷ cs) (d ∷ ds) = Alike c d × AllAlike cs ds

pub record Makes (o : Ops) (r : Receiver) (c : Call) (d : Done) (t : Receiver) : Type 0 where
  pub alike : Alike c d
  pub bytes : Bytes (event c d).call
  pub answers : Answers o r (event c d).call (event c d).answer (event c d).after t

-- or there is no memory for its buffer, and the receiver is as it was
abbrev pub MakesOr : Ops → Receiver → Call → Result Done AllocError → Receiver → Type 0
MakesOr o r c (Ok d) t = Makes o r c d t
MakesOr o r c (Err e) t = t ≡ r

pub record Ran (o : Ops) (p : PlanView) (j : Job) (cs : List Call) (ds : List Done) : Type 0 where
  pub alike : AllAlike cs ds
  pub last : machine.State
  pub promised : Promised o p j (events cs ds) last

abbrev pub Replayed : Ops → PlanView → Job → List Call → Result (Vec Done Global) AllocError → Type 0
Replayed o p j cs (Ok v) = Ran o p j cs (vec_items v)
Replayed o p j cs (Err e) = Unit
