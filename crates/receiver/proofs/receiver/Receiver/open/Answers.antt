use Rattle.std.proofs.Common.{refl}
use Rattle.receiver.proofs.Shelves.{state_none}
use Rattle.receiver.proofs.Keeping.{promise}
use Rattle.receiver.proofs.Replays.{one_run}
use Rattle.receiver.proofs.Settled.{settles}
use Rattle.receiver.proofs.receiver.Receiver.open.Goals as goal

pub returns : goal.returns
returns c = record { plans = (refl, refl); leaves = state_none _ _ _ _; settles = (settles, (one_run, promise)) }
