use Rattle.std.proofs.Common.{◌≤◌, length, take, vec_items}
use Rattle.code.specs.Plans.{view}
use Rattle.receiver.specs.Receivers.{job_of}
use Rattle.receiver.proofs.Making.{Going}
use Rattle.receiver.proofs.run.run.Given as goal

abbrev pub invariant-loop-call : goal.invariant-loop-call
invariant-loop-call g l =
    (l.call-index ≤ length l.calls)
    × Going (g.F.Field.ops l.field) (view l.plan) (job_of l.initial.receiver) (take l.call-index l.calls) (vec_items l.done) l.receiver
