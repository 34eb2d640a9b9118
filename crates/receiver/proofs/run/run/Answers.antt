use Rattle.std.proofs.Common.{[], ◌∷◌, refl, arith, rules}
use Rattle.std.proofs.lemmas.Slice.{pushed}
use Rattle.code.specs.Plans.{view}
use Rattle.receiver.specs.Receivers.{job_of}
use Rattle.receiver.proofs.Making.{going_more}
use Rattle.receiver.proofs.run.run.Goals as goal

pub loop-call-preserved : goal.loop-call-preserved
loop-call-preserved g c =
    let d = c.in_ok-make.field-0 in (
      omega arith,
      going_more (g.F.Field.ops c.args.field.now) (view c.args.plan.now) (job_of c.open-receiver.result) c.args.calls.now c.loop-call.call-index
          _ _ c.loop-call.receiver c.make.new.receiver _ d c.loop-call-test.true (search rules)
          (pushed (d ∷ []) refl c.in_ok-push.was c.push.ensures.items) c.loop-call.invariant.1 c.in_ok-make.ensures.answers c.in_ok-make.ensures.leaves,
    )
