use Rattle.std.proofs.Common.{◌+◌, ◌*◌, ◌≤◌, length, ap, ◌∙◌, arith}
use Rattle.code.specs.Rows.{row}
use Rattle.code.proofs.Rows.{length-row, row_within}
use Rattle.code.proofs.Views.{sound_of}
use Rattle.receiver.specs.Solvers.{plan_in, packets_in}
use Rattle.receiver.proofs.Messages.{rows_more, message_is}
use Rattle.receiver.proofs.Solved.{some_fits}
use Rattle.receiver.proofs.solve.Solver.write_message.Goals as goal

pub loop-n-preserved : goal.loop-n-preserved
loop-n-preserved g c =
    let s = c.args.self.now in
    let o = g.F.Field.ops s.field.now in
    let p = plan_in s in
    let n = c.loop-n.n in
    let room : n * p.L + p.L ≤ length c.loop-n.out = omega (arith, row_within n p.m p.L (omega arith)) in
    λ M e. rows_more (row o p M) c.loop-n.out c.write_row.new.out n p.L c.row_len-len.result c.row_len-len.ensures.answers
    room (ap length (c.write_row.ensures M e) ∙ length-row o p M n) (c.loop-n.invariant M e) (c.write_row.ensures M e)

pub returns : goal.returns
returns g c =
    let s = c.args.self.now in
    let o = g.F.Field.ops s.field.now in
    let p = plan_in s in
    let sound = sound_of s.plan.now in
    let (M, e) = some_fits p s.numbers.now s.rows.now s.given o (g.met.F.Field.lawful s.field.now) sound s.sized in
    message_is o p sound (packets_in s) M c.loop-n.out e (omega arith) (λ j h. c.loop-n.invariant M e j (omega arith))
