use Rattle.code.specs.Plans.{view}
use Rattle.sheet.specs.Sheets.{closed_view}
use Rattle.cutting.proofs.Behind.{packets_more}
use Rattle.cutting.proofs.packets.Cutter.cut_all.Goals as goal

pub loop-number-preserved : goal.loop-number-preserved
loop-number-preserved g c =
    packets_more (g.F.Field.ops c.args.self.now.field.now) (view c.args.self.now.plan.now) c.args.self.now.job (closed_view c.args.sheet.now).content c.loop-number.number _ _
    c.loop-number.invariant c.in_ok-push_packet.ensures
