use Rattle.std.proofs.Common.{◌≡◌, vec_items}
use Rattle.code.specs.Plans.{view}
use Rattle.sheet.specs.Sheets.{closed_view}
use Rattle.cutting.specs.Cutting.{packets_to}
use Rattle.cutting.proofs.packets.Cutter.cut_all.Given as goal

abbrev pub invariant-loop-number : goal.invariant-loop-number
invariant-loop-number g l =
    vec_items l.out ≡ packets_to (g.F.Field.ops l.self.field.now) (view l.self.plan.now) l.self.job (closed_view l.sheet).content l.number
