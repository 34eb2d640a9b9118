use Rattle.std.proofs.Common.{take, vec_items}
use Rattle.code.specs.Plans.{view}
use Rattle.sheet.specs.Sheets.{closed_view}
use Rattle.cutting.specs.Cutting.{packet_of}
use Rattle.cutting.proofs.Behind.{cut_bytes, pushed_bytes}
use Rattle.cutting.proofs.packets.Cutter.push_packet.Goals as goal

pub returns : goal.returns
returns g c =
    let s = closed_view c.args.sheet.now in
    let p = view c.args.self.now.plan.now in
    let o = g.F.Field.ops c.args.self.now.field.now in
    let len = c.unwrap-len.result in
    pushed_bytes c.extend_from_slice.result (vec_items c.args.out.now) (vec_items c.extend_from_slice.new.self) (take len c.cut.new.out)
    (packet_of o p c.args.self.now.job s.content c.args.number) c.extend_from_slice.ensures.items
    (cut_bytes s p o c.args.self.now.job c.args.number _ c.cut.new.out len (rw c.unwrap-len.ensures at c.cut.ensures))
