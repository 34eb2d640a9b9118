use Rattle.std.proofs.Common.{◌≡◌, ◌*◌, ◌≤◌, drop}
use Rattle.code.specs.Plans.{view}
use Rattle.sheet.specs.Sheets.{open_view}
use Rattle.cutting.proofs.Laying.{partly}
use Rattle.cutting.proofs.packets.lay_all.Given as goal

abbrev pub invariant-loop-number : goal.invariant-loop-number
invariant-loop-number l =
    let p = view l.plan in
    let k = l.number-iterator.count in
    (goal.iterator-loop-number).can_next l.number-iterator
    × (goal.iterator-loop-number).is_finite l.number-iterator
    × (k ≤ p.m) × (l.number-iterator.iter.size ≡ p.L) × (l.number-iterator.iter.rest.now ≡ drop (k * p.L) l.message)
    × (open_view l.sheet ≡ partly p l.message k)
