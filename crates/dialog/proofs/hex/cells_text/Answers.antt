use Rattle.dialog.proofs.Back.{all_spelled}
use Rattle.dialog.proofs.hex.cells_text.Goals as goal

pub returns : goal.returns
returns g c =
    all_spelled _ _ _ _ g.met.T.Cell.lawful c.args.cells.now c.loop-cell.cell-index _ c.loop-cell-test.false c.if-is_empty.ensures c.loop-cell.invariant
