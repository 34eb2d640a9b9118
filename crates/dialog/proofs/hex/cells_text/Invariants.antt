use Rattle.std.proofs.Common.{◌≡◌, take, Some, vec_items}
use Rattle.std.specs.List.{flat_map, AllByRecursion}
use Rattle.dialog.proofs.hex.cells_text.Given as goal

abbrev pub invariant-loop-cell : goal.invariant-loop-cell
invariant-loop-cell g l =
    (vec_items l.out ≡ flat_map g.T.Cell.written (take l.cell-index l.cells))
    × AllByRecursion (λ x. g.T.Cell.read_one (g.T.Cell.written x) ≡ Some x) (take l.cell-index l.cells)
