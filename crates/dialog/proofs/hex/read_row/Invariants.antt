use Rattle.std.proofs.Common.{◌≡◌, ◌++◌, vec_items}
use Rattle.std.specs.Option.{option_map}
use Rattle.std.specs.Slice.Iter.{chunks_rest, chunks_size}
use Rattle.dialog.proofs.hex.read_row.Given as goal

abbrev pub invariant-loop-piece : goal.invariant-loop-piece
invariant-loop-piece g l =
    (goal.iterator-loop-piece g).can_next l.piece-iterator
    × (goal.iterator-loop-piece g).is_finite l.piece-iterator
    × (chunks_size l.piece-iterator ≡ g.T.Cell.DIGITS)
    × (option_map (λ ws. vec_items l.cells ++ ws) (g.T.Cell.read_all (chunks_rest l.piece-iterator)) ≡ g.T.Cell.read_all l.digits)
