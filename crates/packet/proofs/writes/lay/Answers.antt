use Rattle.std.proofs.Common.{ap, ◌∙◌, arith}
use Rattle.code.specs.Plans.{view}
use Rattle.packet.specs.Bytes.{words, row_bytes}
use Rattle.packet.proofs.Writing.{parts_written, laid_in_front}
use Rattle.packet.proofs.writes.lay.Goals as goal

pub returns : goal.returns
returns c =
    laid_in_front (view c.args.plan.now) _ _ _ _ _ (omega (arith, c.size.ensures.bounds)) c.requires.fits
    (parts_written (view c.args.plan.now) _ _ _ _ _ c.copy_from_slice.ensures.after (c.write_numbers.ensures ∙ ap words c.header_numbers-numbers.ensures)
    (c.write_row.ensures ∙ ap (λ q. row_bytes q c.args.row.now) c.size.ensures.answers) c.packet_len-len.ensures)
