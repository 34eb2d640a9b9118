use Rattle.std.proofs.Common.{ap, ◌∙◌}
use Rattle.std.proofs.lemmas.List.{take_rest}
use Rattle.joining.specs.Finding.{begins}
use Rattle.joining.proofs.finds.stands_at.Goals as goal

pub returns : goal.returns
returns c = c.begins.ensures ∙ ap begins (take_rest c.args.bytes.now c.args.place)
