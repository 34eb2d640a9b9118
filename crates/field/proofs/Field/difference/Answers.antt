use Rattle.field.specs.Rows.{minus}
use Rattle.field.proofs.Field.difference.Goals as goal

pub returns : goal.returns
unfolding minus
returns g c = cc
