use Rattle.std.proofs.Common.{arith}
use Rattle.std.proofs.lemmas.Grind.{common_steps}
use Rattle.binary.specs.Tested.{exponent_below}
use Rattle.binary.proofs.binary_field.BinaryField.exponent.Goals as goal

pub returns-clause-below : goal.returns-clause-below
returns-clause-below g c = grind (arith, common_steps, exponent_below g.bound-1.tested)
