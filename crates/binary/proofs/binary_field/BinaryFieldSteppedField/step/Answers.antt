use Rattle.std.proofs.Common.{arith}
use Rattle.binary.specs.Lookup.{steps}
use Rattle.binary.proofs.binary_field.BinaryFieldSteppedField.step.Goals as goal

pub returns-clause-steps : goal.returns-clause-steps
returns-clause-steps g c = grind (arith, steps g.bound-1.tested)
