use Rattle.std.proofs.Common.{arith}
use Rattle.binary.specs.Lookup.{lawful, inverse_is}
use Rattle.binary.proofs.binary_field.BinaryField.element_inverse.Goals as goal

pub returns-in-0 : goal.returns-in-0
returns-in-0 g c = rw (c.in-0.is, (lawful g.bound-1.tested).inverse_zero)

pub returns-in_default : goal.returns-in_default
returns-in_default g c = grind (arith, inverse_is g.bound-1.tested c.args.a)
