use Rattle.std.proofs.Common.{arith}
use Rattle.binary.specs.Lookup.{product_is}
use Rattle.binary.proofs.binary_field.BinaryField.element_product.Goals as goal

pub returns-in_default : goal.returns-in_default
returns-in_default g c = grind (arith, product_is g.bound-1.tested c.args.a c.args.b)
