-- The tests of the byte and the nibble field, which antt computes. Assumes nothing.
use Rattle.std.specs.Prelude.{refl}
use Rattle.binary.specs.Binary.{byte_polynomial, nibble_polynomial, reduced, poly_product, rest}
use Rattle.binary.specs.Basis.{Basis}
use Rattle.binary.specs.Tested.{Tested}

byte_basis : Basis byte_polynomial 8
unfolding reduced poly_product rest
byte_basis = record { least = tt; most = tt; element = tt; comm = tt; assoc = tt; one = tt }

nibble_basis : Basis nibble_polynomial 4
unfolding reduced poly_product rest
nibble_basis = record { least = tt; most = tt; element = tt; comm = tt; assoc = tt; one = tt }

pub byte_tested : Tested byte_polynomial 8
unfolding reduced poly_product rest
byte_tested = record {
  basis = byte_basis;
  size = refl;
  all_powers = refl;
  all_exponents = refl;
  first = tt;
  next = tt;
  round = tt;
  exponent = tt;
  there = tt;
  back = tt;
}

pub nibble_tested : Tested nibble_polynomial 4
unfolding reduced poly_product rest
nibble_tested = record {
  basis = nibble_basis;
  size = refl;
  all_powers = refl;
  all_exponents = refl;
  first = tt;
  next = tt;
  round = tt;
  exponent = tt;
  there = tt;
  back = tt;
}
