-- what contracts speak of, and what the tables of a field are tested for
pub mod Binary
pub mod Tables
pub mod Tested
-- the proofs of the laws: a field's `impl` gives them, and can cite no file outside specs/
pub mod Lookup
pub mod Linear
pub mod Basis
pub mod Span
pub mod Instances
