-- what contracts speak of
pub mod Cells
-- the proofs of the laws: the `impl` of a type of cells gives them, and can cite no file outside specs/
pub mod Laws
