-- The store of rows, by the symbols that it holds. Assumes nothing.
use Rattle.std.specs.Prelude.{ℕ, ◌+◌, ◌*◌, List, ◌++◌, length, take, drop}
use Rattle.receiver.specs.declared.shelf.Shelf.{Shelf}

-- the symbols of a shelf
abbrev pub shelved : Shelf → List ℕ
shelved s = s.symbols

-- the row at place t, where rows are len symbols
abbrev pub row_on : List ℕ → ℕ → ℕ → List ℕ
row_on xs t len = take len (drop (t * len) xs)

-- the symbols xs with a row at place t, where rows are as long as it is
abbrev pub with_row : List ℕ → ℕ → List ℕ → List ℕ
with_row xs t row = take (t * length row) xs ++ (row ++ drop (t * length row + length row) xs)
