-- The nodes of a plan. Assumes nothing.
use Rattle.std.specs.Prelude.{◌≡◌, ℕ, ◌<◌, List}
use Rattle.checks.specs.Checks.{at}

-- the first k nodes are elements of a field of q
abbrev pub Elements : ℕ → ℕ → List ℕ → Type 0
Elements q k nodes = (i : ℕ) → i < k → at nodes i < q

-- no two of the first k nodes are the same
abbrev pub Apart : ℕ → List ℕ → Type 0
Apart k nodes = (i j : ℕ) → i < k → j < i → ¬ (at nodes j ≡ at nodes i)
