-- A loop that writes f k at each place k. Assumes nothing.
use Rattle.std.proofs.Common.{◌≡◌, ℕ, ◌+◌, ◌<◌, List, map, length, set}
use Rattle.std.specs.List.{range_with_len}
use Rattle.std.proofs.lemmas.List.FromFn.{fill_by_all}
use Rattle.std.proofs.lemmas.List.Edits.{fill_by_more}
use Rattle.checks.specs.Checks.{at}

module _ (f : ℕ → ℕ) (xs : List ℕ) where
  pub filled_more : (i y : ℕ) → i < length xs → ((k : ℕ) → k < i → at xs k ≡ f k) → y ≡ f i → (k : ℕ) → k < i + 1 → at (set xs i y) k ≡ f k
  filled_more i y h before is = rw is (fill_by_more f xs i 0 h before)

  pub filled : (n : ℕ) → length xs ≡ n → ((k : ℕ) → k < n → at xs k ≡ f k) → xs ≡ map f (range_with_len 0 n)
  filled n long is = fill_by_all f xs n 0 long is
