use Rattle.std.proofs.Common.{rules, ◌<◌, ◌≤◌}
use Rattle.std.proofs.lemmas.Iterator.{YieldsList-from_slice, IsFirst-from_position}
use Rattle.std.proofs.lemmas.Bool.{le-leb, lt-leb}
use borrow.Author.Tests.{tests}
use Rattle.checks.specs.Checks.{at, too_large}
use Rattle.checks.proofs.Lowest.{lowest_position}
use Rattle.checks.proofs.first_large.Goals as goal

pub returns : goal.returns
returns c =
    let limit = c.args.limit in
    let xs = c.args.symbols.now in
    lowest_position (too_large limit xs) (λ x. limit ≤ x) (λ x. x < limit) xs c.position.result
    (λ k h here. le-leb limit (at xs k) (here 0)) (λ k h here. lt-leb limit (at xs k) (here 0))
    (IsFirst-from_position _ _ c.position.result (λ x. limit ≤ x) (λ x. x < limit) c.position.ensures.ran (YieldsList-from_slice xs cc)
    (λ x q k. search (rules, tests)) (λ x q k. search (rules, tests)))
