use Rattle.std.proofs.Common.{rules, ◌≡◌, ◌≢◌}
use Rattle.std.proofs.lemmas.Iterator.{YieldsList-from_slice, YieldsList-from_zip, IsFirst-from_position}
use borrow.Author.Tests.{tests}
use Rattle.checks.proofs.Lowest.{lowest_zip}
use Rattle.checks.proofs.first_difference.Goals as goal

pub returns : goal.returns
returns c =
    lowest_zip c.args.a.now c.args.b.now c.position.result
    (IsFirst-from_position c.position.new.self _ c.position.result (λ p. p.0 ≢ p.1) (λ p. p.0 ≡ p.1) c.position.ensures.ran
    (YieldsList-from_zip (YieldsList-from_slice c.args.a.now cc) (YieldsList-from_slice c.args.b.now cc))
    (λ x q k. search (rules, tests)) (λ x q k. search (rules, tests)))
