use Rattle.std.proofs.Common.{rules, ◌≡◌, length, true, false}
use Rattle.std.proofs.lemmas.Iterator.{first_from_Range}
use Rattle.checks.proofs.Lowest.{lowest_range}
use Rattle.code.specs.Making.{repeated}
use Rattle.code.proofs.plan.making.first_repeated.Goals as goal

pub returns : goal.returns
returns c =
    let nodes = c.args.nodes.now in
    lowest_range (repeated nodes) (length nodes) c.find.result
    (first_from_Range _ c.find.new.self _ c.find.result (λ i. repeated nodes i ≡ true) (λ i. repeated nodes i ≡ false) c.find.ensures.ran
    (λ x q k. search rules) (λ x q k. search rules))
