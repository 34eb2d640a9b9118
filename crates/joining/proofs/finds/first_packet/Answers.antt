use Rattle.std.proofs.Common.{rules, ◌≡◌, length, true, false}
use Rattle.std.proofs.lemmas.Iterator.{first_from_Range}
use Rattle.checks.proofs.Lowest.{lowest_range}
use Rattle.joining.specs.Finding.{stands_at}
use Rattle.joining.proofs.finds.first_packet.Goals as goal

pub returns-clause-answers : goal.returns-clause-answers
returns-clause-answers c =
    let bs = c.args.bytes.now in
    lowest_range (stands_at bs) (length bs) c.find.result
    (first_from_Range _ c.find.new.self _ c.find.result (λ i. stands_at bs i ≡ true) (λ i. stands_at bs i ≡ false) c.find.ensures.ran (λ x q k. search rules) (λ x q k. search rules))
