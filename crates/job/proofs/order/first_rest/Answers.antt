use Rattle.std.proofs.Common.{rules, ◌≡◌, ◌≢◌, ◌+◌, drop, ◌∙◌}
use Rattle.std.specs.Option.{option_map}
use Rattle.std.proofs.lemmas.List.{take_rest}
use Rattle.std.proofs.lemmas.Iterator.{YieldsList-from_slice, IsFirst-from_position}
use borrow.Author.Tests.{tests}
use Rattle.job.proofs.Behind.{first_behind}
use Rattle.job.proofs.order.first_rest.Goals as goal

pub returns : goal.returns
returns c =
    let shifted : c.map.result ≡ option_map (λ place. c.args.start + place) c.position.result = search rules in
    shifted ∙ first_behind c.args.start c.args.message.now c.position.result c.requires
    (IsFirst-from_position c.position.new.self _ c.position.result (λ x. x ≢ 0) (λ x. x ≡ 0) c.position.ensures.ran
    (YieldsList-from_slice (drop c.args.start c.args.message.now) (c.iter.ensures.rest ∙ take_rest c.args.message.now c.args.start))
    (λ x q k. search (rules, tests)) (λ x q k. search (rules, tests)))
