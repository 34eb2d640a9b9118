use Rattle.std.proofs.Common.{rules}
use Rattle.cutting.proofs.Counting.{all_counted}
use Rattle.cutting.proofs.plans.count_up.Goals as goal

pub returns : goal.returns
returns c =
    let items = c.from_fn.ensures.items in
    all_counted c.from_fn.result 128 items.long (λ k h. let called = items.at k 0 h in search rules)
