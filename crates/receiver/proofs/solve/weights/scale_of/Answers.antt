use Rattle.std.proofs.Common.{rules}
use Rattle.receiver.proofs.Scales.{scale_data, scale_check}
use Rattle.receiver.proofs.solve.weights.scale_of.Goals as goal

pub returns-then-number-data_count : goal.returns-then-number-data_count
returns-then-number-data_count g c = search (rules, scale_data)

pub returns-else-number-data_count : goal.returns-else-number-data_count
returns-else-number-data_count g c = search (rules, scale_check)
