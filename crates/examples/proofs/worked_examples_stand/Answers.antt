use Rattle.examples.proofs.Examples.{worked_examples}
use Rattle.examples.proofs.worked_examples_stand.Goals as goal

pub returns-clause-stands : goal.returns-clause-stands
returns-clause-stands c = worked_examples
