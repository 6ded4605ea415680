use Rattle.core_laws.proofs.Counting.{children_are_few}
use Rattle.core_laws.proofs.children_are_few.Goals as goal

pub returns : goal.returns
returns c = children_are_few c.more_answers.ensures
