use Rattle.replaced_trees.proofs.SpelledTerms.{expr_spelled}
use Rattle.replaced_trees.proofs.laws.spelled_replaced.Goals as goal

pub returns : goal.returns
returns c = expr_spelled
