use Rattle.replaced_trees.proofs.SeenTerms.{expr_seen, cell_seen}
use Rattle.replaced_trees.proofs.laws.seen_replaced.Goals as goal

pub returns-clause-expression : goal.returns-clause-expression
returns-clause-expression c = expr_seen

pub returns-clause-cell : goal.returns-clause-cell
returns-clause-cell c = cell_seen
