use Rattle.core_laws.proofs.FullLists.{full_lists_go_on}
use Rattle.core_laws.proofs.full_lists_go_on.Goals as goal

pub returns : goal.returns
returns c = λ p ns limit. full_lists_go_on c.keeps.ensures p ns limit
