use Rattle.core_laws.proofs.KeyOrder.{works_stand_by_key}
use Rattle.core_laws.proofs.works_stand_by_key.Goals as goal

pub returns : goal.returns
returns c = works_stand_by_key c.keeps.ensures
