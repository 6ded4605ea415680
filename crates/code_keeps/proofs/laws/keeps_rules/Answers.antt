use Rattle.code_keeps.proofs.Whole.{keeps_rules}
use Rattle.code_keeps.proofs.laws.keeps_rules.Goals as goal

pub returns : goal.returns
returns c = keeps_rules c.erased_is_program.ensures
