use Rattle.code_keeps.proofs.Staying.{keeps_beginnings}
use Rattle.code_keeps.proofs.laws.keeps_beginnings.Goals as goal

pub returns : goal.returns
returns c = keeps_beginnings
