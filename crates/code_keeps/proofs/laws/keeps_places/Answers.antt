use Rattle.code_keeps.proofs.Staying.{keeps_places}
use Rattle.code_keeps.proofs.laws.keeps_places.Goals as goal

pub returns : goal.returns
returns c = keeps_places
