use Rattle.erased_places.proofs.ErasedStatements.{program_erased}
use Rattle.erased_places.proofs.laws.erased_is_program.Goals as goal

pub returns : goal.returns
returns c = program_erased
