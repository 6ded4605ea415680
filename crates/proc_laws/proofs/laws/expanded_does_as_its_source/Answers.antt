use Rattle.proc_laws.proofs.Programs.{program_same}
use Rattle.proc_laws.proofs.laws.expanded_does_as_its_source.Goals as goal

pub returns : goal.returns
returns c = λ fresh p ok clean ns limit. program_same fresh p ok clean ns limit
