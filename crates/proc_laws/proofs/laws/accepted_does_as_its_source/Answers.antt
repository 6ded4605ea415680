use Rattle.proc_laws.proofs.Accepted.{accepted_same}
use Rattle.proc_laws.proofs.laws.accepted_does_as_its_source.Goals as goal

pub returns : goal.returns
returns c = accepted_same
