use Rattle.waiting_line.proofs.Letting.{seen_may}
use Rattle.waiting_line.proofs.laws.versions_wait_for_nobody.Goals as goal

pub returns : goal.returns
returns c = seen_may
