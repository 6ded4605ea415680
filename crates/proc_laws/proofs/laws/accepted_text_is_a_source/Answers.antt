use Rattle.proc_laws.proofs.AcceptedSources.{accepted_reads}
use Rattle.proc_laws.proofs.laws.accepted_text_is_a_source.Goals as goal

pub returns : goal.returns
returns c = accepted_reads c.reading_is_cut.ensures.cut
