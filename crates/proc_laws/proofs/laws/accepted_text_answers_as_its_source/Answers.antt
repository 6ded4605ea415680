use Rattle.proc_laws.proofs.AcceptedSources.{accepted_answers}
use Rattle.proc_laws.proofs.laws.accepted_text_answers_as_its_source.Goals as goal

pub returns : goal.returns
returns c = accepted_answers c.reading_is_cut.ensures.cut c.erased_is_program.ensures c.one_tree.ensures
