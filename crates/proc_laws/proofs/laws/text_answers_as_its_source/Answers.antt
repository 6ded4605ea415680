use Rattle.proc_laws.proofs.WrittenAnswers.{text_answers}
use Rattle.proc_laws.proofs.laws.text_answers_as_its_source.Goals as goal

pub returns : goal.returns
returns c = text_answers c.erased_is_program.ensures c.one_tree.ensures
