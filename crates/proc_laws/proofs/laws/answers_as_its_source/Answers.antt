use Rattle.proc_laws.proofs.WrittenAnswers.{written_answers}
use Rattle.proc_laws.proofs.laws.answers_as_its_source.Goals as goal

pub returns : goal.returns
returns c = written_answers c.erased_is_program.ensures c.one_tree.ensures
