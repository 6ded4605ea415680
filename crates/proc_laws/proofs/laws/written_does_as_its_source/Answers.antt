use Rattle.proc_laws.proofs.WrittenMeaning.{written_does}
use Rattle.proc_laws.proofs.laws.written_does_as_its_source.Goals as goal

pub returns : goal.returns
returns c = written_does c.erased_is_program.ensures c.one_tree.ensures
