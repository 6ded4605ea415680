use Rattle.proc_laws.proofs.WrittenMeaning.{text_does}
use Rattle.proc_laws.proofs.laws.text_does_as_its_source.Goals as goal

pub returns : goal.returns
returns c = text_does c.erased_is_program.ensures c.one_tree.ensures
