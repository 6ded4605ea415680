use Rattle.proc_laws.proofs.WrittenTree.{written_reads}
use Rattle.proc_laws.proofs.laws.written_is_the_tree.Goals as goal

pub returns : goal.returns
returns c = λ l q r none words. written_reads l q r none words
