use Rattle.object_table.proofs.Apart.{held_apart}
use Rattle.object_table.proofs.laws.held_apart.Goals as goal

pub returns : goal.returns
returns c = λ key. held_apart key (c.core_tells.ensures key.program key.numbers key.limit) (c.held_alone.ensures key.program key.numbers key.limit)
