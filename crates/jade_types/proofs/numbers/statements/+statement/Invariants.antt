use Rattle.std.proofs.Common.{drop}
use Rattle.jade_syntax.specs.Image.{block}
use Rattle.jade_types.proofs.Going.{Going}
use Rattle.jade_types.proofs.numbers.statements.+statement.Given as goal

abbrev pub invariant-number_block-loop-i : goal.invariant-number_block-loop-i
invariant-number_block-loop-i l = Going l.initial.body l.body l.initial.stands l.stands (block l.block) (block (drop l.i l.block))
