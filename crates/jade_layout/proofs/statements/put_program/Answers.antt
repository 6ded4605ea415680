use Rattle.std.proofs.Common.{arith}
use Rattle.std.proofs.lemmas.Result.{on_ok_weaker}
use Rattle.jade_layout.specs.Spelling.{item_tokens}
use Rattle.jade_layout.proofs.Adding.{after, more, all}
use Rattle.jade_layout.proofs.statements.put_program.Goals as goal

pub loop-i-preserved : goal.loop-i-preserved
loop-i-preserved c = more item_tokens _ _ _ _ c.loop-i.i _ c.at.ensures c.loop-i.invariant c.in_ok-put_item.ensures

pub returns : goal.returns
returns c =
    on_ok_weaker _ (λ last. after (after (all item_tokens _ _ _ c.loop-i.i (omega arith) c.loop-i.invariant) c.in_ok-put.ensures) last) c.put_block.ensures
