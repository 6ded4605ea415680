use Rattle.std.proofs.Common.{◌∙◌}
use Rattle.jade_types.proofs.ItemNumbers.{counted}
use Rattle.jade_types.proofs.numbers.items.number_items.Goals as goal

pub loop-i-preserved : goal.loop-i-preserved
loop-i-preserved c =
    counted c.loop-i.i c.at-item.result.now c.bytes.result.now _ c.at-item.ensures c.in_ok-stand.ensures c.in_ok-put.ensures
    (c.bytes.ensures ∙ c.name_of.ensures) c.in_ok-declare.ensures c.loop-i.invariant
