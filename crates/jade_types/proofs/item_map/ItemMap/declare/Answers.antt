use Rattle.std.proofs.Common.{arith}
use Rattle.jade_types.proofs.ItemMaps.{indexed_still, indexed_more}
use Rattle.jade_types.proofs.item_map.ItemMap.declare.Goals as goal

pub invariant_of-self-then-contains_key : goal.invariant_of-self-then-contains_key
invariant_of-self-then-contains_key g c =
    rw c.in_ok-push.ensures.items (indexed_still c.self.inside.pairs.items (c.args.name, c.args.value) (grind arith) c.self.invariant)

pub invariant_of-self-in-Ok : goal.invariant_of-self-in-Ok
invariant_of-self-in-Ok g c =
    rw c.in_ok-push.ensures.items (indexed_more c.self.inside.pairs.items (c.args.name, c.args.value) c.len-place.result
    (omega (arith, c.len-place.ensures, c.self.inside.pairs.ok.0)) (grind arith) c.in-Ok.ensures.updates.0 c.self.invariant)
