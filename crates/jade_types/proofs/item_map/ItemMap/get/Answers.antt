use Rattle.std.proofs.Common.{arith, ap, ◌∙◌}
use Rattle.std.specs.Map.{lookup}
use Rattle.jade_syntax.specs.Numbering.{same_name}
use Rattle.jade_types.proofs.ItemMaps.{at_place, value_there}
use Rattle.jade_types.proofs.item_map.ItemMap.get.Goals as goal

pub index-requires : goal.index-requires
index-requires g c = omega (arith, c.self.inside.pairs.ok.0, (at_place c.args.name _ c.self.invariant c.in-Some.ensures.value).within)

pub returns-in-Some : goal.returns-in-Some
returns-in-Some g c =
    value_there c.args.name _ _ c.self.invariant c.in-Some.ensures.value c.index.ensures ∙ ap (lookup (same_name c.args.name.now)) c.self.view_is
