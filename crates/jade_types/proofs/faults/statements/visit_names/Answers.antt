use Rattle.std.proofs.Common.{◌∙◌, ap}
use Rattle.jade_syntax.specs.StaticFaults.{kind_of_name}
use Rattle.jade_types.proofs.Blocks.{hands_more, known_by}
use Rattle.jade_types.proofs.faults.statements.visit_names.Goals as goal

pub loop-i-preserved : goal.loop-i-preserved
loop-i-preserved c =
    hands_more c.args.names.now c.loop-i.i c.at-named.result.now c.kind_of_name-kind.result c.at-named.ensures
    (c.kind_of_name-kind.ensures ∙ ap kind_of_name c.found.ensures) c.in_ok-bind.ensures c.loop-i.invariant c.visit_use.ensures
    (c.declares.ensures c.at-named.result.now.name c.loop-i.body.locals (c.is_some.ensures ∙ known_by c.found_local.result _ c.found_local.ensures))
