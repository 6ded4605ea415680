use Rattle.std.proofs.Common.{ap, ◌∙◌}
use Rattle.std.specs.Option.{option_map}
use Rattle.std.specs.Map.{lookup}
use Rattle.jade_syntax.specs.Numbering.{same_name}
use Rattle.jade_syntax.specs.StaticFaults.{found}
use Rattle.jade_types.specs.steps.Meanings.{meant}
use Rattle.jade_types.specs.steps.Scoped.{Scoped}
use Rattle.jade_types.proofs.Naming.{found_item}
use Rattle.jade_types.proofs.faults.names.Scope.found_local.Goals as goal

pub returns : goal.returns
returns c =
    let x = c.args.name.now in
    let locals = c.self.inside.locals in
    ap (option_map meant) (c.get.ensures ∙ ap (λ y. lookup (same_name y) locals) c.bytes.ensures)
    ∙ found_item x locals
    ∙ ap (λ (s : Scoped). found x s.locals) c.self.view_is
