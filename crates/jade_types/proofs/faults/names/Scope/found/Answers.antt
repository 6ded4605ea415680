use Rattle.std.proofs.Common.{ap, sym, ◌∙◌, Some, None}
use Rattle.std.specs.Option.{option_map}
use Rattle.std.specs.Map.{lookup}
use Rattle.jade_syntax.specs.Numbering.{same_name}
use Rattle.jade_syntax.specs.StaticFaults.{found}
use Rattle.jade_types.specs.steps.Meanings.{meant}
use Rattle.jade_types.specs.steps.Scoped.{Scoped}
use Rattle.jade_types.proofs.Naming.{found_among, found_item}
use Rattle.jade_types.proofs.faults.names.Scope.found.Goals as goal

pub returns-in-Some : goal.returns-in-Some
returns-in-Some c = sym (found_among c.args.name.now c.args.self.now.locals c.args.self.now.items (Some (meant c.in-Some.meaning)) c.in-Some.ensures)

pub returns-in-None : goal.returns-in-None
returns-in-None c =
    let x = c.args.name.now in
    let items = c.self.inside.items.now in
    ap (option_map meant) (c.get.ensures ∙ ap (λ y. lookup (same_name y) items) c.bytes.ensures)
    ∙ found_item x items
    ∙ ap (λ (s : Scoped). found x s.items) c.self.view_is
    ∙ sym (found_among x c.args.self.now.locals c.args.self.now.items None c.in-None.ensures)
