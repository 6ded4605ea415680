use Rattle.std.proofs.Common.{ap, sym, ◌∙◌}
use Rattle.std.specs.Prelude.{unwrap_or}
use Rattle.std.specs.Map.{lookup}
use Rattle.jade_syntax.specs.declared.stands.Stand.TheVariants.{Slot}
use Rattle.jade_syntax.specs.Numbering.{same_name, stand_of}
use Rattle.jade_types.specs.steps.Bodies.{InBody, as_scope, names_in}
use Rattle.jade_types.proofs.Scoping.{stand_item, stand_here, stand_behind}
use Rattle.jade_types.proofs.numbers.body.Body.stand_of.Goals as goal

pub returns-in-Some : goal.returns-in-Some
returns-in-Some c =
    let x = c.args.name.now in
    let variables = c.self.inside.variables in
    sym (stand_here x variables (as_scope c.self.inside.items.now) c.in-Some.slot
    (ap (λ y. lookup (same_name y) variables) (sym c.bytes.ensures) ∙ sym c.in-Some.ensures))
    ∙ ap (λ (b : InBody). stand_of x (names_in b)) c.self.view_is

pub returns-in-None : goal.returns-in-None
returns-in-None c =
    let x = c.args.name.now in
    let variables = c.self.inside.variables in
    let items = c.self.inside.items.now in
    c.unwrap_or.ensures
    ∙ ap (λ o. unwrap_or o (Slot 0)) (c.get-in-None.ensures ∙ ap (λ y. lookup (same_name y) items) c.bytes-in-None.ensures)
    ∙ stand_item x items
    ∙ sym (stand_behind x variables (as_scope items) (ap (λ y. lookup (same_name y) variables) (sym c.bytes.ensures) ∙ sym c.in-None.ensures))
    ∙ ap (λ (b : InBody). stand_of x (names_in b)) c.self.view_is
