use Rattle.std.proofs.Common.{Some, sym, ap, ◌∙◌}
use Rattle.std.proofs.lemmas.Option.{slice_get-get_or}
use Rattle.task_code.specs.Decoding.{meant}
use Rattle.serial_machine.proofs.Creating.{no_creation}
use Rattle.serial_machine.proofs.Outside.{outside_barred, outside_created, outside_refused, outside_changed}
use Rattle.serial_machine.proofs.going.outside.Goals as goal

pub returns-then-covers_child : goal.returns-then-covers_child
returns-then-covers_child c =
    let here = slice_get-get_or c.args.code.now c.args.frame.now.place _ c.requires.place ∙ ap Some (sym c.index-code-frame.is ∙ sym c.decoded.view_is
    ∙ ap meant c.in-Create.is) in
    outside_created c.args.code.now c.args.frame.now c.in-Create.number c.in-Create.pos here c.args.own.now c.begin_child.new.own
    c.in_ok-begin_child-in-Create.ensures.kept c.in_ok-begin_child-in-Create.ensures.made
    (sym c.if-may_be_made.true ∙ c.may_be_made.ensures) (sym c.if-covers_child.true ∙ c.covers_child.ensures)

pub returns-else-covers_child : goal.returns-else-covers_child
returns-else-covers_child c =
    let here = slice_get-get_or c.args.code.now c.args.frame.now.place _ c.requires.place ∙ ap Some (sym c.index-code-frame.is ∙ sym c.decoded.view_is
    ∙ ap meant c.in-Create.is) in
    outside_refused c.args.code.now c.args.frame.now c.in-Create.number c.in-Create.pos here c.args.own.now c.begin_child.new.own
    c.in_ok-begin_child-in-Create.ensures.kept c.in_ok-begin_child-in-Create.ensures.made
    (sym c.if-may_be_made.true ∙ c.may_be_made.ensures) (sym c.if-covers_child.false ∙ c.covers_child.ensures)

pub returns-else-may_be_made : goal.returns-else-may_be_made
returns-else-may_be_made c =
    let here = slice_get-get_or c.args.code.now c.args.frame.now.place _ c.requires.place ∙ ap Some (sym c.index-code-frame.is ∙ sym c.decoded.view_is
    ∙ ap meant c.in-Create.is) in
    outside_barred c.args.code.now c.args.frame.now c.in-Create.number c.in-Create.pos here c.args.own.now c.begin_child.new.own
    c.in_ok-begin_child-in-Create.ensures.kept c.in_ok-begin_child-in-Create.ensures.made (sym c.if-may_be_made.false ∙ c.may_be_made.ensures)

pub returns-in_default : goal.returns-in_default
returns-in_default c =
    let here = slice_get-get_or c.args.code.now c.args.frame.now.place _ c.requires.place ∙ ap Some (sym c.index-code-frame.is ∙ sym c.decoded.view_is) in
    outside_changed c.args.code.now c.args.frame.now c.args.own.now c.amend.new.own c.amend.ensures.kept c.amend.ensures.draft _ c.requires.place here
    c.requires.section (no_creation c.decoded.inside.form c.in_default.not-Create)
