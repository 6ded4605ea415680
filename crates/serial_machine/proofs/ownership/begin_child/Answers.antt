use Rattle.std.proofs.Common.{ap, ◌∙◌, subst}
use Rattle.jade_base.specs.Specification.{kept, IsAscending}
use Rattle.jade_meaning.specs.Spread.{spread}
use Rattle.jade_meaning.specs.Course.{Building}
use Rattle.serial_machine.proofs.Owned.{begun_absent, begun_building, begun_amending}
use Rattle.serial_machine.proofs.ownership.begin_child.Goals as goal

pub returns-in-Building-clause-made : goal.returns-in-Building-clause-made
returns-in-Building-clause-made c = begun_building c.args.own.now c.in-Building.is

pub returns-in-Absent-clause-made : goal.returns-in-Absent-clause-made
returns-in-Absent-clause-made c = c.open.ensures.draft ∙ begun_absent c.args.own.now c.in-Absent.is

pub returns-in_ok-child-in-Amending-clause-made : goal.returns-in_ok-child-in-Amending-clause-made
returns-in_ok-child-in-Amending-clause-made c =
    let n = c.args.own.now.objects in
    let copy = c.in_ok-child-in-Amending.ensures ∙ c.spec.ensures in
    ap (λ s. Building (spread n s.entries)) c.keep_draft.ensures
    ∙ ap (λ s. Building (spread n (kept s.entries s.draft))) copy
    ∙ begun_amending c.args.own.now c.in-Amending.is (subst (λ s. IsAscending s.entries) copy c.len-objects.ensures.ascending)
