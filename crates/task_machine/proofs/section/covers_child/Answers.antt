use Rattle.std.proofs.Common.{◌≡◌, false, sym, subst}
use Rattle.spec_cover.specs.Cover.{IsCovered, IsCoveredBelow, covered_on}
use Rattle.task_machine.proofs.Sections.{covers_all, covers_some}
use Rattle.task_machine.proofs.section.covers_child.Goals as goal

pub returns-in-None : goal.returns-in-None
returns-in-None c =
    let w = c.args.own.now in
    sym (covers_all w.objects w.spec w.child (c.spread_agrees.ensures w.objects w.spec.entries w.child.entries)
    (subst (λ p. IsCovered p w.child) c.spec.ensures c.in-None.ensures.none))

pub returns-in-Some : goal.returns-in-Some
returns-in-Some c =
    let w = c.args.own.now in
    covers_some w.objects w.spec w.child (c.spread_agrees.ensures w.objects w.spec.entries w.child.entries) c.in-Some.object
    (subst (λ p. covered_on p w.child c.in-Some.object ≡ false) c.spec.ensures c.in-Some.ensures.found)
    (subst (λ p. IsCoveredBelow p w.child c.in-Some.object.0) c.spec.ensures c.in-Some.ensures.least)
