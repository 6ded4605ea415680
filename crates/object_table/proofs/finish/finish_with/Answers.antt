use Rattle.std.proofs.Common.{◌≡◌, rules, sym, subst, ap, ◌∙◌, map}
use Rattle.jade_syntax.specs.Image.{program as abstracted}
use Rattle.jade_meaning.specs.Plan.{RunPlan}
use Rattle.jade_meaning.specs.Report.{report}
use Rattle.jade_meaning.specs.Turns.{Full, turns_in}
use Rattle.schedule_core.specs.Reports.{told_of}
use Rattle.task_roll.specs.Rolls.{by_key}
use Rattle.object_table.specs.steps.Endings.{LastSlots, cells_in, turns_at}
use Rattle.object_table.proofs.Endings.{reported, full_turns}
use Rattle.object_table.proofs.finish.finish_with.Goals as goal

pub invariant_of-result : goal.invariant_of-result
invariant_of-result c =
    let key = c.args.table.shared.key in
    let slots : LastSlots key c.in_ok-slots.slots.items c.in_ok-slots.roll = search rules in
    let turns : c.in_ok-turns.turns ≡ map turns_at c.in_ok-slots.slots.items =
    c.in_ok-turns.ensures ∙ ap (map turns_at) c.as_slice-2.ensures.value in (
      (λ i. told_of ((c.in_ok-objects.ensures ∙ ap (map cells_in) c.as_slice.ensures.value) i) (turns i) (by_key (c.notes_of-notes.ensures i)))
          ∙ reported key (c.end_laws.ensures key) c.in_ok-slots.slots.items c.in_ok-slots.roll slots
          ∙ ap (λ (k : RunPlan). report (abstracted k.program) k.numbers k.limit (turns_in (map turns_at c.in_ok-slots.slots.items))) (sym c.requires.plan)
          ∙ ap (λ ts. report (abstracted c.args.plan.program) c.args.plan.numbers c.args.plan.limit (turns_in ts)) (sym turns),
      subst (λ ts. Full (abstracted c.args.plan.program) c.args.plan.numbers c.args.plan.limit (turns_in ts)) (sym turns)
          (subst (λ (k : RunPlan). Full (abstracted k.program) k.numbers k.limit (turns_in (map turns_at c.in_ok-slots.slots.items))) (sym c.requires.plan)
          (full_turns key (c.end_laws.ensures key) c.in_ok-slots.slots.items c.in_ok-slots.roll slots)),
    )
