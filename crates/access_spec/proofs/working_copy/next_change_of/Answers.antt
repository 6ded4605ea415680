use Rattle.std.proofs.Common.{arith}
use Rattle.std.proofs.lemmas.Bool.Decides.{nat_tests}
use Rattle.access_spec.proofs.Changed.{next_changed-turn}
use Rattle.access_spec.proofs.working_copy.next_change_of.Goals as goal
use Rattle.access_spec.proofs.working_copy.next_change_of.Goals.{else-from-object-via-then-from-object+else-not-same, else-from-object-via-else-from-object}

pub returns-then-not-same-clause-next : goal.returns-then-not-same-clause-next
returns-then-not-same-clause-next c =
    let turn = next_changed-turn c.args.spec.now.entries c.args.spec.now.draft c.args.from c.loop-place.place c.entry.result c.draft_at-copied.result
    c.entry.ensures c.draft_at-copied.ensures in
    grind (arith, nat_tests, turn)

pub loop-place-preserved : goal.loop-place-preserved
loop-place-preserved c =
    let turn = next_changed-turn c.args.spec.now.entries c.args.spec.now.draft c.args.from c.loop-place.place c.entry.result c.draft_at-copied.result
    c.entry.ensures c.draft_at-copied.ensures in
    elim c.else-from-object.branch [
      | else-from-object-via-then-from-object+else-not-same w ↦ grind (arith, nat_tests, turn)
      | else-from-object-via-else-from-object w ↦ grind (arith, nat_tests, turn)
    ]
