use Rattle.std.proofs.Common.{arith, inl, inr, ◌∙◌}
use Rattle.jade_run.proofs.Lines.{length-labels, text_lines_more, lines_all}
use Rattle.jade_run.proofs.texts.objects.Goals as goal
use Rattle.jade_run.proofs.texts.objects.Goals.{else-loop-i-test, then-loop-i-test+then-place-len}

pub loop-i-preserved : goal.loop-i-preserved
loop-i-preserved c =
    text_lines_more _ _ _ _ _ _ _ c.label-member.ensures c.at.ensures c.loop-i.invariant c.in_ok-push_object.ensures

pub returns : goal.returns
returns c =
    let labelled = length-labels c.args.checked.now.program.items in
    c.loop-i.invariant ∙ lines_all _ _ c.loop-i.i
    (elim c.loop-i-test.branch [
      | else-loop-i-test w ↦ inl (omega (arith, c.objects-i-end.ensures))
      | then-loop-i-test+then-place-len w ↦
          inr (omega (arith, w.len.ensures))
    ])
