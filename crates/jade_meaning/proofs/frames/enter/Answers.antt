use Rattle.std.proofs.Common.{◌-◌, length, drop, refl, ap, ◌∙◌}
use Rattle.jade_syntax.specs.Image.{block}
use Rattle.jade_meaning.specs.Course.{run_all}
use Rattle.jade_meaning.specs.steps.Frames.{frames_on}
use Rattle.jade_meaning.proofs.Framing.{twice}
use Rattle.jade_meaning.proofs.frames.enter.Goals as goal

pub returns : goal.returns
returns c = (
  (λ s. twice s _ _ _ _ _ c.in_ok-push.ensures.items c.in_ok-push-2.ensures.items
      ∙ ap (λ k. run_all s (block c.args.statements.now) (λ n. frames_on s c.args.run.now.frames.items (record n { env = drop (length n.env - k) n.env })))
      c.len.ensures),
  refl,
  refl,
)
