use Rattle.std.proofs.Common.{refl, ap, sym, ◌∙◌, Some}
use Rattle.jade_base.specs.declared.report.Blame.{Blame}
use Rattle.jade_meaning.specs.steps.Tallied.{Tallied}
use Rattle.jade_meaning.specs.Course.{Ends}
use Rattle.jade_meaning.specs.steps.Perform.{shown}
use Rattle.jade_meaning.proofs.Framing.{rest_goes, rest_stops}
use Rattle.jade_meaning.proofs.setting.Setting.rest.Goals as goal

pub returns-in-Err : goal.returns-in-Err
returns-in-Err c = λ vs. rest_stops (shown c.args.self.now) vs c.args.run.now c.args.block.now c.args.next c.at-statement.result.now c.at-statement.ensures
    c.in-Err.ensures.beyond ∙ ap (λ (b : Blame). Ends (Some b)) (sym c.in-Err.ensures.fault)

pub returns-in_ok-push-2 : goal.returns-in_ok-push-2
returns-in_ok-push-2 c =
    λ vs. rest_goes (shown c.args.self.now) vs c.args.run.now c.args.block.now c.args.next c.at-statement.result.now _ _ _ _ c.begin_step.new.self.taken
    c.at-statement.ensures c.in-Ok.ensures.within (ap (λ (t : Tallied). t.taken) c.in-Ok.ensures.counted) (λ on. refl)
    (λ on. refl) c.in_ok-push.ensures.items c.in_ok-push-2.ensures.items
