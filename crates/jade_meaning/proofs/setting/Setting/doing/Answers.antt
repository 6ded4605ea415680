use Rattle.std.proofs.Common.{refl}
use Rattle.jade_syntax.specs.Image.{action}
use Rattle.jade_meaning.specs.steps.Perform.{shown}
use Rattle.jade_meaning.proofs.Framing.{did_next}
use Rattle.jade_meaning.proofs.setting.Setting.doing.Goals as goal

pub returns-in_ok-push-in-Asked : goal.returns-in_ok-push-in-Asked
returns-in_ok-push-in-Asked c =
    did_next (shown c.args.self.now) c.args.answers.now (action c.args.statement.now) c.args.run.now c.statement_transition.new.run c.in-Asked.object
    c.in-Asked.cell c.push.new.self.items _ (rw c.in-Asked.is at c.in_ok-transition.ensures) c.in_ok-push-in-Asked.ensures.items (λ on. refl)
