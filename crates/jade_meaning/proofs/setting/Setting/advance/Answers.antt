use Rattle.std.proofs.Common.{◌≡◌, false, sym, ◌∙◌, refl}
use Rattle.jade_meaning.specs.steps.Configuration.{ready}
use Rattle.jade_meaning.specs.steps.Perform.{shown}
use Rattle.jade_meaning.proofs.Configurations.{idle, one_transition}
use Rattle.jade_meaning.proofs.Ending.{not_over_yet, transition_ends}
use Rattle.jade_meaning.proofs.setting.Setting.advance.Goals as goal

pub steps-preserved : goal.steps-preserved
steps-preserved c =
    let s = shown c.args.self.now in
    let given = c.args.answers.now in
    let t = c.steps.at in
    let u = record t { run = c.transition.new.run } in
    let v = c.tell_transition.new.at in
    let d = c.in_ok-transition.transition in
    let waits : ready t.pending.items t.stage ≡ false = sym c.is_ready.ensures ∙ c.if-is_ready.false in
    let still = idle t.pending.items t.stage waits (not_over_yet t.pending.items t.stage c.steps.invariant.ends waits) in
    record {
      same = λ vs.
          c.steps.invariant.same vs
          ∙ one_transition s given t u v d c.transition.new.run still.0 still.1 c.in_ok-transition.ensures refl c.in_ok-tell_transition.ensures vs;
      ends = transition_ends s d u v c.in_ok-tell_transition.ensures;
    }
