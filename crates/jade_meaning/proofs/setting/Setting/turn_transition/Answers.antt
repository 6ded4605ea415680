use Rattle.std.proofs.Common.{ℕ, ◌-◌, ◌∷◌, ap, sym, ◌∙◌, refl, Some, length, drop}
use Rattle.std.specs.Prelude.{ℤ}
use Rattle.jade_base.specs.declared.report.Blame.{Blame}
use Rattle.jade_syntax.specs.Image.{block}
use Rattle.jade_meaning.specs.declared.values.Value.{Value}
use Rattle.jade_meaning.specs.steps.Tallied.{Tallied}
use Rattle.jade_meaning.specs.Values.{turn_count}
use Rattle.jade_meaning.specs.Course.{Ends, On, Environment, turns, run_all}
use Rattle.jade_meaning.specs.steps.Perform.{shown}
use Rattle.jade_meaning.proofs.Framing.{turn_goes, turn_stops}
use Rattle.jade_meaning.proofs.setting.Setting.turn_transition.Goals as goal

pub returns-in-Err : goal.returns-in-Err
returns-in-Err c =
    λ vs. turn_stops (shown c.args.self.now) vs c.args.run.now c.args.name.now c.args.body.now c.args.range.0 c.args.range.1
    (c.is_left.ensures.left c.if-is_left.true) c.in-Err.ensures.beyond ∙ ap (λ (b : Blame). Ends (Some b)) (sym c.in-Err.ensures.fault)

pub returns-in_ok-bind : goal.returns-in_ok-bind
returns-in_ok-bind c =
    let s = shown c.args.self.now in
    let r = c.args.run.now in
    let rest : On → ℤ → On = λ on h. turns s.limit (turn_count c.after_first.result.0 h) c.after_first.result.0 c.args.name.now
    (run_all s (block c.args.body.now)) on in
    let left : On → ℕ → On = λ on k n. on (record n { env = drop (length n.env - k) n.env }) in
    let with_value : Value → Environment = λ v. record { name = c.args.name.now; value = v } ∷ r.task.scope in
    λ vs. turn_goes s vs r c.args.name.now c.args.body.now c.args.range.0 c.after_first.result.0 c.args.range.1 _ _ _ c.push.new.self.items
    c.push-then-is_left.new.self.items c.push-then-is_left-2.new.self.items c.bind.new.self c.begin_step.new.self.taken
    (c.is_left.ensures.left c.if-is_left.true) (ap (λ (p : ℤ × ℤ). p.0) c.after_first.ensures) c.in-Ok.ensures.within
    (ap (λ (t : Tallied). t.taken) c.in-Ok.ensures.counted) (c.in_ok-bind.ensures ∙ ap with_value c.first_of.ensures)
    (λ on. ap (rest on) (ap (λ (p : ℤ × ℤ). p.1) c.after_first.ensures)) (λ on. ap (left on) c.len.ensures) (λ on. refl)
    c.in_ok-push.ensures.items c.in_ok-push-2.ensures.items c.in_ok-push-3.ensures.items
