use Rattle.std.proofs.Common.{refl, ap, sym, ◌∙◌, Some}
use Rattle.jade_base.specs.declared.report.Blame.{Blame}
use Rattle.jade_syntax.specs.Image.{block}
use Rattle.jade_meaning.specs.steps.Perform.{shown}
use Rattle.jade_meaning.specs.steps.Frames.{frames_on}
use Rattle.jade_meaning.specs.declared.frames.Running.{Running}
use Rattle.jade_meaning.specs.Course.{Amending, Ends, scoped, run_all, change}
use Rattle.jade_meaning.proofs.Framing.{section_goes, section_opens, section_bars}
use Rattle.jade_meaning.proofs.setting.Setting.with_transition.Goals as goal

pub returns-then-is_commuting : goal.returns-then-is_commuting
returns-then-is_commuting c =
    let s = shown c.args.self.now in
    let r = c.args.run.now in
    λ vs. section_bars s vs r c.args.at (Amending r.task.spec) (scoped (run_all s (block c.args.section.now)) (change (frames_on s r.frames.items)))
    (sym c.is_commuting.ensures ∙ c.if-is_commuting.true) ∙ ap (λ (b : Blame). Ends (Some b)) (sym c.blame_at.ensures)

pub returns : goal.returns
returns c =
    let s = shown c.args.self.now in
    let r = c.args.run.now in
    let u : Running = record { task = c.begin_amending.new.task; frames = c.push.new.self; used = r.used } in
    λ vs. section_opens s vs r c.args.at (Amending r.task.spec) (scoped (run_all s (block c.args.section.now)) (change (frames_on s r.frames.items)))
    (sym c.is_commuting.ensures ∙ c.if-is_commuting.false)
    ∙ section_goes s vs r c.args.section.now _ (Amending r.task.spec) u c.enter.new.run c.in_ok-begin_amending.ensures
    c.in_ok-push.ensures.items refl (c.in_ok-enter.ensures.0 s) c.in_ok-enter.ensures.1 c.in_ok-enter.ensures.2
