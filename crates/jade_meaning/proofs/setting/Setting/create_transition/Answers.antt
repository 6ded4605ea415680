use Rattle.std.proofs.Common.{◌++◌, map, drop, ap, sym, ◌∙◌, Some}
use Rattle.jade_base.specs.declared.report.Blame.{Blame}
use Rattle.jade_syntax.specs.Image.{block}
use Rattle.jade_meaning.specs.declared.setting.Task.{Task}
use Rattle.jade_meaning.specs.Specification.{covers}
use Rattle.jade_meaning.specs.Course.{Creates, Ends, finish, run_all, child_start, copied}
use Rattle.jade_meaning.specs.steps.Perform.{shown, mine_of}
use Rattle.jade_meaning.specs.steps.Frames.{fed, frames_on}
use Rattle.jade_meaning.proofs.Framing.{create_goes, create_stops, create_bars}
use Rattle.jade_meaning.proofs.setting.Setting.create_transition.Goals as goal

pub returns-then-not-may_commute : goal.returns-then-not-may_commute
returns-then-not-may_commute c =
    let s = shown c.args.self.now in
    λ vs. create_bars s vs c.args.run.now c.args.at (map (λ n. n.name) c.args.names.now) (run_all s (block c.args.body.now) finish) c.in_ok-spec.spec
    c.in_ok-spec.ensures.child (sym c.may_commute.ensures ∙ c.if-not-may_commute.true) ∙ ap (λ (b : Blame). Ends (Some b)) (sym c.blame_at.ensures)

pub returns-then-not-covers : goal.returns-then-not-covers
returns-then-not-covers c =
    let s = shown c.args.self.now in
    let child = c.in_ok-spec.spec in
    λ vs. create_stops s vs c.args.run.now c.args.at (map (λ n. n.name) c.args.names.now) (run_all s (block c.args.body.now) finish) child
    c.in_ok-spec.ensures.child (sym c.may_commute.ensures ∙ c.if-not-may_commute.false)
    (sym (ap (λ (t : Task). covers t.spec child) c.in_ok-spec.ensures.section) ∙ sym c.covers.ensures ∙ c.if-not-covers.true)
    ∙ ap (λ (b : Blame). Ends (Some b)) (sym c.blame_at-then-not-covers.ensures)

pub returns : goal.returns
returns c =
    let s = shown c.args.self.now in
    let child = c.in_ok-spec.spec in
    let names = map (λ n. n.name) c.args.names.now in
    let body = run_all s (block c.args.body.now) finish in
    λ vs. create_goes s vs c.args.run.now c.args.at names body child c.in_ok-scope.scope c.in_ok-spec.ensures.child
    (sym c.may_commute.ensures ∙ c.if-not-may_commute.false)
    (sym (ap (λ (t : Task). covers t.spec child) c.in_ok-spec.ensures.section) ∙ sym c.covers.ensures ∙ c.if-not-covers.false)
    (c.in_ok-scope.ensures ∙ ap (λ (t : Task). copied names t.scope ++ s.given) c.in_ok-spec.ensures.section)
    ∙ ap (λ (t : Task). Creates child (body (child_start c.in_ok-scope.scope child))
    (fed (drop c.args.run.now.used vs) (frames_on s c.args.run.now.frames.items (mine_of t)))) (sym c.in_ok-spec.ensures.section)
