use borrow.Author.Gap.{gap}
use Rattle.jade_syntax.specs.Image.{block}
use Rattle.jade_meaning.specs.steps.Perform.{shown, perform_all}
use Rattle.jade_meaning.proofs.Following.{Comes, Turning}
use Rattle.jade_meaning.proofs.setting.Setting.+statement.Given as goal

abbrev pub invariant-block-loop-i : goal.invariant-block-loop-i
invariant-block-loop-i l = Comes (shown l.self) l.path l.statements l.initial.task l.initial.state l.i l.task l.state

abbrev pub invariant-turns-loop-index : goal.invariant-turns-loop-index
invariant-turns-loop-index l = Turning l.self.limit l.high l.name (perform_all (shown l.self) l.path (block l.body)) l.low l.initial.task l.initial.state
    l.index l.task l.state

abbrev pub decreases-turns-loop-index : goal.decreases-turns-loop-index
decreases-turns-loop-index l = gap l.index l.high
