use Rattle.task_translation.specs.Compile.{is_candidate}
use Rattle.task_codegen.proofs.Wants.{pass_more, pass_last}
use Rattle.task_codegen.proofs.wanted.wanted_all.Goals as goal

pub loop-i-preserved : goal.loop-i-preserved
loop-i-preserved c =
    pass_more (is_candidate c.args.names.now.scope c.args.n) c.args.body.now c.loop-i.i _ c.at.ensures c.loop-i.invariant c.in_ok-wanted_of.ensures
    c.if-not-branch.false

pub returns-then-not-branch : goal.returns-then-not-branch
returns-then-not-branch c =
    pass_last (is_candidate c.args.names.now.scope c.args.n) c.args.body.now c.loop-i.i _ c.at.ensures c.loop-i.invariant c.in_ok-wanted_of.ensures
    c.if-not-branch.true
