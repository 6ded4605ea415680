use Rattle.proc_expand.proofs.Writing.{callee_is, callee_meant, no_callee}
use Rattle.proc_expand.proofs.write.callee_of.Goals as goal

pub returns-clause-value : goal.returns-clause-value
returns-clause-value c = callee_is c.args.tokens.now.lexemes c.in-Some.procedure _ c.in-Some.ensures

pub returns-clause-meant : goal.returns-clause-meant
returns-clause-meant c = callee_meant c.args.tokens.now.lexemes c.in-Some.procedure _ c.in-Some.ensures

pub unreachable-requires : goal.unreachable-requires
unreachable-requires c =
    no_callee c.args.tokens.now.lexemes c.args.tokens.now.end c.requires.source.accepted c.args.place c.requires.within c.requires.call c.in-None.ensures
