use Rattle.proc_expand.specs.Expanded.{text_of, origin_of}
use Rattle.jade_run.proofs.Given.{itself_read, itself_refused, expanded_read, expanded_refused, unexpanded_for}
use Rattle.jade_run.proofs.Standings.{stands_within}
use Rattle.jade_run.proofs.answer.program_of.Goals as goal

pub returns-in-Ok-clause-read : goal.returns-in-Ok-clause-read
returns-in-Ok-clause-read c =
    itself_read c.args.text.now c.in-Ok-Itself.tokens c.in-Ok.program (rw c.in-Ok-Itself.field-0-is at c.in-Ok-Itself.ensures.standing) c.in-Ok.ensures.read

pub returns-in-Ok-Itself-clause-refused : goal.returns-in-Ok-Itself-clause-refused
returns-in-Ok-Itself-clause-refused c =
    itself_refused c.args.text.now c.in-Ok-Itself.tokens c.in-Err-parsed.error (rw c.in-Ok-Itself.field-0-is at c.in-Ok-Itself.ensures.standing)
    c.in-Err-parsed.ensures.refused

pub expanded_tree-requires : goal.expanded_tree-requires
expanded_tree-requires c =
    let e = c.in-Ok-Expanded.expanded in
    stands_within c.args.text.now (text_of e) (origin_of e) c.requires (rw c.in-Ok-Expanded.field-0-is at c.in-Ok-Expanded.ensures.standing)

pub returns-in-Ok-expanded_tree-clause-read : goal.returns-in-Ok-expanded_tree-clause-read
returns-in-Ok-expanded_tree-clause-read c =
    expanded_read c.args.text.now c.in-Ok-Expanded.expanded c.in-Ok-expanded_tree.program
    (rw c.in-Ok-Expanded.field-0-is at c.in-Ok-Expanded.ensures.standing) c.in-Ok-expanded_tree.ensures.read

pub returns-in-Ok-Expanded-clause-refused : goal.returns-in-Ok-Expanded-clause-refused
returns-in-Ok-Expanded-clause-refused c =
    expanded_refused c.args.text.now c.in-Ok-Expanded.expanded c.in-Err-expanded_tree.error
    (rw c.in-Ok-Expanded.field-0-is at c.in-Ok-Expanded.ensures.standing) c.in-Err-expanded_tree.ensures.refused

pub returns-clause-refused : goal.returns-clause-refused
returns-clause-refused c = unexpanded_for c.args.text.now c.in-Err.error c.in-Err.ensures.refused
