use Rattle.std.proofs.Common.{sym, ap, ◌∙◌, arith}
use Rattle.jade_base.specs.Rights.{is_there}
use Rattle.task_machine.proofs.Commuting.{commuting_found, commuting_missing, commuting_within, objects_long, plain_none}
use Rattle.task_machine.proofs.Searching.{tested_more}
use Rattle.task_machine.specs.steps.Commuting.{commutes_at, objects_of}
use Rattle.task_machine.proofs.entries.commuting.Goals as goal

pub returns-then-not-may_commute-clause-none : goal.returns-then-not-may_commute-clause-none
returns-then-not-may_commute-clause-none c = plain_none c.args.objects c.args.spec.now.entries (c.may_commute.ensures c.if-not-may_commute.true).rights

pub entries-preserved : goal.entries-preserved
entries-preserved c =
    let es = c.args.spec.now.entries in
    tested_more (commutes_at c.args.objects es) (objects_of es) c.entries.place c.rights_at.result.0 c.rights_at.ensures.object
    (ap (λ a. is_there a.commutes) (sym c.rights_at.ensures.rights) ∙ sym c.is_there.ensures ∙ c.if-is_there.false) c.entries.invariant

pub returns-then-is_there-clause-found : goal.returns-then-is_there-clause-found
returns-then-is_there-clause-found c =
    let es = c.args.spec.now.entries in
    commuting_found c.args.objects es c.entries.place c.rights_at.result.0 c.rights_at.ensures.ascend c.entries.invariant c.rights_at.ensures.object
    (ap (λ a. is_there a.commutes) (sym c.rights_at.ensures.rights) ∙ sym c.is_there.ensures ∙ c.if-is_there.true)

pub returns-then-is_there-clause-within : goal.returns-then-is_there-clause-within
returns-then-is_there-clause-within c =
    commuting_within c.args.objects c.args.spec.now.entries c.rights_at.result.0
    (ap (λ a. is_there a.commutes) (sym c.rights_at.ensures.rights) ∙ sym c.is_there.ensures ∙ c.if-is_there.true)

pub returns-clause-none : goal.returns-clause-none
returns-clause-none c =
    let es = c.args.spec.now.entries in
    let long = objects_long es in
    commuting_missing c.args.objects es c.entries.place (omega (arith, long, c.entries-test.false, c.len-place-end.ensures.count)) c.entries.invariant
