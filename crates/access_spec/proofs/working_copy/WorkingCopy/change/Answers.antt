use Rattle.std.proofs.Common.{refl, ◌∙◌}
use Rattle.std.proofs.lemmas.Result.{err_from_is_err_and}
use Rattle.access_spec.proofs.Copied.{placed, missing, copied-at, with_copied-at, with_copied-missing}
use Rattle.access_spec.proofs.working_copy.WorkingCopy.change.Goals as goal

pub draft_at-requires : goal.draft_at-requires
draft_at-requires c = (placed c.self.inside.spec c.args.object c.in-Some.place c.in-Some.ensures.drafted c.in-Some.ensures.place).within

pub set_draft-requires : goal.set_draft-requires
set_draft-requires c = (placed c.self.inside.spec c.args.object c.in-Some.place c.in-Some.ensures.drafted c.in-Some.ensures.place).within

pub returns-in_err-rights-in-Some-clause-refused :
    goal.returns-in_err-rights-in-Some-clause-refused
returns-in_err-rights-in-Some-clause-refused c =
    let e = copied-at c.self.inside.spec c.args.object c.in-Some.place c.draft_at.result c.in-Some.ensures.drafted c.in-Some.ensures.place c.draft_at.ensures in
    let p = err_from_is_err_and c.from_residual.result c.from_residual.ensures.1 in
    rw (p.1, ← c.self.view_is, e) (c.in_err-rights-in-Some.ensures, refl)

pub returns-in_err-amend-in-None-clause-refused : goal.returns-in_err-amend-in-None-clause-refused
returns-in_err-amend-in-None-clause-refused c =
    let e = (missing c.self.inside.spec c.args.object c.in-None.ensures.drafted c.in-None.ensures.place).read in
    let p = err_from_is_err_and c.from_residual-in_err-amend-in-None.result c.from_residual-in_err-amend-in-None.ensures.1 in
    rw (p.1, ← c.self.view_is, e) (c.in_err-amend-in-None.ensures, refl)

pub returns-in_ok-rights-in-Some-clause-changed : goal.returns-in_ok-rights-in-Some-clause-changed
returns-in_ok-rights-in-Some-clause-changed c =
    let e = copied-at c.self.inside.spec c.args.object c.in-Some.place c.draft_at.result c.in-Some.ensures.drafted c.in-Some.ensures.place c.draft_at.ensures in
    rw (← c.self.view_is, e, c.in_ok-rights-in-Some.ensures)
    (c.set_draft.ensures ∙ with_copied-at c.self.inside.spec c.args.object c.in-Some.place c.in_ok-rights-in-Some.rights c.in-Some.ensures.drafted
    c.in-Some.ensures.place)

pub returns-in_ok-amend-in-None-clause-changed : goal.returns-in_ok-amend-in-None-clause-changed
returns-in_ok-amend-in-None-clause-changed c =
    let e = (missing c.self.inside.spec c.args.object c.in-None.ensures.drafted c.in-None.ensures.place).read in
    rw (← c.self.view_is, e, c.in_ok-amend-in-None.ensures)
    (with_copied-missing c.self.inside.spec c.args.object c.in_ok-amend-in-None.field-0 c.in-None.ensures.drafted c.in-None.ensures.place)
