use Rattle.std.proofs.Common.{sym, ap, ◌∙◌, arith}
use Rattle.std.specs.Prelude.{not}
use Rattle.jade_meaning.specs.Specification.{fits_commuting}
use Rattle.task_machine.proofs.Commuting.{fits_all, fits_not, misfit_within, objects_long}
use Rattle.task_machine.proofs.Searching.{tested_more}
use Rattle.task_machine.specs.steps.Commuting.{misfits_at, objects_of}
use Rattle.task_machine.proofs.entries.may_have.Goals as goal

pub entries-preserved : goal.entries-preserved
entries-preserved c =
    let es = c.args.spec.now.entries in
    let own = c.in-Some.own.0 in
    let o = c.rights_at.result.0 in
    tested_more (misfits_at own c.args.objects es) (objects_of es) c.entries.place o c.rights_at.ensures.object
    (ap (λ a. not (fits_commuting own o.0 a)) (sym c.rights_at.ensures.rights) ∙ ap not (sym c.fits.ensures ∙ c.if-not-fits.false)) c.entries.invariant

pub returns-then-not-fits : goal.returns-then-not-fits
returns-then-not-fits c =
    let es = c.args.spec.now.entries in
    let own = c.in-Some.own.0 in
    let o = c.rights_at.result.0 in
    let bad = ap (λ a. not (fits_commuting own o.0 a)) (sym c.rights_at.ensures.rights) ∙ ap not (sym c.fits.ensures ∙ c.if-not-fits.true) in
    sym (fits_not c.args.objects es own c.in-Some.ensures.found o (misfit_within c.args.objects es own c.in-Some.ensures.found o bad) bad)

pub returns : goal.returns
returns c =
    let es = c.args.spec.now.entries in
    let long = objects_long es in
    sym (fits_all c.args.objects es c.in-Some.own.0 c.in-Some.ensures.found c.entries.place
    (omega (arith, long, c.entries-test.false, c.len-place-end.ensures.count)) c.entries.invariant)
