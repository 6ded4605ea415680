use Rattle.std.proofs.Common.{◌∙◌, sym, arith}
use Rattle.object_shelf.proofs.Clearing.{out-some, out-fewer}
use Rattle.object_shelf.proofs.Entries.{got}
use Rattle.object_shelf.proofs.clear.out_at.Goals as goal

pub returns-clause-more : goal.returns-clause-more
returns-clause-more c =
    λ h. let es = c.args.rows.now.items in
    let r = out-fewer es c.args.place c.index.result.now (got es c.args.place c.index.result.now c.requires.place c.index.ensures)
    (sym c.takes_out.ensures ∙ h) in
    omega (arith, r, c.requires.clear.out)

pub returns-clause-fewer : goal.returns-clause-fewer
returns-clause-fewer c =
    λ h. let es = c.args.rows.now.items in
    let r = out-some es c.args.place c.index.result.now (got es c.args.place c.index.result.now c.requires.place c.index.ensures)
    (sym c.takes_out.ensures ∙ h) in
    omega (arith, r, c.requires.clear.out)
