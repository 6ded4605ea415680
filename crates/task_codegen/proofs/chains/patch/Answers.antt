use Rattle.std.proofs.Common.{◌≡◌, ◌-◌, ap, ap₂, sym, ◌∙◌, length, ◌∷◌, arith, length-append, slice_set}
use Rattle.std.specs.Prelude.{slice_index_or}
use Rattle.std.proofs.Math.Seq.{set-append_seam, get_or-append_seam}
use Rattle.task_codegen.specs.Chains.{counted}
use Rattle.task_codegen.proofs.chains.patch.Goals as goal

pub returns : goal.returns
returns c base rest old e long =
    let all = ap length e ∙ length-append base (old ∷ rest) in
    let n = c.len-2.ensures ∙ c.args.code.now.ok.0 in
    let count : c.len-2.result - c.args.at - 1 ≡ length rest = omega (arith, all, n, long) in
    let was : c.index-instr.result.now ≡ old =
    c.index-instr.ensures ∙ ap₂ (λ l k. slice_index_or l k c.index-instr.result.now) e (sym long) ∙ get_or-append_seam base old rest c.index-instr.result.now in
    ap (λ x. slice_set c.args.code.now.items c.args.at x) (c.counted.ensures ∙ ap₂ counted was count)
    ∙ ap₂ (λ l k. slice_set l k (counted old (length rest))) e (sym long)
    ∙ set-append_seam base old rest (counted old (length rest))
