use Rattle.std.proofs.Common.{◌≡◌, ap, ap₂, sym, ◌∙◌, slice_set}
use Rattle.std.specs.Prelude.{slice_index_or}
use Rattle.std.proofs.Math.Seq.{set-append_seam, get_or-append_seam}
use Rattle.code_meaning.specs.Meaning.{Body}
use Rattle.task_codegen.proofs.slots.set_slots.Goals as goal

pub returns : goal.returns
returns c base rest old e long =
    let d = c.index_mut.result.now in
    let was : d ≡ old = c.index_mut.ensures.value ∙ ap₂ (λ l k. slice_index_or l k d) e (sym long) ∙ get_or-append_seam base old rest d in
    let new : Body → Body = λ b. record { call = b.call; slots = c.args.slots; code = b.code } in
    ap (λ b. slice_set c.args.bodies.now.items c.args.at (new b)) (c.behind-bodies.view_is ∙ was)
    ∙ ap₂ (λ l k. slice_set l k (new old)) e (sym long)
    ∙ set-append_seam base old rest (new old)
