use Rattle.std.proofs.Common.{[], ◌∷◌, subst}
use Rattle.std.proofs.lemmas.Result.{on_ok_weaker}
use Rattle.jade_base.specs.declared.place.Pos.{Pos}
use Rattle.proc_expand.specs.Written.{text_names}
use Rattle.proc_expand.specs.steps.Pens.{Wrote, IsTooLong}
use Rattle.proc_expand.proofs.write.put_made.Goals as goal

pub put_bytes-requires : goal.put_bytes-requires
put_bytes-requires c = c.requires.sheet

pub returns-clause-wrote : goal.returns-clause-wrote
returns-clause-wrote c =
    let ts = c.args.tokens.now.lexemes in let end = c.args.tokens.now.end in let names = text_names ts end in
    let P : Pos → Type 0 = λ o. Wrote names (record { bytes = c.args.bytes.now; origin = o } ∷ []) c.args.pen.now c.put_bytes.new.pen in
    on_ok_weaker c.put_bytes.result (λ f. subst P c.pos_at.ensures (f names c.requires)) c.put_bytes.ensures.wrote

pub returns-clause-grown : goal.returns-clause-grown
returns-clause-grown c =
    let P : Pos → Type 0 = λ o. IsTooLong c.args.pen.now (record { bytes = c.args.bytes.now; origin = o } ∷ []) in
    λ e. subst P c.pos_at.ensures (c.put_bytes.ensures.grown e)
