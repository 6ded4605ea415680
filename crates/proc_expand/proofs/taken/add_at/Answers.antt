use Rattle.std.proofs.Common.{◌++◌, [], ◌∷◌, sym, ap, ◌∙◌, subst, arith}
use Rattle.std.specs.Prelude.{map}
use Rattle.std.proofs.lemmas.List.{length-map}
use Rattle.std.proofs.lemmas.Result.{on_ok_weaker}
use Rattle.proc_expand.specs.Words.{at, bytes_at, is_called, those}
use Rattle.proc_expand.specs.steps.Replaced.{IsTaken}
use Rattle.proc_expand.proofs.OpenBodies.{those_few}
use Rattle.proc_expand.proofs.TakenNames.{taken_count, not_here, also_here}
use Rattle.proc_expand.proofs.taken.add_at.Goals as goal

pub returns-then-not-is_called : goal.returns-then-not-is_called
returns-then-not-is_called c =
    subst (λ ns. IsTaken ns c.args.taken.now)
    (not_here c.args.tokens.now.lexemes c.args.signs.now c.args.place (sym (c.is_called.ensures ∙ ap is_called c.sign_at.ensures) ∙ c.if-not-is_called.true)) c.requires.taken

pub add_name-requires : goal.add_name-requires
add_name-requires c =
    let t = taken_count c.args.taken.now in let r = c.requires.taken in let m = r.many in
    let l = length-map (those c.args.place (λ k. is_called (at c.args.signs.now k))) (bytes_at c.args.tokens.now.lexemes) in
    let f = those_few c.args.place (λ k. is_called (at c.args.signs.now k)) in let w = c.requires.within in omega (arith, t, m, l, f, w)

pub returns : goal.returns
returns c =
    on_ok_weaker c.add_name.result
    (λ h. subst (λ ns. IsTaken ns c.add_name.new.taken)
    (ap (λ x. map (bytes_at c.args.tokens.now.lexemes) (those c.args.place (λ k. is_called (at c.args.signs.now k))) ++ x ∷ []) c.bytes_at.ensures
    ∙ also_here c.args.tokens.now.lexemes c.args.signs.now c.args.place (sym (c.is_called.ensures ∙ ap is_called c.sign_at.ensures) ∙ c.if-not-is_called.false))
    (h (map (bytes_at c.args.tokens.now.lexemes) (those c.args.place (λ k. is_called (at c.args.signs.now k)))) c.requires.taken))
    c.add_name.ensures
