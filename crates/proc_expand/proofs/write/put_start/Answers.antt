use Rattle.std.proofs.Common.{[], ◌∷◌, codes}
use Rattle.std.proofs.lemmas.Result.{on_ok_weaker}
use Rattle.proc_expand.specs.Written.{text_names, made_at}
use Rattle.proc_expand.proofs.PenFacts.{wrote_more, long_before, long_after, passed_on}
use Rattle.proc_expand.proofs.write.put_start.Goals as goal

pub put_made-requires-2 : goal.put_made-requires-2
put_made-requires-2 c = c.in_ok-put_made.ensures.wrote.pen

pub put_made-requires-3 : goal.put_made-requires-3
put_made-requires-3 c = c.in_ok-put_made-2.ensures.wrote.pen

pub returns-in_err-put_made-clause-grown : goal.returns-in_err-put_made-clause-grown
returns-in_err-put_made-clause-grown c =
    let ts = c.args.tokens.now.lexemes in let end = c.args.tokens.now.end in let k = c.args.call in
    λ e. long_before (made_at ts end k (codes "if") ∷ []) (made_at ts end k (codes "true") ∷ made_at ts end k (codes "{") ∷ []) c.args.pen.now
    (c.put_made.ensures.grown (passed_on _ _ _ c.from_residual.ensures.1 c.in_err-put_made.was e))

pub returns-in_err-put_made-2-clause-grown : goal.returns-in_err-put_made-2-clause-grown
returns-in_err-put_made-2-clause-grown c =
    let ts = c.args.tokens.now.lexemes in let end = c.args.tokens.now.end in let k = c.args.call in
    λ e. long_after (text_names ts end) (made_at ts end k (codes "if") ∷ []) (made_at ts end k (codes "true") ∷ made_at ts end k (codes "{") ∷ [])
    c.args.pen.now c.put_made.new.pen c.in_ok-put_made.ensures.wrote
    (long_before (made_at ts end k (codes "true") ∷ []) (made_at ts end k (codes "{") ∷ []) c.put_made.new.pen
    (c.put_made-2.ensures.grown (passed_on _ _ _ c.from_residual-in_err-put_made-2.ensures.1 c.in_err-put_made-2.was e)))

pub returns-clause-wrote : goal.returns-clause-wrote
returns-clause-wrote c =
    let ts = c.args.tokens.now.lexemes in let end = c.args.tokens.now.end in let k = c.args.call in
    on_ok_weaker c.put_made-3.result
    (λ w. wrote_more (text_names ts end) (made_at ts end k (codes "if") ∷ []) (made_at ts end k (codes "true") ∷ made_at ts end k (codes "{") ∷ [])
    c.args.pen.now c.put_made.new.pen c.put_made-3.new.pen c.in_ok-put_made.ensures.wrote
    (wrote_more (text_names ts end) (made_at ts end k (codes "true") ∷ []) (made_at ts end k (codes "{") ∷ [])
    c.put_made.new.pen c.put_made-2.new.pen c.put_made-3.new.pen c.in_ok-put_made-2.ensures.wrote w))
    c.put_made-3.ensures.wrote

pub returns-clause-grown : goal.returns-clause-grown
returns-clause-grown c =
    let ts = c.args.tokens.now.lexemes in let end = c.args.tokens.now.end in let k = c.args.call in
    λ e. long_after (text_names ts end) (made_at ts end k (codes "if") ∷ []) (made_at ts end k (codes "true") ∷ made_at ts end k (codes "{") ∷ [])
    c.args.pen.now c.put_made.new.pen c.in_ok-put_made.ensures.wrote
    (long_after (text_names ts end) (made_at ts end k (codes "true") ∷ []) (made_at ts end k (codes "{") ∷ [])
    c.put_made.new.pen c.put_made-2.new.pen c.in_ok-put_made-2.ensures.wrote (c.put_made-3.ensures.grown e))
