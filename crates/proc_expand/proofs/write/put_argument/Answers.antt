use Rattle.std.proofs.Common.{◌≡◌, ◌+◌, ◌-◌, ◌*◌, [], ◌∷◌, ◌++◌, codes, map, ap, ◌∙◌, subst, arith}
use Rattle.std.proofs.lemmas.Result.{on_ok_weaker}
use Rattle.jade_syntax.specs.Abstract.{Name}
use Rattle.proc_expand.specs.Refusals.{param_place}
use Rattle.proc_expand.specs.Words.{bytes_at}
use Rattle.proc_expand.specs.Written.{text_names, made_at, token_at, from}
use Rattle.proc_expand.specs.steps.Frames.{names_in}
use Rattle.proc_expand.specs.steps.Sources.{param_token}
use Rattle.proc_expand.specs.steps.Pens.{Wrote, IsTooLong}
use Rattle.proc_expand.proofs.OpenBodies.{param_within}
use Rattle.proc_expand.proofs.PenFacts.{wrote_more, long_before, long_after, passed_on}
use Rattle.proc_expand.proofs.write.put_argument.Goals as goal

pub put_param-requires-clause-pen : goal.put_param-requires-clause-pen
put_param-requires-clause-pen c = c.in_ok-put_made.ensures.wrote.pen

pub put_made-requires-2 : goal.put_made-requires-2
put_made-requires-2 c = c.in_ok-put_param.ensures.wrote.pen

pub put_tokens-requires-clause-pen : goal.put_tokens-requires-clause-pen
put_tokens-requires-clause-pen c = c.in_ok-put_made-2.ensures.wrote.pen

pub put_made-requires-3 : goal.put_made-requires-3
put_made-requires-3 c = c.in_ok-put_tokens.ensures.wrote.pen

pub returns-in_err-put_made-clause-grown : goal.returns-in_err-put_made-clause-grown
returns-in_err-put_made-clause-grown c =
    let ts = c.args.tokens.now.lexemes in let end = c.args.tokens.now.end in let k = c.args.call.place in let names = text_names ts end in
    let kind = made_at ts end k c.bytes_at-kind.result.now in let name = param_token ts end c.args.call c.args.i in
    let is = made_at ts end k (codes "=") in let last = made_at ts end k (codes ";") in
    let toks = map (token_at ts end (names_in ts end c.args.around)) (from ts end c.args.start (c.args.stop - c.args.start)) in
    let e : bytes_at ts (c.args.call.procedure + 3 + 3 * c.args.i) ≡ bytes_at ts (param_place c.args.call.procedure c.args.i - 1) =
    (let z : c.args.call.procedure + 3 + 3 * c.args.i ≡ param_place c.args.call.procedure c.args.i - 1 = omega arith in ap (bytes_at ts) z) in
    let P : Name → Type 0 = λ x. IsTooLong c.args.pen.now (made_at ts end k x ∷ name ∷ is ∷ (toks ++ last ∷ [])) in
    λ g. subst P (c.bytes_at-kind.ensures ∙ e) (long_before (kind ∷ []) (name ∷ is ∷ (toks ++ last ∷ [])) c.args.pen.now (c.put_made.ensures.grown (passed_on _ _ _ c.from_residual.ensures.1 c.in_err-put_made.was g)))

pub returns-in_err-put_param-clause-grown : goal.returns-in_err-put_param-clause-grown
returns-in_err-put_param-clause-grown c =
    let ts = c.args.tokens.now.lexemes in let end = c.args.tokens.now.end in let k = c.args.call.place in let names = text_names ts end in
    let kind = made_at ts end k c.bytes_at-kind.result.now in let name = param_token ts end c.args.call c.args.i in
    let is = made_at ts end k (codes "=") in let last = made_at ts end k (codes ";") in
    let toks = map (token_at ts end (names_in ts end c.args.around)) (from ts end c.args.start (c.args.stop - c.args.start)) in
    let e : bytes_at ts (c.args.call.procedure + 3 + 3 * c.args.i) ≡ bytes_at ts (param_place c.args.call.procedure c.args.i - 1) =
    (let z : c.args.call.procedure + 3 + 3 * c.args.i ≡ param_place c.args.call.procedure c.args.i - 1 = omega arith in ap (bytes_at ts) z) in
    let P : Name → Type 0 = λ x. IsTooLong c.args.pen.now (made_at ts end k x ∷ name ∷ is ∷ (toks ++ last ∷ [])) in
    λ g. subst P (c.bytes_at-kind.ensures ∙ e) (long_after names (kind ∷ []) (name ∷ is ∷ (toks ++ last ∷ [])) c.args.pen.now c.put_made.new.pen c.in_ok-put_made.ensures.wrote (long_before (name ∷ []) (is ∷ (toks ++ last ∷ [])) c.put_made.new.pen (c.put_param.ensures.grown (passed_on _ _ _ c.from_residual-in_err-put_param.ensures.1 c.in_err-put_param.was g))))

pub returns-in_err-put_made-2-clause-grown : goal.returns-in_err-put_made-2-clause-grown
returns-in_err-put_made-2-clause-grown c =
    let ts = c.args.tokens.now.lexemes in let end = c.args.tokens.now.end in let k = c.args.call.place in let names = text_names ts end in
    let kind = made_at ts end k c.bytes_at-kind.result.now in let name = param_token ts end c.args.call c.args.i in
    let is = made_at ts end k (codes "=") in let last = made_at ts end k (codes ";") in
    let toks = map (token_at ts end (names_in ts end c.args.around)) (from ts end c.args.start (c.args.stop - c.args.start)) in
    let e : bytes_at ts (c.args.call.procedure + 3 + 3 * c.args.i) ≡ bytes_at ts (param_place c.args.call.procedure c.args.i - 1) =
    (let z : c.args.call.procedure + 3 + 3 * c.args.i ≡ param_place c.args.call.procedure c.args.i - 1 = omega arith in ap (bytes_at ts) z) in
    let P : Name → Type 0 = λ x. IsTooLong c.args.pen.now (made_at ts end k x ∷ name ∷ is ∷ (toks ++ last ∷ [])) in
    λ g. subst P (c.bytes_at-kind.ensures ∙ e) (long_after names (kind ∷ []) (name ∷ is ∷ (toks ++ last ∷ [])) c.args.pen.now c.put_made.new.pen c.in_ok-put_made.ensures.wrote (long_after names (name ∷ []) (is ∷ (toks ++ last ∷ [])) c.put_made.new.pen c.put_param.new.pen c.in_ok-put_param.ensures.wrote (long_before (is ∷ []) (toks ++ last ∷ []) c.put_param.new.pen (c.put_made-2.ensures.grown (passed_on _ _ _ c.from_residual-in_err-put_made-2.ensures.1 c.in_err-put_made-2.was g)))))

pub returns-in_err-put_tokens-clause-grown : goal.returns-in_err-put_tokens-clause-grown
returns-in_err-put_tokens-clause-grown c =
    let ts = c.args.tokens.now.lexemes in let end = c.args.tokens.now.end in let k = c.args.call.place in let names = text_names ts end in
    let kind = made_at ts end k c.bytes_at-kind.result.now in let name = param_token ts end c.args.call c.args.i in
    let is = made_at ts end k (codes "=") in let last = made_at ts end k (codes ";") in
    let toks = map (token_at ts end (names_in ts end c.args.around)) (from ts end c.args.start (c.args.stop - c.args.start)) in
    let e : bytes_at ts (c.args.call.procedure + 3 + 3 * c.args.i) ≡ bytes_at ts (param_place c.args.call.procedure c.args.i - 1) =
    (let z : c.args.call.procedure + 3 + 3 * c.args.i ≡ param_place c.args.call.procedure c.args.i - 1 = omega arith in ap (bytes_at ts) z) in
    let P : Name → Type 0 = λ x. IsTooLong c.args.pen.now (made_at ts end k x ∷ name ∷ is ∷ (toks ++ last ∷ [])) in
    λ g. subst P (c.bytes_at-kind.ensures ∙ e) (long_after names (kind ∷ []) (name ∷ is ∷ (toks ++ last ∷ [])) c.args.pen.now c.put_made.new.pen c.in_ok-put_made.ensures.wrote (long_after names (name ∷ []) (is ∷ (toks ++ last ∷ [])) c.put_made.new.pen c.put_param.new.pen c.in_ok-put_param.ensures.wrote (long_after names (is ∷ []) (toks ++ last ∷ []) c.put_param.new.pen c.put_made-2.new.pen c.in_ok-put_made-2.ensures.wrote (long_before toks (last ∷ []) c.put_made-2.new.pen (c.put_tokens.ensures.grown (passed_on _ _ _ c.from_residual-in_err-put_tokens.ensures.1 c.in_err-put_tokens.was g))))))

pub returns-clause-grown : goal.returns-clause-grown
returns-clause-grown c =
    let ts = c.args.tokens.now.lexemes in let end = c.args.tokens.now.end in let k = c.args.call.place in let names = text_names ts end in
    let kind = made_at ts end k c.bytes_at-kind.result.now in let name = param_token ts end c.args.call c.args.i in
    let is = made_at ts end k (codes "=") in let last = made_at ts end k (codes ";") in
    let toks = map (token_at ts end (names_in ts end c.args.around)) (from ts end c.args.start (c.args.stop - c.args.start)) in
    let e : bytes_at ts (c.args.call.procedure + 3 + 3 * c.args.i) ≡ bytes_at ts (param_place c.args.call.procedure c.args.i - 1) =
    (let z : c.args.call.procedure + 3 + 3 * c.args.i ≡ param_place c.args.call.procedure c.args.i - 1 = omega arith in ap (bytes_at ts) z) in
    let P : Name → Type 0 = λ x. IsTooLong c.args.pen.now (made_at ts end k x ∷ name ∷ is ∷ (toks ++ last ∷ [])) in
    λ g. subst P (c.bytes_at-kind.ensures ∙ e) (long_after names (kind ∷ []) (name ∷ is ∷ (toks ++ last ∷ [])) c.args.pen.now c.put_made.new.pen c.in_ok-put_made.ensures.wrote (long_after names (name ∷ []) (is ∷ (toks ++ last ∷ [])) c.put_made.new.pen c.put_param.new.pen c.in_ok-put_param.ensures.wrote (long_after names (is ∷ []) (toks ++ last ∷ []) c.put_param.new.pen c.put_made-2.new.pen c.in_ok-put_made-2.ensures.wrote (long_after names toks (last ∷ []) c.put_made-2.new.pen c.put_tokens.new.pen c.in_ok-put_tokens.ensures.wrote (c.put_made-3.ensures.grown g)))))

pub returns-clause-wrote : goal.returns-clause-wrote
returns-clause-wrote c =
    let ts = c.args.tokens.now.lexemes in let end = c.args.tokens.now.end in let k = c.args.call.place in let names = text_names ts end in
    let kind = made_at ts end k c.bytes_at-kind.result.now in let name = param_token ts end c.args.call c.args.i in
    let is = made_at ts end k (codes "=") in let last = made_at ts end k (codes ";") in
    let toks = map (token_at ts end (names_in ts end c.args.around)) (from ts end c.args.start (c.args.stop - c.args.start)) in
    let e : bytes_at ts (c.args.call.procedure + 3 + 3 * c.args.i) ≡ bytes_at ts (param_place c.args.call.procedure c.args.i - 1) =
    (let z : c.args.call.procedure + 3 + 3 * c.args.i ≡ param_place c.args.call.procedure c.args.i - 1 = omega arith in ap (bytes_at ts) z) in
    let P : Name → Type 0 = λ x. Wrote names (made_at ts end k x ∷ name ∷ is ∷ (toks ++ last ∷ [])) c.args.pen.now c.put_made-3.new.pen in
    on_ok_weaker c.put_made-3.result (λ w. subst P (c.bytes_at-kind.ensures ∙ e) (wrote_more names (kind ∷ []) (name ∷ is ∷ (toks ++ last ∷ [])) c.args.pen.now c.put_made.new.pen c.put_made-3.new.pen c.in_ok-put_made.ensures.wrote (wrote_more names (name ∷ []) (is ∷ (toks ++ last ∷ [])) c.put_made.new.pen c.put_param.new.pen c.put_made-3.new.pen c.in_ok-put_param.ensures.wrote (wrote_more names (is ∷ []) (toks ++ last ∷ []) c.put_param.new.pen c.put_made-2.new.pen c.put_made-3.new.pen c.in_ok-put_made-2.ensures.wrote (wrote_more names toks (last ∷ []) c.put_made-2.new.pen c.put_tokens.new.pen c.put_made-3.new.pen c.in_ok-put_tokens.ensures.wrote w))))) c.put_made-3.ensures.wrote

pub overflow_mul-i : goal.overflow_mul-i
overflow_mul-i c =
    let ts = c.args.tokens.now.lexemes in let end = c.args.tokens.now.end in let is = c.requires.source in let f = is.few in
    let w = param_within ts end c.args.source.now is c.args.call c.args.i c.requires.opened c.requires.param in omega (arith, w, f)

pub overflow_add-call-2 : goal.overflow_add-call-2
overflow_add-call-2 c =
    let ts = c.args.tokens.now.lexemes in let end = c.args.tokens.now.end in let is = c.requires.source in let f = is.few in
    let w = param_within ts end c.args.source.now is c.args.call c.args.i c.requires.opened c.requires.param in omega (arith, w, f)
