use Rattle.std.proofs.Common.{◌+◌, ◌-◌, [], ◌∷◌, refl, ap, arith}
use Rattle.std.specs.Prelude.{map}
use Rattle.proc_expand.specs.Written.{text_names, from, token_at}
use Rattle.proc_expand.specs.steps.Frames.{names_in}
use Rattle.proc_expand.proofs.PenFacts.{left_start, left_step, left_done, left_long, passed_on}
use Rattle.proc_expand.proofs.Writing.{from_first, from_none}
use Rattle.proc_expand.proofs.write.put_tokens.Goals as goal

pub loop-place-init : goal.loop-place-init
loop-place-init c =
    let ts = c.args.tokens.now.lexemes in let end = c.args.tokens.now.end in
    let all = map (token_at ts end (names_in ts end c.args.call)) (from ts end c.args.start (c.args.stop - c.args.start)) in
    left_start (text_names ts end) c.args.pen.now c.args.pen.now all all refl c.requires.pen

pub put_token-requires-clause-pen : goal.put_token-requires-clause-pen
put_token-requires-clause-pen c = c.loop-place.invariant.pen

pub put_token-requires-clause-stands : goal.put_token-requires-clause-stands
put_token-requires-clause-stands c =
    let t = c.loop-place-test.true in let u = c.loop-place.auto.place in let v = c.loop-place.auto.place-end in
    c.requires.stand.each c.loop-place.place (omega (arith, u)) (omega (arith, t, u, v))

pub loop-place-preserved : goal.loop-place-preserved
loop-place-preserved c =
    let ts = c.args.tokens.now.lexemes in let end = c.args.tokens.now.end in let tok = token_at ts end (names_in ts end c.args.call) in
    let k = c.loop-place.place in let t = c.loop-place-test.true in
    left_step (text_names ts end) c.args.pen.now c.loop-place.pen (map tok (from ts end c.args.start (c.args.stop - c.args.start)))
    c.put_token.new.pen (map tok (from ts end k (c.args.stop - k))) (tok k ∷ []) (map tok (from ts end (k + 1) (c.args.stop - (k + 1))))
    (ap (map tok) (from_first ts end k c.args.stop (omega (arith, t)))) c.loop-place.invariant c.in_ok-put_token.ensures.wrote

pub returns-in_err-put_token-clause-grown : goal.returns-in_err-put_token-clause-grown
returns-in_err-put_token-clause-grown c =
    let ts = c.args.tokens.now.lexemes in let end = c.args.tokens.now.end in let tok = token_at ts end (names_in ts end c.args.call) in
    let k = c.loop-place.place in let t = c.loop-place-test.true in
    λ e. left_long (text_names ts end) c.args.pen.now c.loop-place.pen (map tok (from ts end c.args.start (c.args.stop - c.args.start)))
    (map tok (from ts end k (c.args.stop - k))) (tok k ∷ []) (map tok (from ts end (k + 1) (c.args.stop - (k + 1))))
    (ap (map tok) (from_first ts end k c.args.stop (omega (arith, t)))) c.loop-place.invariant
    (c.put_token.ensures.grown (passed_on _ _ _ c.from_residual.ensures.1 c.in_err-put_token.was e))

pub returns-clause-wrote : goal.returns-clause-wrote
returns-clause-wrote c =
    let ts = c.args.tokens.now.lexemes in let end = c.args.tokens.now.end in let tok = token_at ts end (names_in ts end c.args.call) in
    let k = c.loop-place.place in let t = c.loop-place-test.false in
    left_done (text_names ts end) c.args.pen.now c.loop-place.pen (map tok (from ts end c.args.start (c.args.stop - c.args.start)))
    (map tok (from ts end k (c.args.stop - k))) (ap (map tok) (from_none ts end k (c.args.stop - k) (omega (arith, t)))) c.loop-place.invariant
