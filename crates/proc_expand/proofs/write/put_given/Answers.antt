use Rattle.std.proofs.Common.{◌≡◌, ◌+◌, List, sym, ap, ◌∙◌, subst, arith}
use Rattle.std.proofs.lemmas.List.{length-map}
use Rattle.jade_lexer.specs.Lexemes.{TokenAt}
use Rattle.proc_expand.specs.declared.procedures.Head.{Head}
use Rattle.proc_expand.specs.declared.sign.Sign.{Sign}
use Rattle.proc_expand.specs.Words.{signs, sign_of}
use Rattle.proc_expand.specs.Refusals.{head}
use Rattle.proc_expand.specs.Written.{text_names}
use Rattle.proc_expand.specs.steps.Sources.{InBrackets, EndsArgument, given_all, given_from, given_one}
use Rattle.proc_expand.proofs.Nested.{closed_in}
use Rattle.proc_expand.proofs.CallFacts.{call_within}
use Rattle.proc_expand.proofs.PenFacts.{left_start, left_step, left_done, left_long, passed_on}
use Rattle.proc_expand.proofs.Writing.{given_step, given_none, count_step, in_call, commas_counted, given_whole}
use Rattle.proc_expand.proofs.write.put_given.Goals as goal

pub loop-i-init : goal.loop-i-init
loop-i-init c =
    let ts = c.args.tokens.now.lexemes in let end = c.args.tokens.now.end in let ss = signs ts in
    let around = c.args.around in let call = c.args.call in
    let t = c.requires.called in let e = c.requires.close in let n = c.requires.count in
    let h : c.read_head-head.result.params ≡ (head ss call.procedure).params =
    ap (λ (q : Head). q.params) c.read_head-head.ensures.value
    ∙ ap (λ (u : List Sign). (head u call.procedure).params) (c.deref.ensures.value ∙ c.requires.source.scan.read) in
    record {
      left = left_start (text_names ts end) c.args.pen.now c.args.pen.now (given_all ts end around call)
          (given_from ts end around call c.read_head-head.result.params 0 (call.place + 2) c.args.close)
          (given_whole ts end around call c.args.close t e n c.read_head-head.result.params h) c.requires.pen;
      next = λ l. commas_counted ts end around call c.args.close t e n (omega (arith, l, h)) ∙ sym h;
      inside = λ l. in_call ts end around call c.args.close t e n;
      after = omega arith;
    }

pub argument_end-stop-requires-clause-inside : goal.argument_end-stop-requires-clause-inside
argument_end-stop-requires-clause-inside c =
    subst (λ us. InBrackets us c.loop-i.start c.args.close) (sym (c.deref-in-loop-i.ensures.value ∙ c.requires.source.scan.read)) (c.loop-i.invariant.inside c.loop-i-test.true)

pub put_argument-requires-clause-pen : goal.put_argument-requires-clause-pen
put_argument-requires-clause-pen c = c.loop-i.invariant.left.pen

pub put_argument-requires-clause-stand : goal.put_argument-requires-clause-stand
put_argument-requires-clause-stand c =
    let a = c.argument_end-stop.ensures.up in let b = c.loop-i.invariant.after in
    record { each = λ k m l. c.requires.stand.each k (omega (arith, m, b)) (omega (arith, l, a)) }

pub loop-i-preserved : goal.loop-i-preserved
loop-i-preserved c =
    let ts = c.args.tokens.now.lexemes in let end = c.args.tokens.now.end in let ss = signs ts in
    let around = c.args.around in let call = c.args.call in let i = c.loop-i.i in let start = c.loop-i.start in let close = c.args.close in
    let params = c.read_head-head.result.params in let stop = c.argument_end-stop.result in let t = c.loop-i-test.true in
    let h : EndsArgument ss start close stop =
    subst (λ us. EndsArgument us start close stop) (c.deref-in-loop-i.ensures.value ∙ c.requires.source.scan.read) c.argument_end-stop.ensures in
    let n = c.loop-i.invariant.next t in let b = c.loop-i.invariant.after in
    record {
      left = left_step (text_names ts end) c.args.pen.now c.loop-i.pen (given_all ts end around call) c.put_argument.new.pen
          (given_from ts end around call params i start close) (given_one ts end around call i start stop)
          (given_from ts end around call params (i + 1) (stop + 1) close) (given_step ts end around call params i start stop close t n h)
          c.loop-i.invariant.left c.in_ok-put_argument.ensures.wrote;
      next = λ l. (count_step ts end around call params i start stop close n h l).0;
      inside = λ l. (count_step ts end around call params i start stop close n h l).1;
      after = let d = h.down in omega (arith, d, b);
    }

pub returns-in_err-put_argument-clause-grown : goal.returns-in_err-put_argument-clause-grown
returns-in_err-put_argument-clause-grown c =
    let ts = c.args.tokens.now.lexemes in let end = c.args.tokens.now.end in let ss = signs ts in
    let around = c.args.around in let call = c.args.call in let i = c.loop-i.i in let start = c.loop-i.start in let close = c.args.close in
    let params = c.read_head-head.result.params in let stop = c.argument_end-stop.result in let t = c.loop-i-test.true in
    let h : EndsArgument ss start close stop =
    subst (λ us. EndsArgument us start close stop) (c.deref-in-loop-i.ensures.value ∙ c.requires.source.scan.read) c.argument_end-stop.ensures in
    let n = c.loop-i.invariant.next t in
    λ e. left_long (text_names ts end) c.args.pen.now c.loop-i.pen (given_all ts end around call)
    (given_from ts end around call params i start close) (given_one ts end around call i start stop)
    (given_from ts end around call params (i + 1) (stop + 1) close) (given_step ts end around call params i start stop close t n h)
    c.loop-i.invariant.left (c.put_argument.ensures.grown (passed_on _ _ _ c.from_residual.ensures.1 c.in_err-put_argument.was e))

pub returns-clause-wrote : goal.returns-clause-wrote
returns-clause-wrote c =
    let ts = c.args.tokens.now.lexemes in let end = c.args.tokens.now.end in
    let around = c.args.around in let call = c.args.call in let i = c.loop-i.i in let start = c.loop-i.start in let close = c.args.close in
    let params = c.read_head-head.result.params in let t = c.loop-i-test.false in
    left_done (text_names ts end) c.args.pen.now c.loop-i.pen (given_all ts end around call)
    (given_from ts end around call params i start close) (given_none ts end around call params i start close (omega (arith, t))) c.loop-i.invariant.left

pub overflow_add-start-in-loop-i : goal.overflow_add-start-in-loop-i
overflow_add-start-in-loop-i c =
    let ts = c.args.tokens.now.lexemes in let ss = signs ts in let k = c.args.call.place in let f = c.requires.source.few in
    let w = closed_in ss (k + 1) c.args.close (call_within ss k c.requires.called) c.requires.close in
    let m = length-map ts (λ (t : TokenAt). sign_of t.bytes) in let u = c.argument_end-stop.ensures.up in omega (arith, w, m, u, f)
