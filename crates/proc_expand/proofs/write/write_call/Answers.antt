use Rattle.std.proofs.Common.{◌+◌, [], ◌∷◌, ◌++◌, ap, ◌∙◌, arith}
use Rattle.proc_expand.specs.declared.procedures.Procedure.{Procedure}
use Rattle.proc_expand.specs.Written.{text_names}
use Rattle.proc_expand.specs.steps.Sources.{start_tokens, given_all}
use Rattle.proc_expand.proofs.First.{index_any}
use Rattle.proc_expand.proofs.PenFacts.{wrote_more, long_before, long_after, passed_on}
use Rattle.proc_expand.proofs.Wholes.{stop_within}
use Rattle.proc_expand.proofs.Writing.{callee_begun, callee_within, callee_open, callee_counted, arguments_stand, close_up, count_at, counts_long, given_small, call_long, goes_call, frame_small, last_frame}
use Rattle.proc_expand.proofs.write.write_call.Goals as goal

pub callee_of-callee-requires-clause-within : goal.callee_of-callee-requires-clause-within
callee_of-callee-requires-clause-within c =
    c.requires.next.stands.within

pub close_of-close-requires-clause-within : goal.close_of-close-requires-clause-within
close_of-close-requires-clause-within c =
    c.requires.next.stands.within

pub put_start-requires : goal.put_start-requires
put_start-requires c =
    c.requires.writing.pen

pub put_given-requires-clause-pen : goal.put_given-requires-clause-pen
put_given-requires-clause-pen c =
    c.in_ok-put_start.ensures.wrote.pen

pub put_given-requires-clause-opened : goal.put_given-requires-clause-opened
put_given-requires-clause-opened c =
    let ts = c.args.tokens.now.lexemes in let end = c.args.tokens.now.end in let s = c.args.source.now in let is = c.requires.source in
    let p = c.args.pen.now in let fs = c.args.frames.now.items in let f = c.args.frame in let k = c.args.place in let n = c.args.given in
    let d = c.callee_of-callee.result.place in let close = c.close_of-close.result in let w = c.requires.writing in let h = c.requires.next in
    let t = c.requires.call in let e = c.close_of-close.ensures in let m = c.callee_of-callee.ensures.meant in
    callee_open ts end s is p fs f k n d close w h t e m c.put_start.new.pen c.in_ok-put_start.ensures.wrote

pub put_given-requires-clause-count : goal.put_given-requires-clause-count
put_given-requires-clause-count c =
    let ts = c.args.tokens.now.lexemes in let end = c.args.tokens.now.end in let s = c.args.source.now in let is = c.requires.source in
    let p = c.args.pen.now in let fs = c.args.frames.now.items in let f = c.args.frame in let k = c.args.place in let n = c.args.given in
    let d = c.callee_of-callee.result.place in let close = c.close_of-close.result in let w = c.requires.writing in let h = c.requires.next in
    let t = c.requires.call in let e = c.close_of-close.ensures in let m = c.callee_of-callee.ensures.meant in
    callee_counted ts end s is p fs f k n d close w h t e m

pub put_given-requires-clause-stand : goal.put_given-requires-clause-stand
put_given-requires-clause-stand c =
    let ts = c.args.tokens.now.lexemes in let end = c.args.tokens.now.end in let s = c.args.source.now in let is = c.requires.source in
    let p = c.args.pen.now in let fs = c.args.frames.now.items in let f = c.args.frame in let k = c.args.place in let n = c.args.given in
    let d = c.callee_of-callee.result.place in let close = c.close_of-close.result in let w = c.requires.writing in let h = c.requires.next in
    let t = c.requires.call in let e = c.close_of-close.ensures in let m = c.callee_of-callee.ensures.meant in
    arguments_stand ts end s is p fs f k n d close w h t e m

pub after_call-requires-clause-ordered : goal.after_call-requires-clause-ordered
after_call-requires-clause-ordered c =
    let ts = c.args.tokens.now.lexemes in let end = c.args.tokens.now.end in let s = c.args.source.now in let is = c.requires.source in
    let p = c.args.pen.now in let fs = c.args.frames.now.items in let f = c.args.frame in let k = c.args.place in let n = c.args.given in
    let d = c.callee_of-callee.result.place in let close = c.close_of-close.result in let w = c.requires.writing in let h = c.requires.next in
    let t = c.requires.call in let e = c.close_of-close.ensures in let m = c.callee_of-callee.ensures.meant in
    let u = close_up ts end s is p fs f k n d close w h t e m in omega (arith, u)

pub after_call-requires-clause-next : goal.after_call-requires-clause-next
after_call-requires-clause-next c =
    let ts = c.args.tokens.now.lexemes in let end = c.args.tokens.now.end in let s = c.args.source.now in let is = c.requires.source in
    let p = c.args.pen.now in let fs = c.args.frames.now.items in let f = c.args.frame in let k = c.args.place in let n = c.args.given in
    let d = c.callee_of-callee.result.place in let close = c.close_of-close.result in let w = c.requires.writing in let h = c.requires.next in
    let t = c.requires.call in let e = c.close_of-close.ensures in let m = c.callee_of-callee.ensures.meant in
    let u = frame_small ts end s is f (last_frame ts end s is fs f w.frames) in let l = c.requires.left in omega (arith, u, l)

pub after_call-requires-clause-close : goal.after_call-requires-clause-close
after_call-requires-clause-close c =
    let ts = c.args.tokens.now.lexemes in let end = c.args.tokens.now.end in let s = c.args.source.now in let is = c.requires.source in
    let p = c.args.pen.now in let fs = c.args.frames.now.items in let f = c.args.frame in let k = c.args.place in let n = c.args.given in
    let d = c.callee_of-callee.result.place in let close = c.close_of-close.result in let w = c.requires.writing in let h = c.requires.next in
    let t = c.requires.call in let e = c.close_of-close.ensures in let m = c.callee_of-callee.ensures.meant in
    let u = close_up ts end s is p fs f k n d close w h t e m in let v = is.few in omega (arith, u, v)

pub body_of-requires-clause-within : goal.body_of-requires-clause-within
body_of-requires-clause-within c =
    let ts = c.args.tokens.now.lexemes in let end = c.args.tokens.now.end in let s = c.args.source.now in let is = c.requires.source in
    let p = c.args.pen.now in let fs = c.args.frames.now.items in let f = c.args.frame in let k = c.args.place in let n = c.args.given in
    let d = c.callee_of-callee.result.place in let close = c.close_of-close.result in let w = c.requires.writing in let h = c.requires.next in
    let t = c.requires.call in let e = c.close_of-close.ensures in let m = c.callee_of-callee.ensures.meant in
    let u = stop_within ts end is.accepted d (callee_within ts end s is p fs f k n d close w h t e m) (callee_begun ts end s is p fs f k n d close w h t e m) in
    let v = ap (λ (q : Procedure). q.head.stop) c.callee_of-callee.ensures.value in omega (arith, u, v)

pub returns-in_err-put_start-clause-grown : goal.returns-in_err-put_start-clause-grown
returns-in_err-put_start-clause-grown c =
    let ts = c.args.tokens.now.lexemes in let end = c.args.tokens.now.end in let s = c.args.source.now in let is = c.requires.source in
    let p = c.args.pen.now in let fs = c.args.frames.now.items in let f = c.args.frame in let k = c.args.place in let n = c.args.given in
    let d = c.callee_of-callee.result.place in let close = c.close_of-close.result in let w = c.requires.writing in let h = c.requires.next in
    let t = c.requires.call in let e = c.close_of-close.ensures in let m = c.callee_of-callee.ensures.meant in
    λ x. call_long ts end s is p fs f k n d close w h t e m (long_before (start_tokens ts end k) (given_all ts end f.call (record { procedure = d; place = k; base = n })) p
    (c.put_start.ensures.grown (passed_on _ _ _ c.from_residual.ensures.1 c.in_err-put_start.was x)))

pub returns-in_err-put_given-clause-grown : goal.returns-in_err-put_given-clause-grown
returns-in_err-put_given-clause-grown c =
    let ts = c.args.tokens.now.lexemes in let end = c.args.tokens.now.end in let s = c.args.source.now in let is = c.requires.source in
    let p = c.args.pen.now in let fs = c.args.frames.now.items in let f = c.args.frame in let k = c.args.place in let n = c.args.given in
    let d = c.callee_of-callee.result.place in let close = c.close_of-close.result in let w = c.requires.writing in let h = c.requires.next in
    let t = c.requires.call in let e = c.close_of-close.ensures in let m = c.callee_of-callee.ensures.meant in
    λ x. call_long ts end s is p fs f k n d close w h t e m (long_after (text_names ts end) (start_tokens ts end k) (given_all ts end f.call (record { procedure = d; place = k; base = n })) p c.put_start.new.pen c.in_ok-put_start.ensures.wrote
    (c.put_given.ensures.grown (passed_on _ _ _ c.from_residual-in_err-put_given.ensures.1 c.in_err-put_given.was x)))

pub returns-clause-goes : goal.returns-clause-goes
returns-clause-goes c =
    let ts = c.args.tokens.now.lexemes in let end = c.args.tokens.now.end in let s = c.args.source.now in let is = c.requires.source in
    let p = c.args.pen.now in let fs = c.args.frames.now.items in let f = c.args.frame in let k = c.args.place in let n = c.args.given in
    let d = c.callee_of-callee.result.place in let close = c.close_of-close.result in let w = c.requires.writing in let h = c.requires.next in
    let t = c.requires.call in let e = c.close_of-close.ensures in let m = c.callee_of-callee.ensures.meant in
    goes_call ts end s is p c.put_given.new.pen fs c.push-2.new.self.items f c.after_call.result c.body_of.result k n d close _ w h t e m
    c.after_call.ensures.call c.after_call.ensures.next c.after_call.ensures.stop c.body_of.ensures.call c.body_of.ensures.next c.body_of.ensures.stop
    (c.in_ok-push-2.ensures.items ∙ ap (λ u. u ++ c.body_of.result ∷ []) c.in_ok-push.ensures.items)
    (ap (λ u. n + u) (c.index.ensures ∙ index_any s.marks.counts.items d c.index.result.now 0 (let a = counts_long ts end s is p fs f k n d close w h t e m in let b = callee_within ts end s is p fs f k n d close w h t e m in omega (arith, a, b)) ∙ count_at ts end s is p fs f k n d close w h t e m)) (callee_open ts end s is p fs f k n d close w h t e m c.put_start.new.pen c.in_ok-put_start.ensures.wrote)
    (wrote_more (text_names ts end) (start_tokens ts end k) (given_all ts end f.call (record { procedure = d; place = k; base = n })) p c.put_start.new.pen c.put_given.new.pen c.in_ok-put_start.ensures.wrote c.in_ok-put_given.ensures.wrote)

pub index-requires : goal.index-requires
index-requires c =
    let ts = c.args.tokens.now.lexemes in let end = c.args.tokens.now.end in let s = c.args.source.now in let is = c.requires.source in
    let p = c.args.pen.now in let fs = c.args.frames.now.items in let f = c.args.frame in let k = c.args.place in let n = c.args.given in
    let d = c.callee_of-callee.result.place in let close = c.close_of-close.result in let w = c.requires.writing in let h = c.requires.next in
    let t = c.requires.call in let e = c.close_of-close.ensures in let m = c.callee_of-callee.ensures.meant in
    let a = counts_long ts end s is p fs f k n d close w h t e m in let b = callee_within ts end s is p fs f k n d close w h t e m in omega (arith, c.args.source.now.marks.counts.ok.0, a, b)

pub overflow_add-result : goal.overflow_add-result
overflow_add-result c =
    let ts = c.args.tokens.now.lexemes in let end = c.args.tokens.now.end in let s = c.args.source.now in let is = c.requires.source in
    let p = c.args.pen.now in let fs = c.args.frames.now.items in let f = c.args.frame in let k = c.args.place in let n = c.args.given in
    let d = c.callee_of-callee.result.place in let close = c.close_of-close.result in let w = c.requires.writing in let h = c.requires.next in
    let t = c.requires.call in let e = c.close_of-close.ensures in let m = c.callee_of-callee.ensures.meant in
    let a = counts_long ts end s is p fs f k n d close w h t e m in let b = callee_within ts end s is p fs f k n d close w h t e m in
    let g = c.index.ensures ∙ index_any s.marks.counts.items d c.index.result.now 0 (omega (arith, a, b)) ∙ count_at ts end s is p fs f k n d close w h t e m in
    let v = given_small ts end s is p fs f k n d close w h t e m in omega (arith, g, v)
