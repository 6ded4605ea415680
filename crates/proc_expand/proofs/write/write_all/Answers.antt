use Rattle.std.proofs.Common.{[], ◌∷◌, ◌++◌, List, None, length, refl, sym, ap, ◌∙◌, subst, arith}
use Rattle.proc_expand.specs.declared.frame.Frame.{Frame}
use Rattle.proc_expand.specs.Written.{text_names}
use Rattle.proc_expand.specs.steps.Sources.{IsWriting, whole}
use Rattle.proc_expand.proofs.Writing.{starts}
use Rattle.proc_expand.proofs.write.write_all.Goals as goal

pub writing-init : goal.writing-init
writing-init c =
    let ts = c.args.tokens.now.lexemes in let end = c.args.tokens.now.end in
    let f : Frame = record { next = 0; stop = c.len.result; call = None } in
    let x = starts ts end c.args.source.now c.requires c.new_pen-pen.result c.push.new.self.items f
    (c.new_pen-pen.ensures.pen (text_names ts end)) c.new_pen-pen.ensures.written
    (c.in_ok-push.ensures.items ∙ ap (λ u. u ++ f ∷ []) c.new-frames.ensures.items) refl (let o = c.args.source.now.outer.ok.0 in let l = c.len.ensures in omega (arith, o, l)) refl in
    record { writing = x.0; same = x.1 }

pub write_next-requires-clause-writing : goal.write_next-requires-clause-writing
write_next-requires-clause-writing c =
    let ts = c.args.tokens.now.lexemes in let end = c.args.tokens.now.end in
    let P : List Frame → Type 0 = λ u. IsWriting ts end c.args.source.now.outer.items c.writing.pen u c.writing.given in
    subst P c.in-Some.ensures.items c.writing.invariant.writing

pub writing-preserved : goal.writing-preserved
writing-preserved c =
    let ts = c.args.tokens.now.lexemes in let end = c.args.tokens.now.end in let g = c.in_ok-given.ensures.goes in
    record {
      writing = g.writing;
      same = g.same ∙ ap (λ u. whole ts end c.args.source.now.outer.items c.writing.pen u c.writing.given) (sym c.in-Some.ensures.items) ∙ c.writing.invariant.same;
    }

pub writing-smaller : goal.writing-smaller
writing-smaller c =
    let g = c.in_ok-given.ensures.goes in let l = g.less in let e = ap (length {A = Frame}) c.in-Some.ensures.items in omega (arith, l, e)
