use Rattle.std.proofs.Common.{◌+◌, ◌-◌, sym, ap, ◌∙◌, subst, arith}
use Rattle.proc_expand.specs.Expanded.{origin_of}
use Rattle.proc_expand.specs.steps.Kept.{origin_among, tokens_in, Ascend}
use Rattle.proc_expand.proofs.Origins.{no_line, miss, by_pieces, ascends}
use Rattle.proc_expand.proofs.expanding.Expanded.origin.Goals as goal

pub returns-then-pos-ne1 : goal.returns-then-pos-ne1
returns-then-pos-ne1 c =
    let e = c.self.inside in
    sym (no_line e.end c.args.pos 1 (tokens_in e.text.items e.pieces.items) c.if-pos-ne1.true)
    ∙ ap (λ v. origin_of v c.args.pos) c.self.view_is

pub returns-then-pos-eq0 : goal.returns-then-pos-eq0
returns-then-pos-eq0 c =
    let e = c.self.inside in
    miss e.end 0 e.pieces.items (record { start = 0; stop = 0; origin = c.args.pos }) (λ j l. λ h. omega (arith, h))
    ∙ ap (λ n. origin_among e.end n e.pieces.items) (sym c.if-pos-eq0.true)
    ∙ sym (by_pieces e.text.items e.end c.args.pos e.pieces.items c.self.invariant c.if-pos-ne1.false)
    ∙ ap (λ v. origin_of v c.args.pos) c.self.view_is

pub origin_in-requires : goal.origin_in-requires
origin_in-requires c =
    subst Ascend (sym c.deref.ensures.value) (ascends c.self.inside.text.items c.self.inside.pieces.items c.self.invariant)

pub returns : goal.returns
returns c =
    let e = c.self.inside in
    c.origin_in.ensures ∙ ap (λ ps. origin_among e.end (c.args.pos.column - 1 + 1) ps) c.deref.ensures.value
    ∙ ap (λ n. origin_among e.end n e.pieces.items) (let positive = c.if-pos-eq0.false in omega (arith, positive))
    ∙ sym (by_pieces e.text.items e.end c.args.pos e.pieces.items c.self.invariant c.if-pos-ne1.false)
    ∙ ap (λ v. origin_of v c.args.pos) c.self.view_is
