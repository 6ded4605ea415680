use Rattle.std.proofs.Common.{◌+◌, refl, sym, ◌∙◌, arith}
use Rattle.proc_expand.proofs.KnownNames.{as_long}
use Rattle.proc_expand.proofs.Outside.{end_is, last_up, reach_same, reach_on}
use Rattle.proc_expand.proofs.outer.reach_after.Goals as goal

pub returns-then-not-begins_at : goal.returns-then-not-begins_at
returns-then-not-begins_at c =
    reach_same c.args.tokens.now.lexemes c.args.place c.args.reach (sym c.begins_at.ensures ∙ c.if-not-begins_at.true) c.requires.reach

pub overflow_add-result : goal.overflow_add-result
overflow_add-result c =
    let ts = c.args.tokens.now.lexemes in
    let e = end_is ts c.args.scan.now c.requires.scan c.deref.result.now c.deref-2.result.now c.args.place c.procedure_at.result c.end_place-end.result
    c.deref.ensures.value c.deref-2.ensures.value c.procedure_at.ensures c.end_place-end.ensures in
    let u = last_up ts c.args.place in let n = as_long ts c.args.scan.now c.requires.scan in
    omega (arith, e, u, n)

pub returns-then-reach-end : goal.returns-then-reach-end
returns-then-reach-end c =
    let ts = c.args.tokens.now.lexemes in
    let e = end_is ts c.args.scan.now c.requires.scan c.deref.result.now c.deref-2.result.now c.args.place c.procedure_at.result c.end_place-end.result
    c.deref.ensures.value c.deref-2.ensures.value c.procedure_at.ensures c.end_place-end.ensures in
    let t = c.if-reach-end.true in
    reach_on ts c.args.place c.args.reach (c.end_place-end.result + 1) (sym c.begins_at.ensures ∙ c.if-not-begins_at.false)
    (omega (arith, t)) (omega (arith, e)) (λ d. omega (arith, e)) c.requires.reach

pub returns-else-reach-end : goal.returns-else-reach-end
returns-else-reach-end c =
    let ts = c.args.tokens.now.lexemes in
    let e = end_is ts c.args.scan.now c.requires.scan c.deref.result.now c.deref-2.result.now c.args.place c.procedure_at.result c.end_place-end.result
    c.deref.ensures.value c.deref-2.ensures.value c.procedure_at.ensures c.end_place-end.ensures in
    let t = c.if-reach-end.false in
    reach_on ts c.args.place c.args.reach c.args.reach (sym c.begins_at.ensures ∙ c.if-not-begins_at.false)
    (omega arith) (omega (arith, t, e)) (λ d. absurd (d refl)) c.requires.reach
