use Rattle.std.proofs.Common.{◌≡◌, ◌-◌, List, nat_eq, [], ◌∷◌, None, slice_index_or, subst, sym, ap, ◌∙◌, arith}
use Rattle.std.proofs.lemmas.List.{get_or-set_other, length-set}
use Rattle.jade_syntax.specs.Abstract.{Name}
use Rattle.proc_expand.specs.Written.{names_at, from}
use Rattle.proc_expand.specs.steps.Replaced.{names_of, with_names, IsMark}
use Rattle.proc_expand.proofs.First.{by_case, eq_true, eq_false}
use Rattle.proc_expand.proofs.NameLists.{body_step, mark_stays, set_mark, other_mark}
use Rattle.proc_expand.proofs.naming.number_body.Goals as goal

pub loop-place-preserved : goal.loop-place-preserved
loop-place-preserved c =
    let ts = c.args.tokens.now.lexemes in let end = c.args.tokens.now.end in let own = names_of c.args.items.now in
    let k = c.loop-place.place in let h = c.loop-place.invariant in let m = c.in_ok-marks.field-0 in let e = c.in_ok-marks.ensures in
    let now = names_of c.loop-place.seen in let more = names_of c.mark_of.new.seen in let up = c.loop-place.auto.place in
    let within = c.requires.within in let many = h.as_many in let all = c.requires.as_many in let less = c.loop-place-test.true in
    record {
      names = body_step ts end own (names_of c.args.seen.now) now more c.args.start k up h.names e.names;
      numbered = e.numbered;
      marked = λ j l g.
          by_case (nat_eq j k)
          (λ t. set_mark ts end own more c.loop-place.marks k j m (omega (arith, within, many, all, less)) e.mark (eq_true j k t))
          (λ t. let f = eq_false j k t in
          other_mark ts end own more c.loop-place.marks k j m f
          (subst (λ (ns : List Name). IsMark ts end own ns j (slice_index_or c.loop-place.marks j None)) (sym e.names)
          (mark_stays ts end own now (names_at ts end (k ∷ [])) j (slice_index_or c.loop-place.marks j None) (h.marked j l (omega (arith, g, f))))));
      before = λ j l. get_or-set_other c.loop-place.marks k j m None (λ q. omega (arith, q, l, up)) ∙ h.before j l;
      as_many = length-set c.loop-place.marks k m ∙ h.as_many;
    }

pub returns-clause-names : goal.returns-clause-names
returns-clause-names c =
    let ts = c.args.tokens.now.lexemes in let end = c.args.tokens.now.end in
    let up = c.loop-place.auto.place in let to = c.loop-place.auto.place-end in let t = c.loop-place-test.false in
    let e : c.loop-place.place - c.args.start ≡ c.args.stop - c.args.start = omega (arith, up, to, t) in
    c.loop-place.invariant.names
    ∙ ap (λ n. with_names (names_of c.args.items.now) (names_of c.args.seen.now) (names_at ts end (from ts end c.args.start n))) e
