use Rattle.std.proofs.Common.{List, nat_eq, None, slice_index_or, subst, sym, ap, ◌∙◌, arith}
use Rattle.std.proofs.lemmas.List.{get_or-set_other, length-set}
use Rattle.jade_syntax.specs.Abstract.{Name}
use Rattle.proc_expand.specs.Words.{bytes_at}
use Rattle.proc_expand.specs.Refusals.{param_place}
use Rattle.proc_expand.specs.steps.Replaced.{names_of, IsNumber}
use Rattle.proc_expand.proofs.First.{by_case, eq_true, eq_false}
use Rattle.proc_expand.proofs.NameLists.{params_step, number_stays, set_number, other_number}
use Rattle.proc_expand.proofs.naming.number_params.Goals as goal

pub loop-i-preserved : goal.loop-i-preserved
loop-i-preserved c =
    let ts = c.args.tokens.now.lexemes in let end = c.args.tokens.now.end in let own = names_of c.args.items.now in
    let p = c.args.place in let i = c.loop-i.i in let h = c.loop-i.invariant in let m = c.in_ok-marks.field-0 in let e = c.in_ok-marks.ensures in
    let now = names_of c.loop-i.seen in let more = names_of c.number_of.new.seen in let x = c.bytes_at.result.now in
    let within = c.requires.within in let many = h.as_many in let less = c.loop-i-test.true in
    record {
      names = params_step ts end own (names_of c.args.seen.now) now more p i x h.names e.names c.bytes_at.ensures;
      numbered = e.numbered;
      marked = λ j l.
          by_case (nat_eq j i)
          (λ t. let s = eq_true j i t in
          set_number own more c.loop-i.marks (bytes_at ts (param_place p j)) x (param_place p i) (param_place p j) m
          (omega (arith, within, many, less)) e.number (ap (λ q. bytes_at ts (param_place p q)) s ∙ sym c.bytes_at.ensures) (ap (param_place p) s))
          (λ t. let f = eq_false j i t in
          other_number own more c.loop-i.marks (bytes_at ts (param_place p j)) (param_place p i) (param_place p j) m (λ q. omega (arith, q, f))
          (subst (λ (ns : List Name). IsNumber own ns (bytes_at ts (param_place p j)) (slice_index_or c.loop-i.marks (param_place p j) None)) (sym e.names)
          (number_stays own now x (bytes_at ts (param_place p j)) (slice_index_or c.loop-i.marks (param_place p j) None) (h.marked j (omega (arith, l, f))))));
      before = λ k l. get_or-set_other c.loop-i.marks (param_place p i) k m None (λ q. omega (arith, q, l)) ∙ h.before k l;
      as_many = length-set c.loop-i.marks (param_place p i) m ∙ h.as_many;
    }
