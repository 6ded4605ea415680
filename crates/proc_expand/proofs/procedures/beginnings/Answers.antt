use Rattle.std.proofs.Common.{[], ◌∷◌, ◌++◌, ◌&&◌, ◌||◌, not, nat_eq, ap, sym, ◌∙◌}
use Rattle.proc_expand.specs.Words.{some, open_before, open_after, at, before, is_proc, is_main, ends_item}
use Rattle.proc_expand.specs.steps.Looking.{tests}
use Rattle.proc_expand.specs.Refusals.{begins, is_outer_main}
use Rattle.proc_expand.proofs.First.{plus_one}
use Rattle.proc_expand.proofs.procedures.beginnings.Goals as goal

pub loop-place-preserved : goal.loop-place-preserved
loop-place-preserved c =
    let ss = c.args.signs.now in let k = c.loop-place.place in let i = c.loop-place.invariant in
    let item = is_proc (at ss k) && (nat_eq k 0 || ends_item (before ss k)) in
    record {
      found = c.in_ok-push.ensures.items
          ∙ ap (λ t. c.loop-place.found.items ++ t ∷ [])
          (c.begins.ensures ∙ ap (λ o. nat_eq o 0 && not c.loop-place.standing.after_main && item) i.open_so
          ∙ ap (λ m. nat_eq (open_before ss k) 0 && not m && item) i.main)
          ∙ ap (λ u. u ++ begins ss k ∷ []) i.found ∙ ap (λ n. tests n (begins ss)) (sym (plus_one k));
      open_so = c.stand_after-standing.ensures.depth ∙ ap (open_after (at ss k)) i.open_so ∙ ap (open_before ss) (sym (plus_one k));
      few = let f = c.stand_after-standing.ensures.few in f;
      main = c.stand_after-standing.ensures.main
          ∙ ap (λ o. c.loop-place.standing.after_main || (is_main (at ss k) && nat_eq o 0)) i.open_so
          ∙ ap (λ m. m || is_outer_main ss k) i.main ∙ ap (λ n. some n (is_outer_main ss)) (sym (plus_one k));
    }
