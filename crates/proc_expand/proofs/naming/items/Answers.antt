use Rattle.std.proofs.Common.{◌++◌, map, suc, slice_index_or, ap, ◌∙◌, arith}
use Rattle.std.proofs.lemmas.List.{take_all}
use Rattle.proc_expand.specs.Words.{bytes_at, one_if}
use Rattle.proc_expand.proofs.NameLists.{stands, items_among, items_more, all_items}
use Rattle.proc_expand.proofs.Outside.{outer_below}
use Rattle.proc_expand.proofs.naming.items.Goals as goal

pub add_item-requires : goal.add_item-requires
add_item-requires c = outer_below c.args.tokens.now.lexemes c.args.tokens.now.end c.args.signs.now c.args.outer.now c.loop-i.i 0 c.requires.signs c.requires.outer c.loop-i-test.true

pub loop-i-preserved : goal.loop-i-preserved
loop-i-preserved c =
    let ts = c.args.tokens.now.lexemes in let ss = c.args.signs.now in let ks = c.args.outer.now in let k = slice_index_or ks c.loop-i.i 0 in
    c.in_ok-add_item.ensures ∙ ap (λ u. u ++ map (λ j. bytes_at ts (suc j)) (one_if (stands ss k) k)) c.loop-i.invariant
    ∙ items_more ts ss ks c.loop-i.i 0 c.loop-i-test.true

pub returns : goal.returns
returns c =
    let ts = c.args.tokens.now.lexemes in let ss = c.args.signs.now in let ks = c.args.outer.now in
    c.loop-i.invariant ∙ ap (items_among ts ss) (take_all c.loop-i.i ks (let t = c.loop-i-test.false in omega (arith, t)))
    ∙ all_items ts c.args.tokens.now.end ss ks c.requires.signs c.requires.outer
