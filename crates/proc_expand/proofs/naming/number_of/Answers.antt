use Rattle.std.proofs.Common.{List, ℕ, Some, subst, sym, ◌∙◌}
use Rattle.jade_syntax.specs.Abstract.{Name}
use Rattle.proc_expand.specs.steps.Replaced.{names_of, AreNumbered, IsNumber}
use Rattle.proc_expand.proofs.NameLists.{not_there, numbered_more, new_number}
use Rattle.proc_expand.proofs.naming.number_of.Goals as goal

pub returns-in_ok-declare-in-None-clause-numbered : goal.returns-in_ok-declare-in-None-clause-numbered
returns-in_ok-declare-in-None-clause-numbered c =
    subst AreNumbered (sym c.in_ok-declare-in-None.ensures.declared)
    (numbered_more c.args.seen.now c.args.name.now c.len-number.result c.len-number.ensures
    (not_there c.args.seen.now c.args.name.now c.in-None.ensures) c.requires)

pub returns-in_ok-declare-in-None-clause-number : goal.returns-in_ok-declare-in-None-clause-number
returns-in_ok-declare-in-None-clause-number c =
    let own = names_of c.args.items.now in
    let P : List (Name × ℕ) → Type 0 = λ es. IsNumber own (names_of es) c.args.name.now (Some c.len-number.result) in
    subst P (sym c.in_ok-declare-in-None.ensures.declared)
    (new_number own c.args.seen.now c.args.name.now c.len-number.result (sym c.is_item.ensures ∙ c.if-is_item.false) c.len-number.ensures
    (not_there c.args.seen.now c.args.name.now c.in-None.ensures))
