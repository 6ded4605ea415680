use Rattle.std.proofs.Common.{◌≡◌, ◌+◌, true, false, List, ap, sym, ◌∙◌, drop}
use Rattle.std.specs.Prelude.{◌||◌}
use Rattle.jade_syntax.specs.declared.tree.Statement.{Statement}
use Rattle.jade_syntax.specs.Image.{action, block}
use Rattle.jade_syntax.proofs.Limits.{drop_item}
use Rattle.jade_meaning.specs.Uncommuting.{has_cm, any_cm}
use Rattle.jade_meaning.proofs.commuting.+cm.Goals as goal

pub any_cm-returns-then-has_cm : goal.any_cm-returns-then-has_cm
any_cm-returns-then-has_cm t c =
    let ss : List Statement = c.args.statements.now in
    let i = c.loop-i.i in
    let x : Statement = c.at.result.now in
    let e : has_cm (action x) ≡ true = sym c.has_cm.ensures ∙ c.if-has_cm.true in
    let d = drop_item ss i x c.at.ensures in
    sym (c.loop-i.invariant ∙ ap (λ (l : List Statement). any_cm (block l)) d ∙ ap (λ b. b || any_cm (block (drop (i + 1) ss))) e)

pub any_cm-loop-i-preserved : goal.any_cm-loop-i-preserved
any_cm-loop-i-preserved t c =
    let ss : List Statement = c.args.statements.now in
    let i = c.loop-i.i in
    let x : Statement = c.at.result.now in
    let e : has_cm (action x) ≡ false = sym c.has_cm.ensures ∙ c.if-has_cm.false in
    let d = drop_item ss i x c.at.ensures in
    c.loop-i.invariant ∙ ap (λ (l : List Statement). any_cm (block l)) d ∙ ap (λ b. b || any_cm (block (drop (i + 1) ss))) e
