use Rattle.std.proofs.Common.{refl}
use Rattle.std.proofs.lemmas.Result.{on_ok_weaker}
use Rattle.jade_layout.specs.Spelling.{cell_tokens, expr_tokens}
use Rattle.jade_layout.proofs.Opened.{store_is}
use Rattle.jade_layout.proofs.Adding.{stored, arm}
use Rattle.jade_layout.proofs.statements.put_store.Goals as goal

pub returns : goal.returns
returns c = on_ok_weaker _ (λ last. arm _ _ _ _ _ refl (store_is _ _)
    (stored (cell_tokens c.args.target.now) (expr_tokens c.args.value.now) c.in_ok-put_cell.ensures last)) c.put_value.ensures
