use Rattle.std.proofs.Common.{refl}
use Rattle.std.proofs.lemmas.Result.{on_ok_weaker}
use Rattle.jade_layout.proofs.Opened.{local_is}
use Rattle.jade_layout.proofs.Adding.{after, arm}
use Rattle.jade_layout.proofs.statements.put_local.Goals as goal

pub returns : goal.returns
returns c = λ at. on_ok_weaker _ (λ last. arm _ _ _ _ _ refl (local_is _ _ at _) (after (after c.in_ok-put_kind.ensures c.in_ok-put_name.ensures) last))
    c.put_value.ensures
