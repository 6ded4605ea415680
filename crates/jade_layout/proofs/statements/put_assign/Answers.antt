use Rattle.std.proofs.Common.{refl}
use Rattle.std.proofs.lemmas.Result.{on_ok_weaker}
use Rattle.jade_layout.proofs.Opened.{assign_is}
use Rattle.jade_layout.proofs.Adding.{after, arm}
use Rattle.jade_layout.proofs.statements.put_assign.Goals as goal

pub returns : goal.returns
returns c = λ at. on_ok_weaker _ (λ last. arm _ _ _ _ _ refl (assign_is _ at _) (after c.in_ok-put_name.ensures last)) c.put_value.ensures
