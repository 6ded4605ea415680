use Rattle.std.proofs.Common.{refl}
use Rattle.std.proofs.lemmas.Result.{on_ok_weaker}
use Rattle.jade_layout.proofs.Opened.{declare_is}
use Rattle.jade_layout.proofs.Adding.{after, arm}
use Rattle.jade_layout.proofs.statements.put_declare.Goals as goal

pub returns : goal.returns
returns c = λ at. on_ok_weaker _
    (λ last. arm _ _ _ _ _ refl (declare_is _ at _)
    (after (after (after (after c.in_ok-put_word.ensures c.in_ok-put.ensures) c.in_ok-put_object.ensures) c.in_ok-put-2.ensures) last)) c.put-3.ensures
