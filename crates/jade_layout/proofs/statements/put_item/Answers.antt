use Rattle.std.proofs.lemmas.Result.{on_ok_weaker}
use Rattle.jade_layout.proofs.Adding.{after}
use Rattle.jade_layout.proofs.statements.put_item.Goals as goal

pub returns-in_ok-put_number-in-Family-2 : goal.returns-in_ok-put_number-in-Family-2
returns-in_ok-put_number-in-Family-2 c =
    rw c.in-Family.is (on_ok_weaker _
    (λ last. after (after (after (after
    (after (after (after c.in_ok-put-in-Family.ensures c.in_ok-put_name-in-Family.ensures) c.in_ok-put-in-Family-2.ensures)
    c.in_ok-put_number-in-Family.ensures) c.in_ok-put-in-Family-3.ensures) c.in_ok-put-in-Family-4.ensures) c.in_ok-put_number-in-Family-2.ensures) last)
    c.put-in-Family-5.ensures)
