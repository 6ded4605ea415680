use Rattle.jade_parser.proofs.Steps.{residual}
use Rattle.jade_parser.proofs.Declared.{items_more, items_refused, items_short, items_read}
use Rattle.jade_parser.proofs.items.parse_items.Goals as goal

pub items-preserved : goal.items-preserved
items-preserved c = items_more _ _ _ _ _ _ _ c.in_ok-put-in-Some.ensures c.items.invariant (rw c.in-Some.is at c.in_ok-parse_item.ensures)

pub returns-in-None : goal.returns-in-None
returns-in-None c = items_read _ _ _ _ c.items.invariant (rw c.in-None.is at c.in_ok-parse_item.ensures)

pub returns-in_err-parse_item : goal.returns-in_err-parse_item
returns-in_err-parse_item c =
    residual _ _ _ _ c.from_residual.ensures.1 (items_refused _ _ _ _ _ (items_short c.items.all) c.items.invariant c.in_err-parse_item.ensures)
