use Rattle.jade_parser.proofs.Declared.{item_refused}
use Rattle.jade_parser.proofs.items.parse_item.Goals as goal

pub returns-in-Nothing : goal.returns-in-Nothing
returns-in-Nothing c = item_refused _ _ c.requires.within c.in-Nothing.ensures
