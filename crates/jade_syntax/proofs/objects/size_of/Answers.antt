use Rattle.jade_syntax.proofs.Limits.{item_within}
use Rattle.jade_syntax.proofs.objects.size_of.Goals as goal

pub size_in-requires-clause-within : goal.size_in-requires-clause-within
size_in-requires-clause-within c = item_within c.args.items.now c.place_of-i.result.0 _ c.requires.within c.at.ensures
