use Rattle.std.proofs.Common.{[], ◌∷◌}
use Rattle.jade_syntax.proofs.Limits.{labels_counted}
use Rattle.jade_syntax.proofs.objects.label_of.Goals as goal

pub label_in-requires : goal.label_in-requires
label_in-requires c = rw (labels_counted (c.at.result.now ∷ [])) (c.place_of-i.ensures.member_within _ c.at.ensures)
