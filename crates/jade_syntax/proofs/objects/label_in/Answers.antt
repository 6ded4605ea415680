use Rattle.jade_syntax.proofs.Limits.{family_label}
use Rattle.jade_syntax.proofs.objects.label_in.Goals as goal

pub returns-in-Family : goal.returns-in-Family
returns-in-Family c = family_label _ _ _ _ _ _ c.in-Family.is c.requires
