use Rattle.core_laws.proofs.ChildPlace.{contents_by_place}
use Rattle.core_laws.proofs.contents_by_place.Goals as goal

pub returns : goal.returns
returns c = λ p ns limit. contents_by_place c.keeps.ensures p ns limit (c.contents_are_serial.ensures p ns limit)
