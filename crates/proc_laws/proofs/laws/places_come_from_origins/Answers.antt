use Rattle.proc_laws.proofs.TextPlaces.{places_come_back, end_comes_back}
use Rattle.proc_laws.proofs.laws.places_come_from_origins.Goals as goal

pub returns-clause-tokens : goal.returns-clause-tokens
returns-clause-tokens c = places_come_back c.reading_is_cut.ensures.cut

pub returns-clause-end : goal.returns-clause-end
returns-clause-end c = end_comes_back c.reading_is_cut.ensures.cut c.reading_is_cut.ensures.spans
