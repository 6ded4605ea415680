use Rattle.core_laws.proofs.WhatIsLeft.{some_is_left, what_is_left, remains}
use Rattle.core_laws.proofs.some_is_left.Goals as goal

pub returns-clause-what : goal.returns-clause-what
returns-clause-what c = λ p ns limit. some_is_left p ns limit (c.writes_go_first.ensures p ns limit)

pub returns-clause-same : goal.returns-clause-same
returns-clause-same c = λ p ns limit roll ss rest. (what_is_left p ns limit roll ss rest, remains p ns limit roll ss rest)
