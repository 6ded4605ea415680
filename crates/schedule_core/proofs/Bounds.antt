-- Each specification of a proper course is of one length.
use Rattle.std.proofs.Common.{subst, length}
use Rattle.jade_meaning.specs.Specification.{Specification}
use Rattle.jade_meaning.specs.Course.{Course}
use Rattle.schedule_core.specs.Sound.{Even}
use Rattle.jade_meaning.specs.Proper.{Proper, proper_read, proper_write, proper_step, proper_create, proper_change, proper_end}

pub proper_even : {s : Specification} {c : Course} → Proper s c → Even (length s) c
proper_even (proper_read i p) = λ v. proper_even (p v)
proper_even (proper_write i p) = proper_even p
proper_even (proper_step p) = proper_even p
proper_even {s} (proper_create {body = body} none may i z p q) = (z, subst (λ n. Even n body) z (proper_even p), proper_even q)
proper_even {s} (proper_change {on = on} none m p) = (m.sized, subst (λ n. Even n on) m.sized (proper_even p))
proper_even proper_end = tt
