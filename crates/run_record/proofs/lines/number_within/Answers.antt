use Rattle.std.proofs.Common.{◌≡◌, arith}
use Rattle.run_record.proofs.lines.number_within.Goals as goal

pub returns-in_default : goal.returns-in_default
returns-in_default c n s =
    let same = c.number_of.ensures.exact n (omega (arith, s.within, c.ranges.most.fits)) s.spelled in
    let e : c.in-Some.number ≡ n = cc in
    absurd (omega (arith, s.within))

pub returns-in_default-2 : goal.returns-in_default-2
returns-in_default-2 c n s =
    let same = c.number_of.ensures.exact n (omega (arith, s.within, c.ranges.most.fits)) s.spelled in
    let e : c.in-Some.number ≡ n = cc in
    absurd (omega (arith, s.some))
