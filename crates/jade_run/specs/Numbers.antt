-- The number with which the program ends.
use Rattle.std.specs.Prelude.{ℕ}
use Rattle.jade_run.specs.declared.status.Status.{Status}
use Rattle.jade_run.specs.declared.status.Status.TheVariants.{Good, Fault, Refused, Words, Numbers, Reading, Writing, Memory, Replay}

-- 0 is success; each other status has its own number
abbrev pub number_of_status : Status → ℕ
number_of_status Good = 0
number_of_status Fault = 1
number_of_status Refused = 2
number_of_status Words = 3
number_of_status Numbers = 4
number_of_status Reading = 5
number_of_status Writing = 6
number_of_status Memory = 7
number_of_status Replay = 8
