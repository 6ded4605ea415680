-- What is written so far, and what is more.
use Rattle.std.specs.Prelude.{◌≡◌, ℕ, ◌+◌, ◌<◌, List, ◌++◌, length, Option, Some, None}
use Rattle.jade_syntax.specs.Abstract.{Name}
use Rattle.proc_expand.specs.declared.frame.Call.{Call}
use Rattle.proc_expand.specs.declared.pen.Pen.{Pen}
use Rattle.proc_expand.specs.Written.{MadeToken, fresh_name}
use Rattle.proc_expand.specs.steps.Replaced.{AreFree}
use Rattle.proc_expand.specs.steps.Sheets.{spaced_out, tokens_of, IsSheet}

-- the tokens that are written
abbrev pub written : Pen → List MadeToken
written p = tokens_of p.sheet

-- the free numbers that are known are right, and so is the sheet
pub record IsPen (names : List Name) (p : Pen) : Type 0 where
  pub sheet : IsSheet p.sheet
  pub free : AreFree names p.free.items

-- these tokens were written
pub record Wrote (names : List Name) (us : List MadeToken) (old new : Pen) : Type 0 where
  pub pen : IsPen names new
  pub tokens : written new ≡ written old ++ us

-- with these tokens the text would be too long
pub record IsTooLong (old : Pen) (us : List MadeToken) : Type 0 where
  pub long : 1048576 < length (spaced_out (written old ++ us))

-- the name with a number, or else a name as it is
abbrev pub name_by : List Name → Option ℕ → Name → Name
name_by names None x = x
name_by names (Some n) x = fresh_name names n

-- the number of a name that is replaced in an open body
abbrev pub number_in : Option Call → Option ℕ → Option ℕ
number_in None m = None
number_in (Some c) None = None
number_in (Some c) (Some i) = Some (c.base + i)

-- numbers that do not overflow
abbrev pub IsSmall : Option ℕ → Type 0
IsSmall number = (n : ℕ) → number ≡ Some n → n < 2199023255552
