-- Each task keeps to its specification.
use Rattle.std.specs.Prelude.{◌≡◌, ℕ, true, ℤ, Option, None, length}
use Rattle.jade_base.specs.declared.report.Blame.{Blame}
use Rattle.jade_base.specs.Rights.{is_there, may_read, may_write}
use Rattle.jade_meaning.specs.Specification.{Specification, rights_on, covers, commuting_on, may_commute}
use Rattle.jade_meaning.specs.Course.{Course, Reads, Writes, Steps, Creates, Changes, Ends}

-- no right that was not there
pub record NoMore (new old : Specification) : Type 0 where
  pub sized : length new ≡ length old
  pub reads : (o : ℕ) → is_there (rights_on new o).reads ≡ true → is_there (rights_on old o).reads ≡ true
  pub writes : (o : ℕ) → is_there (rights_on new o).writes ≡ true → is_there (rights_on old o).writes ≡ true
  pub commutes : (o : ℕ) → is_there (rights_on new o).commutes ≡ true → is_there (rights_on old o).commutes ≡ true

-- what a course touches and hands on lies within the specification, and a task that commutes creates no task and makes no change
pub data Proper : Specification → Course → Type 0 where
  proper_read : {spec : Specification} {o c : ℕ} {on : ℤ → Course} → may_read (rights_on spec o) ≡ true → ((v : ℤ) → Proper spec (on v))
      → Proper spec (Reads o c on)
  proper_write : {spec : Specification} {o c : ℕ} {v : ℤ} {on : Course} → may_write (rights_on spec o) ≡ true → Proper spec on
      → Proper spec (Writes o c v on)
  proper_step : {spec : Specification} {on : Course} → Proper spec on → Proper spec (Steps on)
  proper_create : {spec child : Specification} {body on : Course} → commuting_on spec ≡ None → may_commute child ≡ true → covers spec child ≡ true
      → length child ≡ length spec → Proper child body → Proper spec on → Proper spec (Creates child body on)
  proper_change : {spec new : Specification} {on : Course} → commuting_on spec ≡ None → NoMore new spec → Proper new on → Proper spec (Changes new on)
  proper_end : {spec : Specification} {b : Option Blame} → Proper spec (Ends b)
