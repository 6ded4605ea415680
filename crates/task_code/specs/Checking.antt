-- What the search for a broken rule comes to.
use Rattle.std.specs.Prelude.{◌≡◌, ℕ, ◌<◌, ◌≤◌, true, false, Option, Some, None, length}
use Rattle.task_code.specs.declared.valid.Bad.{Bad}
use Rattle.code_meaning.specs.Meaning.{Body}
use Rattle.task_code.specs.Rules.{TaskCode, fine_in, Valid, BadAt}

-- a place of a body is the first at which a rule is broken
pub record FirstIs (r : TaskCode) (own : ℕ) (b : Body) (place : ℕ) : Type 0 where
  pub broken : fine_in r own (Some b) place ≡ false
  pub earlier : (p : ℕ) → p < place → fine_in r own (Some b) p ≡ true
  pub near : place ≤ length b.code

-- a body breaks no rule
pub record NoneBroken (r : TaskCode) (own : ℕ) (b : Body) : Type 0 where
  pub fine_at : (p : ℕ) → fine_in r own (Some b) p ≡ true

abbrev pub FirstBad : TaskCode → (own : ℕ) → Body → Option ℕ → Type 0
FirstBad r own b None = NoneBroken r own b
FirstBad r own b (Some place) = FirstIs r own b place

-- some body breaks a rule, or none
abbrev pub AnyBad : TaskCode → Option Bad → Type 0
AnyBad r None = Valid r
AnyBad r (Some bad) = BadAt r bad.0.body bad.0.place
