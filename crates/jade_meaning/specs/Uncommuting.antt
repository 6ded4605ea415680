-- A program in which the word `cm` does not stand.
use Rattle.std.specs.Prelude.{Bool, true, false, ◌||◌}
use Rattle.jade_syntax.specs.declared.tree.DeclareWord.{DeclareWord}
use Rattle.jade_syntax.specs.declared.tree.DeclareWord.TheVariants.{Rd, Wr, RdWr, DfRd, DfWr, DfRdWr, Cm, NoRd, NoWr, NoRdWr}
use Rattle.jade_syntax.specs.Abstract.{Action, Local, Assign, Store, If, IfElse, For, Withonly, With, Declare, Actions, Done, Then, AbstractProgram}

-- the word is `cm`
abbrev pub is_cm : DeclareWord → Bool
is_cm Cm = true
is_cm Rd = false
is_cm Wr = false
is_cm RdWr = false
is_cm DfRd = false
is_cm DfWr = false
is_cm DfRdWr = false
is_cm NoRd = false
is_cm NoWr = false
is_cm NoRdWr = false

abbrev mutual
  -- the word stands in a statement
  pub has_cm : Action → Bool
  has_cm (Local kind x e) = false
  has_cm (Assign x e) = false
  has_cm (Store o e v) = false
  has_cm (If e first) = any_cm first
  has_cm (IfElse e first other) = any_cm first || any_cm other
  has_cm (For x low high body) = any_cm body
  has_cm (Withonly at section names body) = any_cm section || any_cm body
  has_cm (With at section) = any_cm section
  has_cm (Declare how at o) = is_cm how

  -- it stands in one of some statements
  pub any_cm : Actions → Bool
  any_cm Done = false
  any_cm (Then a b) = has_cm a || any_cm b

-- it stands in a program
abbrev pub uses_cm : AbstractProgram → Bool
uses_cm p = any_cm p.main
