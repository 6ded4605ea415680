-- What code knows of a text while it looks for refusals.
use Rattle.std.specs.Prelude.{◌≡◌, ℕ, zero, suc, Bool, false, not, nat_eq, nat_lt, List, [], ◌∷◌, ◌++◌, length, Option, Some, None, if◌then◌else◌}
use Rattle.std.specs.Map.{lookup}
use Rattle.jade_lexer.specs.Lexemes.{TokenAt}
use Rattle.jade_syntax.specs.Abstract.{Name}
use Rattle.jade_syntax.specs.Numbering.{same_name}
use Rattle.proc_expand.specs.declared.sign.Sign.{Sign}
use Rattle.proc_expand.specs.declared.procedures.Procedure.{Procedure}
use Rattle.proc_expand.specs.declared.refusal.Reason.{Reason}
use Rattle.proc_expand.specs.declared.refusal.Refusal.{Refusal}
use Rattle.proc_expand.specs.declared.scan.Scan.{Scan}
use Rattle.proc_expand.specs.Words.{signs, first}
use Rattle.proc_expand.specs.steps.Brackets.{AreEndsFrom}
use Rattle.proc_expand.specs.Refusals.{begins, procedure, is_named}

-- which of the places before n have some property
abbrev pub tests : (n : ℕ) → (ℕ → Bool) → List Bool
tests zero is = []
tests (suc k) is = tests k is ++ is k ∷ []

-- the first of two places that may be there
abbrev pub earliest : Option ℕ → Option ℕ → Option ℕ
earliest None b = b
earliest (Some j) None = Some j
earliest (Some j) (Some k) = Some (if nat_lt k j then k else j)

-- so many arguments are another number than the parameters of a procedure that may be there
abbrev pub is_other : ℕ → Option Procedure → Bool
is_other n None = false
is_other n (Some p) = not (nat_eq n p.head.params)

-- a place that may be there, as a refusal
abbrev pub refused : Reason → Option ℕ → Option Refusal
refused why None = None
refused why (Some k) = Some (record { why = why; place = k })

-- the first of two refusals that may be there; at one place it is the first of them
abbrev pub earlier : Option Refusal → Option Refusal → Option Refusal
earlier None b = b
earlier (Some a) None = Some a
earlier (Some a) (Some b) = Some (if nat_lt b.place a.place then b else a)

-- ---- what a first look at a text sees: its signs, where brackets are closed, and at which places procedures begin

pub record IsScan (ts : List TokenAt) (s : Scan) : Type 0 where
  pub read : s.signs.items ≡ signs ts
  pub closed : AreEndsFrom s.signs.items s.ends.items 0
  pub begun : s.begins.items ≡ tests (length s.signs.items) (begins s.signs.items)

-- ---- what is known of the procedures that begin before a place: for each name the first of that name

abbrev pub procedure_of : List Sign → Option ℕ → Option Procedure
procedure_of ss None = None
procedure_of ss (Some p) = Some (procedure ss p)

pub record Knows (ts : List TokenAt) (n : ℕ) (named : List (Name × Procedure)) : Type 0 where
  pub first_of : (x : Name) → lookup (same_name x) named ≡ procedure_of (signs ts) (first n (is_named ts x))
