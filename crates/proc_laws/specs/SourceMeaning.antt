-- What a program with procedures does: the course of a task in which a call runs the procedure's body with the items and the
-- parameters alone in scope.
use Rattle.std.specs.Prelude.{ℕ, List, [], ◌∷◌, ℤ, replicate, length}
use Rattle.jade_base.specs.Rights.{both_rights}
use Rattle.jade_syntax.specs.Abstract.{Name, Expression}
use Rattle.jade_syntax.specs.Numbering.{same_name}
use Rattle.jade_syntax.specs.Objects.{sizes}
use Rattle.jade_meaning.specs.Values.{whole, holds, turn_count}
use Rattle.jade_meaning.specs.Course.{Course, Environment, Setting, On, Building, Amending, eval, find, bind, assigned, reach, write_cell, place_of}
use Rattle.jade_meaning.specs.Course.{choose, scoped, turns, step, section_begins, create, finish, change, declare, none_of, inputs, child_start}
use Rattle.proc_laws.specs.Source.{
  SourceAction,
  Local,
  Assign,
  Store,
  If,
  IfElse,
  For,
  Withonly,
  With,
  Declare,
  Call,
  SourceActions,
  Done,
  Then,
  Param,
  Procedure,
  SourceProgram,
}

-- what a call of each procedure does with its arguments
abbrev pub Calls : Type 0
Calls = Name → List Expression → On → On

module _ (s : Setting) where
  module _ (calls : Calls) where
    abbrev mutual
      -- a statement, and then what follows
      pub act : SourceAction → On → On
      act (Local kind x e) on m = eval s e m (λ v. on (bind x v m))
      act (Assign x e) on m = eval s e m (λ v. on (record m { env = assigned x v m.env }))
      act (Store o e v) on m =
          find s o m (λ f. eval s e m (λ i. reach f (whole i) (place_of o) m (λ c.
          eval s v m (λ z. write_cell f.number c (whole z) (place_of o) on m))))
      act (If e first) on m = eval s e m (λ v. choose (holds v) (scoped (act_all first) on) on m)
      act (IfElse e first other) on m =
          eval s e m (λ v. choose (holds v) (scoped (act_all first) on) (scoped (act_all other) on) m)
      act (For x low high body) on m =
          eval s low m (λ l. eval s high m (λ h. turns s.limit (turn_count (whole l) (whole h)) (whole l) x (act_all body) on m))
      act (Withonly at section names body) on m =
          section_begins at (Building (none_of s.items)) (scoped (act_all section) (create s at names (act_all body finish) on)) m
      act (With at section) on m = section_begins at (Amending m.spec) (scoped (act_all section) (change on)) m
      act (Declare how at o) on m = find s o m (λ f. declare m.draft how f.number at on m)
      act (Call f args) on m = calls f args on m

      -- statements in order, each a step, and then what follows
      pub act_all : SourceActions → On → On
      act_all Done on m = on m
      act_all (Then a b) on m = step s.limit (act a (act_all b on)) m

  -- for each argument a step is counted, and its value, which the caller's variables decide, is the parameter's
  abbrev pub pass : List Param → List Expression → Environment → (Environment → On) → On
  pass [] args env on m = on env m
  pass (p ∷ params) [] env on m = on env m
  pass (p ∷ params) (e ∷ args) env on m =
      step s.limit (λ n. eval s e n (λ v. pass params args (record { name = p.name; value = v } ∷ env) on n)) m

  -- a body with these variables alone in scope; at its end the caller has its own again
  abbrev pub entered : (On → On) → Environment → On → On
  entered body env on m = body (λ n. on (record n { env = m.env })) (record m { env = env })

  -- a call of a procedure
  abbrev pub call : Calls → Procedure → List Expression → On → On
  call calls p args on m = pass p.params args s.given (λ env n. entered (act_all calls p.body) env on n) m

  -- one procedure more, which may call those before it
  abbrev pub also : Calls → Procedure → Calls
  also calls p f args on m = choose (same_name f p.name) (call calls p args on) (calls f args on) m

  -- all procedures, in text order
  abbrev pub all_calls : Calls → List Procedure → Calls
  all_calls calls [] = calls
  all_calls calls (p ∷ ps) = all_calls (also calls p) ps

  -- where there is no procedure, nothing is done
  abbrev pub no_calls : Calls
  no_calls f args on m = on m

-- what `main` does
abbrev pub source_course : SourceProgram → (numbers : List ℤ) → (limit : ℕ) → Course
source_course p ns limit =
    let given = inputs p.items ns in
    let s : Setting = record { items = p.items; given = given; limit = limit } in
    act_all s (all_calls s (no_calls s) p.procedures) p.main finish (child_start given (replicate (length (sizes p.items)) both_rights))
