-- What a program with a procedure does.
use Rattle.std.specs.Prelude.{◌≡◌, true, List, [], ◌∷◌, codes, pos, refl}
use Rattle.jade_base.specs.declared.place.Pos.{Pos}
use Rattle.jade_syntax.specs.declared.tree.Item.TheVariants.{Single}
use Rattle.jade_syntax.specs.declared.tree.ValueKind.TheVariants.{Int, Bool}
use Rattle.jade_syntax.specs.Abstract as plain
use Rattle.jade_syntax.specs.Abstract.{Name, AbstractProgram, Whole, Truth, Variable, Cell, Alone}
use Rattle.jade_meaning.specs.Course.{limit_blame}
use Rattle.jade_meaning.specs.Answer.{Faulted, Cells, run_answer, stopping_run}
use Rattle.proc_laws.specs.Source.{Local, Store, Call, Done, Then, SourceProgram}
use Rattle.proc_laws.specs.SourceMeaning.{source_course}
use Rattle.proc_laws.specs.Expansion.{expanded_program}
use Rattle.proc_expand.specs.Written.{fresh_name}
use Rattle.jade_meaning.specs.Course.{root_course}

abbrev here : Pos
here = record { line = 1; column = 1 }

-- object s : 2; proc f(int a) { s[0] = 5; s[1] = a; } main { f(s[0]); }
abbrev stores : SourceProgram
stores = record {
  items = Single (codes "s") here (record { value = pos 2; pos = here }) ∷ [];
  procedures = record {
    name = codes "f";
    params = record { kind = Int; name = codes "a" } ∷ [];
    body =
        Then (Store (Alone (codes "s") here) (Whole (pos 0)) (Whole (pos 5)))
        (Then (Store (Alone (codes "s") here) (Whole (pos 1)) (Variable (codes "a"))) Done);
  } ∷ [];
  main = Then (Call (codes "f") (Cell (Alone (codes "s") here) (Whole (pos 0)) ∷ [])) Done;
}

names : List Name
names = codes "s" ∷ codes "f" ∷ codes "a" ∷ codes "a" ∷ codes "f" ∷ []

stores_expanded : AbstractProgram
stores_expanded = expanded_program (fresh_name (codes "s" ∷ codes "f" ∷ codes "a" ∷ [])) stores

four_steps : run_answer (stopping_run (expanded_program (fresh_name (codes "s" ∷ codes "f" ∷ codes "a" ∷ [])) stores) [] 4) (((pos 0) ∷ (pos 0) ∷ []) ∷ [])
    ≡ Cells ((pos 5 ∷ pos 0 ∷ []) ∷ [])
four_steps = refl

three_steps : run_answer (stopping_run (expanded_program (fresh_name (codes "s" ∷ codes "f" ∷ codes "a" ∷ [])) stores) [] 3) [] ≡ Faulted (0 ∷ []) limit_blame
three_steps = refl

-- by courses: three steps of four, as the source has them
source_three : source_course stores [] 3 ≡ root_course (expanded_program (fresh_name (codes "s" ∷ codes "f" ∷ codes "a" ∷ [])) stores) [] 3
source_three = refl

-- proc g(int a) { int y = a; } proc f(bool b) { int z = 1; g(z); } main { f(true); }
abbrev inner : SourceProgram
inner = record {
  items = [];
  procedures = record {
    name = codes "g";
    params = record { kind = Int; name = codes "a" } ∷ [];
    body = Then (Local Int (codes "y") (Variable (codes "a"))) Done;
  } ∷ record {
    name = codes "f";
    params = record { kind = Bool; name = codes "b" } ∷ [];
    body = Then (Local Int (codes "z") (Whole (pos 1))) (Then (Call (codes "g") (Variable (codes "z") ∷ [])) Done);
  } ∷ [];
  main = Then (Call (codes "f") (Truth true ∷ [])) Done;
}

-- main { if true { bool v0 = true; int v1 = 1; if true { int v2 = v1; int v3 = v2; } } }
abbrev inner_written : AbstractProgram
inner_written = record {
  items = [];
  main = plain.Then (plain.If (Truth true)
      (plain.Then (plain.Local Bool (codes "v0") (Truth true))
      (plain.Then (plain.Local Int (codes "v1") (Whole (pos 1)))
      (plain.Then (plain.If (Truth true)
      (plain.Then (plain.Local Int (codes "v2") (Variable (codes "v1")))
      (plain.Then (plain.Local Int (codes "v3") (Variable (codes "v2"))) plain.Done))) plain.Done)))) plain.Done;
}

inner_made : expanded_program (fresh_name (codes "g" ∷ codes "a" ∷ codes "y" ∷ codes "f" ∷ codes "b" ∷ codes "z" ∷ [])) inner ≡ inner_written
inner_made = refl
