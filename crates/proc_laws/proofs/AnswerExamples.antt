-- What programs with procedures answer.
use Rattle.std.specs.Prelude.{◌≡◌, ℕ, List, [], ◌∷◌, codes, Some, pos, refl}
use Rattle.jade_base.specs.declared.place.Pos.{Pos}
use Rattle.jade_base.specs.declared.report.FaultKind.TheVariants.{Index}
use Rattle.jade_syntax.specs.declared.tree.Item.TheVariants.{Single}
use Rattle.jade_syntax.specs.declared.tree.ValueKind.TheVariants.{Int}
use Rattle.jade_syntax.specs.declared.tree.DeclareWord.TheVariants.{Cm}
use Rattle.jade_syntax.specs.Abstract.{Whole, Variable, Alone}
use Rattle.jade_meaning.specs.Course.{limit_blame}
use Rattle.jade_meaning.specs.Serial.{Path}
use Rattle.jade_meaning.specs.Turns.{in_order}
use Rattle.jade_meaning.specs.Answer.{Faulted, Cells}
use Rattle.jade_meaning.specs.Moved.{moved_answer}
use Rattle.proc_laws.specs.Source.{Store, Withonly, Declare, Call, Done, Then, SourceActions, SourceProgram}
use Rattle.proc_laws.specs.SourceAnswer.{source_answer}

abbrev here : Pos
here = record { line = 1; column = 1 }

abbrev there : Pos
there = record { line = 7; column = 2 }

-- object s : 1; proc f(int a) { BODY } main { f(1); f(2); }
abbrev called_twice : SourceActions → SourceProgram
called_twice body = record {
  items = Single (codes "s") here (record { value = pos 1; pos = here }) ∷ [];
  procedures = record { name = codes "f"; params = record { kind = Int; name = codes "a" } ∷ []; body = body } ∷ [];
  main = Then (Call (codes "f") (Whole (pos 1) ∷ [])) (Then (Call (codes "f") (Whole (pos 2) ∷ [])) Done);
}

-- withonly { cm(s); } do (a) { s[0] = a; }
abbrev commutes : SourceProgram
commutes = called_twice
    (Then (Withonly here (Then (Declare Cm here (Alone (codes "s") here)) Done) (codes "a" ∷ [])
    (Then (Store (Alone (codes "s") here) (Whole (pos 0)) (Variable (codes "a"))) Done)) Done)

-- s[a] = 5;
abbrev stores : SourceProgram
stores = called_twice (Then (Store (Alone (codes "s") there) (Variable (codes "a")) (Whole (pos 5))) Done)

-- the second call's task has its turn first
abbrev second_first : ℕ → List Path
second_first o = (0 ∷ 1 ∷ []) ∷ []

created : source_answer commutes [] 100 in_order ≡ Cells ((pos 2 ∷ []) ∷ [])
created = refl

turned : source_answer commutes [] 100 second_first ≡ Cells ((pos 1 ∷ []) ∷ [])
turned = refl

faulted : source_answer stores [] 100 in_order ≡ Faulted (0 ∷ []) (record { kind = Index; pos = Some there })
faulted = refl

stopped : source_answer stores [] 2 in_order ≡ Faulted (0 ∷ []) limit_blame
stopped = refl

-- the same with all places traced back to one
traced : moved_answer (λ at. here) (source_answer stores [] 100 in_order) ≡ Faulted (0 ∷ []) (record { kind = Index; pos = Some here })
traced = refl
