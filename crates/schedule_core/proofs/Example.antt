-- A program whose tasks have more events by other turns: the number of events depends on the order of the turns.
use Rattle.std.proofs.Common.{◌≡◌, ℕ, List, [], ◌∷◌, refl}
use Rattle.std.specs.Prelude.{pos}
use Rattle.jade_base.specs.declared.place.Pos.{Pos}
use Rattle.jade_syntax.specs.declared.tree.Item.TheVariants.{Single}
use Rattle.jade_syntax.specs.declared.tree.DeclareWord.TheVariants.{Cm}
use Rattle.jade_syntax.specs.Abstract.{Name, Whole, Cell, Place, Alone, Action, Store, For, Withonly, Declare, Actions, Done, Then, AbstractProgram}
use Rattle.jade_meaning.specs.Serial.{Path}
use Rattle.schedule_core.specs.Counts.{total}

at : Pos
at = record { line = 1; column = 1 }

x : Name
x = 120 ∷ []

obj : Place
obj = Alone x at

-- withonly { cm x } do { body }
task : Actions → Action
task body = Withonly at (Then (Declare Cm at obj) Done) [] body

-- x[0] = n
sets : ℕ → Action
sets n = Store obj (Whole (pos 0)) (Whole (pos n))

-- object x[1]; main { withonly { cm x } { for i in 0 .. x[0] { x[0] = 5 } } withonly { cm x } { x[0] = 1 } }
example : AbstractProgram
example = record {
  items = Single x at (record { value = pos 1; pos = at }) ∷ [];
  main = Then (task (Then (For (105 ∷ []) (Whole (pos 0)) (Cell obj (Whole (pos 0))) (Then (sets 5) Done)) Done)) (Then (task (Then (sets 1) Done)) Done);
}

first_first : ℕ → List Path
first_first o = (0 ∷ 0 ∷ []) ∷ (0 ∷ 1 ∷ []) ∷ []

second_first : ℕ → List Path
second_first o = (0 ∷ 1 ∷ []) ∷ (0 ∷ 0 ∷ []) ∷ []

-- by the turns in the order of creation, the plain serial order, there are 18 events
shorter : total example [] 100 first_first ≡ 18
unfolding example task obj x first_first sets
shorter = refl

plain : total example [] 100 (λ o. []) ≡ 18
unfolding example task obj x sets
plain = refl

-- and by the other turns one more
longer : total example [] 100 second_first ≡ 19
unfolding example task obj x second_first sets
longer = refl
