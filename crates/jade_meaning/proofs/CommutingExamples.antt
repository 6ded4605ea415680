-- Small programs that commute, and what they mean by turn lists.
use Rattle.std.specs.Prelude.{◌≡◌, ℕ, List, [], ◌∷◌, Some, pos, refl, if◌then◌else◌, nat_eq}
use Rattle.jade_base.specs.declared.place.Pos.{Pos}
use Rattle.jade_base.specs.declared.report.FaultKind.TheVariants.{Commute, Cover}
use Rattle.jade_syntax.specs.declared.tree.Item.{Item}
use Rattle.jade_syntax.specs.declared.tree.Item.TheVariants.{Single}
use Rattle.jade_syntax.specs.declared.tree.DeclareWord.TheVariants.{Rd, Wr, DfRd, Cm}
use Rattle.jade_syntax.specs.declared.tree.SumOp.TheVariants.{Plus}
use Rattle.jade_syntax.specs.declared.tree.ProductOp.TheVariants.{Times}
use Rattle.jade_syntax.specs.Abstract.{Adds, Multiplies, Whole, Chain, Cell, Last, Link, Place, Alone, Action, Actions, Store, Withonly, Declare, Done, Then, AbstractProgram, Operator}
use Rattle.jade_meaning.specs.Serial.{Path}
use Rattle.jade_meaning.specs.Answer.{Faulted, Cells, answer}
use Rattle.jade_meaning.specs.Report.{report}
use Rattle.jade_meaning.specs.Turns.{in_order}

abbrev start : Pos
start = record { line = 1; column = 1 }

abbrev single : List ℕ → Item
single x = Single x start (record { value = pos 1; pos = start })

abbrev s : Place
s = Alone (115 ∷ []) start

abbrev r : Place
r = Alone (114 ∷ []) start

abbrev declare : Place → Actions
declare o = Then (Declare Cm start o) Done

-- `s[0] = s[0] OP n;`
abbrev update : Operator → ℕ → Actions
update op n = Then (Store s (Whole (pos 0)) (Chain (Cell s (Whole (pos 0))) (Link op start (Whole (pos n)) Last))) Done

-- doubles the cell
abbrev doubles : Action
doubles = Withonly start (declare s) [] (update (Multiplies Times) 2)

-- adds three to it
abbrev adds : Action
adds = Withonly start (declare s) [] (update (Adds Plus) 3)

abbrev one : Action
one = Store s (Whole (pos 0)) (Whole (pos 1))

abbrev two_turns : AbstractProgram
two_turns = record { items = single (115 ∷ []) ∷ []; main = Then one (Then doubles (Then adds Done)) }

-- the second task first
abbrev other_way : ℕ → List Path
other_way o = if nat_eq o 0 then (0 ∷ 1 ∷ []) ∷ [] else []

two_turns_in_order : answer two_turns [] 1000 in_order ≡ Cells ((pos 5 ∷ []) ∷ [])
two_turns_in_order = refl

two_turns_other_way : answer two_turns [] 1000 other_way ≡ Cells ((pos 8 ∷ []) ∷ [])
two_turns_other_way = refl

two_turns_told : (report two_turns [] 1000 other_way).turns ≡ ((0 ∷ 1 ∷ []) ∷ (0 ∷ 0 ∷ []) ∷ []) ∷ []
two_turns_told = refl

-- a read between the two settles the first
abbrev read_between : AbstractProgram
read_between = record {
  items = single (115 ∷ []) ∷ single (114 ∷ []) ∷ [];
  main = Then one (Then doubles (Then (Store r (Whole (pos 0)) (Cell s (Whole (pos 0)))) (Then adds Done)));
}

read_between_in_order : answer read_between [] 1000 in_order ≡ Cells ((pos 5 ∷ []) ∷ (pos 2 ∷ []) ∷ [])
read_between_in_order = refl

read_between_other_way : answer read_between [] 1000 other_way ≡ Cells ((pos 5 ∷ []) ∷ (pos 2 ∷ []) ∷ [])
read_between_other_way = refl

-- a task that only may read later settles nothing
abbrev deferred_between : AbstractProgram
deferred_between = record {
  items = single (115 ∷ []) ∷ single (114 ∷ []) ∷ [];
  main = Then one (Then doubles (Then (Withonly start (Then (Declare DfRd start s) Done) [] Done) (Then adds Done)));
}

-- the second commuting task is the root's third child
abbrev third_first : ℕ → List Path
third_first o = if nat_eq o 0 then (0 ∷ 2 ∷ []) ∷ [] else []

deferred_between_in_order : answer deferred_between [] 1000 in_order ≡ Cells ((pos 5 ∷ []) ∷ (pos 0 ∷ []) ∷ [])
deferred_between_in_order = refl

deferred_between_other_way : answer deferred_between [] 1000 third_first ≡ Cells ((pos 8 ∷ []) ∷ (pos 0 ∷ []) ∷ [])
deferred_between_other_way = refl

-- a commuting task writes no other object
abbrev writes_beside : AbstractProgram
writes_beside = record {
  items = single (115 ∷ []) ∷ single (114 ∷ []) ∷ [];
  main = Then (Withonly (record { line = 3; column = 1 }) (Then (Declare Cm start s) (Then (Declare Wr start r) Done)) [] Done) Done;
}

writes_beside_faults : answer writes_beside [] 1000 in_order ≡ Faulted (0 ∷ []) (record { kind = Commute; pos = Some (record { line = 3; column = 1 }) })
writes_beside_faults = refl

-- and creates no task
abbrev creates_within : AbstractProgram
creates_within = record {
  items = single (115 ∷ []) ∷ [];
  main = Then (Withonly start (declare s) [] (Then (Withonly (record { line = 4; column = 1 }) Done [] Done) Done)) Done;
}

creates_within_faults : answer creates_within [] 1000 in_order ≡ Faulted (0 ∷ 0 ∷ []) (record { kind = Commute; pos = Some (record { line = 4; column = 1 }) })
creates_within_faults = refl

-- to commute a task's parent needs both rights
abbrev reader_commutes : AbstractProgram
reader_commutes = record {
  items = single (115 ∷ []) ∷ [];
  main =
      Then (Withonly start (Then (Declare Rd start s) Done) [] (Then (Withonly (record { line = 4; column = 1 }) (declare s) [] Done) Done)) Done;
}

reader_commutes_faults : answer reader_commutes [] 1000 in_order ≡ Faulted (0 ∷ 0 ∷ []) (record { kind = Cover; pos = Some (record { line = 4; column = 1 }) })
reader_commutes_faults = refl
