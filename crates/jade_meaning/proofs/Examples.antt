-- Small programs and what they mean.
use Rattle.jade_meaning.specs.Turns.{in_order}
use Rattle.std.specs.Prelude.{◌≡◌, ℕ, List, [], ◌∷◌, Some, pos, negsuc, refl}
use Rattle.std.specs.List.{sum_by}
use Rattle.jade_base.specs.declared.place.Pos.{Pos}
use Rattle.jade_base.specs.declared.report.FaultKind.{FaultKind}
use Rattle.jade_base.specs.declared.report.FaultKind.TheVariants.{Overflow, Zero, Object, Right, Change}
use Rattle.jade_base.specs.declared.report.FaultNote.{FaultNote}
use Rattle.jade_base.specs.declared.report.PartStep.{PartStep}
use Rattle.jade_syntax.specs.declared.tree.Item.{Item}
use Rattle.jade_syntax.specs.declared.tree.Item.TheVariants.{Input, Single, Family}
use Rattle.jade_syntax.specs.declared.tree.ValueKind.TheVariants.{Int}
use Rattle.jade_syntax.specs.declared.tree.DeclareWord.TheVariants.{Rd, Wr, RdWr, DfWr, NoWr}
use Rattle.jade_syntax.specs.declared.tree.SumOp.TheVariants.{Plus, Minus}
use Rattle.jade_syntax.specs.declared.tree.ProductOp.TheVariants.{Times, Over, Remainder}
use Rattle.jade_syntax.specs.Abstract.{Adds, Multiplies, Whole, Variable, Chain, Cell, Last, Link, Alone, Member, Local, Assign, Store, For, Withonly, With}
use Rattle.jade_syntax.specs.Abstract.{Declare, Done, Then, AbstractProgram}
use Rattle.jade_meaning.specs.Values.{Gives, Fails, multiplied}
use Rattle.jade_meaning.specs.declared.values.Value.TheVariants.{IntOf}
use Rattle.jade_meaning.specs.Course.{limit_blame}
use Rattle.jade_meaning.specs.Serial.{serial_run, parts}
use Rattle.jade_meaning.specs.Answer.{Faulted, Cells, answer, run_answer, stopping_run}
use Rattle.jade_meaning.specs.Report.{report}

abbrev at : ℕ → ℕ → Pos
at l c = record { line = l; column = c }

abbrev start : Pos
start = at 1 1

abbrev single : List ℕ → (size : ℕ) → Item
single x size = Single x start (record { value = pos size; pos = start })

abbrev family : List ℕ → (count size : ℕ) → Item
family x count size = Family x start (record { value = pos count; pos = start }) (record { value = pos size; pos = start })

abbrev fault_at : List ℕ → ℕ → FaultKind → ℕ → ℕ → FaultNote
fault_at path children kind l c = record { path = path; children = children; blame = record { kind = kind; pos = Some (at l c) } }

abbrev part : List ℕ → (children steps : ℕ) → PartStep
part path children steps = record { path = path; children = children; steps = steps }

abbrev one_child : AbstractProgram
one_child = record {
  items = single (115 ∷ []) 1 ∷ [];
  main =
      (Then (Withonly (at 1 22) (Then (Declare Wr (at 1 33) (Alone (115 ∷ []) (at 1 36))) Done) ([])
      (Then (Store (Alone (115 ∷ []) (at 1 50)) (Whole (pos 0)) (Whole (pos 7))) Done)) Done);
}

abbrev reads_without_right : AbstractProgram
reads_without_right = record {
  items = single (115 ∷ []) 1 ∷ [];
  main =
      (Then (Withonly (at 3 1) (Then (Declare Wr (at 3 12) (Alone (115 ∷ []) (at 3 15))) Done) ([])
      (Then (Store (Alone (115 ∷ []) (at 4 1)) (Whole (pos 0)) (Chain (Cell (Alone (115 ∷ []) (at 4 8)) (Whole (pos 0)))
      (Link (Adds Plus) (at 4 13) (Whole (pos 1)) Last))) Done)) Done);
}

abbrev right_made_immediate : AbstractProgram
right_made_immediate = record {
  items = single (115 ∷ []) 1 ∷ [];
  main =
      (Then (Withonly (at 3 1) (Then (Declare DfWr (at 3 12) (Alone (115 ∷ []) (at 3 18))) Done) ([])
      (Then (With (at 4 1) (Then (Declare Wr (at 4 8) (Alone (115 ∷ []) (at 4 11))) Done))
      (Then (Store (Alone (115 ∷ []) (at 5 1)) (Whole (pos 0)) (Whole (pos 3))) Done))) Done);
}

abbrev right_given_up : AbstractProgram
right_given_up = record {
  items = single (115 ∷ []) 1 ∷ [];
  main =
      (Then (With (at 3 1) (Then (Declare NoWr (at 3 8) (Alone (115 ∷ []) (at 3 14))) (Then (Declare Wr (at 3 18) (Alone (115 ∷ []) (at 3 21))) Done)))
      (Then (Withonly (at 4 1) (Then (Declare Wr (at 4 12) (Alone (115 ∷ []) (at 4 15))) Done) ([]) Done) Done));
}

abbrev no_such_member : AbstractProgram
no_such_member = record {
  items = family (99 ∷ 111 ∷ 108 ∷ []) 4 1 ∷ [];
  main =
      (Then (Withonly (at 3 1)
      (Then (Declare Rd (at 3 12) (Member (99 ∷ 111 ∷ 108 ∷ []) (at 3 15) (Chain (Whole (pos 0)) (Link (Adds Minus) (at 3 21) (Whole (pos 1)) Last)))) Done)
      ([]) Done) Done);
}

abbrev grandchild : AbstractProgram
grandchild = record {
  items = single (115 ∷ []) 1 ∷ [];
  main =
      (Then (Withonly (at 1 22) (Then (Declare RdWr (at 1 33) (Alone (115 ∷ []) (at 1 39))) Done) ([])
      (Then (Withonly (at 1 53) (Then (Declare RdWr (at 1 64) (Alone (115 ∷ []) (at 1 70))) Done) ([])
      (Then (Store (Alone (115 ∷ []) (at 1 84)) (Whole (pos 0)) (Chain (Cell (Alone (115 ∷ []) (at 1 91)) (Whole (pos 0)))
      (Link (Adds Plus) (at 1 96) (Whole (pos 1)) Last))) Done))
      (Then (Store (Alone (115 ∷ []) (at 1 103)) (Whole (pos 0)) (Chain (Cell (Alone (115 ∷ []) (at 1 110)) (Whole (pos 0)))
      (Link (Multiplies Times) (at 1 115) (Whole (pos 10)) Last))) Done)))
      (Then (Withonly (at 1 123) (Then (Declare RdWr (at 1 134) (Alone (115 ∷ []) (at 1 140))) Done) ([])
      (Then (Store (Alone (115 ∷ []) (at 1 154)) (Whole (pos 0)) (Chain (Cell (Alone (115 ∷ []) (at 1 161)) (Whole (pos 0)))
      (Link (Adds Plus) (at 1 166) (Whole (pos 2)) Last))) Done)) Done));
}

abbrev column : AbstractProgram
column = record {
  items = Input (110 ∷ []) start ∷ family (99 ∷ 111 ∷ 108 ∷ []) 4 2 ∷ [];
  main =
      (Then (For (106 ∷ []) (Whole (pos 0)) (Whole (pos 4))
      (Then (Withonly (at 5 9) (Then (Declare Wr (at 5 20) (Member (99 ∷ 111 ∷ 108 ∷ []) (at 5 23) (Variable (106 ∷ [])))) Done) ((106 ∷ []) ∷ [])
      (Then (Store (Member (99 ∷ 111 ∷ 108 ∷ []) (at 6 13) (Variable (106 ∷ []))) (Whole (pos 0))
      (Chain (Variable (106 ∷ [])) (Link (Multiplies Times) (at 6 27) (Whole (pos 10)) Last)))
      (Then (Store (Member (99 ∷ 111 ∷ 108 ∷ []) (at 7 13) (Variable (106 ∷ []))) (Whole (pos 1)) (Variable (110 ∷ []))) Done))) Done))
      (Then (For (106 ∷ []) (Whole (pos 1)) (Whole (pos 4))
      (Then (Withonly (at 11 9)
      (Then (Declare Rd (at 11 20) (Member (99 ∷ 111 ∷ 108 ∷ []) (at 11 23) (Chain (Variable (106 ∷ [])) (Link (Adds Minus) (at 11 29) (Whole (pos 1)) Last))))
      (Then (Declare RdWr (at 11 36) (Member (99 ∷ 111 ∷ 108 ∷ []) (at 11 42) (Variable (106 ∷ [])))) Done)) ((106 ∷ []) ∷ [])
      (Then (Store (Member (99 ∷ 111 ∷ 108 ∷ []) (at 12 13) (Variable (106 ∷ []))) (Whole (pos 0))
      (Chain (Cell (Member (99 ∷ 111 ∷ 108 ∷ []) (at 12 25) (Variable (106 ∷ []))) (Whole (pos 0)))
      (Link (Adds Plus) (at 12 35)
      (Cell (Member (99 ∷ 111 ∷ 108 ∷ []) (at 12 37) (Chain (Variable (106 ∷ [])) (Link (Adds Minus) (at 12 43) (Whole (pos 1)) Last))) (Whole (pos 0))) Last)))
      Done)) Done)) Done));
}

abbrev two_steps : AbstractProgram
two_steps = record { items = []; main = (Then (Local Int (97 ∷ []) (Whole (pos 1))) (Then (Assign (97 ∷ []) (Whole (pos 2))) Done)) }

one_child_report : report one_child [] 100 in_order ≡ record {
  objects = (pos 7 ∷ []) ∷ [];
  faults = [];
  turns = [] ∷ [];
  steps =
      part (0 ∷ []) 0 2 ∷ part (0 ∷ 0 ∷ []) 0 1 ∷ part (0 ∷ []) 1 0 ∷ [];
}
one_child_report = refl

one_child_limit : report one_child [] 1 in_order ≡ record {
  objects = (pos 0 ∷ []) ∷ [];
  faults = record { path = 0 ∷ []; children = 0; blame = limit_blame } ∷ [];
  turns = [] ∷ [];
  steps = part (0 ∷ []) 0 1 ∷ [];
}
one_child_limit = refl

one_child_whole_limit : answer one_child [] 2 in_order ≡ Faulted (0 ∷ 0 ∷ []) limit_blame
one_child_whole_limit = refl

reads_without_right_faults : (report reads_without_right [] 1000 in_order).faults ≡ fault_at (0 ∷ 0 ∷ []) 0 Right 4 8 ∷ []
reads_without_right_faults = refl

right_made_immediate_cells : answer right_made_immediate [] 1000 in_order ≡ Cells ((pos 3 ∷ []) ∷ [])
right_made_immediate_cells = refl

right_given_up_faults : (report right_given_up [] 1000 in_order).faults ≡ fault_at (0 ∷ []) 0 Change 3 18 ∷ []
right_given_up_faults = refl

no_such_member_faults : (report no_such_member [] 1000 in_order).faults ≡ fault_at (0 ∷ []) 0 Object 3 15 ∷ []
no_such_member_faults = refl

grandchild_cells : answer grandchild [] 1000 in_order ≡ Cells ((pos 12 ∷ []) ∷ [])
grandchild_cells = refl

two_steps_limit : answer two_steps [] 1 in_order ≡ Faulted (0 ∷ []) limit_blame
two_steps_limit = refl

column_cells : answer column (pos 7 ∷ []) 1000 in_order ≡ Cells ((pos 0 ∷ pos 7 ∷ []) ∷ (pos 10 ∷ pos 7 ∷ []) ∷ (pos 30 ∷ pos 7 ∷ []) ∷ (pos 60 ∷ pos 7 ∷ []) ∷ [])
column_cells = refl

column_steps : sum_by (λ p. p.steps) (parts (serial_run column (pos 7 ∷ []) 1000)) ≡ 37
column_steps = refl

column_limit : answer column (pos 7 ∷ []) 36 in_order ≡ Faulted (0 ∷ 6 ∷ []) limit_blame
column_limit = refl

column_stops : run_answer (stopping_run column (pos 7 ∷ []) 36) [] ≡ Faulted (0 ∷ 6 ∷ []) limit_blame
column_stops = refl

-- `-7 / 2` and `-7 % 2`, a zero divisor, and the least number by -1
quotient_truncates : multiplied Over (negsuc 6) (pos 2) ≡ Gives (IntOf (negsuc 2))
quotient_truncates = refl

remainder_has_dividends_sign : multiplied Remainder (negsuc 6) (pos 2) ≡ Gives (IntOf (negsuc 0))
remainder_has_dividends_sign = refl

no_quotient_by_zero : multiplied Over (pos 1) (pos 0) ≡ Fails Zero
no_quotient_by_zero = refl

least_by_minus_one : multiplied Over (negsuc 9223372036854775807) (negsuc 0) ≡ Fails Overflow
least_by_minus_one = refl

least_remainder_by_minus_one : multiplied Remainder (negsuc 9223372036854775807) (negsuc 0) ≡ Fails Overflow
least_remainder_by_minus_one = refl
