-- A program and its course with other positions.
use Rattle.std.specs.Prelude.{map, Option, Some, None}
use Rattle.jade_base.specs.declared.place.Pos.{Pos}
use Rattle.jade_base.specs.declared.report.Blame.{Blame}
use Rattle.jade_syntax.specs.declared.tree.Number.{Number}
use Rattle.jade_syntax.specs.declared.tree.Item.{Item}
use Rattle.jade_syntax.specs.declared.tree.Item.TheVariants.{Input, Single, Family}
use Rattle.jade_syntax.specs.Abstract.{Expression, Whole, Truth, Variable, Group, Signed, Chain, Cell, Links, Last, Link, Place, Alone, Member}
use Rattle.jade_syntax.specs.Abstract.{Action, Local, Assign, Store, If, IfElse, For, Withonly, With, Declare, Actions, Done, Then, AbstractProgram}
use Rattle.jade_meaning.specs.Course.{Course, Reads, Writes, Steps, Creates, Changes, Ends}
use Rattle.jade_meaning.specs.Moved.{moved_blame}

module _ (f : Pos → Pos) where
  -- the same end, its fault at another position
  abbrev pub moved_ending : Option Blame → Option Blame
  moved_ending None = None
  moved_ending (Some b) = Some (moved_blame f b)

  -- the same course, its faults at other positions
  abbrev pub moved_course : Course → Course
  moved_course (Reads o c on) = Reads o c (λ z. moved_course (on z))
  moved_course (Writes o c z on) = Writes o c z (moved_course on)
  moved_course (Steps on) = Steps (moved_course on)
  moved_course (Creates child body on) = Creates child (moved_course body) (moved_course on)
  moved_course (Changes new on) = Changes new (moved_course on)
  moved_course (Ends b) = Ends (moved_ending b)

  abbrev mutual
    pub moved_expression : Expression → Expression
    moved_expression (Whole z) = Whole z
    moved_expression (Truth b) = Truth b
    moved_expression (Variable x) = Variable x
    moved_expression (Group e) = Group (moved_expression e)
    moved_expression (Signed sign at e) = Signed sign (f at) (moved_expression e)
    moved_expression (Chain e links) = Chain (moved_expression e) (moved_links links)
    moved_expression (Cell o e) = Cell (moved_place o) (moved_expression e)

    pub moved_links : Links → Links
    moved_links Last = Last
    moved_links (Link op at e links) = Link op (f at) (moved_expression e) (moved_links links)

    pub moved_place : Place → Place
    moved_place (Alone x at) = Alone x (f at)
    moved_place (Member x at e) = Member x (f at) (moved_expression e)

  abbrev mutual
    pub moved_action : Action → Action
    moved_action (Local kind x e) = Local kind x (moved_expression e)
    moved_action (Assign x e) = Assign x (moved_expression e)
    moved_action (Store o e v) = Store (moved_place o) (moved_expression e) (moved_expression v)
    moved_action (If e first) = If (moved_expression e) (moved_actions first)
    moved_action (IfElse e first other) = IfElse (moved_expression e) (moved_actions first) (moved_actions other)
    moved_action (For x low high body) = For x (moved_expression low) (moved_expression high) (moved_actions body)
    moved_action (Withonly at section names body) = Withonly (f at) (moved_actions section) names (moved_actions body)
    moved_action (With at section) = With (f at) (moved_actions section)
    moved_action (Declare how at o) = Declare how (f at) (moved_place o)

    pub moved_actions : Actions → Actions
    moved_actions Done = Done
    moved_actions (Then a more) = Then (moved_action a) (moved_actions more)

  abbrev pub moved_number : Number → Number
  moved_number n = record { value = n.value; pos = f n.pos }

  abbrev pub moved_item : Item → Item
  moved_item (Input x at) = Input x (f at)
  moved_item (Single x at size) = Single x (f at) (moved_number size)
  moved_item (Family x at count size) = Family x (f at) (moved_number count) (moved_number size)

  abbrev pub moved_program : AbstractProgram → AbstractProgram
  moved_program p = record { items = map moved_item p.items; main = moved_actions p.main }
