-- The code of expressions does what they do.
use Rattle.std.proofs.Common.{◌≡◌, ℕ, ◌+◌, ◌≤◌, List, [], ◌∷◌, length, Option, Some, None, refl, sym, ap, ap₂, ◌∙◌, subst, arith, length-append}
use Rattle.std.specs.Prelude.{ℤ, pos, slice_get}
use Rattle.std.proofs.lemmas.Option.{same_Some, none-some}
use Rattle.jade_base.specs.declared.place.Pos.{Pos}
use Rattle.jade_base.specs.declared.report.FaultKind.TheVariants.{Index, Object}
use Rattle.jade_syntax.specs.Abstract.{Or, And, Relates, Adds, Multiplies, Expression, Whole, Truth, Variable, Group, Signed, Chain, Cell, Links, Last, Link}
use Rattle.jade_syntax.specs.Abstract.{Place, Alone, Member}
use Rattle.jade_meaning.specs.declared.values.Value.{Value}
use Rattle.jade_meaning.specs.declared.values.Value.TheVariants.{IntOf, BoolOf}
use Rattle.jade_meaning.specs.declared.resolve.ResolvedObject.{ResolvedObject}
use Rattle.jade_meaning.specs.declared.resolve.Range.{Range}
use Rattle.jade_meaning.specs.Values.{Gives, operated, decides, signed, whole, is_index, magnitude}
use Rattle.jade_meaning.specs.Specification.{Specification}
use Rattle.jade_meaning.specs.Course.{Course, Draft, Mine, Setting, choose, given, fault, read_cell, reach, member, value_of, eval, eval_links, find}
use Rattle.code_meaning.specs.declared.code.BinaryOp.{BinaryOp}
use Rattle.code_meaning.specs.declared.code.Logic.TheVariants as logic
use Rattle.code_meaning.specs.declared.code.Operand.{Operand}
use Rattle.code_meaning.specs.declared.code.Operand.TheVariants as operand
use Rattle.code_meaning.specs.declared.code.Instruction.{Instruction}
use Rattle.code_meaning.specs.declared.code.Instruction.TheVariants as i
use Rattle.code_meaning.specs.Meaning.{Slots, Go, Children, worth, with_slot, own, either, operator, from_place}
use Rattle.task_translation.specs.Keys.{Key, Kept, look, look_for, slot_or}
use Rattle.task_translation.specs.Compile.{key_of, index_of, index_at, index_operand}
use Rattle.task_translation.proofs.Keeping.{Holds, BelowKept, kept_more, holds_by, looked, looked_low}
use Rattle.task_translation.proofs.Evidence.{Evals, EvalsLinks, sure}
use Rattle.task_translation.specs.Compile.{Scope, slot_of, variable_at, where_is, brought, operand_of, unless, range_of, member_read, member_reached, code_of}
use Rattle.task_translation.specs.Compile.{code_of_links, code_at, operand_at, code_of_place, place_at}
use Rattle.code_meaning.proofs.Stepping.{Spans, split, span_length, fire}
use Rattle.task_translation.proofs.Scopes.{Matches, Below, Agree, agree_all, agree_on, agree_less, put, slot_same, Low, low_more, worth_same, lower, kept_by, value_at}
use Rattle.task_translation.proofs.Scopes.{operand_low, known_low}
use Rattle.task_translation.proofs.Values.{choose_same, either_same, given_too, given_seen, read_same, signed_whole, operated_whole, decides_whole}

module _ (child : Children) (code : List Instruction) where
  -- what is done from a place
  abbrev pub go : ℕ → ℕ → Go
  go left pc = from_place child code left pc

  -- the place under another name
  pub to_end : (left pc to : ℕ) → pc ≡ to → (ss : Slots) (spec : Specification) (d : Draft) → go left pc ss spec d ≡ go left to ss spec d
  to_end left pc to e ss spec d = ap (λ p. go left p ss spec d) e

  module _ (s : Setting) (m : Mine) (scope : Scope) (left : ℕ) (d : Draft) (ks : List Kept) where
    -- once the number of a value is in the operand r, and the slots below t are as they were, this follows
    abbrev pub Lands : (t : ℕ) (r : Operand) (to : ℕ) → Slots → (saw : Value → Type 0) → (Value → Course) → Type 0
    Lands t r to ss saw on = (v : Value) (ss' : Slots) → Agree t ss ss' → worth r ss' ≡ whole v → saw v → go left to ss' m.spec d ≡ on v

    -- the slots have the values of the variables in scope, and those that are kept
    abbrev pub Fits : Slots → Type 0
    Fits ss = Matches scope m.env ss × Holds ks ss

    -- the slots of both are below a number
    abbrev pub Under : ℕ → Type 0
    Under t = Below t scope × BelowKept t ks

    still : (a b : Slots) (t : ℕ) → Under t → Agree t a b → Fits a → Fits b
    still a b t low ag h = (kept_by scope m.env a b t low.0 ag h.0, holds_by t ks a b low.1 ag h.1)

    under : (t u : ℕ) → t ≤ u → Under t → Under u
    under t u le low = (lower t u scope le low.0, kept_more t u ks le low.1)

    -- the value of an expression, whose number is in an operand
    pub record Known (e : Expression) (o : Operand) (ss : Slots) : Type 0 where
      pub value : Value
      pub number : worth o ss ≡ whole value
      pub saw : Evals m.env e value
      pub same : (on : Value → Course) → eval s e m on ≡ on value

    pub known_is : (e : Expression) (o : Operand) → operand_of scope e ≡ Some o → (ss : Slots) → Fits ss → Known e o ss
    known_is (Whole z) o is ss mt = record {
      value = IntOf z;
      number = sym (ap (λ p. worth p ss) (same_Some (operand.Whole z) o is));
      saw = refl;
      same = λ on. refl;
    }
    known_is (Truth b) o is ss mt = record {
      value = BoolOf b;
      number = sym (ap (λ p. worth p ss) (same_Some (operand.Truth b) o is));
      saw = refl;
      same = λ on. refl;
    }
    known_is (Variable x) o is ss mt = record {
      value = value_of x m.env;
      number = sym (value_at x scope m.env ss mt.0 ∙ ap (λ p. worth p ss) (same_Some (variable_at (slot_of x scope)) o is));
      saw = refl;
      same = λ on. refl;
    }
    known_is (Group e) o is ss mt =
        let k = known_is e o is ss mt in record { value = k.value; number = k.number; saw = k.saw; same = k.same }
    known_is (Signed sign at e) o is ss mt = absurd (none-some o is)
    known_is (Chain e links) o is ss mt = absurd (none-some o is)
    known_is (Cell p e) o is ss mt = absurd (none-some o is)

    -- an index that is an operand
    known_index : (e : Expression) (o : Operand) → index_of ks scope e ≡ Some o → (ss : Slots) → Fits ss → Known e o ss
    known_index e o is ss mt = by_key (key_of scope e) refl is
      where
        by_slot : (p : Key) → key_of scope e ≡ Some p → (k : Option ℕ) → look p ks ≡ k → slot_or k (operand_of scope e) ≡ Some o → Known e o ss
        by_slot p ep None ek is = known_is e o is ss mt
        by_slot p ep (Some k) ek is =
            let g = sure s m scope ss mt.0 e p ep (ss k) (looked p ks k ek ss mt.1) in
            record {
              value = g.value;
              number = sym (g.number ∙ ap (λ q. worth q ss) (same_Some (operand.Slot k) o is));
              saw = g.saw;
              same = g.same;
            }

        by_key : (p : Option Key) → key_of scope e ≡ p → slot_or (look_for p ks) (operand_of scope e) ≡ Some o → Known e o ss
        by_key None ep is = known_is e o is ss mt
        by_key (Some p) ep is = by_slot p ep (look p ks) refl is

    known_index_low : (e : Expression) (t : ℕ) (o : Operand) → index_of ks scope e ≡ Some o → Under t → Low t o
    known_index_low e t o is low = by_key (key_of scope e) is
      where
        by_slot : (p : Key) (k : Option ℕ) → look p ks ≡ k → slot_or k (operand_of scope e) ≡ Some o → Low t o
        by_slot p None ek is = known_low e t scope o is low.0
        by_slot p (Some k) ek is = subst (Low t) (same_Some (operand.Slot k) o is) (looked_low t p ks k ek low.1)

        by_key : (p : Option Key) → slot_or (look_for p ks) (operand_of scope e) ≡ Some o → Low t o
        by_key None is = known_low e t scope o is low.0
        by_key (Some p) is = by_slot p (look p ks) refl is

    -- an index is below what is free from then on
    pub index_low : (e : Expression) (t : ℕ) → Under t → Low (t + 1) (where_is t (index_of ks scope e))
    index_low e t low = by_case (index_of ks scope e) refl
      where
        by_case : (o : Option Operand) → index_of ks scope e ≡ o → Low (t + 1) (where_is t o)
        by_case None is = omega arith
        by_case (Some o) is = low_more t (t + 1) o (omega arith) (known_index_low e t o is low)

    -- an operand, where its code does what it does
    known_goes : (e : Expression) (r : Option Operand) (t pc to : ℕ) (ss : Slots) → ((o : Operand) → r ≡ Some o → Known e o ss)
        → Spans code pc (unless r (code_of s.items ks scope t e)) to → (on : Value → Course)
        → (Spans code pc (code_of s.items ks scope t e) to → Lands t (operand.Slot t) to ss (Evals m.env e) on → go left pc ss m.spec d ≡ eval s e m on)
        → Lands t (where_is t r) to ss (Evals m.env e) on → go left pc ss m.spec d ≡ eval s e m on
    known_goes e None t pc to ss known h on ih k = ih h k
    known_goes e (Some o) t pc to ss known h on ih k =
        let v = known o refl in to_end left pc to h ss m.spec d ∙ k v.value ss (agree_all t ss) v.number v.saw ∙ sym (v.same on)

    operand_goes : (e : Expression) (t pc to : ℕ) (ss : Slots) → Fits ss
        → Spans code pc (unless (operand_of scope e) (code_of s.items ks scope t e)) to → (on : Value → Course)
        → (Spans code pc (code_of s.items ks scope t e) to → Lands t (operand.Slot t) to ss (Evals m.env e) on → go left pc ss m.spec d ≡ eval s e m on)
        → Lands t (where_is t (operand_of scope e)) to ss (Evals m.env e) on → go left pc ss m.spec d ≡ eval s e m on
    operand_goes e t pc to ss mt h on ih k = known_goes e (operand_of scope e) t pc to ss (λ o is. known_is e o is ss mt) h on ih k

    index_goes : (e : Expression) (t pc to : ℕ) (ss : Slots) → Fits ss
        → Spans code pc (unless (index_of ks scope e) (code_of s.items ks scope t e)) to → (on : Value → Course)
        → (Spans code pc (code_of s.items ks scope t e) to → Lands t (operand.Slot t) to ss (Evals m.env e) on → go left pc ss m.spec d ≡ eval s e m on)
        → Lands t (where_is t (index_of ks scope e)) to ss (Evals m.env e) on → go left pc ss m.spec d ≡ eval s e m on
    index_goes e t pc to ss mt h on ih k = known_goes e (index_of ks scope e) t pc to ss (λ o is. known_index e o is ss mt) h on ih k

    -- a value that is an operand goes to a slot
    set_goes : (t : ℕ) (o : Operand) (pc to : ℕ) (ss : Slots) → Spans code pc (i.Set t o ∷ []) to → (z : ℤ) → worth o ss ≡ z → (c : Course)
        → ((ss' : Slots) → Agree t ss ss' → ss' t ≡ z → go left to ss' m.spec d ≡ c) → go left pc ss m.spec d ≡ c
    set_goes t o pc to ss h z val c k =
        fire child code left pc _ h.0 ss m.spec d ∙ to_end left _ to h.1 (with_slot t (worth o ss) ss) m.spec d
        ∙ k (with_slot t (worth o ss) ss) (put t t (worth o ss) ss ss (omega arith) (agree_all t ss)) (slot_same t (worth o ss) ss ∙ val)

    brought_goes : (t : ℕ) (o : Option Operand) (pc to : ℕ) (ss : Slots) → Spans code pc (brought t o) to → (z : ℤ) → worth (where_is t o) ss ≡ z → (c : Course)
        → ((ss' : Slots) → Agree t ss ss' → ss' t ≡ z → go left to ss' m.spec d ≡ c) → go left pc ss m.spec d ≡ c
    brought_goes t None pc to ss h z val c k = to_end left pc to h ss m.spec d ∙ k ss (agree_all t ss) val
    brought_goes t (Some o) pc to ss h z val c k = set_goes t o pc to ss h z val c k

    -- an operator on two operands
    operate_goes : (o : BinaryOp) (t : ℕ) (a b : Operand) (pc to : ℕ) (ss : Slots) (at : Pos) (v w : Value) → slice_get code pc ≡ Some (i.Operate o t a b at)
        → pc + 1 ≡ to → worth a ss ≡ whole v → worth b ss ≡ whole w → (on : Value → Course)
        → ((u : Value) → operated (operator o) v w ≡ Gives u → go left to (with_slot t (whole u) ss) m.spec d ≡ on u) → go left pc ss m.spec d
        ≡ given (operated (operator o) v w) at m on
    operate_goes o t a b pc to ss at v w h end ea eb on k =
        fire child code left pc _ h ss m.spec d
        ∙ ap₂ (λ x y. given (operated (operator o) (IntOf x) (IntOf y)) at (own m.spec d) (λ u. go left (pc + 1) (with_slot t (whole u) ss) m.spec d)) ea eb
        ∙ given_seen (operated (operator o) (IntOf (whole v)) (IntOf (whole w))) (operated (operator o) v w) at (own m.spec d) m
        (λ u. go left (pc + 1) (with_slot t (whole u) ss) m.spec d) on (operated_whole o v w)
        (λ u seen. to_end left _ to end (with_slot t (whole u) ss) m.spec d ∙ k u seen)

    -- what is done from a place, where an expression is brought to the slot t there
    abbrev Brings : (e : Expression) (t : ℕ) → Type 0
    Brings e t = (pc to : ℕ) (ss : Slots) → Fits ss → Spans code pc (code_of s.items ks scope t e) to → (on : Value → Course)
        → Lands t (operand.Slot t) to ss (Evals m.env e) on → go left pc ss m.spec d ≡ eval s e m on

    -- a cell of a member is read, once the index of the member is found
    member_read_goes : (g : Range) (t : ℕ) (j : Operand) (e : Expression) (at : Pos) (pc to : ℕ) (ss s1 : Slots) → Under t → Fits s1
        → Agree t ss s1 → (z : ℤ) → worth j s1 ≡ z → (o : Option Operand) → operand_of scope e ≡ o
        → Spans code pc (member_read g t j o (code_of s.items ks scope (t + 1) e) at) to → (saw : Value → Type 0) → ((y : Value) → Evals m.env e y → (u : Value) → saw u)
        → (on : Value → Course) → Lands t (operand.Slot t) to ss saw on → Brings e (t + 1)
        → go left pc s1 m.spec d ≡ member g z at m (λ f. eval s e m (λ y. reach f (whole y) at m (λ c. read_cell f.number c at m on)))
    member_read_goes g t j e at pc to ss s1 low mt ag z val (Some c) is h saw seen on k ih =
        let K : Value → Course = λ w. go left (pc + 1) (with_slot t (whole w) s1) m.spec d in
        let o = g.first + magnitude z in
        let y = known_is e c is s1 mt in
        fire child code left pc _ h.0 s1 m.spec d
        ∙ ap₂ (λ u w. choose (is_index u g.count) (λ n. choose (is_index w g.size) (λ a. read_cell (g.first + magnitude u) (magnitude w) at a K)
        (fault Index at) (own m.spec d)) (fault Object at) (own m.spec d)) val y.number
        ∙ choose_same (is_index z g.count) _ _ _ _ (own m.spec d) m
        (choose_same (is_index (whole y.value) g.size) _ _ _ _ (own m.spec d) m
        (read_same o (magnitude (whole y.value)) at m d K on
        (λ u. to_end left _ to h.1 (with_slot t (whole u) s1) m.spec d
        ∙ k u (with_slot t (whole u) s1) (put t t (whole u) ss s1 (omega arith) ag) (slot_same t (whole u) s1) (seen y.value y.saw u)))
        refl
        ∙ sym (y.same (λ y. reach (record { number = o; size = g.size }) (whole y) at m (λ x. read_cell o x at m on))))
        refl
    member_read_goes g t j e at pc to ss s1 low mt ag z val None is h saw seen on k ih =
        let q = split code (pc + 1) (code_of s.items ks scope (t + 1) e) _ to h.1 in
        let o = g.first + magnitude z in
        let s2 = with_slot t (pos o) s1 in
        let ag2 = put t t (pos o) ss s1 (omega arith) ag in
        let mt2 = still s1 s2 t low (put t t (pos o) s1 s1 (omega arith) (agree_all t s1)) mt in
        fire child code left pc _ h.0 s1 m.spec d
        ∙ ap (λ u. choose (is_index u g.count) (λ a. go left (pc + 1) (with_slot t (pos (g.first + magnitude u)) s1) m.spec d) (fault Object at) (own m.spec d))
        val
        ∙ choose_same (is_index z g.count) _ _ _ _ (own m.spec d) m
        (ih (pc + 1) q.0 s2 mt2 q.1 (λ y. reach (record { number = o; size = g.size }) (whole y) at m (λ x. read_cell o x at m on))
        (λ y s3 ag3 val3 sawy.
        let number : s3 t ≡ pos o = ag3 t (omega arith) ∙ slot_same t (pos o) s1 in
        let K : Value → Course = λ w. go left (q.0 + 1) (with_slot t (whole w) s3) m.spec d in
        fire child code left q.0 _ q.2.0 s3 m.spec d
        ∙ ap₂ (λ a b. choose (is_index b g.size) (λ n. read_cell (magnitude a) (magnitude b) at n K) (fault Index at) (own m.spec d)) number val3
        ∙ choose_same (is_index (whole y) g.size) _ _ _ _ (own m.spec d) m
        (read_same o (magnitude (whole y)) at m d K on
        (λ u. to_end left _ to q.2.1 (with_slot t (whole u) s3) m.spec d
        ∙ k u (with_slot t (whole u) s3) (put t t (whole u) ss s3 (omega arith) (agree_on t ss s2 s3 ag2 (agree_less t (t + 1) s2 s3 (omega arith) ag3)))
        (slot_same t (whole u) s3) (seen y sawy u)))
        refl))
        refl

    -- both indexes of a cell of a member are tested, once that of the member is found, and its number is in the slot t
    pub member_reached_goes : (g : Range) (t : ℕ) (j : Operand) (e : Expression) (at : Pos) (pc to : ℕ) (ss s1 : Slots) → Under t → Fits s1
        → Agree t ss s1 → (z : ℤ) → worth j s1 ≡ z → (o : Option Operand) → operand_of scope e ≡ o
        → Spans code pc (member_reached g t j o (code_of s.items ks scope (t + 1) e) at) to
        → (on : (number cell : ℕ) → Course) → ((number : ℕ) (y : ℤ) (s3 : Slots) → Agree t ss s3 → s3 t ≡ pos number → worth (where_is (t + 1) o) s3 ≡ y
        → ((w : Value) × Evals m.env e w) → go left to s3 m.spec d ≡ on number (magnitude y)) → Brings e (t + 1)
        → go left pc s1 m.spec d ≡ member g z at m (λ f. eval s e m (λ y. reach f (whole y) at m (λ c. on f.number c)))
    member_reached_goes g t j e at pc to ss s1 low mt ag z val (Some c) is h on k ih =
        let o = g.first + magnitude z in
        let y = known_is e c is s1 mt in
        let s2 = with_slot t (pos o) s1 in
        let ag2 = put t t (pos o) ss s1 (omega arith) ag in
        let same : worth c s2 ≡ whole y.value = worth_same t c s1 s2 (known_low e t scope c is low.0) (put t t (pos o) s1 s1 (omega arith) (agree_all t s1))
        ∙ y.number in
        fire child code left pc _ h.0 s1 m.spec d
        ∙ ap₂ (λ u w. choose (is_index u g.count) (λ n. choose (is_index w g.size)
        (λ a. go left (pc + 1) (with_slot t (pos (g.first + magnitude u)) s1) m.spec d) (fault Index at) (own m.spec d)) (fault Object at) (own m.spec d))
        val y.number
        ∙ choose_same (is_index z g.count) _ _ _ _ (own m.spec d) m
        (choose_same (is_index (whole y.value) g.size) _ _ _ _ (own m.spec d) m
        (to_end left _ to h.1 s2 m.spec d ∙ k o (whole y.value) s2 ag2 (slot_same t (pos o) s1) same (y.value, y.saw))
        refl
        ∙ sym (y.same (λ y. reach (record { number = o; size = g.size }) (whole y) at m (λ x. on o x))))
        refl
    member_reached_goes g t j e at pc to ss s1 low mt ag z val None is h on k ih =
        let q = split code (pc + 1) (code_of s.items ks scope (t + 1) e) _ to h.1 in
        let o = g.first + magnitude z in
        let s2 = with_slot t (pos o) s1 in
        let ag2 = put t t (pos o) ss s1 (omega arith) ag in
        let mt2 = still s1 s2 t low (put t t (pos o) s1 s1 (omega arith) (agree_all t s1)) mt in
        fire child code left pc _ h.0 s1 m.spec d
        ∙ ap (λ u. choose (is_index u g.count) (λ a. go left (pc + 1) (with_slot t (pos (g.first + magnitude u)) s1) m.spec d) (fault Object at) (own m.spec d))
        val
        ∙ choose_same (is_index z g.count) _ _ _ _ (own m.spec d) m
        (ih (pc + 1) q.0 s2 mt2 q.1 (λ y. reach (record { number = o; size = g.size }) (whole y) at m (λ x. on o x))
        (λ y s3 ag3 val3 sawy.
        fire child code left q.0 _ q.2.0 s3 m.spec d
        ∙ ap (λ b. choose (is_index b g.size) (λ n. go left (q.0 + 1) s3 m.spec d) (fault Index at) (own m.spec d)) val3
        ∙ choose_same (is_index (whole y) g.size) _ _ _ _ (own m.spec d) m
        (to_end left _ to q.2.1 s3 m.spec d
        ∙ k o (whole y) s3 (agree_on t ss s2 s3 ag2 (agree_less t (t + 1) s2 s3 (omega arith) ag3)) (ag3 t (omega arith) ∙ slot_same t (pos o) s1) val3 (y, sawy))
        refl))
        refl

    mutual
      pub expr_goes : (e : Expression) (t pc to : ℕ) (ss : Slots) → Under t → Fits ss → Spans code pc (code_of s.items ks scope t e) to
          → (on : Value → Course) → Lands t (operand.Slot t) to ss (Evals m.env e) on → go left pc ss m.spec d ≡ eval s e m on
      expr_goes (Whole z) t pc to ss low mt h on k = set_goes t (operand.Whole z) pc to ss h z refl (on (IntOf z)) (λ s1 ag val. k (IntOf z) s1 ag val refl)
      expr_goes (Truth b) t pc to ss low mt h on k = set_goes t (operand.Truth b) pc to ss h (whole (BoolOf b)) refl (on (BoolOf b))
          (λ s1 ag val. k (BoolOf b) s1 ag val refl)
      expr_goes (Variable x) t pc to ss low mt h on k = set_goes t (variable_at (slot_of x scope)) pc to ss h (whole (value_of x m.env))
          (sym (value_at x scope m.env ss mt.0)) (on (value_of x m.env)) (λ s1 ag val. k (value_of x m.env) s1 ag val refl)
      expr_goes (Group e) t pc to ss low mt h on k = expr_goes e t pc to ss low mt h on k
      expr_goes (Signed sign at e) t pc to ss low mt h on k =
          let r = split code pc (unless (operand_of scope e) (code_of s.items ks scope t e)) _ to h in
          operand_goes e t pc r.0 ss mt r.1 (λ v. given (signed sign v) at m on) (λ h' k'. expr_goes e t pc r.0 ss low mt h' _ k')
          (λ v s1 ag val saw.
          fire child code left r.0 _ r.2.0 s1 m.spec d
          ∙ ap (λ u. given (signed sign (IntOf u)) at (own m.spec d) (λ w. go left (r.0 + 1) (with_slot t (whole w) s1) m.spec d)) val
          ∙ given_too (signed sign (IntOf (whole v))) (signed sign v) at (own m.spec d) m (λ w. go left (r.0 + 1) (with_slot t (whole w) s1) m.spec d) on
          (signed_whole sign v)
          (λ u. to_end left _ to r.2.1 (with_slot t (whole u) s1) m.spec d
          ∙ k u (with_slot t (whole u) s1) (put t t (whole u) ss s1 (omega arith) ag) (slot_same t (whole u) s1) (v, saw)))
      expr_goes (Chain e links) t pc to ss low mt h on k =
          let r = split code pc (unless (operand_of scope e) (code_of s.items ks scope t e)) _ to h in
          operand_goes e t pc r.0 ss mt r.1 (λ v. eval_links s links v m on) (λ h' k'. expr_goes e t pc r.0 ss low mt h' _ k')
          (λ v s1 ag val saw. links_goes links t (operand_of scope e) r.0 to s1 low (still ss s1 t low ag mt) (operand_low e t scope low.0) r.2 v val on
          (λ u s2 ag2 val2 sawl. k u s2 (agree_on t ss s1 s2 ag ag2) val2 (v, saw, sawl)))
      expr_goes (Cell (Alone x at) e) t pc to ss low mt h on k =
          let g = range_of s.items x in
          let r = split code pc (unless (operand_of scope e) (code_of s.items ks scope t e)) _ to h in
          operand_goes e t pc r.0 ss mt r.1 (λ v. reach (record {
            number = g.first;
            size =
                g.size;
          }) (whole v) at m (λ c. read_cell g.first c at m on)) (λ h' k'. expr_goes e t pc r.0 ss low mt h' _ k')
          (λ v s1 ag val saw.
          fire child code left r.0 _ r.2.0 s1 m.spec d
          ∙ ap (λ u. choose (is_index u g.size) (λ a. read_cell g.first (magnitude u) at a (λ w. go left (r.0 + 1) (with_slot t (whole w) s1) m.spec d))
          (fault Index at) (own m.spec d)) val
          ∙ choose_same (is_index (whole v) g.size) _ _ _ _ (own m.spec d) m
          (read_same g.first (magnitude (whole v)) at m d (λ w. go left (r.0 + 1) (with_slot t (whole w) s1) m.spec d) on
          (λ u. to_end left _ to r.2.1 (with_slot t (whole u) s1) m.spec d
          ∙ k u (with_slot t (whole u) s1) (put t t (whole u) ss s1 (omega arith) ag) (slot_same t (whole u) s1) (v, saw)))
          refl)
      expr_goes (Cell (Member x at j) e) t pc to ss low mt h on k =
          let g = range_of s.items x in
          let r = split code pc (unless (index_of ks scope j) (code_of s.items ks scope t j)) _ to h in
          index_goes j t pc r.0 ss mt r.1 (λ v. member g (whole v) at m (λ f. eval s e m (λ y. reach f (whole y) at m (λ c. read_cell f.number c at m on))))
          (λ h' k'. expr_goes j t pc r.0 ss low mt h' _ k')
          (λ v s1 ag val saw.
          member_read_goes g t (where_is t (index_of ks scope j)) e at r.0 to ss s1 low (still ss s1 t low ag mt) ag (whole v) val
          (operand_of scope e) refl r.2 (Evals m.env (Cell (Member x at j) e)) (λ y ey u. ((v, saw), (y, ey))) on k
          (λ pc2 to2 s2 mt2 h2 on2 k2. expr_goes e (t + 1) pc2 to2 s2 (under t (t + 1) (omega arith) low) mt2 h2 on2 k2))

      links_goes : (l : Links) (t : ℕ) (o : Option Operand) (pc to : ℕ) (ss : Slots) → Under t → Fits ss → Low (t + 1) (where_is t o)
          → Spans code pc (code_of_links s.items ks scope t o l) to → (v : Value) → worth (where_is t o) ss ≡ whole v → (on : Value → Course)
          → Lands t (operand.Slot t) to ss (EvalsLinks m.env l v) on → go left pc ss m.spec d ≡ eval_links s l v m on
      links_goes Last t o pc to ss low mt lt h v val on k = brought_goes t o pc to ss h (whole v) val (on v) (λ s1 ag val1. k v s1 ag val1 refl)
      links_goes (Link Or at e links) t o pc to ss low mt lt h v val on k =
          let r = split code pc (brought t o) _ to h in
          let q = split code (r.0 + 1) (code_of s.items ks scope t e) _ to r.2.1 in
          let far : r.0 + 1 + (length (code_of s.items ks scope t e) + length (code_of_links s.items ks scope t None links)) ≡ to =
          omega (arith, span_length code _ _ to r.2.1, length-append (code_of s.items ks scope t e) (code_of_links s.items ks scope t None links)) in
          brought_goes t o pc r.0 ss r.1 (whole v) val _
          (λ s1 ag val1.
          let mt1 = still ss s1 t low ag mt in
          fire child code left r.0 _ r.2.0 s1 m.spec d
          ∙ ap (λ u. either (decides Or (IntOf u)) (go left (r.0 + 1 +
          (length (code_of s.items ks scope t e) + length (code_of_links s.items ks scope t None links)))) (go left (r.0 + 1)) s1 m.spec d) val1
          ∙ ap (λ b. either b (go left (r.0 + 1 + (length (code_of s.items ks scope t e) + length (code_of_links s.items ks scope t None links)))) (go left (r.0 + 1))
          s1 m.spec d) (decides_whole logic.Or v)
          ∙ either_same (decides Or v) _ _ _ _ s1 m.spec d m (to_end left _ to far s1 m.spec d ∙ k v s1 ag val1 tt)
          (expr_goes e t (r.0 + 1) q.0 s1 low mt1 q.1 (λ w. given (operated Or v w) at m (λ u. eval_links s links u m on))
          (λ w s2 ag2 val2 saww.
          links_goes links t None q.0 to s2 low (still s1 s2 t low ag2 mt1) (omega arith) q.2 w val2 on
          (λ u s3 ag3 val3 sawu. k u s3 (agree_on t ss s1 s3 ag (agree_on t s1 s2 s3 ag2 ag3)) val3 tt))))
      links_goes (Link And at e links) t o pc to ss low mt lt h v val on k =
          let r = split code pc (brought t o) _ to h in
          let q = split code (r.0 + 1) (code_of s.items ks scope t e) _ to r.2.1 in
          let far : r.0 + 1 + (length (code_of s.items ks scope t e) + length (code_of_links s.items ks scope t None links)) ≡ to =
          omega (arith, span_length code _ _ to r.2.1, length-append (code_of s.items ks scope t e) (code_of_links s.items ks scope t None links)) in
          brought_goes t o pc r.0 ss r.1 (whole v) val _
          (λ s1 ag val1.
          let mt1 = still ss s1 t low ag mt in
          fire child code left r.0 _ r.2.0 s1 m.spec d
          ∙ ap (λ u. either (decides And (IntOf u)) (go left (r.0 + 1 +
          (length (code_of s.items ks scope t e) + length (code_of_links s.items ks scope t None links)))) (go left (r.0 + 1)) s1 m.spec d) val1
          ∙ ap (λ b. either b (go left (r.0 + 1 + (length (code_of s.items ks scope t e) + length (code_of_links s.items ks scope t None links)))) (go left (r.0 + 1))
          s1 m.spec d) (decides_whole logic.And v)
          ∙ either_same (decides And v) _ _ _ _ s1 m.spec d m (to_end left _ to far s1 m.spec d ∙ k v s1 ag val1 tt)
          (expr_goes e t (r.0 + 1) q.0 s1 low mt1 q.1 (λ w. given (operated And v w) at m (λ u. eval_links s links u m on))
          (λ w s2 ag2 val2 saww.
          links_goes links t None q.0 to s2 low (still s1 s2 t low ag2 mt1) (omega arith) q.2 w val2 on
          (λ u s3 ag3 val3 sawu. k u s3 (agree_on t ss s1 s3 ag (agree_on t s1 s2 s3 ag2 ag3)) val3 tt))))
      links_goes (Link (Relates p) at e links) t o pc to ss low mt lt h v val on k =
          let r = split code pc (unless (operand_of scope e) (code_of s.items ks scope (t + 1) e)) _ to h in
          operand_goes e (t + 1) pc r.0 ss mt r.1 (λ w. given (operated (Relates p) v w) at m (λ u. eval_links s links u m on))
          (λ h' k'. expr_goes e (t + 1) pc r.0 ss (under t (t + 1) (omega arith) low) mt h' _ k')
          (λ w s1 ag val1 saww. operate_goes _ t _ _ r.0 (r.0 + 1) s1 at v w r.2.0 refl (worth_same (t + 1) (where_is t o) ss s1 lt ag ∙ val) val1 _
          (λ u gave. let ag2 = put t t (whole u) ss s1 (omega arith) (agree_less t (t + 1) ss s1 (omega arith) ag) in
          links_goes links t None (r.0 + 1) to (with_slot t (whole u) s1) low (still ss (with_slot t (whole u) s1) t low ag2 mt) (omega arith)
          r.2.1 u (slot_same t (whole u) s1) on (λ y s3 ag3 val3 sawl. k y s3 (agree_on t ss (with_slot t (whole u) s1) s3 ag2 ag3) val3 (w, saww, (u, sawl)))))
      links_goes (Link (Adds p) at e links) t o pc to ss low mt lt h v val on k =
          let r = split code pc (unless (operand_of scope e) (code_of s.items ks scope (t + 1) e)) _ to h in
          operand_goes e (t + 1) pc r.0 ss mt r.1 (λ w. given (operated (Adds p) v w) at m (λ u. eval_links s links u m on))
          (λ h' k'. expr_goes e (t + 1) pc r.0 ss (under t (t + 1) (omega arith) low) mt h' _ k')
          (λ w s1 ag val1 saww. operate_goes _ t _ _ r.0 (r.0 + 1) s1 at v w r.2.0 refl (worth_same (t + 1) (where_is t o) ss s1 lt ag ∙ val) val1 _
          (λ u gave. let ag2 = put t t (whole u) ss s1 (omega arith) (agree_less t (t + 1) ss s1 (omega arith) ag) in
          links_goes links t None (r.0 + 1) to (with_slot t (whole u) s1) low (still ss (with_slot t (whole u) s1) t low ag2 mt) (omega arith)
          r.2.1 u (slot_same t (whole u) s1) on (λ y s3 ag3 val3 sawl. k y s3 (agree_on t ss (with_slot t (whole u) s1) s3 ag2 ag3) val3 (w, saww, (u, gave, sawl)))))
      links_goes (Link (Multiplies p) at e links) t o pc to ss low mt lt h v val on k =
          let r = split code pc (unless (operand_of scope e) (code_of s.items ks scope (t + 1) e)) _ to h in
          operand_goes e (t + 1) pc r.0 ss mt r.1 (λ w. given (operated (Multiplies p) v w) at m (λ u. eval_links s links u m on))
          (λ h' k'. expr_goes e (t + 1) pc r.0 ss (under t (t + 1) (omega arith) low) mt h' _ k')
          (λ w s1 ag val1 saww. operate_goes _ t _ _ r.0 (r.0 + 1) s1 at v w r.2.0 refl (worth_same (t + 1) (where_is t o) ss s1 lt ag ∙ val) val1 _
          (λ u gave. let ag2 = put t t (whole u) ss s1 (omega arith) (agree_less t (t + 1) ss s1 (omega arith) ag) in
          links_goes links t None (r.0 + 1) to (with_slot t (whole u) s1) low (still ss (with_slot t (whole u) s1) t low ag2 mt) (omega arith)
          r.2.1 u (slot_same t (whole u) s1) on (λ y s3 ag3 val3 sawl. k y s3 (agree_on t ss (with_slot t (whole u) s1) s3 ag2 ag3) val3 (w, saww, (u, gave, sawl)))))

    -- an operand
    pub at_goes : (e : Expression) (t pc to : ℕ) (ss : Slots) → Under t → Fits ss → Spans code pc (code_at s.items ks scope t e) to
        → (on : Value → Course) → Lands t (operand_at s.items ks scope t e) to ss (Evals m.env e) on → go left pc ss m.spec d ≡ eval s e m on
    at_goes e t pc to ss low mt h on k = operand_goes e t pc to ss mt h on (λ h' k'. expr_goes e t pc to ss low mt h' on k') k

    -- an index of a member
    pub index_at_goes : (e : Expression) (t pc to : ℕ) (ss : Slots) → Under t → Fits ss → Spans code pc (index_at s.items ks scope t e) to
        → (on : Value → Course) → Lands t (index_operand s.items ks scope t e) to ss (Evals m.env e) on → go left pc ss m.spec d ≡ eval s e m on
    index_at_goes e t pc to ss low mt h on k = index_goes e t pc to ss mt h on (λ h' k'. expr_goes e t pc to ss low mt h' on k') k

    -- an object
    pub place_goes : (o : Place) (t pc to : ℕ) (ss : Slots) → Under t → Fits ss → Spans code pc (code_of_place s.items ks scope t o) to
        → (on : ResolvedObject → Course) → ((f : ResolvedObject) (ss' : Slots) → Agree t ss ss' → worth (place_at s.items ks t o) ss' ≡ pos f.number
        → go left to ss' m.spec d ≡ on f) → go left pc ss m.spec d ≡ find s o m on
    place_goes (Alone x at) t pc to ss low mt h on k =
        let g = range_of s.items x in
        to_end left pc to h ss m.spec d ∙ k (record { number = g.first; size = g.size }) ss (agree_all t ss) refl
    place_goes (Member x at e) t pc to ss low mt h on k =
        let g = range_of s.items x in
        let r = split code pc (code_at s.items ks scope t e) _ to h in
        at_goes e t pc r.0 ss low mt r.1 (λ v. member g (whole v) at m on)
        (λ v s1 ag val saw.
        fire child code left r.0 _ r.2.0 s1 m.spec d
        ∙ ap (λ u. choose (is_index u g.count) (λ a. go left (r.0 + 1) (with_slot t (pos (g.first + magnitude u)) s1) m.spec d) (fault Object at)
        (own m.spec d)) val
        ∙ choose_same (is_index (whole v) g.count) _ _ _ _ (own m.spec d) m
        (let o = pos (g.first + magnitude (whole v)) in
        to_end left _ to r.2.1 (with_slot t o s1) m.spec d ∙ k (record {
          number = g.first + magnitude (whole v);
          size =
              g.size;
        }) (with_slot t o s1) (put t t o ss s1 (omega arith) ag) (slot_same t o s1))
        refl)
