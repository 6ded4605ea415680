-- What was seen of an expression whose evaluation passed.
use Rattle.std.proofs.Common.{◌≡◌, ℕ, ◌<◌, List, [], ◌∷◌, ◌++◌, Bool, true, false, Option, Some, None, refl, sym, ap, ap₂, ◌∙◌}
use Rattle.std.specs.Prelude.{ℤ, if◌then◌else◌}
use Rattle.std.proofs.lemmas.Option.{same_Some, none-some}
use Rattle.jade_syntax.specs.Abstract.{Or, And, Relates, Adds, Multiplies, Expression, Whole, Truth, Variable, Group, Signed, Chain, Cell, Links, Last, Link}
use Rattle.jade_syntax.specs.Abstract.{Place, Alone, Member}
use Rattle.jade_meaning.specs.declared.values.Value.{Value}
use Rattle.jade_meaning.specs.declared.values.Value.TheVariants.{IntOf, BoolOf}
use Rattle.jade_meaning.specs.Values.{Given, Gives, Fails, operated, whole}
use Rattle.jade_meaning.specs.Course.{Course, Environment, Mine, Setting, given, value_of, eval, eval_links}
use Rattle.code_meaning.specs.declared.code.BinaryOp.{BinaryOp}
use Rattle.code_meaning.specs.declared.code.BinaryOp.TheVariants as op
use Rattle.code_meaning.specs.declared.code.Operand.TheVariants as operand
use Rattle.code_meaning.specs.Meaning.{Slots, worth, with_slot, operator}
use Rattle.task_translation.specs.Keys.{Key, Leaf, Both, joined, pick, is_new, with_key}
use Rattle.task_translation.specs.Compile.{Scope, slot_of, variable_at, key_of, key_of_links, index_wanted, wanted, wanted_links, wanted_store, distinct}
use Rattle.task_translation.proofs.Scopes.{Agree, Matches, value_at}
use Rattle.task_translation.proofs.Values.{operated_whole}
use Rattle.task_translation.proofs.Keeping.{number, both_of, calc, Passed, picked, calc_same, calc_spared, all_low, all_spare}

-- the parts of a key
record Joint (o : BinaryOp) (a b : Option Key) (q : Key) : Type 0 where
  pub first : Key
  pub second : Key
  pub left : a ≡ Some first
  pub right : b ≡ Some second
  pub same : Both o first second ≡ q

joint : (o : BinaryOp) (a b : Option Key) (q : Key) → joined o a b ≡ Some q → Joint o a b q
joint o None b q h = absurd (none-some q h)
joint o (Some p) None q h = absurd (none-some q h)
joint o (Some p) (Some r) q h = record { first = p; second = r; left = refl; right = refl; same = same_Some (Both o p r) q h }

record Numbers (o : BinaryOp) (a b : Option ℤ) (z : ℤ) : Type 0 where
  pub x : ℤ
  pub y : ℤ
  pub left : a ≡ Some x
  pub right : b ≡ Some y
  pub is : number (operated (operator o) (IntOf x) (IntOf y)) ≡ Some z

numbers : (o : BinaryOp) (a b : Option ℤ) (z : ℤ) → both_of o a b ≡ Some z → Numbers o a b z
numbers o None b z h = absurd (none-some z h)
numbers o (Some x) None z h = absurd (none-some z h)
numbers o (Some x) (Some y) z h = record { x = x; y = y; left = refl; right = refl; is = h }

gives : (g : Given) (z : ℤ) → number g ≡ Some z → (u : Value) × (g ≡ Gives u) × (whole u ≡ z)
gives (Gives v) z h = (v, refl, same_Some (whole v) z h)
gives (Fails kind) z h = absurd (none-some z h)

module _ (env : Environment) where
  abbrev mutual
    -- what is known of an expression that was evaluated to a value
    pub Evals : Expression → Value → Type 0
    Evals (Whole z) v = v ≡ IntOf z
    Evals (Truth b) v = v ≡ BoolOf b
    Evals (Variable x) v = v ≡ value_of x env
    Evals (Group e) v = Evals e v
    Evals (Signed sign at e) v = (w : Value) × Evals e w
    Evals (Chain e links) v = (w : Value) × Evals e w × EvalsLinks links w v
    Evals (Cell (Alone x at) e) v = (w : Value) × Evals e w
    Evals (Cell (Member x at j) e) v = ((w : Value) × Evals j w) × ((y : Value) × Evals e y)

    pub EvalsLinks : Links → Value → Value → Type 0
    EvalsLinks Last v u = u ≡ v
    EvalsLinks (Link Or at e links) v u = Unit {0}
    EvalsLinks (Link And at e links) v u = Unit {0}
    EvalsLinks (Link (Relates r) at e links) v u = (w : Value) × Evals e w × ((x : Value) × EvalsLinks links x u)
    EvalsLinks (Link (Adds r) at e links) v u =
        (w : Value) × Evals e w × ((x : Value) × (operated (Adds r) v w ≡ Gives x) × EvalsLinks links x u)
    EvalsLinks (Link (Multiplies r) at e links) v u =
        (w : Value) × Evals e w × ((x : Value) × (operated (Multiplies r) v w ≡ Gives x) × EvalsLinks links x u)

  module _ (scope : Scope) (ss : Slots) (mt : Matches scope env ss) where
    -- a key that is that of an expression seen
    abbrev pub Stands : Option Key → Value → Type 0
    Stands k v = (q : Key) → k ≡ Some q → calc q ss ≡ Some (whole v)

    joined_stands : (o : BinaryOp) (a b : Option Key) (v w x : Value) → Stands a v → Stands b w → operated (operator o) v w ≡ Gives x
        → Stands (joined o a b) x
    joined_stands o a b v w x f g e q h =
        let j = joint o a b q h in
        ap (λ r. calc r ss) (sym j.same)
        ∙ ap₂ (both_of o) (f j.first j.left) (g j.second j.right)
        ∙ ap number (operated_whole o v w ∙ e)

    mutual
      -- an expression that was evaluated to a value has its number as that of its key
      pub evals_calc : (e : Expression) (v : Value) → Evals e v → Stands (key_of scope e) v
      evals_calc (Whole z) v h q is = ap (λ r. calc r ss) (sym (same_Some (Leaf (operand.Whole z)) q is)) ∙ ap (λ u. Some (whole u)) (sym h)
      evals_calc (Truth b) v h q is = ap (λ r. calc r ss) (sym (same_Some (Leaf (operand.Truth b)) q is)) ∙ ap (λ u. Some (whole u)) (sym h)
      evals_calc (Variable x) v h q is =
          ap (λ r. calc r ss) (sym (same_Some (Leaf (variable_at (slot_of x scope))) q is))
          ∙ ap Some (sym (value_at x scope env ss mt)) ∙ ap (λ u. Some (whole u)) (sym h)
      evals_calc (Group e) v h q is = evals_calc e v h q is
      evals_calc (Signed sign at e) v h q is = absurd (none-some q is)
      evals_calc (Chain e links) v h q is = links_calc links (key_of scope e) h.0 v (evals_calc e h.0 h.1) h.2 q is
      evals_calc (Cell (Alone x at) e) v h q is = absurd (none-some q is)
      evals_calc (Cell (Member x at j) e) v h q is = absurd (none-some q is)

      links_calc : (l : Links) (k : Option Key) (v u : Value) → Stands k v → EvalsLinks l v u → Stands (key_of_links scope k l) u
      links_calc Last k v u f h q is = f q is ∙ ap (λ w. Some (whole w)) (sym h)
      links_calc (Link Or at e links) k v u f h q is = absurd (none-some q is)
      links_calc (Link And at e links) k v u f h q is = absurd (none-some q is)
      links_calc (Link (Relates r) at e links) k v u f h q is = absurd (none-some q is)
      links_calc (Link (Adds r) at e links) k v u f h q is =
          links_calc links (joined (op.Adds r) k (key_of scope e)) h.2.0 u
          (joined_stands (op.Adds r) k (key_of scope e) v h.0 h.2.0 f (evals_calc e h.0 h.1) h.2.1) h.2.2 q is
      links_calc (Link (Multiplies r) at e links) k v u f h q is =
          links_calc links (joined (op.Multiplies r) k (key_of scope e)) h.2.0 u
          (joined_stands (op.Multiplies r) k (key_of scope e) v h.0 h.2.0 f (evals_calc e h.0 h.1) h.2.1) h.2.2 q is

-- of these, each that is picked has passed
abbrev pub Ran : (ℕ → Bool) → Scope → List Expression → Slots → Type 0
Ran ok scope [] ss = Unit {0}
Ran ok scope (e ∷ es) ss = ((p : Key) → pick ok (key_of scope e) ≡ Some p → Passed p ss) × Ran ok scope es ss

pub ran_both : (ok : ℕ → Bool) (scope : Scope) (a b : List Expression) (ss : Slots) → Ran ok scope a ss → Ran ok scope b ss → Ran ok scope (a ++ b) ss
ran_both ok scope [] b ss f g = g
ran_both ok scope (e ∷ a) b ss f g = (f.0, ran_both ok scope a b ss f.1 g)

pub ran_distinct : (ok : ℕ → Bool) (scope : Scope) (seen : List Key) (es : List Expression) (ss : Slots) → Ran ok scope es ss
    → Ran ok scope (distinct scope seen es) ss
ran_distinct ok scope seen [] ss f = tt
ran_distinct ok scope seen (e ∷ es) ss f =
    ran_both ok scope _ (distinct scope (with_key seen (key_of scope e)) es) ss (by_case (is_new seen (key_of scope e)))
    (ran_distinct ok scope (with_key seen (key_of scope e)) es ss f.1)
  where
    by_case : (b : Bool) → Ran ok scope (if b then e ∷ [] else []) ss
    by_case true = (f.0, tt)
    by_case false = tt

-- what was seen stays so, where no slot of what is picked changes
pub ran_by : (ok : ℕ → Bool) (n : ℕ) → ((k : ℕ) → ok k ≡ true → k < n) → (scope : Scope) (es : List Expression) (a b : Slots) → Agree n a b
    → Ran ok scope es a → Ran ok scope es b
ran_by ok n f scope [] a b ag r = tt
ran_by ok n f scope (e ∷ es) a b ag r = (
  λ p is. let z = r.0 p is in (z.0, calc_same n p a b (all_low ok n f p (picked ok (key_of scope e) p is).1) ag ∙ z.1),
  ran_by ok n f scope es a b ag r.1,
)

pub ran_put : (ok : ℕ → Bool) (j : ℕ) (v : ℤ) (ss : Slots) → ((k : ℕ) → ok k ≡ true → k ≡ j → ⊥) → (scope : Scope) (es : List Expression)
    → Ran ok scope es ss → Ran ok scope es (with_slot j v ss)
ran_put ok j v ss f scope [] r = tt
ran_put ok j v ss f scope (e ∷ es) r = (
  λ p is. let z = r.0 p is in (z.0, calc_spared j v p ss (all_spare ok j f p (picked ok (key_of scope e) p is).1) ∙ z.1),
  ran_put ok j v ss f scope es r.1,
)

-- a store whose expressions were evaluated
abbrev pub Stores : Environment → Place → (cell value : Expression) → Type 0
Stores env (Alone y at) e v = ((w : Value) × Evals env e w) × ((z : Value) × Evals env v z)
Stores env (Member y at j) e v = ((u : Value) × Evals env j u) × ((w : Value) × Evals env e w) × ((z : Value) × Evals env v z)

module _ (x : Expression → Bool) (ok : ℕ → Bool) (env : Environment) (scope : Scope) (ss : Slots) (mt : Matches scope env ss) where
  pub index_ran : (e : Expression) (v : Value) → Evals env e v → Ran ok scope (index_wanted x e) ss
  index_ran e v h = by_case (x e) (λ p is. (whole v, evals_calc env scope ss mt e v h p (picked ok (key_of scope e) p is).0))
    where
      by_case : (b : Bool) → ((p : Key) → pick ok (key_of scope e) ≡ Some p → Passed p ss) → Ran ok scope (if b then e ∷ [] else []) ss
      by_case true f = (f, tt)
      by_case false f = tt

  mutual
    pub wanted_ran : (e : Expression) (v : Value) → Evals env e v → Ran ok scope (wanted x e) ss
    wanted_ran (Whole z) v h = tt
    wanted_ran (Truth b) v h = tt
    wanted_ran (Variable y) v h = tt
    wanted_ran (Group e) v h = wanted_ran e v h
    wanted_ran (Signed sign at e) v h = wanted_ran e h.0 h.1
    wanted_ran (Chain e links) v h =
        ran_both ok scope (wanted x e) (wanted_links x links) ss (wanted_ran e h.0 h.1) (links_ran links h.0 v h.2)
    wanted_ran (Cell (Alone y at) e) v h = wanted_ran e h.0 h.1
    wanted_ran (Cell (Member y at j) e) v h =
        ran_both ok scope (index_wanted x j) (wanted x j ++ wanted x e) ss (index_ran j h.0.0 h.0.1)
        (ran_both ok scope (wanted x j) (wanted x e) ss (wanted_ran j h.0.0 h.0.1) (wanted_ran e h.1.0 h.1.1))

    links_ran : (l : Links) (v u : Value) → EvalsLinks env l v u → Ran ok scope (wanted_links x l) ss
    links_ran Last v u h = tt
    links_ran (Link Or at e links) v u h = tt
    links_ran (Link And at e links) v u h = tt
    links_ran (Link (Relates r) at e links) v u h =
        ran_both ok scope (wanted x e) (wanted_links x links) ss (wanted_ran e h.0 h.1) (links_ran links h.2.0 u h.2.1)
    links_ran (Link (Adds r) at e links) v u h =
        ran_both ok scope (wanted x e) (wanted_links x links) ss (wanted_ran e h.0 h.1) (links_ran links h.2.0 u h.2.2)
    links_ran (Link (Multiplies r) at e links) v u h =
        ran_both ok scope (wanted x e) (wanted_links x links) ss (wanted_ran e h.0 h.1) (links_ran links h.2.0 u h.2.2)

  pub store_ran : (o : Place) (e v : Expression) → Stores env o e v → Ran ok scope (wanted_store x o e v) ss
  store_ran (Alone y at) e v h = ran_both ok scope (wanted x e) (wanted x v) ss (wanted_ran e h.0.0 h.0.1) (wanted_ran v h.1.0 h.1.1)
  store_ran (Member y at j) e v h =
      ran_both ok scope (index_wanted x j ++ (wanted x j ++ wanted x e)) (wanted x v) ss
      (ran_both ok scope (index_wanted x j) (wanted x j ++ wanted x e) ss (index_ran j h.0.0 h.0.1)
      (ran_both ok scope (wanted x j) (wanted x e) ss (wanted_ran j h.0.0 h.0.1) (wanted_ran e h.1.0 h.1.1)))
      (wanted_ran v h.2.0 h.2.1)

module _ (s : Setting) (m : Mine) (scope : Scope) (ss : Slots) (mt : Matches scope m.env ss) where
  -- an expression whose key has a number
  pub record Sure (e : Expression) (z : ℤ) : Type 0 where
    pub value : Value
    pub number : whole value ≡ z
    pub saw : Evals m.env e value
    pub same : (on : Value → Course) → eval s e m on ≡ on value

  -- the rest of a chain, after the value v
  record SureLinks (l : Links) (v : Value) (z : ℤ) : Type 0 where
    pub value : Value
    pub number : whole value ≡ z
    pub saw : EvalsLinks m.env l v value
    pub same : (on : Value → Course) → eval_links s l v m on ≡ on value

  record SureFrom (k : Option Key) (l : Links) (z : ℤ) : Type 0 where
    pub key : Key
    pub before : ℤ
    pub is : k ≡ Some key
    pub has : calc key ss ≡ Some before
    pub goes : (v : Value) → whole v ≡ before → SureLinks l v z

  -- what an operator gives that has a number
  operator_gives : (o : BinaryOp) (v w : Value) (x y z : ℤ) → whole v ≡ x → whole w ≡ y → number (operated (operator o) (IntOf x) (IntOf y)) ≡ Some z
      → (u : Value) × (operated (operator o) v w ≡ Gives u) × (whole u ≡ z)
  operator_gives o v w x y z ev ew h =
      gives (operated (operator o) v w) z
      (sym (ap number (ap₂ (λ a b. operated (operator o) (IntOf a) (IntOf b)) (sym ev) (sym ew) ∙ operated_whole o v w)) ∙ h)

  mutual
    pub sure : (e : Expression) (p : Key) → key_of scope e ≡ Some p → (z : ℤ) → calc p ss ≡ Some z → Sure e z
    sure (Whole x) p is z h = record {
      value = IntOf x;
      number = same_Some x z (ap (λ r. calc r ss) (same_Some (Leaf (operand.Whole x)) p is) ∙ h);
      saw = refl;
      same = λ on. refl;
    }
    sure (Truth b) p is z h = record {
      value = BoolOf b;
      number = same_Some (whole (BoolOf b)) z (ap (λ r. calc r ss) (same_Some (Leaf (operand.Truth b)) p is) ∙ h);
      saw = refl;
      same = λ on. refl;
    }
    sure (Variable x) p is z h = record {
      value = value_of x m.env;
      number = value_at x scope m.env ss mt
          ∙ same_Some (worth (variable_at (slot_of x scope)) ss) z (ap (λ r. calc r ss) (same_Some (Leaf (variable_at (slot_of x scope))) p is) ∙ h);
      saw = refl;
      same = λ on. refl;
    }
    sure (Group e) p is z h =
        let g = sure e p is z h in record { value = g.value; number = g.number; saw = g.saw; same = g.same }
    sure (Signed sign at e) p is z h = absurd (none-some p is)
    sure (Chain e links) p is z h =
        let f = sure_links links (key_of scope e) p is z h in
        let g = sure e f.key f.is f.before f.has in
        let l = f.goes g.value g.number in
        record {
          value = l.value;
          number = l.number;
          saw = (g.value, g.saw, l.saw);
          same = λ on. g.same (λ v. eval_links s links v m on) ∙ l.same on;
        }
    sure (Cell o e) p is z h = absurd (none-some p is)

    sure_links : (l : Links) (k : Option Key) (p : Key) → key_of_links scope k l ≡ Some p → (z : ℤ) → calc p ss ≡ Some z → SureFrom k l z
    sure_links Last k p is z h = record {
      key = p;
      before = z;
      is = is;
      has = h;
      goes = λ v e. record { value = v; number = e; saw = refl; same = λ on. refl };
    }
    sure_links (Link Or at e links) k p is z h = absurd (none-some p is)
    sure_links (Link And at e links) k p is z h = absurd (none-some p is)
    sure_links (Link (Relates r) at e links) k p is z h = absurd (none-some p is)
    sure_links (Link (Adds r) at e links) k p is z h =
        let f = sure_links links (joined (op.Adds r) k (key_of scope e)) p is z h in
        let j = joint (op.Adds r) k (key_of scope e) f.key f.is in
        let n = numbers (op.Adds r) (calc j.first ss) (calc j.second ss) f.before (ap (λ q. calc q ss) j.same ∙ f.has) in
        let g = sure e j.second j.right n.y n.right in
        record {
          key = j.first;
          before = n.x;
          is = j.left;
          has = n.left;
          goes = λ v ev.
              let o = operator_gives (op.Adds r) v g.value n.x n.y f.before ev g.number n.is in
              let l = f.goes o.0 o.2 in
              record {
                value = l.value;
                number = l.number;
                saw = (g.value, g.saw, (o.0, o.1, l.saw));
                same = λ on.
                    g.same (λ w. given (operated (Adds r) v w) at m (λ u. eval_links s links u m on))
                    ∙ ap (λ a. given a at m (λ u. eval_links s links u m on)) o.1 ∙ l.same on;
              };
        }
    sure_links (Link (Multiplies r) at e links) k p is z h =
        let f = sure_links links (joined (op.Multiplies r) k (key_of scope e)) p is z h in
        let j = joint (op.Multiplies r) k (key_of scope e) f.key f.is in
        let n = numbers (op.Multiplies r) (calc j.first ss) (calc j.second ss) f.before (ap (λ q. calc q ss) j.same ∙ f.has) in
        let g = sure e j.second j.right n.y n.right in
        record {
          key = j.first;
          before = n.x;
          is = j.left;
          has = n.left;
          goes = λ v ev.
              let o = operator_gives (op.Multiplies r) v g.value n.x n.y f.before ev g.number n.is in
              let l = f.goes o.0 o.2 in
              record {
                value = l.value;
                number = l.number;
                saw = (g.value, g.saw, (o.0, o.1, l.saw));
                same = λ on.
                    g.same (λ w. given (operated (Multiplies r) v w) at m (λ u. eval_links s links u m on))
                    ∙ ap (λ a. given a at m (λ u. eval_links s links u m on)) o.1 ∙ l.same on;
              };
        }
