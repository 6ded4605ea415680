-- Variables and their slots.
use Rattle.std.proofs.Common.{◌≡◌, ℕ, suc, ◌+◌, ◌-◌, ◌<◌, ◌≤◌, ◌⊎◌, List, [], ◌∷◌, ◌++◌, length, drop, Bool, true, false, Option, Some, None, refl, sym, ap}
use Rattle.std.proofs.Common.{ap₂, ◌∙◌, subst, arith, inl, inr, length-append}
use Rattle.std.specs.Prelude.{ℤ, if◌then◌else◌}
use Rattle.std.proofs.lemmas.Bool.{eq-eqb, ne_eqb}
use Rattle.std.proofs.lemmas.Option.{same_Some, none-some}
use Rattle.jade_syntax.specs.Abstract.{Name, Actions, Done, Then, Action, Local, Assign, Store, If, IfElse, For, Withonly, With, Declare}
use Rattle.jade_syntax.specs.Numbering.{same_name}
use Rattle.jade_meaning.specs.declared.values.Value.{Value}
use Rattle.jade_meaning.specs.declared.values.Value.TheVariants.{IntOf}
use Rattle.jade_meaning.specs.Values.{whole}
use Rattle.jade_meaning.specs.Course.{Binding, Environment, value_of, assigned, copied, inputs}
use Rattle.jade_syntax.specs.declared.tree.Item.{Item}
use Rattle.jade_syntax.specs.declared.tree.Item.TheVariants as item
use Rattle.jade_syntax.specs.Abstract.{Expression, Whole, Truth, Variable, Group, Signed, Chain, Cell}
use Rattle.code_meaning.specs.declared.code.Operand.{Operand}
use Rattle.code_meaning.specs.declared.code.Operand.TheVariants as operand
use Rattle.code_meaning.specs.Meaning.{Slots, worth, with_slot, given_slots, passed}
use Rattle.task_translation.specs.Compile.{Entry, Scope, entry, slot_of, variable_at, operand_of, where_is, scope_after, next_after, call_of, inputs_in}
use Rattle.task_translation.specs.Compile.{given_scope, parameters}

-- the slot of a variable has the number of its value
pub record Meets (e : Entry) (b : Binding) (ss : Slots) : Type 0 where
  pub name : e.name ≡ b.name
  pub value : ss e.slot ≡ whole b.value

-- the slots in scope have the numbers of the variables' values
abbrev pub Matches : Scope → Environment → Slots → Type 0
Matches [] [] ss = Unit {0}
Matches [] (b ∷ env) ss = ⊥
Matches (e ∷ scope) [] ss = ⊥
Matches (e ∷ scope) (b ∷ env) ss = Meets e b ss × Matches scope env ss

-- the slots in scope are below a number, the newest the highest
abbrev pub Below : ℕ → Scope → Type 0
Below n [] = Unit {0}
Below n (e ∷ scope) = (e.slot < n) × Below e.slot scope

abbrev pub IsIn : ℕ → Scope → Type 0
IsIn k [] = ⊥
IsIn k (e ∷ scope) = (k ≡ e.slot) ⊎ IsIn k scope

-- the slots below n are the same
abbrev pub Agree : ℕ → Slots → Slots → Type 0
Agree n ss ss' = (k : ℕ) → k < n → ss' k ≡ ss k

-- what holds of slots goes on to hold where free ones change, or one in scope that may be assigned to
pub record Stable (P : Slots → Type 0) (scope : Scope) (n : ℕ) (may : ℕ → Bool) : Type 0 where
  pub free : (ss ss' : Slots) → Agree n ss ss' → P ss → P ss'
  pub bound : (ss : Slots) (k : ℕ) (z : ℤ) → IsIn k scope → may k ≡ true → P ss → P (with_slot k z ss)

-- the same, where fewer may be assigned to
pub narrow : (P : Slots → Type 0) (scope : Scope) (n : ℕ) (may less : ℕ → Bool) → ((k : ℕ) → less k ≡ true → may k ≡ true) → Stable P scope n may
    → Stable P scope n less
narrow P scope n may less f st = record { free = st.free; bound = λ ss k z h w p. st.bound ss k z h (f k w) p }

pub slot_same : (k : ℕ) (z : ℤ) (ss : Slots) → with_slot k z ss k ≡ z
slot_same k z ss = ap (λ b. if b then z else ss k) (eq-eqb k k refl)

pub slot_other : (j k : ℕ) (z : ℤ) (ss : Slots) → (k ≡ j → ⊥) → with_slot j z ss k ≡ ss k
slot_other j k z ss ne = ap (λ b. if b then z else ss k) (ne_eqb k j ne)

pub agree_all : (n : ℕ) (ss : Slots) → Agree n ss ss
agree_all n ss k lt = refl

pub agree_on : (n : ℕ) (a b c : Slots) → Agree n a b → Agree n b c → Agree n a c
agree_on n a b c f g k lt = g k lt ∙ f k lt

pub agree_less : (m n : ℕ) (a b : Slots) → m ≤ n → Agree n a b → Agree m a b
agree_less m n a b le f k lt = f k (omega (arith, lt, le))

-- an operand that is no slot from n on
abbrev pub Low : ℕ → Operand → Type 0
Low n (operand.Slot k) = k < n
Low n (operand.Whole z) = Unit {0}
Low n (operand.Truth b) = Unit {0}

pub worth_same : (n : ℕ) (o : Operand) (a b : Slots) → Low n o → Agree n a b → worth o b ≡ worth o a
worth_same n (operand.Slot k) a b low f = f k low
worth_same n (operand.Whole z) a b low f = refl
worth_same n (operand.Truth t) a b low f = refl

pub low_more : (m n : ℕ) (o : Operand) → m ≤ n → Low m o → Low n o
low_more m n (operand.Slot k) le low = omega (arith, le, low)
low_more m n (operand.Whole z) le low = tt
low_more m n (operand.Truth t) le low = tt

-- a free slot changes
pub put : (n k : ℕ) (z : ℤ) (a b : Slots) → n ≤ k → Agree n a b → Agree n a (with_slot k z b)
put n k z a b le f j lt = slot_other k j z b (λ e. absurd (omega (arith, lt, le, e))) ∙ f j lt

pub lower : (m n : ℕ) (scope : Scope) → m ≤ n → Below m scope → Below n scope
lower m n [] le h = tt
lower m n (e ∷ scope) le h = (omega (arith, h.0, le), h.1)

pub is_below : (n k : ℕ) (scope : Scope) → Below n scope → IsIn k scope → k < n
is_below n k [] h i = absurd i
is_below n k (e ∷ scope) h (inl same) = omega (arith, h.0, same)
is_below n k (e ∷ scope) h (inr more) = omega (arith, h.0, is_below e.slot k scope h.1 more)

-- a free slot changes
pub kept : (scope : Scope) (env : Environment) (ss : Slots) (n k : ℕ) (z : ℤ) → Below n scope → n ≤ k → Matches scope env ss
    → Matches scope env (with_slot k z ss)
kept [] [] ss n k z low le m = tt
kept [] (b ∷ env) ss n k z low le m = m
kept (e ∷ scope) [] ss n k z low le m = m
kept (e ∷ scope) (b ∷ env) ss n k z low le m = (
  record { name = m.0.name; value = slot_other k e.slot z ss (λ same. absurd (omega (arith, low.0, le, same))) ∙ m.0.value },
  kept scope env ss e.slot k z low.1 (omega (arith, low.0, le)) m.1,
)

pub kept_by : (scope : Scope) (env : Environment) (a b : Slots) (n : ℕ) → Below n scope → Agree n a b → Matches scope env a → Matches scope env b
kept_by [] [] a b n low f m = tt
kept_by [] (x ∷ env) a b n low f m = m
kept_by (e ∷ scope) [] a b n low f m = m
kept_by (e ∷ scope) (x ∷ env) a b n low f m =
    (record { name = m.0.name; value = f e.slot low.0 ∙ m.0.value }, kept_by scope env a b e.slot low.1 (agree_less e.slot n a b (omega (arith, low.0)) f) m.1)

-- a new variable, in the first free slot
pub bound_by : (x : Name) (n : ℕ) (v : Value) (scope : Scope) (env : Environment) (a b : Slots) → Below n scope → Agree n a b → b n ≡ whole v
    → Matches scope env a → Matches (entry x n ∷ scope) (record { name = x; value = v } ∷ env) b
bound_by x n v scope env a b low f e m = (record { name = refl; value = e }, kept_by scope env a b n low f m)

-- a new variable
pub bound_too : (x : Name) (n : ℕ) (v : Value) (scope : Scope) (env : Environment) (ss : Slots) → Below n scope → Matches scope env ss
    → Matches (entry x n ∷ scope) (record { name = x; value = v } ∷ env) (with_slot n (whole v) ss)
bound_too x n v scope env ss low m =
    (record { name = refl; value = slot_same n (whole v) ss }, kept scope env ss n n (whole v) low (omega arith) m)

value_case : (t : Bool) (e : Entry) (b : Binding) (rest : Option ℕ) (env : Value) (ss : Slots) → ss e.slot ≡ whole b.value → whole env
    ≡ worth (variable_at rest) ss → whole (if t then b.value else env) ≡ worth (variable_at (if t then Some e.slot else rest)) ss
value_case true e b rest env ss h g = sym h
value_case false e b rest env ss h g = g

pub value_at : (x : Name) (scope : Scope) (env : Environment) (ss : Slots) → Matches scope env ss → whole (value_of x env)
    ≡ worth (variable_at (slot_of x scope)) ss
value_at x [] [] ss m = refl
value_at x [] (b ∷ env) ss m = absurd m
value_at x (e ∷ scope) [] ss m = absurd m
value_at x (e ∷ scope) (b ∷ env) ss m =
    ap (λ y. whole (if same_name x y then b.value else value_of x env)) (sym m.0.name)
    ∙ value_case (same_name x e.name) e b (slot_of x scope) (value_of x env) ss m.0.value (value_at x scope env ss m.1)

pub slot_in : (x : Name) (scope : Scope) (k : ℕ) → slot_of x scope ≡ Some k → IsIn k scope
slot_in x [] k h = absurd (none-some k h)
slot_in x (e ∷ scope) k h = here (same_name x e.name) h (slot_in x scope k)
  where
    here : (t : Bool) → (if t then Some e.slot else slot_of x scope) ≡ Some k → (slot_of x scope ≡ Some k → IsIn k scope) → IsIn k (e ∷ scope)
    here true h ih = inl (sym (same_Some e.slot k h))
    here false h ih = inr (ih h)

assigned_case : (t : Bool) (x : Name) (e : Entry) (scope : Scope) (b : Binding) (env : Environment) (ss : Slots) (k n : ℕ) (v : Value) → Below n (e ∷ scope)
    → Meets e b ss → Matches scope env ss → (if t then Some e.slot else slot_of x scope) ≡ Some k
    → (slot_of x scope ≡ Some k → Matches scope (assigned x v env) (with_slot k (whole v) ss))
    → Matches (e ∷ scope) (if t then record b { value = v } ∷ env else b ∷ assigned x v env) (with_slot k (whole v) ss)
assigned_case true x e scope b env ss k n v low meets m h ih =
    let same : e.slot ≡ k = same_Some e.slot k h in (
      record { name = meets.name; value = ap (with_slot k (whole v) ss) same ∙ slot_same k (whole v) ss },
      kept scope env ss e.slot k (whole v) low.1 (omega (arith, same)) m,
    )
assigned_case false x e scope b env ss k n v low meets m h ih =
    let less = is_below e.slot k scope low.1 (slot_in x scope k h) in
    (record { name = meets.name; value = slot_other k e.slot (whole v) ss (λ same. absurd (omega (arith, less, same))) ∙ meets.value }, ih h)

-- a variable in scope changes
pub assigned_too : (x : Name) (scope : Scope) (env : Environment) (ss : Slots) (k n : ℕ) (v : Value) → Below n scope → slot_of x scope ≡ Some k
    → Matches scope env ss → Matches scope (assigned x v env) (with_slot k (whole v) ss)
assigned_too x [] [] ss k n v low h m = tt
assigned_too x [] (b ∷ env) ss k n v low h m = absurd m
assigned_too x (e ∷ scope) [] ss k n v low h m = absurd m
assigned_too x (e ∷ scope) (b ∷ env) ss k n v low h m =
    subst (λ y. Matches (e ∷ scope) (if same_name x y then record b { value = v } ∷ env else b ∷ assigned x v env) (with_slot k (whole v) ss)) m.0.name
    (assigned_case (same_name x e.name) x e scope b env ss k n v low m.0 m.1 h (λ g. assigned_too x scope env ss k e.slot v low.1 g m.1))

unassigned_case : (t : Bool) (x : Name) (e : Entry) (scope : Scope) (b : Binding) (env : Environment) (ss : Slots) (v : Value) → Meets e b ss
    → (if t then Some e.slot else slot_of x scope) ≡ None → (slot_of x scope ≡ None → Matches scope (assigned x v env) ss)
    → Matches (e ∷ scope) (if t then record b { value = v } ∷ env else b ∷ assigned x v env) ss
unassigned_case true x e scope b env ss v meets h ih = absurd (none-some e.slot (sym h))
unassigned_case false x e scope b env ss v meets h ih = (meets, ih h)

pub unassigned : (x : Name) (scope : Scope) (env : Environment) (ss : Slots) (v : Value) → slot_of x scope ≡ None → Matches scope env ss
    → Matches scope (assigned x v env) ss
unassigned x [] [] ss v h m = tt
unassigned x [] (b ∷ env) ss v h m = absurd m
unassigned x (e ∷ scope) [] ss v h m = absurd m
unassigned x (e ∷ scope) (b ∷ env) ss v h m =
    subst (λ y. Matches (e ∷ scope) (if same_name x y then record b { value = v } ∷ env else b ∷ assigned x v env) ss) m.0.name
    (unassigned_case (same_name x e.name) x e scope b env ss v m.0 h (λ g. unassigned x scope env ss v g m.1))

pub same_length : (scope : Scope) (env : Environment) (ss : Slots) → Matches scope env ss → length env ≡ length scope
same_length [] [] ss m = refl
same_length [] (b ∷ env) ss m = absurd m
same_length (e ∷ scope) [] ss m = absurd m
same_length (e ∷ scope) (b ∷ env) ss m = ap suc (same_length scope env ss m.1)

-- a scope that grew
abbrev pub Grown : Scope → Scope → Type 0
Grown scope more = (new : Scope) × (more ≡ new ++ scope)

drop_new : (new scope : Scope) (env : Environment) (ss : Slots) → Matches (new ++ scope) env ss → Matches scope (drop (length new) env) ss
drop_new [] scope env ss m = m
drop_new (e ∷ new) scope [] ss m = absurd m
drop_new (e ∷ new) scope (b ∷ env) ss m = drop_new new scope env ss m.1

-- the variables of a block end with it
pub cut : (scope more : Scope) (old env : Environment) (ss tt' : Slots) → Grown scope more → Matches scope old tt' → Matches more env ss
    → Matches scope (drop (length env - length old) env) ss
cut scope more old env ss tt' g before m =
    let m' = subst (λ s. Matches s env ss) g.1 m in
    let l = same_length (g.0 ++ scope) env ss m' in
    let k = same_length scope old tt' before in
    let e : length g.0 ≡ length env - length old = omega (arith, l, k, length-append g.0 scope) in
    subst (λ n. Matches scope (drop n env) ss) e (drop_new g.0 scope env ss m')

-- the scope after statements
abbrev pub scope_after_all : Scope → ℕ → Actions → Scope
scope_after_all scope n Done = scope
scope_after_all scope n (Then a more) = scope_after_all (scope_after scope n a) (next_after n a) more

grown_by : (scope : Scope) (n : ℕ) (a : Action) → Grown scope (scope_after scope n a)
grown_by scope n (Local kind x e) = (entry x n ∷ [], refl)
grown_by scope n (Assign x e) = ([], refl)
grown_by scope n (Store o e v) = ([], refl)
grown_by scope n (If e first) = ([], refl)
grown_by scope n (IfElse e first other) = ([], refl)
grown_by scope n (For x low high body) = ([], refl)
grown_by scope n (Withonly at section names body) = ([], refl)
grown_by scope n (With at section) = ([], refl)
grown_by scope n (Declare how at o) = ([], refl)

pub grown : (scope : Scope) (n : ℕ) (a : Actions) → Grown scope (scope_after_all scope n a)
grown scope n Done = ([], refl)
grown scope n (Then a more) =
    let g = grown_by scope n a in
    let h = grown (scope_after scope n a) (next_after n a) more in
    (h.0 ++ g.0, h.1 ∙ ap (λ s. h.0 ++ s) g.1 ∙ sym (append_assoc' h.0 g.0 scope))
  where
    append_assoc' : (a b c : Scope) → (a ++ b) ++ c ≡ a ++ (b ++ c)
    append_assoc' [] b c = refl
    append_assoc' (x ∷ a) b c = ap (λ l. x ∷ l) (append_assoc' a b c)

pub below_after : (scope : Scope) (n : ℕ) (a : Action) → Below n scope → Below (next_after n a) (scope_after scope n a)
below_after scope n (Local kind x e) h = (omega arith, h)
below_after scope n (Assign x e) h = h
below_after scope n (Store o e v) h = h
below_after scope n (If e first) h = h
below_after scope n (IfElse e first other) h = h
below_after scope n (For x low high body) h = h
below_after scope n (Withonly at section names body) h = h
below_after scope n (With at section) h = h
below_after scope n (Declare how at o) h = h

stable_local : (P : Slots → Type 0) (scope : Scope) (n : ℕ) (may : ℕ → Bool) (x : Name) → Stable P scope n may → Stable P (entry x n ∷ scope) (n + 1) may
stable_local P scope n may x st = record {
  free = λ a b f p. st.free a b (agree_less n (n + 1) a b (omega arith) f) p;
  bound = λ ss k v h w p. at_bound ss k v h w p;
}
  where
    at_bound : (ss : Slots) (k : ℕ) (v : ℤ) → IsIn k (entry x n ∷ scope) → may k ≡ true → P ss → P (with_slot k v ss)
    at_bound ss k v (inl e) w p = st.free ss (with_slot k v ss) (put n k v ss ss (omega (arith, e)) (agree_all n ss)) p
    at_bound ss k v (inr h) w p = st.bound ss k v h w p

pub stable_after : (P : Slots → Type 0) (scope : Scope) (n : ℕ) (may : ℕ → Bool) (a : Action) → Stable P scope n may
    → Stable P (scope_after scope n a) (next_after n a) may
stable_after P scope n may (Local kind x e) st = stable_local P scope n may x st
stable_after P scope n may (Assign x e) st = st
stable_after P scope n may (Store o e v) st = st
stable_after P scope n may (If e first) st = st
stable_after P scope n may (IfElse e first other) st = st
stable_after P scope n may (For x low high body) st = st
stable_after P scope n may (Withonly at section names body) st = st
stable_after P scope n may (With at section) st = st
stable_after P scope n may (Declare how at o) st = st

below_given : (items : List Item) → Below (inputs_in items) (given_scope items)
below_given [] = tt
below_given (item.Input y at ∷ items) = (omega arith, below_given items)
below_given (item.Single y at size ∷ items) = below_given items
below_given (item.Family y at count size ∷ items) = below_given items

given_match : (items : List Item) (zs : List ℤ) → length zs ≡ inputs_in items → Matches (given_scope items) (inputs items zs) (given_slots zs)
given_match [] zs e = tt
given_match (item.Input y at ∷ items) [] e = absurd (omega (arith, e))
given_match (item.Input y at ∷ items) (z ∷ zs) e =
    let same : length zs ≡ inputs_in items = omega (arith, e) in
    subst (λ n. Matches (entry y (inputs_in items) ∷ given_scope items) (record {
      name = y;
      value =
          IntOf z;
    } ∷ inputs items zs) (with_slot n z (given_slots zs))) (sym same)
    (bound_too y (inputs_in items) (IntOf z) (given_scope items) (inputs items zs) (given_slots zs) (below_given items) (given_match items zs same))
given_match (item.Single y at size ∷ items) zs e = given_match items zs e
given_match (item.Family y at count size ∷ items) zs e = given_match items zs e

-- the slots of a body begin with the variables that it is given
pub below_parameters : (items : List Item) (names : List Name) → Below (inputs_in items + length names) (parameters items names)
below_parameters items [] = let e : inputs_in items ≡ inputs_in items + length {A = Name} [] = omega arith in
    subst (λ n. Below n (given_scope items)) e (below_given items)
below_parameters items (x ∷ xs) = (omega arith, below_parameters items xs)

call_length : (scope : Scope) (names : List Name) → length (call_of scope names) ≡ length names
call_length scope [] = refl
call_length scope (x ∷ xs) = ap suc (call_length scope xs)

pub passed_match : (items : List Item) (zs : List ℤ) → length zs ≡ inputs_in items → (names : List Name) (scope : Scope) (env : Environment) (ss : Slots)
    → Matches scope env ss → Matches (parameters items names) (copied names env ++ inputs items zs) (passed zs (call_of scope names) ss)
passed_match items zs e [] scope env ss m = given_match items zs e
passed_match items zs e (x ∷ xs) scope env ss m =
    let v = value_of x env in
    let rest = passed zs (call_of scope xs) ss in
    let slot = inputs_in items + length xs in
    let same = ap₂ (λ k z. with_slot k z rest) (ap₂ (λ a b. a + b) e (call_length scope xs)) (sym (value_at x scope env ss m)) in
    let all = bound_too x slot v (parameters items xs) (copied xs env ++ inputs items zs) rest (below_parameters items xs)
    (passed_match items zs e xs scope env ss m) in
    subst (λ g. Matches (parameters items (x ∷ xs)) (copied (x ∷ xs) env ++ inputs items zs) g) (sym same) all

variable_low : (t : ℕ) (x : Name) (scope : Scope) (o : Option ℕ) → slot_of x scope ≡ o → Below t scope → Low t (variable_at o)
variable_low t x scope None e low = tt
variable_low t x scope (Some k) e low = is_below t k scope low (slot_in x scope k e)

pub known_low : (e : Expression) (t : ℕ) (scope : Scope) (o : Operand) → operand_of scope e ≡ Some o → Below t scope → Low t o
known_low (Whole z) t scope o is low = subst (Low t) (same_Some (operand.Whole z) o is) tt
known_low (Truth b) t scope o is low = subst (Low t) (same_Some (operand.Truth b) o is) tt
known_low (Variable x) t scope o is low = subst (Low t) (same_Some (variable_at (slot_of x scope)) o is) (variable_low t x scope (slot_of x scope) refl low)
known_low (Group e) t scope o is low = known_low e t scope o is low
known_low (Signed sign at e) t scope o is low = absurd (none-some o is)
known_low (Chain e links) t scope o is low = absurd (none-some o is)
known_low (Cell p e) t scope o is low = absurd (none-some o is)

-- an operand is below what is free from then on
pub operand_low : (e : Expression) (t : ℕ) (scope : Scope) → Below t scope → Low (t + 1) (where_is t (operand_of scope e))
operand_low e t scope low = by_case (operand_of scope e) refl
  where
    by_case : (o : Option Operand) → operand_of scope e ≡ o → Low (t + 1) (where_is t o)
    by_case None is = omega arith
    by_case (Some o) is = low_more t (t + 1) o (omega arith) (known_low e t scope o is low)
