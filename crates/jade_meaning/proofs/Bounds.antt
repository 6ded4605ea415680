-- Each task keeps to its specification: one induction over the statements.
use Rattle.std.proofs.Common.{◌≡◌, ◌≢◌, ℕ, zero, suc, ◌<◌, Bool, true, false, List, [], ◌∷◌, refl, sym, ap, ◌∙◌, subst, Option, Some, None, arith, length}
use Rattle.std.proofs.Common.{get_or-set_same, get_or-set_other}
use Rattle.std.proofs.Common.{◌⊎◌, inl, inr, ◌≤◌}
use Rattle.std.proofs.lemmas.Bool.{ltb-true, ltb-false}
use Rattle.std.proofs.lemmas.Bool.Decides.{eqb_tells}
use Rattle.std.proofs.lemmas.List.{set_past}
use Rattle.std.specs.Prelude.{ℤ, pos, ◌+ℤ◌, nat_lt, nat_eq, slice_set}
use Rattle.jade_base.specs.declared.place.Pos.{Pos}
use Rattle.jade_base.specs.declared.report.FaultKind.TheVariants.{Commute as Commuted}
use Rattle.jade_base.specs.declared.rights.Right.{Right}
use Rattle.jade_base.specs.declared.rights.Rights.{Rights}
use Rattle.jade_base.specs.Rights.{no_rights, is_there, may_read, may_write}
use Rattle.jade_syntax.specs.declared.tree.DeclareWord.{DeclareWord}
use Rattle.jade_syntax.specs.declared.tree.DeclareWord.TheVariants.{Rd, Wr, RdWr, DfRd, DfWr, DfRdWr, Cm, NoRd, NoWr, NoRdWr}
use Rattle.jade_syntax.specs.Abstract.{Name, Expression, Whole, Truth, Variable, Group, Signed, Chain, Cell, Links, Last, Link, Place, Alone, Member}
use Rattle.jade_syntax.specs.Abstract.{Action, Local, Assign, Store, If, IfElse, For, Withonly, With, Declare, Actions, Done, Then, AbstractProgram}
use Rattle.jade_meaning.specs.declared.values.Value.{Value}
use Rattle.jade_meaning.specs.declared.values.Value.TheVariants.{IntOf}
use Rattle.jade_meaning.specs.declared.resolve.Range.{Range}
use Rattle.jade_meaning.specs.declared.resolve.ResolvedObject.{ResolvedObject}
use Rattle.jade_meaning.specs.Values.{Given, Gives, Fails, operated, decides, signed, whole, holds, is_index, magnitude, turn_count}
use Rattle.jade_meaning.specs.Specification.{Specification, rights_on, objects, covers, fitted, is_commuting, commuting_on, may_commute}
use Rattle.jade_meaning.specs.Changes.{amended}
use Rattle.jade_meaning.specs.Course.{Course, root_spec, root_course, Mine, On, Draft, NoDraft, Building, Amending, drafted, Setting, finish, choose, step}
use Rattle.jade_meaning.specs.Course.{given, place_of, member, reach, read_cell, write_cell, bind, leave, scoped, turns, amend, declare, create_covered, create, section_begins, fault, working}
use Rattle.jade_meaning.specs.Course.{change, child_start, eval, eval_links, find, run, run_all, range_from, assigned, inputs, none_of}
use Rattle.jade_meaning.specs.Proper.{NoMore, Proper, proper_read, proper_write, proper_step, proper_create, proper_change, proper_end}
use Rattle.jade_meaning.proofs.Uncommuted.{less_false, none_commutes, none_from, not_commuting}

-- one right of some rights
data Side : Type 0 where
  Read Write Commute : Side

abbrev right : Side → Rights → Right
right Read a = a.reads
right Write a = a.writes
right Commute a = a.commutes

-- no right that was not there
record Fewer (new old : Specification) : Type 0 where
  none : (side : Side) (o : ℕ) → is_there (right side (rights_on new o)) ≡ true → is_there (right side (rights_on old o)) ≡ true

-- where it is asked: no right to commute
abbrev Calm : Bool → Specification → Type 0
Calm true spec = commuting_on spec ≡ None
Calm false spec = Unit {0}

calm_if : (b : Bool) (spec : Specification) → commuting_on spec ≡ None → Calm b spec
calm_if true spec h = h
calm_if false spec h = tt

abbrev FitsDraft : Draft → Specification → Type 0
FitsDraft NoDraft spec = Unit {0}
FitsDraft (Building d) spec = Unit {0}
FitsDraft (Amending d) spec = Fewer d spec

abbrev Fit : Mine → Type 0
Fit m = FitsDraft m.draft m.spec

-- what goes on well from every fit state
abbrev Good : Bool → On → Type 0
Good q on = (n : Mine) → Fit n → Calm q n.spec → Proper n.spec (on n)

weak : (q : Bool) (on : On) → Good q on → Good true on
weak q on h n fit k = h n fit (calm_if q n.spec k)

choose_good : (b : Bool) (f g : On) (m : Mine) → (b ≡ true → Proper m.spec (f m)) → Proper m.spec (g m) → Proper m.spec (choose b f g m)
choose_good true f g m h k = h refl
choose_good false f g m h k = k

given_good : (v : Given) (at : Pos) (m : Mine) (on : Value → Course) → ((w : Value) → Proper m.spec (on w)) → Proper m.spec (given v at m on)
given_good (Gives v) at m on h = h v
given_good (Fails kind) at m on h = proper_end

step_good : (q : Bool) (limit : ℕ) (on : On) → Good q on → Good q (step limit on)
step_good q limit on h m fit k = choose_good (nat_lt m.taken limit) _ _ m (λ e. proper_step (h (record m { taken = suc m.taken }) fit k)) proper_end

scoped_good : (q : Bool) (body : On → On) → ((on : On) → Good q on → Good q (body on)) → (on : On) (m : Mine) → Good q on → Fit m → Calm q m.spec
    → Proper m.spec (scoped body on m)
scoped_good q body b on m h fit k = b (λ n. on (leave m n)) (λ n f i. h (leave m n) f i) m fit k

turns_good : (q : Bool) (limit n : ℕ) (i : ℤ) (x : Name) (body : On → On) → ((on : On) → Good q on → Good q (body on)) → (on : On) → Good q on
    → Good q (turns limit n i x body on)
turns_good q limit zero i x body b on h m fit k = h m fit k
turns_good q limit (suc n) i x body b on h m fit k =
    let turn : On → On = λ k a. body k (bind x (IntOf i) a) in
    step_good q limit (λ a. scoped turn (turns limit n (i +ℤ pos 1) x body on) a) (λ a f j. scoped_good q turn (λ k g c d e. b k g (bind x (IntOf i) c) d e)
    (turns limit n (i +ℤ pos 1) x body on) a (turns_good q limit n (i +ℤ pos 1) x body b on h) f j) m fit k

no_more_refl : (spec : Specification) → Fewer spec spec
no_more_refl spec = record { none = λ side o h. h }

read_good : (o c : ℕ) (at : Pos) (m : Mine) (on : Value → Course) → ((v : Value) → Proper m.spec (on v)) → Proper m.spec (read_cell o c at m on)
read_good o c at m on h =
    choose_good (may_read (rights_on m.spec o)) _ _ m (λ e. proper_read e (λ z. h (IntOf z))) proper_end

write_good : (o c : ℕ) (z : ℤ) (at : Pos) (on : On) (m : Mine) → Proper m.spec (on m) → Proper m.spec (write_cell o c z at on m)
write_good o c z at on m h =
    choose_good (may_write (rights_on m.spec o)) _ _ m (λ e. proper_write e h) proper_end

reach_good : (f : ResolvedObject) (i : ℤ) (at : Pos) (m : Mine) (on : ℕ → Course) → ((c : ℕ) → Proper m.spec (on c)) → Proper m.spec (reach f i at m on)
reach_good f i at m on h = choose_good (is_index i f.size) _ _ m (λ e. h (magnitude i)) proper_end

member_good : (p : Range) (i : ℤ) (at : Pos) (m : Mine) (on : ResolvedObject → Course) → ((f : ResolvedObject) → Proper m.spec (on f))
    → Proper m.spec (member p i at m on)
member_good p i at m on h = choose_good (is_index i p.count) _ _ m (λ e. h _) proper_end

-- a change of one object takes no right from nothing
set_either : (l : Specification) (o : ℕ) (a : Rights) (x : ℕ) → ((x ≡ o) × (rights_on (slice_set l o a) x ≡ a)) ⊎
    (rights_on (slice_set l o a) x ≡ rights_on l x)
set_either l o a x = go (eqb_tells x o)
  where
    inside : x ≡ o → (t : Bool) → nat_lt x (length l) ≡ t → ((x ≡ o) × (rights_on (slice_set l o a) x ≡ a)) ⊎ (rights_on (slice_set l o a) x ≡ rights_on l x)
    inside e true q = let lt : x < length l = ltb-true x (length l) q in
        inl (e, subst (λ y. rights_on (slice_set l y a) x ≡ a) e (get_or-set_same l x a no_rights lt))
    inside e false q = let past : length l ≤ o = subst (λ y. length l ≤ y) e (ltb-false x (length l) q) in inr (ap (λ k. rights_on k x) (set_past l o a past))

    go : ((nat_eq x o ≡ true) × (x ≡ o)) ⊎ ((nat_eq x o ≡ false) × (x ≢ o)) → ((x ≡ o) × (rights_on (slice_set l o a) x ≡ a)) ⊎
        (rights_on (slice_set l o a) x ≡ rights_on l x)
    go (inl h) = inside h.1 (nat_lt x (length l)) refl
    go (inr h) = inr (get_or-set_other l o x a no_rights h.1)

-- a change of one object takes no right from nothing
once : (old new : Specification) (o : ℕ) (a : Rights) → Fewer new old → ((side : Side) → is_there (right side a) ≡ true
    → is_there (right side (rights_on old o)) ≡ true) → Fewer (slice_set new o a) old
once old new o a h r = record { none = λ side x e. at side x e (set_either new o a x) }
  where
    at : (side : Side) (x : ℕ) → is_there (right side (rights_on (slice_set new o a) x)) ≡ true → ((x ≡ o) × (rights_on (slice_set new o a) x ≡ a)) ⊎
        (rights_on (slice_set new o a) x ≡ rights_on new x) → is_there (right side (rights_on old x)) ≡ true
    at side x e (inl q) = subst (λ y. is_there (right side (rights_on old y)) ≡ true) (sym q.0) (r side (ap (λ b. is_there (right side b)) (sym q.1) ∙ e))
    at side x e (inr q) = h.none side x (ap (λ b. is_there (right side b)) (sym q) ∙ e)

amended_less : (how : DeclareWord) (a b : Rights) (side : Side) → amended how a ≡ Some b → is_there (right side b) ≡ true → is_there (right side a) ≡ true
amended_less Rd a b Read e h = grind arith
amended_less Rd a b Write e h = grind arith
amended_less Rd a b Commute e h = grind arith
amended_less Wr a b Read e h = grind arith
amended_less Wr a b Write e h = grind arith
amended_less Wr a b Commute e h = grind arith
amended_less RdWr a b Read e h = grind arith
amended_less RdWr a b Write e h = grind arith
amended_less RdWr a b Commute e h = grind arith
amended_less DfRd a b Read e h = grind arith
amended_less DfRd a b Write e h = grind arith
amended_less DfRd a b Commute e h = grind arith
amended_less DfWr a b Read e h = grind arith
amended_less DfWr a b Write e h = grind arith
amended_less DfWr a b Commute e h = grind arith
amended_less DfRdWr a b Read e h = grind arith
amended_less DfRdWr a b Write e h = grind arith
amended_less DfRdWr a b Commute e h = grind arith
amended_less Cm a b Read e h = grind arith
amended_less Cm a b Write e h = grind arith
amended_less Cm a b Commute e h = grind arith
amended_less NoRd a b Read e h = grind arith
amended_less NoRd a b Write e h = grind arith
amended_less NoRd a b Commute e h = grind arith
amended_less NoWr a b Read e h = grind arith
amended_less NoWr a b Write e h = grind arith
amended_less NoWr a b Commute e h = grind arith
amended_less NoRdWr a b Read e h = grind arith
amended_less NoRdWr a b Write e h = grind arith
amended_less NoRdWr a b Commute e h = grind arith

-- a fitted specification has the rights, or none
fitted_on : (base spec : Specification) (o : ℕ) → (rights_on (fitted base spec) o ≡ rights_on spec o) ⊎ (rights_on (fitted base spec) o ≡ no_rights)
fitted_on [] spec o = inr refl
fitted_on (a ∷ base) [] zero = inr refl
fitted_on (a ∷ base) [] (suc o) = fitted_on base [] o
fitted_on (a ∷ base) (b ∷ spec) zero = inl refl
fitted_on (a ∷ base) (b ∷ spec) (suc o) = fitted_on base spec o

amend_good : (r : Option Rights) (spec : Specification) (o : ℕ) (at : Pos) (on : On) (m : Mine)
    → ((b : Rights) → r ≡ Some b → Fewer (slice_set spec o b) m.spec) → (q : Bool) → Good q on → Fit m → Calm q m.spec → Proper m.spec (amend r spec o at on m)
amend_good None spec o at on m h q g fit k = proper_end
amend_good (Some b) spec o at on m h q g fit k = g (record m { draft = Amending (slice_set spec o b) }) (h b refl) k

declare_good : (d : Draft) (how : DeclareWord) (o : ℕ) (at : Pos) (on : On) (m : Mine) → m.draft ≡ d → (q : Bool) → Good q on → Fit m → Calm q m.spec
    → Proper m.spec (declare d how o at on m)
declare_good NoDraft how o at on m e q g fit k = g m fit k
declare_good (Building spec) how o at on m e q g fit k = g _ tt k
declare_good (Amending spec) how o at on m e q g fit k =
    let less : Fewer spec m.spec = subst (λ d. FitsDraft d m.spec) e fit in
    amend_good (amended how (rights_on spec o)) spec o at on m
    (λ b i. once m.spec spec o b less (λ side w. less.none side o (amended_less how (rights_on spec o) b side i w))) q g fit k

working_less : (d : Draft) (spec : Specification) → FitsDraft d spec → Fewer (working d spec) spec
working_less NoDraft spec f = no_more_refl spec
working_less (Building d) spec f = no_more_refl spec
working_less (Amending d) spec f = f

fitted_sized : (base spec : Specification) → length (fitted base spec) ≡ length base
fitted_sized [] spec = refl
fitted_sized (a ∷ base) [] = ap suc (fitted_sized base [])
fitted_sized (a ∷ base) (b ∷ spec) = ap suc (fitted_sized base spec)

fitted_less : (base spec old : Specification) → Fewer spec old → length base ≡ length old → NoMore (fitted base spec) old
fitted_less base spec old f e = record {
  sized = fitted_sized base spec ∙ e;
  reads = λ o. at Read o (fitted_on base spec o);
  writes = λ o. at Write o (fitted_on base spec o);
  commutes = λ o. at Commute o (fitted_on base spec o);
}
  where
    none : (side : Side) (o : ℕ) → is_there (right side no_rights) ≡ true → is_there (right side (rights_on old o)) ≡ true
    none Read o h = absurd (cc)
    none Write o h = absurd (cc)
    none Commute o h = absurd (cc)

    at : (side : Side) (o : ℕ) → (rights_on (fitted base spec) o ≡ rights_on spec o) ⊎ (rights_on (fitted base spec) o ≡ no_rights)
        → is_there (right side (rights_on (fitted base spec) o)) ≡ true → is_there (right side (rights_on old o)) ≡ true
    at side o (inl q) h = f.none side o (ap (λ a. is_there (right side a)) (sym q) ∙ h)
    at side o (inr q) h = none side o (ap (λ a. is_there (right side a)) (sym q) ∙ h)

change_good : (on : On) → Good true on → Good true (change on)
change_good on h m fit k =
    let new = fitted m.spec (working m.draft m.spec) in
    let less = fitted_less m.spec (working m.draft m.spec) m.spec (working_less m.draft m.spec fit) refl in
    proper_change k less (h (record m { spec = new; draft = NoDraft }) tt
    (none_from new (objects new) (λ o. less_false _ _ (less.commutes o) (none_commutes m.spec k o))))

create_good : (s : Setting) (at : Pos) (names : List Name) (body on : On) → Good false body → Good true on → Good true (create s at names body on)
create_good s at names body on b h m fit k =
    let child = fitted m.spec (drafted m.draft) in
    choose_good (may_commute child) (create_covered s at names child body on) _ m (λ may. choose_good (covers m.spec child) _ _ m
    (λ e. proper_create k may e (fitted_sized m.spec (drafted m.draft)) (b _ tt tt) (h (record m { draft = NoDraft }) tt k)) proper_end) proper_end

section_good : (at : Pos) (d : Draft) (on : On) (m : Mine) → FitsDraft d m.spec → Good true on → Proper m.spec (section_begins at d on m)
section_good at d on m f h = go (is_commuting m.spec) refl
  where
    go : (b : Bool) → is_commuting m.spec ≡ b → Proper m.spec (choose b (fault Commuted at) (λ n. on (record n { draft = d })) m)
    go true e = proper_end
    go false e = h (record m { draft = d }) f (not_commuting m.spec e)

module _ (s : Setting) where
  mutual
    eval_good : (e : Expression) (m : Mine) (on : Value → Course) → ((v : Value) → Proper m.spec (on v)) → Proper m.spec (eval s e m on)
    eval_good (Whole z) m on h = h _
    eval_good (Truth b) m on h = h _
    eval_good (Variable x) m on h = h _
    eval_good (Group e) m on h = eval_good e m on h
    eval_good (Signed sign at e) m on h = eval_good e m _ (λ v. given_good (signed sign v) at m on h)
    eval_good (Chain e links) m on h = eval_good e m _ (λ v. links_good links v m on h)
    eval_good (Cell o e) m on h =
        find_good o m _ (λ f. eval_good e m _ (λ i. reach_good f (whole i) (place_of o) m _ (λ c. read_good f.number c (place_of o) m on h)))

    links_good : (l : Links) (v : Value) (m : Mine) (on : Value → Course) → ((v : Value) → Proper m.spec (on v)) → Proper m.spec (eval_links s l v m on)
    links_good Last v m on h = h v
    links_good (Link op at e links) v m on h =
        choose_good (decides op v) _ _ m (λ q. h v) (eval_good e m _ (λ w. given_good (operated op v w) at m _ (λ u. links_good links u m on h)))

    find_good : (o : Place) (m : Mine) (on : ResolvedObject → Course) → ((f : ResolvedObject) → Proper m.spec (on f)) → Proper m.spec (find s o m on)
    find_good (Alone x at) m on h = h _
    find_good (Member x at e) m on h = eval_good e m _ (λ i. member_good (range_from 0 x s.items) (whole i) at m on h)

  mutual
    run_good : (st : Action) (q : Bool) (on : On) → Good q on → Good q (run s st on)
    run_good (Local kind x e) q on h m fit k = eval_good e m _ (λ v. h (bind x v m) fit k)
    run_good (Assign x e) q on h m fit k = eval_good e m _ (λ v. h (record m { env = assigned x v m.env }) fit k)
    run_good (Store o e v) q on h m fit k =
        find_good o m _
        (λ f. eval_good e m _ (λ i. reach_good f (whole i) (place_of o) m _
        (λ c. eval_good v m _ (λ z. write_good f.number c (whole z) (place_of o) on m (h m fit k)))))
    run_good (If e b) q on h m fit k =
        eval_good e m _ (λ v. choose_good (holds v) _ _ m (λ i. scoped_good q (run_all s b) (all_good b q) on m h fit k) (h m fit k))
    run_good (IfElse e b c) q on h m fit k =
        eval_good e m _ (λ v. choose_good (holds v) _ _ m (λ i. scoped_good q (run_all s b) (all_good b q) on m h fit k)
        (scoped_good q (run_all s c) (all_good c q) on m h fit k))
    run_good (For x low high body) q on h m fit k =
        eval_good low m _ (λ l. eval_good high m _ (λ u. turns_good q s.limit (turn_count (whole l) (whole u)) (whole l) x (run_all s body)
        (all_good body q) on h m fit k))
    run_good (Withonly at section names body) q on h m fit k =
        section_good at (Building (none_of s.items)) (scoped (run_all s section) (create s at names (run_all s body finish) on)) m tt
        (λ n f i. scoped_good true (run_all s section) (all_good section true) (create s at names (run_all s body finish) on) n
        (create_good s at names (run_all s body finish) on (all_good body false finish (λ n f i. proper_end)) (weak q on h)) f i)
    run_good (With at section) q on h m fit k =
        section_good at (Amending m.spec) (scoped (run_all s section) (change on)) m (no_more_refl m.spec)
        (λ n f i. scoped_good true (run_all s section) (all_good section true) (change on) n (change_good on (weak q on h)) f i)
    run_good (Declare how at o) q on h m fit k =
        find_good o m _ (λ f. declare_good m.draft how f.number at on m refl q h fit k)

    all_good : (b : Actions) (q : Bool) (on : On) → Good q on → Good q (run_all s b on)
    all_good Done q on h m fit k = h m fit k
    all_good (Then st b) q on h m fit k = step_good q s.limit (run s st (run_all s b on)) (run_good st q (run_all s b on) (all_good b q on h)) m fit k

pub keeps : (p : AbstractProgram) (ns : List ℤ) (limit : ℕ) → Proper (root_spec p) (root_course p ns limit)
keeps p ns limit =
    let given = inputs p.items ns in
    all_good (record { items = p.items; given = given; limit = limit }) p.main false finish (λ n f k. proper_end) (child_start given (root_spec p)) tt tt
