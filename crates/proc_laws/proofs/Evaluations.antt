-- Expressions whose names are replaced give the same where the replaced names have the same values.
use Rattle.std.proofs.Common.{◌≡◌, ℕ, ◌+◌, ◌≤◌, Bool, true, false, List, refl, sym, ap, ◌∙◌}
use Rattle.std.proofs.Math.Path.{fun_ext}
use Rattle.std.specs.Prelude.{ℤ}
use Rattle.jade_base.specs.declared.place.Pos.{Pos}
use Rattle.jade_base.specs.declared.report.FaultKind.TheVariants.{Index, Object, Right as RightFault}
use Rattle.jade_base.specs.Rights.{may_read, may_write}
use Rattle.jade_syntax.specs.Abstract.{Name, Expression, Whole, Truth, Variable, Group, Signed, Chain, Cell, Links, Last, Link, Place, Alone, Member}
use Rattle.jade_syntax.specs.Numbering.{same_name}
use Rattle.jade_meaning.specs.declared.values.Value.{Value}
use Rattle.jade_meaning.specs.declared.values.Value.TheVariants.{IntOf, BoolOf}
use Rattle.jade_meaning.specs.declared.resolve.Range.{Range}
use Rattle.jade_meaning.specs.declared.resolve.ResolvedObject.{ResolvedObject}
use Rattle.jade_meaning.specs.Values.{Given, Gives, Fails, signed, operated, decides, whole, is_index, magnitude}
use Rattle.jade_meaning.specs.Specification.{rights_on}
use Rattle.jade_meaning.specs.Course.{Course, Reads, Writes, Environment, Setting, Mine, On, value_of}
use Rattle.jade_meaning.specs.Course.{choose, given, fault, place_of, member, reach, read_cell, write_cell, eval, eval_links, find, range_from}
use Rattle.proc_laws.specs.Expansion.{Each, names_in, link_names, place_names, renamed, renamed_links, renamed_place}
use Rattle.proc_expand.specs.Names.{is_among}
use Rattle.proc_laws.proofs.Basics.{by_case, each_left, each_right}

pub choose_same : (b : Bool) (f g f' g' : On) (m m' : Mine) → f m ≡ f' m' → g m ≡ g' m' → choose b f g m ≡ choose b f' g' m'
choose_same true f g f' g' m m' h k = h
choose_same false f g f' g' m m' h k = k

pub given_same : (g : Given) (at : Pos) (m m' : Mine) (k k' : Value → Course) → ((v : Value) → k v ≡ k' v) → given g at m k ≡ given g at m' k'
given_same (Gives v) at m m' k k' f = f v
given_same (Fails kind) at m m' k k' f = refl

pub member_same : (r : Range) (i : ℤ) (at : Pos) (m m' : Mine) (k k' : ResolvedObject → Course) → ((g : ResolvedObject) → k g ≡ k' g)
    → member r i at m k ≡ member r i at m' k'
member_same r i at m m' k k' f =
    choose_same (is_index i r.count) (λ n. k (record { number = r.first + magnitude i; size = r.size })) (fault Object at)
    (λ n. k' (record { number = r.first + magnitude i; size = r.size })) (fault Object at) m m' (f (record { number = r.first + magnitude i; size = r.size })) refl

pub reach_same : (o : ResolvedObject) (i : ℤ) (at : Pos) (m m' : Mine) (k k' : ℕ → Course) → ((c : ℕ) → k c ≡ k' c) → reach o i at m k ≡ reach o i at m' k'
reach_same o i at m m' k k' f =
    choose_same (is_index i o.size) (λ n. k (magnitude i)) (fault Index at) (λ n. k' (magnitude i)) (fault Index at) m m' (f (magnitude i)) refl

-- what a task has, with other variables
abbrev pub seeing : Mine → Environment → Mine
seeing m env = record m { env = env }

pub read_same : (o c : ℕ) (at : Pos) (m : Mine) (e e' : Environment) (k k' : Value → Course) → ((v : Value) → k v ≡ k' v)
    → read_cell o c at (seeing m e) k ≡ read_cell o c at (seeing m e') k'
read_same o c at m e e' k k' f =
    choose_same (may_read (rights_on m.spec o)) (λ n. Reads o c (λ z. k (IntOf z))) (fault RightFault at)
    (λ n. Reads o c (λ z. k' (IntOf z))) (fault RightFault at) (seeing m e) (seeing m e') (ap (Reads o c) (fun_ext (λ z. f (IntOf z)))) refl

pub write_same : (o c : ℕ) (z : ℤ) (at : Pos) (on on' : On) (m : Mine) (e e' : Environment) → on (seeing m e) ≡ on' (seeing m e')
    → write_cell o c z at on (seeing m e) ≡ write_cell o c z at on' (seeing m e')
write_same o c z at on on' m e e' f =
    choose_same (may_write (rights_on m.spec o)) (λ n. Writes o c z (on n)) (fault RightFault at)
    (λ n. Writes o c z (on' n)) (fault RightFault at) (seeing m e) (seeing m e') (ap (Writes o c z) f) refl

pub place_same : (to : Name → Name) (o : Place) → place_of o ≡ place_of (renamed_place to o)
place_same to (Alone x at) = refl
place_same to (Member x at e) = refl

-- how names are replaced: each of these names by another, an item's name by itself, no other by an item's, and none by a name
-- that is still to be given from number n on
pub record Renames (items : List Name) (fresh : ℕ → Name) (known : Name → Bool) (to : Name → Name) (n : ℕ) : Type 0 where
  pub keeps : (x y : Name) → known x ≡ true → known y ≡ true → same_name (to x) (to y) ≡ same_name x y
  pub item_known : (x : Name) → is_among items x ≡ true → known x ≡ true
  pub item : (x : Name) → is_among items x ≡ true → to x ≡ x
  pub other : (x : Name) → known x ≡ true → is_among items x ≡ false → is_among items (to x) ≡ false
  pub old : (x : Name) → known x ≡ true → (i : ℕ) → n ≤ i → same_name (fresh i) (to x) ≡ false

-- no object is of a name that is no item's
abbrev pub Elsewhere : Setting → List Name → Type 0
Elsewhere s items = (x y : Name) → is_among items x ≡ false → is_among items y ≡ false → range_from 0 x s.items ≡ range_from 0 y s.items

-- the replaced names have the same values
abbrev pub Sees : (Name → Bool) → (Name → Name) → Environment → Environment → Type 0
Sees known to e e' = (x : Name) → known x ≡ true → value_of x e ≡ value_of (to x) e'

module _ (s : Setting) (items : List Name) (fresh : ℕ → Name) (elsewhere : Elsewhere s items) (known : Name → Bool) (to : Name → Name) (n : ℕ)
    (r : Renames items fresh known to n) (e0 e1 : Environment) (m : Mine) (sees : Sees known to e0 e1) where
  range_same : (x : Name) → known x ≡ true → range_from 0 x s.items ≡ range_from 0 (to x) s.items
  range_same x h = by_case (is_among items x) (λ i. ap (λ y. range_from 0 y s.items) (sym (r.item x i))) (λ o. elsewhere x (to x) o (r.other x h o))

  mutual
    pub evals : (e : Expression) → Each known (names_in e) → (k k' : Value → Course) → ((v : Value) → k v ≡ k' v)
        → eval s e (seeing m e0) k ≡ eval s (renamed to e) (seeing m e1) k'
    evals (Whole z) h k k' f = f (IntOf z)
    evals (Truth b) h k k' f = f (BoolOf b)
    evals (Variable x) h k k' f = f (value_of x e0) ∙ ap k' (sees x h.0)
    evals (Group e) h k k' f = evals e h k k' f
    evals (Signed sign at e) h k k' f =
        evals e h (λ v. given (signed sign v) at (seeing m e0) k) (λ v. given (signed sign v) at (seeing m e1) k')
        (λ v. given_same (signed sign v) at (seeing m e0) (seeing m e1) k k' f)
    evals (Chain e links) h k k' f =
        evals e (each_left known (names_in e) (link_names links) h) (λ v. eval_links s links v (seeing m e0) k)
        (λ v. eval_links s (renamed_links to links) v (seeing m e1) k')
        (λ v. links_go links (each_right known (names_in e) (link_names links) h) v k k' f)
    evals (Cell o e) h k k' f =
        let p = place_of o in let p' = place_of (renamed_place to o) in
        finds o (each_left known (place_names o) (names_in e) h)
        (λ g. eval s e (seeing m e0) (λ i. reach g (whole i) p (seeing m e0) (λ c. read_cell g.number c p (seeing m e0) k)))
        (λ g. eval s (renamed to e) (seeing m e1) (λ i. reach g (whole i) p' (seeing m e1) (λ c. read_cell g.number c p' (seeing m e1) k')))
        (λ g. evals e (each_right known (place_names o) (names_in e) h)
        (λ i. reach g (whole i) p (seeing m e0) (λ c. read_cell g.number c p (seeing m e0) k))
        (λ i. reach g (whole i) p' (seeing m e1) (λ c. read_cell g.number c p' (seeing m e1) k'))
        (λ i. reach_same g (whole i) p (seeing m e0) (seeing m e1) (λ c. read_cell g.number c p (seeing m e0) k)
        (λ c. read_cell g.number c p (seeing m e1) k') (λ c. read_same g.number c p m e0 e1 k k' f)
        ∙ ap (λ q. reach g (whole i) q (seeing m e1) (λ c. read_cell g.number c q (seeing m e1) k')) (place_same to o)))

    pub links_go : (links : Links) → Each known (link_names links) → (v : Value) (k k' : Value → Course) → ((v : Value) → k v ≡ k' v)
        → eval_links s links v (seeing m e0) k ≡ eval_links s (renamed_links to links) v (seeing m e1) k'
    links_go Last h v k k' f = f v
    links_go (Link op at e links) h v k k' f =
        choose_same (decides op v) (λ n. k v) (λ n. eval s e n (λ w. given (operated op v w) at n (λ u. eval_links s links u n k)))
        (λ n. k' v) (λ n. eval s (renamed to e) n (λ w. given (operated op v w) at n (λ u. eval_links s (renamed_links to links) u n k')))
        (seeing m e0) (seeing m e1) (f v)
        (evals e (each_left known (names_in e) (link_names links) h)
        (λ w. given (operated op v w) at (seeing m e0) (λ u. eval_links s links u (seeing m e0) k))
        (λ w. given (operated op v w) at (seeing m e1) (λ u. eval_links s (renamed_links to links) u (seeing m e1) k'))
        (λ w. given_same (operated op v w) at (seeing m e0) (seeing m e1) (λ u. eval_links s links u (seeing m e0) k)
        (λ u. eval_links s (renamed_links to links) u (seeing m e1) k')
        (λ u. links_go links (each_right known (names_in e) (link_names links) h) u k k' f)))

    pub finds : (o : Place) → Each known (place_names o) → (k k' : ResolvedObject → Course) → ((g : ResolvedObject) → k g ≡ k' g)
        → find s o (seeing m e0) k ≡ find s (renamed_place to o) (seeing m e1) k'
    finds (Alone x at) h k k' f =
        f (record { number = (range_from 0 x s.items).first; size = (range_from 0 x s.items).size })
        ∙ ap (λ (q : Range). k' (record { number = q.first; size = q.size })) (range_same x h.0)
    finds (Member x at e) h k k' f =
        evals e h.1 (λ i. member (range_from 0 x s.items) (whole i) at (seeing m e0) k)
        (λ i. member (range_from 0 (to x) s.items) (whole i) at (seeing m e1) k')
        (λ i. member_same (range_from 0 x s.items) (whole i) at (seeing m e0) (seeing m e1) k k' f
        ∙ ap (λ q. member q (whole i) at (seeing m e1) k') (range_same x h.0))
