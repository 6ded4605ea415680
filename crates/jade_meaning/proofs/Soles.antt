-- A commuting body works on its own object alone, so turns on two objects may be taken in either order.
use Rattle.std.proofs.Common.{◌≡◌, ◌≢◌, ℕ, zero, suc, ◌≤◌, ◌<◌, ◌+◌, add-zero, Bool, true, false, not, ◌&&◌, ◌||◌, List, [], ◌∷◌, ◌++◌, map, length, refl, sym, ap, ◌∙◌, subst}
use Rattle.std.proofs.Common.{Some, None, arith, ◌⊎◌, inl, inr, get_or-set_same, get_or-set_other, set-set}
use Rattle.std.specs.Prelude.{ℤ, nat_eq, nat_lt, slice_set, if◌then◌else◌}
use Rattle.std.proofs.lemmas.List.{set-get_or, set_past, get_or_past, set_comm}
use Rattle.std.proofs.lemmas.Bool.Decides.{eqb_tells}
use Rattle.std.proofs.lemmas.Bool.{ltb-true, ltb-false, ne_eqb}
use Rattle.jade_base.specs.declared.rights.Right.{Right}
use Rattle.jade_base.specs.declared.rights.Right.TheVariants.{Deferred}
use Rattle.jade_base.specs.declared.rights.Rights.{Rights}
use Rattle.jade_base.specs.Rights.{no_rights, is_immediate, is_there, same_right, may_read, may_write}
use Rattle.jade_meaning.specs.Specification.{Specification, rights_on, numbers, objects, commuting_on, fits_commuting, all_fit}
use Rattle.jade_meaning.specs.Course.{Course}
use Rattle.jade_meaning.specs.Serial.{Mark, Path, Store, Deed, DidTurn, DidRead, DidWrite, DidCreate, DidEnd, serial, after, done_to, with_cell, at_object}
use Rattle.jade_meaning.specs.Turns.{Member, at_path, below, bared, turn, turns_taken}
use Rattle.jade_meaning.specs.Proper.{Proper, proper_read, proper_write, proper_step, proper_create, proper_change, proper_end}
use Rattle.jade_meaning.specs.Laws.{Every}
use Rattle.jade_meaning.proofs.Groups.{every_append}

-- what marks leave alone
abbrev pub Spares : ℕ → Deed → Type 0
Spares o (DidWrite x c v) = x ≢ o
Spares o (DidRead x c v) = Unit {0}
Spares o (DidTurn x) = x ≢ o
Spares o (DidCreate t n) = Unit {0}
Spares o (DidEnd b n) = Unit {0}

abbrev pub Leaves : ℕ → List Mark → Type 0
Leaves o ms = Every (λ m. Spares o m.deed) ms

pub after_set : (o : ℕ) (ys : List ℤ) (ms : List Mark) (s : Store) → Leaves o ms → after ms (slice_set s o ys) ≡ slice_set (after ms s) o ys
after_set o ys [] s h = refl
after_set o ys (m ∷ ms) s h = ap (after ms) (one m.deed h.0) ∙ after_set o ys ms (done_to m.deed s) h.1
  where
    one : (d : Deed) → Spares o d → done_to d (slice_set s o ys) ≡ slice_set (done_to d s) o ys
    one (DidWrite x c v) e =
        ap (λ (l : List ℤ). slice_set (slice_set s o ys) x (slice_set l c v)) (get_or-set_other s o x ys [] e) ∙ set_comm s o x ys (slice_set (at_object s x) c v) (λ i. e (sym i))
    one (DidRead x c v) e = refl
    one (DidTurn x) e = refl
    one (DidCreate t n) e = refl
    one (DidEnd b n) e = refl

pub after_at : (o : ℕ) (ms : List Mark) (s : Store) → Leaves o ms → at_object (after ms s) o ≡ at_object s o
after_at o [] s h = refl
after_at o (m ∷ ms) s h = after_at o ms (done_to m.deed s) h.1 ∙ one m.deed h.0
  where
    one : (d : Deed) → Spares o d → at_object (done_to d s) o ≡ at_object s o
    one (DidWrite x c v) e = get_or-set_other s x o _ [] (λ i. e (sym i))
    one (DidRead x c v) e = refl
    one (DidTurn x) e = refl
    one (DidCreate t n) e = refl
    one (DidEnd b n) e = refl

pub after_both : (a b : List Mark) (store : Store) → after (a ++ b) store ≡ after b (after a store)
after_both [] b store = refl
after_both (m ∷ a) b store = after_both a b (done_to m.deed store)

-- a member's turn works on its own object alone
abbrev pub Sole : Member → Type 0
Sole q = (s : Store) (o : ℕ) → q.object ≢ o → Leaves o (turn q s)

abbrev pub Elsewhere : ℕ → Member → Type 0
Elsewhere o q = (q.object ≢ o) × Sole q

pub turn_same : (o : ℕ) (ys : List ℤ) (q : Member) (s : Store) → q.object ≢ o → turn q (slice_set s o ys) ≡ turn q s
turn_same o ys q s e =
    ap (λ (l : List ℤ). at_path q.path 0 (DidTurn q.object) ∷ map (below q.path) (serial q.course 0 q.steps (slice_set q.kept q.object l))) (get_or-set_other s o q.object ys [] e)

pub taken_same : (o : ℕ) (ys : List ℤ) (qs : List Member) (s : Store) → Every (Elsewhere o) qs → turns_taken qs (slice_set s o ys) ≡ turns_taken qs s
taken_same o ys [] s h = refl
taken_same o ys (q ∷ qs) s h =
    let d = turn q s in
    ap (λ x. x ++ turns_taken qs (after x (slice_set s o ys))) (turn_same o ys q s h.0.0) ∙ ap (λ z. d ++ turns_taken qs z) (after_set o ys d s (h.0.1 s o h.0.0)) ∙ ap (λ x. d ++ x) (taken_same o ys qs (after d s) h.1)

pub taken_leaves : (o : ℕ) (qs : List Member) (s : Store) → Every (Elsewhere o) qs → Leaves o (turns_taken qs s)
taken_leaves o [] s h = tt
taken_leaves o (q ∷ qs) s h =
    every_append (λ (m : Mark). Spares o m.deed) (turn q s) (turns_taken qs (after (turn q s) s)) (h.0.1 s o h.0.0) (taken_leaves o qs (after (turn q s) s) h.1)

and_left : (a b : Bool) → a && b ≡ true → a ≡ true
and_left true b h = refl
and_left false b h = h

and_right : (a b : Bool) → a && b ≡ true → b ≡ true
and_right true b h = h
and_right false b h = absurd (cc)

imm_there : (r : Right) → is_immediate r ≡ true → is_there r ≡ true
imm_there r h = grind arith

-- who may write only what it commutes on
fits_write : (o x : ℕ) (a : Rights) → fits_commuting o x a ≡ true → may_write a ≡ true → x ≡ o
fits_write o x a h w = go (eqb_tells o x)
  where
    both : (p q r : Bool) → p && q && r ≡ true → (q ≡ true) × (r ≡ true)
    both true true true h = (refl, refl)
    both true true false h = absurd (cc)
    both true false r h = absurd (cc)
    both false q r h = absurd (cc)

    flip : (b : Bool) → not b ≡ true → b ≡ false
    flip true e = absurd (cc)
    flip false e = refl

    none : (c d : Right) → is_there c ≡ false → is_there d ≡ false → is_immediate c || is_immediate d ≡ false
    none c d e f = grind arith

    go : ((nat_eq o x ≡ true) × (o ≡ x)) ⊎ ((nat_eq o x ≡ false) × (o ≢ x)) → x ≡ o
    go (inl e) = sym e.1
    go (inr e) =
        let f : (if false then not (is_there a.reads) && not (is_there a.writes) && is_immediate a.commutes else (not (same_right a.reads Deferred) && not (is_there a.writes) && not (is_there a.commutes))) ≡ true = subst (λ b. (if b then not (is_there a.reads) && not (is_there a.writes) && is_immediate a.commutes else (not (same_right a.reads Deferred) && not (is_there a.writes) && not (is_there a.commutes))) ≡ true) e.0 h in
        let g = both (not (same_right a.reads Deferred)) (not (is_there a.writes)) (not (is_there a.commutes)) f in
        absurd (let z : false ≡ true = sym (none a.writes a.commutes (flip (is_there a.writes) g.0) (flip (is_there a.commutes) g.1)) ∙ w in cc)

pub fit_at : (o : ℕ) (spec : Specification) (n a i : ℕ) → all_fit o spec (numbers a n) ≡ true → i < n → fits_commuting o (a + i) (rights_on spec (a + i)) ≡ true
fit_at o spec zero a i h lt = absurd (omega arith)
fit_at o spec (suc n) a zero h lt = rw add-zero (and_left _ _ h)
fit_at o spec (suc n) a (suc i) h lt =
    let e : suc a + i ≡ a + suc i = omega arith in
    subst (λ x. fits_commuting o x (rights_on spec x) ≡ true) e (fit_at o spec n (suc a) i (and_right _ _ h) (omega arith))

pub own_write : (o : ℕ) (spec : Specification) → all_fit o spec (objects spec) ≡ true → (x : ℕ) → may_write (rights_on spec x) ≡ true → x ≡ o
own_write o spec h x w = go (nat_lt x (length spec)) refl
  where
    go : (b : Bool) → nat_lt x (length spec) ≡ b → x ≡ o
    go true e =
        let z : 0 + x ≡ x = omega arith in
        fits_write o x (rights_on spec x) (subst (λ i. fits_commuting o i (rights_on spec i) ≡ true) z (fit_at o spec (length spec) 0 x h (ltb-true x (length spec) e))) w
    go false e =
        absurd (let n : rights_on spec x ≡ no_rights = get_or_past spec x no_rights (ltb-false x (length spec) e) in let z : false ≡ true = sym (ap may_write n) ∙ w in cc)

-- the marks of a body that commutes leave other objects alone
flat_leaves : {spec : Specification} {c : Course} → Proper spec c → (o : ℕ) → commuting_on spec ≡ Some o → ((x : ℕ) → may_write (rights_on spec x) ≡ true → x ≡ o)
    → (p : Path) (k n : ℕ) (s : Store) → (x : ℕ) → o ≢ x → Leaves x (map (below p) (serial c k n s))
flat_leaves (proper_read i f) o e w p k n s x ne = (tt, flat_leaves (f _) o e w p k n s x ne)
flat_leaves (proper_write {o = y} {c = c} {v = v} i q) o e w p k n s x ne =
    ((λ j. ne (sym (w y i) ∙ j)), flat_leaves q o e w p k n (with_cell s y c v) x ne)
flat_leaves (proper_step q) o e w p k n s x ne = flat_leaves q o e w p k (suc n) s x ne
flat_leaves (proper_create none a b d f g) o e w p k n s x ne = absurd (let z : Some o ≡ None = sym e ∙ none in cc)
flat_leaves (proper_change none a b) o e w p k n s x ne = absurd (let z : Some o ≡ None = sym e ∙ none in cc)
flat_leaves proper_end o e w p k n s x ne = (tt, tt)

-- a member whose body keeps to its specification
pub proper_sole : {spec : Specification} (q : Member) → Proper spec q.course → commuting_on spec ≡ Some q.object → all_fit q.object spec (objects spec) ≡ true → Sole q
proper_sole {spec} q p e fit =
    λ s x ne. ((λ j. ne j), flat_leaves p q.object e (own_write q.object spec fit) q.path 0 q.steps _ x ne)

-- marks that work on one object alone set its content
abbrev pub cells_after : ℕ → List Mark → List ℤ → List ℤ
cells_after o [] xs = xs
cells_after o (m ∷ ms) xs = cells_after o ms (elim m.deed [ DidTurn x ↦ xs | DidRead x c v ↦ xs | DidWrite x c v ↦ slice_set xs c v | DidCreate t n ↦ xs | DidEnd b n ↦ xs ])

pub after_only : (o : ℕ) (ms : List Mark) (s : Store) → ((x : ℕ) → x ≢ o → Leaves x ms) → after ms s ≡ slice_set s o (cells_after o ms (at_object s o))
after_only o [] s h = sym (set-get_or s o [])
after_only o (m ∷ ms) s h = go m.deed (λ x ne. (h x ne).0) (λ r. after_only o ms r (λ x ne. (h x ne).1))
  where
    at_write : (c : ℕ) (v : ℤ) → at_object (with_cell s o c v) o ≡ slice_set (at_object s o) c v
    at_write c v = in_range (nat_lt o (length s)) refl
      where
        in_range : (b : Bool) → nat_lt o (length s) ≡ b → at_object (with_cell s o c v) o ≡ slice_set (at_object s o) c v
        in_range true e = get_or-set_same s o _ [] (ltb-true o (length s) e)
        in_range false e =
            let past : length s ≤ o = ltb-false o (length s) e in
            let none : at_object s o ≡ [] = get_or_past s o [] past in
            let same : with_cell s o c v ≡ s = set_past s o _ past in
            ap (λ s. at_object s o) same ∙ none ∙ sym (ap (λ xs. slice_set xs c v) none)

    go : (d : Deed) → ((x : ℕ) → x ≢ o → Spares x d) → ((r : Store) → after ms r ≡ slice_set r o (cells_after o ms (at_object r o))) → after (record m { deed = d } ∷ ms) s ≡ slice_set s o (cells_after o (record m { deed = d } ∷ ms) (at_object s o))
    go (DidWrite x c v) f k = at_deed (eqb_tells x o)
      where
        at_deed : ((nat_eq x o ≡ true) × (x ≡ o)) ⊎ ((nat_eq x o ≡ false) × (x ≢ o)) → after ms (with_cell s x c v) ≡ slice_set s o (cells_after o ms (slice_set (at_object s o) c v))
        at_deed (inl e) =
            subst (λ z. after ms (with_cell s z c v) ≡ slice_set s o (cells_after o ms (slice_set (at_object s o) c v))) (sym e.1) (k (with_cell s o c v) ∙ set-set s o _ _ ∙ ap (λ xs. slice_set s o (cells_after o ms xs)) (at_write c v))
        at_deed (inr e) = absurd (f x e.1 refl)
    go (DidTurn x) f k = k s
    go (DidRead x c v) f k = k s
    go (DidCreate t n) f k = k s
    go (DidEnd b n) f k = k s

pub bared_proper : {spec : Specification} {c : Course} → Proper spec c → (n : ℕ) → Proper spec (bared c n).course
bared_proper (proper_read i f) n = proper_read i f
bared_proper (proper_write i q) n = proper_write i q
bared_proper (proper_step q) n = bared_proper q (suc n)
bared_proper (proper_create a b c d f g) n = proper_create a b c d f g
bared_proper (proper_change a b c) n = proper_change a b c
bared_proper proper_end n = proper_end

-- what it may read beside its own object it may read at once
fits_read : (o x : ℕ) (a : Rights) → o ≢ x → fits_commuting o x a ≡ true → may_read a ≡ true → is_immediate a.reads ≡ true
fits_read o x a ne h w = pick (is_immediate a.reads) refl
  where
    last : (p q r : Bool) → p && q && r ≡ true → r ≡ true
    last true true true h = refl
    last true true false h = absurd (cc)
    last true false r h = absurd (cc)
    last false q r h = absurd (cc)

    none : (d : Right) → not (is_there d) ≡ true → is_immediate d ≡ false
    none d e = grind arith

    pick : (b : Bool) → is_immediate a.reads ≡ b → is_immediate a.reads ≡ true
    pick true e = e
    pick false e =
        let f : (if false then not (is_there a.reads) && not (is_there a.writes) && is_immediate a.commutes else (not (same_right a.reads Deferred) && not (is_there a.writes) && not (is_there a.commutes))) ≡ true = subst (λ b. (if b then not (is_there a.reads) && not (is_there a.writes) && is_immediate a.commutes else (not (same_right a.reads Deferred) && not (is_there a.writes) && not (is_there a.commutes))) ≡ true) (ne_eqb o x ne) h in
        let g = last (not (same_right a.reads Deferred)) (not (is_there a.writes)) (not (is_there a.commutes)) f in
        absurd (let z : false || false ≡ true = ap (λ b. b || false) (sym e) ∙ ap (λ b. is_immediate a.reads || b) (sym (none a.commutes g)) ∙ w in cc)

pub own_read : (o : ℕ) (spec : Specification) → all_fit o spec (objects spec) ≡ true → (x : ℕ) → o ≢ x → may_read (rights_on spec x) ≡ true
    → (is_immediate (rights_on spec x).reads ≡ true) × (x < length spec)
own_read o spec h x ne w = go (nat_lt x (length spec)) refl
  where
    go : (b : Bool) → nat_lt x (length spec) ≡ b → (is_immediate (rights_on spec x).reads ≡ true) × (x < length spec)
    go true e =
        let z : 0 + x ≡ x = omega arith in
        let lt = ltb-true x (length spec) e in
        (fits_read o x (rights_on spec x) ne (subst (λ i. fits_commuting o i (rights_on spec i) ≡ true) z (fit_at o spec (length spec) 0 x h lt)) w, lt)
    go false e =
        absurd (let n : rights_on spec x ≡ no_rights = get_or_past spec x no_rights (ltb-false x (length spec) e) in let z : false ≡ true = sym (ap may_read n) ∙ w in cc)

-- a write at its object, whatever the length of the store
pub at_write : (s : Store) (o c : ℕ) (v : ℤ) → at_object (with_cell s o c v) o ≡ slice_set (at_object s o) c v
at_write s o c v = in_range (nat_lt o (length s)) refl
  where
    in_range : (b : Bool) → nat_lt o (length s) ≡ b → at_object (with_cell s o c v) o ≡ slice_set (at_object s o) c v
    in_range true e = get_or-set_same s o _ [] (ltb-true o (length s) e)
    in_range false e =
        let past : length s ≤ o = ltb-false o (length s) e in
        let none : at_object s o ≡ [] = get_or_past s o [] past in
        let same : with_cell s o c v ≡ s = set_past s o _ past in
        ap (λ s. at_object s o) same ∙ none ∙ sym (ap (λ xs. slice_set xs c v) none)
