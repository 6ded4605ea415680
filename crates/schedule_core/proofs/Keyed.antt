-- Parts in the order of their keys, and notes that are filed one by one.
use Rattle.std.proofs.Common.{◌≡◌, ℕ, ◌<◌, Bool, true, false, not, List, [], ◌∷◌, map, refl, sym, ap, ◌∙◌, subst, Some, None, arith, ◌⊎◌, inl, inr}
use Rattle.std.specs.Prelude.{nat_eq, nat_lt, if◌then◌else◌}
use Rattle.std.specs.List.{cons_option}
use Rattle.std.specs.declared.cmp.Ordering.TheVariants.{Less, Equal, Greater}
use Rattle.std.specs.Ordering.{nat_cmp, ordering_then, is_lt}
use Rattle.std.proofs.lemmas.Bool.{cases_order, eq-eqb, ne_eqb}
use Rattle.std.proofs.lemmas.Bool.Decides.{nat_tests}
use Rattle.jade_base.specs.Places.{is_before, path_order}
use Rattle.jade_meaning.specs.Serial.{Path, Mark, Deed, DidTurn, DidRead, DidWrite, DidCreate, DidEnd, Part, parts, marks_at, same_path}
use Rattle.jade_meaning.specs.Answer.{filed as filed_part, by_key, parts_by_key}
use Rattle.schedule_core.specs.Notes.{note_of, notes_of, note_key, filed}
use Rattle.task_roll.specs.Rolls.{filed_into}
use Rattle.task_roll.specs.declared.note.PartNote.{PartNote}
use Rattle.schedule_core.specs.Sorted.{key_le, key, insert, in_order}
use Rattle.schedule_core.proofs.Orders.{same_order}
use Rattle.schedule_core.proofs.Ascending.{trans, through}

-- two ways to compare keys
pub le_is : (p q : Path) → key_le p q ≡ not (is_before q p)
le_is [] [] = refl
le_is [] (j ∷ q) = refl
le_is (i ∷ p) [] = refl
le_is (i ∷ p) (j ∷ q) = go (cases_order i j) (le_is p q)
  where
    go : (i ≡ j) ⊎ ((i < j) ⊎ (j < i)) → key_le p q ≡ not (is_before q p)
        → (if nat_eq i j then key_le p q else nat_lt i j) ≡ not (is_lt (ordering_then (nat_cmp j i) (path_order q p)))
    go (inl e) h =
        let a : nat_cmp j i ≡ Equal = subst (λ z. nat_cmp z i ≡ Equal) e (grind (arith, nat_tests)) in
        ap (λ b. if b then key_le p q else nat_lt i j) (eq-eqb i j e) ∙ h ∙ sym (ap (λ z. not (is_lt (ordering_then z (path_order q p)))) a)
    go (inr (inl lt)) h =
        let a : nat_cmp j i ≡ Greater = grind (arith, nat_tests) in
        let b : nat_lt i j ≡ true = grind (arith, nat_tests) in
        ap (λ z. if z then key_le p q else nat_lt i j) (ne_eqb i j (λ e. absurd (let k : i ≡ j = e in omega arith))) ∙ b
        ∙ sym (ap (λ z. not (is_lt (ordering_then z (path_order q p)))) a)
    go (inr (inr lt)) h =
        let a : nat_cmp j i ≡ Less = grind (arith, nat_tests) in
        let b : nat_lt i j ≡ false = grind (arith, nat_tests) in
        ap (λ z. if z then key_le p q else nat_lt i j) (ne_eqb i j (λ e. absurd (let k : i ≡ j = e in omega arith))) ∙ b
        ∙ sym (ap (λ z. not (is_lt (ordering_then z (path_order q p)))) a)

-- a part as a mark
abbrev mark_of : Part → Mark
mark_of p = record { path = p.path; children = p.children; deed = DidEnd p.blame p.steps }

part_of : (ps : List Part) → parts (map mark_of ps) ≡ ps
part_of [] = refl
part_of (p ∷ ps) = ap (λ z. p ∷ z) (part_of ps)

inserted : (p : Part) (qs : List Part) → insert (mark_of p) (map mark_of qs) ≡ map mark_of (filed_part p qs)
inserted p [] = refl
inserted p (q ∷ qs) = go (is_before (key (mark_of q)) (key (mark_of p))) refl (inserted p qs)
  where
    go : (b : Bool) → is_before (key (mark_of q)) (key (mark_of p)) ≡ b → insert (mark_of p) (map mark_of qs) ≡ map mark_of (filed_part p qs)
        → (if key_le (key (mark_of p)) (key (mark_of q)) then mark_of p ∷ (mark_of q ∷ map mark_of qs) else mark_of q ∷ insert (mark_of p) (map mark_of qs))
        ≡ map mark_of (if is_before (key (mark_of q)) (key (mark_of p)) then q ∷ filed_part p qs else p ∷ (q ∷ qs))
    go true e h =
        ap (λ b. if b then mark_of p ∷ (mark_of q ∷ map mark_of qs) else mark_of q ∷ insert (mark_of p) (map mark_of qs)) (le_is (key (mark_of p)) (key (mark_of q)) ∙ ap not e)
        ∙ ap (λ z. mark_of q ∷ z) h ∙ sym (ap (λ b. map mark_of (if b then q ∷ filed_part p qs else p ∷ (q ∷ qs))) e)
    go false e h =
        ap (λ b. if b then mark_of p ∷ (mark_of q ∷ map mark_of qs) else mark_of q ∷ insert (mark_of p) (map mark_of qs)) (le_is (key (mark_of p)) (key (mark_of q)) ∙ ap not e)
        ∙ sym (ap (λ b. map mark_of (if b then q ∷ filed_part p qs else p ∷ (q ∷ qs))) e)

ordered : (ps : List Part) → in_order (map mark_of ps) ≡ map mark_of (by_key ps)
ordered [] = refl
ordered (p ∷ ps) = ap (insert (mark_of p)) (ordered ps) ∙ inserted p (by_key ps)

marks_there : (q : Path) (ms : List Mark) → marks_at q (map mark_of (parts ms)) ≡ map mark_of (parts (marks_at q ms))
marks_there q [] = refl
marks_there q (m ∷ ms) = go m.path m.children m.deed (marks_there q ms)
  where
    go : (p : Path) (k : ℕ) (d : Deed) → marks_at q (map mark_of (parts ms)) ≡ map mark_of (parts (marks_at q ms))
        → let x : Mark = record { path = p; children = k; deed = d } in
        marks_at q (map mark_of (parts (x ∷ ms))) ≡ map mark_of (parts (marks_at q (x ∷ ms)))
    go p k (DidTurn o) h = by (same_path p q)
      where
        by : (b : Bool) → marks_at q (map mark_of (parts ms)) ≡ map mark_of (parts (cons_option (if b then Some (record { path = p; children = k; deed = DidTurn o }) else None) (marks_at q ms)))
        by true = h
        by false = h
    go p k (DidRead o c v) h = by (same_path p q)
      where
        by : (b : Bool) → marks_at q (map mark_of (parts ms)) ≡ map mark_of (parts (cons_option (if b then Some (record { path = p; children = k; deed = DidRead o c v }) else None) (marks_at q ms)))
        by true = h
        by false = h
    go p k (DidWrite o c v) h = by (same_path p q)
      where
        by : (b : Bool) → marks_at q (map mark_of (parts ms)) ≡ map mark_of (parts (cons_option (if b then Some (record { path = p; children = k; deed = DidWrite o c v }) else None) (marks_at q ms)))
        by true = h
        by false = h
    go p k (DidCreate t n) h = by (same_path p q)
      where
        x : Mark
        x = record { path = p; children = k; deed = DidCreate t n }

        y : Mark
        y = record { path = p; children = k; deed = DidEnd None n }

        by : (b : Bool) → cons_option (if b then Some y else None) (marks_at q (map mark_of (parts ms))) ≡ map mark_of (parts (cons_option (if b then Some x else None) (marks_at q ms)))
        by true = ap (λ z. y ∷ z) h
        by false = h
    go p k (DidEnd b n) h = by (same_path p q)
      where
        x : Mark
        x = record { path = p; children = k; deed = DidEnd b n }

        by : (b : Bool) → cons_option (if b then Some x else None) (marks_at q (map mark_of (parts ms))) ≡ map mark_of (parts (cons_option (if b then Some x else None) (marks_at q ms)))
        by true = ap (λ z. x ∷ z) h
        by false = h

-- marks that are the same at each path have the same parts by key
pub same_parts : (xs ys : List Mark) → ((q : Path) → marks_at q xs ≡ marks_at q ys) → parts_by_key xs ≡ parts_by_key ys
same_parts xs ys h =
    let all = same_order (map mark_of (parts xs)) (map mark_of (parts ys)) (λ q. marks_there q xs ∙ ap (λ ms. map mark_of (parts ms)) (h q) ∙ sym (marks_there q ys)) in
    sym (part_of (by_key (parts xs))) ∙ ap parts (sym (ordered (parts xs)) ∙ all ∙ ordered (parts ys)) ∙ part_of (by_key (parts ys))

-- a note before the first that is no less
abbrev put_in : PartNote → List PartNote → List PartNote
put_in n [] = n ∷ []
put_in n (m ∷ ms) = if is_before (note_key m) (note_key n) then m ∷ put_in n ms else n ∷ (m ∷ ms)

abbrev all_in : List PartNote → List PartNote
all_in [] = []
all_in (n ∷ ns) = put_in n (all_in ns)

past_each : (x y : PartNote) (s : List PartNote) → filed x (put_in y s) ≡ put_in y (filed x s)
past_each x y [] = go (is_before (note_key x) (note_key y))
  where
    go : (b : Bool) → (if b then x ∷ (y ∷ []) else y ∷ (x ∷ [])) ≡ (if b then x ∷ (y ∷ []) else y ∷ (x ∷ []))
    go b = refl
past_each x y (q ∷ s) = go (is_before (note_key q) (note_key y)) refl (is_before (note_key x) (note_key q)) refl (is_before (note_key x) (note_key y)) refl (past_each x y s)
  where
    qy : Bool
    qy = is_before (note_key q) (note_key y)

    xq : Bool
    xq = is_before (note_key x) (note_key q)

    xy : Bool
    xy = is_before (note_key x) (note_key y)

    left : Bool → Bool → Bool → List PartNote
    left a b c = if a then (if b then x ∷ (q ∷ put_in y s) else q ∷ filed x (put_in y s)) else (if c then x ∷ (y ∷ (q ∷ s)) else y ∷ (if b then x ∷ (q ∷ s) else q ∷ filed x s))

    right : Bool → Bool → Bool → List PartNote
    right a b c = if b then (if c then x ∷ (if a then q ∷ put_in y s else y ∷ (q ∷ s)) else y ∷ (x ∷ (q ∷ s))) else (if a then q ∷ put_in y (filed x s) else y ∷ (q ∷ filed x s))

    left_is : (a : Bool) → qy ≡ a → filed x (if qy then q ∷ put_in y s else y ∷ (q ∷ s)) ≡ left a xq xy
    left_is true e = ap (λ z. filed x (if z then q ∷ put_in y s else y ∷ (q ∷ s))) e
    left_is false e = ap (λ z. filed x (if z then q ∷ put_in y s else y ∷ (q ∷ s))) e

    right_is : (b : Bool) → xq ≡ b → put_in y (if xq then x ∷ (q ∷ s) else q ∷ filed x s) ≡ right qy b xy
    right_is true e = ap (λ z. put_in y (if z then x ∷ (q ∷ s) else q ∷ filed x s)) e
    right_is false e = ap (λ z. put_in y (if z then x ∷ (q ∷ s) else q ∷ filed x s)) e

    same : (a : Bool) → qy ≡ a → (b : Bool) → xq ≡ b → (c : Bool) → xy ≡ c → filed x (put_in y s) ≡ put_in y (filed x s) → left a b c ≡ right a b c
    same true e true f true g h = refl
    same true e true f false g h = absurd (let z : false ≡ true = sym g ∙ trans (note_key x) (note_key q) (note_key y) f e in cc)
    same true e false f c g h = ap (λ z. q ∷ z) h
    same false e true f true g h = refl
    same false e true f false g h = refl
    same false e false f true g h = absurd (let z : false ≡ true = sym f ∙ through (note_key x) (note_key y) (note_key q) g e in cc)
    same false e false f false g h = refl

    go : (a : Bool) → qy ≡ a → (b : Bool) → xq ≡ b → (c : Bool) → xy ≡ c → filed x (put_in y s) ≡ put_in y (filed x s)
        → filed x (if qy then q ∷ put_in y s else y ∷ (q ∷ s)) ≡ put_in y (if xq then x ∷ (q ∷ s) else q ∷ filed x s)
    go a e b f c g h =
        left_is a e ∙ ap (λ z. left a z xy) f ∙ ap (left a b) g ∙ same a e b f c g h ∙ sym (right_is b f ∙ ap (λ z. right z b xy) e ∙ ap (right a b) g)

pub filed_past_all : (y : PartNote) (ns s : List PartNote) → filed_into ns (put_in y s) ≡ put_in y (filed_into ns s)
filed_past_all y [] s = refl
filed_past_all y (n ∷ ns) s = ap (filed_into ns) (past_each n y s) ∙ filed_past_all y ns (filed n s)

all_filed : (ns : List PartNote) → filed_into ns [] ≡ all_in ns
all_filed [] = refl
all_filed (n ∷ ns) = filed_past_all n ns [] ∙ ap (put_in n) (all_filed ns)

put_part : (p : Part) (qs : List Part) → put_in (note_of p) (map note_of qs) ≡ map note_of (filed_part p qs)
put_part p [] = refl
put_part p (q ∷ qs) = go (is_before (note_key (note_of q)) (note_key (note_of p))) (put_part p qs)
  where
    go : (b : Bool) → put_in (note_of p) (map note_of qs) ≡ map note_of (filed_part p qs)
        → (if b then note_of q ∷ put_in (note_of p) (map note_of qs) else note_of p ∷ (note_of q ∷ map note_of qs)) ≡ map note_of (if b then q ∷ filed_part p qs else p ∷ (q ∷ qs))
    go true h = ap (λ z. note_of q ∷ z) h
    go false h = refl

all_parts : (ps : List Part) → all_in (map note_of ps) ≡ map note_of (by_key ps)
all_parts [] = refl
all_parts (p ∷ ps) = ap (put_in (note_of p)) (all_parts ps) ∙ put_part p (by_key ps)

-- what is filed one by one are the notes by key
pub notes_by_key : (ms : List Mark) → filed_into (notes_of ms) [] ≡ map note_of (parts_by_key ms)
notes_by_key ms = all_filed (notes_of ms) ∙ all_parts (parts ms)
