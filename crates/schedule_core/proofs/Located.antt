-- What is left are deeds of live tasks, and of children that these have yet to make.
use Rattle.std.proofs.Common.{◌≡◌, ◌≢◌, ℕ, ◌<◌, ◌≤◌, suc, Bool, true, false, ◌&&◌, List, [], ◌∷◌, ◌++◌, length, map, refl, sym, ap, ◌∙◌, subst, Some, None, arith, append-nil, append_assoc, ◌⊎◌, inl, inr}
use Rattle.std.specs.Prelude.{ℤ, nat_eq, nat_lt, slice_get, if◌then◌else◌}
use Rattle.std.specs.List.{filter_map, cons_option}
use Rattle.std.proofs.lemmas.Bool.{ltb-true, ltb-false, ne_eqb}
use Rattle.std.proofs.lemmas.Bool.Decides.{eqb_tells}
use Rattle.std.proofs.lemmas.List.Elements.{filter_map-append}
use Rattle.jade_base.specs.Places.{is_before}
use Rattle.jade_syntax.specs.declared.tree.Program.{Program}
use Rattle.jade_syntax.specs.Abstract.{AbstractProgram}
use Rattle.jade_syntax.specs.Image.{program}
use Rattle.jade_syntax.specs.Objects.{sizes}
use Rattle.jade_meaning.specs.Specification.{numbers}
use Rattle.jade_meaning.specs.Course.{root_spec, root_course}
use Rattle.jade_meaning.specs.Serial.{Path, Mark, Deed, DidTurn, DidRead, DidWrite, DidCreate, DidEnd, same_path, deeds_at, Part, parts, part_of_deed, zeros}
use Rattle.jade_meaning.specs.Laws.{Every, deeds, but_turn}
use Rattle.jade_meaning.specs.Turns.{marks_by, turns_on, turn_of}
use Rattle.jade_meaning.specs.Answer.{filed as filed_part, by_key, parts_by_key, key}
use Rattle.jade_meaning.specs.Proper.{Proper}
use Rattle.object_shelf.specs.Views.{ObjectView}
use Rattle.schedule_core.specs.declared.steps.Seat.{Seat}
use Rattle.task_roll.specs.declared.note.PartNote.{PartNote}
use Rattle.schedule_core.specs.Core.{Bare, Live}
use Rattle.schedule_core.specs.Unplaced.{State}
use Rattle.schedule_core.specs.Sound.{Within, From, Fit, Apart, Pairs, Wrote, Turned, works_on, work_on}
use Rattle.schedule_core.proofs.OwnParts.{own_later, alone_in}
use Rattle.schedule_core.specs.Going.{Going, to_come, world_of}
use Rattle.schedule_core.specs.Onwards.{onwards}
use Rattle.schedule_core.specs.Shown.{Seated}
use Rattle.schedule_core.specs.Notes.{note_of}
use Rattle.schedule_core.specs.Soundness.{and_then}
use Rattle.schedule_core.specs.Remains.{turns_among, IsLeft, Remains, WritesGoFirst, Woven, nothing, first, second, IsUnended, Noted, NotesAreSerial}
use Rattle.schedule_core.proofs.Idle.{Away, Apart_path, SoleStrange, strange_keeps, every_any, Any}
use Rattle.schedule_core.proofs.Running.{all_good}
use Rattle.schedule_core.proofs.Front.{fronts_aside}
use Rattle.schedule_core.proofs.Groups.{every_append}
use Rattle.jade_meaning.proofs.Filling.{same_self}
use Rattle.schedule_core.proofs.Ascending.{asym, through}
use Rattle.schedule_core.proofs.Keyed.{same_parts, notes_by_key}
use Rattle.schedule_core.proofs.Follows.{deeds_both}
use Rattle.schedule_core.proofs.Mirrors.{Kept, kept}
use Rattle.schedule_core.proofs.Reporting.{turns_at}
use Rattle.schedule_core.proofs.Following.{going_by, same_deeds, follow, events_are}

-- a path is a task's, or of what it has yet to make, or not
decide : (z p : Path) (k : ℕ) → Within p k z ⊎ Away z p k
decide [] [] k = inl (record { rest = []; is = refl; from = tt })
decide (j ∷ z) [] k = go (nat_lt j k) refl
  where
    go : (b : Bool) → nat_lt j k ≡ b → Within [] k (j ∷ z) ⊎ Away (j ∷ z) [] k
    go false e = inl (record { rest = j ∷ z; is = refl; from = ltb-false j k e })
    go true e = inr away
      where
        away : Away (j ∷ z) [] k
        away [] f = refl
        away (i ∷ r) f = let lt : j < k = ltb-true j k e in let le : k ≤ i = f in ap (λ b. b && same_path r z) (ne_eqb i j (λ q. absurd (let x : i ≡ j = q in omega arith)))
decide [] (i ∷ p) k = inr (λ r f. refl)
decide (j ∷ z) (i ∷ p) k = go (eqb_tells i j) (decide z p k)
  where
    go : ((nat_eq i j ≡ true) × (i ≡ j)) ⊎ ((nat_eq i j ≡ false) × (i ≢ j)) → Within p k z ⊎ Away z p k → Within (i ∷ p) k (j ∷ z) ⊎ Away (j ∷ z) (i ∷ p) k
    go (inr e) h = inr (λ r f. ap (λ b. b && same_path (p ++ r) z) e.0)
    go (inl e) (inl w) = inl (record { rest = w.rest; is = ap (λ x. j ∷ x) w.is ∙ ap (λ x. x ∷ (p ++ w.rest)) (sym e.1); from = w.from })
    go (inl e) (inr a) = inr (λ r f. ap (λ b. b && same_path (p ++ r) z) e.0 ∙ a r f)

abbrev pub InRoll : Path → List (Live Bare) → Type 0
InRoll z [] = ⊥
InRoll z (u ∷ us) = Within u.path u.part z ⊎ InRoll z us

in_roll : (z : Path) (us : List (Live Bare)) → InRoll z us ⊎ Every (λ (u : Live Bare). Away z u.path u.part) us
in_roll z [] = inr tt
in_roll z (u ∷ us) = go (decide z u.path u.part) (in_roll z us)
  where
    go : Within u.path u.part z ⊎ Away z u.path u.part → InRoll z us ⊎ Every (λ (u : Live Bare). Away z u.path u.part) us
        → InRoll z (u ∷ us) ⊎ Every (λ (u : Live Bare). Away z u.path u.part) (u ∷ us)
    go (inl w) h = inl (inl w)
    go (inr a) (inl h) = inl (inr h)
    go (inr a) (inr h) = inr (a, h)

each_in : (us : List (Live Bare)) (ms : List Mark) → ((z : Path) → InRoll z us ⊎ Every (Apart_path z) ms) → Every (λ (m : Mark). InRoll m.path us) ms
each_in us [] h = tt
each_in us (m ∷ ms) h = (own (h m.path), each_in us ms (λ z. tail z (h z)))
  where
    own : InRoll m.path us ⊎ Every (Apart_path m.path) (m ∷ ms) → InRoll m.path us
    own (inl w) = w
    own (inr e) = absurd (let z : true ≡ false = sym (same_self m.path) ∙ e.0 in cc)

    tail : (z : Path) → InRoll z us ⊎ Every (Apart_path z) (m ∷ ms) → InRoll z us ⊎ Every (Apart_path z) ms
    tail z (inl w) = inl w
    tail z (inr e) = inr e.1

-- all that is left is that of live tasks
pub left_located : (t : ℕ → List Path) (size : ℕ) (st : State) → Every Fit st.roll → Every (λ (m : Mark). InRoll m.path st.roll) (to_come t size st)
left_located t size st fits = each_in st.roll (to_come t size st) (λ z. go z (in_roll z st.roll))
  where
    go : (z : Path) → InRoll z st.roll ⊎ Every (λ (u : Live Bare). Away z u.path u.part) st.roll → InRoll z st.roll ⊎ Every (Apart_path z) (to_come t size st)
    go z (inl w) = inl w
    go z (inr a) =
        let x = fronts_aside t z st.roll (world_of size st.contents) fits a tt in
        let y = all_good t (Apart_path z) (SoleStrange z) Any (strange_keeps z) (numbers 0 size) (onwards t st.roll (world_of size st.contents)).world (every_any (numbers 0 size)) x.1 in
        inr (every_append (Apart_path z) (onwards t st.roll (world_of size st.contents)).marks _ x.0 y.0)

-- in terms of seats
pub record Seat_of (seats : List Seat) (z : Path) : Type 0 where
  pub place : ℕ
  pub seat : Seat
  pub live : slice_get seats place ≡ Some seat
  pub within : Within seat.path seat.children z

seat_for : (z : Path) (seats : List Seat) (us : List (Live Bare)) → Seated seats us → InRoll z us → Seat_of seats z
seat_for z [] [] h w = absurd w
seat_for z [] (u ∷ us) h w = absurd h
seat_for z (s ∷ seats) [] h w = absurd h
seat_for z (s ∷ seats) (u ∷ us) h (inl w) =
    record { place = 0; seat = s; live = refl; within = subst (λ q. Within q s.children z) h.0.path (subst (λ k. Within u.path k z) h.0.part w) }
seat_for z (s ∷ seats) (u ∷ us) h (inr w) =
    let r = seat_for z seats us h.1 w in record { place = suc r.place; seat = r.seat; live = r.live; within = r.within }

pub every_map : {A : Type 0} (P Q : A → Type 0) → ((x : A) → P x → Q x) → (xs : List A) → Every P xs → Every Q xs
every_map P Q f [] h = tt
every_map P Q f (x ∷ xs) h = (f x h.0, every_map P Q f xs h.1)

-- works and turns
pub turns_are : (o : ℕ) (ms : List Mark) → turns_on o ms ≡ turns_among (works_on o ms)
turns_are o [] = refl
turns_are o (m ∷ ms) = one m.deed m.path m.children (turns_are o ms)
  where
    one : (d : Deed) (q : Path) (k : ℕ) → turns_on o ms ≡ turns_among (works_on o ms) → cons_option (turn_of o d q) (turns_on o ms) ≡ turns_among (cons_option (work_on o d q k) (works_on o ms))
    one (DidTurn x) q k h = go (nat_eq x o)
      where
        go : (b : Bool) → cons_option (if b then Some q else None) (turns_on o ms) ≡ turns_among (cons_option (if b then Some (Turned q) else None) (works_on o ms))
        go true = ap (λ z. q ∷ z) h
        go false = h
    one (DidWrite x c v) q k h = go (nat_eq x o)
      where
        go : (b : Bool) → turns_on o ms ≡ turns_among (cons_option (if b then Some (Wrote q k c v) else None) (works_on o ms))
        go true = h
        go false = h
    one (DidRead x c v) q k h = h
    one (DidCreate x n) q k h = h
    one (DidEnd b n) q k h = h

-- parts by key, two lists of them
abbrev Up : List Part → Type 0
Up [] = Unit {0}
Up (p ∷ ps) = Every (λ q. is_before (key q) (key p) ≡ false) ps × Up ps

no_less : (x p : Part) (ps : List Part) → is_before (key x) (key p) ≡ false → Every (λ q. is_before (key q) (key p) ≡ false) ps → Every (λ q. is_before (key q) (key p) ≡ false) (filed_part x ps)
no_less x p [] e h = (e, tt)
no_less x p (q ∷ ps) e h = go (is_before (key q) (key x)) (no_less x p ps e h.1)
  where
    go : (b : Bool) → Every (λ q. is_before (key q) (key p) ≡ false) (filed_part x ps) → Every (λ q. is_before (key q) (key p) ≡ false) (if b then q ∷ filed_part x ps else x ∷ (q ∷ ps))
    go true k = (h.0, k)
    go false k = (e, h)

none_before : (x q : Part) (ps : List Part) → is_before (key q) (key x) ≡ false → Every (λ r. is_before (key r) (key q) ≡ false) ps → Every (λ r. is_before (key r) (key x) ≡ false) ps
none_before x q [] e h = tt
none_before x q (r ∷ ps) e h = (go (is_before (key r) (key x)) refl, none_before x q ps e h.1)
  where
    go : (b : Bool) → is_before (key r) (key x) ≡ b → is_before (key r) (key x) ≡ false
    go true k = absurd (let z : is_before (key r) (key q) ≡ true = through (key r) (key x) (key q) k e in let y : true ≡ false = sym z ∙ h.0 in cc)
    go false k = k

up_filed : (x : Part) (ps : List Part) → Up ps → Up (filed_part x ps)
up_filed x [] h = (tt, tt)
up_filed x (q ∷ ps) h = go (is_before (key q) (key x)) refl (up_filed x ps h.1)
  where
    go : (b : Bool) → is_before (key q) (key x) ≡ b → Up (filed_part x ps) → Up (if b then q ∷ filed_part x ps else x ∷ (q ∷ ps))
    go true e k = (no_less x q ps (asym (key q) (key x) e) h.0, k)
    go false e k = ((e, none_before x q ps e h.0), h)

up_all : (ps : List Part) → Up (by_key ps)
up_all [] = tt
up_all (p ∷ ps) = up_filed p (by_key ps) (up_all ps)

data Wove : List Part → List Part → List Part → Type 0 where
  none : Wove [] [] []
  left : {xs ys zs : List Part} → (p : Part) → Wove xs ys zs → Wove (p ∷ xs) ys (p ∷ zs)
  right : {xs ys zs : List Part} → (p : Part) → Wove xs ys zs → Wove xs (p ∷ ys) (p ∷ zs)

wove_none : (ys : List Part) → Wove [] ys ys
wove_none [] = none
wove_none (y ∷ ys) = right y (wove_none ys)

-- where no part of a whole comes before one, none of its parts does
wove_all : (P : Part → Type 0) {xs ys zs : List Part} → Wove xs ys zs → Every P zs → Every P xs
wove_all P none h = tt
wove_all P (left p w) h = (h.0, wove_all P w h.1)
wove_all P (right p w) h = wove_all P w h.1

filed_first : (x : Part) (ps : List Part) → Every (λ q. is_before (key q) (key x) ≡ false) ps → filed_part x ps ≡ x ∷ ps
filed_first x [] h = refl
filed_first x (q ∷ ps) h = ap (λ b. if b then q ∷ filed_part x ps else x ∷ (q ∷ ps)) h.0

wove_filed : (x : Part) (xs ys zs : List Part) → Wove xs ys zs → Up zs → Wove (filed_part x xs) ys (filed_part x zs)
wove_filed x _ _ _ none u = left x none
wove_filed x _ _ _ (left {xs = xs} {ys = ys} {zs = zs} p w) u = go (is_before (key p) (key x)) refl (wove_filed x xs ys zs w u.1)
  where
    go : (b : Bool) → is_before (key p) (key x) ≡ b → Wove (filed_part x xs) ys (filed_part x zs)
        → Wove (if b then p ∷ filed_part x xs else x ∷ (p ∷ xs)) ys (if b then p ∷ filed_part x zs else x ∷ (p ∷ zs))
    go true e k = left p k
    go false e k = left x (left p w)
wove_filed x _ _ _ (right {xs = xs} {ys = ys} {zs = zs} p w) u = go (is_before (key p) (key x)) refl (wove_filed x xs ys zs w u.1)
  where
    go : (b : Bool) → is_before (key p) (key x) ≡ b → Wove (filed_part x xs) ys (filed_part x zs)
        → Wove (filed_part x xs) (p ∷ ys) (if b then p ∷ filed_part x zs else x ∷ (p ∷ zs))
    go true e k = right p k
    go false e k =
        let after = none_before x p zs e u.0 in
        subst (λ z. Wove z (p ∷ ys) (x ∷ (p ∷ zs))) (sym (filed_first x xs (wove_all (λ q. is_before (key q) (key x) ≡ false) w after))) (left x (right p w))

wove_keys : (xs ys : List Part) → Wove (by_key xs) (by_key ys) (by_key (xs ++ ys))
wove_keys [] ys = wove_none (by_key ys)
wove_keys (x ∷ xs) ys = wove_filed x (by_key xs) (by_key ys) (by_key (xs ++ ys)) (wove_keys xs ys) (up_all (xs ++ ys))

woven_notes : {xs ys zs : List Part} → Wove xs ys zs → Woven (map note_of xs) (map note_of ys) (map note_of zs)
woven_notes none = nothing
woven_notes (left p w) = first (note_of p) (woven_notes w)
woven_notes (right p w) = second (note_of p) (woven_notes w)

-- of each part
every_filed : (P : Part → Type 0) (p : Part) (qs : List Part) → P p → Every P qs → Every P (filed_part p qs)
every_filed P p [] x h = (x, tt)
every_filed P p (q ∷ qs) x h = go (is_before (key q) (key p)) (every_filed P p qs x h.1)
  where
    go : (b : Bool) → Every P (filed_part p qs) → Every P (if b then q ∷ filed_part p qs else p ∷ (q ∷ qs))
    go true k = (h.0, k)
    go false k = (x, h)

every_key : (P : Part → Type 0) (ps : List Part) → Every P ps → Every P (by_key ps)
every_key P [] h = tt
every_key P (p ∷ ps) h = every_filed P p (by_key ps) h.0 (every_key P ps h.1)

every_part : (R : Path → ℕ → Type 0) (ms : List Mark) → Every (λ (m : Mark). R m.path m.children) ms → Every (λ (p : Part). R p.path p.children) (parts ms)
every_part R [] h = tt
every_part R (m ∷ ms) h = go m.deed (every_part R ms h.1)
  where
    go : (d : Deed) → Every (λ (p : Part). R p.path p.children) (parts ms) → Every (λ (p : Part). R p.path p.children) (cons_option (part_of_deed d m) (parts ms))
    go (DidTurn o) k = k
    go (DidRead o c v) k = k
    go (DidWrite o c v) k = k
    go (DidCreate t n) k = (h.0, k)
    go (DidEnd b n) k = (h.0, k)

every_note : (R : Path → ℕ → Type 0) (ps : List Part) → Every (λ (p : Part). R p.path p.children) ps → Every (λ (n : PartNote). R n.path n.children) (map note_of ps)
every_note R [] h = tt
every_note R (p ∷ ps) h = (h.0, every_note R ps h.1)

-- a key that is not ended
record KeyOf (seats : List Seat) (q : Path) (k : ℕ) : Type 0 where
  place : ℕ
  seat : Seat
  child : ℕ
  rest : List ℕ
  live : slice_get seats place ≡ Some seat
  from : seat.children ≤ child
  key : q ++ k ∷ [] ≡ seat.path ++ (child ∷ rest)

key_for : (q : Path) (k : ℕ) (seats : List Seat) (us : List (Live Bare)) → Seated seats us → InRoll q us → Every (λ (v : Live Bare). q ≡ v.path → v.part ≤ k) us → KeyOf seats q k
key_for q k [] [] h w o = absurd w
key_for q k [] (u ∷ us) h w o = absurd h
key_for q k (s ∷ seats) [] h w o = absurd h
key_for q k (s ∷ seats) (u ∷ us) h (inr w) o =
    let r = key_for q k seats us h.1 w o.1 in record { place = suc r.place; seat = r.seat; child = r.child; rest = r.rest; live = r.live; from = r.from; key = r.key }
key_for q k (s ∷ seats) (u ∷ us) h (inl w) o = go w.rest w.is w.from
  where
    go : (r : Path) → q ≡ u.path ++ r → From u.part r → KeyOf (s ∷ seats) q k
    go [] e f = record {
      place = 0;
      seat = s;
      child = k;
      rest = [];
      live = refl;
      from = let le = o.0 (e ∙ append-nil u.path) in let z : u.part ≡ s.children = h.0.part in omega arith;
      key = ap (λ z. z ++ k ∷ []) (e ∙ append-nil u.path ∙ h.0.path);
    }
    go (j ∷ r) e f = record {
      place = 0;
      seat = s;
      child = j;
      rest = r ++ k ∷ [];
      live = refl;
      from = let z : u.part ≡ s.children = h.0.part in omega arith;
      key = ap (λ z. z ++ k ∷ []) (e ∙ ap (λ z. z ++ j ∷ r) h.0.path) ∙ append_assoc s.path (j ∷ r) (k ∷ []);
    }

each_key : (seats : List Seat) (us : List (Live Bare)) → Seated seats us → (ms : List Mark) → Every (λ (m : Mark). InRoll m.path us) ms
    → Every (λ (v : Live Bare). Every (λ (m : Mark). m.path ≡ v.path → v.part ≤ m.children) ms) us → Every (λ (m : Mark). KeyOf seats m.path m.children) ms
each_key seats us h [] w o = tt
each_key seats us h (m ∷ ms) w o =
    (key_for m.path m.children seats us h w.0 (every_map (λ (v : Live Bare). Every (λ (m : Mark). m.path ≡ v.path → v.part ≤ m.children) (m ∷ ms)) (λ (v : Live Bare). m.path ≡ v.path → v.part ≤ m.children) (λ v k. k.0) us o), each_key seats us h ms w.1 (every_map (λ (v : Live Bare). Every (λ (m : Mark). m.path ≡ v.path → v.part ≤ m.children) (m ∷ ms)) (λ (v : Live Bare). Every (λ (m : Mark). m.path ≡ v.path → v.part ≤ m.children) ms) (λ v k. k.1) us o))

owns_each : (t : ℕ → List Path) (size : ℕ) (st : State) → Every Fit st.roll → Pairs Apart st.roll → (b us : List (Live Bare)) → st.roll ≡ b ++ us
    → Every (λ (v : Live Bare). Every (λ (m : Mark). m.path ≡ v.path → v.part ≤ m.children) (to_come t size st)) us
owns_each t size st fits far b [] e = tt
owns_each t size st fits far b (v ∷ us) e =
    (own_later t v.path v.part size st fits (subst (Every (λ (u : Live Bare). (u.path ≡ v.path → v.part ≤ u.part) × ((j : ℕ) (r : Path) → u.part ≤ j → u.path ++ j ∷ r ≡ v.path → ⊥))) (sym e) (alone_in b us v (subst (Pairs Apart) e far))), owns_each t size st fits far (b ++ v ∷ []) us (e ∙ sym (append_assoc b (v ∷ []) us)))

module _ (proper : (p : AbstractProgram) (ns : List ℤ) (limit : ℕ) → Proper (root_spec p) (root_course p ns limit)) (p : Program) (ns : List ℤ) (limit : ℕ) where
  module _ (k : ℕ) (seats : List Seat) (ss : List ObjectView) (notes : List PartNote) (x : Kept p ns limit k seats ss notes) (rest : ℕ → List Path) where
    abbrev run : List Mark
    run = marks_by (program p) ns limit (and_then ss rest)

    abbrev size : ℕ
    size = length (sizes p.items)

    abbrev log : List Mark
    log = x.state.log

    abbrev later : List Mark
    later = to_come rest size x.state

    pub going : Going rest size run (zeros (sizes p.items)) x.state
    going = going_by proper p ns limit k seats ss notes x rest

    pub located : Every (λ (m : Mark). Seat_of seats m.path) later
    located =
        every_map (λ (m : Mark). InRoll m.path x.state.roll) (λ (m : Mark). Seat_of seats m.path) (λ m w. seat_for m.path seats x.state.roll x.shown.seated w) later
        (left_located rest size x.state going.fits)

    abbrev pub remains_so : Remains p ns limit seats ss rest
    remains_so = record {
      left = later;
      each = every_map (λ (m : Mark). Seat_of seats m.path) (IsLeft seats) (λ m w. record { place = w.place; seat = w.seat; live = w.live; within = w.within }) later located;
      own = λ i s e. ap (filter_map but_turn) (same_deeds s.path run (log ++ later) (going.deeds s.path) ∙ deeds_both s.path log later)
          ∙ filter_map-append but_turn (deeds_at s.path log) (deeds_at s.path later)
          ∙ ap (λ z. z ++ filter_map but_turn (deeds_at s.path later)) (sym (follow proper p ns limit k seats ss notes x rest i s e).deeds
          ∙ ap deeds (sym (events_are proper p ns limit k seats ss notes x rest i s e)));
      gone = λ o. works_on o log;
      first = λ o. going.works o ∙ filter_map-append (λ m. work_on o m.deed m.path m.children) log later;
      content = λ o. ap (λ (y : ObjectView). y.content) (x.shown.shelves o) ∙ going.contents o;
      turns = λ o. sym (turns_are o log) ∙ sym (ap (λ s. s.turns) (x.shown.shelves o)) ∙ sym (turns_at ss o);
    }

    noted_so : Noted p ns limit seats ss notes rest
    noted_so = record {
      unended = map note_of (parts_by_key later);
      each = every_map (λ (n : PartNote). KeyOf seats n.path n.children) (IsUnended seats) (λ n w. record { place = w.place; seat = w.seat; child = w.child; rest = w.rest; live = w.live; from = w.from; key = w.key }) (map note_of (parts_by_key later))
          (every_note (KeyOf seats) (parts_by_key later) (every_key (λ (p : Part). KeyOf seats p.path p.children) (parts later) (every_part (KeyOf seats) later
          (each_key seats x.state.roll x.shown.seated later (left_located rest size x.state going.fits) (owns_each rest size x.state going.fits going.apart [] x.state.roll refl)))));
      woven = subst (λ z. Woven z (map note_of (parts_by_key later)) (map note_of (parts_by_key run))) (sym (x.filed_so ∙ notes_by_key log))
          (subst (λ z. Woven (map note_of (parts_by_key log)) (map note_of (parts_by_key later)) (map note_of z))
          (sym (same_parts run (log ++ later) going.deeds ∙ ap by_key (filter_map-append (λ m. part_of_deed m.deed m) log later)))
          (woven_notes (wove_keys (parts log) (parts later))));
    }

  pub writes_go_first : WritesGoFirst p ns limit
  writes_go_first = record { remains = λ k roll ss notes r rest. remains_so k roll ss notes (kept proper p ns limit k roll ss notes r) rest }

  pub notes_are_serial : NotesAreSerial p ns limit
  notes_are_serial = record { noted = λ k roll ss notes r rest. noted_so k roll ss notes (kept proper p ns limit k roll ss notes r) rest }
