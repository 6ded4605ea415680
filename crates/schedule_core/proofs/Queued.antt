-- Tasks and entries stand in serial order, and a reader beside a writer stands before it.
use Rattle.std.proofs.Common.{◌≡◌, ℕ, zero, suc, ◌<◌, Bool, true, false, not, ◌&&◌, ◌||◌, List, [], ◌∷◌, ◌++◌, length, refl, sym, ap, ◌∙◌, subst, Option, Some}
use Rattle.std.proofs.Common.{None, arith, append-nil, append_assoc, ◌⊎◌, inl, inr}
use Rattle.std.specs.Prelude.{ℤ, slice_get, is_some, if◌then◌else◌}
use Rattle.jade_base.specs.declared.rights.Rights.{Rights}
use Rattle.jade_base.specs.declared.rights.Mode.{Mode}
use Rattle.jade_base.specs.declared.rights.Mode.TheVariants.{Reading}
use Rattle.jade_base.specs.Rights.{is_there}
use Rattle.jade_syntax.specs.declared.tree.Program.{Program}
use Rattle.jade_syntax.specs.Image.{program}
use Rattle.jade_syntax.specs.Objects.{sizes}
use Rattle.jade_meaning.specs.Specification.{rights_on}
use Rattle.jade_meaning.specs.Course.{Course, Reads, Writes, Steps, Creates, Changes, Ends, root_spec, root_course}
use Rattle.jade_meaning.specs.Serial.{Path, zeros}
use Rattle.jade_meaning.specs.Turns.{turns_on, marks_by}
use Rattle.jade_meaning.specs.Proper.{Proper}
use Rattle.jade_meaning.specs.Talk.{Event, Enter, Enroll, Take, TouchRead, TouchWrite, Wants, Give, Leave, Shift, Resign}
use Rattle.jade_syntax.specs.Abstract.{AbstractProgram}
use Rattle.schedule_core.specs.Going.{Going}
use Rattle.schedule_core.specs.Reached as reaches
use Rattle.schedule_core.proofs.Schedules.{reached_sound}
use Rattle.schedule_core.proofs.Stuck.{core_shows}
use Rattle.jade_meaning.specs.Laws.{Every}
use Rattle.object_shelf.specs.declared.queue.Entry.{Entry}
use Rattle.object_shelf.specs.Views.{ObjectView}
use Rattle.object_shelf.specs.Shelves.{same_path, find, takes_out}
use Rattle.object_shelf.specs.Order.{stands_before, before_all, is_ordered}
use Rattle.schedule_core.specs.declared.steps.Seat.{Seat}
use Rattle.schedule_core.specs.Core.{Cells, changes, touches, enters_still, handed_on, is_out, quiet, quietly, with_pending, going_on, child_of, value_in, content_for}
use Rattle.schedule_core.specs.Unplaced.{Live, State, event_done, deed_done}
use Rattle.schedule_core.specs.Sound.{Apart, Pairs, Fit, Before}
use Rattle.schedule_core.specs.More.{InOrder}
use Rattle.schedule_core.specs.Shown.{slot, born_slots, slots, line, shelf_at, Seated}
use Rattle.schedule_core.specs.Mirror.{CoreShows, Mirror}
use Rattle.schedule_core.specs.Soundness.{Owner, EntriesAreOwned, InSerialOrder, ReadsBefore, HeldAlone}
use Rattle.schedule_core.proofs.Lines.{every_append, every_with}
use Rattle.schedule_core.proofs.Order.{earlier, stands, before_child, child_before, child_first, same_order, less_order, enroll_order}
use Rattle.schedule_core.proofs.Holds.{held_with}
use Rattle.schedule_core.proofs.Showing.{path_same, same_is}

pub some_entry : (d e : Entry) → ◌≡◌ {A = Option Entry} (Some d) (Some e) → d ≡ e
some_entry d e q = cc

pub find_both : (p : Path) (es fs : List Entry) (d : Entry) → find p (es ++ fs) ≡ Some d → (find p es ≡ Some d) ⊎ (find p fs ≡ Some d)
find_both p [] fs d h = inr h
find_both p (e ∷ es) fs d h = go (find_both p es fs d) (same_path p e.path) refl
  where
    go : (find p (es ++ fs) ≡ Some d → (find p es ≡ Some d) ⊎ (find p fs ≡ Some d)) → (b : Bool) → same_path p e.path ≡ b → (find p (e ∷ es) ≡ Some d)
        ⊎ (find p fs ≡ Some d)
    go more true q = inl (ap (λ b. if b then Some e else find p es) q ∙ sym (ap (λ b. if b then Some e else find p (es ++ fs)) q) ∙ h)
    go more false q = turn (more (sym (ap (λ b. if b then Some e else find p (es ++ fs)) q) ∙ h))
      where
        turn : (find p es ≡ Some d) ⊎ (find p fs ≡ Some d) → (find p (e ∷ es) ≡ Some d) ⊎ (find p fs ≡ Some d)
        turn (inl x) = inl (ap (λ b. if b then Some e else find p es) q ∙ x)
        turn (inr x) = inr x

-- entries behind a task
before_both : (p : Path) (es fs : List Entry) → before_all p es ≡ true → before_all p fs ≡ true → before_all p (es ++ fs) ≡ true
before_both p [] fs h g = g
before_both p (e ∷ es) fs h g = go (stands_before p e.path) h (λ k. before_both p es fs k g)
  where
    go : (b : Bool) → b && before_all p es ≡ true → (before_all p es ≡ true → before_all p (es ++ fs) ≡ true) → b && before_all p (es ++ fs) ≡ true
    go true k f = f k
    go false k f = absurd (cc)

before_slot : (p q : Path) (a : Rights) (h : Option Mode) (v : Option Cells) → stands_before p q ≡ true → before_all p (slot q a h v) ≡ true
before_slot p q a h v e = go (touches a)
  where
    go : (b : Bool) → before_all p (if b then record { path = q; rights = a; hold = h; version = v } ∷ [] else []) ≡ true
    go true = ap (λ b. b && true) e
    go false = refl

before_born : (p : Path) (c : Course) (o : ℕ) (u : Live) → stands_before p (u.path ++ u.part ∷ []) ≡ true → before_all p (born_slots c o u) ≡ true
before_born p (Creates child body on) o u e = go (enters_still o u.doing.pending)
  where
    go : (b : Bool) → before_all p (if b then [] else slot (u.path ++ u.part ∷ []) (rights_on child o) None (handed_on u o)) ≡ true
    go true = refl
    go false = before_slot p (u.path ++ u.part ∷ []) (rights_on child o) None (handed_on u o) e
before_born p (Reads q c on) o u e = refl
before_born p (Writes q c v on) o u e = refl
before_born p (Steps on) o u e = refl
before_born p (Changes new on) o u e = refl
before_born p (Ends b) o u e = refl

-- a task is before another, and before its next child
record Ahead (p : Path) (u : Live) : Type 0 where
  task : stands_before p u.path ≡ true
  kid : stands_before p (u.path ++ u.part ∷ []) ≡ true

before_line : (p : Path) (o : ℕ) (us : List Live) → Every (Ahead p) us → before_all p (line o us) ≡ true
before_line p o [] h = refl
before_line p o (u ∷ us) h =
    before_both p (slots o u) (line o us) (before_both p (born_slots u.doing.course o u) (slot u.path (u.rights o) (u.held o) (u.versions o))
    (before_born p u.doing.course o u h.0.kid) (before_slot p u.path (u.rights o) (u.held o) (u.versions o) h.0.task)) (before_line p o us h.1)

-- queues in order, one behind the other
ordered_slot : (q : Path) (a : Rights) (h : Option Mode) (v : Option Cells) (fs : List Entry) → before_all q fs ≡ true → is_ordered fs ≡ true
    → is_ordered (slot q a h v ++ fs) ≡ true
ordered_slot q a h v fs b o = go (touches a)
  where
    go : (x : Bool) → is_ordered ((if x then record { path = q; rights = a; hold = h; version = v } ∷ [] else []) ++ fs) ≡ true
    go true = ap (λ z. z && is_ordered fs) b ∙ o
    go false = o

ordered_born : (c : Course) (o : ℕ) (t : Live) (fs : List Entry) → before_all (t.path ++ t.part ∷ []) fs ≡ true → is_ordered fs ≡ true
    → is_ordered (born_slots c o t ++ fs) ≡ true
ordered_born (Creates child body on) o t fs b h = go (enters_still o t.doing.pending)
  where
    go : (x : Bool) → is_ordered ((if x then [] else slot (t.path ++ t.part ∷ []) (rights_on child o) None (handed_on t o)) ++ fs) ≡ true
    go true = h
    go false = ordered_slot (t.path ++ t.part ∷ []) (rights_on child o) None (handed_on t o) fs b h
ordered_born (Reads q c on) o t fs b h = h
ordered_born (Writes q c v on) o t fs b h = h
ordered_born (Steps on) o t fs b h = h
ordered_born (Changes new on) o t fs b h = h
ordered_born (Ends x) o t fs b h = h

ahead_of : (t u : Live) → InOrder t u → Apart t u → Ahead t.path u
ahead_of t u e far =
    record {
      task = e;
      kid = stands t.path (u.path ++ u.part ∷ [])
          (before_child t.path u.path u.part (earlier t.path u.path e) (λ q is from. far t.path (record {
            rest = [];
            is = sym (append-nil t.path);
            from =
                tt;
          }) (record { rest = q; is = is; from = from })));
    }

kid_ahead : (t u : Live) → Ahead t.path u → Ahead (t.path ++ t.part ∷ []) u
kid_ahead t u a =
    record {
      task = stands (t.path ++ t.part ∷ []) u.path (child_before t.path u.path t.part (earlier t.path u.path a.task));
      kid =
          stands (t.path ++ t.part ∷ []) (u.path ++ u.part ∷ [])
          (child_before t.path (u.path ++ u.part ∷ []) t.part (earlier t.path (u.path ++ u.part ∷ []) a.kid));
    }

each_ahead : (t : Live) (us : List Live) → Every (InOrder t) us → Every (Apart t) us → Every (Ahead t.path) us
each_ahead t [] h far = tt
each_ahead t (u ∷ us) h far = (ahead_of t u h.0 far.0, each_ahead t us h.1 far.1)

each_kid : (t : Live) (us : List Live) → Every (Ahead t.path) us → Every (Ahead (t.path ++ t.part ∷ [])) us
each_kid t [] h = tt
each_kid t (u ∷ us) h = (kid_ahead t u h.0, each_kid t us h.1)

ordered_line : (o : ℕ) (ts : List Live) → Pairs InOrder ts → Pairs Apart ts → is_ordered (line o ts) ≡ true
ordered_line o [] h far = refl
ordered_line o (t ∷ ts) h far =
    let born = born_slots t.doing.course o t in
    let mine = slot t.path (t.rights o) (t.held o) (t.versions o) in
    let kid = t.path ++ t.part ∷ [] in
    let behind = each_ahead t ts h.0 far.0 in
    let kids = each_kid t ts behind in
    let first : stands_before kid t.path ≡ true = stands kid t.path (child_first t.path t.part) in
    let rest = ordered_line o ts h.1 far.1 in
    ap is_ordered (append_assoc born mine (line o ts)) ∙ ordered_born t.doing.course o t (mine ++ line o ts)
    (before_both kid mine (line o ts) (before_slot kid t.path (t.rights o) (t.held o) (t.versions o) first) (before_line kid o ts kids))
    (ordered_slot t.path (t.rights o) (t.held o) (t.versions o) (line o ts) (before_line t.path o ts behind) rest)

-- seats in order
seats_behind : (p : Path) (seats : List Seat) (ts : List Live) → Seated seats ts → Every (λ (u : Live). stands_before p u.path ≡ true) ts → (j : ℕ) (s : Seat)
    → slice_get seats j ≡ Some s → stands_before p s.path ≡ true
seats_behind p [] ts h g j s e = absurd (cc)
seats_behind p (x ∷ seats) [] h g j s e = absurd h
seats_behind p (x ∷ seats) (t ∷ ts) h g zero s e = let same : x ≡ s = cc in ap (stands_before p) (ap (λ (z : Seat). z.path) (sym same) ∙ sym h.0.path) ∙ g.0
seats_behind p (x ∷ seats) (t ∷ ts) h g (suc j) s e = seats_behind p seats ts h.1 g.1 j s e

seats_ordered : (seats : List Seat) (ts : List Live) → Seated seats ts → Pairs InOrder ts → (i j : ℕ) (s u : Seat) → slice_get seats i ≡ Some s
    → slice_get seats j ≡ Some u → i < j → stands_before s.path u.path ≡ true
seats_ordered [] ts h g i j s u a b lt = absurd (cc)
seats_ordered (x ∷ seats) [] h g i j s u a b lt = absurd h
seats_ordered (x ∷ seats) (t ∷ ts) h g zero zero s u a b lt = absurd (omega arith)
seats_ordered (x ∷ seats) (t ∷ ts) h g zero (suc j) s u a b lt =
    let same : x ≡ s = cc in
    ap (λ p. stands_before p u.path) (ap (λ (z : Seat). z.path) (sym same) ∙ sym h.0.path) ∙ seats_behind t.path seats ts h.1 g.0 j u b
seats_ordered (x ∷ seats) (t ∷ ts) h g (suc i) zero s u a b lt = absurd (omega arith)
seats_ordered (x ∷ seats) (t ∷ ts) h g (suc i) (suc j) s u a b lt = seats_ordered seats ts h.1 g.1 i j s u a b (omega arith)

-- entries and their tasks
owner_later : (s : Seat) (seats : List Seat) (e : Entry) → Owner seats e.path → Owner (s ∷ seats) e.path
owner_later s seats e x = record { place = suc x.place; seat = x.seat; live = x.live; own = x.own }

abbrev Owned : List Seat → Entry → Type 0
Owned seats e = Owner seats e.path

slot_owned : (seats : List Seat) (q : Path) (a : Rights) (h : Option Mode) (v : Option Cells) → Owner seats q → Every (Owned seats) (slot q a h v)
slot_owned seats q a h v x = go (touches a)
  where
    go : (b : Bool) → Every (Owned seats) (if b then record { path = q; rights = a; hold = h; version = v } ∷ [] else [])
    go true = (x, tt)
    go false = tt

born_owned : (seats : List Seat) (c : Course) (o : ℕ) (t : Live) → Owner seats (t.path ++ t.part ∷ []) → Every (Owned seats) (born_slots c o t)
born_owned seats (Creates child body on) o t x = go (enters_still o t.doing.pending)
  where
    go : (b : Bool) → Every (Owned seats) (if b then [] else slot (t.path ++ t.part ∷ []) (rights_on child o) None (handed_on t o))
    go true = tt
    go false = slot_owned seats (t.path ++ t.part ∷ []) (rights_on child o) None (handed_on t o) x
born_owned seats (Reads q c on) o t x = tt
born_owned seats (Writes q c v on) o t x = tt
born_owned seats (Steps on) o t x = tt
born_owned seats (Changes new on) o t x = tt
born_owned seats (Ends b) o t x = tt

line_owned : (o : ℕ) (seats : List Seat) (ts : List Live) → Seated seats ts → Every (Owned seats) (line o ts)
line_owned o [] [] h = tt
line_owned o [] (t ∷ ts) h = absurd h
line_owned o (s ∷ seats) [] h = absurd h
line_owned o (s ∷ seats) (t ∷ ts) h =
    let kid : t.path ++ t.part ∷ [] ≡ s.path ++ s.children ∷ [] = ap (λ p. p ++ t.part ∷ []) h.0.path ∙ ap (λ k. s.path ++ k ∷ []) h.0.part in
    let young : Owner (s ∷ seats) (t.path ++ t.part ∷ []) = record { place = 0; seat = s; live = refl; own = inr kid } in
    let mine : Owner (s ∷ seats) t.path = record { place = 0; seat = s; live = refl; own = inl h.0.path } in
    let own = every_append (Owned (s ∷ seats)) (born_slots t.doing.course o t) (slot t.path (t.rights o) (t.held o) (t.versions o))
    (born_owned (s ∷ seats) t.doing.course o t young) (slot_owned (s ∷ seats) t.path (t.rights o) (t.held o) (t.versions o) mine) in
    every_append (Owned (s ∷ seats)) (slots o t) (line o ts) own
    (every_with (Owned seats) (Owned (s ∷ seats)) (λ e x. owner_later s seats e x) (line o ts) (line_owned o seats ts h.1))

entry_get : (P : Entry → Type 0) (es : List Entry) (j : ℕ) (e : Entry) → Every P es → slice_get es j ≡ Some e → P e
entry_get P [] j e h q = absurd (cc)
entry_get P (x ∷ es) zero e h q = subst P (some_entry x e q) h.0
entry_get P (x ∷ es) (suc j) e h q = entry_get P es j e h.1 q

-- a live task of the path holds the object, with this entry
pub data Holds_as (o : ℕ) (p : Path) (d : Entry) : List Live → Type 0 where
  here : (t : Live) (ts : List Live) → t.path ≡ p → d ≡ record { path = t.path; rights = t.rights o; hold = t.held o; version = t.versions o }
      → Holds_as o p d (t ∷ ts)
  later : (t : Live) (ts : List Live) → Holds_as o p d ts → Holds_as o p d (t ∷ ts)

slot_holds : (p q : Path) (a : Rights) (h : Option Mode) (v : Option Cells) (d : Entry) → find p (slot q a h v) ≡ Some d → (q ≡ p)
    × (d ≡ record { path = q; rights = a; hold = h; version = v })
slot_holds p q a h v d = go (touches a)
  where
    row : Entry
    row = record { path = q; rights = a; hold = h; version = v }

    inner : (b : Bool) → same_path p q ≡ b → (if b then Some row else None) ≡ Some d → (q ≡ p) × (d ≡ row)
    inner true e f = (sym (same_is p q e), sym (some_entry row d f))
    inner false e f = absurd (cc)

    go : (b : Bool) → find p (if b then row ∷ [] else []) ≡ Some d → (q ≡ p) × (d ≡ row)
    go true f = inner (same_path p q) refl f
    go false f = absurd (cc)

born_holds : (p : Path) (c : Course) (o : ℕ) (t : Live) (d : Entry) → find p (born_slots c o t) ≡ Some d → is_some d.hold ≡ true → ⊥
born_holds p (Creates child body on) o t d f x = go (enters_still o t.doing.pending) f
  where
    go : (b : Bool) → find p (if b then [] else slot (t.path ++ t.part ∷ []) (rights_on child o) None (handed_on t o)) ≡ Some d → ⊥
    go true g = absurd (cc)
    go false g = let r = slot_holds p (t.path ++ t.part ∷ []) (rights_on child o) None (handed_on t o) d g in
        absurd (let y : false ≡ true = sym (ap (λ (z : Entry). is_some z.hold) r.1) ∙ x in cc)
born_holds p (Reads q c on) o t d f x = absurd (cc)
born_holds p (Writes q c v on) o t d f x = absurd (cc)
born_holds p (Steps on) o t d f x = absurd (cc)
born_holds p (Changes new on) o t d f x = absurd (cc)
born_holds p (Ends b) o t d f x = absurd (cc)

pub line_holds : (p : Path) (o : ℕ) (ts : List Live) (d : Entry) → find p (line o ts) ≡ Some d → is_some d.hold ≡ true → Holds_as o p d ts
line_holds p o [] d f x = absurd (cc)
line_holds p o (t ∷ ts) d f x = go (λ g. line_holds p o ts d g x) (find_both p (slots o t) (line o ts) d f)
  where
    own : (find p (born_slots t.doing.course o t) ≡ Some d) ⊎ (find p (slot t.path (t.rights o) (t.held o) (t.versions o)) ≡ Some d) → Holds_as o p d (t ∷ ts)
    own (inl y) = absurd (born_holds p t.doing.course o t d y x)
    own (inr y) = let r = slot_holds p t.path (t.rights o) (t.held o) (t.versions o) d y in here t ts r.0 r.1

    go : (find p (line o ts) ≡ Some d → Holds_as o p d ts) → (find p (slots o t) ≡ Some d) ⊎ (find p (line o ts) ≡ Some d) → Holds_as o p d (t ∷ ts)
    go more (inl y) = own (find_both p (born_slots t.doing.course o t) (slot t.path (t.rights o) (t.held o) (t.versions o)) d y)
    go more (inr y) = later t ts (more y)

-- of two tasks that hold an object, one with its content out
two_hold : (o : ℕ) (s t : Live) → Fit s → Fit t → Before o s t → is_some (s.held o) ≡ true → is_some (t.held o) ≡ true → (is_out (s.held o) ≡ true)
    ⊎ (is_out (t.held o) ≡ true) → (is_out (t.held o) ≡ true) × (quiet o s ≡ true) × (s.held o ≡ Some Reading)
two_hold o s t f g b hs ht w = let r = held_with o s t f g b hs ht w in (r.0, r.2, r.1)

out_some : (h : Option Mode) → takes_out h ≡ true → is_some h ≡ true
out_some None e = absurd (cc)
out_some (Some m) e = refl

calm_rights : (a : Rights) (v : Option Cells) → not (changes a) && (not (is_there a.reads) || is_some v) ≡ true → changes a ≡ false
calm_rights a v h = go (changes a) h
  where
    go : (b : Bool) → not b && (not (is_there a.reads) || is_some v) ≡ true → b ≡ false
    go true e = absurd (cc)
    go false e = refl

-- a reader before, the writer among those behind
reader_first : (o : ℕ) (q r : Path) (d e : Entry) (t : Live) (us : List Live) → t.path ≡ q → d
    ≡ record { path = t.path; rights = t.rights o; hold = t.held o; version = t.versions o } → Fit t → Every Fit us → Every (Before o t) us
    → Every (InOrder t) us → is_some d.hold ≡ true → takes_out e.hold ≡ true → Holds_as o r e us → ReadsBefore d q r
reader_first o q r d e t _ path is ft fs bs os hd he (later u us x) = reader_first o q r d e t us path is ft fs.1 bs.1 os.1 hd he x
reader_first o q r d e t _ path is ft fs bs os hd he (here u us p i) =
    let mine : is_some (t.held o) ≡ true = ap (λ (z : Entry). is_some z.hold) (sym is) ∙ hd in
    let out : takes_out (u.held o) ≡ true = ap (λ (z : Entry). takes_out z.hold) (sym i) ∙ he in
    let w = two_hold o t u ft fs.0 bs.0 mine (out_some (u.held o) out) (inr out) in
    record {
      reads = ap (λ (z : Entry). z.hold) is ∙ w.2;
      read_only = ap (λ (z : Entry). changes z.rights) is ∙ calm_rights (t.rights o) (t.versions o) w.1;
      version = ap (λ (z : Entry). is_some z.version) is ∙ ft.reading o w.2;
      earlier = ap (λ z. stands_before z r) (sym path) ∙ ap (stands_before t.path) (sym p) ∙ os.0;
    }

-- no holder behind a writer
writer_last : (o : ℕ) (r : Path) (d e : Entry) (t : Live) (us : List Live) → e
    ≡ record { path = t.path; rights = t.rights o; hold = t.held o; version = t.versions o } → Fit t → Every Fit us → Every (Before o t) us → is_some d.hold
    ≡ true → takes_out e.hold ≡ true → Holds_as o r d us → ⊥
writer_last o r d e t _ is ft fs bs hd he (later u us x) = writer_last o r d e t us is ft fs.1 bs.1 hd he x
writer_last o r d e t _ is ft fs bs hd he (here u us p i) =
    let out : takes_out (t.held o) ≡ true = ap (λ (z : Entry). takes_out z.hold) (sym is) ∙ he in
    let other : is_some (u.held o) ≡ true = ap (λ (z : Entry). is_some z.hold) (sym i) ∙ hd in
    let w = two_hold o t u ft fs.0 bs.0 (out_some (t.held o) out) other (inl out) in
    absurd (let y : false ≡ true = sym (ap takes_out w.2) ∙ out in cc)

none_holds : (o : ℕ) (p : Path) (d : Entry) (ts : List Live) → Holds_as o p d ts → ts ≡ [] → ⊥
none_holds o p d _ (here t ts e x) n = absurd (cc)
none_holds o p d _ (later t ts x) n = absurd (cc)

reads_before : (o : ℕ) (q r : Path) (d e : Entry) (ts : List Live) → same_path q r ≡ false → Every Fit ts → Pairs (Before o) ts → Pairs InOrder ts
    → is_some d.hold ≡ true → takes_out e.hold ≡ true → Holds_as o q d ts → Holds_as o r e ts → ReadsBefore d q r
reads_before o q r d e [] n fs bs os hd he a b = absurd (none_holds o q d [] a refl)
reads_before o q r d e (t ∷ ts) n fs bs os hd he (here _ _ p i) (here _ _ p' i') =
    absurd (let y : true ≡ false = sym (ap (same_path q) (sym p' ∙ p) ∙ path_same q) ∙ n in cc)
reads_before o q r d e (t ∷ ts) n fs bs os hd he (here _ _ p i) (later _ _ b) = reader_first o q r d e t ts p i fs.0 fs.1 bs.0 os.0 hd he b
reads_before o q r d e (t ∷ ts) n fs bs os hd he (later _ _ a) (here _ _ p i) = absurd (writer_last o q d e t ts i fs.0 fs.1 bs.0 hd he a)
reads_before o q r d e (t ∷ ts) n fs bs os hd he (later _ _ a) (later _ _ b) = reads_before o q r d e ts n fs.1 bs.1 os.1 hd he a b

-- one task alone has a content out
no_two : (o : ℕ) (q r : Path) (d e : Entry) (t : Live) (us : List Live) → d ≡ record { path = t.path; rights = t.rights o; hold = t.held o; version = t.versions o }
    → Every (Before o t) us → takes_out d.hold ≡ true → takes_out e.hold ≡ true → Holds_as o r e us → ⊥
no_two o q r d e t _ is bs hd he (later u us x) = no_two o q r d e t us is bs.1 hd he x
no_two o q r d e t _ is bs hd he (here u us p i) =
    bs.0.one (ap (λ (z : Entry). takes_out z.hold) (sym is) ∙ hd) (ap (λ (z : Entry). takes_out z.hold) (sym i) ∙ he)

one_out : (o : ℕ) (q r : Path) (d e : Entry) (ts : List Live) → Pairs (Before o) ts → takes_out d.hold ≡ true → takes_out e.hold ≡ true → Holds_as o q d ts
    → Holds_as o r e ts → same_path q r ≡ true
one_out o q r d e [] bs hd he a b = absurd (none_holds o q d [] a refl)
one_out o q r d e (t ∷ ts) bs hd he (here _ _ p i) (here _ _ p' i') = ap (same_path q) (sym p' ∙ p) ∙ path_same q
one_out o q r d e (t ∷ ts) bs hd he (here _ _ p i) (later _ _ b) = absurd (no_two o q r d e t ts i bs.0 hd he b)
one_out o q r d e (t ∷ ts) bs hd he (later _ _ a) (here _ _ p i) = absurd (no_two o r q e d t ts i bs.0 he hd a)
one_out o q r d e (t ∷ ts) bs hd he (later _ _ a) (later _ _ b) = one_out o q r d e ts bs.1 hd he a b

-- a roll that goes on stays in order
quiet_path : (e : Event) (f : ℕ → Cells) (t : Live) → (quietly e f t).path ≡ t.path
quiet_path (Take o m) f t = refl
quiet_path (Give o) f t = refl
quiet_path (Shift o a) f t = refl
quiet_path (Leave o) f t = refl
quiet_path (Enter o a) f t = refl
quiet_path (Enroll x n) f t = refl
quiet_path (TouchRead o c v) f t = refl
quiet_path (TouchWrite o c v) f t = refl
quiet_path (Wants o c) f t = refl
quiet_path (Resign b n) f t = refl

event_order : (b l : List Live) (t : Live) (f : ℕ → Cells) → Pairs InOrder (b ++ (t ∷ l)) → Pairs Apart (b ++ (t ∷ l)) → (es : List Event)
    → Pairs InOrder (b ++ ((event_done es f t).tasks ++ l))
event_order b l t f h far (e ∷ es) = same_order b t (with_pending es (quietly e f t)) l h (quiet_path e f t)
event_order b l t f h far [] = go t.doing.course
  where
    go : (c : Course) → Pairs InOrder (b ++ ((deed_done c f t).tasks ++ l))
    go (Reads o c on) = same_order b t (going_on (on (value_in (content_for t o (f o)) c)) t.doing.steps t) l h refl
    go (Writes o c v on) = same_order b t (going_on on t.doing.steps (record t { place = tt })) l h refl
    go (Creates child body on) = enroll_order b t (child_of child body t) (going_on on 0 (record t { part = suc t.part; place = tt })) l h far refl refl
    go (Ends x) = less_order b t l h
    go (Steps on) = h
    go (Changes new on) = h

pub state_order : (p : AbstractProgram) (ns : List ℤ) (limit : ℕ) → Proper (root_spec p) (root_course p ns limit) → (st : State) → reaches.Reached p ns limit st
    → Pairs InOrder st.roll
state_order p ns limit proper _ reaches.starts = (tt, tt)
state_order p ns limit proper _ (reaches.steps {st = st} b l c r roll allowed) =
    event_order b l c st.contents (subst (Pairs InOrder) roll (state_order p ns limit proper st r))
    (subst (Pairs Apart) roll ((reached_sound p ns limit proper st r).by (λ o. [])).apart) c.doing.pending

module _ (proper : (p : AbstractProgram) (ns : List ℤ) (limit : ℕ) → Proper (root_spec p) (root_course p ns limit)) (p : Program) (ns : List ℤ) (limit : ℕ) (seats : List Seat) (ss : List ObjectView)
    (m : Mirror p ns limit seats ss) where
  known : Going (λ o. []) (length (sizes p.items)) (marks_by (program p) ns limit (λ o. turns_on o m.state.log ++ [])) (zeros (sizes p.items)) m.state
  known = m.sound.by (λ o. [])

  order : Pairs InOrder m.state.roll
  order = state_order (program p) ns limit (proper (program p) ns limit) m.state m.reached

  rows : (o : ℕ) → (shelf_at ss o).queue ≡ line o m.state.roll
  rows o = ap (λ (y : ObjectView). y.queue) (m.shown.shelves o)

  queue_of : (o : ℕ) → is_ordered (shelf_at ss o).queue ≡ true
  queue_of o = ap is_ordered (rows o) ∙ ordered_line o m.state.roll order known.apart

  one_of : (o : ℕ) (q r : List ℕ) (d e : Entry) → find q (shelf_at ss o).queue ≡ Some d → takes_out d.hold ≡ true
      → find r (shelf_at ss o).queue ≡ Some e → takes_out e.hold ≡ true → same_path q r ≡ true
  one_of o q r d e a hd b he =
      one_out o q r d e m.state.roll (known.before o) hd he (line_holds q o m.state.roll d (ap (find q) (sym (rows o)) ∙ a) (out_some d.hold hd))
      (line_holds r o m.state.roll e (ap (find r) (sym (rows o)) ∙ b) (out_some e.hold he))

  readers_of : (o : ℕ) (q r : List ℕ) (d e : Entry) → same_path q r ≡ false → find q (shelf_at ss o).queue ≡ Some d → is_some d.hold ≡ true
      → find r (shelf_at ss o).queue ≡ Some e → takes_out e.hold ≡ true → ReadsBefore d q r
  readers_of o q r d e n a hd b he =
      reads_before o q r d e m.state.roll n known.fits (known.before o) order hd he (line_holds q o m.state.roll d (ap (find q) (sym (rows o))
      ∙ a) hd) (line_holds r o m.state.roll e (ap (find r) (sym (rows o)) ∙ b) (out_some e.hold he))

module _ (proper : (p : AbstractProgram) (ns : List ℤ) (limit : ℕ) → Proper (root_spec p) (root_course p ns limit)) (p : Program) (ns : List ℤ) (limit : ℕ) where
  shows : CoreShows p ns limit
  shows = core_shows proper p ns limit

  pub in_serial_order : InSerialOrder p ns limit
  in_serial_order = record {
    tasks = λ k roll ss notes r i j s t a b lt. let m = shows.mirror k roll ss notes r in
        seats_ordered roll m.state.roll m.shown.seated (order proper p ns limit roll ss m) i j s t a b lt;
    queues = λ k roll ss notes r. queue_of proper p ns limit roll ss (shows.mirror k roll ss notes r);
  }

  pub entries_are_owned : EntriesAreOwned p ns limit
  entries_are_owned = record {
    owner = λ k roll ss notes r o j e q. let m = shows.mirror k roll ss notes r in
        entry_get (Owned roll) (line o m.state.roll) j e (line_owned o roll m.state.roll m.shown.seated)
        (ap (λ (x : ObjectView). slice_get x.queue j) (sym (m.shown.shelves o)) ∙ q);
  }

  pub held_alone : HeldAlone p ns limit
  held_alone = record {
    one = λ k roll ss notes r. one_of proper p ns limit roll ss (shows.mirror k roll ss notes r);
    readers = λ k roll ss notes r. readers_of proper p ns limit roll ss (shows.mirror k roll ss notes r);
  }
