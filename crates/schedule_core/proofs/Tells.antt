-- What the plain layer tells, from the sound state that it shows.
use Rattle.std.proofs.Common.{◌≡◌, ◌≢◌, ◌⊎◌, inl, inr, ℕ, zero, suc, Bool, true, false, not, ◌&&◌, ◌||◌, List, [], ◌∷◌, ◌++◌, refl, sym, ap, ◌∙◌, subst}
use Rattle.std.proofs.Common.{Option, Some, None, append-nil, append_assoc, arith}
use Rattle.std.specs.Prelude.{ℤ, slice_get, is_some, is_none, if◌then◌else◌}
use Rattle.jade_base.specs.declared.rights.Rights.{Rights}
use Rattle.jade_base.specs.declared.rights.Mode.{Mode}
use Rattle.jade_base.specs.declared.rights.Mode.TheVariants.{Reading, Writing, Commuting}
use Rattle.jade_base.specs.Rights.{is_there}
use Rattle.jade_meaning.specs.Specification.{rights_on}
use Rattle.jade_meaning.specs.Course.{Course, Reads, Writes, Steps, Creates, Changes, Ends}
use Rattle.jade_meaning.specs.Serial.{Path}
use Rattle.schedule_core.specs.Fitting as fitting
use Rattle.object_shelf.specs.Shelves.{holder_in, or_else, blocker_in, same_path, find, takes_out, keeper_in, at, released}
use Rattle.jade_meaning.specs.Laws.{Every}
use Rattle.object_shelf.specs.declared.queue.Entry.{Entry}
use Rattle.object_shelf.specs.Views.{ObjectView}
use Rattle.schedule_core.specs.declared.steps.Seat.{Seat}
use Rattle.schedule_core.specs.Core.{Cells, changes, touches, enters_still, handed_on, quiet}
use Rattle.schedule_core.specs.Unplaced.{Live}
use Rattle.schedule_core.specs.Sound.{Apart, Pairs, Fit, Before, Within, may, only_commutes}
use Rattle.schedule_core.specs.Shown.{slot, born_slots, slots, line, shelf_at, Seated}
use Rattle.schedule_core.specs.Mirror.{CoreShows, Mirror}
use Rattle.schedule_core.proofs.Showing.{path_same, same_is}
use Rattle.schedule_core.proofs.Mirrors.{find_away, find_own, split_at}
use Rattle.schedule_core.specs.Tells.{Holding, MayTake, MayGive, MayEnter, MayShift, MayLeave, CoreTells, EntriesAreThere}
use Rattle.object_shelf.specs.Whole.{is_out}
use Rattle.jade_meaning.specs.Talk.{Event, Enter, Enroll, Take, TouchRead, TouchWrite, Wants, Give, Leave, Shift, Resign}
use Rattle.jade_meaning.specs.Walk.{upcoming, First}
use Rattle.jade_meaning.specs.Doing.{from_deed, to_come}
use Rattle.jade_syntax.specs.declared.tree.Program.{Program}
use Rattle.schedule_core.specs.Core.{all_allow, allows}
use Rattle.schedule_core.specs.Shown.{Sits}
use Rattle.schedule_core.specs.Sound.{Orderly, Ready}
use Rattle.schedule_core.proofs.Showing.{Away, Elsewhere, born_away, slot_away, slots_away, before_away, line_away, line_both, at_away, free_is, keeper_none}
use Rattle.schedule_core.proofs.Moves.{ahead_is}
use Rattle.schedule_core.proofs.Lines.{every_append, every_with, every_front, every_back, pairs_front, pairs_back}
use Rattle.schedule_core.proofs.Changing.{touches_is, may_some, widen}
use Rattle.schedule_core.proofs.Alone.{mode_may}
use Rattle.schedule_core.proofs.Acts.{touch_less}
use Rattle.std.proofs.lemmas.Bool.{eq-eqb}

not_same : (p q : Path) → (p ≡ q → ⊥) → same_path p q ≡ false
not_same p q n = go (same_path p q) refl
  where
    go : (b : Bool) → same_path p q ≡ b → same_path p q ≡ false
    go true e = absurd (n (same_is p q e))
    go false e = e

-- seats with paths of their own
record Unlike (s t : Seat) : Type 0 where
  there : same_path s.path t.path ≡ false
  back : same_path t.path s.path ≡ false
  kid : same_path s.path (t.path ++ t.children ∷ []) ≡ false
  kid_back : same_path t.path (s.path ++ s.children ∷ []) ≡ false

unlike : (x y : Seat) (s t : Live) → s.path ≡ x.path → s.part ≡ x.children → t.path ≡ y.path → t.part ≡ y.children → Apart s t → Unlike x y
unlike x y s t p c q d far =
    let own : Within s.path s.part s.path = record { rest = []; is = sym (append-nil s.path); from = tt } in
    let other : Within t.path t.part t.path = record { rest = []; is = sym (append-nil t.path); from = tt } in
    let n : x.path ≡ y.path → ⊥ = λ e. far s.path own (record { rest = []; is = p ∙ e ∙ sym q ∙ sym (append-nil t.path); from = tt }) in
    let kid_t : x.path ≡ y.path ++ y.children ∷ [] → ⊥ = λ e. far s.path own (record {
      rest = t.part ∷ [];
      is = p ∙ e ∙ ap (λ z. z ++ y.children ∷ []) (sym q)
          ∙ ap (λ z. t.path ++ z ∷ []) (sym d);
      from = omega arith;
    }) in
    let kid_s : y.path ≡ x.path ++ x.children ∷ [] → ⊥ = λ e. far t.path (record {
      rest = s.part ∷ [];
      is = q ∙ e ∙ ap (λ z. z ++ x.children ∷ []) (sym p)
          ∙ ap (λ z. s.path ++ z ∷ []) (sym c);
      from = omega arith;
    }) other in
    record {
      there = not_same x.path y.path n;
      back = not_same y.path x.path (λ e. n (sym e));
      kid =
          not_same x.path (y.path ++ y.children ∷ []) kid_t;
      kid_back = not_same y.path (x.path ++ x.children ∷ []) kid_s;
    }

abbrev AllUnlike : List Seat → Type 0
AllUnlike [] = Unit {0}
AllUnlike (s ∷ ss) = Every (Unlike s) ss × AllUnlike ss

each_unlike : (s : Seat) (t : Live) (ss : List Seat) (ts : List Live) → t.path ≡ s.path → t.part ≡ s.children → Seated ss ts → Every (Apart t) ts
    → Every (Unlike s) ss
each_unlike s t [] [] e c h far = tt
each_unlike s t (x ∷ ss) [] e c h far = absurd h
each_unlike s t [] (u ∷ ts) e c h far = absurd h
each_unlike s t (x ∷ ss) (u ∷ ts) e c h far = (unlike s x t u e c h.0.path h.0.part far.0, each_unlike s t ss ts e c h.1 far.1)

all_unlike : (ss : List Seat) (ts : List Live) → Seated ss ts → Pairs Apart ts → AllUnlike ss
all_unlike [] [] h far = tt
all_unlike (x ∷ ss) [] h far = absurd h
all_unlike [] (u ∷ ts) h far = absurd h
all_unlike (x ∷ ss) (u ∷ ts) h far = (each_unlike x u ss ts h.0.path h.0.part h.1 far.0, all_unlike ss ts h.1 far.1)

some_seat : (s t : Seat) → ◌≡◌ {A = Option Seat} (Some s) (Some t) → s ≡ t
some_seat s t e = cc

every_get : (P : Seat → Type 0) (ss : List Seat) (i : ℕ) (s : Seat) → Every P ss → slice_get ss i ≡ Some s → P s
every_get P [] i s h e = absurd (cc)
every_get P (x ∷ ss) zero s h e = subst P (some_seat x s e) h.0
every_get P (x ∷ ss) (suc i) s h e = every_get P ss i s h.1 e

apart_at : (ss : List Seat) → AllUnlike ss → (i j : ℕ) (s t : Seat) → slice_get ss i ≡ Some s → slice_get ss j ≡ Some t → i ≢ j → same_path s.path t.path
    ≡ false
apart_at [] h i j s t a b ne = absurd (cc)
apart_at (x ∷ ss) h zero zero s t a b ne = absurd (ne refl)
apart_at (x ∷ ss) h zero (suc j) s t a b ne = ap (λ (z : Seat). same_path z.path t.path) (sym (some_seat x s a)) ∙ (every_get (Unlike x) ss j t h.0 b).there
apart_at (x ∷ ss) h (suc i) zero s t a b ne = ap (λ (z : Seat). same_path s.path z.path) (sym (some_seat x t b)) ∙ (every_get (Unlike x) ss i s h.0 a).back
apart_at (x ∷ ss) h (suc i) (suc j) s t a b ne = apart_at ss h.1 i j s t a b (λ e. ne (ap suc e))

kid_at : (ss : List Seat) → AllUnlike ss → (i j : ℕ) (s t : Seat) → slice_get ss i ≡ Some s → slice_get ss j ≡ Some t → i ≢ j
    → same_path s.path (t.path ++ t.children ∷ []) ≡ false
kid_at [] h i j s t a b ne = absurd (cc)
kid_at (x ∷ ss) h zero zero s t a b ne = absurd (ne refl)
kid_at (x ∷ ss) h zero (suc j) s t a b ne = ap (λ (z : Seat). same_path z.path (t.path ++ t.children ∷ [])) (sym (some_seat x s a))
    ∙ (every_get (Unlike x) ss j t h.0 b).kid
kid_at (x ∷ ss) h (suc i) zero s t a b ne = ap (λ (z : Seat). same_path s.path (z.path ++ z.children ∷ [])) (sym (some_seat x t b))
    ∙ (every_get (Unlike x) ss i s h.0 a).kid_back
kid_at (x ∷ ss) h (suc i) (suc j) s t a b ne = kid_at ss h.1 i j s t a b (λ e. ne (ap suc e))

-- a live task of the path has the object out
data HasOut (o : ℕ) (p : Path) : List Live → Type 0 where
  here : (t : Live) (ts : List Live) → t.path ≡ p → takes_out (t.held o) ≡ true → HasOut o p (t ∷ ts)
  later : (t : Live) (ts : List Live) → HasOut o p ts → HasOut o p (t ∷ ts)

pub some_entry : (d e : Entry) → ◌≡◌ {A = Option Entry} (Some d) (Some e) → d ≡ e
some_entry d e q = cc

pub find_both : (p : Path) (es fs : List Entry) (d : Entry) → find p (es ++ fs) ≡ Some d → (find p es ≡ Some d) ⊎ (find p fs ≡ Some d)
find_both p [] fs d h = inr h
find_both p (e ∷ es) fs d h = go (find_both p es fs d) (same_path p e.path) refl
  where
    go : (find p (es ++ fs) ≡ Some d → (find p es ≡ Some d) ⊎ (find p fs ≡ Some d)) → (b : Bool) → same_path p e.path ≡ b → (find p (e ∷ es) ≡ Some d)
        ⊎ (find p fs ≡ Some d)
    go more true q = inl (ap (λ b. if b then Some e else find p es) q ∙ sym (ap (λ b. if b then Some e else find p (es ++ fs)) q) ∙ h)
    go more false q = turn (more (sym (ap (λ b. if b then Some e else find p (es ++ fs)) q) ∙ h))
      where
        turn : (find p es ≡ Some d) ⊎ (find p fs ≡ Some d) → (find p (e ∷ es) ≡ Some d) ⊎ (find p fs ≡ Some d)
        turn (inl x) = inl (ap (λ b. if b then Some e else find p es) q ∙ x)
        turn (inr x) = inr x

pub takes_writing : (h : Option Mode) → takes_out h ≡ true → takes_out h ≡ true
takes_writing None e = absurd (cc)
takes_writing (Some Reading) e = absurd (cc)
takes_writing (Some Writing) e = refl
takes_writing (Some Commuting) e = refl

slot_out : (p q : Path) (a : Rights) (h : Option Mode) (v : Option Cells) (d : Entry) → find p (slot q a h v) ≡ Some d → takes_out d.hold ≡ true → (q ≡ p)
    × (takes_out h ≡ true)
slot_out p q a h v d = go (touches a)
  where
    row : Entry
    row = record { path = q; rights = a; hold = h; version = v }

    inner : (b : Bool) → same_path p q ≡ b → (if b then Some row else None) ≡ Some d → takes_out d.hold ≡ true → (q ≡ p) × (takes_out h ≡ true)
    inner true e f t = (sym (same_is p q e), takes_writing h (ap (λ (x : Entry). takes_out x.hold) (some_entry row d f) ∙ t))
    inner false e f t = absurd (cc)

    go : (b : Bool) → find p (if b then row ∷ [] else []) ≡ Some d → takes_out d.hold ≡ true → (q ≡ p) × (takes_out h ≡ true)
    go true f t = inner (same_path p q) refl f t
    go false f t = absurd (cc)

born_out : (p : Path) (c : Course) (o : ℕ) (t : Live) (d : Entry) → find p (born_slots c o t) ≡ Some d → takes_out d.hold ≡ true → ⊥
born_out p (Creates child body on) o t d f x = go (enters_still o t.doing.pending) f x
  where
    go : (b : Bool) → find p (if b then [] else slot (t.path ++ t.part ∷ []) (rights_on child o) None (handed_on t o)) ≡ Some d → takes_out d.hold ≡ true → ⊥
    go true g y = absurd (cc)
    go false g y = absurd (let r : false ≡ true = (slot_out p (t.path ++ t.part ∷ []) (rights_on child o) None (handed_on t o) d g y).1 in cc)
born_out p (Reads q c on) o t d f x = absurd (cc)
born_out p (Writes q c v on) o t d f x = absurd (cc)
born_out p (Steps on) o t d f x = absurd (cc)
born_out p (Changes new on) o t d f x = absurd (cc)
born_out p (Ends b) o t d f x = absurd (cc)

slots_out : (p : Path) (o : ℕ) (t : Live) (d : Entry) → find p (slots o t) ≡ Some d → takes_out d.hold ≡ true → (t.path ≡ p) × (takes_out (t.held o) ≡ true)
slots_out p o t d f x = go (find_both p (born_slots t.doing.course o t) (slot t.path (t.rights o) (t.held o) (t.versions o)) d f)
  where
    go : (find p (born_slots t.doing.course o t) ≡ Some d) ⊎ (find p (slot t.path (t.rights o) (t.held o) (t.versions o)) ≡ Some d) → (t.path ≡ p)
        × (takes_out (t.held o) ≡ true)
    go (inl y) = absurd (born_out p t.doing.course o t d y x)
    go (inr y) = slot_out p t.path (t.rights o) (t.held o) (t.versions o) d y x

line_out : (p : Path) (o : ℕ) (ts : List Live) (d : Entry) → find p (line o ts) ≡ Some d → takes_out d.hold ≡ true → HasOut o p ts
line_out p o [] d f x = absurd (cc)
line_out p o (t ∷ ts) d f x = go (λ g. line_out p o ts d g x) (find_both p (slots o t) (line o ts) d f)
  where
    go : (find p (line o ts) ≡ Some d → HasOut o p ts) → (find p (slots o t) ≡ Some d) ⊎ (find p (line o ts) ≡ Some d) → HasOut o p (t ∷ ts)
    go more (inl y) = let r = slots_out p o t d y x in here t ts r.0 r.1
    go more (inr y) = later t ts (more y)

-- of two tasks one alone has it
record Lone (o : ℕ) (s t : Live) : Type 0 where
  not_both : takes_out (s.held o) ≡ true → takes_out (t.held o) ≡ true → ⊥

every_out : (o : ℕ) (s : Live) (q : Path) (ts : List Live) → Every (Lone o s) ts → takes_out (s.held o) ≡ true → HasOut o q ts → ⊥
every_out o s q _ h w (here t ts e x) = h.0.not_both w x
every_out o s q _ h w (later t ts x) = every_out o s q ts h.1 w x

none_out : (o : ℕ) (p : Path) (ts : List Live) → HasOut o p ts → ts ≡ [] → ⊥
none_out o p _ (here t ts e x) n = absurd (cc)
none_out o p _ (later t ts x) n = absurd (cc)

one_out : (o : ℕ) (p q : Path) (ts : List Live) → Pairs (Lone o) ts → HasOut o p ts → HasOut o q ts → p ≡ q
one_out o p q [] h a b = absurd (none_out o p [] a refl)
one_out o p q (t ∷ ts) h (here _ _ e x) (here _ _ f y) = sym e ∙ f
one_out o p q (t ∷ ts) h (here _ _ e x) (later _ _ b) = absurd (every_out o t q ts h.0 x b)
one_out o p q (t ∷ ts) h (later _ _ a) (here _ _ f y) = absurd (every_out o t p ts h.0 y a)
one_out o p q (t ∷ ts) h (later _ _ a) (later _ _ b) = one_out o p q ts h.1 a b

pub may_changes : (h : Option Mode) (a : Rights) → takes_out h ≡ true → may h a ≡ true → changes a ≡ true
may_changes None a w m = absurd (cc)
may_changes (Some Reading) a w m = absurd (cc)
may_changes (Some Writing) a w m = ap (λ z. z || is_there a.commutes) m
may_changes (Some Commuting) a w m = go (is_there a.writes) m
  where
    go : (b : Bool) → is_there a.commutes ≡ true → b || is_there a.commutes ≡ true
    go true e = refl
    go false e = e

every_lone : (o : ℕ) (s : Live) (ts : List Live) → Every (Before o s) ts → Every (Lone o s) ts
every_lone o s [] h = tt
every_lone o s (t ∷ ts) h = (record { not_both = h.0.one }, every_lone o s ts h.1)

pairs_lone : (o : ℕ) (ts : List Live) → Pairs (Before o) ts → Pairs (Lone o) ts
pairs_lone o [] h = tt
pairs_lone o (t ∷ ts) h = (every_lone o t ts h.0, pairs_lone o ts h.1)

-- no entry has the content out
none_out_there : (es : List Entry) → holder_in es ≡ None → is_out es ≡ false
none_out_there [] h = refl
none_out_there (e ∷ es) h = go (takes_out e.hold) h (λ k. none_out_there es k)
  where
    go : (b : Bool) → (if b then Some e else holder_in es) ≡ None → (holder_in es ≡ None → is_out es ≡ false) → b || is_out es ≡ false
    go true h f = absurd (cc)
    go false h f = f h

-- a path is not that of a child
pub longer : (p : Path) (k : ℕ) → p ≡ p ++ k ∷ [] → ⊥
longer [] k e = absurd (cc)
longer (i ∷ p) k e = longer p k (let f : p ≡ p ++ k ∷ [] = cc in f)

-- a task's own entry
pub own_found : (o : ℕ) (b l : List Live) (t : Live) → Pairs Apart (b ++ (t ∷ l)) → touches (t.rights o) ≡ true
    → find t.path (line o (b ++ (t ∷ l))) ≡ Some (record { path = t.path; rights = t.rights o; hold = t.held o; version = t.versions o })
own_found o b l t far x =
    let front = line_away t.path o b (every_with (λ z. Apart z t) (λ z. Away t.path (slots o z)) (λ z g. before_away o t z g) b
    (pairs_front Apart b t l far)) in
    let born = born_slots t.doing.course o t in
    let mine = slot t.path (t.rights o) (t.held o) (t.versions o) in
    ap (find t.path) (line_both o b (t ∷ l)) ∙ find_away t.path (line o b) (line o (t ∷ l)) front ∙ ap (find t.path) (append_assoc born mine (line o l))
    ∙ find_away t.path born (mine ++ line o l) (born_away t.path t.doing.course o t (longer t.path t.part))
    ∙ find_own t.path (t.rights o) (t.held o) (t.versions o) (line o l) x

-- a task's next event is pending
pub record Heads (t : Live) (e : Event) : Type 0 where
  pub rest : List Event
  pub is : t.doing.pending ≡ e ∷ rest

pub take_heads : (t : Live) (o : ℕ) (m : Mode) → First (to_come t.doing []) (λ x. x ≡ Take o m) → Heads t (Take o m)
take_heads t o m h = go t.doing.pending refl h
  where
    deed : (c : Course) → First (from_deed c t.doing.spec t.doing.plan t.doing.steps []) (λ x. x ≡ Take o m) → Heads t (Take o m)
    deed (Reads q c on) h = absurd (cc)
    deed (Writes q c v on) h = absurd (cc)
    deed (Creates child body on) h = absurd (cc)
    deed (Ends b) h = absurd (cc)
    deed (Steps on) h = absurd h
    deed (Changes new on) h = absurd h

    go : (es : List Event) → t.doing.pending ≡ es → First (es ++ from_deed t.doing.course t.doing.spec t.doing.plan t.doing.steps []) (λ x. x ≡ Take o m)
        → Heads t (Take o m)
    go [] q h = deed t.doing.course h
    go (e ∷ es) q h = record { rest = es; is = q ∙ ap (λ x. x ∷ es) h }

write_holds : (t : Live) (o c : ℕ) (v : ℤ) → Orderly t.doing.spec t.doing.plan t.doing.course t.doing.pending t.rights t.held
    → First (to_come t.doing []) (λ x. x ≡ TouchWrite o c v) → takes_out (t.held o) ≡ true
write_holds t o c v order h = go t.doing.pending t.doing.course order h
  where
    deed : (c' : Course) → Ready t.held c' → First (from_deed c' t.doing.spec t.doing.plan t.doing.steps []) (λ x. x ≡ TouchWrite o c v) → takes_out (t.held o)
        ≡ true
    deed (Writes q d w on) r h = let same : q ≡ o = cc in subst (λ z. takes_out (t.held z) ≡ true) same r
    deed (Reads q d on) r h = absurd (cc)
    deed (Creates child body on) r h = absurd (cc)
    deed (Ends b) r h = absurd (cc)
    deed (Steps on) r h = absurd h
    deed (Changes new on) r h = absurd h

    go : (es : List Event) (c' : Course) → Orderly t.doing.spec t.doing.plan c' es t.rights t.held
        → First (es ++ from_deed c' t.doing.spec t.doing.plan t.doing.steps []) (λ x. x ≡ TouchWrite o c v) → takes_out (t.held o) ≡ true
    go [] c' order h = deed c' order.1 h
    go (e ∷ es) c' order h = absurd (subst (λ x. Orderly t.doing.spec t.doing.plan c' (x ∷ es) t.rights t.held) h order)

pub read_holds : (t : Live) (o c : ℕ) → Orderly t.doing.spec t.doing.plan t.doing.course t.doing.pending t.rights t.held
    → First (to_come t.doing []) (λ x. x ≡ Wants o c) → is_some (t.held o) ≡ true
read_holds t o c order h = go t.doing.pending t.doing.course order h
  where
    deed : (c' : Course) → Ready t.held c' → First (from_deed c' t.doing.spec t.doing.plan t.doing.steps []) (λ x. x ≡ Wants o c) → is_some (t.held o) ≡ true
    deed (Reads q d on) r h = let same : q ≡ o = cc in subst (λ z. is_some (t.held z) ≡ true) same r
    deed (Writes q d w on) r h = absurd (cc)
    deed (Creates child body on) r h = absurd (cc)
    deed (Ends b) r h = absurd (cc)
    deed (Steps on) r h = absurd h
    deed (Changes new on) r h = absurd h

    go : (es : List Event) (c' : Course) → Orderly t.doing.spec t.doing.plan c' es t.rights t.held
        → First (es ++ from_deed c' t.doing.spec t.doing.plan t.doing.steps []) (λ x. x ≡ Wants o c) → is_some (t.held o) ≡ true
    go [] c' order h = deed c' order.1 h
    go (e ∷ es) c' order h = absurd (subst (λ x. Orderly t.doing.spec t.doing.plan c' (x ∷ es) t.rights t.held) h order)

-- no task has an object's content out
out_both : (xs ys : List Entry) → is_out xs ≡ false → is_out ys ≡ false → is_out (xs ++ ys) ≡ false
out_both [] ys h g = g
out_both (x ∷ xs) ys h g = go (takes_out x.hold) (out_both xs ys) h
  where
    go : (b : Bool) → (is_out xs ≡ false → is_out ys ≡ false → is_out (xs ++ ys) ≡ false) → b || is_out xs ≡ false → b || is_out (xs ++ ys) ≡ false
    go true f h = absurd (cc)
    go false f h = f h g

takes_is : (h : Option Mode) → takes_out h ≡ false → takes_out h ≡ false
takes_is None e = refl
takes_is (Some Reading) e = refl
takes_is (Some Writing) e = e
takes_is (Some Commuting) e = e

slot_home : (p : Path) (a : Rights) (h : Option Mode) (v : Option Cells) → takes_out h ≡ false → is_out (slot p a h v) ≡ false
slot_home p a h v e = go (touches a)
  where
    go : (b : Bool) → is_out (if b then record { path = p; rights = a; hold = h; version = v } ∷ [] else []) ≡ false
    go true = ap (λ b. b || false) e
    go false = refl

born_home : (c : Course) (o : ℕ) (t : Live) → is_out (born_slots c o t) ≡ false
born_home (Creates child body on) o t = go (enters_still o t.doing.pending)
  where
    go : (b : Bool) → is_out (if b then [] else slot (t.path ++ t.part ∷ []) (rights_on child o) None (handed_on t o)) ≡ false
    go true = refl
    go false = slot_home (t.path ++ t.part ∷ []) (rights_on child o) None (handed_on t o) refl
born_home (Reads p c on) o t = refl
born_home (Writes p c v on) o t = refl
born_home (Steps on) o t = refl
born_home (Changes new on) o t = refl
born_home (Ends b) o t = refl

line_home : (o : ℕ) (ts : List Live) → Every (λ (t : Live). takes_out (t.held o) ≡ false) ts → is_out (line o ts) ≡ false
line_home o [] h = refl
line_home o (t ∷ ts) h =
    out_both (slots o t) (line o ts) (out_both (born_slots t.doing.course o t) (slot t.path (t.rights o) (t.held o) (t.versions o))
    (born_home t.doing.course o t) (slot_home t.path (t.rights o) (t.held o) (t.versions o) (takes_is (t.held o) h.0))) (line_home o ts h.1)

-- a task that does not conflict has nothing out
is_not : (b : Bool) → (b ≡ true → ⊥) → b ≡ false
is_not true f = absurd (f refl)
is_not false f = refl

allows_home : (o : ℕ) (m : Mode) (t : Live) → (m ≡ Commuting → ⊥) → Fit t → allows o m t ≡ true → takes_out (t.held o) ≡ false
allows_home o Reading t n fit h = is_not (takes_out (t.held o)) (λ w. let x = may_changes (t.held o) (t.rights o) w (fit.holds o) in let y : false ≡ true =
    sym (ap not x) ∙ h in absurd (let z = y in cc))
allows_home o Writing t n fit h = is_not (takes_out (t.held o)) (λ w. let x = may_changes (t.held o) (t.rights o) w (fit.holds o) in let y : false ≡ true =
    sym (ap (λ b. not b && (not (is_there (t.rights o).reads) || is_some (t.versions o))) x) ∙ h in absurd (let z = y in cc))
allows_home o Commuting t n fit h = absurd (n refl)

both_true : (a b : Bool) → a && b ≡ true → (a ≡ true) × (b ≡ true)
both_true true b h = (refl, h)
both_true false b h = absurd (cc)

all_home : (o : ℕ) (m : Mode) (ts : List Live) → (m ≡ Commuting → ⊥) → Every Fit ts → all_allow o m ts ≡ true
    → Every (λ (t : Live). takes_out (t.held o) ≡ false) ts
all_home o m [] n fits h = tt
all_home o m (t ∷ ts) n fits h =
    let r = both_true (allows o m t) (all_allow o m ts) h in
    (allows_home o m t n fits.0 r.0, all_home o m ts n fits.1 r.1)

-- behind a task that is neither quiet nor only commutes nobody has the content out
behind_home : (o : ℕ) (t : Live) (ts : List Live) → quiet o t ≡ false → only_commutes o t ≡ false → Every Fit ts → Every (Before o t) ts
    → Every (λ (u : Live). takes_out (u.held o) ≡ false) ts
behind_home o t [] q c f h = tt
behind_home o t (u ∷ ts) q c f h = (go (u.held o) refl, behind_home o t ts q c f.1 h.1)
  where
    go : (m : Option Mode) → u.held o ≡ m → takes_out (u.held o) ≡ false
    go None e = ap takes_out e
    go (Some Reading) e = ap takes_out e
    go (Some Writing) e = absurd (let y : false ≡ true = sym q ∙ h.0.writing e in cc)
    go (Some Commuting) e = absurd (let y : false ≡ true = sym (ap (λ z. z || only_commutes o t) q ∙ c) ∙ h.0.commuting e in cc)

every_join : (P : Live → Type 0) (xs ys : List Live) → Every P xs → Every P ys → Every P (xs ++ ys)
every_join P [] ys h g = g
every_join P (x ∷ xs) ys h g = (h.0, every_join P xs ys h.1 g)

-- who may take an object for reading or writing, and has no version, is not quiet and does more than commute
unquiet : (o : ℕ) (m : Mode) (t : Live) → (m ≡ Commuting → ⊥) → may (Some m) (t.rights o) ≡ true → is_none (t.versions o) ≡ true → (quiet o t ≡ false) × (only_commutes o t ≡ false)
unquiet o Writing t n w v =
    (ap (λ b. not b && (not (is_there (t.rights o).reads) || is_some (t.versions o))) (may_changes (Some Writing) (t.rights o) refl w), ap (λ b. not (is_there (t.rights o).reads) && not b) w ∙ both (not (is_there (t.rights o).reads)))
  where
    both : (b : Bool) → b && false ≡ false
    both true = refl
    both false = refl
unquiet o Commuting t n w v = absurd (n refl)
unquiet o Reading t n w v =
    (ap (λ b. not (changes (t.rights o)) && (not b || is_some (t.versions o))) w ∙ go (t.versions o) (not (changes (t.rights o))) v, ap (λ b. not b && not (is_there (t.rights o).writes)) w)
  where
    go : (x : Option Cells) (b : Bool) → is_none x ≡ true → b && (false || is_some x) ≡ false
    go None true e = refl
    go None false e = refl
    go (Some y) b e = absurd (cc)

none_of : (x : Option Cells) → (is_some x ≡ true → ⊥) → x ≡ None
none_of None f = refl
none_of (Some y) f = absurd (f refl)

may_take : (o : ℕ) (m : Mode) (b l : List Live) (t : Live) → Pairs Apart (b ++ (t ∷ l)) → Pairs (Before o) (b ++ (t ∷ l)) → Every Fit (b ++ (t ∷ l))
    → First (to_come t.doing []) (λ x. x ≡ Take o m) → keeper_in t.path m (line o (b ++ (t ∷ l))) ≡ None → MayTake m t.path (line o (b ++ (t ∷ l)))
may_take o m b l t far behind fits first clear =
    let back = every_back Fit b (t ∷ l) fits in
    let fit = back.0 in
    let head = take_heads t o m first in
    let order = subst (λ es. Orderly t.doing.spec t.doing.plan t.doing.course es t.rights t.held) head.is fit.orderly in
    let w : may (Some m) (t.rights o) ≡ true = mode_may (t.rights o) m order.1 in
    let front : all_allow o m b ≡ true = free_is o m b l t far (keeper_none t.path m (line o (b ++ (t ∷ l))) clear) in
    record {
      entry = record { path = t.path; rights = t.rights o; hold = t.held o; version = t.versions o };
      there = own_found o b l t far (may_some (Some m) (t.rights o) refl w);
      free = order.0;
      home = λ v. home_so m w v front order.0 clear;
      versionless = λ r. none_of (t.versions o) (λ x. keeps m r w order.0 (fit.keeps o x));
    }
  where
    plain_home : (m : Mode) → (m ≡ Commuting → ⊥) → may (Some m) (t.rights o) ≡ true → is_none (t.versions o) ≡ true → all_allow o m b ≡ true → t.held o ≡ None
        → is_out (line o (b ++ (t ∷ l))) ≡ false
    plain_home m n w v front free =
        let r = unquiet o m t n w v in
        line_home o (b ++ (t ∷ l)) (every_join (λ u. takes_out (u.held o) ≡ false) b (t ∷ l) (all_home o m b n (every_front Fit b (t ∷ l) fits) front) (
          ap takes_out free,
          behind_home o t l r.0 r.1 (every_back Fit b (t ∷ l) fits).1 (pairs_back (Before o) b t l behind),
        ))

    second_none : (x y : Option Entry) → or_else x y ≡ None → y ≡ None
    second_none None y e = e
    second_none (Some x) y e = absurd (cc)

    home_so : (m : Mode) → may (Some m) (t.rights o) ≡ true → is_none (t.versions o) ≡ true → all_allow o m b ≡ true → t.held o ≡ None
        → keeper_in t.path m (line o (b ++ (t ∷ l))) ≡ None → is_out (line o (b ++ (t ∷ l))) ≡ false
    home_so Reading w v front free clear = plain_home Reading (λ e. absurd (cc)) w v front free
    home_so Writing w v front free clear = plain_home Writing (λ e. absurd (cc)) w v front free
    home_so Commuting w v front free clear =
        none_out_there (line o (b ++ (t ∷ l))) (second_none (blocker_in t.path Commuting (line o (b ++ (t ∷ l)))) (holder_in (line o (b ++ (t ∷ l)))) clear)

    keeps : (m : Mode) → (m ≡ Reading → ⊥) → may (Some m) (t.rights o) ≡ true → t.held o ≡ None → (changes (t.rights o) ≡ true → t.held o ≡ Some Reading) → ⊥
    keeps Reading r w e f = r refl
    keeps Writing r w e f = absurd (let g : ◌≡◌ {A = Option Mode} None (Some Reading) = sym e ∙ f (may_changes (Some Writing) (t.rights o) refl w) in cc)
    keeps Commuting r w e f = absurd (let g : ◌≡◌ {A = Option Mode} None (Some Reading) = sym e ∙ f (may_changes (Some Commuting) (t.rights o) refl w) in cc)

may_write : (o c : ℕ) (v : ℤ) (b l : List Live) (t : Live) → Pairs Apart (b ++ (t ∷ l)) → Every Fit (b ++ (t ∷ l))
    → First (to_come t.doing []) (λ x. x ≡ TouchWrite o c v) → Holding takes_out t.path (line o (b ++ (t ∷ l)))
may_write o c v b l t far fits first =
    let fit = (every_back Fit b (t ∷ l) fits).0 in
    let out = write_holds t o c v fit.orderly first in
    record {
      entry = record { path = t.path; rights = t.rights o; hold = t.held o; version = t.versions o };
      there = own_found o b l t far (held_touches (t.held o) (t.rights o) (writing_some (t.held o) out) (fit.holds o));
      hold = writing_takes (t.held o) out;
    }
  where
    writing_some : (h : Option Mode) → takes_out h ≡ true → is_some h ≡ true
    writing_some None e = absurd (cc)
    writing_some (Some m) e = refl

    writing_takes : (h : Option Mode) → takes_out h ≡ true → takes_out h ≡ true
    writing_takes None e = absurd (cc)
    writing_takes (Some Reading) e = absurd (cc)
    writing_takes (Some Writing) e = refl
    writing_takes (Some Commuting) e = refl

    held_touches : (h : Option Mode) (a : Rights) → is_some h ≡ true → may h a ≡ true → touches a ≡ true
    held_touches h a s w = may_some h a s w

may_read : (o c : ℕ) (b l : List Live) (t : Live) → Pairs Apart (b ++ (t ∷ l)) → Every Fit (b ++ (t ∷ l)) → First (to_come t.doing []) (λ x. x ≡ Wants o c)
    → Holding (λ h. is_some h) t.path (line o (b ++ (t ∷ l)))
may_read o c b l t far fits first =
    let fit = (every_back Fit b (t ∷ l) fits).0 in
    let held = read_holds t o c fit.orderly first in
    record {
      entry = record { path = t.path; rights = t.rights o; hold = t.held o; version = t.versions o };
      there = own_found o b l t far (may_some (t.held o) (t.rights o) held (fit.holds o));
      hold = held;
    }

-- an event that is no deed stands among those that are pending
abbrev no_deed : Event → Bool
no_deed (Enter o a) = true
no_deed (Enroll t n) = false
no_deed (Take o m) = true
no_deed (TouchRead o c v) = false
no_deed (TouchWrite o c v) = false
no_deed (Wants o c) = false
no_deed (Give o) = true
no_deed (Leave o) = true
no_deed (Shift o a) = true
no_deed (Resign b n) = false

pub heads : (t : Live) (e : Event) → no_deed e ≡ true → First (to_come t.doing []) (λ x. x ≡ e) → Heads t e
heads t e quiet h = go t.doing.pending refl h
  where
    never : (x : Event) → no_deed x ≡ false → x ≡ e → Heads t e
    never x n q = absurd (let z : false ≡ true = sym n ∙ ap no_deed q ∙ quiet in cc)

    deed : (c : Course) → First (from_deed c t.doing.spec t.doing.plan t.doing.steps []) (λ x. x ≡ e) → Heads t e
    deed (Reads q c on) h = never (Wants q c) refl h
    deed (Writes q c v on) h = never (TouchWrite q c v) refl h
    deed (Creates child body on) h = never _ refl h
    deed (Ends b) h = never (Resign b t.doing.steps) refl h
    deed (Steps on) h = absurd h
    deed (Changes new on) h = absurd h

    go : (es : List Event) → t.doing.pending ≡ es → First (es ++ from_deed t.doing.course t.doing.spec t.doing.plan t.doing.steps []) (λ x. x ≡ e) → Heads t e
    go [] q h = deed t.doing.course h
    go (x ∷ es) q h = record { rest = es; is = q ∙ ap (λ y. y ∷ es) h }

-- once its holder has given it up, an object's content is at home
after_give : (o : ℕ) (b l : List Live) (t : Live) → Pairs Apart (b ++ (t ∷ l)) → Pairs (Lone o) (b ++ (t ∷ l)) → touches (t.rights o) ≡ true
    → takes_out (t.held o) ≡ true
    → is_out (at t.path released (line o (b ++ (t ∷ l)))) ≡ false
after_give o b l t far lone x w =
    let born = born_slots t.doing.course o t in
    let mine = slot t.path (t.rights o) (t.held o) (t.versions o) in
    let own : Entry = record { path = t.path; rights = t.rights o; hold = t.held o; version = t.versions o } in
    let list : Bool → List Entry = λ b. if b then own ∷ [] else [] in
    let front = line_away t.path o b (every_with (λ z. Apart z t) (λ z. Away t.path (slots o z)) (λ z g. before_away o t z g) b
    (pairs_front Apart b t l far)) in
    let split : line o (b ++ (t ∷ l)) ≡ line o b ++ (born ++ (mine ++ line o l)) = line_both o b (t ∷ l)
    ∙ ap (λ es. line o b ++ es) (append_assoc born mine (line o l)) in
    let last : at t.path released (mine ++ line o l) ≡ released own ∷ line o l = ap (λ b. at t.path released (list b ++ line o l)) x
    ∙ ap (λ b. if b then released own ∷ line o l else own ∷ at t.path released (line o l)) (path_same t.path) in
    let whole : at t.path released (line o (b ++ (t ∷ l))) ≡ line o b ++ (born ++ (released own ∷ line o l)) = ap (at t.path released) split
    ∙ at_away t.path released (line o b) (born ++ (mine ++ line o l)) front
    ∙ ap (λ es. line o b ++ es) (at_away t.path released born (mine ++ line o l) (born_away t.path t.doing.course o t (longer t.path t.part))
    ∙ ap (λ es. born ++ es) last) in
    let before = line_home o b (every_with (λ u. Lone o u t) (λ (u : Live). takes_out (u.held o)
    ≡ false) (λ u g. is_not (takes_out (u.held o)) (λ y. g.not_both y w)) b (pairs_front (Lone o) b t l lone)) in
    let behind = line_home o l (every_with (Lone o t) (λ (u : Live). takes_out (u.held o)
    ≡ false) (λ u g. is_not (takes_out (u.held o)) (λ y. g.not_both w y)) l (pairs_back (Lone o) b t l lone)) in
    ap is_out whole ∙ out_both (line o b) (born ++ (released own ∷ line o l)) before
    (out_both born (released own ∷ line o l) (born_home t.doing.course o t) behind)

may_give : (o : ℕ) (b l : List Live) (t : Live) → Pairs Apart (b ++ (t ∷ l)) → Pairs (Lone o) (b ++ (t ∷ l)) → Every Fit (b ++ (t ∷ l))
    → First (to_come t.doing []) (λ x. x ≡ Give o) → MayGive t.path (line o (b ++ (t ∷ l)))
may_give o b l t far lone fits first =
    let fit = (every_back Fit b (t ∷ l) fits).0 in
    let head = heads t (Give o) refl first in
    let order = subst (λ es. Orderly t.doing.spec t.doing.plan t.doing.course es t.rights t.held) head.is fit.orderly in
    let x = may_some (t.held o) (t.rights o) order.0 (fit.holds o) in
    record {
      entry = record { path = t.path; rights = t.rights o; hold = t.held o; version = t.versions o };
      there = own_found o b l t far x;
      held = order.0;
      home = λ w. after_give o b l t far lone x (takes_writing (t.held o) w);
    }

-- no entry of the next child
pub find_none : (p : Path) (es : List Entry) → Away p es → find p es ≡ None
find_none p [] h = refl
find_none p (e ∷ es) h = ap (λ b. if b then Some e else find p es) h.0.there ∙ find_none p es h.1

pub kid_before : (o : ℕ) (t s : Live) → Apart s t → Away (t.path ++ t.part ∷ []) (slots o s)
kid_before o t s far =
    let kid = t.path ++ t.part ∷ [] in
    let mine : Within t.path t.part kid = record { rest = t.part ∷ []; is = refl; from = omega arith } in
    slots_away kid o s (λ e. far kid (record { rest = []; is = e ∙ sym (append-nil s.path); from = tt }) mine) (λ e. far kid (record {
      rest = s.part ∷ [];
      is =
          e;
      from = omega arith;
    }) mine)

pub kid_after : (o : ℕ) (t u : Live) → Apart t u → Away (t.path ++ t.part ∷ []) (slots o u)
kid_after o t u far =
    let kid = t.path ++ t.part ∷ [] in
    let mine : Within t.path t.part kid = record { rest = t.part ∷ []; is = refl; from = omega arith } in
    slots_away kid o u (λ e. far kid mine (record { rest = []; is = e ∙ sym (append-nil u.path); from = tt })) (λ e. far kid mine (record {
      rest =
          u.part ∷ [];
      is = e;
      from = omega arith;
    }))

unborn : (p : Path) (c : Course) (o : ℕ) (t : Live) → enters_still o t.doing.pending ≡ true → Away p (born_slots c o t)
unborn p (Creates child body on) o t e = subst (λ b. Away p (if b then [] else slot (t.path ++ t.part ∷ []) (rights_on child o) None (handed_on t o))) (sym e)
    tt
unborn p (Reads q c on) o t e = tt
unborn p (Writes q c v on) o t e = tt
unborn p (Steps on) o t e = tt
unborn p (Changes new on) o t e = tt
unborn p (Ends b) o t e = tt

kid_away : (o : ℕ) (b l : List Live) (t : Live) → Pairs Apart (b ++ (t ∷ l)) → enters_still o t.doing.pending ≡ true
    → Away (t.path ++ t.part ∷ []) (line o (b ++ (t ∷ l)))
kid_away o b l t far e =
    let kid = t.path ++ t.part ∷ [] in
    let born = born_slots t.doing.course o t in
    let mine = slot t.path (t.rights o) (t.held o) (t.versions o) in
    let front = line_away kid o b (every_with (λ z. Apart z t) (λ z. Away kid (slots o z)) (λ z g. kid_before o t z g) b (pairs_front Apart b t l far)) in
    let back = line_away kid o l (every_with (Apart t) (λ u. Away kid (slots o u)) (λ u g. kid_after o t u g) l (pairs_back Apart b t l far)) in
    let own = every_append (Elsewhere kid) born mine (unborn kid t.doing.course o t e)
    (slot_away kid t.path (t.rights o) (t.held o) (t.versions o) (λ q. longer t.path t.part (sym q))) in
    subst (Away kid) (sym (line_both o b (t ∷ l))) (every_append (Elsewhere kid) (line o b) (slots o t ++ line o l) front
    (every_append (Elsewhere kid) (slots o t) (line o l) own back))

may_enter : (o : ℕ) (a : Rights) (b l : List Live) (t : Live) → Pairs Apart (b ++ (t ∷ l)) → Every Fit (b ++ (t ∷ l))
    → First (to_come t.doing []) (λ x. x ≡ Enter o a) → MayEnter t.path (t.path ++ t.part ∷ []) a (line o (b ++ (t ∷ l)))
may_enter o a b l t far fits first =
    let fit = (every_back Fit b (t ∷ l) fits).0 in
    let head = heads t (Enter o a) refl first in
    let order = subst (λ es. Orderly t.doing.spec t.doing.plan t.doing.course es t.rights t.held) head.is fit.orderly in
    let still : enters_still o t.doing.pending ≡ true = ap (enters_still o) head.is ∙ ap (λ b. b || enters_still o head.rest) (eq-eqb o o refl) in
    record {
      entry = record { path = t.path; rights = t.rights o; hold = t.held o; version = t.versions o };
      there = own_found o b l t far (touch_less a (t.rights o) order.0 (touches_is a ∙ order.1));
      absent = find_none (t.path ++ t.part ∷ []) (line o (b ++ (t ∷ l))) (kid_away o b l t far still);
      some = order.1;
      less = order.0;
    }

may_shift : (o : ℕ) (a : Rights) (b l : List Live) (t : Live) → Pairs Apart (b ++ (t ∷ l)) → Every Fit (b ++ (t ∷ l))
    → First (to_come t.doing []) (λ x. x ≡ Shift o a) → MayShift t.path a (line o (b ++ (t ∷ l)))
may_shift o a b l t far fits first =
    let fit = (every_back Fit b (t ∷ l) fits).0 in
    let head = heads t (Shift o a) refl first in
    let order = subst (λ es. Orderly t.doing.spec t.doing.plan t.doing.course es t.rights t.held) head.is fit.orderly in
    record {
      entry = record { path = t.path; rights = t.rights o; hold = t.held o; version = t.versions o };
      there = own_found o b l t far (touch_less a (t.rights o) (widen a (t.rights o) order.0) (touches_is a ∙ order.3));
      some = order.3;
      less = order.0;
      fits = order.1;
    }

may_leave : (o : ℕ) (b l : List Live) (t : Live) → Pairs Apart (b ++ (t ∷ l)) → Every Fit (b ++ (t ∷ l)) → First (to_come t.doing []) (λ x. x ≡ Leave o)
    → MayLeave t.path (line o (b ++ (t ∷ l)))
may_leave o b l t far fits first =
    let fit = (every_back Fit b (t ∷ l) fits).0 in
    let head = heads t (Leave o) refl first in
    let order = subst (λ es. Orderly t.doing.spec t.doing.plan t.doing.course es t.rights t.held) head.is fit.orderly in
    record {
      entry = record { path = t.path; rights = t.rights o; hold = t.held o; version = t.versions o };
      there = own_found o b l t far (touches_is (t.rights o) ∙ order.2);
      free = order.0;
    }

module _ (prog : Program) (ns : List ℤ) (limit : ℕ) (shows : CoreShows prog ns limit) where
  apart_of : (roll : List Seat) (ss : List ObjectView) → Mirror prog ns limit roll ss → AllUnlike roll
  apart_of roll ss m = all_unlike roll m.state.roll m.shown.seated (m.sound.by (λ o. [])).apart

  lone_of : (roll : List Seat) (ss : List ObjectView) (m : Mirror prog ns limit roll ss) (o : ℕ) → Pairs (Lone o) m.state.roll
  lone_of roll ss m o = pairs_lone o m.state.roll ((m.sound.by (λ o. [])).before o)

  alone_of : (roll : List Seat) (ss : List ObjectView) → Mirror prog ns limit roll ss → (o : ℕ) (p q : List ℕ) (d e : Entry) → find p (shelf_at ss o).queue
      ≡ Some d → takes_out d.hold ≡ true → find q (shelf_at ss o).queue ≡ Some e → takes_out e.hold ≡ true → same_path p q ≡ true
  alone_of roll ss m o p q d e a x b y =
      let rows : (shelf_at ss o).queue ≡ line o m.state.roll = ap (λ (s : ObjectView). s.queue) (m.shown.shelves o) in
      ap (same_path p) (sym (one_out o p q m.state.roll (lone_of roll ss m o) (line_out p o m.state.roll d (ap (find p) (sym rows)
      ∙ a) x) (line_out q o m.state.roll e (ap (find q) (sym rows) ∙ b) y))) ∙ path_same p

  -- a live task in the state that its seat shows
  record Placed_in (roll : List Seat) (ss : List ObjectView) (i : ℕ) (s : Seat) : Type 0 where
    front : List Live
    task : Live
    back : List Live
    sits : Sits s task
    apart : Pairs Apart (front ++ (task ∷ back))
    before : (o : ℕ) → Pairs (Before o) (front ++ (task ∷ back))
    lone : (o : ℕ) → Pairs (Lone o) (front ++ (task ∷ back))
    fits : Every Fit (front ++ (task ∷ back))
    rows : (o : ℕ) → (shelf_at ss o).queue ≡ line o (front ++ (task ∷ back))

  placed_in : (roll : List Seat) (ss : List ObjectView) → Mirror prog ns limit roll ss → (i : ℕ) (s : Seat) → slice_get roll i ≡ Some s → Placed_in roll ss i s
  placed_in roll ss m i s e =
      let at = split_at roll m.state.roll i s m.shown.seated e in
      let known = m.sound.by (λ o. []) in
      record {
        front = at.before;
        task = at.task;
        back = at.later;
        sits = at.sits;
        apart = subst (Pairs Apart) at.is known.apart;
        before = λ o. subst (Pairs (Before o)) at.is (known.before o);
        lone = λ o. subst (Pairs (Lone o)) at.is (lone_of roll ss m o);
        fits = subst (Every Fit) at.is known.fits;
        rows = λ o. ap (λ (x : ObjectView). x.queue) (m.shown.shelves o) ∙ ap (line o) at.is;
      }

  takes_of : (roll : List Seat) (ss : List ObjectView) → Mirror prog ns limit roll ss → (i : ℕ) (s : Seat) → slice_get roll i ≡ Some s → (o : ℕ) (m : Mode)
      → First (upcoming s.walker) (λ x. x ≡ Take o m) → keeper_in s.path m (shelf_at ss o).queue ≡ None → MayTake m s.path (shelf_at ss o).queue
  takes_of roll ss mirror i s e o m first clear =
      let x = placed_in roll ss mirror i s e in
      let q = x.rows o in
      let k : keeper_in x.task.path m (line o (x.front ++ (x.task ∷ x.back))) ≡ None =
      ap (λ p. keeper_in p m (line o (x.front ++ (x.task ∷ x.back)))) x.sits.path ∙ ap (keeper_in s.path m) (sym q) ∙ clear in
      let r = may_take o m x.front x.back x.task x.apart (x.before o) x.fits (ahead_is s x.task (λ y. y ≡ Take o m) x.sits first) k in
      subst (λ p. MayTake m p (shelf_at ss o).queue) x.sits.path (subst (λ es. MayTake m x.task.path es) (sym q) r)

  writes_of : (roll : List Seat) (ss : List ObjectView) → Mirror prog ns limit roll ss → (i : ℕ) (s : Seat) → slice_get roll i ≡ Some s → (o c : ℕ) (v : ℤ)
      → First (upcoming s.walker) (λ x. x ≡ TouchWrite o c v) → Holding takes_out s.path (shelf_at ss o).queue
  writes_of roll ss mirror i s e o c v first =
      let x = placed_in roll ss mirror i s e in
      let r = may_write o c v x.front x.back x.task x.apart x.fits (ahead_is s x.task (λ y. y ≡ TouchWrite o c v) x.sits first) in
      subst (λ p. Holding takes_out p (shelf_at ss o).queue) x.sits.path (subst (λ es. Holding takes_out x.task.path es) (sym (x.rows o)) r)

  reads_of : (roll : List Seat) (ss : List ObjectView) → Mirror prog ns limit roll ss → (i : ℕ) (s : Seat) → slice_get roll i ≡ Some s → (o c : ℕ)
      → First (upcoming s.walker) (λ x. x ≡ Wants o c) → Holding (λ h. is_some h) s.path (shelf_at ss o).queue
  reads_of roll ss mirror i s e o c first =
      let x = placed_in roll ss mirror i s e in
      let r = may_read o c x.front x.back x.task x.apart x.fits (ahead_is s x.task (λ y. y ≡ Wants o c) x.sits first) in
      subst (λ p. Holding (λ h. is_some h) p (shelf_at ss o).queue) x.sits.path (subst (λ es. Holding (λ h. is_some h) x.task.path es) (sym (x.rows o)) r)

  pub core_tells : CoreTells prog ns limit
  core_tells = record {
    apart = λ k roll ss notes r. apart_at roll (apart_of roll ss (shows.mirror k roll ss notes r));
    kids = λ k roll ss notes r. kid_at roll (apart_of roll ss (shows.mirror k roll ss notes r));
    alone = λ k roll ss notes r. alone_of roll ss (shows.mirror k roll ss notes r);
    takes = λ k roll ss notes r. takes_of roll ss (shows.mirror k roll ss notes r);
    writes = λ k roll ss notes r. writes_of roll ss (shows.mirror k roll ss notes r);
    reads = λ k roll ss notes r. reads_of roll ss (shows.mirror k roll ss notes r);
  }

  gives_of : (roll : List Seat) (ss : List ObjectView) → Mirror prog ns limit roll ss → (i : ℕ) (s : Seat) → slice_get roll i ≡ Some s → (o : ℕ)
      → First (upcoming s.walker) (λ x. x ≡ Give o) → MayGive s.path (shelf_at ss o).queue
  gives_of roll ss mirror i s e o first =
      let x = placed_in roll ss mirror i s e in
      let r = may_give o x.front x.back x.task x.apart (x.lone o) x.fits (ahead_is s x.task (λ y. y ≡ Give o) x.sits first) in
      subst (λ p. MayGive p (shelf_at ss o).queue) x.sits.path (subst (λ es. MayGive x.task.path es) (sym (x.rows o)) r)

  enters_of : (roll : List Seat) (ss : List ObjectView) → Mirror prog ns limit roll ss → (i : ℕ) (s : Seat) → slice_get roll i ≡ Some s → (o : ℕ) (a : Rights)
      → First (upcoming s.walker) (λ x. x ≡ Enter o a) → MayEnter s.path (s.path ++ s.children ∷ []) a (shelf_at ss o).queue
  enters_of roll ss mirror i s e o a first =
      let x = placed_in roll ss mirror i s e in
      let r = may_enter o a x.front x.back x.task x.apart x.fits (ahead_is s x.task (λ y. y ≡ Enter o a) x.sits first) in
      let here = subst (λ es. MayEnter x.task.path (x.task.path ++ x.task.part ∷ []) a es) (sym (x.rows o)) r in
      subst (λ k. MayEnter s.path (s.path ++ k ∷ []) a (shelf_at ss o).queue) x.sits.part
      (subst (λ p. MayEnter p (p ++ x.task.part ∷ []) a (shelf_at ss o).queue) x.sits.path here)

  shifts_of : (roll : List Seat) (ss : List ObjectView) → Mirror prog ns limit roll ss → (i : ℕ) (s : Seat) → slice_get roll i ≡ Some s → (o : ℕ) (a : Rights)
      → First (upcoming s.walker) (λ x. x ≡ Shift o a) → MayShift s.path a (shelf_at ss o).queue
  shifts_of roll ss mirror i s e o a first =
      let x = placed_in roll ss mirror i s e in
      let r = may_shift o a x.front x.back x.task x.apart x.fits (ahead_is s x.task (λ y. y ≡ Shift o a) x.sits first) in
      subst (λ p. MayShift p a (shelf_at ss o).queue) x.sits.path (subst (λ es. MayShift x.task.path a es) (sym (x.rows o)) r)

  leaves_of : (roll : List Seat) (ss : List ObjectView) → Mirror prog ns limit roll ss → (i : ℕ) (s : Seat) → slice_get roll i ≡ Some s → (o : ℕ)
      → First (upcoming s.walker) (λ x. x ≡ Leave o) → MayLeave s.path (shelf_at ss o).queue
  leaves_of roll ss mirror i s e o first =
      let x = placed_in roll ss mirror i s e in
      let r = may_leave o x.front x.back x.task x.apart x.fits (ahead_is s x.task (λ y. y ≡ Leave o) x.sits first) in
      subst (λ p. MayLeave p (shelf_at ss o).queue) x.sits.path (subst (λ es. MayLeave x.task.path es) (sym (x.rows o)) r)

  pub entries_are_there : EntriesAreThere prog ns limit
  entries_are_there = record {
    gives = λ k roll ss notes r. gives_of roll ss (shows.mirror k roll ss notes r);
    enters = λ k roll ss notes r. enters_of roll ss (shows.mirror k roll ss notes r);
    shifts = λ k roll ss notes r. shifts_of roll ss (shows.mirror k roll ss notes r);
    leaves = λ k roll ss notes r. leaves_of roll ss (shows.mirror k roll ss notes r);
  }
