-- How the entries of an object stand to each other.
use Rattle.std.proofs.Common.{◌≡◌, ℕ, zero, suc, ◌<◌, Bool, true, false, not, ◌&&◌, ◌||◌, List, [], ◌∷◌, ◌++◌, refl, sym, ap, ◌∙◌, subst, Option, Some, None, arith}
use Rattle.std.proofs.Common.{◌⊎◌, inl, inr}
use Rattle.std.specs.Prelude.{ℤ, nat_eq, slice_get, is_some, if◌then◌else◌}
use Rattle.jade_base.specs.declared.rights.Rights.{Rights}
use Rattle.jade_base.specs.declared.rights.Mode.{Mode}
use Rattle.jade_base.specs.declared.rights.Mode.TheVariants.{Reading, Writing, Commuting}
use Rattle.jade_base.specs.Rights.{is_there, has_rights}
use Rattle.jade_syntax.specs.Abstract.{AbstractProgram}
use Rattle.jade_syntax.specs.declared.tree.Program.{Program}
use Rattle.jade_meaning.specs.Specification.{Specification, rights_on, yields, covers}
use Rattle.jade_meaning.specs.Course.{Course, Reads, Writes, Steps, Creates, Changes, Ends, root_spec, root_course}
use Rattle.jade_meaning.specs.Talk.{Holds, Event, Enter, Enroll, Take, TouchRead, TouchWrite, Wants, Give, Leave, Shift, Resign}
use Rattle.jade_meaning.specs.Laws.{Every}
use Rattle.jade_meaning.specs.Proper.{Proper, proper_read, proper_write, proper_step, proper_create, proper_change, proper_end}
use Rattle.jade_meaning.specs.Serial.{Path}
use Rattle.object_shelf.specs.declared.queue.Entry.{Entry}
use Rattle.object_shelf.specs.Views.{ObjectView}
use Rattle.schedule_core.specs.declared.steps.Seat.{Seat}
use Rattle.task_roll.specs.declared.note.PartNote.{PartNote}
use Rattle.schedule_core.specs.Core.{Cells, changes, touches, enters_still, handed_on, quiet, writes_there}
use Rattle.schedule_core.specs.Unplaced.{Live}
use Rattle.schedule_core.specs.Fitting.{Lessened}
use Rattle.schedule_core.specs.Sound.{Fit, Before, Pairs, Orderly, only_commutes}
use Rattle.schedule_core.specs.Shown.{slot, slots, born_slots, line, shelf_at}
use Rattle.schedule_core.specs.EntriesBefore.{IsSeen, OnlyCommutes, StandsBefore, EntriesStand}
use Rattle.schedule_core.proofs.Lines.{every_append, every_with}
use Rattle.schedule_core.proofs.Changing.{touches_is, widen}
use Rattle.schedule_core.proofs.Alone.{cover_lessens}
use Rattle.schedule_core.proofs.Waits.{Waiting}
use Rattle.schedule_core.proofs.Mirrors.{Kept, kept, sound_of, Tidy, TidyLive}

-- an entry of a task, or of the child that it is about to make
record Under (o : ℕ) (t : Live) (d : Entry) : Type 0 where
  less : Lessened d.rights (t.rights o)
  some : touches d.rights ≡ true
  version : changes (t.rights o) ≡ false → is_some (t.versions o) ≡ true → is_some d.version ≡ true

record Over (o : ℕ) (u : Live) (e : Entry) : Type 0 where
  hold : (m : Mode) → e.hold ≡ Some m → u.held o ≡ Some m
  version : is_some e.version ≡ true → is_some (u.versions o) ≡ true

not_true : (x y : Bool) → (x ≡ true → y ≡ true) → y ≡ false → x ≡ false
not_true true y f e = absurd (let h = f refl in cc)
not_true false y f e = refl

quiet_seen : (o : ℕ) (s : Live) (d : Entry) → Under o s d → quiet o s ≡ true → IsSeen d
quiet_seen o s d x q = (none, x.version calm (version (is_there (s.rights o).reads) (is_some (s.versions o)) (x.less.reads reads) (and_right (not (changes (s.rights o))) (not (is_there (s.rights o).reads) || is_some (s.versions o)) q)))
  where
    and_left : (x y : Bool) → not x && y ≡ true → x ≡ false
    and_left true y e = absurd (cc)
    and_left false y e = refl

    and_right : (x y : Bool) → x && y ≡ true → y ≡ true
    and_right true y e = e
    and_right false y e = absurd (cc)

    calm : changes (s.rights o) ≡ false
    calm = and_left (changes (s.rights o)) (not (is_there (s.rights o).reads) || is_some (s.versions o)) q

    none : changes d.rights ≡ false
    none = not_true (changes d.rights) (changes (s.rights o)) x.less.writes calm

    reads_of : (r w : Bool) → r || w ≡ true → w ≡ false → r ≡ true
    reads_of true w e f = refl
    reads_of false w e f = absurd (cc)

    reads : is_there d.rights.reads ≡ true
    reads = reads_of (is_there d.rights.reads) (changes d.rights) x.some none

    version : (r v : Bool) → r ≡ true → not r || v ≡ true → v ≡ true
    version true v e f = f
    version false v e f = absurd (cc)

stands : (o : ℕ) (s u : Live) (d e : Entry) → Fit u → Under o s d → Over o u e → Before o s u → StandsBefore d e
stands o s u d e fit x y b = record {
  writing = λ h. quiet_seen o s d x (b.writing (y.hold Writing h));
  reading = λ h. none (b.reading (fit.reading o (y.hold Reading h)));
  kept = λ h. none (b.reading (y.version h));
  commuting = λ h. by (quiet o s) (only_commutes o s) refl refl (b.commuting (y.hold Commuting h));
}
  where
    none : writes_there o s ≡ false → changes d.rights ≡ false
    none q = not_true (changes d.rights) (changes (s.rights o)) x.less.writes q

    lone : (r w : Bool) → not r && not w ≡ true → (r ≡ false) × (w ≡ false)
    lone true w e = absurd (cc)
    lone false true e = absurd (cc)
    lone false false e = (refl, refl)

    by : (q c : Bool) → quiet o s ≡ q → only_commutes o s ≡ c → q || c ≡ true → IsSeen d ⊎ OnlyCommutes d
    by true c i j k = inl (quiet_seen o s d x i)
    by false true i j k =
        let h = lone (is_there (s.rights o).reads) (is_there (s.rights o).writes) j in
        inr (not_true _ _ x.less.reads h.0, not_true _ _ x.less.alone h.1)
    by false false i j k = absurd (cc)

-- the entries that a task accounts for
one_if : (P : Entry → Type 0) (a : Rights) (q : Path) (h : Option Mode) (v : Option Cells)
    → (touches a ≡ true → P (record { path = q; rights = a; hold = h; version = v })) → Every P (slot q a h v)
one_if P a q h v f = go (touches a) refl
  where
    go : (b : Bool) → touches a ≡ b → Every P (if b then record { path = q; rights = a; hold = h; version = v } ∷ [] else [])
    go true e = (f e, tt)
    go false e = tt

child_less : (o : ℕ) (t : Live) → Fit t → (child : Specification) (body on : Course) → t.doing.course ≡ Creates child body on
    → Lessened (rights_on child o) (t.rights o)
child_less o t fit child body on e =
    let outer = widen (rights_on t.doing.spec o) (t.rights o) (fit.less o) in
    let inner = cover_lessens t.doing.spec child (cov t.doing.spec t.doing.course e fit.proper) o in
    record {
      reads = λ h. outer.reads (inner.reads h);
      writes = λ h. outer.writes (inner.writes h);
      alone = λ h. outer.alone (inner.alone h);
    }
  where
    cov : (spec : Specification) (c : Course) → c ≡ Creates child body on → Proper spec c → covers spec child ≡ true
    cov spec _ e (proper_create {child = inner} none may cover size b q) =
        let i : inner ≡ child = cc in
        subst (λ z. covers spec z ≡ true) i cover
    cov spec _ e (proper_read i f) = absurd (cc)
    cov spec _ e (proper_write i q) = absurd (cc)
    cov spec _ e (proper_step q) = absurd (cc)
    cov spec _ e (proper_change none m q) = absurd (cc)
    cov spec _ e proper_end = absurd (cc)

born_each : (P : Entry → Type 0) (o : ℕ) (t : Live) → ((child : Specification) (body on : Course) → t.doing.course ≡ Creates child body on
    → enters_still o t.doing.pending ≡ false → touches (rights_on child o) ≡ true
    → P (record { path = t.path ++ t.part ∷ []; rights = rights_on child o; hold = None; version = handed_on t o })) → Every P (born_slots t.doing.course o t)
born_each P o t f = by t.doing.course refl
  where
    by : (c : Course) → t.doing.course ≡ c → Every P (born_slots c o t)
    by (Creates child body on) e = go (enters_still o t.doing.pending) refl
      where
        go : (b : Bool) → enters_still o t.doing.pending ≡ b → Every P (if b then [] else slot (t.path ++ t.part ∷ []) (rights_on child o) None (handed_on t o))
        go true q = tt
        go false q = one_if P (rights_on child o) (t.path ++ t.part ∷ []) None (handed_on t o) (λ r. f child body on e q r)
    by (Reads p c on) e = tt
    by (Writes p c v on) e = tt
    by (Steps on) e = tt
    by (Changes new on) e = tt
    by (Ends b) e = tt

own_slot : (o : ℕ) (t : Live) → List Entry
own_slot o t = slot t.path (t.rights o) (t.held o) (t.versions o)

under_slots : (o : ℕ) (t : Live) → Fit t → Every (Under o t) (slots o t)
under_slots o t fit =
    every_append (Under o t) (born_slots t.doing.course o t) (slot t.path (t.rights o) (t.held o) (t.versions o))
    (born_each (Under o t) o t (λ child body on e q r. record {
      less = child_less o t fit child body on e;
      some = r;
      version = λ n h. ap (λ b. is_some (if b then None else t.versions o)) n ∙ h;
    })) (one_if (Under o t) (t.rights o) t.path (t.held o) (t.versions o) (λ r. record {
      less = record { reads = λ h. h; writes = λ h. h; alone = λ h. h };
      some = r;
      version = λ n h. h;
    }))

over_slots : (o : ℕ) (u : Live) → Every (Over o u) (slots o u)
over_slots o u =
    every_append (Over o u) (born_slots u.doing.course o u) (slot u.path (u.rights o) (u.held o) (u.versions o))
    (born_each (Over o u) o u (λ child body on e q r. record {
      hold = λ m h. absurd (cc);
      version = handed (changes (u.rights o)) (u.versions o);
    })) (one_if (Over o u) (u.rights o) u.path (u.held o) (u.versions o) (λ r. record { hold = λ m h. h; version = λ h. h }))
  where
    handed : (b : Bool) (v : Option Cells) → is_some (if b then None else v) ≡ true → is_some v ≡ true
    handed true v h = absurd (cc)
    handed false v h = h

-- a task keeps no hold that its next child's rights conflict with, once these are entered
calm : (child : Specification) (body on : Course) (spec : Specification) (plan : Holds) (o : ℕ) (es : List Event) (r : ℕ → Rights) (h : ℕ → Option Mode)
    → Waiting (Creates child body on) es → Orderly spec plan (Creates child body on) es r h → touches (rights_on child o) ≡ true → enters_still o es ≡ false
    → yields (h o) (rights_on child o) ≡ false
calm child body on spec plan o [] r h w k a e = k.1 o
calm child body on spec plan o (Enter p b ∷ es) r h w k a e = calm child body on spec plan o es r h w k.2 a (later (nat_eq p o) (enters_still o es) e)
  where
    later : (x y : Bool) → x || y ≡ false → y ≡ false
    later true y q = absurd (cc)
    later false y q = q
calm child body on spec plan o (Take p m ∷ es) r h w k a e = absurd (let y = w.0 o a in cc)
calm child body on spec plan o (Give p ∷ es) r h w k a e = absurd (let y = w.0 o a in cc)
calm child body on spec plan o (Shift p b ∷ es) r h w k a e = absurd (let y = w.0 o a in cc)
calm child body on spec plan o (Leave p ∷ es) r h w k a e = absurd (let y = w.0 o a in cc)
calm child body on spec plan o (Enroll t n ∷ es) r h w k a e = absurd k
calm child body on spec plan o (TouchRead p d v ∷ es) r h w k a e = absurd k
calm child body on spec plan o (TouchWrite p d v ∷ es) r h w k a e = absurd k
calm child body on spec plan o (Wants p d ∷ es) r h w k a e = absurd k
calm child body on spec plan o (Resign b n ∷ es) r h w k a e = absurd k

-- a child's entry before its parent's
child_stands : (o : ℕ) (t : Live) → Fit t → Tidy t.doing → Every (λ d. StandsBefore d (record {
  path = t.path;
  rights = t.rights o;
  hold = t.held o;
  version = t.versions o;
})) (born_slots t.doing.course o t)
child_stands o t fit tidy = born_each _ o t (λ child body on e q r. let free = calm child body on t.doing.spec t.doing.plan o t.doing.pending t.rights t.held
    (subst (λ c. Waiting c t.doing.pending) e tidy.waits)
    (subst (λ c. Orderly t.doing.spec t.doing.plan c t.doing.pending t.rights t.held) e fit.orderly) r q in
    let less = child_less o t fit child body on e in
    record {
      writing = λ h. absurd (no_rights_left (rights_on child o) r (sym (ap (λ m. yields m (rights_on child o)) h) ∙ free));
      reading = λ h. sym (ap (λ m. yields m (rights_on child o)) h) ∙ free;
      kept = λ h. go (rights_on child o) (changes (t.rights o)) refl h less.writes free;
      commuting = λ h. absurd (no_rights_left (rights_on child o) r (sym (ap (λ m. yields m (rights_on child o)) h) ∙ free));
    })
  where
    no_rights_left : (a : Rights) → touches a ≡ true → has_rights a ≡ false → ⊥
    no_rights_left a e f = let g = touches_is a in absurd (cc)

    go : (a : Rights) (b : Bool) → changes (t.rights o) ≡ b → is_some (t.versions o) ≡ true → (changes a ≡ true → changes (t.rights o) ≡ true)
        → yields (t.held o) a ≡ false → changes a ≡ false
    go a false e h f g = not_true (changes a) (changes (t.rights o)) f e
    go a true e h f g = sym (ap (λ m. yields m a) (fit.keeps o h e)) ∙ g

-- pairs of entries
abbrev Stand : List Entry → Type 0
Stand [] = Unit {0}
Stand (d ∷ es) = Every (StandsBefore d) es × Stand es

stand_both : (xs ys : List Entry) → Stand xs → Stand ys → Every (λ d. Every (StandsBefore d) ys) xs → Stand (xs ++ ys)
stand_both [] ys a b c = b
stand_both (x ∷ xs) ys a b c = (every_append (StandsBefore x) xs ys a.0 c.0, stand_both xs ys a.1 b c.1)

slot_stand : (q : Path) (a : Rights) (h : Option Mode) (v : Option Cells) → Stand (slot q a h v)
slot_stand q a h v = go (touches a)
  where
    go : (b : Bool) → Stand (if b then record { path = q; rights = a; hold = h; version = v } ∷ [] else [])
    go true = (tt, tt)
    go false = tt

born_stand : (c : Course) (o : ℕ) (t : Live) → Stand (born_slots c o t)
born_stand (Creates child body on) o t = go (enters_still o t.doing.pending)
  where
    go : (b : Bool) → Stand (if b then [] else slot (t.path ++ t.part ∷ []) (rights_on child o) None (handed_on t o))
    go true = tt
    go false = slot_stand (t.path ++ t.part ∷ []) (rights_on child o) None (handed_on t o)
born_stand (Reads p c on) o t = tt
born_stand (Writes p c v on) o t = tt
born_stand (Steps on) o t = tt
born_stand (Changes new on) o t = tt
born_stand (Ends b) o t = tt

slots_stand : (o : ℕ) (t : Live) → Fit t → Tidy t.doing → Stand (slots o t)
slots_stand o t fit tidy =
    stand_both (born_slots t.doing.course o t) (slot t.path (t.rights o) (t.held o) (t.versions o)) (born_stand t.doing.course o t)
    (slot_stand t.path (t.rights o) (t.held o) (t.versions o))
    (every_with _ _ (λ d x. one_if (StandsBefore d) (t.rights o) t.path (t.held o) (t.versions o) (λ r. x)) (born_slots t.doing.course o t)
    (child_stands o t fit tidy))

before_line : (o : ℕ) (s : Live) (d : Entry) → Under o s d → (us : List Live) → Every Fit us → Every (Before o s) us → Every (StandsBefore d) (line o us)
before_line o s d x [] f b = tt
before_line o s d x (u ∷ us) f b =
    every_append (StandsBefore d) (slots o u) (line o us)
    (every_with (Over o u) (StandsBefore d) (λ e y. stands o s u d e f.0 x y b.0) (slots o u) (over_slots o u)) (before_line o s d x us f.1 b.1)

line_stand : (o : ℕ) (ts : List Live) → Every Fit ts → Every TidyLive ts → Pairs (Before o) ts → Stand (line o ts)
line_stand o [] f y b = tt
line_stand o (t ∷ ts) f y b =
    stand_both (slots o t) (line o ts) (slots_stand o t f.0 y.0) (line_stand o ts f.1 y.1 b.1)
    (every_with (Under o t) (λ d. Every (StandsBefore d) (line o ts)) (λ d x. before_line o t d x ts f.1 b.0) (slots o t) (under_slots o t f.0))

some_entry : (d e : Entry) → ◌≡◌ {A = Option Entry} (Some d) (Some e) → d ≡ e
some_entry d e q = cc

every_get : (P : Entry → Type 0) (es : List Entry) (j : ℕ) (e : Entry) → Every P es → slice_get es j ≡ Some e → P e
every_get P [] j e h q = absurd (cc)
every_get P (x ∷ es) zero e h q = subst P (some_entry x e q) h.0
every_get P (x ∷ es) (suc j) e h q = every_get P es j e h.1 q

stand_get : (es : List Entry) (i j : ℕ) (d e : Entry) → Stand es → slice_get es i ≡ Some d → slice_get es j ≡ Some e → i < j → StandsBefore d e
stand_get [] i j d e h a b lt = absurd (cc)
stand_get (x ∷ es) zero zero d e h a b lt = absurd (omega arith)
stand_get (x ∷ es) zero (suc j) d e h a b lt = subst (λ z. StandsBefore z e) (some_entry x d a) (every_get (StandsBefore x) es j e h.0 b)
stand_get (x ∷ es) (suc i) zero d e h a b lt = absurd (omega arith)
stand_get (x ∷ es) (suc i) (suc j) d e h a b lt = stand_get es i j d e h.1 a b (omega arith)

module _ (proper : (p : AbstractProgram) (ns : List ℤ) (limit : ℕ) → Proper (root_spec p) (root_course p ns limit)) (p : Program) (ns : List ℤ) (limit : ℕ) where
  module _ (k : ℕ) (seats : List Seat) (ss : List ObjectView) (notes : List PartNote) (x : Kept p ns limit k seats ss notes) where
    row_stand : (o : ℕ) → Stand (shelf_at ss o).queue
    row_stand o =
        let known = (sound_of proper p ns limit x.state x.reached).by (λ o. []) in
        subst Stand (sym (ap (λ (z : ObjectView). z.queue) (x.shown.shelves o))) (line_stand o x.state.roll known.fits x.tidy (known.before o))

  pub entries_stand : EntriesStand p ns limit
  entries_stand = record {
    before = λ k roll ss notes r o i j d e a b lt. stand_get (shelf_at ss o).queue i j d e
        (row_stand k roll ss notes (kept proper p ns limit k roll ss notes r) o) a b lt;
  }
