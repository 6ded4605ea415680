-- An event of a task that is no deed.
use Rattle.std.proofs.Common.{◌≡◌, ℕ, suc, ◌<◌, ◌+◌, add-zero, Bool, true, false, not, ◌||◌, ◌&&◌, List, [], ◌∷◌, ◌++◌, refl, sym, ap, ◌∙◌, subst, Option, Some, None, arith, append-nil, inl}
use Rattle.std.specs.Prelude.{if◌then◌else◌, is_some}
use Rattle.jade_base.specs.declared.rights.Rights.{Rights}
use Rattle.jade_meaning.specs.Specification.{rights_on, numbers, commuting_on, allows_commuting}
use Rattle.jade_base.specs.Rights.{is_there}
use Rattle.jade_base.specs.declared.rights.Mode.TheVariants.{Reading, Writing, Commuting}
use Rattle.jade_meaning.specs.Talk.{Event, Enter, Give, Leave, Shift}
use Rattle.jade_meaning.specs.Serial.{Mark, Path, Store}
use Rattle.jade_meaning.specs.Turns.{World, Ran, group, settle_all, first, run}
use Rattle.jade_meaning.specs.Serial.{at_object}
use Rattle.schedule_core.specs.Core.{Cells, Live, Bare, put, writes_there, quiet, is_out, content_for, version_or, if_read_only}
use Rattle.jade_meaning.specs.Proper.{Proper}
use Rattle.jade_meaning.specs.Laws.{Every}
use Rattle.schedule_core.specs.Sound.{Within, Fit, Narrowed, Orderly, Before, Apart, Fresh, TakesOnly, UpTo, OwnLast, only_commutes, settling, awaits, left, left_from, may, works_on, worked}
use Rattle.schedule_core.specs.Onwards.{sees, sited, onwards}
use Rattle.schedule_core.specs.Going.{world_of, Small, Going}
use Rattle.schedule_core.proofs.Groups.{after_at}
use Rattle.schedule_core.proofs.Opens.{left_of}
use Rattle.schedule_core.proofs.Calm.{put_either}
use Rattle.schedule_core.proofs.Running.{every_by}
use Rattle.schedule_core.proofs.Idle.{false_true}
use Rattle.schedule_core.proofs.Pairs.{every_change, pairs_change, put_there}
use Rattle.schedule_core.proofs.Takes.{world_at, onwards_store}
use Rattle.schedule_core.proofs.Frame.{plain_same, one_middle, fronts_quiet}

-- what two tasks see
pub sees_as : (u v : Live Bare) (i : ℕ) (s : Store) → ((x : ℕ) → content_for u (i + x) (at_object s x) ≡ content_for v (i + x) (at_object s x)) → sees u i s ≡ sees v i s
sees_as u v i [] h = refl
sees_as u v i (xs ∷ s) h =
    let e : content_for u i xs ≡ content_for v i xs = subst (λ z. content_for u z xs ≡ content_for v z xs) (add-zero i) (h 0) in
    ap (λ z. z ∷ sees u (suc i) s) e ∙ ap (λ z. content_for v i xs ∷ z) (sees_as u v (suc i) s (λ x. let z : i + suc x ≡ suc i + x = omega arith in subst (λ k. content_for u k (at_object s x) ≡ content_for v k (at_object s x)) z (h (suc x))))

apart_by : (c d u : Live Bare) → d.path ≡ c.path → d.part ≡ c.part → Apart c u → Apart d u
apart_by c d u e i h p a b =
    h p (subst (λ k. Within c.path k p) i (subst (λ z. Within z d.part p) e a)) b

by_apart : (c d s : Live Bare) → d.path ≡ c.path → d.part ≡ c.part → Apart s c → Apart s d
by_apart c d s e i h p a b =
    h p a (subst (λ k. Within c.path k p) i (subst (λ z. Within z d.part p) e b))

-- what d makes of the pairs of c
pub record Follows (b l : List (Live Bare)) (f : ℕ → Cells) (size : ℕ) (c d : Live Bare) : Type 0 where
  pub path : d.path ≡ c.path
  pub part : d.part ≡ c.part
  pub fit : Fit d
  pub small : Small size d
  pub front : (x : ℕ) → Every (λ s. Before x s c → Before x s d) b
  pub behind : (x : ℕ) → Every (λ u. Before x c u → Before x d u) l
  pub fresh : (x : ℕ) → Fresh x (f x) d

pub every_all : (P : Live Bare → Type 0) → ((u : Live Bare) → P u) → (us : List (Live Bare)) → Every P us
every_all P f [] = tt
every_all P f (u ∷ us) = (f u, every_all P f us)

pub pend_goes : (t : ℕ → List Path) (size : ℕ) (serially : List Mark) (zero' : Store) (f : ℕ → Cells) (log : List Mark) (b l : List (Live Bare)) (c d : Live Bare) → Going t size serially zero' (record { roll = b ++ (c ∷ l); contents = f; log = log }) → Follows b l f size c d → (left t (sited c (onwards t b (world_of size f)).world)).marks ≡ (left t (sited d (onwards t b (world_of size f)).world)).marks → (left t (sited c (onwards t b (world_of size f)).world)).world.waiting ≡ (left t (sited d (onwards t b (world_of size f)).world)).world.waiting → Going t size serially zero' (record { roll = b ++ (d ∷ l); contents = f; log = log ++ [] })
pend_goes t size serially zero' f log b l c d g h e i =
    let r = onwards t b (world_of size f) in
    let s = plain_same t size f f [] b l (d ∷ []) c refl (one_middle t c d r.world [] e i) (λ p. inl refl) (λ x. inl refl) log (numbers 0 size) in
    record {
      deeds = λ p. g.deeds p ∙ s.deeds p;
      works = λ x. g.works x ∙ s.works x;
      contents = λ x. g.contents x ∙ ap (λ ms. worked (works_on x ms) (at_object zero' x)) (sym (append-nil log));
      small = every_change (Small size) b l c d g.small (λ k. h.small);
      fits = every_change Fit b l c d g.fits (λ k. h.fit);
      apart = pairs_change Apart b l c d g.apart (every_all (λ s. Apart s c → Apart s d) (λ s k. by_apart c d s h.path h.part k) b) (every_all (λ u. Apart c u → Apart d u) (λ u k. apart_by c d u h.path h.part k) l);
      before = λ x. pairs_change (Before x) b l c d (g.before x) (h.front x) (h.behind x);
      fresh = λ x. every_change (Fresh x (f x)) b l c d (g.fresh x) (λ k. h.fresh x);
    }

-- the content before c, where nobody before may write
pub calm_content : (t : ℕ → List Path) (size : ℕ) (f : ℕ → Cells) (o : ℕ) (b : List (Live Bare)) → Every Fit b → Every (λ s. writes_there o s ≡ false) b → o < size → (at_object (onwards t b (world_of size f)).world.store o ≡ f o) × (group o (onwards t b (world_of size f)).world.waiting ≡ [])
calm_content t size f o b fits none lt =
    let q = fronts_quiet t o b (world_of size f) fits none refl tt in
    (ap (λ s. at_object s o) (onwards_store t b (world_of size f)) ∙ after_at o (onwards t b (world_of size f)).marks (world_of size f).store q.0 ∙ world_at size f o lt, q.1)

-- a task that goes on with no Take
pub record Goes (c : Live Bare) : Type 0 where
  pub waits : awaits c.doing.pending ≡ None
  pub commutes : commuting_on c.doing.spec ≡ None

pub data Other : Event → Type 0 where
  gives : (o : ℕ) → Other (Give o)
  shifts : (o : ℕ) (a : Rights) → Other (Shift o a)
  leaves : (o : ℕ) → Other (Leave o)
  enters : (o : ℕ) (a : Rights) → Other (Enter o a)

not_up : (e : Event) → Other e → (es : List Event) → UpTo (e ∷ es) → ⊥
not_up _ (gives o) es h = h
not_up _ (shifts o a) es h = h
not_up _ (leaves o) es h = h
not_up _ (enters o a) es h = h

not_takes : (e : Event) → Other e → (es : List Event) → TakesOnly (e ∷ es) → ⊥
not_takes _ (gives o) es h = h
not_takes _ (shifts o a) es h = h
not_takes _ (leaves o) es h = h
not_takes _ (enters o a) es h = h

pub other_settles : (e : Event) → Other e → (es : List Event) → settling (e ∷ es) ≡ settling es
other_settles _ (gives o) es = refl
other_settles _ (shifts o a) es = refl
other_settles _ (leaves o) es = refl
other_settles _ (enters o a) es = refl

other_awaits : (e : Event) → Other e → (es : List Event) → awaits (e ∷ es) ≡ awaits es
other_awaits _ (gives o) es = refl
other_awaits _ (shifts o a) es = refl
other_awaits _ (leaves o) es = refl
other_awaits _ (enters o a) es = refl

other_last : (e : Event) → Other e → (es : List Event) → OwnLast (e ∷ es) → OwnLast es
other_last _ (gives o) es h = h
other_last _ (shifts o a) es h = h
other_last _ (leaves o) es h = h
other_last _ (enters o a) es h = h

pub goes_on : (c : Live Bare) → Fit c → (e : Event) → Other e → (es : List Event) → c.doing.pending ≡ e ∷ es → Goes c
goes_on c fit e k es pends = record { waits = one (awaits c.doing.pending) refl; commutes = two (commuting_on c.doing.spec) refl }
  where
    one : (x : Option ℕ) → awaits c.doing.pending ≡ x → x ≡ None
    one None h = refl
    one (Some y) h = absurd (not_up e k es (subst (λ z. UpTo z) pends (fit.begun y h).2))

    two : (x : Option ℕ) → commuting_on c.doing.spec ≡ x → x ≡ None
    two None h = refl
    two (Some y) h = absurd (not_takes e k es (subst (λ z. TakesOnly z) pends (fit.turned y h).0))

pub plain_left : (t : ℕ → List Path) (u : Live World) → awaits u.doing.pending ≡ None → commuting_on u.doing.spec ≡ None → left t u ≡ left_of t u.path u.part u.doing u.place
plain_left t u a c =
    let s = settle_all t (settling u.doing.pending) u.place in
    ap (λ x. first s.marks (left_from t x (commuting_on u.doing.spec) u s.world)) a ∙ ap (λ x. first s.marks (left_from t None x u s.world)) c

-- the left of one that goes on, after such an event, where the place is the same
pub other_left : (t : ℕ → List Path) (c d : Live Bare) (w : World) (e : Event) (es : List Event) → Goes c → Other e → c.doing.pending ≡ e ∷ es → d.path ≡ c.path → d.part ≡ c.part → d.doing ≡ record c.doing { pending = es } → sees c 0 w.store ≡ sees d 0 w.store → left t (sited c w) ≡ left t (sited d w)
other_left t c d w e es g k pends path part doing place =
    let a : awaits d.doing.pending ≡ None = ap (λ z. awaits z.pending) doing ∙ sym (other_awaits e k es) ∙ sym (ap awaits pends) ∙ g.waits in
    let m : commuting_on d.doing.spec ≡ None = ap (λ z. commuting_on z.spec) doing ∙ g.commutes in
    let P : Store → World = λ s. record { store = s; waiting = w.waiting } in
    let R : List ℕ → Store → Ran = λ os s. first (settle_all t os (P s)).marks (run t c.path c.doing.spec c.doing.course c.part c.doing.steps (settle_all t os (P s)).world) in
    plain_left t (sited c w) g.waits g.commutes ∙ ap (λ z. R z (sees c 0 w.store)) (ap settling pends ∙ other_settles e k es) ∙ ap (R (settling es)) place ∙ ap (λ p. left_of t p c.part (record c.doing { pending = es }) (P (sees d 0 w.store))) (sym path) ∙ ap (λ n. left_of t d.path n (record c.doing { pending = es }) (P (sees d 0 w.store))) (sym part) ∙ ap (λ z. left_of t d.path d.part z (P (sees d 0 w.store))) (sym doing) ∙ sym (plain_left t (sited d w) a m)

-- the clauses of Fit that such an event leaves alone
pub other_fit : (c d : Live Bare) (e : Event) (es : List Event) → Fit c → Other e → c.doing.pending ≡ e ∷ es → d.doing ≡ record c.doing { pending = es } → ((o : ℕ) → Narrowed (rights_on c.doing.spec o) (d.rights o)) → ((o : ℕ) → may (d.held o) (d.rights o) ≡ true) → ((o : ℕ) → is_some (d.versions o) ≡ true → writes_there o d ≡ true → d.held o ≡ Some Reading) → ((o : ℕ) → d.held o ≡ Some Reading → is_some (d.versions o) ≡ true) → Orderly c.doing.spec c.doing.plan c.doing.course es d.rights d.held → ((o : ℕ) → d.held o ≡ Some Commuting → c.held o ≡ Some Commuting) → Fit d
other_fit c d e es fit k pends doing less holds keeps reading orderly out =
    let g = goes_on c fit e k es pends in
    let w : awaits es ≡ None = sym (other_awaits e k es) ∙ sym (ap awaits pends) ∙ g.waits in
    let a : awaits d.doing.pending ≡ None = ap (λ z. awaits z.pending) doing ∙ w in
    let m : commuting_on d.doing.spec ≡ None = ap (λ z. commuting_on z.spec) doing ∙ g.commutes in
    record {
      proper = subst (λ z. Proper z.spec z.course) (sym doing) fit.proper;
      less = λ o. subst (λ z. Narrowed (rights_on z.spec o) (d.rights o)) (sym doing) (less o);
      holds = holds;
      keeps = keeps;
      reading = reading;
      orderly = subst (λ z. Orderly z.spec z.plan z.course z.pending d.rights d.held) (sym doing) orderly;
      last = λ o h. let x = fit.last o (out o h) in (subst (λ z. settling z.pending ≡ []) (sym doing) (sym (other_settles e k es) ∙ sym (ap settling pends) ∙ x.0), a);
      own_last = subst (λ z. OwnLast z.pending) (sym doing) (other_last e k es (subst OwnLast pends fit.own_last));
      commuting = subst (λ z. allows_commuting (commuting_on z.spec) z.spec ≡ true) (sym doing) fit.commuting;
      reads = λ x y h i. absurd (let z : None ≡ Some y = sym a ∙ h in cc);
      begun = λ y h. absurd (let z : None ≡ Some y = sym a ∙ h in cc);
      turned = λ y h. absurd (let z : None ≡ Some y = sym m ∙ h in cc);
    }

-- Give
module _ (t : ℕ → List Path) (size : ℕ) (f : ℕ → Cells) (b l : List (Live Bare)) (c : Live Bare) (o : ℕ) (es : List Event) where
  abbrev pub gave : Live Bare
  gave = record {
    path = c.path;
    part = c.part;
    place = tt;
    rights = c.rights;
    held = put c.held o None;
    versions = put c.versions o (if_read_only (c.rights o) (c.versions o));
    doing = record c.doing { pending = es };
  }

  kept_some : (x : ℕ) → is_some (put c.versions o (if_read_only (c.rights o) (c.versions o)) x) ≡ true → is_some (c.versions x) ≡ true
  kept_some x h = put_either (λ v. is_some v ≡ true → is_some (c.versions x) ≡ true) c.versions o (if_read_only (c.rights o) (c.versions o)) x (λ i. subst (λ z. is_some (if_read_only (c.rights z) (c.versions z)) ≡ true → is_some (c.versions x) ≡ true) i (go (is_there (c.rights x).writes || is_there (c.rights x).commutes) (c.versions x))) (λ i h. h) h
    where
      go : (w : Bool) (v : Option Cells) → is_some (if w then None else v) ≡ true → is_some v ≡ true
      go true v h = absurd (cc)
      go false v h = h

  calm_some : (x : ℕ) → writes_there x c ≡ false → put c.versions o (if_read_only (c.rights o) (c.versions o)) x ≡ c.versions x
  calm_some x h = put_either (λ v. v ≡ c.versions x) c.versions o (if_read_only (c.rights o) (c.versions o)) x (λ i. subst (λ z. if_read_only (c.rights z) (c.versions z) ≡ c.versions x) i (ap (λ w. if w then None else c.versions x) h)) (λ i. refl)

  quiet_gave : (x : ℕ) → quiet x c ≡ true → quiet x gave ≡ true
  quiet_gave x h = go (writes_there x c) refl h
    where
      go : (w : Bool) → writes_there x c ≡ w → not w && (not (is_there (c.rights x).reads) || is_some (c.versions x)) ≡ true → quiet x gave ≡ true
      go true e h = absurd (cc)
      go false e h = ap (λ v. not (writes_there x c) && (not (is_there (c.rights x).reads) || is_some v)) (calm_some x e) ∙ ap (λ w. not w && (not (is_there (c.rights x).reads) || is_some (c.versions x))) e ∙ h

  pub give_follows : Every Fit b → Fit c → Small size c → ((x : ℕ) → Fresh x (f x) c) → c.doing.pending ≡ Give o ∷ es → Follows b l f size c gave
  give_follows fits fit small fresh pends = record {
    path = refl;
    part = refl;
    fit = other_fit c gave (Give o) es fit (gives o) pends refl fit.less (λ x. put_either (λ m. may m (c.rights x) ≡ true) c.held o None x (λ i. refl) (λ i. fit.holds x)) keeps (λ x h. put_either (λ m. m ≡ Some Reading → is_some (put c.versions o (if_read_only (c.rights o) (c.versions o)) x) ≡ true) c.held o None x (λ i h. absurd (cc)) (λ i h. ap is_some (put_there c.versions o _ x i) ∙ fit.reading x h) h) (subst (λ z. Orderly c.doing.spec c.doing.plan c.doing.course z c.rights c.held) pends fit.orderly).1 (λ x h. put_either (λ m. m ≡ Some Commuting → c.held x ≡ Some Commuting) c.held o None x (λ i h. absurd (cc)) (λ i h. h) h);
    small = record { spec = small.spec; rights = small.rights };
    front = λ x. every_all (λ s. Before x s c → Before x s gave) (λ s k. record {
      writing = λ h. put_either (λ m. m ≡ Some Writing → quiet x s ≡ true) c.held o None x (λ i h. absurd (cc)) (λ i h. k.writing h) h;
      reading = λ h. k.reading (kept_some x h);
      commuting = λ h. put_either (λ m. m ≡ Some Commuting → quiet x s || only_commutes x s ≡ true) c.held o None x (λ i h. absurd (cc)) (λ i h. k.commuting h) h;
      one = λ h i. put_either (λ m. is_out (s.held x) ≡ true → is_out m ≡ true → ⊥) c.held o None x (λ j h i. absurd (cc)) (λ j h i. k.one h i) h i;
    }) b;
    behind = λ x. every_all (λ u. Before x c u → Before x gave u) (λ u k. record {
      writing = λ h. quiet_gave x (k.writing h);
      reading = k.reading;
      commuting = λ h. either x (quiet x c) refl (k.commuting h);
      one = λ h i. put_either (λ m. is_out m ≡ true → is_out (u.held x) ≡ true → ⊥) c.held o None x (λ j h i. absurd (cc)) (λ j h i. k.one h i) h i;
    }) l;
    fresh = λ x w. put_either (λ v. version_or v (f x) ≡ f x) c.versions o (if_read_only (c.rights o) (c.versions o)) x (λ i. subst (λ z. version_or (if_read_only (c.rights z) (c.versions z)) (f x) ≡ f x) i (ap (λ k. version_or (if k then None else c.versions x) (f x)) w)) (λ i. fresh x w);
  }
    where
      keeps : (x : ℕ) → is_some (put c.versions o (if_read_only (c.rights o) (c.versions o)) x) ≡ true → writes_there x c ≡ true → put c.held o None x ≡ Some Reading
      keeps x h w = put_either (λ v. is_some v ≡ true → put c.held o None x ≡ Some Reading) c.versions o (if_read_only (c.rights o) (c.versions o)) x (λ i h. false_true _ (ap is_some (subst (λ z. if_read_only (c.rights z) (c.versions z) ≡ None) i (ap (λ k. if k then None else c.versions x) w))) h) (λ i h. put_there c.held o None x i ∙ fit.keeps x h w) h

      either : (x : ℕ) (q : Bool) → quiet x c ≡ q → q || only_commutes x c ≡ true → quiet x gave || only_commutes x gave ≡ true
      either x true e h = ap (λ z. z || only_commutes x gave) (quiet_gave x e)
      either x false e h = or_true (quiet x gave) (only_commutes x c) h
        where
          or_true : (a b : Bool) → b ≡ true → a || b ≡ true
          or_true true b e = refl
          or_true false b e = e

  pub give_left : Every Fit b → Every (λ s. Before o s c) b → Fit c → Small size c → Fresh o (f o) c → c.doing.pending ≡ Give o ∷ es → left t (sited c (onwards t b (world_of size f)).world) ≡ left t (sited gave (onwards t b (world_of size f)).world)
  give_left fits before fit small fresh pends =
      let w = (onwards t b (world_of size f)).world in
      other_left t c gave w (Give o) es (goes_on c fit (Give o) (gives o) es pends) (gives o) pends refl refl refl (sees_as c gave 0 w.store (λ x. let z : 0 + x ≡ x = omega arith in subst (λ k. content_for c k (at_object w.store x) ≡ content_for gave k (at_object w.store x)) (sym z) (same x)))
    where
      W : World
      W = (onwards t b (world_of size f)).world

      some_right : (r w c : Bool) → w || c ≡ true → r || w || c ≡ true
      some_right true true c h = refl
      some_right true false c h = refl
      some_right false w c h = h

      content : (v : Option Cells) → c.versions o ≡ v → writes_there o c ≡ true → version_or v (at_object W.store o) ≡ at_object W.store o
      content None e h = refl
      content (Some xs) e h =
          let k : at_object W.store o ≡ f o = (calm_content t size f o b fits (every_by (λ s. Before o s c) (λ s. writes_there o s ≡ false) (λ s i. i.reading (ap is_some e)) b before) (small.rights o (some_right (is_there (c.rights o).reads) (is_there (c.rights o).writes) (is_there (c.rights o).commutes) h))).0 in
          sym (ap (λ v. version_or v (f o)) e) ∙ fresh h ∙ sym k

      same : (x : ℕ) → version_or (c.versions x) (at_object W.store x) ≡ version_or (put c.versions o (if_read_only (c.rights o) (c.versions o)) x) (at_object W.store x)
      same x = put_either (λ v. version_or (c.versions x) (at_object W.store x) ≡ version_or v (at_object W.store x)) c.versions o (if_read_only (c.rights o) (c.versions o)) x (λ i. subst (λ z. version_or (c.versions z) (at_object W.store z) ≡ version_or (if_read_only (c.rights o) (c.versions o)) (at_object W.store z)) (sym i) (go (writes_there o c) refl)) (λ i. refl)
        where
          go : (q : Bool) → writes_there o c ≡ q → version_or (c.versions o) (at_object W.store o) ≡ version_or (if q then None else c.versions o) (at_object W.store o)
          go true e = content (c.versions o) refl e
          go false e = refl
