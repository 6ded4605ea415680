-- Who of those that wait for an object may take it.
use Rattle.std.proofs.Common.{◌≡◌, ◌⊎◌, ◌≢◌, ℕ, zero, suc, ◌<◌, ◌≤◌, Bool, true, false, not, ◌&&◌, ◌||◌, Some, None, List, [], ◌∷◌, map, inl, inr, refl, sym, ap, ◌∙◌, subst, arith}
use Rattle.std.specs.Prelude.{Option, is_some, is_none, slice_get, nat_lt, if◌then◌else◌}
use Rattle.std.proofs.lemmas.Bool.Decides.{nat_tests}
use Rattle.jade_base.specs.declared.rights.Right.{Right}
use Rattle.jade_base.specs.declared.rights.Right.TheVariants.{Absent, Deferred, Immediate}
use Rattle.jade_base.specs.declared.rights.Rights.{Rights}
use Rattle.jade_base.specs.declared.rights.Mode.{Mode}
use Rattle.jade_base.specs.declared.rights.Mode.TheVariants.{Reading, Writing, Commuting}
use Rattle.jade_base.specs.Places.{same_path}
use Rattle.jade_base.specs.Rights.{is_there, mode_of}
use Rattle.task_roll.specs.Order as order
use Rattle.task_roll.specs.Order.{stands_before}
use Rattle.task_roll.proofs.InOrder.{same-is, same-refl, before-other}
use Rattle.object_shelf.specs.declared.queue.Entry.{Entry}
use Rattle.object_shelf.specs.Shelves.{changes, conflicts, find, blocker_in, holder_in, or_else, keeper_in}
use Rattle.object_shelf.specs.Order.{is_ordered, paths}
use Rattle.waiting_line.specs.Waiters.{Waiter, Standing, Asks, Waits, InLine, BothCommute, may_take, is_reading, readers, let_go}
use Rattle.waiting_line.proofs.Placing.{before-once}

true-not-false : true ≡ false → ⊥
true-not-false q = absurd (cc)

and-left : (a b : Bool) → a && b ≡ true → a ≡ true
and-left true b h = refl
and-left false b h = absurd (cc)

and-right : (a b : Bool) → a && b ≡ true → b ≡ true
and-right true b h = h
and-right false b h = absurd (cc)

and-both : (a b : Bool) → a ≡ true → b ≡ true → a && b ≡ true
and-both true b h g = g
and-both false b h g = absurd (cc)

same-turned : (p q : List ℕ) (b : Bool) → same_path p q ≡ b → same_path q p ≡ b
same-turned p q true h = subst (λ z. same_path z p ≡ true) (same-is p q h) (same-refl p)
same-turned p q false h = go (same_path q p) refl
  where
    go : (c : Bool) → same_path q p ≡ c → same_path q p ≡ false
    go false w = w
    go true w = absurd (true-not-false (sym (same-refl p) ∙ subst (λ z. same_path p z ≡ false) (same-is q p w) h))

-- each entry before a path's has this property
abbrev all_ahead : List ℕ → (Entry → Bool) → List Entry → Bool
all_ahead p f [] = true
all_ahead p f (e ∷ es) = if same_path e.path p then true else (f e && all_ahead p f es)

abbrev lets : Mode → Entry → Bool
lets m e = not (conflicts m e)

abbrev still : Entry → Bool
still e = not (changes e.rights)

-- none blocks where none of those ahead conflicts
none-blocks : (p : List ℕ) (m : Mode) (es : List Entry) → all_ahead p (lets m) es ≡ true → blocker_in p m es ≡ None
none-blocks p m [] h = refl
none-blocks p m (e ∷ es) h = go (none-blocks p m es) (same_path e.path p) (conflicts m e) h
  where
    go : (all_ahead p (lets m) es ≡ true → blocker_in p m es ≡ None) → (s c : Bool) → (if s then true else (not c && all_ahead p (lets m) es)) ≡ true → (if s then None else (if c then Some e else blocker_in p m es)) ≡ None
    go f true c h = refl
    go f false true h = absurd (cc)
    go f false false h = f h

more-ahead : (p : List ℕ) (f g : Entry → Bool) (es : List Entry) → ((e : Entry) → f e ≡ true → g e ≡ true) → all_ahead p f es ≡ true → all_ahead p g es ≡ true
more-ahead p f g [] i h = refl
more-ahead p f g (e ∷ es) i h = go (more-ahead p f g es i) (same_path e.path p) h
  where
    go : (all_ahead p f es ≡ true → all_ahead p g es ≡ true) → (s : Bool) → (if s then true else (f e && all_ahead p f es)) ≡ true →
        (if s then true else (g e && all_ahead p g es)) ≡ true
    go r true h = refl
    go r false h = and-both (g e) (all_ahead p g es) (i e (and-left (f e) (all_ahead p f es) h)) (r (and-right (f e) (all_ahead p f es) h))

order-head : (q : List ℕ) (qs : List (List ℕ)) → order.is_ordered (q ∷ qs) ≡ true → order.before_all q qs ≡ true
order-head q qs h = and-left (order.before_all q qs) (order.is_ordered qs) h

order-rest : (q : List ℕ) (qs : List (List ℕ)) → order.is_ordered (q ∷ qs) ≡ true → order.is_ordered qs ≡ true
order-rest q qs h = and-right (order.before_all q qs) (order.is_ordered qs) h

-- an entry that is found comes behind what stands before all
found-behind : (q p : List ℕ) (es : List Entry) (e : Entry) → order.before_all q (paths es) ≡ true → find p es ≡ Some e → stands_before q p ≡ true
found-behind q p [] e b f = absurd (cc)
found-behind q p (x ∷ es) e b f = go (found-behind q p es e) (same_path p x.path) refl f
  where
    go : (order.before_all q (paths es) ≡ true → find p es ≡ Some e → stands_before q p ≡ true) → (s : Bool) → same_path p x.path ≡ s → (if s then Some x else find p es) ≡ Some e → stands_before q p ≡ true
    go r true w f = subst (λ z. stands_before q z ≡ true) (sym (same-is p x.path w)) (and-left (stands_before q x.path) (order.before_all q (paths es)) b)
    go r false w f = r (and-right (stands_before q x.path) (order.before_all q (paths es)) b) f

never-itself : (p : List ℕ) → stands_before p p ≡ true → ⊥
never-itself p h = true-not-false (sym (same-refl p) ∙ before-other p p h)

-- where nothing keeps a task from an object, neither does an entry before its own conflict, nor one before that
clear-ahead : (p q : List ℕ) (n : Mode) (es : List Entry) (e : Entry) → is_ordered es ≡ true → find p es ≡ Some e → stands_before p q ≡ true →
    blocker_in q n es ≡ None → (conflicts n e ≡ false) × (all_ahead p (lets n) es ≡ true)
clear-ahead p q n [] e o f b k = absurd (cc)
clear-ahead p q n (x ∷ es) e o f b k = go (clear-ahead p q n es e) (same_path p x.path) refl (same_path x.path q) refl (conflicts n x) refl f k
  where
    go : (is_ordered es ≡ true → find p es ≡ Some e → stands_before p q ≡ true → blocker_in q n es ≡ None →
        (conflicts n e ≡ false) × (all_ahead p (lets n) es ≡ true)) → (s : Bool) → same_path p x.path ≡ s → (t : Bool) → same_path x.path q ≡ t → (c : Bool) → conflicts n x ≡ c →
        (if s then Some x else find p es) ≡ Some e → (if t then None else (if c then Some x else blocker_in q n es)) ≡ None →
        (conflicts n e ≡ false) × ((if same_path x.path p then true else (not (conflicts n x) && all_ahead p (lets n) es)) ≡ true)
    go g true v true w c u f k =
        absurd (never-itself p (subst (λ z. stands_before p z ≡ true) (sym (same-is p x.path v ∙ same-is x.path q w)) b))
    go g true v false w true u f k = absurd (cc)
    go g true v false w false u f k =
        let y : x ≡ e = cc in (
          subst (λ z. conflicts n z ≡ false) y u,
          subst (λ s. (if s then true else (not (conflicts n x) && all_ahead p (lets n) es)) ≡ true) (sym (same-turned p x.path true v)) refl,
        )
    go g false v true w c u f k =
        let r : stands_before x.path p ≡ true = found-behind x.path p es e (order-head x.path (paths es) o) f in
        absurd (true-not-false (sym (subst (λ z. stands_before z p ≡ true) (same-is x.path q w) r) ∙ before-once p q b))
    go g false v false w true u f k = absurd (cc)
    go g false v false w false u f k =
        let r = g (order-rest x.path (paths es) o) f b k in (
          r.0,
          subst (λ s. (if s then true else (not (conflicts n x) && all_ahead p (lets n) es)) ≡ true) (sym (same-turned p x.path false v))
              (and-both (not (conflicts n x)) (all_ahead p (lets n) es) (ap not u) r.1),
        )

found-at : (p : List ℕ) (es : List Entry) (e : Entry) → find p es ≡ Some e → (j : ℕ) × (slice_get es j ≡ Some e)
found-at p [] e f = absurd (cc)
found-at p (x ∷ es) e f = go (found-at p es e) (same_path p x.path) f
  where
    go : (find p es ≡ Some e → (j : ℕ) × (slice_get es j ≡ Some e)) → (s : Bool) → (if s then Some x else find p es) ≡ Some e → (j : ℕ) × (slice_get (x ∷ es) j ≡ Some e)
    go g true f = (0, f)
    go g false f = let r = g f in (suc r.0, r.1)

abbrev Kept : List Entry → Type 0
Kept es = (i j : ℕ) (d e : Entry) → slice_get es i ≡ Some d → slice_get es j ≡ Some e → i < j → is_some e.version ≡ true → changes d.rights ≡ false

-- none ahead of an entry with a version may change the object
kept-ahead : (p : List ℕ) (es : List Entry) (e : Entry) → Kept es → find p es ≡ Some e → is_some e.version ≡ true → all_ahead p still es ≡ true
kept-ahead p [] e k f v = refl
kept-ahead p (x ∷ es) e k f v = go (kept-ahead p es e) (same_path p x.path) refl f
  where
    rest : Kept es
    rest i j d g a b lt w = k (suc i) (suc j) d g a b (omega arith) w

    go : (Kept es → find p es ≡ Some e → is_some e.version ≡ true → all_ahead p still es ≡ true) → (s : Bool) → same_path p x.path ≡ s → (if s then Some x else find p es) ≡ Some e →
        (if same_path x.path p then true else (still x && all_ahead p still es)) ≡ true
    go g true w f = subst (λ s. (if s then true else (still x && all_ahead p still es)) ≡ true) (sym (same-turned p x.path true w)) refl
    go g false w f =
        let at = found-at p es e f in
        subst (λ s. (if s then true else (still x && all_ahead p still es)) ≡ true) (sym (same-turned p x.path false w))
        (and-both (still x) (all_ahead p still es) (ap not (k 0 (suc at.0) x e refl at.1 (omega arith) v)) (g rest f v))

abbrev rights : Right → Right → Right → Rights
rights r w c = record { reads = r; writes = w; commutes = c }

-- the right that a mode stands for is there
reads-there : (r w c : Right) → mode_of (rights r w c) ≡ Some Reading → is_there r ≡ true
reads-there Absent Absent Absent h = absurd (cc)
reads-there Absent Absent Deferred h = absurd (cc)
reads-there Absent Absent Immediate h = absurd (cc)
reads-there Absent Deferred Absent h = absurd (cc)
reads-there Absent Deferred Deferred h = absurd (cc)
reads-there Absent Deferred Immediate h = absurd (cc)
reads-there Absent Immediate Absent h = absurd (cc)
reads-there Absent Immediate Deferred h = absurd (cc)
reads-there Absent Immediate Immediate h = absurd (cc)
reads-there Deferred w c h = refl
reads-there Immediate w c h = refl

changes-there : (r w c : Right) (m : Mode) → mode_of (rights r w c) ≡ Some m → is_reading m ≡ false → is_there w || is_there c ≡ true
changes-there r Deferred c m h g = refl
changes-there r Immediate c m h g = refl
changes-there r Absent Deferred m h g = refl
changes-there r Absent Immediate m h g = refl
changes-there Absent Absent Absent m h g = absurd (cc)
changes-there Deferred Absent Absent m h g = absurd (cc)
changes-there Immediate Absent Absent Reading h g = absurd (cc)
changes-there Immediate Absent Absent Writing h g = absurd (cc)
changes-there Immediate Absent Absent Commuting h g = absurd (cc)

writes-there : (r w c : Right) → mode_of (rights r w c) ≡ Some Writing → is_there w ≡ true
writes-there r Deferred c h = refl
writes-there r Immediate c h = refl
writes-there r Absent Immediate h = absurd (cc)
writes-there Absent Absent Absent h = absurd (cc)
writes-there Deferred Absent Absent h = absurd (cc)
writes-there Immediate Absent Absent h = absurd (cc)
writes-there Absent Absent Deferred h = absurd (cc)
writes-there Deferred Absent Deferred h = absurd (cc)
writes-there Immediate Absent Deferred h = absurd (cc)

or-left : (f g : Option Entry) → or_else f g ≡ None → f ≡ None
or-left None g h = refl
or-left (Some e) g h = absurd (cc)

or-right : (f g : Option Entry) → or_else f g ≡ None → g ≡ None
or-right None g h = h
or-right (Some e) g h = absurd (cc)

is-none : (f : Option Entry) → is_none f ≡ true → f ≡ None
is-none None h = refl
is-none (Some e) h = absurd (cc)

or-parts : (a b : Bool) → a || b ≡ false → (a ≡ false) × (b ≡ false)
or-parts true b h = absurd (cc)
or-parts false b h = (refl, h)

-- what an entry's rights and version say of conflicts
module _ (e : Entry) where
  abbrev reads : Bool
  reads = is_there e.rights.reads

  abbrev writes : Bool
  writes = is_there e.rights.writes

  abbrev commutes : Bool
  commutes = is_there e.rights.commutes

  abbrev bare : Bool
  bare = is_none e.version

  -- what does not conflict with one that reads or writes changes nothing
  quiet-for : (n : Mode) → n ≢ Commuting → conflicts n e ≡ false → changes e.rights ≡ false
  quiet-for Reading c h = h
  quiet-for Writing c h = (or-parts (writes || commutes) (reads && bare) h).0
  quiet-for Commuting c h = absurd (c refl)

  -- a reader that keeps no writer out has a version
  seen-by-writer : mode_of e.rights ≡ Some Reading → conflicts Writing e ≡ false → bare ≡ false
  seen-by-writer m h =
      go reads bare (reads-there e.rights.reads e.rights.writes e.rights.commutes m) (or-parts (writes || commutes) (reads && bare) h).1
    where
      go : (r n : Bool) → r ≡ true → r && n ≡ false → n ≡ false
      go true n q h = h
      go false n q h = absurd (cc)

  -- nor one that keeps out none that commutes
  seen-by-commuting : mode_of e.rights ≡ Some Reading → conflicts Commuting e ≡ false → bare ≡ false
  seen-by-commuting m h = go reads writes commutes bare (reads-there e.rights.reads e.rights.writes e.rights.commutes m) h
    where
      go : (r w c n : Bool) → r ≡ true → (r || w) && ((w || c) || n) ≡ false → n ≡ false
      go true true c n q h = absurd (cc)
      go true false true n q h = absurd (cc)
      go true false false n q h = h
      go false w c n q h = absurd (cc)

  -- one that is to write keeps out all that commute
  writer-keeps : mode_of e.rights ≡ Some Writing → conflicts Commuting e ≡ false → ⊥
  writer-keeps m h = go reads writes commutes bare (writes-there e.rights.reads e.rights.writes e.rights.commutes m) h
    where
      go : (r w c n : Bool) → w ≡ true → (r || w) && ((w || c) || n) ≡ false → ⊥
      go true true c n q h = true-not-false h
      go false true c n q h = true-not-false h
      go r false c n q h = absurd (cc)

  -- one that changes nothing is to read
  quiet-reads : (m : Mode) → mode_of e.rights ≡ Some m → changes e.rights ≡ false → m ≡ Reading
  quiet-reads m h q = go (is_reading m) refl
    where
      go : (b : Bool) → is_reading m ≡ b → m ≡ Reading
      go true w = only m w
        where
          only : (m : Mode) → is_reading m ≡ true → m ≡ Reading
          only Reading w = refl
          only Writing w = absurd (cc)
          only Commuting w = absurd (cc)
      go false w = absurd (true-not-false (sym (changes-there e.rights.reads e.rights.writes e.rights.commutes m h w) ∙ q))

-- no entry before the reader's may change the object
reads-too : (es : List Entry) (p : List ℕ) → all_ahead p still es ≡ true → keeper_in p Reading es ≡ None
reads-too es p h = ap (λ f. or_else f None) (none-blocks p Reading es h)

still-ahead : (p : List ℕ) (n : Mode) (es : List Entry) → n ≢ Commuting → all_ahead p (lets n) es ≡ true → all_ahead p still es ≡ true
still-ahead p n es c h = more-ahead p (lets n) still es (λ e g. weaker e g) h
  where
    weaker : (e : Entry) → lets n e ≡ true → still e ≡ true
    weaker e g = ap not (quiet-for e n c (back (conflicts n e) g))
      where
        back : (b : Bool) → not b ≡ true → b ≡ false
        back true h = absurd (cc)
        back false h = refl

module _ (es : List Entry) (s : Standing es) (p q : List ℕ) (e : Entry) (there : find p es ≡ Some e) (before : stands_before p q ≡ true) where
  -- the law on plain paths and modes
  pub first-may : (m n : Mode) → mode_of e.rights ≡ Some m → keeper_in q n es ≡ None → keeper_in p m es ≡ None
  first-may m Reading h k =
      let a = clear-ahead p q Reading es e s.ordered there before (or-left (blocker_in q Reading es) None k) in
      let r : m ≡ Reading = quiet-reads e m h a.0 in
      subst (λ m. keeper_in p m es ≡ None) (sym r) (reads-too es p (still-ahead p Reading es (λ x. absurd (cc)) a.1))
  first-may m Writing h k =
      let a = clear-ahead p q Writing es e s.ordered there before (or-left (blocker_in q Writing es) None k) in
      let w : Writing ≢ Commuting = λ x. absurd (cc) in
      let r : m ≡ Reading = quiet-reads e m h (quiet-for e Writing w a.0) in
      subst (λ m. keeper_in p m es ≡ None) (sym r) (reads-too es p (still-ahead p Writing es w a.1))
  first-may Reading Commuting h k =
      let a = clear-ahead p q Commuting es e s.ordered there before (or-left (blocker_in q Commuting es) (holder_in es) k) in
      let v : is_some e.version ≡ true = some (is_some e.version) (seen-by-commuting e h a.0) in
      reads-too es p (kept-ahead p es e s.kept there v)
    where
      some : (b : Bool) → not b ≡ false → b ≡ true
      some true h = refl
      some false h = absurd (cc)
  first-may Writing Commuting h k =
      let a = clear-ahead p q Commuting es e s.ordered there before (or-left (blocker_in q Commuting es) (holder_in es) k) in
      absurd (writer-keeps e h a.0)
  first-may Commuting Commuting h k =
      let a = clear-ahead p q Commuting es e s.ordered there before (or-left (blocker_in q Commuting es) (holder_in es) k) in
      ap (λ f. or_else f (holder_in es)) (none-blocks p Commuting es a.1) ∙ or-right (blocker_in q Commuting es) (holder_in es) k

  -- two that both may are of one mode, and it is not to write
  pub of-one-mode : (m n : Mode) → mode_of e.rights ≡ Some m → e.version ≡ None → keeper_in q n es ≡ None →
      ((m ≡ Reading) × (n ≡ Reading)) ⊎ ((m ≡ Commuting) × (n ≡ Commuting))
  of-one-mode m Reading h v k =
      let a = clear-ahead p q Reading es e s.ordered there before (or-left (blocker_in q Reading es) None k) in
      inl (quiet-reads e m h a.0, refl)
  of-one-mode m Writing h v k =
      let a = clear-ahead p q Writing es e s.ordered there before (or-left (blocker_in q Writing es) None k) in
      let w : Writing ≢ Commuting = λ x. absurd (cc) in
      let r : m ≡ Reading = quiet-reads e m h (quiet-for e Writing w a.0) in
      absurd (true-not-false (sym (ap is_none v) ∙ seen-by-writer e (subst (λ m. mode_of e.rights ≡ Some m) r h) a.0))
  of-one-mode Reading Commuting h v k =
      let a = clear-ahead p q Commuting es e s.ordered there before (or-left (blocker_in q Commuting es) (holder_in es) k) in
      absurd (true-not-false (sym (ap is_none v) ∙ seen-by-commuting e h a.0))
  of-one-mode Writing Commuting h v k =
      let a = clear-ahead p q Commuting es e s.ordered there before (or-left (blocker_in q Commuting es) (holder_in es) k) in
      absurd (writer-keeps e h a.0)
  of-one-mode Commuting Commuting h v k = inr (refl, refl)

may-none : (f : Option Entry) → f ≡ None → is_none f ≡ true
may-none f h = ap is_none h

-- the first public laws
pub first_may : (es : List Entry) → Standing es → (v w : Waiter) → Asks es v → stands_before v.path w.path ≡ true → may_take es w ≡ true → may_take es v ≡ true
first_may es s v w a b h =
    ap is_none (first-may es s v.path w.path a.entry a.there b v.mode w.mode a.mode (is-none (keeper_in w.path w.mode es) h))

pub one_mode : (es : List Entry) → Standing es → (v w : Waiter) → Waits es v → stands_before v.path w.path ≡ true → may_take es w ≡ true →
    ((v.mode ≡ Reading) × (w.mode ≡ Reading)) ⊎ BothCommute v w
one_mode es s v w a b h =
    of-one-mode es s v.path w.path a.asks.entry a.asks.there b v.mode w.mode a.asks.mode a.versionless (is-none (keeper_in w.path w.mode es) h)

pub seen_may : (es : List Entry) → Standing es → (w : Waiter) (e : Entry) → find w.path es ≡ Some e → is_some e.version ≡ true → w.mode ≡ Reading →
    may_take es w ≡ true
seen_may es s w e f v m =
    ap is_none (subst (λ m. keeper_in w.path m es ≡ None) (sym m) (reads-too es w.path (kept-ahead w.path es e s.kept f v)))

-- an earlier one of a line stands before a later one
ordered-at : (p : List ℕ) (ws : List Waiter) (j : ℕ) (w : Waiter) → order.before_all p (map (λ w. w.path) ws) ≡ true → slice_get ws j ≡ Some w →
    stands_before p w.path ≡ true
ordered-at p [] j w b h = absurd (cc)
ordered-at p (u ∷ ws) zero w b h =
    let q : u ≡ w = cc in
    subst (λ z. stands_before p z.path ≡ true) q (and-left (stands_before p u.path) (order.before_all p (map (λ w. w.path) ws)) b)
ordered-at p (u ∷ ws) (suc j) w b h = ordered-at p ws j w (and-right (stands_before p u.path) (order.before_all p (map (λ w. w.path) ws)) b) h

ordered-pair : (ws : List Waiter) (k j : ℕ) (u w : Waiter) → order.is_ordered (map (λ w. w.path) ws) ≡ true → slice_get ws k ≡ Some u →
    slice_get ws j ≡ Some w → k < j → stands_before u.path w.path ≡ true
ordered-pair [] k j u w o a b lt = absurd (cc)
ordered-pair (x ∷ ws) k zero u w o a b lt = absurd (omega arith)
ordered-pair (x ∷ ws) zero (suc j) u w o a b lt =
    let q : x ≡ u = cc in
    ordered-at u.path ws j w (subst (λ z. order.before_all z.path (map (λ w. w.path) ws) ≡ true) q (order-head x.path (map (λ w. w.path) ws) o)) b
ordered-pair (x ∷ ws) (suc k) (suc j) u w o a b lt = ordered-pair ws k j u w (order-rest x.path (map (λ w. w.path) ws) o) a b (omega arith)

-- who stands in line behind readers alone is among the first readers
readers-reach : (ws : List Waiter) (j : ℕ) (w : Waiter) → slice_get ws j ≡ Some w →
    ((k : ℕ) (u : Waiter) → slice_get ws k ≡ Some u → k ≤ j → u.mode ≡ Reading) → slice_get (readers ws) j ≡ Some w
readers-reach [] j w h r = absurd (cc)
readers-reach (u ∷ ws) zero w h r =
    subst (λ b. slice_get (if b then u ∷ readers ws else []) 0 ≡ Some w) (sym (ap is_reading (r 0 u refl (omega arith)))) h
readers-reach (u ∷ ws) (suc j) w h r =
    subst (λ b. slice_get (if b then u ∷ readers ws else []) (suc j) ≡ Some w) (sym (ap is_reading (r 0 u refl (omega arith))))
    (readers-reach ws j w h (λ k x g le. r (suc k) x g (omega arith)))

pub suffices : (es : List Entry) → Standing es → (v : Waiter) (ws : List Waiter) → InLine es (v ∷ ws) → (i : ℕ) (w : Waiter) →
    slice_get (v ∷ ws) i ≡ Some w → may_take es w ≡ true → (may_take es v ≡ true) × ((slice_get (let_go (v ∷ ws)) i ≡ Some w) ⊎ BothCommute v w)
suffices es s v ws l zero w g h =
    let q : v ≡ w = cc in (
      subst (λ z. may_take es z ≡ true) (sym q) h,
      inl (elim (is_reading v.mode) as (λ b. slice_get (if b then v ∷ readers ws else v ∷ []) 0 ≡ Some w) [ true ↦ g | false ↦ g ]),
    )
suffices es s v ws l (suc j) w g h =
    let a : Waits es v = l.all 0 v refl in
    let b : stands_before v.path w.path ≡ true = ordered-pair (v ∷ ws) 0 (suc j) v w l.ordered refl g (omega arith) in
    (first_may es s v w a.asks b h, go (one_mode es s v w a b h))
  where
    behind : v.mode ≡ Reading → w.mode ≡ Reading → slice_get (let_go (v ∷ ws)) (suc j) ≡ Some w
    behind m n =
        subst (λ b. slice_get (if b then v ∷ readers ws else v ∷ []) (suc j) ≡ Some w) (sym (ap is_reading m)) (readers-reach ws j w g each)
      where
        each : (k : ℕ) (u : Waiter) → slice_get ws k ≡ Some u → k ≤ j → u.mode ≡ Reading
        each k u x le = which (nat_lt k j) refl
          where
            which : (b : Bool) → nat_lt k j ≡ b → u.mode ≡ Reading
            which true lt =
                let o : stands_before u.path w.path ≡ true =
                ordered-pair (v ∷ ws) (suc k) (suc j) u w l.ordered x g (grind (arith, nat_tests)) in
                side (one_mode es s u w (l.all (suc k) u x) o h)
              where
                side : ((u.mode ≡ Reading) × (w.mode ≡ Reading)) ⊎ BothCommute u w → u.mode ≡ Reading
                side (inl c) = c.0
                side (inr c) = absurd (let d : Reading ≡ Commuting = sym n ∙ c.1 in cc)
            which false ge =
                let e : k ≡ j = grind (arith, nat_tests) in
                let y : u ≡ w = same (slice_get ws j) (subst (λ z. slice_get ws z ≡ Some u) e x) g in
                subst (λ z. z.mode ≡ Reading) (sym y) n
              where
                same : (o : Option Waiter) → o ≡ Some u → o ≡ Some w → u ≡ w
                same o a b = cc

    go : ((v.mode ≡ Reading) × (w.mode ≡ Reading)) ⊎ BothCommute v w → (slice_get (let_go (v ∷ ws)) (suc j) ≡ Some w) ⊎ BothCommute v w
    go (inl c) = inl (behind c.0 c.1)
    go (inr c) = inr c
