-- Takes for reading and for writing.
use Rattle.std.proofs.Common.{◌≡◌, ◌≢◌, ℕ, ◌+◌, Bool, true, false, not, ◌||◌, ◌&&◌, List, [], ◌∷◌, refl, sym, ap, ◌∙◌, subst, Option, Some, None, arith, ◌⊎◌, inl, inr}
use Rattle.std.specs.Prelude.{is_some}
use Rattle.jade_base.specs.declared.rights.Rights.{Rights}
use Rattle.jade_base.specs.Rights.{is_there, has_rights}
use Rattle.jade_meaning.specs.Specification.{commuting_on}
use Rattle.jade_base.specs.declared.rights.Mode.{Mode}
use Rattle.jade_base.specs.declared.rights.Mode.TheVariants.{Reading, Writing, Commuting}
use Rattle.jade_meaning.specs.Talk.{Event, Take}
use Rattle.jade_meaning.specs.Serial.{Path, Store}
use Rattle.jade_meaning.specs.Turns.{World, Ran, group, settle_all, first}
use Rattle.jade_meaning.specs.Serial.{at_object}
use Rattle.schedule_core.specs.Core.{Cells, Live, Bare, put, writes_there, quiet, is_out, content_for, version_or}
use Rattle.jade_meaning.specs.Laws.{Every}
use Rattle.schedule_core.specs.Sound.{Fit, Orderly, Before, Fresh, TakesOnly, UpTo, OwnLast, Has, only_commutes, settling, awaits, left, left_from, may}
use Rattle.schedule_core.specs.Onwards.{sees, sited, onwards}
use Rattle.schedule_core.specs.Going.{world_of, Small}
use Rattle.schedule_core.proofs.Opens.{empty_all}
use Rattle.schedule_core.proofs.Calm.{put_either}
use Rattle.schedule_core.proofs.Running.{every_by, every_two}
use Rattle.schedule_core.proofs.Idle.{false_true}
use Rattle.schedule_core.proofs.Front.{mode_reads, mode_writes}
use Rattle.schedule_core.proofs.Pairs.{put_here, put_there}
use Rattle.schedule_core.proofs.Pend.{Follows, every_all, calm_content, sees_as}

has_reads : (a : Rights) → is_there a.reads ≡ true → has_rights a ≡ true
has_reads a h = ap (λ z. z || is_there a.writes || is_there a.commutes) h

has_writes : (a : Rights) → is_there a.writes ≡ true → has_rights a ≡ true
has_writes a h = go (is_there a.reads) (is_there a.writes) (is_there a.commutes) h
  where
    go : (r w c : Bool) → w ≡ true → r || w || c ≡ true
    go true w c h = ap (λ z. true || z || c) h
    go false w c h = ap (λ z. z || c) h

-- nobody waits on the object, and its content is the same
take_left : (t : ℕ → List Path) (c d : Live Bare) (w : World) (o : ℕ) (e : Event) (es : List Event) → settling (e ∷ es) ≡ o ∷ settling es → awaits (e ∷ es) ≡ awaits es → c.doing.pending ≡ e ∷ es → d.path ≡ c.path → d.part ≡ c.part → d.rights ≡ c.rights → d.doing ≡ record c.doing { pending = es } → group o w.waiting ≡ [] → sees c 0 w.store ≡ sees d 0 w.store → left t (sited c w) ≡ left t (sited d w)
take_left t c d w o e es s a pends path part rights doing none place =
    ap (λ os. F os (awaits c.doing.pending) (sees c 0 w.store)) (ap settling pends ∙ s) ∙ ap (λ x. F (o ∷ settling es) x (sees c 0 w.store)) (ap awaits pends ∙ a) ∙ ap (λ (r : Ran). first r.marks (T (awaits es) r.world)) (empty_all t o (settling es) (P (sees c 0 w.store)) none) ∙ ap (F (settling es) (awaits es)) place ∙ sym theirs
  where
    P : Store → World
    P s = record { store = s; waiting = w.waiting }

    T : Option ℕ → World → Ran
    T x v = left_from t x (commuting_on c.doing.spec) (sited c w) v

    F : List ℕ → Option ℕ → Store → Ran
    F os x s = first (settle_all t os (P s)).marks (T x (settle_all t os (P s)).world)

    same : (p : Path) (k : ℕ) (r : ℕ → Rights) (x : Option ℕ) (y : Option ℕ) (v : World) → left_from t x y (record { path = p; part = k; place = (sited d w).place; rights = r; held = d.held; versions = d.versions; doing = record c.doing { pending = es } }) v ≡ left_from t x y (record { path = p; part = k; place = (sited c w).place; rights = r; held = c.held; versions = c.versions; doing = c.doing }) v
    same p k r (Some x) y v = refl
    same p k r None (Some y) v = refl
    same p k r None None v = refl

    G : Path → ℕ → (ℕ → Rights) → Ran
    G p k r = first (settle_all t (settling es) (P (sees d 0 w.store))).marks (left_from t (awaits es) (commuting_on c.doing.spec) (record { path = p; part = k; place = (sited d w).place; rights = r; held = d.held; versions = d.versions; doing = record c.doing { pending = es } }) (settle_all t (settling es) (P (sees d 0 w.store))).world)

    theirs : left t (sited d w) ≡ F (settling es) (awaits es) (sees d 0 w.store)
    theirs =
        ap (λ z. left t (record { path = d.path; part = d.part; place = (sited d w).place; rights = d.rights; held = d.held; versions = d.versions; doing = z })) doing ∙ ap (λ p. G p d.part d.rights) path ∙ ap (λ k. G c.path k d.rights) part ∙ ap (λ r. G c.path c.part r) rights ∙ ap (first (settle_all t (settling es) (P (sees d 0 w.store))).marks) (same c.path c.part c.rights (awaits es) (commuting_on c.doing.spec) (settle_all t (settling es) (P (sees d 0 w.store))).world)

-- for reading
module _ (f : ℕ → Cells) (b l : List (Live Bare)) (size : ℕ) (c : Live Bare) (o : ℕ) (es : List Event) (fit : Fit c) (pends : c.doing.pending ≡ Take o Reading ∷ es) (allowed : Every (λ s. writes_there o s ≡ false) b) where
  abbrev pub reader : Live Bare
  reader = record {
    path = c.path;
    part = c.part;
    place = tt;
    rights = c.rights;
    held = put c.held o (Some Reading);
    versions = put c.versions o (Some (version_or (c.versions o) (f o)));
    doing = record c.doing { pending = es };
  }

  ordered : Orderly c.doing.spec c.doing.plan c.doing.course (Take o Reading ∷ es) c.rights c.held
  ordered = subst (λ z. Orderly c.doing.spec c.doing.plan c.doing.course z c.rights c.held) pends fit.orderly

  more : (x : ℕ) → is_some (c.versions x) ≡ true → is_some (put c.versions o (Some (version_or (c.versions o) (f o))) x) ≡ true
  more x h = put_either (λ v. is_some v ≡ true) c.versions o (Some (version_or (c.versions o) (f o))) x (λ i. refl) (λ i. h)

  quiet_reader : (x : ℕ) → quiet x c ≡ true → quiet x reader ≡ true
  quiet_reader x q = go (writes_there x c) (is_there (c.rights x).reads) (is_some (c.versions x)) refl q
    where
      go : (w r v : Bool) → is_some (c.versions x) ≡ v → not w && (not r || v) ≡ true → not w && (not r || is_some (put c.versions o (Some (version_or (c.versions o) (f o))) x)) ≡ true
      go true r v e h = absurd (cc)
      go false false v e h = refl
      go false true true e h = more x e
      go false true false e h = absurd (cc)

  either : (x : ℕ) → quiet x c || only_commutes x c ≡ true → quiet x reader || only_commutes x c ≡ true
  either x h = go (quiet x c) refl h
    where
      or_true : (a b : Bool) → b ≡ true → a || b ≡ true
      or_true true b e = refl
      or_true false b e = e

      go : (q : Bool) → quiet x c ≡ q → q || only_commutes x c ≡ true → quiet x reader || only_commutes x c ≡ true
      go true e h = ap (λ z. z || only_commutes x c) (quiet_reader x e)
      go false e h = or_true _ _ h

  held_not : (m : Mode) (x : ℕ) → (Some Reading ≡ Some m → ⊥) → put c.held o (Some Reading) x ≡ Some m → (x ≢ o) × (c.held x ≡ Some m)
  held_not m x bad h = put_either (λ y. y ≡ Some m → (x ≢ o) × (c.held x ≡ Some m)) c.held o (Some Reading) x (λ i h. absurd (bad h)) (λ i h. (i, h)) h

  pub read_follows : Small size c → ((x : ℕ) → Fresh x (f x) c) → Follows b l f size c reader
  read_follows small fresh = record {
    path = refl;
    part = refl;
    fit = record {
      proper = fit.proper;
      less = fit.less;
      holds = λ x. put_either (λ m. may m (c.rights x) ≡ true) c.held o (Some Reading) x (λ i. subst (λ z. is_there (c.rights z).reads ≡ true) (sym i) (mode_reads (c.rights o) ordered.1)) (λ i. fit.holds x);
      keeps = λ x v w. put_either (λ m. m ≡ Some Reading) c.held o (Some Reading) x (λ i. refl) (λ i. fit.keeps x (ap is_some (sym (put_there c.versions o (Some (version_or (c.versions o) (f o))) x i)) ∙ v) w);
      reading = λ x h. put_either (λ v. is_some v ≡ true) c.versions o (Some (version_or (c.versions o) (f o))) x (λ i. refl) (λ i. fit.reading x (sym (put_there c.held o (Some Reading) x i) ∙ h));
      orderly = ordered.2;
      last = λ x h. absurd (let k : o ∷ settling es ≡ [] = sym (ap settling pends) ∙ (fit.last x (held_not Commuting x (λ e. absurd (cc)) h).1).0 in cc);
      own_last = subst OwnLast pends fit.own_last;
      commuting = fit.commuting;
      reads = λ x y e i. has x (fit.reads x y (ap awaits pends ∙ e) i);
      begun = λ y e. let k = fit.begun y (ap awaits pends ∙ e) in (k.0, k.1, subst (λ z. UpTo z) pends k.2, k.3, k.4);
      turned = λ y e. let k = fit.turned y e in (subst (λ z. TakesOnly z) pends k.0, inr (waits y k.1), k.2);
    };
    small = record { spec = small.spec; rights = small.rights };
    front = λ x. every_by (λ s. writes_there o s ≡ false) (λ s. Before x s c → Before x s reader) (λ s none k. record {
      writing = λ h. k.writing (held_not Writing x (λ e. absurd (cc)) h).1;
      reading = λ h. put_either (λ v. is_some v ≡ true → writes_there x s ≡ false) c.versions o (Some (version_or (c.versions o) (f o))) x (λ i h. subst (λ z. writes_there z s ≡ false) (sym i) none) (λ i h. k.reading h) h;
      commuting = λ h. k.commuting (held_not Commuting x (λ e. absurd (cc)) h).1;
      one = λ h i. put_either (λ m. is_out (s.held x) ≡ true → is_out m ≡ true → ⊥) c.held o (Some Reading) x (λ j h i. absurd (cc)) (λ j h i. k.one h i) h i;
    }) b allowed;
    behind = λ x. every_all (λ u. Before x c u → Before x reader u) (λ u k. record {
      writing = λ h. quiet_reader x (k.writing h);
      reading = k.reading;
      commuting = λ h. either x (k.commuting h);
      one = λ h i. put_either (λ m. is_out m ≡ true → is_out (u.held x) ≡ true → ⊥) c.held o (Some Reading) x (λ j h i. absurd (cc)) (λ j h i. k.one h i) h i;
    }) l;
    fresh = λ x w. put_either (λ v. version_or v (f x) ≡ f x) c.versions o (Some (version_or (c.versions o) (f o))) x (λ i. subst (λ z. version_or (c.versions o) (f o) ≡ f z) (sym i) (fresh o (subst (λ z. writes_there z c ≡ true) i w))) (λ i. fresh x w);
  }
    where
      has : (x : ℕ) → Has x (settling c.doing.pending) ⊎ (is_some (c.versions x) ≡ true) → Has x (settling es) ⊎ (is_some (put c.versions o (Some (version_or (c.versions o) (f o))) x) ≡ true)
      has x (inr h) = inr (more x h)
      has x (inl h) = go (subst (λ z. Has x (settling z)) pends h)
        where
          go : (o ≡ x) ⊎ Has x (settling es) → Has x (settling es) ⊎ (is_some (put c.versions o (Some (version_or (c.versions o) (f o))) x) ≡ true)
          go (inl e) = inr (ap is_some (put_here c.versions o (Some (version_or (c.versions o) (f o))) x (sym e)))
          go (inr h) = inl h

      waits : (y : ℕ) → (c.doing.pending ≡ []) ⊎ (awaits c.doing.pending ≡ Some y) → awaits es ≡ Some y
      waits y (inl e) = absurd (let z : Take o Reading ∷ es ≡ [] = sym pends ∙ e in cc)
      waits y (inr e) = sym (ap awaits pends) ∙ e

  pub read_left : (t : ℕ → List Path) → Every Fit b → Small size c → left t (sited c (onwards t b (world_of size f)).world) ≡ left t (sited reader (onwards t b (world_of size f)).world)
  read_left t fits small =
      let w = (onwards t b (world_of size f)).world in
      let k = calm_content t size f o b fits allowed (small.rights o (has_reads (c.rights o) (mode_reads (c.rights o) ordered.1))) in
      take_left t c reader w o (Take o Reading) es refl refl pends refl refl refl refl k.1 (sees_as c reader 0 w.store (λ x. let z : 0 + x ≡ x = omega arith in subst (λ i. content_for c i (at_object w.store x) ≡ content_for reader i (at_object w.store x)) (sym z) (put_either (λ v. version_or (c.versions x) (at_object w.store x) ≡ version_or v (at_object w.store x)) c.versions o (Some (version_or (c.versions o) (f o))) x (λ i. subst (λ y. version_or (c.versions y) (at_object w.store y) ≡ version_or (c.versions o) (f o)) (sym i) (ap (version_or (c.versions o)) k.0)) (λ i. refl))))

-- for writing
module _ (f : ℕ → Cells) (b l : List (Live Bare)) (size : ℕ) (c : Live Bare) (o : ℕ) (es : List Event) (fit : Fit c) (pends : c.doing.pending ≡ Take o Writing ∷ es) (fits_b : Every Fit b) (allowed : Every (λ s. quiet o s ≡ true) b) where
  abbrev pub writer : Live Bare
  writer = record {
    path = c.path;
    part = c.part;
    place = tt;
    rights = c.rights;
    held = put c.held o (Some Writing);
    versions = c.versions;
    doing = record c.doing { pending = es };
  }

  ordered_w : Orderly c.doing.spec c.doing.plan c.doing.course (Take o Writing ∷ es) c.rights c.held
  ordered_w = subst (λ z. Orderly c.doing.spec c.doing.plan c.doing.course z c.rights c.held) pends fit.orderly

  there_w : is_there (c.rights o).writes ≡ true
  there_w = mode_writes (c.rights o) ordered_w.1

  writes_w : writes_there o c ≡ true
  writes_w = ap (λ z. z || is_there (c.rights o).commutes) there_w

  unseen_w : is_some (c.versions o) ≡ true → ⊥
  unseen_w h = let k : c.held o ≡ Some Reading = fit.keeps o h writes_w in let z : None ≡ Some Reading = sym ordered_w.0 ∙ k in cc

  quiet_not : (s : Live Bare) → quiet o s ≡ true → writes_there o s ≡ false
  quiet_not s q = go (writes_there o s) q
    where
      go : (w : Bool) → not w && (not (is_there (s.rights o).reads) || is_some (s.versions o)) ≡ true → w ≡ false
      go true h = absurd (cc)
      go false h = refl

  out_writes : (u : Live Bare) (m : Option Mode) → may m (u.rights o) ≡ true → is_out m ≡ true → writes_there o u ≡ true
  out_writes u None h e = absurd (cc)
  out_writes u (Some Reading) h e = absurd (cc)
  out_writes u (Some Writing) h e = ap (λ z. z || is_there (u.rights o).commutes) h
  out_writes u (Some Commuting) h e = or_true (is_there (u.rights o).writes) (is_there (u.rights o).commutes) h
    where
      or_true : (a b : Bool) → b ≡ true → a || b ≡ true
      or_true true b e = refl
      or_true false b e = e

  not_behind : (u : Live Bare) → Before o c u → is_out (u.held o) ≡ true → ⊥
  not_behind u k h = go (u.held o) refl h
    where
      go : (m : Option Mode) → u.held o ≡ m → is_out m ≡ true → ⊥
      go None e h = absurd (cc)
      go (Some Reading) e h = absurd (cc)
      go (Some Writing) e h = false_true (writes_there o c) (quiet_not c (k.writing e)) writes_w
      go (Some Commuting) e h = no (is_there (c.rights o).writes) (is_there (c.rights o).commutes) (is_there (c.rights o).reads) (is_some (c.versions o)) there_w (k.commuting e)
        where
          no : (w x r v : Bool) → w ≡ true → (not (w || x) && (not r || v)) || (not r && not w) ≡ true → ⊥
          no false x r v e h = absurd (cc)
          no true x true v e h = absurd (cc)
          no true x false v e h = absurd (cc)

  pub write_follows : Small size c → ((x : ℕ) → Fresh x (f x) c) → Follows b l f size c writer
  write_follows small fresh = record {
    path = refl;
    part = refl;
    fit = record {
      proper = fit.proper;
      less = fit.less;
      holds = λ x. put_either (λ m. may m (c.rights x) ≡ true) c.held o (Some Writing) x (λ i. subst (λ z. is_there (c.rights z).writes ≡ true) (sym i) there_w) (λ i. fit.holds x);
      keeps = λ x v w. put_either (λ m. m ≡ Some Reading) c.held o (Some Writing) x (λ i. absurd (unseen_w (subst (λ z. is_some (c.versions z) ≡ true) i v))) (λ i. fit.keeps x v w);
      reading = λ x h. put_either (λ m. m ≡ Some Reading → is_some (c.versions x) ≡ true) c.held o (Some Writing) x (λ i h. absurd (cc)) (λ i h. fit.reading x h) h;
      orderly = ordered_w.2;
      last = λ x h. absurd (let k : o ∷ settling es ≡ [] = sym (ap settling pends) ∙ (fit.last x (put_either (λ m. m ≡ Some Commuting → c.held x ≡ Some Commuting) c.held o (Some Writing) x (λ i h. absurd (cc)) (λ i h. h) h)).0 in cc);
      own_last = subst OwnLast pends fit.own_last;
      commuting = fit.commuting;
      reads = λ x y e i. absurd (false_true (is_there (c.rights o).writes) ((fit.begun y (ap awaits pends ∙ e)).3 o) there_w);
      begun = λ y e. let k = fit.begun y (ap awaits pends ∙ e) in (k.0, k.1, subst (λ z. UpTo z) pends k.2, k.3, k.4);
      turned = λ y e. let k = fit.turned y e in (subst (λ z. TakesOnly z) pends k.0, inr (waits y k.1), k.2);
    };
    small = record { spec = small.spec; rights = small.rights };
    front = λ x. every_by (λ s. quiet o s ≡ true × Fit s) (λ s. Before x s c → Before x s writer) (λ s g k. record {
      writing = λ h. put_either (λ m. m ≡ Some Writing → quiet x s ≡ true) c.held o (Some Writing) x (λ i h. subst (λ z. quiet z s ≡ true) (sym i) g.0) (λ i h. k.writing h) h;
      reading = k.reading;
      commuting = λ h. k.commuting (put_either (λ m. m ≡ Some Commuting → c.held x ≡ Some Commuting) c.held o (Some Writing) x (λ i h. absurd (cc)) (λ i h. h) h);
      one = λ h i. put_either (λ m. is_out (s.held x) ≡ true → is_out m ≡ true → ⊥) c.held o (Some Writing) x (λ j h i. false_true (writes_there o s) (quiet_not s g.0) (out_writes s (s.held o) (g.1.holds o) (subst (λ z. is_out (s.held z) ≡ true) j h))) (λ j h i. k.one h i) h i;
    }) b (every_two (λ s. quiet o s ≡ true) Fit b allowed fits_b);
    behind = λ x. every_all (λ u. Before x c u → Before x writer u) (λ u k. record {
      writing = k.writing;
      reading = k.reading;
      commuting = k.commuting;
      one = λ h i. put_either (λ m. is_out m ≡ true → is_out (u.held x) ≡ true → ⊥) c.held o (Some Writing) x (λ j h i. not_behind u (subst (λ z. Before z c u) j k) (subst (λ z. is_out (u.held z) ≡ true) j i)) (λ j h i. k.one h i) h i;
    }) l;
    fresh = fresh;
  }
    where
      waits : (y : ℕ) → (c.doing.pending ≡ []) ⊎ (awaits c.doing.pending ≡ Some y) → awaits es ≡ Some y
      waits y (inl e) = absurd (let z : Take o Writing ∷ es ≡ [] = sym pends ∙ e in cc)
      waits y (inr e) = sym (ap awaits pends) ∙ e

  pub write_left : (t : ℕ → List Path) → Small size c → left t (sited c (onwards t b (world_of size f)).world) ≡ left t (sited writer (onwards t b (world_of size f)).world)
  write_left t small =
      let w = (onwards t b (world_of size f)).world in
      let k = calm_content t size f o b fits_b (every_by (λ s. quiet o s ≡ true) (λ s. writes_there o s ≡ false) (λ s q. quiet_not s q) b allowed) (small.rights o (has_writes (c.rights o) there_w)) in
      take_left t c writer w o (Take o Writing) es refl refl pends refl refl refl refl k.1 (sees_as c writer 0 w.store (λ x. refl))
