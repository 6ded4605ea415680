-- A Take for Commuting keeps a state sound.
use Rattle.std.proofs.Common.{◌≡◌, ◌≢◌, ℕ, Bool, true, false, ◌||◌, ◌&&◌, List, [], ◌∷◌, ◌++◌, length, refl, sym, ap, ◌∙◌, subst, Option, Some, None, append_assoc, inl}
use Rattle.std.specs.Prelude.{ℤ, nat_eq, if◌then◌else◌, is_some}
use Rattle.std.specs.List.{cons_option}
use Rattle.std.proofs.Math.Path.{fun_ext}
use Rattle.std.proofs.lemmas.List.Elements.{filter_map-append}
use Rattle.std.proofs.lemmas.Bool.{eq-eqb, ne_eqb}
use Rattle.jade_base.specs.Rights.{is_there}
use Rattle.jade_base.specs.declared.rights.Mode.{Mode}
use Rattle.jade_base.specs.declared.rights.Mode.TheVariants.{Reading, Writing, Commuting}
use Rattle.jade_syntax.specs.Abstract.{AbstractProgram}
use Rattle.jade_syntax.specs.Objects.{sizes}
use Rattle.jade_meaning.specs.Talk.{Event, Enter, Enroll, Take, TouchRead, TouchWrite, Wants, Give, Leave, Shift, Resign}
use Rattle.jade_meaning.specs.Serial.{Mark, Path, Store, DidTurn, marks_at, zeros}
use Rattle.jade_meaning.specs.Serial.{at_object}
use Rattle.jade_meaning.specs.Turns.{at_path, turns_on, marks_by}
use Rattle.schedule_core.specs.Core.{Cells, Live, State, Bare, put, bare_past, stepped_with, event_with, permitted, permitted_event, writes_there, quiet, is_out, allows, all_allow, at_home, mark}
use Rattle.schedule_core.specs.Sound.{Fit, Orderly, Before, Apart, Fresh, TakesOnly, OwnLast, only_commutes, settling, awaits, may, works_on, worked, Work, Wrote, Turned}
use Rattle.schedule_core.specs.Going.{to_come, Small, Going, SoundSo}
use Rattle.schedule_core.proofs.Calm.{put_either, mode_commutes}
use Rattle.schedule_core.proofs.Running.{every_by, every_two}
use Rattle.schedule_core.proofs.Idle.{false_true}
use Rattle.schedule_core.proofs.Front.{Front}
use Rattle.schedule_core.proofs.Pairs.{every_l, every_m, every_r, every_change, pairs_change, pairs_bb, pairs_b, pairs_l, and_l, and_r, every_allows, every_home, commuting_allows, put_self}
use Rattle.schedule_core.proofs.Takes.{Now, orderly, commutes, unseen_c, after_it, take_deeds}

pub own_last_none : (es : List Event) → awaits es ≡ None → OwnLast es
own_last_none [] h = tt
own_last_none (Take o Commuting ∷ es) h = absurd (cc)
own_last_none (Take o Reading ∷ es) h = own_last_none es h
own_last_none (Take o Writing ∷ es) h = own_last_none es h
own_last_none (Give o ∷ es) h = own_last_none es h
own_last_none (Enter o a ∷ es) h = own_last_none es h
own_last_none (Shift o a ∷ es) h = own_last_none es h
own_last_none (Leave o ∷ es) h = own_last_none es h
own_last_none (Enroll o a ∷ es) h = own_last_none es h
own_last_none (TouchRead o c v ∷ es) h = own_last_none es h
own_last_none (TouchWrite o c v ∷ es) h = own_last_none es h
own_last_none (Wants o c ∷ es) h = own_last_none es h
own_last_none (Resign o n ∷ es) h = own_last_none es h

takes_none : (es : List Event) → TakesOnly es → settling es ≡ [] → awaits es ≡ None → es ≡ []
takes_none [] t s a = refl
takes_none (Take o Commuting ∷ es) t s a = absurd (cc)
takes_none (Take o Reading ∷ es) t s a = absurd (cc)
takes_none (Take o Writing ∷ es) t s a = absurd (cc)
takes_none (Give o ∷ es) t s a = absurd t
takes_none (Enter o x ∷ es) t s a = absurd t
takes_none (Shift o x ∷ es) t s a = absurd t
takes_none (Leave o ∷ es) t s a = absurd t
takes_none (Enroll o x ∷ es) t s a = absurd t
takes_none (TouchRead o c v ∷ es) t s a = absurd t
takes_none (TouchWrite o c v ∷ es) t s a = absurd t
takes_none (Wants o c ∷ es) t s a = absurd t
takes_none (Resign o n ∷ es) t s a = absurd t

pub worked_both : (a b : List Work) (xs : Cells) → worked (a ++ b) xs ≡ worked b (worked a xs)
worked_both [] b xs = refl
worked_both (Wrote q k c v ∷ a) b xs = worked_both a b _
worked_both (Turned p ∷ a) b xs = worked_both a b xs

module _ (o : ℕ) (es : List Event) (c : Live Bare) where
  abbrev pub took : Live Bare
  took = record {
    path = c.path;
    part = c.part;
    place = tt;
    rights = c.rights;
    held = put c.held o (Some Commuting);
    versions = c.versions;
    doing = record c.doing { pending = es };
  }

  held_either : (P : ℕ → Option Mode → Type 0) → P o (Some Commuting) → ((x : ℕ) → x ≢ o → P x (c.held x)) → (x : ℕ) → P x (put c.held o (Some Commuting) x)
  held_either P here there x =
      put_either (P x) c.held o (Some Commuting) x (λ e. subst (λ z. P z (Some Commuting)) (sym e) here) (there x)

  module _ (size : ℕ) (f : ℕ → Cells) (b l : List (Live Bare)) (n : Now size f o es b l c) where
    took_fit : Fit took
    took_fit = record {
      proper = n.fit.proper;
      less = n.fit.less;
      holds = held_either (λ x m. may m (c.rights x) ≡ true) (commutes size f o es b l c n) (λ x ne. n.fit.holds x);
      keeps = λ x v w. held_either (λ x m. is_some (c.versions x) ≡ true → writes_there x c ≡ true → m ≡ Some Reading) (λ v w. false_true _ (ap is_some (unseen_c size f o es b l c n)) v) (λ x ne v w. n.fit.keeps x v w) x v w;
      reading = held_either (λ x m. m ≡ Some Reading → is_some (c.versions x) ≡ true) (λ e. absurd (cc)) (λ x ne e. n.fit.reading x e);
      orderly = (orderly size f o es b l c n).2;
      last = λ x e. after_it size f o es b l c n;
      own_last = own_last_none es (after_it size f o es b l c n).1;
      commuting = n.fit.commuting;
      reads = λ x y e i. absurd (let z : None ≡ Some y = sym (after_it size f o es b l c n).1 ∙ e in cc);
      begun = λ y e. absurd (let z : None ≡ Some y = sym (after_it size f o es b l c n).1 ∙ e in cc);
      turned = λ y e. let k = n.fit.turned y e in let t = subst (λ z. TakesOnly z) n.pends k.0 in let a = after_it size f o es b l c n in (t, inl (takes_none es t a.0 a.1), k.2);
    }

    before_took : (x : ℕ) (s : Live Bare) → Front o s → Before x s c → Before x s took
    before_took x s g h = record {
      writing = λ e. put_either (λ m. m ≡ Some Writing → quiet x s ≡ true) c.held o (Some Commuting) x (λ i e. absurd (cc)) (λ i e. h.writing e) e;
      reading = h.reading;
      commuting = λ e. put_either (λ m. m ≡ Some Commuting → quiet x s || only_commutes x s ≡ true) c.held o (Some Commuting) x (λ i e. subst (λ z. quiet z s || only_commutes z s ≡ true) (sym i) g.0) (λ i e. h.commuting e) e;
      one = λ e i. put_either (λ m. is_out (s.held x) ≡ true → is_out m ≡ true → ⊥) c.held o (Some Commuting) x (λ j e i. false_true (is_out (s.held o)) g.1 (subst (λ z. is_out (s.held z) ≡ true) j e)) (λ j e i. h.one e i) e i;
    }

    took_before : (x : ℕ) (u : Live Bare) → is_out (u.held o) ≡ false → Before x c u → Before x took u
    took_before x u g h = record {
      writing = h.writing;
      reading = h.reading;
      commuting = h.commuting;
      one = λ e i. put_either (λ m. is_out m ≡ true → is_out (u.held x) ≡ true → ⊥) c.held o (Some Commuting) x (λ j e i. false_true (is_out (u.held o)) g (subst (λ z. is_out (u.held z) ≡ true) j i)) (λ j e i. h.one e i) e i;
    }

pub turned_on : (o : ℕ) (p : Path) (k : ℕ) (rest : ℕ → List Path) → turns_on o (at_path p k (DidTurn o) ∷ []) ++ rest o ≡ p ∷ rest o
turned_on o p k rest = ap (λ b. cons_option (if b then Some p else None) [] ++ rest o) (eq-eqb o o refl)

not_turned_on : (o x : ℕ) (p : Path) (k : ℕ) (rest : ℕ → List Path) → x ≢ o → turns_on x (at_path p k (DidTurn o) ∷ []) ++ rest x ≡ rest x
not_turned_on o x p k rest ne =
    ap (λ b. cons_option (if b then Some p else None) [] ++ rest x) (ne_eqb o x (λ i. ne (sym i)))

module _ (size : ℕ) (serially : List Mark) (zero' : Store) (f : ℕ → Cells) (log : List Mark) (o : ℕ) (es : List Event) (b l : List (Live Bare)) (c : Live Bare) (pends : c.doing.pending ≡ Take o Commuting ∷ es) (allowed : permitted b c l ≡ true) (rest : ℕ → List Path) where
  abbrev old_state : State Bare
  old_state = record { roll = b ++ (c ∷ l); contents = f; log = log }

  abbrev new_state : State Bare
  new_state =
      record { roll = b ++ (took o es c ∷ l); contents = f; log = log ++ mark c (DidTurn o) ∷ [] }

  abbrev before_turns : ℕ → List Path
  before_turns x = turns_on x (mark c (DidTurn o) ∷ []) ++ rest x

  allow_both : (all_allow o Commuting b ≡ true) × (at_home o (b ++ l) ≡ true)
  allow_both =
      let h : all_allow o Commuting b && at_home o (b ++ l) ≡ true = subst (λ z. permitted_event z b l ≡ true) pends allowed in
      (and_l _ _ h, and_r _ _ h)

  now : Going before_turns size serially zero' old_state → Now size f o es b l c
  now g =
      let home = every_home o b l allow_both.1 in
      let fit = every_m Fit b l c g.fits in
      record {
        pends = pends;
        fits_b = every_l Fit b l c g.fits;
        fit = fit;
        fits_l = every_r Fit b l c g.fits;
        apart_b = pairs_b Apart b l c g.apart;
        apart_l = pairs_l Apart b l c g.apart;
        before_bb = pairs_bb (Before o) b l c (g.before o);
        before_l = pairs_l (Before o) b l c (g.before o);
        front = every_two (λ s. quiet o s || only_commutes o s ≡ true) (λ s. is_out (s.held o) ≡ false) b (every_by (λ s. allows o Commuting s ≡ true) (λ s. quiet o s || only_commutes o s ≡ true) (commuting_allows o) b (every_allows o Commuting b allow_both.0)) home.0;
        home_l = home.1;
        inside = (every_m (Small size) b l c g.small).rights o (some_right (is_there (c.rights o).reads || is_there (c.rights o).writes) _ (mode_commutes (c.rights o) (subst (λ z. Orderly c.doing.spec c.doing.plan c.doing.course z c.rights c.held) pends fit.orderly).1));
      }
    where
      some_right : (x y : Bool) → y ≡ true → x || y ≡ true
      some_right true y e = refl
      some_right false y e = e

  pub take_goes : Going before_turns size serially zero' old_state → Going rest size serially zero' new_state
  take_goes g =
      let n = now g in
      let at_zero : mark c (DidTurn o) ≡ at_path c.path 0 (DidTurn o) = ap (λ k. at_path c.path k (DidTurn o)) ((n.fit.begun o (ap awaits pends)).0) in
      let s = take_deeds size f o es b l c n before_turns rest (turned_on o c.path c.part rest) (λ x ne. not_turned_on o x c.path c.part rest ne) (took o es c) refl refl (λ x. refl) refl log in
      record {
        deeds = λ p. g.deeds p ∙ s.deeds p ∙ ap (λ k. marks_at p ((log ++ k ∷ []) ++ to_come rest size new_state)) (sym at_zero);
        works = λ x. g.works x ∙ s.works x ∙ ap (λ k. works_on x ((log ++ k ∷ []) ++ to_come rest size new_state)) (sym at_zero);
        contents = λ x. g.contents x ∙ same x;
        small = every_change (Small size) b l c (took o es c) g.small (λ k. record { spec = k.spec; rights = k.rights });
        fits = every_change Fit b l c (took o es c) g.fits (λ k. took_fit o es c size f b l n);
        apart = pairs_change Apart b l c (took o es c) g.apart (every_by (Front o) (λ s. Apart s c → Apart s (took o es c)) (λ s k h. h) b n.front) (every_by (λ u. is_out (u.held o) ≡ false) (λ u. Apart c u → Apart (took o es c) u) (λ u k h. h) l n.home_l);
        before = λ x. pairs_change (Before x) b l c (took o es c) (g.before x) (every_by (Front o) (λ s. Before x s c → Before x s (took o es c)) (λ s k h. before_took o es c size f b l n x s k h) b n.front) (every_by (λ u. is_out (u.held o) ≡ false) (λ u. Before x c u → Before x (took o es c) u) (λ u k h. took_before o es c size f b l n x u k h) l n.home_l);
        fresh = λ x. every_change (Fresh x (f x)) b l c (took o es c) (g.fresh x) (λ k. k);
      }
    where
      turn_works : (x : ℕ) (b : Bool) (xs : Cells) → worked (cons_option (if b then Some (Turned c.path) else None) []) xs ≡ xs
      turn_works x true xs = refl
      turn_works x false xs = refl

      same : (x : ℕ) → worked (works_on x log) (at_object zero' x) ≡ worked (works_on x (log ++ mark c (DidTurn o) ∷ [])) (at_object zero' x)
      same x =
          let split : works_on x (log ++ mark c (DidTurn o) ∷ []) ≡ works_on x log ++ works_on x (mark c (DidTurn o) ∷ []) = filter_map-append _ log (mark c (DidTurn o) ∷ []) in
          sym (ap (λ z. worked z (at_object zero' x)) split ∙ worked_both (works_on x log) (works_on x (mark c (DidTurn o) ∷ [])) (at_object zero' x) ∙ turn_works x (nat_eq o x) (worked (works_on x log) (at_object zero' x)))

-- for all continuations
pub steps_sound : (p : AbstractProgram) (ns : List ℤ) (limit : ℕ) (st st' : State Bare) (ms : List Mark) → st'.log ≡ st.log ++ ms → ((rest : ℕ → List Path) (serially : List Mark) → Going (λ x. turns_on x ms ++ rest x) (length (sizes p.items)) serially (zeros (sizes p.items)) st → Going rest (length (sizes p.items)) serially (zeros (sizes p.items)) st') → SoundSo p ns limit st → SoundSo p ns limit st'
steps_sound p ns limit st st' ms log keeps h = record {
  by = λ rest. keeps rest _ (subst (λ ts. Going (λ x. turns_on x ms ++ rest x) (length (sizes p.items)) (marks_by p ns limit ts) (zeros (sizes p.items)) st) (fun_ext (λ x. same x rest)) (h.by (λ x. turns_on x ms ++ rest x)));
}
  where
    same : (x : ℕ) (rest : ℕ → List Path) → turns_on x st.log ++ (turns_on x ms ++ rest x) ≡ turns_on x st'.log ++ rest x
    same x rest =
        sym (append_assoc (turns_on x st.log) (turns_on x ms) (rest x)) ∙ ap (λ z. z ++ rest x) (sym (ap (turns_on x) log ∙ filter_map-append _ st.log ms))

-- the event itself
pub take_sound : (p : AbstractProgram) (ns : List ℤ) (limit : ℕ) (st : State Bare) (o : ℕ) (es : List Event) (b l : List (Live Bare)) (c : Live Bare) → st.roll ≡ b ++ (c ∷ l) → c.doing.pending ≡ Take o Commuting ∷ es → permitted b c l ≡ true → SoundSo p ns limit st → SoundSo p ns limit (stepped_with bare_past b c l st)
take_sound p ns limit st o es b l c roll pends allowed h =
    let N = new_state (length (sizes p.items)) [] (zeros (sizes p.items)) st.contents st.log o es b l c pends allowed (λ x. []) in
    subst (SoundSo p ns limit) (sym stepped_is) (steps_sound p ns limit (record { roll = b ++ (c ∷ l); contents = st.contents; log = st.log }) N (mark c (DidTurn o) ∷ []) refl (λ rest serially g. take_goes (length (sizes p.items)) serially (zeros (sizes p.items)) st.contents st.log o es b l c pends allowed rest g) (subst (λ r. SoundSo p ns limit (record { roll = r; contents = st.contents; log = st.log })) roll h))
  where
    stepped_is : stepped_with bare_past b c l st ≡ record { roll = b ++ (took o es c ∷ l); contents = st.contents; log = st.log ++ mark c (DidTurn o) ∷ [] }
    stepped_is =
        ap (λ z. let out = event_with bare_past z st.contents c in record { roll = b ++ (out.tasks ++ l); contents = out.contents; log = st.log ++ out.marks }) pends ∙ ap (λ v. record { roll = b ++ (record { path = c.path; part = c.part; place = c.place; rights = c.rights; held = put c.held o (Some Commuting); versions = v; doing = record c.doing { pending = es } } ∷ l); contents = st.contents; log = st.log ++ mark c (DidTurn o) ∷ [] }) (put_self c.versions o (c.versions o) refl)
