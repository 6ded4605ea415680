-- A Take for Commuting keeps the deeds of each path and the works on each object: what was done and what is left are together the serial run's.
use Rattle.std.proofs.Common.{◌≡◌, ◌≢◌, ℕ, Bool, true, false, List, [], ◌∷◌, ◌++◌, refl, sym, ap, ◌∙◌, subst, Option, Some, None, append-nil, append_assoc, ◌⊎◌, inl, inr}
use Rattle.std.specs.Prelude.{ℤ, nat_eq, slice_set, if◌then◌else◌}
use Rattle.std.specs.List.{filter_map, cons_option}
use Rattle.std.proofs.lemmas.List.Elements.{filter_map-append}
use Rattle.std.proofs.lemmas.Bool.Decides.{eqb_tells}
use Rattle.std.proofs.lemmas.Bool.{ne_eqb}
use Rattle.jade_meaning.specs.Specification.{commuting_on}
use Rattle.jade_meaning.specs.Serial.{Mark, Path, Store, Deed, DidTurn, DidRead, DidWrite, DidCreate, DidEnd, after, same_path, marks_at}
use Rattle.jade_meaning.specs.Turns.{Member, World, Ran, at_path, first, settle_all, kept_from}
use Rattle.jade_meaning.specs.Serial.{at_object}
use Rattle.schedule_core.specs.Core.{Live, Bare}
use Rattle.jade_meaning.specs.Laws.{Every}
use Rattle.schedule_core.specs.Sound.{settling, awaits, left, left_from, works_on, work_on, Wrote, Turned}
use Rattle.schedule_core.specs.Onwards.{sees, sited, step, onwards, onwards_all}
use Rattle.schedule_core.proofs.Groups.{Strange, Leaves, Spares, Sole, Aside}
use Rattle.schedule_core.proofs.Ahead.{Skipped, its, Apart_by, Later, still, done, Else, by_store}
use Rattle.jade_meaning.proofs.Filling.{same_self, same_path_is}
use Rattle.schedule_core.proofs.Taking.{Other, Behind, onwards_skips, all_later_too}

-- the turn of a member passes what is of others
passes : {X : Type 0} (F : Mark → Option X) (log bs front back mine : List Mark) (k : Mark) → (filter_map F (k ∷ mine) ≡ []) ⊎ ((filter_map F bs ≡ []) × (filter_map F front ≡ [])) → filter_map F (log ++ (bs ++ (front ++ ((k ∷ mine) ++ back)))) ≡ filter_map F ((log ++ k ∷ []) ++ (bs ++ (mine ++ (front ++ back))))
passes F log bs front back mine k why =
    let g : List Mark → List _ = filter_map F in
    let old : g (log ++ (bs ++ (front ++ ((k ∷ mine) ++ back)))) ≡ g log ++ (g bs ++ (g front ++ (g (k ∷ mine) ++ g back))) = simp (filter_map-append) in
    let new : g ((log ++ k ∷ []) ++ (bs ++ (mine ++ (front ++ back)))) ≡ (g log ++ g (k ∷ [])) ++ (g bs ++ (g mine ++ (g front ++ g back))) = simp (filter_map-append) in
    let both : g (k ∷ mine) ≡ g (k ∷ []) ++ g mine = filter_map-append F (k ∷ []) mine in
    old ∙ moved (g log) (g bs) (g front) (g back) (g (k ∷ mine)) (g (k ∷ [])) (g mine) both why ∙ sym new
  where
    none_left : {X : Type 0} (a b : List X) → a ++ b ≡ [] → a ≡ []
    none_left [] b e = refl
    none_left (x ∷ a) b e = absurd (cc)

    none_right : {X : Type 0} (a b : List X) → a ++ b ≡ [] → b ≡ []
    none_right [] b e = e
    none_right (x ∷ a) b e = absurd (cc)

    moved : {X : Type 0} (l b f k all one mine : List X) → all ≡ one ++ mine → (all ≡ []) ⊎ ((b ≡ []) × (f ≡ [])) → l ++ (b ++ (f ++ (all ++ k))) ≡ (l ++ one) ++ (b ++ (mine ++ (f ++ k)))
    moved l b f k all one mine e (inl n) =
        let n1 = none_left one mine (sym e ∙ n) in
        let n2 = none_right one mine (sym e ∙ n) in
        ap (λ z. l ++ (b ++ (f ++ (z ++ k)))) n ∙ ap (λ z. z ++ (b ++ (f ++ k))) (sym (append-nil l)) ∙ ap (λ z. (l ++ z) ++ (b ++ (f ++ k))) (sym n1) ∙ ap (λ z. (l ++ one) ++ (b ++ (z ++ (f ++ k)))) (sym n2)
    moved l b f k all one mine e (inr n) =
        ap (λ z. l ++ (z ++ (f ++ (all ++ k)))) n.0 ∙ ap (λ z. l ++ (z ++ (all ++ k))) n.1 ∙ ap (λ z. l ++ (z ++ k)) e ∙ ap (λ z. l ++ z) (append_assoc one mine k) ∙ sym (append_assoc l one (mine ++ k)) ∙ ap (λ z. (l ++ one) ++ (z ++ (mine ++ k))) (sym n.0) ∙ ap (λ z. (l ++ one) ++ (b ++ (mine ++ (z ++ k)))) (sym n.1)

pub no_deeds : (p : Path) (ms : List Mark) → Every (λ k. same_path k.path p ≡ false) ms → marks_at p ms ≡ []
no_deeds p [] h = refl
no_deeds p (k ∷ ms) h =
    ap (λ b. cons_option (if b then Some k else None) (marks_at p ms)) h.0 ∙ no_deeds p ms h.1

pub no_works : (o : ℕ) (ms : List Mark) → Leaves o ms → works_on o ms ≡ []
no_works o [] h = refl
no_works o (k ∷ ms) h = ap (λ x. cons_option x (works_on o ms)) (one k.deed k.path k.children h.0) ∙ no_works o ms h.1
  where
    one : (d : Deed) (q : Path) (k : ℕ) → Spares o d → work_on o d q k ≡ None
    one (DidWrite x c v) q k e = ap (λ b. if b then Some (Wrote q k c v) else None) (ne_eqb x o e)
    one (DidTurn x) q k e = ap (λ b. if b then Some (Turned q) else None) (ne_eqb x o e)
    one (DidRead x c v) q k e = refl
    one (DidCreate t n) q k e = refl
    one (DidEnd b n) q k e = refl

pub every_path : (p q : Path) (ms : List Mark) → Every (λ k. k.path ≡ q) ms → same_path q p ≡ false → Every (λ k. same_path k.path p ≡ false) ms
every_path p q [] h e = tt
every_path p q (k ∷ ms) h e = (ap (λ z. same_path z p) h.0 ∙ e, every_path p q ms h.1 e)

-- the deeds and works of these marks
pub record Same (one two : List Mark) : Type 0 where
  pub deeds : (p : Path) → marks_at p one ≡ marks_at p two
  pub works : (x : ℕ) → works_on x one ≡ works_on x two

-- the member that a task that waits for its turn is, in the world at its place
abbrev pub member_of : Live Bare → ℕ → World → Member
member_of c o w =
    record { path = c.path; object = o; course = c.doing.course; steps = c.doing.steps; kept = kept_from 0 c.rights (sees c 0 w.store) }

-- c waits and is next to take o; d is what the Take makes of it; these tasks stand before and behind
module _ (o : ℕ) (t1 t2 : ℕ → List Path) (os : List ℕ) (inside : Every (λ x. x ≢ o) os → ⊥) (b l : List (Live Bare)) (c d : Live Bare) (w0 : World) where
  -- the world at the place of c
  abbrev at_c : World
  at_c = (onwards t2 b w0).world

  abbrev m : Member
  m = member_of c o at_c

  module _ (here : t1 o ≡ c.path ∷ t2 o) (there : (x : ℕ) → x ≢ o → t1 x ≡ t2 x) (xs ys : List ℤ) (mine : List Mark) where
    -- what its turn does
    pub record Takes : Type 1 where
      pub waits : (settling c.doing.pending ≡ []) × (awaits c.doing.pending ≡ Some o)
      pub goes : left t2 (sited d at_c) ≡ record { marks = mine; world = record { store = after mine (sees d 0 at_c.store); waiting = at_c.waiting } }
      pub same : its m t1 t2 here there xs ys (same_self c.path) ≡ at_path c.path 0 (DidTurn o) ∷ mine
      pub acts : (s : Store) → at_object s o ≡ xs → after (its m t1 t2 here there xs ys (same_self c.path)) s ≡ slice_set s o ys
      pub content : at_object at_c.store o ≡ xs
      pub own : Every (λ k. k.path ≡ c.path) (at_path c.path 0 (DidTurn o) ∷ mine)
      pub sole : (x : ℕ) → x ≢ o → Leaves x (at_path c.path 0 (DidTurn o) ∷ mine)
      pub before : Every (Other m t1 t2 here there) b
      pub nobody : Every (Strange c.path) w0.waiting
      pub soles : Every Sole at_c.waiting
      pub idle : Leaves o (onwards t2 b w0).marks × Aside c.path (onwards t2 b w0).marks

    module _ (k : Takes) (behind : Every (Behind m t1 t2 here there xs ys (same_self c.path) k.acts) l) where
      -- before the Take and after it, the log being the same but for the turn
      pub take_same : (log : List Mark) → Same (log ++ (onwards_all t1 os (b ++ (c ∷ l)) w0).marks) ((log ++ at_path c.path 0 (DidTurn o) ∷ []) ++ (onwards_all t2 os (b ++ (d ∷ l)) w0).marks)
      take_same log = ends (all_later_too m t1 t2 here there xs ys (same_self c.path) k.acts os l w1 w2 behind apart)
        where
          turn_mark : Mark
          turn_mark = at_path c.path 0 (DidTurn o)

          w1 : World
          w1 = record { store = at_c.store; waiting = at_c.waiting ++ (m ∷ []) }

          w2 : World
          w2 = record { store = after mine at_c.store; waiting = at_c.waiting }

          front_same : Skipped m t1 t2 here there (onwards t1 b w0) (onwards t2 b w0)
          front_same = onwards_skips m t1 t2 here there b w0 k.before k.nobody

          apart : Apart_by m t1 t2 here there xs ys (same_self c.path) k.acts w1 w2
          apart =
              by_store m t1 t2 here there xs ys (same_self c.path) k.acts at_c.store (after mine at_c.store) at_c.waiting [] (sym (ap (λ z. after z at_c.store) k.same) ∙ k.acts at_c.store k.content) k.content front_same.strange tt k.soles tt (at_c.waiting ++ (m ∷ [])) at_c.waiting refl (sym (append-nil at_c.waiting))

          bs : List Mark
          bs = (onwards t2 b w0).marks

          onwards_both : (t : ℕ → List Path) (a r : List (Live Bare)) (w : World) → onwards t (a ++ r) w ≡ first (onwards t a w).marks (onwards t r (onwards t a w).world)
          onwards_both t [] r w = refl
          onwards_both t (u ∷ a) r w =
              ap (first (step t u w).marks) (onwards_both t a r (step t u w).world) ∙ ap (λ ms. record { marks = ms; world = (onwards t r (onwards t a (step t u w).world).world).world }) (sym (append_assoc (step t u w).marks (onwards t a (step t u w).world).marks (onwards t r (onwards t a (step t u w).world).world).marks))

          all_of : (t : ℕ → List Path) → Ran → Ran
          all_of t r = first r.marks (settle_all t os r.world)

          c_step : step t1 c at_c ≡ record { marks = []; world = w1 }
          c_step =
              ap (λ (z : List ℕ). let r = first (settle_all t1 z (sited c at_c).place).marks (left_from t1 (awaits c.doing.pending) (commuting_on c.doing.spec) (sited c at_c) (settle_all t1 z (sited c at_c).place).world) in record { marks = r.marks; world = record { store = after r.marks at_c.store; waiting = r.world.waiting } }) k.waits.0 ∙ ap (λ (z : Option ℕ). let r = left_from t1 z (commuting_on c.doing.spec) (sited c at_c) (sited c at_c).place in record { marks = r.marks; world = record { store = after r.marks at_c.store; waiting = r.world.waiting } }) k.waits.1

          d_step : step t2 d at_c ≡ record { marks = mine; world = w2 }
          d_step =
              ap (λ (r : Ran). record { marks = r.marks; world = record { store = after r.marks at_c.store; waiting = r.world.waiting } }) k.goes

          old : (onwards_all t1 os (b ++ (c ∷ l)) w0).marks ≡ bs ++ (onwards_all t1 os l w1).marks
          old =
              ap (λ r. (all_of t1 r).marks) (onwards_both t1 b (c ∷ l) w0 ∙ ap (λ (r : Ran). first r.marks (onwards t1 (c ∷ l) r.world)) front_same.same ∙ ap (λ (r : Ran). first bs (first r.marks (onwards t1 l r.world))) c_step) ∙ append_assoc bs (onwards t1 l w1).marks (settle_all t1 os (onwards t1 l w1).world).marks

          new : (onwards_all t2 os (b ++ (d ∷ l)) w0).marks ≡ bs ++ (mine ++ (onwards_all t2 os l w2).marks)
          new =
              ap (λ r. (all_of t2 r).marks) (onwards_both t2 b (d ∷ l) w0 ∙ ap (λ (r : Ran). first bs (first r.marks (onwards t2 l r.world))) d_step) ∙ append_assoc bs (mine ++ (onwards t2 l w2).marks) (settle_all t2 os (onwards t2 l w2).world).marks ∙ ap (λ z. bs ++ z) (append_assoc mine (onwards t2 l w2).marks (settle_all t2 os (onwards t2 l w2).world).marks)

          ends : Later m t1 t2 here there xs ys (same_self c.path) k.acts (Else m t1 t2 here there xs ys (same_self c.path) k.acts os) (onwards_all t1 os l w1) (onwards_all t2 os l w2) → Same (log ++ (onwards_all t1 os (b ++ (c ∷ l)) w0).marks) ((log ++ turn_mark ∷ []) ++ (onwards_all t2 os (b ++ (d ∷ l)) w0).marks)
          ends (still e q i r) = absurd (inside e)
          ends (done front back q e1 e2 w g) =
              let one : (onwards_all t1 os (b ++ (c ∷ l)) w0).marks ≡ bs ++ (front ++ ((turn_mark ∷ mine) ++ back)) = old ∙ ap (λ z. bs ++ z) e1 ∙ ap (λ z. bs ++ (front ++ (z ++ back))) k.same in
              let two : (onwards_all t2 os (b ++ (d ∷ l)) w0).marks ≡ bs ++ (mine ++ (front ++ back)) = new ∙ ap (λ z. bs ++ (mine ++ z)) e2 in
              record {
                deeds = λ p. ap (λ z. marks_at p (log ++ z)) one ∙ passes _ log bs front back mine turn_mark (deed_case p front q.1 (same_path c.path p) refl) ∙ sym (ap (λ z. marks_at p ((log ++ turn_mark ∷ []) ++ z)) two);
                works = λ x. ap (λ z. works_on x (log ++ z)) one ∙ passes _ log bs front back mine turn_mark (work_case x front q.0 (eqb_tells x o)) ∙ sym (ap (λ z. works_on x ((log ++ turn_mark ∷ []) ++ z)) two);
              }
            where
              deed_case : (p : Path) (front : List Mark) → Aside c.path front → (y : Bool) → same_path c.path p ≡ y → (marks_at p (turn_mark ∷ mine) ≡ []) ⊎ ((marks_at p bs ≡ []) × (marks_at p front ≡ []))
              deed_case p front a true e =
                  let i : c.path ≡ p = same_path_is c.path p e in
                  inr (subst (λ z. marks_at z bs ≡ []) i (no_deeds c.path bs k.idle.1), subst (λ z. marks_at z front ≡ []) i (no_deeds c.path front a))
              deed_case p front a false e =
                  inl (no_deeds p (turn_mark ∷ mine) (every_path p c.path (turn_mark ∷ mine) k.own e))

              work_case : (x : ℕ) (front : List Mark) → Leaves o front → ((nat_eq x o ≡ true) × (x ≡ o)) ⊎ ((nat_eq x o ≡ false) × (x ≢ o)) → (works_on x (turn_mark ∷ mine) ≡ []) ⊎ ((works_on x bs ≡ []) × (works_on x front ≡ []))
              work_case x front a (inl e) =
                  inr (subst (λ z. works_on z bs ≡ []) (sym e.1) (no_works o bs k.idle.0), subst (λ z. works_on z front ≡ []) (sym e.1) (no_works o front a))
              work_case x front a (inr e) = inl (no_works x (turn_mark ∷ mine) (k.sole x e.1))
