-- Where each settling finds its arrangement among the next entries, the run is that in which the same lists are priorities.
use Rattle.std.proofs.Common.{◌≡◌, ◌≢◌, ℕ, suc, Bool, true, false, List, [], ◌∷◌, ◌++◌, length, take, drop, refl, sym, ap, ◌∙◌, subst, Option, Some, None, arith, append-nil, append_assoc, ◌⊎◌, inl, inr}
use Rattle.std.specs.Prelude.{ℤ, nat_eq, if◌then◌else◌}
use Rattle.std.proofs.lemmas.List.{take-append-drop}
use Rattle.std.proofs.lemmas.Bool.Decides.{eqb_tells}
use Rattle.jade_syntax.specs.Abstract.{AbstractProgram}
use Rattle.jade_syntax.specs.Objects.{sizes}
use Rattle.jade_meaning.specs.Specification.{Specification, objects, commuting_on}
use Rattle.jade_meaning.specs.Course.{Course, Reads, Writes, Steps, Creates, Changes, Ends, root_spec, root_course}
use Rattle.jade_meaning.specs.Serial.{Mark, Path, DidRead, DidWrite, DidCreate, DidEnd, after, cell, with_cell, zeros}
use Rattle.jade_meaning.specs.Turns.{Member, World, Ran, at_path, group, others, arranged, turns_taken, settle, settled, settle_all, first, entered, run}
use Rattle.jade_meaning.specs.Turns.{touched_at_once, made_touchable, turns_on, Full}
use Rattle.jade_meaning.specs.Laws.{Every}
use Rattle.jade_meaning.proofs.Groups.{Strange, every_append, every_arranged, every_group, every_others, group_of, arranged_skip}
use Rattle.jade_meaning.proofs.Filling.{From, Within, Out, Off, Nothing, ran_of, turns_both, taken_elsewhere, others_not, every_with, every_two, far_on, first_both, create_on, create_shape}
use Rattle.turn_laws.specs.Spending.{Lists, Spent, arranges, taken_from, spend, preceded, and_then, spend_all, begun, run_spending, whole_run_spending, LeavesNothing, UsedUp, SpendsAsItRuns}
use Rattle.turn_laws.proofs.Arranging.{paths, in_order_named, enough}
use Rattle.turn_laws.proofs.Spends.{taken_paths}

every_true : {A : Type 0} (P : A → Type 0) → ((x : A) → P x) → (xs : List A) → Every P xs
every_true P f [] = tt
every_true P f (x ∷ xs) = (f x, every_true P f xs)

every_paths : (Q : Path → Type 0) (ms : List Member) → Every (λ m. Q m.path) ms → Every Q (paths ms)
every_paths Q [] h = tt
every_paths Q (m ∷ ms) h = (h.0, every_paths Q ms h.1)

skip_all : (pre ps : List Path) (g : List Member) → Every (λ z. Every (Strange z) g) pre → arranged (pre ++ ps) g ≡ arranged ps g
skip_all [] ps g h = refl
skip_all (z ∷ pre) ps g h = arranged_skip z (pre ++ ps) g h.0 ∙ skip_all pre ps g h.1

-- no member of the object has the path
abbrev Free : ℕ → List Member → Path → Type 0
Free o ms z = Every (λ m. m.object ≡ o → Strange z m) ms

-- what there is of a run that goes on with another
record Both (x : Option Spent) (next : World → Lists → Option Spent) (s : Spent) : Type 0 where
  front : Spent
  back : Spent
  there : x ≡ Some front
  later : next front.ran.world front.left ≡ Some back
  whole : record { ran = first front.ran.marks back.ran; left = back.left } ≡ s

both : (x : Option Spent) (next : World → Lists → Option Spent) (s : Spent) → and_then x next ≡ Some s → Both x next s
both None next s h = absurd (cc)
both (Some f) next s h = go (next f.ran.world f.left) refl h
  where
    go : (y : Option Spent) → next f.ran.world f.left ≡ y → preceded f.ran.marks y ≡ Some s → Both (Some f) next s
    go None e h = absurd (cc)
    go (Some b) e h = record { front = f; back = b; there = refl; later = e; whole = cc }

-- and of one with marks before it
record Rest (ms : List Mark) (x : Option Spent) (s : Spent) : Type 0 where
  back : Spent
  there : x ≡ Some back
  whole : record { ran = first ms back.ran; left = back.left } ≡ s

rest_of : (ms : List Mark) (x : Option Spent) (s : Spent) → preceded ms x ≡ Some s → Rest ms x s
rest_of ms None s h = absurd (cc)
rest_of ms (Some b) s h = record { back = b; there = refl; whole = cc }

then_out : (w : World) (NA NK N : Path → Type 0) (a k : Ran) → ((z : Path) → NA z → N z) → ((z : Path) → NK z → N z) → ((z : Path) → NA z → Off NK z)
    → Every (λ m. Off N m.path) w.waiting → Out w NA a → Out a.world NK k → Out w N (first a.marks k)
then_out w NA NK N a k ia ik far off oa ok = record {
  keeps = λ P h g. ok.keeps P (oa.keeps P h (λ m n. g m (ia m.path n))) (λ m n. g m (ik m.path n));
  turned = λ o Q h g. subst (Every Q) (sym (turns_both o a.marks k.marks)) (every_append Q (turns_on o a.marks) (turns_on o k.marks)
      (oa.turned o Q h (λ z n. g z (ia z n)))
      (ok.turned o Q (oa.keeps (λ m. Q m.path) h (λ m n. g m.path (ia m.path n))) (λ z n. g z (ik z n))));
  apart = λ o. subst (Every (Free o k.world.waiting)) (sym (turns_both o a.marks k.marks))
      (every_append (Free o k.world.waiting) (turns_on o a.marks) (turns_on o k.marks)
      (every_two (Free o a.world.waiting) (Off NK) (Free o k.world.waiting)
      (λ z s f. ok.keeps (λ m. m.object ≡ o → Strange z m) s (λ m n e. f m.path n)) (turns_on o a.marks) (oa.apart o)
      (oa.turned o (Off NK) (every_with (λ (m : Member). Off N m.path) (λ (m : Member). Off NK m.path) (λ m f y n. f y (ik y n)) w.waiting off) far))
      (ok.apart o));
}

module _ (U : Lists) where
  -- from lists that follow, in those by which the other run goes, on paths that play no part, both runs are the same
  record Follows (w : World) (N : Path → Type 0) (left : Lists) (s : Spent) (r : Ran) : Type 1 where
    out : Out w N s.ran
    lists : (o : ℕ) → left o ≡ turns_on o s.ran.marks ++ s.left o
    same : (pre : Lists) → ((o : ℕ) → Every (Free o w.waiting) (pre o)) → ((o : ℕ) → Every (Off N) (pre o)) → ((o : ℕ) → U o ≡ pre o ++ left o) → r ≡ s.ran

  abbrev FollowsSo : World → (Path → Type 0) → Lists → Option Spent → Ran → Type 1
  FollowsSo w N left x r = (s : Spent) → x ≡ Some s → Follows w N left s r

  then_follows : (w : World) (left : Lists) (NA NK N : Path → Type 0) (x : Option Spent) (next : World → Lists → Option Spent) (a : Ran) (k : World → Ran)
      → ((z : Path) → NA z → N z) → ((z : Path) → NK z → N z) → ((z : Path) → NA z → Off NK z) → Every (λ m. Off N m.path) w.waiting
      → FollowsSo w NA left x a
      → ((f : Spent) → Out w NA f.ran → FollowsSo f.ran.world NK f.left (next f.ran.world f.left) (k f.ran.world))
      → FollowsSo w N left (and_then x next) (first a.marks (k a.world))
  then_follows w left NA NK N x next a k ia ik far off fa fk s h =
      let b = both x next s h in
      let f = b.front in
      let l = b.back in
      let A = fa f b.there in
      let K = fk f A.out l b.later in
      let taken = λ (o : ℕ). turns_on o f.ran.marks in
      let offs = λ (o : ℕ). A.out.turned o (Off NK) (every_with (λ (m : Member). Off N m.path) (λ (m : Member). Off NK m.path) (λ m g y n. g y (ik y n)) w.waiting off) far in
      subst (λ z. Follows w N left z (first a.marks (k a.world))) b.whole (record {
        out = then_out w NA NK N f.ran l.ran ia ik far off A.out K.out;
        lists = λ o. A.lists o ∙ ap (λ z. taken o ++ z) (K.lists o) ∙ sym (append_assoc (taken o) (turns_on o l.ran.marks) (l.left o))
            ∙ ap (λ z. z ++ l.left o) (sym (turns_both o f.ran.marks l.ran.marks));
        same = λ pre h1 h2 e.
            let one : a ≡ f.ran = A.same pre h1 (λ o. every_with (Off N) (Off NA) (λ z g y n. g y (ia y n)) (pre o) (h2 o)) e in
            let free = λ (o : ℕ). every_two (Free o w.waiting) (Off N) (Free o f.ran.world.waiting)
            (λ z s g. A.out.keeps (λ m. m.object ≡ o → Strange z m) s (λ m n i. g m.path (ia m.path n))) (pre o) (h1 o) (h2 o) in
            let two : k f.ran.world ≡ l.ran = K.same (λ o. pre o ++ taken o)
            (λ o. every_append (Free o f.ran.world.waiting) (pre o) (taken o) (free o) (A.out.apart o))
            (λ o. every_append (Off NK) (pre o) (taken o) (every_with (Off N) (Off NK) (λ z g y n. g y (ik y n)) (pre o) (h2 o)) (offs o))
            (λ o. e o ∙ ap (λ z. pre o ++ z) (A.lists o) ∙ sym (append_assoc (pre o) (taken o) (f.left o))) in
            ap (λ (r : Ran). first r.marks (k r.world)) one ∙ ap (first f.ran.marks) two;
      })

  -- a mark of which no turn list tells
  mark_follows : (w : World) (N : Path → Type 0) (left : Lists) (m : Mark) (x : Option Spent) (r : Ran) → ((o : ℕ) (ms : List Mark) → turns_on o (m ∷ ms) ≡ turns_on o ms)
      → FollowsSo w N left x r → FollowsSo w N left (preceded (m ∷ []) x) (first (m ∷ []) r)
  mark_follows w N left m x r quiet f s h =
      let b = rest_of (m ∷ []) x s h in
      let l = b.back in
      let F = f l b.there in
      subst (λ z. Follows w N left z (first (m ∷ []) r)) b.whole (record {
        out = record {
          keeps = F.out.keeps;
          turned = λ o Q h g. subst (Every Q) (sym (quiet o l.ran.marks)) (F.out.turned o Q h g);
          apart = λ o. subst (Every (Free o l.ran.world.waiting)) (sym (quiet o l.ran.marks)) (F.out.apart o);
        };
        lists = λ o. F.lists o ∙ ap (λ z. z ++ l.left o) (sym (quiet o l.ran.marks));
        same = λ pre h1 h2 e. ap (first (m ∷ [])) (F.same pre h1 h2 e);
      })

  -- a run that takes no turn
  still_follows : (w : World) (N : Path → Type 0) (left : Lists) (ms : List Mark) → ((o : ℕ) → turns_on o ms ≡ [])
      → FollowsSo w N left (Some (record { ran = record { marks = ms; world = w }; left = left })) (record { marks = ms; world = w })
  still_follows w N left ms none s h =
      let r : Ran = record { marks = ms; world = w } in
      let it : Spent = record { ran = r; left = left } in
      let i : it ≡ s = cc in
      subst (λ z. Follows w N left z r) i (record {
        out = record {
          keeps = λ P h g. h;
          turned = λ o Q h g. subst (Every Q) (sym (none o)) tt;
          apart = λ o. subst (Every (Free o w.waiting)) (sym (none o)) tt;
        };
        lists = λ o. ap (λ z. z ++ left o) (sym (none o));
        same = λ pre h1 h2 e. refl;
      })

  spend_follows : (x : ℕ) (w : World) (left : Lists) → FollowsSo w Nothing left (spend x w left) (ran_of U x w)
  spend_follows x w left s h = go (arranges now g) refl h
    where
      g : List Member
      g = group x w.waiting

      now : List Path
      now = take (length g) (left x)

      ms : List Member
      ms = arranged now g

      it : Spent
      it = record { ran = record { marks = settle (λ z. now) x w; world = settled (λ z. now) x w }; left = taken_from x (length g) left }

      named : arranges now g ≡ true → turns_on x (settle (λ z. now) x w) ≡ now
      named e =
          taken_paths x ms w.store (every_arranged (λ m. m.object ≡ x) now g (group_of x w.waiting)) ∙ in_order_named now g e

      elsewhere : (o : ℕ) → x ≢ o → turns_on o (settle (λ z. now) x w) ≡ []
      elsewhere o ne = taken_elsewhere o x ms w.store ne (every_arranged (λ m. m.object ≡ x) now g (group_of x w.waiting))

      turned_at : (o : ℕ) (Q : Path → Type 0) → ((nat_eq x o ≡ true) × (x ≡ o)) ⊎ ((nat_eq x o ≡ false) × (x ≢ o)) → Every Q (paths ms)
          → Every Q (turns_on o (settle (λ z. now) x w))
      turned_at o Q (inl e) h =
          subst (λ z. Every Q (turns_on z (settle (λ z. now) x w))) e.1
          (subst (Every Q) (sym (taken_paths x ms w.store (every_arranged (λ m. m.object ≡ x) now g (group_of x w.waiting)))) h)
      turned_at o Q (inr e) h = subst (Every Q) (sym (elsewhere o e.1)) tt

      apart_at : (o : ℕ) → ((nat_eq x o ≡ true) × (x ≡ o)) ⊎ ((nat_eq x o ≡ false) × (x ≢ o)) → Every (Free o (others x w.waiting)) (turns_on o (settle (λ z. now) x w))
      apart_at o (inl e) =
          every_true (Free o (others x w.waiting)) (λ z. every_with (λ m. m.object ≢ x) (λ m. m.object ≡ o → Strange z m)
          (λ m n i. absurd (n (i ∙ sym e.1))) (others x w.waiting) (others_not x w.waiting)) (turns_on o (settle (λ z. now) x w))
      apart_at o (inr e) = subst (Every (Free o (others x w.waiting))) (sym (elsewhere o e.1)) tt

      lists_at : (o : ℕ) → arranges now g ≡ true → ((nat_eq o x ≡ true) × (o ≡ x)) ⊎ ((nat_eq o x ≡ false) × (o ≢ x))
          → left o ≡ turns_on o (settle (λ z. now) x w) ++ taken_from x (length g) left o
      lists_at o a (inl e) =
          let rest = λ (z : ℕ). turns_on z (settle (λ z. now) x w) in
          let split : left x ≡ rest x ++ drop (length g) (left x) =
          sym (take-append-drop (length g) (left x)) ∙ ap (λ l. l ++ drop (length g) (left x)) (sym (named a)) in
          ap left e.1 ∙ split ∙ ap (λ z. rest z ++ drop (length g) (left z)) (sym e.1)
          ∙ ap (λ b. rest o ++ (if b then drop (length g) (left o) else left o)) (sym e.0)
      lists_at o a (inr e) =
          let rest = turns_on o (settle (λ z. now) x w) in
          ap (λ l. l ++ left o) (sym (elsewhere o (λ i. e.1 (sym i)))) ∙ ap (λ b. rest ++ (if b then drop (length g) (left o) else left o)) (sym e.0)

      order : (pre : Lists) → arranges now g ≡ true → Every (Free x w.waiting) (pre x) → U x ≡ pre x ++ left x → arranged (U x) g ≡ ms
      order pre a h e =
          ap (λ l. arranged l g) e
          ∙ skip_all (pre x) (left x) g (every_with (Free x w.waiting) (λ z. Every (Strange z) g)
          (λ z h. every_two (λ m. m.object ≡ x) (λ m. m.object ≡ x → Strange z m) (Strange z) (λ m i f. f i) g (group_of x w.waiting)
          (every_group (λ m. m.object ≡ x → Strange z m) x w.waiting h)) (pre x) h)
          ∙ ap (λ l. arranged l g) (sym (take-append-drop (length g) (left x))) ∙ enough now (drop (length g) (left x)) g a

      go : (b : Bool) → arranges now g ≡ b → (if b then Some it else None) ≡ Some s → Follows w Nothing left s (ran_of U x w)
      go false a h = absurd (cc)
      go true a h =
          let i : it ≡ s = cc in
          subst (λ z. Follows w Nothing left z (ran_of U x w)) i (record {
            out = record {
              keeps = λ P h i. every_others P x w.waiting h;
              turned = λ o Q h i. turned_at o Q (eqb_tells x o)
                  (every_paths Q ms (every_arranged (λ m. Q m.path) now g (every_group (λ m. Q m.path) x w.waiting h)));
              apart = λ o. apart_at o (eqb_tells x o);
            };
            lists = λ o. lists_at o a (eqb_tells o x);
            same = λ pre h1 h2 e.
                ap (λ z. record { marks = turns_taken z w.store; world = record { store = after (turns_taken z w.store) w.store; waiting = others x w.waiting } })
                (order pre a (h1 x) (e x));
          })

  nobody : (w : World) → Every (λ m. Off Nothing m.path) w.waiting
  nobody w = every_true (λ m. Off Nothing m.path) (λ m y n. absurd n) w.waiting

  all_follows : (os : List ℕ) (w : World) (left : Lists) → FollowsSo w Nothing left (spend_all os w left) (settle_all U os w)
  all_follows [] w left = still_follows w Nothing left [] (λ o. refl)
  all_follows (x ∷ os) w left =
      then_follows w left Nothing Nothing Nothing (spend x w left) (spend_all os) (ran_of U x w) (settle_all U os) (λ z n. n) (λ z n. n) (λ z n. absurd n)
      (nobody w) (spend_follows x w left) (λ f o. all_follows os f.ran.world f.left)

  begun_follows : (x : Option ℕ) (q : Path) (child : Specification) (body : Course) (f : World → Lists → Option Spent) (g : World → Ran) (w : World) (left : Lists)
      → FollowsSo w (Within q 0) left (f w left) (g w) → FollowsSo w (Within q 0) left (begun x q child body f w left) (entered x q child body g w)
  begun_follows None q child body f g w left h = h
  begun_follows (Some y) q child body f g w left h = λ s e.
      let r = entered (Some y) q child body g w in
      let it : Spent = record { ran = r; left = left } in
      let i : it ≡ s = cc in
      subst (λ z. Follows w (Within q 0) left z r) i (record {
        out = record {
          keeps = λ P h g. every_append P w.waiting _ h (g _ (record { rest = []; is = sym (append-nil q); from = tt }), tt);
          turned = λ o Q h g. tt;
          apart = λ o. tt;
        };
        lists = λ o. refl;
        same = λ pre h1 h2 e. refl;
      })

  shape : (w : World) (N : Path → Type 0) (left : Lists) (x : Option Spent) (r t : Ran) → r ≡ t → FollowsSo w N left x t → FollowsSo w N left x r
  shape w N left x r t e h = subst (FollowsSo w N left x) (sym e) h

  run_follows : (c : Course) (p : Path) (spec : Specification) (k n : ℕ) (w : World) (left : Lists) → Every (λ m. Off (Within p k) m.path) w.waiting
      → FollowsSo w (Within p k) left (run_spending p spec c k n w left) (run U p spec c k n w)
  run_follows (Reads o c on) p spec k n w left h =
      let next = λ (x : World) (l : Lists). preceded (at_path p k (DidRead o c (cell x.store o c)) ∷ []) (run_spending p spec (on (cell x.store o c)) k n x l) in
      let go = λ (x : World). first (at_path p k (DidRead o c (cell x.store o c)) ∷ []) (run U p spec (on (cell x.store o c)) k n x) in
      shape w (Within p k) left (run_spending p spec (Reads o c on) k n w left) (run U p spec (Reads o c on) k n w) (first (settle U o w) (go (settled U o w)))
      (first_both U U (settle U o w) _ _)
      (then_follows w left Nothing (Within p k) (Within p k) (spend o w left) next (ran_of U o w) go (λ z i. absurd i) (λ z i. i) (λ z i. absurd i) h
      (spend_follows o w left)
      (λ f out. mark_follows f.ran.world (Within p k) f.left (at_path p k (DidRead o c (cell f.ran.world.store o c))) _ _ (λ x ms. refl)
      (run_follows (on (cell f.ran.world.store o c)) p spec k n f.ran.world f.left (out.keeps (λ m. Off (Within p k) m.path) h (λ m i. absurd i)))))
  run_follows (Writes o c z on) p spec k n w left h =
      let written = λ (x : World). let y : World = record x { store = with_cell x.store o c z } in y in
      let next = λ (x : World) (l : Lists). preceded (at_path p k (DidWrite o c z) ∷ []) (run_spending p spec on k n (written x) l) in
      let go = λ (x : World). first (at_path p k (DidWrite o c z) ∷ []) (run U p spec on k n (written x)) in
      shape w (Within p k) left (run_spending p spec (Writes o c z on) k n w left) (run U p spec (Writes o c z on) k n w) (first (settle U o w) (go (settled U o w)))
      (first_both U U (settle U o w) _ _)
      (then_follows w left Nothing (Within p k) (Within p k) (spend o w left) next (ran_of U o w) go (λ y i. absurd i) (λ y i. i) (λ y i. absurd i) h
      (spend_follows o w left)
      (λ f out. mark_follows f.ran.world (Within p k) f.left (at_path p k (DidWrite o c z)) _ _ (λ x ms. refl) (λ s e.
      let r = run_follows on p spec k n (written f.ran.world) f.left (out.keeps (λ m. Off (Within p k) m.path) h (λ m i. absurd i)) s e in
      record { out = record { keeps = r.out.keeps; turned = r.out.turned; apart = r.out.apart }; lists = r.lists; same = r.same })))
  run_follows (Steps on) p spec k n w left h = run_follows on p spec k (suc n) w left h
  run_follows (Creates child body on) p spec k n w left h =
      let q = p ++ k ∷ [] in
      let x = commuting_on child in
      let d = at_path p k (DidCreate (record { spec = child; course = body }) n) in
      let inner = λ (y : World) (m : Lists). run_spending q child body 0 0 y m in
      let last = λ (y : World) (m : Lists). run_spending p spec on (suc k) 0 y m in
      let next = λ (y : World) (m : Lists). and_then (begun x q child body inner y m) last in
      let inside = λ (z : Path) (i : Within q 0 z). let j : Within p k z = record { rest = k ∷ i.rest; is = i.is ∙ append_assoc p (k ∷ []) i.rest; from = omega arith } in j in
      let onwards = λ (z : Path) (i : Within p (suc k) z). let j : Within p k z = record { rest = i.rest; is = i.is; from = later i.rest i.from } in j in
      shape w (Within p k) left (run_spending p spec (Creates child body on) k n w left) (run U p spec (Creates child body on) k n w) _ (create_shape U U U p spec child body on k n w)
      (mark_follows w (Within p k) left d (and_then (spend_all (touched_at_once child) w left) next) _ (λ o ms. refl)
      (then_follows w left Nothing (Within p k) (Within p k) (spend_all (touched_at_once child) w left) next (settle_all U (touched_at_once child) w)
      (create_on U U U p spec child body on k) (λ z i. absurd i) (λ z i. i) (λ z i. absurd i) h (all_follows (touched_at_once child) w left)
      (λ f out.
      let v = f.ran.world in
      let hs = out.keeps (λ m. Off (Within p k) m.path) h (λ m i. absurd i) in
      then_follows v f.left (Within q 0) (Within p (suc k)) (Within p k) (begun x q child body inner v f.left) last
      (entered x q child body (λ y. run U q child body 0 0 y) v) (λ y. run U p spec on (suc k) 0 y) inside onwards (far_on U U p k) hs
      (begun_follows x q child body inner (λ y. run U q child body 0 0 y) v f.left (run_follows body q child 0 0 v f.left
      (every_with (λ (m : Member). Off (Within p k) m.path) (λ (m : Member). Off (Within q 0) m.path) (λ m g y i. g y (inside y i)) v.waiting hs)))
      (λ e o. run_follows on p spec (suc k) 0 e.ran.world e.left
      (o.keeps (λ m. Off (Within p (suc k)) m.path)
      (every_with (λ (m : Member). Off (Within p k) m.path) (λ (m : Member). Off (Within p (suc k)) m.path) (λ m g y i. g y (onwards y i)) v.waiting hs)
      (λ m i. far_on U U p k m.path i))))))
    where
      later : (r : Path) → From (suc k) r → From k r
      later [] f = tt
      later (j ∷ r) f = omega arith
  run_follows (Changes new on) p spec k n w left h =
      then_follows w left Nothing (Within p k) (Within p k) (spend_all (made_touchable spec new) w left) (λ x l. run_spending p new on k n x l)
      (settle_all U (made_touchable spec new) w) (λ v. run U p new on k n v) (λ z i. absurd i) (λ z i. i) (λ z i. absurd i) h
      (all_follows (made_touchable spec new) w left)
      (λ f out. run_follows on p new k n f.ran.world f.left (out.keeps (λ m. Off (Within p k) m.path) h (λ m i. absurd i)))
  run_follows (Ends b) p spec k n w left h = still_follows w (Within p k) left (at_path p k (DidEnd b n) ∷ []) (λ o. refl)

pub spends_as_it_runs : (p : AbstractProgram) (ns : List ℤ) (limit : ℕ) (T : Lists) (r : Spent) → whole_run_spending p ns limit T ≡ Some r → SpendsAsItRuns p ns limit T r
spends_as_it_runs p ns limit T r h =
    let root = 0 ∷ [] in
    let spec = root_spec p in
    let c = root_course p ns limit in
    let w : World = record { store = zeros (sizes p.items); waiting = [] } in
    let all = then_follows T w T (Within root 0) Nothing (Within root 0) (run_spending root spec c 0 0 w T) (spend_all (objects spec)) (run T root spec c 0 0 w)
    (settle_all T (objects spec)) (λ z i. i) (λ z i. absurd i) (λ z i y j. absurd j) tt (run_follows T c root spec 0 0 w T tt)
    (λ f out. all_follows T (objects spec) f.ran.world f.left) r h in
    record { ran = sym (all.same (λ o. []) (λ o. tt) (λ o. tt) (λ o. refl)); lists = all.lists }

-- lists that are used up are full
pub used_up_full : (p : AbstractProgram) (ns : List ℤ) (limit : ℕ) (T : Lists) → UsedUp p ns limit T → Full p ns limit T
used_up_full p ns limit T h = go (whole_run_spending p ns limit T) refl h.all
  where
    go : (x : Option Spent) → whole_run_spending p ns limit T ≡ x → LeavesNothing x → Full p ns limit T
    go None e l = absurd l
    go (Some r) e l =
        let s = spends_as_it_runs p ns limit T r e in
        record {
          same = λ o. ap (λ (z : Ran). turns_on o z.marks) (sym s.ran) ∙ sym (append-nil (turns_on o r.ran.marks))
              ∙ ap (λ z. turns_on o r.ran.marks ++ z) (sym (l o)) ∙ sym (s.lists o);
        }
