-- A course is told by what its expressions have evaluated.
use Rattle.std.proofs.Common.{◌≡◌, ℕ, zero, suc, ◌+◌, Bool, true, false, List, [], ◌∷◌, ◌++◌, refl, ap, sym, ◌∙◌, subst, drop, Option, Some, None, Result}
use Rattle.std.proofs.Common.{Ok, add-one}
use Rattle.std.specs.Prelude.{ℤ, slice_get, if◌then◌else◌}
use Rattle.jade_base.specs.declared.place.Pos.{Pos}
use Rattle.jade_base.specs.declared.report.FaultKind.{FaultKind}
use Rattle.jade_base.specs.declared.report.FaultKind.TheVariants.{Object, Index, Right as RightFault}
use Rattle.jade_base.specs.declared.report.Blame.{Blame}
use Rattle.jade_base.specs.Rights.{may_read, may_write}
use Rattle.jade_syntax.specs.Abstract.{Expression, Whole, Truth, Variable, Group, Signed, Chain, Cell, Links, Last, Link, Place, Alone, Member, Store}
use Rattle.jade_meaning.specs.declared.values.Value.{Value}
use Rattle.jade_meaning.specs.declared.values.Value.TheVariants.{IntOf}
use Rattle.jade_meaning.specs.declared.resolve.Range.{Range}
use Rattle.jade_meaning.specs.declared.resolve.ResolvedObject.{ResolvedObject}
use Rattle.jade_meaning.specs.Values.{Given, Gives, Fails, operated, decides, signed, whole, is_index, magnitude, index_in}
use Rattle.jade_meaning.specs.Specification.{Specification, rights_on}
use Rattle.jade_meaning.specs.Course.{Course, Reads, Writes, Steps, Creates, Changes, Ends, Setting, Mine, On, fault, choose, given, place_of, member}
use Rattle.jade_meaning.specs.Course.{reach, read_cell, write_cell, eval, eval_links, find, run, range_from}
use Rattle.jade_meaning.specs.steps.Direct.{◌>>=◌, blamed, blame_at, indexed, member_of}
use Rattle.jade_meaning.specs.steps.Evaluation.{Evaluation, Got, Awaits, Faults, Answers, kept, ◌>>>◌, answered, evaluate, evaluate_links, evaluate_object}
use Rattle.jade_meaning.specs.steps.Evaluation.{evaluate_read}
use Rattle.jade_meaning.specs.steps.Frames.{fed, Tells, evaluate_write, evaluate_store, evaluate_bounds}
use Rattle.jade_syntax.proofs.Limits.{drop_item}

pub fed_ends : (vs : List ℤ) (b : Option Blame) → fed vs (Ends b) ≡ Ends b
fed_ends [] b = refl
fed_ends (v ∷ vs) b = refl

pub fed_steps : (vs : List ℤ) (c : Course) → fed vs (Steps c) ≡ Steps (fed vs c)
fed_steps [] c = refl
fed_steps (v ∷ vs) c = refl

pub fed_writes : (vs : List ℤ) (o a : ℕ) (z : ℤ) (c : Course) → fed vs (Writes o a z c) ≡ Writes o a z (fed vs c)
fed_writes [] o a z c = refl
fed_writes (v ∷ vs) o a z c = refl

pub fed_creates : (vs : List ℤ) (child : Specification) (body c : Course) → fed vs (Creates child body c) ≡ Creates child body (fed vs c)
fed_creates [] child body c = refl
fed_creates (v ∷ vs) child body c = refl

pub fed_changes : (vs : List ℤ) (new : Specification) (c : Course) → fed vs (Changes new c) ≡ Changes new (fed vs c)
fed_changes [] new c = refl
fed_changes (v ∷ vs) new c = refl

-- answers after answers
pub fed_append : (c : Course) (vs ws : List ℤ) → fed (vs ++ ws) c ≡ fed ws (fed vs c)
fed_append c [] ws = refl
fed_append (Reads o a on) (v ∷ vs) ws = fed_append (on v) vs ws
fed_append (Writes o a z c) (v ∷ vs) ws = ap (Writes o a z) (fed_append c (v ∷ vs) ws) ∙ sym (fed_writes ws o a z (fed (v ∷ vs) c))
fed_append (Steps c) (v ∷ vs) ws = ap Steps (fed_append c (v ∷ vs) ws) ∙ sym (fed_steps ws (fed (v ∷ vs) c))
fed_append (Creates child body c) (v ∷ vs) ws = ap (Creates child body) (fed_append c (v ∷ vs) ws) ∙ sym (fed_creates ws child body (fed (v ∷ vs) c))
fed_append (Changes new c) (v ∷ vs) ws = ap (Changes new) (fed_append c (v ∷ vs) ws) ∙ sym (fed_changes ws new (fed (v ∷ vs) c))
fed_append (Ends b) (v ∷ vs) ws = sym (fed_ends ws b)

module _ (vs : List ℤ) where
  bind_tells : {A B : Type 0} (h : Evaluation A) (f : A → ℕ → Evaluation B) (g : A → Course) (on : B → Course) (c : Course) → Tells vs h g c
      → ((x : A) (n : ℕ) → Tells vs (f x n) on (fed (drop n vs) (g x))) → Tells vs (h >>> f) on c
  bind_tells (Got x n) f g on c t k = subst (λ y. Tells vs (f x n) on y) (sym t) (k x n)
  bind_tells (Awaits o a) f g on c t k = t
  bind_tells (Faults b) f g on c t k = t

  given_tells : (g : Given) (at : Pos) (m : Mine) (on : Value → Course) (n : ℕ) → Tells vs (kept (blamed g at) n) on (fed (drop n vs) (given g at m on))
  given_tells (Gives v) at m on n = refl
  given_tells (Fails kind) at m on n = fed_ends (drop n vs) (Some (record { kind = kind; pos = Some at }))

  index_tells : (b : Bool) (i : ℕ) (kind : FaultKind) (at : Pos) (m : Mine) (on : ℕ → Course) (n : ℕ)
      → Tells vs (kept (indexed (if b then Some i else None) kind at) n) on (fed (drop n vs) (choose b (λ n. on i) (fault kind at) m))
  index_tells true i kind at m on n = refl
  index_tells false i kind at m on n = fed_ends (drop n vs) (Some (record { kind = kind; pos = Some at }))

  member_tells : (b : Bool) (i : ℕ) (r : Range) (at : Pos) (m : Mine) (on : ResolvedObject → Course) (n : ℕ)
      → Tells vs (kept (indexed (if b then Some i else None) Object at >>= λ j. Ok (record { number = r.first + j; size = r.size })) n) on
      (fed (drop n vs) (choose b (λ n. on (record { number = r.first + i; size = r.size })) (fault Object at) m))
  member_tells true i r at m on n = refl
  member_tells false i r at m on n = fed_ends (drop n vs) (Some (record { kind = Object; pos = Some at }))

  picked_tells : (b : Bool) (first other : On) (m : Mine) (h k : Evaluation Value) (on : Value → Course) (n : ℕ) → Tells vs h on (fed (drop n vs) (first m))
      → Tells vs k on (fed (drop n vs) (other m)) → Tells vs (if b then h else k) on (fed (drop n vs) (choose b first other m))
  picked_tells true first other m h k on n g f = g
  picked_tells false first other m h k on n g f = f

  -- an answer is there, or not
  none_left : (ws : List ℤ) (n : ℕ) → slice_get ws n ≡ None → drop n ws ≡ []
  none_left [] zero h = refl
  none_left [] (suc n) h = refl
  none_left (w ∷ ws) zero h = absurd (cc)
  none_left (w ∷ ws) (suc n) h = none_left ws n h

  answer_tells : (a : Option ℤ) (o c n : ℕ) (on : Value → Course) → slice_get vs n ≡ a → Tells vs (answered a o c n >>> λ z k. Got (IntOf z) k) on
      (fed (drop n vs) (Reads o c (λ z. on (IntOf z))))
  answer_tells (Some z) o c n on h =
      ap (λ ws. fed ws (Reads o c (λ z. on (IntOf z)))) (drop_item vs n z h) ∙ ap (λ k. fed (drop k vs) (on (IntOf z))) (add-one n)
  answer_tells None o c n on h =
      let P : List ℤ → Type 0 = λ ws. fed ws (Reads o c (λ z. on (IntOf z))) ≡ Reads o c (λ v. fed (v ∷ []) (fed ws (Reads o c (λ z. on (IntOf z))))) in
      subst P (sym (none_left vs n h)) refl

  read_tells : (b : Bool) (o c : ℕ) (at : Pos) (m : Mine) (on : Value → Course) (n : ℕ)
      → Tells vs (if b then (answered (slice_get vs n) o c n >>> λ z k. Got (IntOf z) k) else Faults (blame_at RightFault at)) on
      (fed (drop n vs) (choose b (λ n. Reads o c (λ z. on (IntOf z))) (fault RightFault at) m))
  read_tells true o c at m on n = answer_tells (slice_get vs n) o c n on refl
  read_tells false o c at m on n = fed_ends (drop n vs) (Some (record { kind = RightFault; pos = Some at }))

module _ (s : Setting) (vs : List ℤ) where
  mutual
    pub eval_tells : (e : Expression) (m : Mine) (on : Value → Course) (n : ℕ) → Tells vs (evaluate s.items m.env m.spec (Answers vs) e n) on
        (fed (drop n vs) (eval s e m on))
    eval_tells (Whole z) m on n = refl
    eval_tells (Truth b) m on n = refl
    eval_tells (Variable x) m on n = refl
    eval_tells (Group e) m on n = eval_tells e m on n
    eval_tells (Signed sign at e) m on n =
        let g : Value → Course = λ v. given (signed sign v) at m on in
        bind_tells vs (evaluate s.items m.env m.spec (Answers vs) e n) (λ v k. kept (blamed (signed sign v) at) k) g on (fed (drop n vs) (eval s e m g))
        (eval_tells e m g n) (λ v k. given_tells vs (signed sign v) at m on k)
    eval_tells (Chain e links) m on n =
        let g : Value → Course = λ v. eval_links s links v m on in
        bind_tells vs (evaluate s.items m.env m.spec (Answers vs) e n) (λ v k. evaluate_links s.items m.env m.spec (Answers vs) links v k) g on
        (fed (drop n vs) (eval s e m g)) (eval_tells e m g n) (λ v k. links_tell links v m on k)
    eval_tells (Cell o e) m on n =
        let T : ℕ → Evaluation Value = λ k. evaluate s.items m.env m.spec (Answers vs) e k in
        let at = place_of o in
        let reads : ResolvedObject → ℕ → Course = λ f c. read_cell f.number c at m on in
        let reached : ResolvedObject → Value → Course = λ f i. reach f (whole i) at m (reads f) in
        let looked : ResolvedObject → Course = λ f. eval s e m (reached f) in
        let C : ResolvedObject → ℕ → ℕ → Evaluation Value = λ f c h. evaluate_read m.spec (Answers vs) f.number c at h in
        let I : ResolvedObject → Value → Result ℕ Blame = λ f i. indexed (index_in (whole i) f.size) Index at in
        let G : ResolvedObject → Value → ℕ → Evaluation Value = λ f i j. kept (I f i) j >>> C f in
        bind_tells vs (evaluate_object s.items m.env m.spec (Answers vs) o n) (λ f k. T k >>> G f) looked on (fed (drop n vs) (find s o m looked))
        (find_tells o m looked n) (λ f k.
        bind_tells vs (T k) (G f) (reached f) on (fed (drop k vs) (looked f)) (eval_tells e m (reached f) k) (λ i j.
        bind_tells vs (kept (I f i) j) (C f) (reads f) on (fed (drop j vs) (reached f i))
        (index_tells vs (is_index (whole i) f.size) (magnitude (whole i)) Index at m (reads f) j) (λ c h.
        read_tells vs (may_read (rights_on m.spec f.number)) f.number c at m on h)))

    links_tell : (links : Links) (v : Value) (m : Mine) (on : Value → Course) (n : ℕ) → Tells vs (evaluate_links s.items m.env m.spec (Answers vs) links v n) on
        (fed (drop n vs) (eval_links s links v m on))
    links_tell Last v m on n = refl
    links_tell (Link op at e links) v m on n =
        let G : Value → Course = λ w. given (operated op v w) at m (λ u. eval_links s links u m on) in
        let F : Value → ℕ → Evaluation Value = λ w k. kept (blamed (operated op v w) at) k >>> λ u j. evaluate_links s.items m.env m.spec
        (Answers vs) links u j in
        picked_tells vs (decides op v) (λ n. on v) (λ n. eval s e n (λ w. given (operated op v w) at n (λ u. eval_links s links u n on))) m (Got v n)
        (evaluate s.items m.env m.spec (Answers vs) e n >>> F) on n refl
        (bind_tells vs (evaluate s.items m.env m.spec (Answers vs) e n) F G on (fed (drop n vs) (eval s e m G)) (eval_tells e m G n) (λ w k.
        bind_tells vs (kept (blamed (operated op v w) at) k) (λ u j. evaluate_links s.items m.env m.spec (Answers vs) links u j)
        (λ u. eval_links s links u m on) on (fed (drop k vs) (G w)) (given_tells vs (operated op v w) at m (λ u. eval_links s links u m on) k)
        (λ u j. links_tell links u m on j)))

    pub find_tells : (o : Place) (m : Mine) (on : ResolvedObject → Course) (n : ℕ) → Tells vs (evaluate_object s.items m.env m.spec (Answers vs) o n) on
        (fed (drop n vs) (find s o m on))
    find_tells (Alone x at) m on n = refl
    find_tells (Member x at e) m on n =
        let r = range_from 0 x s.items in
        let g : Value → Course = λ i. member r (whole i) at m on in
        bind_tells vs (evaluate s.items m.env m.spec (Answers vs) e n) (λ i k. kept (member_of r (whole i) at) k) g on (fed (drop n vs) (eval s e m g))
        (eval_tells e m g n) (λ i k. member_tells vs (is_index (whole i) r.count) (magnitude (whole i)) r at m on k)

  -- a store
  write_tells : (b : Bool) (o c : ℕ) (z : ℤ) (at : Pos) (m : Mine) (on : On) (n : ℕ) → Tells vs (if b then Got (o, c, z) n else Faults (blame_at RightFault at))
      (λ (w : ℕ × ℕ × ℤ). Writes w.0 w.1 w.2 (on m)) (fed (drop n vs) (choose b (λ n. Writes o c z (on n)) (fault RightFault at) m))
  write_tells true o c z at m on n = refl
  write_tells false o c z at m on n = fed_ends (drop n vs) (Some (record { kind = RightFault; pos = Some at }))

  pub store_tells : (o : Place) (e v : Expression) (m : Mine) (on : On) (n : ℕ) → Tells vs (evaluate_store s.items m.env m.spec (Answers vs) o e v n)
      (λ (w : ℕ × ℕ × ℤ). Writes w.0 w.1 w.2 (on m)) (fed (drop n vs) (run s (Store o e v) on m))
  store_tells o e v m on n =
      let W : ℕ × ℕ × ℤ → Course = λ (w : ℕ × ℕ × ℤ). Writes w.0 w.1 w.2 (on m) in
      let T : Expression → ℕ → Evaluation Value = λ x k. evaluate s.items m.env m.spec (Answers vs) x k in
      let at = place_of o in
      let g3 : ResolvedObject → ℕ → Value → Course = λ f c z. write_cell f.number c (whole z) at on m in
      let g2 : ResolvedObject → ℕ → Course = λ f c. eval s v m (g3 f c) in
      let g1 : ResolvedObject → Value → Course = λ f i. reach f (whole i) at m (g2 f) in
      let g0 : ResolvedObject → Course = λ f. eval s e m (g1 f) in
      let I : ResolvedObject → Value → Result ℕ Blame = λ f i. indexed (index_in (whole i) f.size) Index at in
      let F3 : ResolvedObject → ℕ → Value → ℕ → Evaluation (ℕ × ℕ × ℤ) = λ f c z g. evaluate_write m.spec f.number c (whole z) at g in
      let F2 : ResolvedObject → ℕ → ℕ → Evaluation (ℕ × ℕ × ℤ) = λ f c h. T v h >>> F3 f c in
      let F1 : ResolvedObject → Value → ℕ → Evaluation (ℕ × ℕ × ℤ) = λ f i j. kept (I f i) j >>> F2 f in
      bind_tells vs (evaluate_object s.items m.env m.spec (Answers vs) o n) (λ f k. T e k >>> F1 f) g0 W (fed (drop n vs) (find s o m g0)) (find_tells o m g0 n)
      (λ f k.
      bind_tells vs (T e k) (F1 f) (g1 f) W (fed (drop k vs) (g0 f)) (eval_tells e m (g1 f) k) (λ i j.
      bind_tells vs (kept (I f i) j) (F2 f) (g2 f) W (fed (drop j vs) (g1 f i)) (index_tells vs (is_index (whole i) f.size) (magnitude (whole i)) Index at m
      (g2 f) j) (λ c h.
      bind_tells vs (T v h) (F3 f c) (g3 f c) W (fed (drop h vs) (g2 f c)) (eval_tells v m (g3 f c) h) (λ z g.
      write_tells (may_write (rights_on m.spec f.number)) f.number c (whole z) at m on g))))

  -- the bounds of a loop
  pub bounds_tell : (low high : Expression) (m : Mine) (on : ℤ → ℤ → Course) (n : ℕ) → Tells vs (evaluate_bounds s.items m.env m.spec (Answers vs) low high n)
      (λ (r : ℤ × ℤ). on r.0 r.1) (fed (drop n vs) (eval s low m (λ l. eval s high m (λ h. on (whole l) (whole h)))))
  bounds_tell low high m on n =
      let g1 : Value → Value → Course = λ a b. on (whole a) (whole b) in
      let g0 : Value → Course = λ a. eval s high m (g1 a) in
      let T : Expression → ℕ → Evaluation Value = λ x k. evaluate s.items m.env m.spec (Answers vs) x k in
      let R : ℤ × ℤ → Course = λ (r : ℤ × ℤ). on r.0 r.1 in
      bind_tells vs (T low n) (λ a k. T high k >>> λ b j. Got (whole a, whole b) j) g0 R (fed (drop n vs) (eval s low m g0)) (eval_tells low m g0 n) (λ a k.
      bind_tells vs (T high k) (λ b j. Got (whole a, whole b) j) (g1 a) R (fed (drop k vs) (g0 a)) (eval_tells high m (g1 a) k) (λ b j. refl))
