-- Frames that are done one after another are the course of a task.
use Rattle.std.proofs.Common.{◌≡◌, ℕ, suc, ◌+◌, ◌-◌, ◌<◌, ◌≤◌, true, false, List, [], ◌∷◌, ◌++◌, length, refl, ap, sym, ◌∙◌, subst, drop, Option, Some}
use Rattle.std.proofs.Common.{None, Ok, Err}
use Rattle.std.proofs.lemmas.Bool.{le-ltb, lt-ltb}
use Rattle.std.proofs.lemmas.List.{drop_all}
use Rattle.std.specs.Prelude.{ℤ, pos, ◌+ℤ◌, ◌<ℤ◌, ◌≤ℤ◌, slice_get, slice_set}
use Rattle.jade_base.specs.declared.place.Pos.{Pos}
use Rattle.jade_base.specs.declared.report.FaultKind.TheVariants.{Cover, Change, Commute}
use Rattle.jade_base.specs.declared.report.Blame.{Blame}
use Rattle.jade_base.specs.declared.rights.Rights.{Rights}
use Rattle.jade_syntax.specs.declared.tree.ValueKind.{ValueKind}
use Rattle.jade_syntax.specs.declared.tree.DeclareWord.{DeclareWord}
use Rattle.jade_syntax.specs.declared.tree.Statement.{Statement}
use Rattle.jade_syntax.specs.Abstract.{Name, Expression, Place, Action, Actions, Local, Assign, Store, For, Declare}
use Rattle.jade_syntax.specs.Image.{action, block}
use Rattle.jade_meaning.specs.declared.frames.Frame.{Frame}
use Rattle.jade_meaning.specs.declared.frames.Transition.{Transition}
use Rattle.jade_meaning.specs.declared.frames.Running.{Running}
use Rattle.jade_meaning.specs.declared.setting.Task.{Task}
use Rattle.jade_meaning.specs.declared.source.Pause.{Pause}
use Rattle.jade_meaning.specs.declared.source.Pause.TheVariants.{Fault, Awaits as AwaitsOf}
use Rattle.jade_meaning.specs.declared.values.Value.{Value}
use Rattle.jade_meaning.specs.declared.values.Value.TheVariants.{IntOf}
use Rattle.jade_meaning.specs.declared.resolve.ResolvedObject.{ResolvedObject}
use Rattle.jade_meaning.specs.Values.{holds, turn_count}
use Rattle.jade_meaning.specs.Changes.{amended, declared}
use Rattle.jade_base.specs.Rights.{join}
use Rattle.jade_meaning.specs.Specification.{Specification, rights_on, covers, fitted, is_commuting, may_commute}
use Rattle.jade_meaning.specs.Course.{Course, Environment, Reads, Writes, Steps, Creates, Changes, Ends, Setting, Mine, On, Draft, NoDraft, Building}
use Rattle.jade_meaning.specs.Course.{Amending, fault, choose, finish, bind, scoped, turns, amend, declare, assigned, run, run_all, limit_blame, step}
use Rattle.jade_meaning.specs.Course.{create, create_covered, section_begins, change, child_start, copied, drafted}
use Rattle.jade_meaning.specs.steps.Perform.{mine_of, changed}
use Rattle.jade_meaning.specs.steps.Direct.{blame_at, drafted_with, amended_with}
use Rattle.jade_meaning.specs.steps.Evaluation.{Evaluation, Got, Answers, stopped, evaluate, evaluate_object}
use Rattle.jade_meaning.specs.steps.Frames.{fed, Tells, frame_on, frames_from, frames_on, begun_with, course_of, Did, from_action, paused_as, opened_with}
use Rattle.jade_meaning.specs.steps.Frames.{chosen, evaluate_store, evaluate_bounds}
use Rattle.jade_syntax.proofs.Limits.{drop_item}
use Rattle.jade_meaning.proofs.Following.{turn_less, no_turn}
use Rattle.jade_meaning.proofs.Evaluating.{fed_ends, fed_steps, fed_writes, fed_creates, fed_changes, eval_tells, find_tells, store_tells, bounds_tell}

-- one frame more
pub frames_pushed : (s : Setting) (fs : List Frame) (f : Frame) (on : On) → frames_from s (fs ++ f ∷ []) on ≡ frame_on s f (frames_from s fs on)
frames_pushed s [] f on = refl
frames_pushed s (g ∷ fs) f on = frames_pushed s fs f (frame_on s g on)

-- a value that was evaluated
evaluated_as : {A : Type 0} (vs : List ℤ) (h : Evaluation A) (x : A) (k : ℕ) (on : A → Course) (c : Course) → Got x k ≡ h → Tells vs h on c
    → c ≡ fed (drop k vs) (on x)
evaluated_as vs h x k on c e t = subst (λ y. Tells vs y on c) (sym e) t

-- what a pause makes of a statement
did_stop : (s : Setting) (vs : List ℤ) (a : Action) (r : Running) (p : Pause) {A : Type 0} (on : A → Course) → Tells vs (stopped p) on (from_action s vs a r)
    → Did s vs (paused_as p) a r r
did_stop s vs a r (Fault b) on t = t
did_stop s vs a r (AwaitsOf o c) on t = (t, refl)

pub did_paused : {A : Type 0} (s : Setting) (vs : List ℤ) (a : Action) (r : Running) (p : Pause) (d : Transition) (h : Evaluation A) (on : A → Course)
    → d ≡ paused_as p → stopped p ≡ h → Tells vs h on (from_action s vs a r) → Did s vs d a r r
did_paused s vs a r p d h on e g t =
    subst (λ x. Did s vs x a r r) (sym e) (did_stop s vs a r p on (subst (λ y. Tells vs y on (from_action s vs a r)) (sym g) t))

-- what follows a test
abbrev tested : Setting → On → List Statement → Option (List Statement) → Mine → Value → Course
tested s on body None m v = choose (holds v) (scoped (run_all s (block body)) on) on m
tested s on body (Some other) m v = choose (holds v) (scoped (run_all s (block body)) on) (scoped (run_all s (block other)) on) m

module _ (s : Setting) (vs : List ℤ) (r : Running) where
  abbrev after : On
  after = frames_on s r.frames.items

  -- a local, and an assignment
  pub local_evaluated : (kind : ValueKind) (x : Name) (e : Expression) → Tells vs (evaluate s.items r.task.scope r.task.spec (Answers vs) e r.used)
      (λ v. after (bind x v (mine_of r.task))) (from_action s vs (Local kind x e) r)
  local_evaluated kind x e = eval_tells s vs e (mine_of r.task) (λ v. after (bind x v (mine_of r.task))) r.used

  pub assign_evaluated : (x : Name) (e : Expression) → Tells vs (evaluate s.items r.task.scope r.task.spec (Answers vs) e r.used)
      (λ v. after (record (mine_of r.task) { env = assigned x v r.task.scope })) (from_action s vs (Assign x e) r)
  assign_evaluated x e = eval_tells s vs e (mine_of r.task) (λ v. after (record (mine_of r.task) { env = assigned x v r.task.scope })) r.used

  pub store_evaluated : (o : Place) (e v : Expression) → Tells vs (evaluate_store s.items r.task.scope r.task.spec (Answers vs) o e v r.used)
      (λ (w : ℕ × ℕ × ℤ). Writes w.0 w.1 w.2 (after (mine_of r.task))) (from_action s vs (Store o e v) r)
  store_evaluated o e v = store_tells s vs o e v (mine_of r.task) after r.used

  pub if_evaluated : (e : Expression) (body : List Statement) (other : Option (List Statement))
      → Tells vs (evaluate s.items r.task.scope r.task.spec (Answers vs) e r.used) (tested s after body other (mine_of r.task))
      (from_action s vs (chosen e body other) r)
  if_evaluated e body None = eval_tells s vs e (mine_of r.task) (tested s after body None (mine_of r.task)) r.used
  if_evaluated e body (Some more) = eval_tells s vs e (mine_of r.task) (tested s after body (Some more) (mine_of r.task)) r.used

  pub for_evaluated : (x : Name) (low high : Expression) (body : Actions)
      → Tells vs (evaluate_bounds s.items r.task.scope r.task.spec (Answers vs) low high r.used) (λ (b : ℤ × ℤ). turns s.limit (turn_count b.0 b.1) b.0 x
      (run_all s body) after (mine_of r.task)) (from_action s vs (For x low high body) r)
  for_evaluated x low high body = bounds_tell s vs low high (mine_of r.task) (λ l h. turns s.limit (turn_count l h) l x (run_all s body) after (mine_of r.task))
      r.used

  pub declare_evaluated : (how : DeclareWord) (at : Pos) (o : Place) → Tells vs (evaluate_object s.items r.task.scope r.task.spec (Answers vs) o r.used)
      (λ f. declare r.task.draft how f.number at after (mine_of r.task)) (from_action s vs (Declare how at o) r)
  declare_evaluated how at o = find_tells s vs o (mine_of r.task) (λ f. declare r.task.draft how f.number at after (mine_of r.task)) r.used

  -- a local, once its value is evaluated
  pub local_goes : (kind : ValueKind) (x : Name) (e : Expression) (v : Value) (k : ℕ) (env : Environment) → Got v k ≡ evaluate s.items r.task.scope r.task.spec
      (Answers vs) e r.used → env ≡ record { name = x; value = v } ∷ r.task.scope → from_action s vs (Local kind x e) r ≡ fed (drop k vs)
      (after (record (mine_of r.task) { env = env }))
  local_goes kind x e v k env h g =
      evaluated_as vs (evaluate s.items r.task.scope r.task.spec (Answers vs) e r.used) v k (λ v. after (bind x v (mine_of r.task)))
      (from_action s vs (Local kind x e) r) h (local_evaluated kind x e)
      ∙ ap (λ n. fed (drop k vs) (after (record (mine_of r.task) { env = n }))) (sym g)

  pub assign_goes : (x : Name) (e : Expression) (v : Value) (k : ℕ) (env : Environment) → Got v k ≡ evaluate s.items r.task.scope r.task.spec
      (Answers vs) e r.used → env ≡ assigned x v r.task.scope → from_action s vs (Assign x e) r ≡ fed (drop k vs)
      (after (record (mine_of r.task) { env = env }))
  assign_goes x e v k env h g =
      evaluated_as vs (evaluate s.items r.task.scope r.task.spec (Answers vs) e r.used) v k
      (λ v. after (record (mine_of r.task) { env = assigned x v r.task.scope })) (from_action s vs (Assign x e) r) h (assign_evaluated x e)
      ∙ ap (λ n. fed (drop k vs) (after (record (mine_of r.task) { env = n }))) (sym g)

  pub store_goes : (o : Place) (e v : Expression) (w : ℕ × ℕ × ℤ) (k : ℕ) → Got w k ≡ evaluate_store s.items r.task.scope r.task.spec (Answers vs) o e v r.used
      → from_action s vs (Store o e v) r ≡ Writes w.0 w.1 w.2 (fed (drop k vs) (after (mine_of r.task)))
  store_goes o e v w k h =
      evaluated_as vs (evaluate_store s.items r.task.scope r.task.spec (Answers vs) o e v r.used) w k
      (λ (w : ℕ × ℕ × ℤ). Writes w.0 w.1 w.2 (after (mine_of r.task))) (from_action s vs (Store o e v) r) h (store_evaluated o e v)
      ∙ fed_writes (drop k vs) w.0 w.1 w.2 (after (mine_of r.task))

  -- a frame is put above the others
  pub pushed_goes : (f : Frame) (gs : List Frame) (k : ℕ) (m : Mine) → gs ≡ r.frames.items ++ f ∷ [] → fed (drop k vs) (frame_on s f after m) ≡ fed (drop k vs)
      (frames_on s gs m)
  pushed_goes f gs k m e = ap (λ on. fed (drop k vs) (on m)) (sym (ap (frames_on s) e ∙ frames_pushed s r.frames.items f finish))

  pub for_goes : (x : Name) (low high : Expression) (body : Actions) (b : ℤ × ℤ) (k : ℕ) → Got b k ≡ evaluate_bounds s.items r.task.scope r.task.spec
      (Answers vs) low high r.used → from_action s vs (For x low high body) r ≡ fed (drop k vs) (turns s.limit (turn_count b.0 b.1) b.0 x (run_all s body) after
      (mine_of r.task))
  for_goes x low high body b k h =
      evaluated_as vs (evaluate_bounds s.items r.task.scope r.task.spec (Answers vs) low high r.used) b k
      (λ (b : ℤ × ℤ). turns s.limit (turn_count b.0 b.1) b.0 x (run_all s body) after (mine_of r.task)) (from_action s vs (For x low high body) r) h
      (for_evaluated x low high body)

  -- a block is entered
  pub entered_goes : (body : List Statement) (k : ℕ) (on : On) (q : Running) → frames_on s q.frames.items ≡ opened_with r body s on → q.task ≡ r.task
      → q.used ≡ k → fed (drop k vs) (scoped (run_all s (block body)) on (mine_of r.task)) ≡ course_of s vs q
  entered_goes body k on q e t u =
      ap (λ f. fed (drop k vs) (f (mine_of r.task))) (sym e) ∙ ap (λ x. fed (drop k vs) (frames_on s q.frames.items (mine_of x))) (sym t)
      ∙ ap (λ j. fed (drop j vs) (frames_on s q.frames.items (mine_of q.task))) (sym u)

  pub if_goes : (e : Expression) (body : List Statement) (other : Option (List Statement)) (v : Value) (k : ℕ)
      → Got v k ≡ evaluate s.items r.task.scope r.task.spec (Answers vs) e r.used → from_action s vs (chosen e body other) r ≡ fed (drop k vs)
      (tested s after body other (mine_of r.task) v)
  if_goes e body other v k h = evaluated_as vs (evaluate s.items r.task.scope r.task.spec (Answers vs) e r.used) v k
      (tested s after body other (mine_of r.task)) (from_action s vs (chosen e body other) r) h (if_evaluated e body other)

  -- the test holds, or not
  pub holds_goes : (body : List Statement) (other : Option (List Statement)) (v : Value) (k : ℕ) → holds v ≡ true
      → fed (drop k vs) (tested s after body other (mine_of r.task) v) ≡ fed (drop k vs) (scoped (run_all s (block body)) after (mine_of r.task))
  holds_goes body None v k h = ap (λ b. fed (drop k vs) (choose b (scoped (run_all s (block body)) after) after (mine_of r.task))) h
  holds_goes body (Some more) v k h =
      ap (λ b. fed (drop k vs) (choose b (scoped (run_all s (block body)) after) (scoped (run_all s (block more)) after) (mine_of r.task))) h

  pub fails_goes : (body : List Statement) (other : Option (List Statement)) (v : Value) (k : ℕ) → other ≡ None → holds v ≡ false
      → fed (drop k vs) (tested s after body other (mine_of r.task) v) ≡ fed (drop k vs) (after (mine_of r.task))
  fails_goes body other v k e h = ap (λ x. fed (drop k vs) (tested s after body x (mine_of r.task) v)) e
      ∙ ap (λ b. fed (drop k vs) (choose b (scoped (run_all s (block body)) after) after (mine_of r.task))) h

  pub other_goes : (body more : List Statement) (other : Option (List Statement)) (v : Value) (k : ℕ) → other ≡ Some more → holds v ≡ false
      → fed (drop k vs) (tested s after body other (mine_of r.task) v) ≡ fed (drop k vs) (scoped (run_all s (block more)) after (mine_of r.task))
  other_goes body more other v k e h = ap (λ x. fed (drop k vs) (tested s after body x (mine_of r.task) v)) e
      ∙ ap (λ b. fed (drop k vs) (choose b (scoped (run_all s (block body)) after) (scoped (run_all s (block more)) after) (mine_of r.task))) h

-- a word of a section
drafted_amend : (a : Option Rights) (spec : Specification) (o : ℕ) (at : Pos) (on : On) (m : Mine) (d : Draft) → amended_with a spec o at ≡ Ok d
    → amend a spec o at on m ≡ on (record m { draft = d })
drafted_amend None spec o at on m d h = absurd (cc)
drafted_amend (Some a) spec o at on m d h = let e : Amending (slice_set spec o a) ≡ d = cc in ap (λ x. on (record m { draft = x })) e

drafted_goes : (d0 : Draft) (how : DeclareWord) (o : ℕ) (at : Pos) (on : On) (m : Mine) (d : Draft) → m.draft ≡ d0 → drafted_with d0 how o at ≡ Ok d
    → declare d0 how o at on m ≡ on (record m { draft = d })
drafted_goes NoDraft how o at on m d e h = let g : m.draft ≡ d = cc in ap (λ x. on (record m { draft = x })) g
drafted_goes (Building spec) how o at on m d e h =
    let g : Building (slice_set spec o (join (rights_on spec o) (declared how))) ≡ d = cc in ap (λ x. on (record m { draft = x })) g
drafted_goes (Amending spec) how o at on m d e h = drafted_amend (amended how (rights_on spec o)) spec o at on m d h

refused_amend : (a : Option Rights) (spec : Specification) (o : ℕ) (at : Pos) (on : On) (m : Mine) (b : Blame) → amended_with a spec o at ≡ Err b
    → amend a spec o at on m ≡ Ends (Some b)
refused_amend None spec o at on m b h = let e : blame_at Change at ≡ b = cc in ap (λ x. Ends (Some x)) e
refused_amend (Some a) spec o at on m b h = absurd (cc)

refused_goes : (d0 : Draft) (how : DeclareWord) (o : ℕ) (at : Pos) (on : On) (m : Mine) (b : Blame) → drafted_with d0 how o at ≡ Err b
    → declare d0 how o at on m ≡ Ends (Some b)
refused_goes NoDraft how o at on m b h = absurd (cc)
refused_goes (Building spec) how o at on m b h = absurd (cc)
refused_goes (Amending spec) how o at on m b h = refused_amend (amended how (rights_on spec o)) spec o at on m b h

module _ (s : Setting) (vs : List ℤ) (r : Running) where
  abbrev later : On
  later = frames_on s r.frames.items

  pub declare_goes : (how : DeclareWord) (at : Pos) (o : Place) (f : ResolvedObject) (k : ℕ) (d : Draft)
      → Got f k ≡ evaluate_object s.items r.task.scope r.task.spec (Answers vs) o r.used → drafted_with r.task.draft how f.number at ≡ Ok d
      → from_action s vs (Declare how at o) r ≡ fed (drop k vs) (later (record (mine_of r.task) { draft = d }))
  declare_goes how at o f k d h g =
      evaluated_as vs (evaluate_object s.items r.task.scope r.task.spec (Answers vs) o r.used) f k (λ f. declare r.task.draft how f.number at later
      (mine_of r.task)) (from_action s vs (Declare how at o) r) h (declare_evaluated s vs r how at o)
      ∙ ap (fed (drop k vs)) (drafted_goes r.task.draft how f.number at later (mine_of r.task) d refl g)

  pub declare_stops : (how : DeclareWord) (at : Pos) (o : Place) (f : ResolvedObject) (k : ℕ) (b : Blame)
      → Got f k ≡ evaluate_object s.items r.task.scope r.task.spec (Answers vs) o r.used → drafted_with r.task.draft how f.number at ≡ Err b
      → from_action s vs (Declare how at o) r ≡ Ends (Some b)
  declare_stops how at o f k b h g =
      evaluated_as vs (evaluate_object s.items r.task.scope r.task.spec (Answers vs) o r.used) f k (λ f. declare r.task.draft how f.number at later
      (mine_of r.task)) (from_action s vs (Declare how at o) r) h (declare_evaluated s vs r how at o)
      ∙ ap (fed (drop k vs)) (refused_goes r.task.draft how f.number at later (mine_of r.task) b g)
      ∙ fed_ends (drop k vs) (Some b)

-- the section of a `withonly` or a `with` begins
pub section_goes : (s : Setting) (vs : List ℤ) (r : Running) (body : List Statement) (f : Frame) (d : Draft) (u q : Running)
    → u.task ≡ record r.task { draft = d } → u.frames.items ≡ r.frames.items ++ f ∷ [] → u.used ≡ r.used → frames_on s q.frames.items ≡ opened_with u body s
    (frames_on s u.frames.items) → q.task ≡ u.task → q.used ≡ u.used
    → fed (drop r.used vs) (scoped (run_all s (block body)) (frame_on s f (frames_on s r.frames.items)) (record (mine_of r.task) { draft = d }))
    ≡ course_of s vs q
section_goes s vs r body f d u q e g n h t k =
    ap (λ on. fed (drop r.used vs) (scoped (run_all s (block body)) on (record (mine_of r.task) { draft = d })))
    (sym (ap (frames_on s) g ∙ frames_pushed s r.frames.items f finish))
    ∙ ap (λ x. fed (drop r.used vs) (scoped (run_all s (block body)) (frames_on s u.frames.items) (mine_of x))) (sym e)
    ∙ entered_goes s vs u body r.used (frames_on s u.frames.items) q h t (k ∙ n)

module _ (s : Setting) (vs : List ℤ) (r : Running) where
  abbrev onward : On
  onward = frames_on s r.frames.items

  -- a step begins, or the task ends
  step_goes : (on : On) → r.task.tally.taken < s.limit → begun_with vs (step s.limit on) r ≡ Steps
      (fed (drop r.used vs) (on (record (mine_of r.task) { taken = suc r.task.tally.taken })))
  step_goes on h =
      ap (λ b. fed (drop r.used vs) (choose b (λ n. Steps (on (record n { taken = suc n.taken }))) (λ n. Ends (Some limit_blame)) (mine_of r.task)))
      (lt-ltb r.task.tally.taken s.limit h)
      ∙ fed_steps (drop r.used vs) (on (record (mine_of r.task) { taken = suc r.task.tally.taken }))

  step_stops : (on : On) → s.limit ≤ r.task.tally.taken → begun_with vs (step s.limit on) r ≡ Ends (Some limit_blame)
  step_stops on h =
      ap (λ b. fed (drop r.used vs) (choose b (λ n. Steps (on (record n { taken = suc n.taken }))) (λ n. Ends (Some limit_blame)) (mine_of r.task)))
      (le-ltb r.task.tally.taken s.limit h)
      ∙ fed_ends (drop r.used vs) (Some limit_blame)

  -- the next statement of a block
  pub rest_goes : (b : List Statement) (i : ℕ) (a : Statement) (f g : Frame) (gs hs : List Frame) (taken : ℕ) → slice_get b i ≡ Some a
      → r.task.tally.taken < s.limit → taken ≡ suc r.task.tally.taken → ((on : On) → frame_on s f on ≡ run_all s (block (drop (i + 1) b)) on)
      → ((on : On) → frame_on s g on ≡ run s (action a) on) → gs ≡ r.frames.items ++ f ∷ [] → hs ≡ gs ++ g ∷ []
      → begun_with vs (run_all s (block (drop i b)) onward) r ≡ Steps (fed (drop r.used vs) (frames_on s hs (record (mine_of r.task) { taken = taken })))
  rest_goes b i a f g gs hs taken h lt t ef eg e1 e2 =
      let rest : On = run_all s (block (drop (i + 1) b)) onward in
      let frames : frames_on s hs ≡ run s (action a) rest = ap (frames_on s) e2 ∙ frames_pushed s gs g finish ∙ eg (frames_on s gs)
      ∙ ap (run s (action a)) (ap (frames_on s) e1 ∙ frames_pushed s r.frames.items f finish ∙ ef onward) in
      ap (λ l. begun_with vs (run_all s (block l) onward) r) (drop_item b i a h)
      ∙ step_goes (run s (action a) rest) lt
      ∙ ap (λ n. Steps (fed (drop r.used vs) (run s (action a) rest (record (mine_of r.task) { taken = n })))) (sym t)
      ∙ ap (λ on. Steps (fed (drop r.used vs) (on (record (mine_of r.task) { taken = taken })))) (sym frames)

  pub rest_stops : (b : List Statement) (i : ℕ) (a : Statement) → slice_get b i ≡ Some a → s.limit ≤ r.task.tally.taken
      → begun_with vs (run_all s (block (drop i b)) onward) r ≡ Ends (Some limit_blame)
  rest_stops b i a h le =
      ap (λ l. begun_with vs (run_all s (block l) onward) r) (drop_item b i a h) ∙ step_stops (run s (action a) (run_all s (block (drop (i + 1) b)) onward)) le

  pub rest_ends : (b : List Statement) (i : ℕ) → length b ≤ i → begun_with vs (run_all s (block (drop i b)) onward) r ≡ course_of s vs r
  rest_ends b i le = ap (λ l. begun_with vs (run_all s (block l) onward) r) (drop_all i b le)

  -- the next turn of a loop
  pub turn_goes : (x : Name) (body : List Statement) (i j high : ℤ) (f g k : Frame) (gs hs ks : List Frame) (env : Environment) (taken : ℕ) → i <ℤ high
      → j ≡ i +ℤ pos 1 → r.task.tally.taken < s.limit → taken ≡ suc r.task.tally.taken → env ≡ record { name = x; value = IntOf i } ∷ r.task.scope
      → ((on : On) → frame_on s f on ≡ turns s.limit (turn_count j high) j x (run_all s (block body)) on)
      → ((on : On) → frame_on s g on ≡ λ n. on (record n { env = drop (length n.env - length r.task.scope) n.env }))
      → ((on : On) → frame_on s k on ≡ run_all s (block body) on) → gs ≡ r.frames.items ++ f ∷ [] → hs ≡ gs ++ g ∷ [] → ks ≡ hs ++ k ∷ []
      → begun_with vs (turns s.limit (turn_count i high) i x (run_all s (block body)) onward) r ≡ Steps
      (fed (drop r.used vs) (frames_on s ks (record (mine_of r.task) { env = env; taken = taken })))
  turn_goes x body i j high f g k gs hs ks env taken less next lt t en ef eg ek e1 e2 e3 =
      let rest : ℤ → On = λ z. turns s.limit (turn_count z high) z x (run_all s (block body)) onward in
      let left : ℤ → On = λ z n. rest z (record n { env = drop (length n.env - length r.task.scope) n.env }) in
      let turn : On = λ a. scoped (λ q b. run_all s (block body) q (bind x (IntOf i) b)) (rest (i +ℤ pos 1)) a in
      let dropping : On → On = λ on n. on (record n { env = drop (length n.env - length r.task.scope) n.env }) in
      let low : frames_on s gs ≡ rest j = ap (frames_on s) e1 ∙ frames_pushed s r.frames.items f finish ∙ ef onward in
      let middle : frames_on s hs ≡ left j = ap (frames_on s) e2 ∙ frames_pushed s gs g finish ∙ eg (frames_on s gs) ∙ ap dropping low in
      let frames : frames_on s ks ≡ run_all s (block body) (left (i +ℤ pos 1)) = ap (frames_on s) e3 ∙ frames_pushed s hs k finish ∙ ek (frames_on s hs)
      ∙ ap (run_all s (block body)) (middle ∙ ap left next) in
      ap (λ n. begun_with vs (turns s.limit n i x (run_all s (block body)) onward) r) (turn_less i high less)
      ∙ step_goes turn lt
      ∙ ap (λ n.
      Steps (fed (drop r.used vs) (run_all s (block body) (left (i +ℤ pos 1)) (record (mine_of r.task) { env = n; taken = suc r.task.tally.taken }))))
      (sym en)
      ∙ ap (λ n. Steps (fed (drop r.used vs) (run_all s (block body) (left (i +ℤ pos 1)) (record (mine_of r.task) { env = env; taken = n })))) (sym t)
      ∙ ap (λ on. Steps (fed (drop r.used vs) (on (record (mine_of r.task) { env = env; taken = taken })))) (sym frames)

  pub turn_stops : (x : Name) (body : List Statement) (i high : ℤ) → i <ℤ high → s.limit ≤ r.task.tally.taken
      → begun_with vs (turns s.limit (turn_count i high) i x (run_all s (block body)) onward) r ≡ Ends (Some limit_blame)
  turn_stops x body i high less le =
      ap (λ n. begun_with vs (turns s.limit n i x (run_all s (block body)) onward) r) (turn_less i high less)
      ∙ step_stops (λ a. scoped (λ q b. run_all s (block body) q (bind x (IntOf i) b)) (turns s.limit (turn_count (i +ℤ pos 1) high) (i +ℤ pos 1) x
      (run_all s (block body)) onward) a) le

  pub turn_ends : (x : Name) (body : List Statement) (i high : ℤ) → high ≤ℤ i
      → begun_with vs (turns s.limit (turn_count i high) i x (run_all s (block body)) onward) r ≡ course_of s vs r
  turn_ends x body i high le = ap (λ n. begun_with vs (turns s.limit n i x (run_all s (block body)) onward) r) (no_turn i high le)

  -- a child is made, or not
  pub create_goes : (at : Pos) (names : List Name) (body : On) (child : Specification) (env : Environment) → child ≡ fitted r.task.spec (drafted r.task.draft)
      → may_commute child ≡ true → covers r.task.spec child ≡ true → env ≡ copied names r.task.scope ++ s.given → begun_with vs (create s at names body onward) r
      ≡ Creates child (body (child_start env child)) (fed (drop r.used vs) (onward (record (mine_of r.task) { draft = NoDraft })))
  create_goes at names body child env e may h g =
      let made : Specification → Mine → Course = λ c n. Creates c (body (child_start (copied names n.env ++ s.given) c))
      (onward (record n { draft = NoDraft })) in
      ap (λ c. fed (drop r.used vs) (choose (may_commute c) (create_covered s at names c body onward) (fault Commute at) (mine_of r.task))) (sym e)
      ∙ ap (λ b. fed (drop r.used vs) (choose b (create_covered s at names child body onward) (fault Commute at) (mine_of r.task))) may
      ∙ ap (λ b. fed (drop r.used vs) (choose b (made child) (fault Cover at) (mine_of r.task))) h
      ∙ fed_creates (drop r.used vs) child (body (child_start (copied names r.task.scope ++ s.given) child))
      (onward (record (mine_of r.task) { draft = NoDraft }))
      ∙ ap (λ n. Creates child (body (child_start n child)) (fed (drop r.used vs) (onward (record (mine_of r.task) { draft = NoDraft })))) (sym g)

  pub create_stops : (at : Pos) (names : List Name) (body : On) (child : Specification) → child ≡ fitted r.task.spec (drafted r.task.draft)
      → may_commute child ≡ true → covers r.task.spec child ≡ false → begun_with vs (create s at names body onward) r ≡ Ends (Some (blame_at Cover at))
  create_stops at names body child e may h =
      let made : Specification → Mine → Course = λ c n. Creates c (body (child_start (copied names n.env ++ s.given) c))
      (onward (record n { draft = NoDraft })) in
      ap (λ c. fed (drop r.used vs) (choose (may_commute c) (create_covered s at names c body onward) (fault Commute at) (mine_of r.task))) (sym e)
      ∙ ap (λ b. fed (drop r.used vs) (choose b (create_covered s at names child body onward) (fault Commute at) (mine_of r.task))) may
      ∙ ap (λ b. fed (drop r.used vs) (choose b (made child) (fault Cover at) (mine_of r.task))) h
      ∙ fed_ends (drop r.used vs) (Some (blame_at Cover at))

  -- or it may not commute as it would
  pub create_bars : (at : Pos) (names : List Name) (body : On) (child : Specification) → child ≡ fitted r.task.spec (drafted r.task.draft)
      → may_commute child ≡ false → begun_with vs (create s at names body onward) r ≡ Ends (Some (blame_at Commute at))
  create_bars at names body child e may =
      ap (λ c. fed (drop r.used vs) (choose (may_commute c) (create_covered s at names c body onward) (fault Commute at) (mine_of r.task))) (sym e)
      ∙ ap (λ b. fed (drop r.used vs) (choose b (create_covered s at names child body onward) (fault Commute at) (mine_of r.task))) may
      ∙ fed_ends (drop r.used vs) (Some (blame_at Commute at))

  -- a section begins, or the task commutes
  pub section_opens : (at : Pos) (d : Draft) (on : On) → is_commuting r.task.spec ≡ false
      → begun_with vs (section_begins at d on) r ≡ fed (drop r.used vs) (on (record (mine_of r.task) { draft = d }))
  section_opens at d on h = ap (λ b. fed (drop r.used vs) (choose b (fault Commute at) (λ n. on (record n { draft = d })) (mine_of r.task))) h

  pub section_bars : (at : Pos) (d : Draft) (on : On) → is_commuting r.task.spec ≡ true
      → begun_with vs (section_begins at d on) r ≡ Ends (Some (blame_at Commute at))
  section_bars at d on h =
      ap (λ b. fed (drop r.used vs) (choose b (fault Commute at) (λ n. on (record n { draft = d })) (mine_of r.task))) h
      ∙ fed_ends (drop r.used vs) (Some (blame_at Commute at))

  -- the task's own rights change
  pub change_goes : (t : Task) (new : Specification) → t ≡ changed r.task → new ≡ t.spec → begun_with vs (change onward) r ≡ Changes new
      (fed (drop r.used vs) (onward (mine_of t)))
  change_goes t new e g =
      fed_changes (drop r.used vs) (changed r.task).spec (onward (mine_of (changed r.task)))
      ∙ ap (λ u. Changes u.spec (fed (drop r.used vs) (onward (mine_of u)))) (sym e) ∙ ap (λ n. Changes n (fed (drop r.used vs) (onward (mine_of t))))
      (sym g)

-- a statement that waits stays to be done
pub did_next : (s : Setting) (vs : List ℤ) (a : Action) (r q : Running) (o c : ℕ) (hs : List Frame) (f : Frame)
    → (from_action s vs a r ≡ Reads o c (λ v. fed (v ∷ []) (from_action s vs a r))) × (q ≡ r) → hs ≡ q.frames.items ++ f ∷ []
    → ((on : On) → frame_on s f on ≡ run s a on) → from_action s vs a r ≡ Reads o c (λ v. fed (v ∷ []) (fed (drop q.used vs) (frames_on s hs (mine_of q.task))))
did_next s vs a r q o c hs f h e k =
    let same : from_action s vs a r ≡ fed (drop q.used vs) (frames_on s hs (mine_of q.task)) =
    ap (from_action s vs a) (sym h.1) ∙ ap (λ on. fed (drop q.used vs) (on (mine_of q.task))) (sym (ap (frames_on s) e ∙ frames_pushed s q.frames.items f finish
    ∙ k (frames_on s q.frames.items))) in
    h.0 ∙ ap (λ x. Reads o c (λ v. fed (v ∷ []) x)) same

-- two frames more
pub twice : (s : Setting) (fs gs hs : List Frame) (f g : Frame) → gs ≡ fs ++ f ∷ [] → hs ≡ gs ++ g ∷ []
    → frames_on s hs ≡ frame_on s g (frame_on s f (frames_on s fs))
twice s fs gs hs f g d e = ap (frames_on s) e ∙ frames_pushed s gs g finish ∙ ap (frame_on s g) (ap (frames_on s) d ∙ frames_pushed s fs f finish)

module _ (s : Setting) (vs : List ℤ) (r : Running) where
  abbrev follows : On
  follows = frames_on s r.frames.items

  pub local_pauses : (kind : ValueKind) (x : Name) (e : Expression) (p : Pause) (d : Transition) → d ≡ paused_as p
      → stopped p ≡ evaluate s.items r.task.scope r.task.spec (Answers vs) e r.used → Did s vs d (Local kind x e) r r
  local_pauses kind x e p d h g = did_paused s vs (Local kind x e) r p d (evaluate s.items r.task.scope r.task.spec (Answers vs) e r.used)
      (λ v. follows (bind x v (mine_of r.task))) h g (local_evaluated s vs r kind x e)

  pub assign_pauses : (x : Name) (e : Expression) (p : Pause) (d : Transition) → d ≡ paused_as p → stopped p ≡ evaluate s.items r.task.scope r.task.spec
      (Answers vs) e r.used → Did s vs d (Assign x e) r r
  assign_pauses x e p d h g = did_paused s vs (Assign x e) r p d (evaluate s.items r.task.scope r.task.spec (Answers vs) e r.used)
      (λ v. follows (record (mine_of r.task) { env = assigned x v r.task.scope })) h g (assign_evaluated s vs r x e)

  pub store_pauses : (o : Place) (e v : Expression) (p : Pause) (d : Transition) → d ≡ paused_as p → stopped p ≡ evaluate_store s.items r.task.scope r.task.spec
      (Answers vs) o e v r.used → Did s vs d (Store o e v) r r
  store_pauses o e v p d h g = did_paused s vs (Store o e v) r p d (evaluate_store s.items r.task.scope r.task.spec (Answers vs) o e v r.used)
      (λ (w : ℕ × ℕ × ℤ). Writes w.0 w.1 w.2 (follows (mine_of r.task))) h g (store_evaluated s vs r o e v)

  pub if_pauses : (e : Expression) (body : List Statement) (other : Option (List Statement)) (p : Pause) (d : Transition) → d ≡ paused_as p
      → stopped p ≡ evaluate s.items r.task.scope r.task.spec (Answers vs) e r.used → Did s vs d (chosen e body other) r r
  if_pauses e body other p d h g = did_paused s vs (chosen e body other) r p d (evaluate s.items r.task.scope r.task.spec (Answers vs) e r.used)
      (tested s follows body other (mine_of r.task)) h g (if_evaluated s vs r e body other)

  pub for_pauses : (x : Name) (low high : Expression) (body : Actions) (p : Pause) (d : Transition) → d ≡ paused_as p
      → stopped p ≡ evaluate_bounds s.items r.task.scope r.task.spec (Answers vs) low high r.used → Did s vs d (For x low high body) r r
  for_pauses x low high body p d h g = did_paused s vs (For x low high body) r p d (evaluate_bounds s.items r.task.scope r.task.spec
      (Answers vs) low high r.used) (λ (b : ℤ × ℤ). turns s.limit (turn_count b.0 b.1) b.0 x (run_all s body) follows (mine_of r.task)) h g
      (for_evaluated s vs r x low high body)

  pub declare_pauses : (how : DeclareWord) (at : Pos) (o : Place) (p : Pause) (d : Transition) → d ≡ paused_as p
      → stopped p ≡ evaluate_object s.items r.task.scope r.task.spec (Answers vs) o r.used → Did s vs d (Declare how at o) r r
  declare_pauses how at o p d h g = did_paused s vs (Declare how at o) r p d (evaluate_object s.items r.task.scope r.task.spec (Answers vs) o r.used)
      (λ f. declare r.task.draft how f.number at follows (mine_of r.task)) h g (declare_evaluated s vs r how at o)

-- the last frame of a task's frames comes first
pub popped_goes : (s : Setting) (vs : List ℤ) (r : Running) (gs : List Frame) (f : Frame) → r.frames.items ≡ gs ++ f ∷ []
    → course_of s vs r ≡ begun_with vs (frame_on s f (frames_on s gs)) r
popped_goes s vs r gs f e = ap (λ on. fed (drop r.used vs) (on (mine_of r.task))) (ap (frames_on s) e ∙ frames_pushed s gs f finish)

-- without frames the task ends
pub none_goes : (s : Setting) (vs : List ℤ) (r : Running) → r.frames.items ≡ [] → course_of s vs r ≡ Ends None
none_goes s vs r e = ap (λ fs. fed (drop r.used vs) (frames_on s fs (mine_of r.task))) e ∙ fed_ends (drop r.used vs) None
