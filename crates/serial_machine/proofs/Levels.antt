-- A run by its levels.
use Rattle.std.proofs.Common.{◌≡◌, ℕ, suc, ◌+◌, ◌<◌, ◌≤◌, List, [], ◌∷◌, ◌++◌, map, length, Some, None, refl, sym, ap, ◌∙◌, subst, arith}
use Rattle.std.specs.Prelude.{ℤ, slice_get}
use Rattle.std.proofs.lemmas.List.{map-append}
use Rattle.jade_base.specs.declared.report.Blame.{Blame}
use Rattle.jade_meaning.specs.Specification.{Specification}
use Rattle.jade_meaning.specs.Spread.{spread}
use Rattle.jade_meaning.specs.Course.{Course, Creates, Changes, Ends, NoDraft}
use Rattle.jade_meaning.specs.Laws.{Every}
use Rattle.code_meaning.specs.declared.code.Instruction.TheVariants as i
use Rattle.code_meaning.specs.Meaning.{Children, Slots, passed, from_place}
use Rattle.task_code.specs.Rules.{TaskCode, Valid}
use Rattle.task_machine.proofs.Executing.{creates}
use Rattle.std.proofs.lemmas.Option.{slice_get-get_or, slice_get_within}
use Rattle.task_machine.specs.declared.section.Own.{Own}
use Rattle.task_machine.specs.declared.frame.Frame.{Frame}
use Rattle.task_machine.specs.Playing.{Contents}
use Rattle.task_machine.specs.Stages.{slots_of, copy_spread}
use Rattle.task_machine.specs.Executions.{body_at}
use Rattle.task_machine.specs.steps.Owning.{rights_of, draft_of}
use Rattle.serial_machine.specs.declared.going.Stop.{Stop}
use Rattle.serial_machine.specs.declared.going.Stop.TheVariants as stop
use Rattle.serial_machine.specs.declared.level.Level.{Level}
use Rattle.serial_machine.specs.declared.stack.Stack.{Stack}
use Rattle.serial_machine.specs.declared.stack.Progress.{Progress}
use Rattle.serial_machine.specs.declared.stack.Progress.TheVariants as progress
use Rattle.serial_machine.specs.steps.Settles.{Fault, Whole, settles}
use Rattle.code_meaning.specs.Children.{children_of}
use Rattle.serial_machine.specs.steps.Stack.{Counted, once_more, Next, Waiting, after_child, following, at_end, comes_to}
use Rattle.serial_machine.specs.steps.Pausing.{AllHeld, Stops, StopTells}
use Rattle.serial_machine.specs.steps.Levels.{code_in, course_with, waits, total, Ready, Fits, Passes, Pops, Pushes, ComesTo}
use Rattle.serial_machine.proofs.Budgets.{ok_alike, from_alike}
use Rattle.serial_machine.proofs.Stacking.{newest_waits, fault_is}
use Rattle.code_meaning.proofs.Numbered.{children_are}

every_end : {A : Type 0} (P : A → Type 0) (xs : List A) (x : A) → Every P (xs ++ x ∷ []) → Every P xs × P x
every_end P [] x h = (tt, h.0)
every_end P (y ∷ xs) x h = let more = every_end P xs x h.1 in ((h.0, more.0), more.1)

every_more : {A : Type 0} (P : A → Type 0) (xs : List A) (x : A) → Every P xs → P x → Every P (xs ++ x ∷ [])
every_more P [] x h q = (q, tt)
every_more P (y ∷ xs) x h q = (h.0, every_more P xs x h.1 q)

module _ (c : TaskCode) (zs : List ℤ) where
  -- what follows the newest of the tasks that wait
  behind : (limit : ℕ) (vs : List Level) (v : Level) → following (map (waits c zs limit) (vs ++ v ∷ [])) at_end
      ≡ after_child (waits c zs limit v) (following (map (waits c zs limit) vs) at_end)
  behind limit vs v =
      ap (λ ws. following ws at_end) (map-append (waits c zs limit) vs (v ∷ []))
      ∙ newest_waits (map (waits c zs limit) vs) (waits c zs limit v) at_end

  -- ---- a child begins

  module _ (limit : ℕ) (s : Stack) (k : Contents) (number : ℕ) (new : Stack) (p : Pushes c zs s number new) (le : s.level.frame.left ≤ limit) where
    abbrev old : Level
    old = s.level

    abbrev left : ℕ
    left = s.level.frame.left

    abbrev child : Children
    child = children_of zs limit c.bodies old.body

    abbrev made : Specification
    made = spread old.own.objects old.own.child.entries

    abbrev behind_old : Next
    behind_old = following (map (waits c zs limit) s.waiting.items) at_end

    -- what the creator goes on to do, with so many steps
    abbrev on : ℕ → Course
    on n = from_place child (code_in c old) n (old.frame.place + 1) (slots_of old.frame.slots.items) (rights_of old.own) NoDraft

    on_is : (n : ℕ) → on n ≡ course_with c zs limit p.parent n
    on_is n =
        let q = p.passes in
        let after : Level → Specification → Course = λ v spec. from_place (children_of zs limit c.bodies v.body) (code_in c v) n (old.frame.place + 1)
        (slots_of old.frame.slots.items) spec NoDraft in
        ap (λ b. from_place (children_of zs limit c.bodies b) (body_at c b).code n (old.frame.place + 1) (slots_of old.frame.slots.items) (rights_of old.own)
        NoDraft) (sym q.body_is)
        ∙ ap (λ (f : Frame). from_place (children_of zs limit c.bodies p.parent.body) (code_in c p.parent) n f.place (slots_of f.slots.items)
        (rights_of old.own) NoDraft) (sym q.frame_is)
        ∙ ap (λ sp. from_place (children_of zs limit c.bodies p.parent.body) (code_in c p.parent) n p.parent.frame.place
        (slots_of p.parent.frame.slots.items) sp NoDraft) (sym q.owns.rights_are)
        ∙ ap (λ d. from_place (children_of zs limit c.bodies p.parent.body) (code_in c p.parent) n p.parent.frame.place
        (slots_of p.parent.frame.slots.items) (rights_of p.parent.own) d) (sym q.owns.draft_is)

    -- what the child does
    abbrev body : ℕ → Course
    body n =
        from_place (children_of zs limit c.bodies number) (body_at c number).code n 0 (passed zs (body_at c number).call (slots_of old.frame.slots.items)) made
        NoDraft

    body_is : body left ≡ course_with c zs limit new.level new.level.frame.left
    body_is =
        let q = p.child in
        ap (λ n. from_place (children_of zs limit c.bodies n) (body_at c n).code left 0 (passed zs (body_at c number).call (slots_of old.frame.slots.items))
        made NoDraft) (sym q.body_is)
        ∙ ap (λ ss. from_place (children_of zs limit c.bodies new.level.body) (code_in c new.level) left 0 ss made NoDraft) (sym q.slots_are)
        ∙ ap (λ sp. from_place (children_of zs limit c.bodies new.level.body) (code_in c new.level) left 0 (slots_of new.level.frame.slots.items) sp NoDraft)
        (sym q.owns.rights_are)
        ∙ ap (λ d. from_place (children_of zs limit c.bodies new.level.body) (code_in c new.level) left 0 (slots_of new.level.frame.slots.items)
        (rights_of new.level.own) d) (sym q.owns.draft_is)
        ∙ ap (λ pc. from_place (children_of zs limit c.bodies new.level.body) (code_in c new.level) left pc (slots_of new.level.frame.slots.items)
        (rights_of new.level.own) (draft_of new.level.own)) (sym q.place_is)
        ∙ ap (λ n. course_with c zs limit new.level n) (sym q.left_is)

    -- what follows the child
    next_is : (less : ℕ) (t : Contents) → less ≤ left → comes_to (on left) (suc old.children) less t behind_old
        ≡ comes_to (course_with c zs limit p.parent less) (suc p.parent.children) less t behind_old
    next_is less t h =
        sym ((from_alike once_more child (code_in c old) less left h (old.frame.place + 1) (slots_of old.frame.slots.items) (rights_of old.own) NoDraft).same
        (suc old.children) less t behind_old.bad behind_old.ok (omega arith))
        ∙ ap (λ d. comes_to d (suc old.children) less t behind_old) (on_is less)
        ∙ ap (λ n. comes_to (course_with c zs limit p.parent less) (suc n) less t behind_old) (sym p.passes.children_are)

    pub pushed : slice_get c.bodies number ≡ Some (body_at c number) → old.body < number
        → course_with c zs limit old left ≡ Creates made (child number (slots_of old.frame.slots.items) made) (on left)
        → total c zs limit s k ≡ once_more (total c zs limit new k)
    pushed there lt going_is =
        let ss = slots_of old.frame.slots.items in
        let x = behind_old in
        let bad : List ℕ → Blame → Counted = λ q b. x.bad (old.children ∷ q) b in
        let ok : ℕ → Contents → Counted = λ less t. comes_to (on left) (suc old.children) less t x in
        let after = after_child (waits c zs limit p.parent) x in
        let e : child number ss made ≡
        body limit = ap (λ (f : Slots → Specification → Course). f ss made) (children_are zs limit c.bodies old.body number (body_at c number) lt there) in
        let z = p.child.left_is in
        ap (λ d. comes_to d old.children left k x) going_is
        ∙ ap once_more (
        ap (λ d. settles once_more d 0 left k bad ok) e
        ∙ sym ((from_alike once_more (children_of zs limit c.bodies number) (body_at c number).code left limit le 0 (passed zs (body_at c number).call ss) made
        NoDraft).same 0 left k bad ok (omega arith))
        ∙ ok_alike once_more (body left) 0 left k bad ok after.ok (λ less t h. next_is less t h)
        ∙ ap (λ n. settles once_more (body left) 0 left k (λ q b. x.bad (n ∷ q) b) after.ok) (sym p.passes.children_are)
        ∙ ap (λ d. comes_to d 0 left k after) body_is
        ∙ ap (λ n. comes_to (course_with c zs limit new.level new.level.frame.left) n left k after) (sym p.child.children_are)
        ∙ ap (λ n. comes_to (course_with c zs limit new.level new.level.frame.left) new.level.children n k after) (sym z)
        ∙ ap (comes_to (course_with c zs limit new.level new.level.frame.left) new.level.children new.level.frame.left k)
        (sym (behind limit s.waiting.items p.parent) ∙ ap (λ vs. following (map (waits c zs limit) vs) at_end) (sym p.waiting)))

  -- ---- a task ends

  pub popped : (limit : ℕ) (s : Stack) (k : Contents) (new : Stack) → Pops progress.On s new
      → course_with c zs limit s.level s.level.frame.left ≡ Ends None → total c zs limit s k ≡ once_more (total c zs limit new k)
  popped limit s k new h going_is =
      let v = h.0 in
      let left = s.level.frame.left in
      let x = following (map (waits c zs limit) new.waiting.items) at_end in
      let z : v.children + 1 ≡ suc v.children = omega arith in
      ap (λ d. comes_to d s.level.children left k (following (map (waits c zs limit) s.waiting.items) at_end)) going_is
      ∙ ap (λ (n : Next). once_more (n.ok left k)) (ap (λ vs. following (map (waits c zs limit) vs) at_end) h.1 ∙ behind limit new.waiting.items v)
      ∙ ap (λ n. once_more (comes_to (course_with c zs limit v left) n left k x)) (sym z)
      ∙ ap (λ (w : Level). once_more (comes_to (course_with c zs limit w w.frame.left) w.children w.frame.left k x)) (sym h.2)

  pub whole : (limit : ℕ) (s : Stack) (k : Contents) → s.waiting.items ≡ []
      → course_with c zs limit s.level s.level.frame.left ≡ Ends None → (total c zs limit s k).comes ≡ Whole k
  whole limit s k e going_is =
      ap (λ d. (comes_to d s.level.children s.level.frame.left k (following (map (waits c zs limit) s.waiting.items) at_end)).comes) going_is
      ∙ ap (λ vs. ((following (map (waits c zs limit) vs) at_end).ok s.level.frame.left k).comes) e

  children_listed : (limit : ℕ) (vs : List Level) → map (λ (w : Waiting). w.children) (map (waits c zs limit) vs) ≡ map (λ (v : Level). v.children) vs
  children_listed limit [] = refl
  children_listed limit (v ∷ vs) = ap (λ l. v.children ∷ l) (children_listed limit vs)

  append_none : (ns : List ℕ) → ns ++ [] ≡ ns
  append_none [] = refl
  append_none (n ∷ ns) = ap (λ l. n ∷ l) (append_none ns)

  pub faulted : (limit : ℕ) (s : Stack) (k : Contents) (b : Blame) → course_with c zs limit s.level s.level.frame.left ≡ Ends (Some b)
      → (total c zs limit s k).comes ≡ Fault (0 ∷ map (λ (v : Level). v.children) s.waiting.items) b
  faulted limit s k b going_is =
      let vs = map (waits c zs limit) s.waiting.items in
      ap (λ d. (comes_to d s.level.children s.level.frame.left k (following vs at_end)).comes) going_is
      ∙ ap (λ (r : Counted). r.comes) (fault_is vs at_end [] b)
      ∙ ap (λ ns. Fault (0 ∷ ns) b) (append_none (map (λ (w : Waiting). w.children) vs) ∙ children_listed limit s.waiting.items)

  -- ---- rights change

  pub changed : (limit : ℕ) (s : Stack) (k : Contents) (new : Level) → Passes s.level new (copy_spread s.level.own.objects s.level.own.spec)
      → course_with c zs limit s.level s.level.frame.left
      ≡ Changes (copy_spread s.level.own.objects s.level.own.spec)
      (from_place (children_of zs limit c.bodies s.level.body) (code_in c s.level) s.level.frame.left (s.level.frame.place + 1)
      (slots_of s.level.frame.slots.items) (copy_spread s.level.own.objects s.level.own.spec) NoDraft)
      → total c zs limit s k ≡ once_more (total c zs limit (record s { level = new }) k)
  changed limit s k new q going_is =
      let x = following (map (waits c zs limit) s.waiting.items) at_end in
      let rights = copy_spread s.level.own.objects s.level.own.spec in
      let old = s.level in
      ap (λ d. comes_to d old.children old.frame.left k x) going_is
      ∙ ap (λ b. once_more (comes_to (from_place (children_of zs limit c.bodies b) (body_at c b).code old.frame.left (old.frame.place + 1)
      (slots_of old.frame.slots.items) rights NoDraft) old.children old.frame.left k x)) (sym q.body_is)
      ∙ ap (λ (f : Frame). once_more (comes_to (from_place (children_of zs limit c.bodies new.body) (code_in c new) f.left f.place
      (slots_of f.slots.items) rights NoDraft) old.children f.left k x)) (sym q.frame_is)
      ∙ ap (λ sp. once_more (comes_to (from_place (children_of zs limit c.bodies new.body) (code_in c new) new.frame.left new.frame.place
      (slots_of new.frame.slots.items) sp NoDraft) old.children new.frame.left k x)) (sym q.owns.rights_are)
      ∙ ap (λ d. once_more (comes_to (from_place (children_of zs limit c.bodies new.body) (code_in c new) new.frame.left new.frame.place
      (slots_of new.frame.slots.items) (rights_of new.own) d) old.children new.frame.left k x)) (sym q.owns.draft_is)
      ∙ ap (λ n. once_more (comes_to (course_with c zs limit new new.frame.left) n new.frame.left k x)) (sym q.children_are)

-- ---- from one stop to the next

module _ (c : TaskCode) (zs : List ℤ) (s : Stack) (k : Contents) (fits : Fits c zs s k) (u : Own) (g : Frame) (l : Contents) where
  -- the run at the stop
  abbrev mid : Stack
  mid = record { waiting = s.waiting; level = record { body = s.level.body; own = u; frame = g; children = s.level.children } }

  module _ (st : Stop) (stops : Stops (code_in c s.level) s.level.own s.level.frame k st u g l) where
    mid_same : (limit : ℕ) → total c zs limit s k ≡ total c zs limit mid l
    mid_same limit =
        stops.on.same (children_of zs limit c.bodies s.level.body) s.level.children (following (map (waits c zs limit) s.waiting.items) at_end)

    pub mid_ready : Ready c zs mid.level
    mid_ready = record
        { there = fits.runs.there; slots = stops.on.slots ∙ fits.runs.slots; numbers = fits.runs.numbers; objects = stops.on.objects ∙ fits.runs.objects }

    mid_held : AllHeld (length c.sizes) l
    mid_held = record { held = λ o lt. stops.on.modes o ∙ fits.held.held o lt }

    tells : (limit : ℕ) → StopTells st (children_of zs limit c.bodies s.level.body) (code_in c s.level) u g
    tells limit = stops.tells (children_of zs limit c.bodies s.level.body)

    pub to_end : st ≡ stop.End → (p : Progress) (new : Stack) → Pops p mid new → ComesTo p c zs s k new l
    to_end e progress.On new h =
        let v = h.0 in
        let all = every_end (Ready c zs) new.waiting.items v (subst (Every (Ready c zs)) h.1 fits.wait) in
        let ready = all.1 in
        let less = stops.on.fewer in
        let left : new.level.frame.left ≡ g.left = ap (λ (w : Level). w.frame.left) h.2 in
        record {
          same = λ limit le.
              mid_same limit ∙ popped c zs limit mid l new h
              (subst (λ p. StopTells p (children_of zs limit c.bodies s.level.body) (code_in c s.level) u g) e (tells limit));
          fewer = omega (arith, less, left);
          fits = record {
            runs = subst (Ready c zs) (sym h.2) (record { there = ready.there; slots = ready.slots; numbers = ready.numbers; objects = ready.objects });
            wait = all.0;
            held = mid_held;
          };
        }
    to_end e progress.Whole new h = λ limit le.
        ap (λ (r : Counted). r.comes) (mid_same limit)
        ∙ whole c zs limit mid l h (subst (λ p. StopTells p (children_of zs limit c.bodies s.level.body) (code_in c s.level) u g) e (tells limit))
    to_end e (progress.Fault b) new h = absurd h

    pub to_fault : (b : Blame) → st ≡ stop.Fault b → ComesTo (progress.Fault b) c zs s k mid l
    to_fault b e = λ limit le.
        ap (λ (r : Counted). r.comes) (mid_same limit)
        ∙ faulted c zs limit mid l b (subst (λ p. StopTells p (children_of zs limit c.bodies s.level.body) (code_in c s.level) u g) e (tells limit))

    -- the body that is created is there, and a later one
    pub created_there : (n : ℕ) → Valid c → st ≡ stop.Create n → (s.level.body < n) × (n < length c.bodies)
    created_there n valid e =
        let t = subst (λ p. StopTells p (children_of zs 0 c.bodies s.level.body) (code_in c s.level) u g) e (tells 0) in
        creates c s.level.body valid fits.runs.there g.place n t.0.0 t.0.1

    pub to_create : (n : ℕ) → Valid c → st ≡ stop.Create n → (new : Stack) → Pushes c zs mid n new → ComesTo progress.On c zs s k new l
    to_create n valid e new p =
        let lts = created_there n valid e in
        let here : slice_get c.bodies n ≡ Some (body_at c n) = slice_get-get_or c.bodies n (record { call = []; slots = 0; code = [] }) lts.1 in
        let less = stops.on.fewer in
        let left = p.child.left_is in
        let ready = mid_ready in
        let q = p.passes in
        let parent : Ready c zs p.parent = record {
          there = subst (λ b. b < length c.bodies) (sym q.body_is) ready.there;
          slots = ap (λ (f : Frame). length f.slots.items) q.frame_is ∙ ready.slots ∙ ap (λ b. (body_at c b).slots) (sym q.body_is);
          numbers = ready.numbers;
          objects = q.owns.objects_are ∙ ready.objects;
        } in
        record {
          same = λ limit le.
              let t = subst (λ p. StopTells p (children_of zs limit c.bodies s.level.body) (code_in c s.level) u g) e (tells limit) in
              mid_same limit ∙ pushed c zs limit mid l n new p (omega (arith, less, le)) here lts.0 t.1;
          fewer = omega (arith, less, left);
          fits = record {
            runs = p.child.ready;
            wait = subst (Every (Ready c zs)) (sym p.waiting) (every_more (Ready c zs) s.waiting.items p.parent fits.wait parent);
            held = mid_held;
          };
        }

    pub change_there : st ≡ stop.Change → g.place < length (code_in c s.level)
    change_there e = (subst (λ p. StopTells p (children_of zs 0 c.bodies s.level.body) (code_in c s.level) u g) e (tells 0)).0

    pub create_there : (n : ℕ) → st ≡ stop.Create n → g.place < length (code_in c s.level)
    create_there n e =
        let t = subst (λ p. StopTells p (children_of zs 0 c.bodies s.level.body) (code_in c s.level) u g) e (tells 0) in
        slice_get_within (code_in c s.level) g.place (i.Create n t.0.0) t.0.1

    pub to_change : st ≡ stop.Change → (v : Level) → Passes mid.level v (copy_spread u.objects u.spec)
        → ComesTo progress.On c zs s k (record { waiting = s.waiting; level = v }) l
    to_change e v q =
        let less = stops.on.fewer in
        let left : v.frame.left ≡ g.left = ap (λ (f : Frame). f.left) q.frame_is in
        let ready = mid_ready in
        record {
          same = λ limit le.
              let t = subst (λ p. StopTells p (children_of zs limit c.bodies s.level.body) (code_in c s.level) u g) e (tells limit) in
              mid_same limit ∙ changed c zs limit mid l v q t.1;
          fewer = omega (arith, less, left);
          fits = record {
            runs = record {
              there = subst (λ b. b < length c.bodies) (sym q.body_is) ready.there;
              slots = ap (λ (f : Frame). length f.slots.items) q.frame_is ∙ ready.slots ∙ ap (λ b. (body_at c b).slots) (sym q.body_is);
              numbers = ready.numbers;
              objects = q.owns.objects_are ∙ ready.objects;
            };
            wait = fits.wait;
            held = mid_held;
          };
        }
