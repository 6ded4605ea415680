-- A machine that begins, and what is left then.
use Rattle.std.proofs.Common.{◌≡◌, ℕ, zero, suc, ◌+◌, ◌-◌, ◌<◌, ◌⊎◌, inl, inr, List, [], ◌∷◌, map, length, Bool, true, false, Option, Some, None}
use Rattle.std.proofs.Common.{refl, sym, ap, ap₂, ◌∙◌, arith}
use Rattle.std.specs.Prelude.{ℤ, pos, is_some, nat_eq, slice_get, if◌then◌else◌}
use Rattle.std.proofs.lemmas.Bool.{cases_eq, eq-eqb, ne_eqb, true≢false}
use Rattle.std.proofs.lemmas.Option.{slice_get-get_or}
use Rattle.jade_base.specs.declared.place.ObjectId.{ObjectId}
use Rattle.jade_base.specs.declared.rights.Rights.{Rights}
use Rattle.jade_base.specs.Rights.{mode_of, no_rights}
use Rattle.jade_base.specs.Specification.{rights_in, Specification as Sparse}
use Rattle.jade_meaning.specs.Specification.{numbers}
use Rattle.jade_meaning.specs.Course.{NoDraft}
use Rattle.jade_meaning.specs.Spread.{spread}
use Rattle.jade_meaning.specs.Talk.{Task}
use Rattle.code_meaning.specs.declared.code.Operand.{Operand}
use Rattle.code_meaning.specs.Meaning.{Body, Slots, Children, from_place, passed, body_going}
use Rattle.code_meaning.specs.Children.{children_of, ChildrenAre, RootIs}
use Rattle.task_code.specs.Rules.{TaskCode}
use Rattle.task_machine.specs.Playing.{contents_of}
use Rattle.task_machine.specs.Stages.{id, slots_of, rights_at, drafted_as}
use Rattle.task_machine.specs.Executions.{Execution, IsBegun, body_at, without_content}
use Rattle.task_machine.specs.Telling.{mode_held}
use Rattle.task_machine.specs.Left.{left_to_start, no_holds, has_mode}
use Rattle.task_machine.specs.Machines.{due_in, all_due, holds_of, holds_at, course_at, child_of, made_at, BeginsItsTalk, BeginsChild, BeginsCode}
use Rattle.task_machine.proofs.Tables.{table_past, table_at}
use Rattle.task_machine.proofs.Left.{begins_due}
use Rattle.task_machine.proofs.Executing.{first_there, no_call}

either_none : {A : Type 0} (b : Bool) (x : Option A) → x ≡ None → (if b then None else x) ≡ None
either_none true x e = refl
either_none false x e = e

none_there : (es : List (ObjectId × Rights)) (o : ℕ) → contents_of (map without_content es) o ≡ None
none_there [] o = refl
none_there (x ∷ es) o = either_none (nat_eq x.0.0 o) (contents_of (map without_content es) o) (none_there es o)

-- each object with rights has a row, which is marked
marked : (es : List (ObjectId × Rights)) (o : ℕ) → is_some (mode_of (rights_in es (id o))) ≡ true
    → due_in (map without_content es) (all_due (map without_content es)) o ≡ true
marked [] o h = absurd (true≢false (sym h))
marked (x ∷ es) o h = at (cases_eq x.0.0 o) (marked es o)
  where
    at : (x.0.0 ≡ o) ⊎ (x.0.0 ≡ o → ⊥)
        → (is_some (mode_of (rights_in es (id o))) ≡ true → due_in (map without_content es) (all_due (map without_content es)) o ≡ true)
        → (if nat_eq x.0.0 o then true else due_in (map without_content es) (all_due (map without_content es)) o) ≡ true
    at (inl e) more = rw (eq-eqb x.0.0 o e) refl
    at (inr ne) more =
        let h' : is_some (mode_of (rights_in es (id o))) ≡ true = rw (ne_eqb x.0.0 o ne) at h in
        rw (ne_eqb x.0.0 o ne) (more h')

mode_inside : (n : ℕ) (es : List (ObjectId × Rights)) (o : ℕ) → has_mode (spread n es) o ≡ true → is_some (mode_of (rights_in es (id o))) ≡ true
mode_inside n es o h = at (lt_or_le o n)
  where
    lt_or_le : (i k : ℕ) → (i < k) ⊎ (k < suc i)
    lt_or_le i zero = inr (omega arith)
    lt_or_le zero (suc k) = inl (omega arith)
    lt_or_le (suc i) (suc k) = next (lt_or_le i k)
      where
        next : (i < k) ⊎ (k < suc i) → (suc i < suc k) ⊎ (suc k < suc (suc i))
        next (inl lt) = inl (omega (arith, lt))
        next (inr le) = inr (omega (arith, le))

    at : (o < n) ⊎ (n < suc o) → is_some (mode_of (rights_in es (id o))) ≡ true
    at (inl lt) =
        let z : 0 + o ≡ o = omega arith in
        sym (ap (λ a. is_some (mode_of a)) (table_at (λ i. rights_in es (id i)) 0 n o no_rights lt ∙ ap (λ i. rights_in es (id i)) z)) ∙ h
    at (inr le) =
        absurd (true≢false (sym h ∙ ap (λ a. is_some (mode_of a)) (table_past (λ i. rights_in es (id i)) 0 n o no_rights (omega (arith, le)))))

nothing_held : (es : List (ObjectId × Rights)) (i n : ℕ) → map (λ o. mode_held (contents_of (map without_content es) o)) (numbers i n)
    ≡ no_holds (map (λ o. rights_in es (id o)) (numbers i n))
nothing_held es i zero = refl
nothing_held es i (suc n) = ap₂ (λ x l. x ∷ l) (ap mode_held (none_there es i)) (nothing_held es (suc i) n)

pub begins_its_talk : (c : TaskCode) (zs : List ℤ) (limit body : ℕ) (ss : Slots) (es : List (ObjectId × Rights)) (e : Execution)
    → IsBegun c zs limit body ss es e → BeginsItsTalk e
begins_its_talk c zs limit body ss es e b vs =
    let entries : e.stage.spec.entries ≡ es = ap (λ (s : Sparse). s.entries) b.spec in
    let n = e.stage.objects in
    let task : Task = record { spec = rights_at e.stage; course = course_at e } in
    let all : (o : ℕ) → has_mode (rights_at e.stage) o ≡ true → due_in e.rows (all_due e.rows) o ≡ true =
    λ o h. ap (λ rs. due_in rs (all_due rs) o) b.rows
    ∙ marked es o (mode_inside n es o (sym (ap (λ l. has_mode (spread n l) o) entries) ∙ h)) in
    let none : holds_at e ≡ no_holds (rights_at e.stage) =
    ap (λ rs. holds_of n (contents_of rs)) b.rows ∙ nothing_held es 0 n ∙ ap (λ l. no_holds (spread n l)) (sym entries) in
    let steps : e.stage.left - e.stage.left ≡ 0 = omega arith in
    ap₂ (λ h k. left_to_start (due_in e.rows (all_due e.rows)) (course_at e) (rights_at e.stage) h k vs) none steps
    ∙ sym (begins_due (due_in e.rows (all_due e.rows)) task all vs)

module _ (e : Execution) (call : List Operand) (ss : Slots) (es : List (ObjectId × Rights)) (number limit : ℕ) (zs : List ℤ) (c : TaskCode)
    (b : IsBegun c zs limit number (passed zs call ss) es e) (calls : (body_at c number).call ≡ call) where
  -- what is done from the begin of a body
  begins_body : course_at e ≡ body_going (children_of zs limit c.bodies number) zs limit (body_at c number) ss (rights_at e.stage)
  begins_body =
      let kids : Execution → Children = λ x. children_of x.numbers x.limit x.program.bodies x.body in
      let kids_are : kids e ≡ children_of zs limit c.bodies number =
      ap₂ (λ (p : TaskCode) ns. children_of ns e.limit p.bodies e.body) b.of.0 b.of.1
      ∙ ap₂ (λ l k. children_of zs l c.bodies k) b.of.2 b.of.3 in
      ap₂ (λ k code. from_place k code e.stage.left e.stage.place (slots_of e.stage.slots) (rights_at e.stage)
      (drafted_as e.stage.section e.stage.objects e.stage.child e.stage.spec)) kids_are b.code
      ∙ ap₂ (λ l p. from_place (children_of zs limit c.bodies number) (body_at c number).code l p (slots_of e.stage.slots) (rights_at e.stage)
      (drafted_as e.stage.section e.stage.objects e.stage.child e.stage.spec)) b.at.1 b.at.0
      ∙ ap₂ (λ s d. from_place (children_of zs limit c.bodies number) (body_at c number).code limit 0 s (rights_at e.stage)
      (drafted_as d e.stage.objects e.stage.child e.stage.spec)) b.slots b.section
      ∙ ap (λ l. from_place (children_of zs limit c.bodies number) (body_at c number).code limit 0 (passed zs l ss) (rights_at e.stage) NoDraft) (sym calls)

there_is : (c : TaskCode) (number : ℕ) → number < length c.bodies → slice_get c.bodies number ≡ Some (body_at c number)
there_is c number lt = slice_get-get_or c.bodies number (record { call = []; slots = 0; code = [] }) lt

pub begins_child : (children : (zs : List ℤ) (limit : ℕ) (bodies : List Body) → ChildrenAre zs limit bodies) (m : Execution) (number : ℕ) (e : Execution)
    → BeginsChild m number e
begins_child children m number e objects later there b = record {
  rights = rights;
  course =
      begins_body e (body_at m.program number).call (slots_of m.stage.slots) m.stage.child.entries number m.limit m.numbers m.program b refl
      ∙ ap (λ f. f (slots_of m.stage.slots) (rights_at e.stage))
      (sym (children m.numbers m.limit m.program.bodies m.body number (body_at m.program number) later (there_is m.program number there)))
      ∙ ap (child_of m number (slots_of m.stage.slots)) rights;
}
  where
    rights : rights_at e.stage ≡ made_at m
    rights = ap₂ spread (b.objects ∙ sym objects) (ap (λ (s : Sparse). s.entries) b.spec)

pub begins_code : (root : (zs : List ℤ) (limit : ℕ) (bodies : List Body) → RootIs zs limit bodies) (c : TaskCode) (zs : List ℤ) (limit : ℕ)
    (es : List (ObjectId × Rights)) (e : Execution) → BeginsCode c zs limit es e
begins_code root c zs limit es e valid b =
    begins_body e [] (λ k. pos 0) es 0 limit zs c b (no_call c valid)
    ∙ sym (root zs limit c.bodies (body_at c 0) (rights_at e.stage) (there_is c 0 (first_there c valid)))
