-- The code of a checked program keeps all rules.
use Rattle.std.proofs.Common.{◌≡◌, ℕ, zero, suc, ◌+◌, ◌<◌, ◌≤◌, List, [], ◌∷◌, length, map, true, Option, Some, None}
use Rattle.std.proofs.Common.{refl, ap, subst, arith}
use Rattle.std.specs.Prelude.{slice_get, slice_index_or, nat_lt}
use Rattle.std.specs.List.{list_all}
use Rattle.std.proofs.Math.Nat.{le-max_left, le-max_right}
use Rattle.std.proofs.lemmas.Bool.{lt-ltb, and_from, and_parts, or_left, or_right}
use Rattle.jade_syntax.specs.declared.tree.Program.{Program}
use Rattle.jade_syntax.specs.declared.stands.Stand.{Stand}
use Rattle.jade_syntax.specs.Abstract.{AbstractProgram}
use Rattle.jade_syntax.specs.CheckedProgram.{IsChecked}
use Rattle.jade_syntax.specs.Erased.{erased_program}
use Rattle.jade_syntax.specs.Image.{program}
use Rattle.jade_syntax.specs.Limits.{is_within, few_inputs, few_cells}
use Rattle.jade_syntax.specs.Objects.{sizes}
use Rattle.jade_syntax.specs.Placed.{PlacedProgram}
use Rattle.jade_syntax.specs.PlacedImage.{placed_program}
use Rattle.jade_syntax.specs.StaticFaults.{item_names, item_sites, block_sites, program_sites}
use Rattle.jade_syntax.proofs.Faultless.{keeps_limits}
use Rattle.code_meaning.specs.declared.code.Operand.{Operand}
use Rattle.code_meaning.specs.declared.code.Instruction.{Instruction}
use Rattle.code_meaning.specs.declared.code.Instruction.TheVariants as i
use Rattle.code_meaning.specs.Meaning.{Body}
use Rattle.task_translation.specs.Compile.{inputs_in, given_scope, bodies_in_all, bodies_for_all, unsized, compiled}
use Rattle.task_translation.specs.Room.{Calls, calls_of, reach, reaches, needs, with_slots}
use Rattle.task_translation.proofs.Statements.{bodies_many_all}
use Rattle.task_code.specs.Rules.{are_there, objects_are_there, is_given, body_is_there, keeps_if}
use Rattle.task_code.specs.Rules.{fine_in}
use Rattle.code_keeps.specs.Keeps.{whole_code, KeepsRules}
use Rattle.code_keeps.proofs.Rooms.{from_map, room_covers, there, keeps_slots}
use Rattle.code_keeps.proofs.Staying.{keeps_places, keeps_beginnings}
use Rattle.code_keeps.proofs.Declared.{knows_items}
use Rattle.code_keeps.proofs.Faultless.{Faultless, split}
use Rattle.code_keeps.proofs.Fits.{Creates}
use Rattle.code_keeps.proofs.FitStatements.{BodiesFit, first_fits, body_fits, phrases_bodies}

all_there : (slots : ℕ) (os : List Operand) → reaches os ≤ slots → are_there slots os ≡ true
all_there slots [] h = refl
all_there slots (o ∷ os) h =
    let l = le-max_left (reach o) (reaches os) in
    let r = le-max_right (reach o) (reaches os) in
    and_from _ (are_there slots os) (there slots o (omega (arith, l, h))) (all_there slots os (omega (arith, r, h)))

-- what a body is given is in slots of the one that creates it
given_there : (bodies : List Body) (inputs slots b : ℕ) → b < length bodies → reaches (slice_index_or (calls_of bodies) b []) ≤ slots
    → is_given slots (slice_get (map (with_slots inputs (calls_of bodies)) bodies) b) ≡ true
given_there bodies inputs slots b lt h = go bodies (calls_of bodies) b lt h
  where
    go : (rest : List Body) (calls : Calls) (b : ℕ) → b < length rest → reaches (slice_index_or (calls_of rest) b []) ≤ slots
        → is_given slots (slice_get (map (with_slots inputs calls) rest) b) ≡ true
    go [] calls b lt h = absurd (omega (arith, lt))
    go (x ∷ rest) calls zero lt h = all_there slots x.call h
    go (x ∷ rest) calls (suc b) lt h = go rest calls b (omega (arith, lt)) h

module _ (bodies : List Body) (inputs own slots : ℕ) where
  abbrev all : List Body
  all = map (with_slots inputs (calls_of bodies)) bodies

  creates_later : (x : Instruction) → Creates (own + 1) (length bodies) x → needs (calls_of bodies) x ≤ slots → body_is_there all own slots x ≡ true
  creates_later (i.Create b at) c h = and_from (nat_lt own b) _ (lt-ltb own b (omega (arith, c.0))) (given_there bodies inputs slots b c.1 h)
  creates_later i.Step c h = refl
  creates_later (i.Set t o) c h = refl
  creates_later (i.Sign s t k at) c h = refl
  creates_later (i.Operate o t j k at) c h = refl
  creates_later (i.Decide l k m) c h = refl
  creates_later (i.Jump m) c h = refl
  creates_later (i.JumpFalse k m) c h = refl
  creates_later (i.Turn base m) c h = refl
  creates_later (i.Next base m) c h = refl
  creates_later (i.Member f k t j at) c h = refl
  creates_later (i.Within s k at) c h = refl
  creates_later (i.Reach f k s t j o at) c h = refl
  creates_later (i.ReadOf o s t k at) c h = refl
  creates_later (i.ReadIn f k s t j o at) c h = refl
  creates_later (i.Read s t o k at) c h = refl
  creates_later (i.WriteOf o k v at) c h = refl
  creates_later (i.Write o k v at) c h = refl
  creates_later (i.Fresh k at) c h = refl
  creates_later (i.Draft at) c h = refl
  creates_later (i.Declare how o at) c h = refl
  creates_later i.Commit c h = refl
  creates_later i.Finish c h = refl

-- the rules of objects and of bodies are kept
pub record OthersKept (p : AbstractProgram) : Type 0 where
  pub each : (own place : ℕ) (b : Body) (x : Instruction) → slice_get (compiled p) own ≡ Some b → slice_get b.code place ≡ Some x
      → (objects_are_there (sizes p.items) x ≡ true) × (body_is_there (compiled p) own b.slots x ≡ true)

others_kept : (p : AbstractProgram) → BodiesFit (sizes p.items) 0 (length (unsized p)) (unsized p) → OthersKept p
others_kept p fit = record { each = each }
  where
    each : (own place : ℕ) (b : Body) (x : Instruction) → slice_get (compiled p) own ≡ Some b → slice_get b.code place ≡ Some x
        → (objects_are_there (sizes p.items) x ≡ true) × (body_is_there (compiled p) own b.slots x ≡ true)
    each own place b x at here =
        let calls = calls_of (unsized p) in
        let f = with_slots (inputs_in p.items) calls in
        let from = from_map f (unsized p) own b at in
        let P : Body → Type 0 = λ c. slice_get c.code place ≡ Some x
        → (objects_are_there (sizes p.items) x ≡ true) × (body_is_there (compiled p) own c.slots x ≡ true) in
        let e : 0 + own + 1 ≡ own + 1 = omega arith in
        subst P from.2
        (λ h.
        let g = (fit.each own from.0 from.1).each place x h in (
          g.objects,
          creates_later (unsized p) (inputs_in p.items) own (f from.0).slots x (subst (λ n. Creates n (length (unsized p)) x) e g.creates)
              (room_covers calls (inputs_in p.items + length (from.0).call) (from.0).code place x h),
        )) here

-- there is a body
some_body : (p : AbstractProgram) (own : ℕ) → slice_get (compiled p) own ≡ None → 0 < own
some_body p zero h = absurd (cc)
some_body p (suc own) h = omega arith

all_kept : (p : AbstractProgram) → OthersKept p → KeepsRules p
all_kept p others = record { fine_at = λ own place. by_body own place (slice_get (compiled p) own) refl }
  where
    by_place : (own place : ℕ) (b : Body) → slice_get (compiled p) own ≡ Some b → (x : Option Instruction) → slice_get b.code place ≡ x
        → keeps_if (whole_code p) own b place x ≡ true
    by_place own place b at None here = refl
    by_place own place b at (Some x) here =
        let o = others.each own place b x at here in
        and_from _ _ (and_from _ _ (and_from _ _ (keeps_slots p own place b x at here) (keeps_places p own place b x at here)) o.0) o.1

    by_body : (own place : ℕ) (b : Option Body) → slice_get (compiled p) own ≡ b → fine_in (whole_code p) own b place ≡ true
    by_body own place None at = or_left (nat_lt 0 own) (nat_lt 0 place) (lt-ltb 0 own (some_body p own at))
    by_body own place (Some b) at =
        and_from _ _ (or_right (nat_lt 0 place) _ (keeps_beginnings p own b at)) (by_place own place b at (slice_get b.code place) refl)

-- a program with all places, whose items keep their limits
placed_kept : (q : PlacedProgram) → list_all is_within q.items ≡ true → Faultless (program_sites q) → KeepsRules (erased_program q)
placed_kept q limits f =
    let names = item_names q.items in
    let knows = knows_items q.items limits in
    let main = (split (item_sites [] q.items) (block_sites names names q.main) f).1 in
    let p = erased_program q in
    let rest = bodies_for_all q.items (given_scope q.items) (inputs_in q.items + 0) 1 p.main in
    let long : length (unsized p) ≡ suc (bodies_in_all p.main) = ap suc (bodies_many_all q.items p.main (given_scope q.items) (inputs_in q.items + 0) 1) in
    let high : 0 + 1 + bodies_in_all p.main ≤ length (unsized p) = omega (arith, long) in
    all_kept p (others_kept p
    (first_fits 0 _ rest (body_fits q.items names knows [] [] 0 (length (unsized p)) q.main names knows main high)
    (phrases_bodies q.items names knows q.main (length (unsized p)) names knows main (given_scope q.items) (inputs_in q.items + 0) 1 (omega (arith, high)))))

pub keeps_rules : ((p : Program) → erased_program (placed_program p) ≡ program p) → (p : Program) (stands : List Stand) → IsChecked p stands
    → KeepsRules (program p)
keeps_rules erased p stands checked =
    let limits = keeps_limits p checked.faultless in
    let each = (and_parts (list_all is_within p.items) (few_inputs p.items) (and_parts _ (few_cells p.items) limits).0).0 in
    subst KeepsRules (erased p) (placed_kept (placed_program p) each (record { none = checked.faultless }))
