-- The slots that instructions name.
use Rattle.std.proofs.Common.{◌≡◌, ℕ, zero, suc, ◌+◌, ◌≤◌, max, List, [], ◌∷◌, map, length, Bool, true, ◌&&◌, Some, refl, ap₂}
use Rattle.std.proofs.Common.{subst, arith}
use Rattle.std.specs.Prelude.{slice_get, nat_lt}
use Rattle.std.proofs.Math.Nat.{le-max_left, le-max_right}
use Rattle.std.proofs.lemmas.Bool.{lt-ltb}
use Rattle.std.proofs.lemmas.Option.{none-some, same_Some}
use Rattle.jade_syntax.specs.Abstract.{AbstractProgram}
use Rattle.code_meaning.specs.declared.code.Operand.{Operand}
use Rattle.code_meaning.specs.declared.code.Operand.TheVariants as operand
use Rattle.code_meaning.specs.declared.code.Instruction.{Instruction}
use Rattle.code_meaning.specs.declared.code.Instruction.TheVariants as i
use Rattle.code_meaning.specs.Meaning.{Body}
use Rattle.task_translation.specs.Compile.{inputs_in, unsized}
use Rattle.task_translation.specs.Room.{Calls, calls_of, reach, needs, room, with_slots}
use Rattle.task_code.specs.Rules.{is_there, slots_are_there}
use Rattle.code_keeps.specs.Keeps.{KeepsSlots}

-- what stands in a list of results is the result of something
pub from_map : {A B : Type 0} (f : A → B) (xs : List A) (k : ℕ) (y : B) → slice_get (map f xs) k ≡ Some y → (x : A) × (slice_get xs k ≡ Some x) × (f x ≡ y)
from_map f [] k y h = absurd (none-some y h)
from_map f (x ∷ xs) zero y h = (x, refl, same_Some (f x) y h)
from_map f (x ∷ xs) (suc k) y h = from_map f xs k y h

pub room_covers : (calls : Calls) (least : ℕ) (code : List Instruction) (place : ℕ) (x : Instruction) → slice_get code place ≡ Some x
    → needs calls x ≤ room calls least code
room_covers calls least [] place x h = absurd (none-some x h)
room_covers calls least (y ∷ code) zero x h =
    subst (λ z. needs calls z ≤ max (needs calls y) (room calls least code)) (same_Some y x h) (le-max_left (needs calls y) (room calls least code))
room_covers calls least (y ∷ code) (suc place) x h =
    let rest = room_covers calls least code place x h in
    let most = le-max_right (needs calls y) (room calls least code) in
    omega (arith, rest, most)

pub room_least : (calls : Calls) (least : ℕ) (code : List Instruction) → least ≤ room calls least code
room_least calls least [] = omega arith
room_least calls least (y ∷ code) =
    let rest = room_least calls least code in
    let most = le-max_right (needs calls y) (room calls least code) in
    omega (arith, rest, most)

first : (a b n : ℕ) → max a b ≤ n → a ≤ n
first a b n h = let l = le-max_left a b in omega (arith, l, h)

second : (a b n : ℕ) → max a b ≤ n → b ≤ n
second a b n h = let l = le-max_right a b in omega (arith, l, h)

pub and_true : (a b : Bool) → a ≡ true → b ≡ true → (a && b) ≡ true
and_true a b h g = ap₂ (λ x y. x && y) h g

pub there : (n : ℕ) (o : Operand) → reach o ≤ n → is_there n o ≡ true
there n (operand.Slot k) h = lt-ltb k n h
there n (operand.Whole z) h = refl
there n (operand.Truth b) h = refl

-- a target and an operand
one : (n t : ℕ) (o : Operand) → max (suc t) (reach o) ≤ n → (nat_lt t n && is_there n o) ≡ true
one n t o h = and_true (nat_lt t n) (is_there n o) (lt-ltb t n (first (suc t) (reach o) n h)) (there n o (second (suc t) (reach o) n h))

-- a target and two operands
two : (n t : ℕ) (o p : Operand) → max (suc t) (max (reach o) (reach p)) ≤ n → ((nat_lt t n && is_there n o) && is_there n p) ≡ true
two n t o p h =
    let more = second (suc t) (max (reach o) (reach p)) n h in
    and_true (nat_lt t n && is_there n o) (is_there n p)
    (and_true (nat_lt t n) (is_there n o) (lt-ltb t n (first (suc t) (max (reach o) (reach p)) n h)) (there n o (first (reach o) (reach p) n more)))
    (there n p (second (reach o) (reach p) n more))

slots_kept : (calls : Calls) (n : ℕ) (x : Instruction) → needs calls x ≤ n → slots_are_there n x ≡ true
slots_kept calls n i.Step h = refl
slots_kept calls n (i.Set t o) h = one n t o h
slots_kept calls n (i.Sign s t k at) h = one n t k h
slots_kept calls n (i.Operate o t j k at) h = two n t j k h
slots_kept calls n (i.Decide l k m) h = lt-ltb k n h
slots_kept calls n (i.Jump m) h = refl
slots_kept calls n (i.JumpFalse k m) h = there n k h
slots_kept calls n (i.Turn base m) h = lt-ltb (base + 2) n (omega (arith, h))
slots_kept calls n (i.Next base m) h = lt-ltb (base + 2) n (omega (arith, h))
slots_kept calls n (i.Member f c t k at) h = one n t k h
slots_kept calls n (i.Within s k at) h = there n k h
slots_kept calls n (i.Reach f c s t k o at) h = two n t k o h
slots_kept calls n (i.ReadOf o s t c at) h = one n t c h
slots_kept calls n (i.ReadIn f c s t k o at) h = two n t k o h
slots_kept calls n (i.Read s t o c at) h =
    let more = second (suc t) (max (suc o) (reach c)) n h in
    and_true (nat_lt t n && nat_lt o n) (is_there n c)
    (and_true (nat_lt t n) (nat_lt o n) (lt-ltb t n (first (suc t) (max (suc o) (reach c)) n h)) (lt-ltb o n (first (suc o) (reach c) n more)))
    (there n c (second (suc o) (reach c) n more))
slots_kept calls n (i.WriteOf o c v at) h = and_true (is_there n c) (is_there n v) (there n c (first (reach c) (reach v) n h))
    (there n v (second (reach c) (reach v) n h))
slots_kept calls n (i.Write o c v at) h = two n o c v h
slots_kept calls n (i.Fresh c at) h = refl
slots_kept calls n (i.Draft at) h = refl
slots_kept calls n (i.Declare how o at) h = there n o h
slots_kept calls n (i.Create b at) h = refl
slots_kept calls n i.Commit h = refl
slots_kept calls n i.Finish h = refl

pub keeps_slots : (p : AbstractProgram) → KeepsSlots p
keeps_slots p own place b x at here =
    let calls = calls_of (unsized p) in
    let f = with_slots (inputs_in p.items) calls in
    let from = from_map f (unsized p) own b at in
    let P : Body → Type 0 = λ c. slice_get c.code place ≡ Some x → slots_are_there c.slots x ≡ true in
    subst P from.2 (λ h. slots_kept calls (f from.0).slots x (room_covers calls (inputs_in p.items + length (from.0).call) (from.0).code place x h)) here
