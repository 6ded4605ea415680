-- Bodies get their slots, one after another.
use Rattle.std.proofs.Common.{◌≡◌, ℕ, suc, ◌+◌, ◌<◌, ◌≤◌, List, [], ◌∷◌, ◌++◌, map, max, Some, refl, ap, ap₂, sym, ◌∙◌, take, drop, length, append_assoc}
use Rattle.std.proofs.Common.{append-nil, arith}
use Rattle.std.specs.List.{slice_get}
use Rattle.std.specs.Prelude.{zero, slice_index_or}
use Rattle.std.proofs.lemmas.List.{take_all, drop_all, map-append, take-append-drop}
use Rattle.std.proofs.Math.Seq.{get_or-append_seam}
use Rattle.std.proofs.lemmas.Option.{slice_get-get_or}
use Rattle.jade_syntax.specs.declared.tree.Item.{Item}
use Rattle.jade_syntax.specs.declared.tree.Item.TheVariants.{Input, Single, Family}
use Rattle.jade_syntax.specs.Objects.{input_names}
use Rattle.jade_syntax.proofs.Limits.{drop_item}
use Rattle.code_meaning.specs.declared.code.Operand.{Operand}
use Rattle.code_meaning.specs.declared.code.Instruction.{Instruction}
use Rattle.code_meaning.specs.Meaning.{Body}
use Rattle.task_translation.specs.Compile.{inputs_in}
use Rattle.task_codegen.proofs.Chaining.{map_more}
use Rattle.task_translation.specs.Room.{Calls, calls_of, reach, reaches, needs, room, with_slots, sized}

pub reaches_more : (os : List Operand) (i j : ℕ) (o : Operand) → slice_get os i ≡ Some o → i + 1 ≡ j → max (reach o) (reaches (drop j os)) ≡ reaches (drop i os)
reaches_more os i j o at e = sym (ap reaches (drop_item os i o at ∙ ap (λ k. o ∷ drop k os) e))

pub room_more : (calls : Calls) (least : ℕ) (code : List Instruction) (i j : ℕ) (x : Instruction) → slice_get code i ≡ Some x → i + 1 ≡ j
    → max (needs calls x) (room calls least (drop j code)) ≡ room calls least (drop i code)
room_more calls least code i j x at e = sym (ap (room calls least) (drop_item code i x at ∙ ap (λ k. x ∷ drop k code) e))

-- the bodies before one have their slots
pub record Sizing (inputs : ℕ) (before now : List Body) (at : ℕ) : Type 0 where
  pub same : now ≡ map (with_slots inputs (calls_of before)) (take at before) ++ drop at before
  pub within : at ≤ length before

pub none_sized : (inputs : ℕ) (before : List Body) → Sizing inputs before before 0
none_sized inputs before = record { same = refl; within = omega arith }

take_length : {A : Type 0} (n : ℕ) (xs : List A) → n ≤ length xs → length (take n xs) ≡ n
take_length zero xs le = refl
take_length (suc n) [] le = absurd (omega (arith, le))
take_length (suc n) (x ∷ xs) le = ap suc (take_length n xs (omega (arith, le)))

map_length : {A B : Type 0} (f : A → B) (xs : List A) → length (map f xs) ≡ length xs
map_length f [] = refl
map_length f (x ∷ xs) = ap suc (map_length f xs)

calls_kept : (inputs : ℕ) (calls : Calls) (bs : List Body) → calls_of (map (with_slots inputs calls) bs) ≡ calls_of bs
calls_kept inputs calls [] = refl
calls_kept inputs calls (b ∷ bs) = ap (λ l. b.call ∷ l) (calls_kept inputs calls bs)

-- what the bodies are given does not change
calls_same : (inputs : ℕ) (before now : List Body) (at : ℕ) → Sizing inputs before now at → calls_of now ≡ calls_of before
calls_same inputs before now at h =
    let f = with_slots inputs (calls_of before) in
    ap calls_of h.same ∙ map-append (λ b. b.call) (map f (take at before)) (drop at before)
    ∙ ap (λ l. l ++ calls_of (drop at before)) (calls_kept inputs (calls_of before) (take at before))
    ∙ sym (map-append (λ b. b.call) (take at before) (drop at before)) ∙ ap calls_of (take-append-drop at before)

pub one_sized : (inputs : ℕ) (before now next : List Body) (at n : ℕ) (b : Body) → at < length before → Sizing inputs before now at → b
    ≡ slice_index_or now at b → n ≡ (with_slots inputs (calls_of now) b).slots
    → ((base rest : List Body) (old : Body) → now ≡ base ++ old ∷ rest → length base ≡ at → next
    ≡ base ++ record { call = old.call; slots = n; code = old.code } ∷ rest) → Sizing inputs before next (at + 1)
one_sized inputs before now next at n b lt h eb en set =
    let f = with_slots inputs (calls_of before) in
    let b0 = slice_index_or before at b in
    let rest = drop (at + 1) before in
    let base = map f (take at before) in
    let here = slice_get-get_or before at b lt in
    let long : length base ≡ at = map_length f (take at before) ∙ take_length at before (omega (arith, lt)) in
    let now_is : now ≡ base ++ b0 ∷ rest = h.same ∙ ap (λ l. base ++ l) (drop_item before at b0 here) in
    let is : b ≡ b0 = eb ∙ ap₂ (λ l k. slice_index_or l k b) now_is (sym long) ∙ get_or-append_seam base b0 rest b in
    let slots : n ≡ (f b0).slots = en ∙ ap₂ (λ c (k : Body). (with_slots inputs c k).slots) (calls_same inputs before now at h) is in
    record {
      same = set base rest b0 now_is long ∙ ap (λ s. base ++ record { call = b0.call; slots = s; code = b0.code } ∷ rest) slots
          ∙ sym (append_assoc base (f b0 ∷ []) rest) ∙ ap (λ l. l ++ rest) (sym (map_more f before at b0 here));
      within = omega (arith, lt);
    }

pub all_sized : (inputs : ℕ) (before now : List Body) (at : ℕ) → length before ≤ at → Sizing inputs before now at → now ≡ sized inputs before
all_sized inputs before now at le h =
    let f = with_slots inputs (calls_of before) in
    h.same ∙ ap₂ (λ a b. map f a ++ b) (take_all at before le) (drop_all at before le) ∙ append-nil (map f before)

pub sizing_length : (inputs : ℕ) (before now : List Body) (at : ℕ) → Sizing inputs before now at → length now ≡ length before
sizing_length inputs before now at h =
    sym (map_length (λ (b : Body). b.call) now) ∙ ap length (calls_same inputs before now at h) ∙ map_length (λ (b : Body). b.call) before
