-- The code of a program stays among its instructions.
use Rattle.std.proofs.Common.{◌≡◌, ℕ, zero, suc, ◌+◌, List, [], ◌∷◌, ◌++◌, length, true, Option, Some, None, refl, ap, subst, arith}
use Rattle.std.proofs.Common.{length-append}
use Rattle.std.specs.Prelude.{Bool, ◌||◌, slice_get, nat_lt, nat_le, nat_eq}
use Rattle.std.proofs.lemmas.Bool.{lt-ltb, le-leb, eq-eqb}
use Rattle.std.proofs.lemmas.Option.{none-some, same_Some}
use Rattle.jade_base.specs.declared.place.Pos.{Pos}
use Rattle.jade_syntax.specs.declared.tree.Item.{Item}
use Rattle.jade_syntax.specs.Abstract.{Name, Or, And, Relates, Adds, Multiplies, Expression, Whole, Truth, Variable, Group, Signed, Chain, Cell, Links, Last}
use Rattle.jade_syntax.specs.Abstract.{Link, Place, Alone, Member, Action, Local, Assign, Store, If, IfElse, For, Withonly, With, Declare, Actions, Done, Then}
use Rattle.jade_syntax.specs.Abstract.{AbstractProgram}
use Rattle.jade_meaning.specs.declared.resolve.Range.{Range}
use Rattle.code_meaning.specs.declared.code.Operand.{Operand}
use Rattle.code_meaning.specs.declared.code.Instruction.{Instruction}
use Rattle.code_meaning.specs.declared.code.Instruction.TheVariants as i
use Rattle.code_meaning.specs.Meaning.{Body}
use Rattle.task_translation.specs.Room.{room, with_slots, calls_of}
use Rattle.task_translation.specs.Keys.{Key, Kept, pick}
use Rattle.task_translation.specs.Compile.{key_of, index_of, index_at, index_operand, keeping, only, candidates, inside, is_steady, kept_from, looping}
use Rattle.task_translation.specs.Compile.{Scope, entry, slot_of, brought, stored, operand_of, unless, range_of, member_read, member_reached}
use Rattle.task_translation.specs.Compile.{code_of, code_of_links, code_at, code_of_place, store_code, call_of, inputs_in, given_scope, parameters, scope_after}
use Rattle.task_translation.specs.Compile.{next_after, bodies_in, bodies_in_all, code_for, code_for_all, body_for, bodies_for, bodies_for_all, unsized}
use Rattle.task_code.specs.Rules.{begins, places_are_there}
use Rattle.code_keeps.specs.Keeps.{whole_code, KeepsPlaces, KeepsBeginnings}
use Rattle.code_keeps.proofs.Rooms.{from_map, and_true, room_least}
use Rattle.code_keeps.proofs.Insides.{Inside, none_inside, both_inside, before_inside, alone_inside, loop_inside, peeled_inside, ends_well}

brought_inside : (t : ℕ) (o : Option Operand) → Inside (brought t o)
brought_inside t None = none_inside
brought_inside t (Some o) = alone_inside (i.Set t o) tt

unless_inside : (o : Option Operand) (code : List Instruction) → Inside code → Inside (unless o code)
unless_inside None code f = f
unless_inside (Some o) code f = none_inside

read_inside : (g : Range) (t : ℕ) (j : Operand) (o : Option Operand) (code : List Instruction) (at : Pos) → Inside code → Inside (member_read g t j o code at)
read_inside g t j None code at f = before_inside _ _ tt (both_inside code _ f (alone_inside _ tt))
read_inside g t j (Some c) code at f = alone_inside _ tt

reached_inside : (g : Range) (t : ℕ) (j : Operand) (o : Option Operand) (code : List Instruction) (at : Pos) → Inside code
    → Inside (member_reached g t j o code at)
reached_inside g t j None code at f = before_inside _ _ tt (both_inside code _ f (alone_inside _ tt))
reached_inside g t j (Some c) code at f = alone_inside _ tt

module _ (items : List Item) where
  mutual
    code_inside : (e : Expression) (ks : List Kept) (scope : Scope) (t : ℕ) → Inside (code_of items ks scope t e)
    code_inside (Whole z) ks scope t = alone_inside _ tt
    code_inside (Truth b) ks scope t = alone_inside _ tt
    code_inside (Variable x) ks scope t = alone_inside _ tt
    code_inside (Group e) ks scope t = code_inside e ks scope t
    code_inside (Signed sign at e) ks scope t = both_inside (unless (operand_of scope e) (code_of items ks scope t e)) _
        (unless_inside (operand_of scope e) _ (code_inside e ks scope t)) (alone_inside _ tt)
    code_inside (Chain e links) ks scope t = both_inside (unless (operand_of scope e) (code_of items ks scope t e)) _
        (unless_inside (operand_of scope e) _ (code_inside e ks scope t)) (links_inside links ks scope t (operand_of scope e))
    code_inside (Cell (Alone x at) e) ks scope t = both_inside (unless (operand_of scope e) (code_of items ks scope t e)) _
        (unless_inside (operand_of scope e) _ (code_inside e ks scope t)) (alone_inside _ tt)
    code_inside (Cell (Member x at j) e) ks scope t =
        both_inside (unless (index_of ks scope j) (code_of items ks scope t j)) _ (unless_inside (index_of ks scope j) _ (code_inside j ks scope t))
        (read_inside (range_of items x) t _ (operand_of scope e) (code_of items ks scope (t + 1) e) at (code_inside e ks scope (t + 1)))

    links_inside : (l : Links) (ks : List Kept) (scope : Scope) (t : ℕ) (o : Option Operand) → Inside (code_of_links items ks scope t o l)
    links_inside Last ks scope t o = brought_inside t o
    links_inside (Link Or at e links) ks scope t o =
        let a = code_of items ks scope t e in
        let b = code_of_links items ks scope t None links in
        let long = length-append a b in
        both_inside (brought t o) _ (brought_inside t o) (before_inside _ (a ++ b) (omega (
          arith,
          long,
        )) (both_inside a b (code_inside e ks scope t) (links_inside links ks scope t None)))
    links_inside (Link And at e links) ks scope t o =
        let a = code_of items ks scope t e in
        let b = code_of_links items ks scope t None links in
        let long = length-append a b in
        both_inside (brought t o) _ (brought_inside t o) (before_inside _ (a ++ b) (omega (
          arith,
          long,
        )) (both_inside a b (code_inside e ks scope t) (links_inside links ks scope t None)))
    links_inside (Link (Relates r) at e links) ks scope t o =
        both_inside (unless (operand_of scope e) (code_of items ks scope (t + 1) e)) _ (unless_inside (operand_of scope e) _ (code_inside e ks scope (t + 1)))
        (before_inside _ _ tt (links_inside links ks scope t None))
    links_inside (Link (Adds r) at e links) ks scope t o =
        both_inside (unless (operand_of scope e) (code_of items ks scope (t + 1) e)) _ (unless_inside (operand_of scope e) _ (code_inside e ks scope (t + 1)))
        (before_inside _ _ tt (links_inside links ks scope t None))
    links_inside (Link (Multiplies r) at e links) ks scope t o =
        both_inside (unless (operand_of scope e) (code_of items ks scope (t + 1) e)) _ (unless_inside (operand_of scope e) _ (code_inside e ks scope (t + 1)))
        (before_inside _ _ tt (links_inside links ks scope t None))

  at_inside : (e : Expression) (ks : List Kept) (scope : Scope) (t : ℕ) → Inside (code_at items ks scope t e)
  at_inside e ks scope t = unless_inside (operand_of scope e) _ (code_inside e ks scope t)

  index_inside : (e : Expression) (ks : List Kept) (scope : Scope) (t : ℕ) → Inside (index_at items ks scope t e)
  index_inside e ks scope t = unless_inside (index_of ks scope e) _ (code_inside e ks scope t)

  place_inside : (o : Place) (ks : List Kept) (scope : Scope) (t : ℕ) → Inside (code_of_place items ks scope t o)
  place_inside (Alone x at) ks scope t = none_inside
  place_inside (Member x at e) ks scope t = both_inside (code_at items ks scope t e) _ (at_inside e ks scope t) (alone_inside _ tt)

  store_inside : (o : Place) (e v : Expression) (ks : List Kept) (scope : Scope) (n : ℕ) → Inside (store_code items ks scope n o e v)
  store_inside (Alone x at) e v ks scope n =
      both_inside (code_at items ks scope n e) _ (at_inside e ks scope n)
      (before_inside _ _ tt (both_inside (code_at items ks scope (n + 1) v) _ (at_inside v ks scope (n + 1)) (alone_inside _ tt)))
  store_inside (Member x at j) e v ks scope n =
      both_inside (index_at items ks scope n j) _ (index_inside j ks scope n)
      (both_inside (member_reached (range_of items x) n (index_operand items ks scope n j) (operand_of scope e) (code_of items ks scope (n + 1) e) at) _
      (reached_inside (range_of items x) n (index_operand items ks scope n j) (operand_of scope e) (code_of items ks scope (n + 1) e) at (code_inside e ks scope (n + 1)))
      (both_inside (code_at items ks scope (n + 2) v) _ (at_inside v ks scope (n + 2)) (alone_inside _ tt)))

  stored_inside : (o : Option ℕ) (n : ℕ) → Inside (stored o n)
  stored_inside None n = none_inside
  stored_inside (Some k) n = alone_inside _ tt

  only_inside : (o : Option Key) (code : List Instruction) → Inside code → Inside (only o code)
  only_inside None code f = none_inside
  only_inside (Some p) code f = f

  keeping_inside : (es : List Expression) (ok : ℕ → Bool) (ks : List Kept) (scope : Scope) (t : ℕ) → Inside (keeping items ks ok scope t es)
  keeping_inside [] ok ks scope t = none_inside
  keeping_inside (e ∷ es) ok ks scope t =
      both_inside (only (pick ok (key_of scope e)) (code_of items ks scope t e)) _
      (only_inside (pick ok (key_of scope e)) _ (code_inside e ks scope t)) (keeping_inside es ok ks scope (t + 1))

  -- a loop
  looping_inside : (n : ℕ) (es : List Expression) (plain keep fast : List Instruction) → Inside plain → Inside keep → Inside fast
      → Inside (looping n es plain keep fast)
  looping_inside n [] plain keep fast f g h = loop_inside n plain f
  looping_inside n (e ∷ es) plain keep fast f g h = peeled_inside n (plain ++ keep) fast (both_inside plain keep f g) h

  mutual
    for_inside : (a : Action) (ks : List Kept) (scope : Scope) (n b : ℕ) → Inside (code_for items ks scope n b a)
    for_inside (Local kind x e) ks scope n b = code_inside e ks scope n
    for_inside (Assign x e) ks scope n b = both_inside (code_of items ks scope n e) _ (code_inside e ks scope n) (stored_inside (slot_of x scope) n)
    for_inside (Store o e v) ks scope n b = store_inside o e v ks scope n
    for_inside (If e one) ks scope n b =
        let c = code_for_all items ks scope n b one in
        both_inside (code_at items ks scope n e) _ (at_inside e ks scope n) (before_inside _ c (omega arith) (all_inside one ks scope n b))
    for_inside (IfElse e one other) ks scope n b =
        let c = code_for_all items ks scope n b one in
        let d = code_for_all items ks scope n (b + bodies_in_all one) other in
        let long = length-append c (i.Jump (length d) ∷ d) in
        both_inside (code_at items ks scope n e) _ (at_inside e ks scope n)
        (before_inside _ (c ++ (i.Jump (length d) ∷ d)) (omega (arith, long))
        (both_inside c _ (all_inside one ks scope n b) (before_inside _ d (omega arith) (all_inside other ks scope n (b + bodies_in_all one)))))
    for_inside (For x low high body) ks scope n b =
        both_inside (code_of items ks scope n low) _ (code_inside low ks scope n)
        (both_inside (code_of items ks scope (n + 1) high) _ (code_inside high ks scope (n + 1))
        (let inner = entry x (n + 2) ∷ scope in
        let es = candidates inner n body in
        let ok = is_steady inner n body in
        looping_inside n es _ _ _ (all_inside body ks inner (inside inner n body) b) (keeping_inside es ok ks inner (n + 3))
        (all_inside body (kept_from ok inner (n + 3) es) inner (inside inner n body) b)))
    for_inside (Withonly at section names body) ks scope n b =
        before_inside _ _ tt (both_inside (code_for_all items ks scope n (b + 1 + bodies_in_all body) section) _
        (all_inside section ks scope n (b + 1 + bodies_in_all body)) (alone_inside _ tt))
    for_inside (With at section) ks scope n b = before_inside _ _ tt
        (both_inside (code_for_all items ks scope n b section) _ (all_inside section ks scope n b) (alone_inside _ tt))
    for_inside (Declare how at o) ks scope n b = both_inside (code_of_place items ks scope n o) _ (place_inside o ks scope n) (alone_inside _ tt)

    all_inside : (a : Actions) (ks : List Kept) (scope : Scope) (n b : ℕ) → Inside (code_for_all items ks scope n b a)
    all_inside Done ks scope n b = none_inside
    all_inside (Then a more) ks scope n b =
        before_inside _ _ tt (both_inside (code_for items ks scope n b a) _ (for_inside a ks scope n b)
        (all_inside more ks (scope_after scope n a) (next_after n a) (b + bodies_in a)))

-- ---- bodies

-- the places of a body are there
record KeptBody (b : Body) : Type 0 where
  pub some : nat_lt 0 (length b.code) ≡ true
  pub each : (p : ℕ) (x : Instruction) → slice_get b.code p ≡ Some x → places_are_there b.code p x ≡ true

record AllKept (bodies : List Body) : Type 0 where
  pub body : (own : ℕ) (b : Body) → slice_get bodies own ≡ Some b → KeptBody b

no_body : AllKept []
no_body = record { body = λ own b h. absurd (none-some b h) }

one_body : (b : Body) (bodies : List Body) → KeptBody b → AllKept bodies → AllKept (b ∷ bodies)
one_body b bodies k f = record { body = by_case }
  where
    by_case : (own : ℕ) (c : Body) → slice_get (b ∷ bodies) own ≡ Some c → KeptBody c
    by_case zero c h = subst KeptBody (same_Some b c h) k
    by_case (suc own) c h = f.body own c h

both_bodies : (a b : List Body) → AllKept a → AllKept b → AllKept (a ++ b)
both_bodies [] b f g = g
both_bodies (x ∷ a) b f g = one_body x (a ++ b) (f.body 0 x refl) (both_bodies a b (record { body = λ own c h. f.body (suc own) c h }) g)

module _ (items : List Item) where
  body_kept : (call : List Operand) (names : List Name) (b : ℕ) (body : Actions) → KeptBody (body_for items call names b body)
  body_kept call names b body =
      let code = code_for_all items [] (parameters items names) (inputs_in items + length names) b body in
      let long = length-append code (i.Finish ∷ []) in
      record {
        some = lt-ltb 0 (length (code ++ (i.Finish ∷ []))) (omega (arith, long));
        each = ends_well code (all_inside items body [] (parameters items names) (inputs_in items + length names) b);
      }

  mutual
    for_kept : (a : Action) (scope : Scope) (n b : ℕ) → AllKept (bodies_for items scope n b a)
    for_kept (Local kind x e) scope n b = no_body
    for_kept (Assign x e) scope n b = no_body
    for_kept (Store o e v) scope n b = no_body
    for_kept (If e one) scope n b = all_kept one scope n b
    for_kept (IfElse e one other) scope n b = both_bodies (bodies_for_all items scope n b one) _ (all_kept one scope n b)
        (all_kept other scope n (b + bodies_in_all one))
    for_kept (For x low high body) scope n b = all_kept body (entry x (n + 2) ∷ scope) (inside (entry x (n + 2) ∷ scope) n body) b
    for_kept (Withonly at section names body) scope n b =
        one_body _ _ (body_kept (call_of scope names) names (b + 1) body)
        (both_bodies (bodies_for_all items (parameters items names) (inputs_in items + length names) (b + 1) body) _
        (all_kept body (parameters items names) (inputs_in items + length names) (b + 1)) (all_kept section scope n (b + 1 + bodies_in_all body)))
    for_kept (With at section) scope n b = all_kept section scope n b
    for_kept (Declare how at o) scope n b = no_body

    all_kept : (a : Actions) (scope : Scope) (n b : ℕ) → AllKept (bodies_for_all items scope n b a)
    all_kept Done scope n b = no_body
    all_kept (Then a more) scope n b =
        both_bodies (bodies_for items scope n b a) _ (for_kept a scope n b) (all_kept more (scope_after scope n a) (next_after n a) (b + bodies_in a))

pub keeps_places : (p : AbstractProgram) → KeepsPlaces p
keeps_places p own place b x at here =
    let f = with_slots (inputs_in p.items) (calls_of (unsized p)) in
    let from = from_map f (unsized p) own b at in
    let all = one_body _ _ (body_kept p.items [] [] 1 p.main) (all_kept p.items p.main (given_scope p.items) (inputs_in p.items + 0) 1) in
    let P : Body → Type 0 = λ c. slice_get c.code place ≡ Some x → places_are_there c.code place x ≡ true in
    subst P from.2 (λ h. (all.body own from.0 from.1).each place x h) here

-- the first body is given nothing
first_given : (x : Body) (rest : List Body) (own : ℕ) (c : Body) → length x.call ≡ 0 → slice_get (x ∷ rest) own ≡ Some c
    → (nat_lt 0 own || nat_eq (length c.call) 0) ≡ true
first_given x rest zero c e h = subst (λ (d : Body). nat_eq (length d.call) 0 ≡ true) (same_Some x c h) (eq-eqb (length x.call) 0 e)
first_given x rest (suc own) c e h = ap (λ t. t || nat_eq (length c.call) 0) (lt-ltb 0 (suc own) (omega arith))

pub keeps_beginnings : (p : AbstractProgram) → KeepsBeginnings p
keeps_beginnings p own b at =
    let calls = calls_of (unsized p) in
    let f = with_slots (inputs_in p.items) calls in
    let from = from_map f (unsized p) own b at in
    let c = from.0 in
    let least = inputs_in p.items + length c.call in
    let all = one_body _ _ (body_kept p.items [] [] 1 p.main) (all_kept p.items p.main (given_scope p.items) (inputs_in p.items + 0) 1) in
    let P : Body → Type 0 = λ d. begins (whole_code p) own d ≡ true in
    subst P from.2
    (and_true _ _
    (and_true (nat_lt 0 (length c.code)) (nat_le least (room calls least c.code)) (all.body own c from.1).some
    (le-leb least (room calls least c.code) (room_least calls least c.code)))
    (first_given _ _ own c refl from.1))
