-- The code of a whole program.
use Rattle.std.proofs.Common.{◌≡◌, ℕ, suc, ◌+◌, ◌-◌, ◌≤◌, List, [], ◌∷◌, None, map, refl, sym, ap, ◌∙◌, arith}
use Rattle.std.specs.Prelude.{ℤ, pos, slice_index_or}
use Rattle.jade_syntax.specs.Abstract.{AbstractProgram}
use Rattle.jade_meaning.specs.Course.{Ends, inputs, root_spec}
use Rattle.code_meaning.specs.Meaning.{Children, Body, body_going, by_number, bodies_from}
use Rattle.task_translation.specs.Compile.{inputs_in, given_scope, bodies_for_all, unsized}
use Rattle.task_translation.specs.Room.{Calls, calls_of, with_slots}
use Rattle.task_translation.proofs.Scopes.{below_parameters}
use Rattle.task_translation.specs.Correct.{Follows, CodeFollows}
use Rattle.task_translation.proofs.Statements.{Knows, nothing, all_goes, body_goes}

knows_same : (c d : Children) (zs : List ℤ) (limit b : ℕ) (bodies : List Body) → ((k : ℕ) → b ≤ k → c k ≡ d k) → Knows c zs limit b bodies
    → Knows d zs limit b bodies
knows_same c d zs limit b [] e h = tt
knows_same c d zs limit b (x ∷ bodies) e h = (
  (h.0.0, h.0.1, λ ss spec. sym (ap (λ g. g ss spec) (e b (omega arith))) ∙ h.0.2 ss spec),
  knows_same c d zs limit (b + 1) bodies (λ k le. e k (omega (arith, le))) h.1,
)

table_knows : (zs : List ℤ) (limit base : ℕ) (bodies : List Body) → Knows (by_number base (bodies_from zs limit base bodies)) zs limit base bodies
table_knows zs limit base [] = tt
table_knows zs limit base (x ∷ bodies) =
    let rest = bodies_from zs limit (base + 1) bodies in
    let inner = by_number (base + 1) rest in
    let all = bodies_from zs limit base (x ∷ bodies) in
    let known = table_knows zs limit (base + 1) bodies in
    let here : base - base ≡ 0 = omega arith in (
      (inner, known, λ ss spec. ap (λ n. slice_index_or all n (λ ss spec. Ends None) ss spec) here),
      knows_same inner (by_number base all) zs limit (base + 1) bodies (λ k le. let e : suc (k - (base + 1)) ≡ k - base = omega (arith, le) in
          ap (λ n. slice_index_or all n (λ ss spec. Ends None)) e) known,
    )

-- the bodies do what the program does, whatever slots they have
unsized_follows : (p : AbstractProgram) (limit : ℕ) → Follows (unsized p) p limit
unsized_follows p limit zs long =
    let bodies = bodies_for_all p.items (given_scope p.items) (inputs_in p.items + 0) 1 p.main in
    let inner = by_number 1 (bodies_from zs limit 1 bodies) in
    body_goes p.items zs long limit p.main inner [] [] 1 (λ code to h on k. all_goes p.items zs long limit p.main inner code [] (given_scope p.items)
    (inputs_in p.items + 0) 1 (λ ss. Unit {0}) (nothing p.items zs long limit) (below_parameters p.items []) tt (λ ss p. tt) 0 to h (table_knows zs limit 1 bodies) on k)
    (λ k. pos 0) [] (root_spec p) tt

-- the numbers of slots change nothing
sized_same : (inputs : ℕ) (calls : Calls) (zs : List ℤ) (limit base : ℕ) (bodies : List Body) → bodies_from zs limit base (map (with_slots inputs calls) bodies)
    ≡ bodies_from zs limit base bodies
sized_same inputs calls zs limit base [] = refl
sized_same inputs calls zs limit base (b ∷ bodies) =
    ap (λ rest. body_going (by_number (base + 1) rest) zs limit b ∷ rest) (sized_same inputs calls zs limit (base + 1) bodies)

pub code_follows : (p : AbstractProgram) (limit : ℕ) → CodeFollows p limit
code_follows p limit zs long =
    ap (λ l. by_number 0 l 0 (λ k. pos 0) (root_spec p)) (sized_same (inputs_in p.items) (calls_of (unsized p)) zs limit 0 (unsized p))
    ∙ unsized_follows p limit zs long
