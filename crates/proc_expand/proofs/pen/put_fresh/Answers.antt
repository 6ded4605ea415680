use Rattle.std.proofs.Common.{ℕ, ◌+◌, [], ◌∷◌, length, subst, arith}
use Rattle.std.proofs.lemmas.Nat.{mul-le}
use Rattle.std.proofs.lemmas.Result.{on_ok_weaker}
use Rattle.proc_expand.specs.Written.{numbered_name}
use Rattle.proc_expand.specs.steps.Replaced.{taken_names}
use Rattle.proc_expand.specs.steps.Pens.{Wrote, IsTooLong}
use Rattle.proc_expand.proofs.pen.put_fresh.Goals as goal

pub free_number-requires-clause-free : goal.free_number-requires-clause-free
free_number-requires-clause-free c = c.requires.pen.free

pub free_number-requires-clause-few : goal.free_number-requires-clause-few
free_number-requires-clause-few c =
    let a = c.requires.few in let b = c.requires.small in
    let m = mul-le (c.args.number + 1) (length (taken_names c.args.taken.now) + 1) 2199023255552 1048577 (omega (arith, b)) (omega (arith, a)) in omega (arith, m)

pub put_numbered-requires : goal.put_numbered-requires
put_numbered-requires c = c.requires.pen.sheet

pub returns-clause-wrote : goal.returns-clause-wrote
returns-clause-wrote c =
    let names = taken_names c.args.taken.now in
    let P : ℕ → Type 0 = λ n. Wrote names (record { bytes = numbered_name n; origin = c.args.origin } ∷ []) c.args.pen.now c.put_numbered.new.pen in
    on_ok_weaker c.put_numbered.result
    (λ f. subst P c.in_ok-free.ensures.value
    (let w = f names (record { sheet = c.requires.pen.sheet; free = c.in_ok-free.ensures.free }) in record { pen = w.pen; tokens = w.tokens }))
    c.put_numbered.ensures.wrote

pub returns-clause-grown : goal.returns-clause-grown
returns-clause-grown c =
    let P : ℕ → Type 0 = λ n. IsTooLong c.args.pen.now (record { bytes = numbered_name n; origin = c.args.origin } ∷ []) in
    λ e. subst P c.in_ok-free.ensures.value (let l = c.put_numbered.ensures.grown e in record { long = l.long })
