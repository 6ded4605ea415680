use Rattle.std.proofs.Common.{◌≡◌, ◌+◌, ◌-◌, ◌<◌, arith, rules}
use Rattle.std.specs.Prelude.{ℤ, pos, slice_index_or, ◌∷◌, length}
use Rattle.jade_meaning.specs.declared.values.Value.TheVariants.{IntOf}
use Rattle.jade_meaning.proofs.Inputting.{input_left, input_made, single_passed, family_passed}
use Rattle.jade_meaning.proofs.serial.inputs.Goals as goal

pub overflow_sub-number : goal.overflow_sub-number
overflow_sub-number c =
    let next : (c.loop-left.left - 1) + 1 ≡ c.loop-left.left = omega arith in
    input_left c.args.items.now c.args.numbers.now (c.loop-left.left - 1) c.loop-left.left c.loop-left.number c.loop-left.scope c.at.result.now next
    c.at.ensures c.loop-left.invariant c.in-Input.name c.in-Input.pos c.in-Input.is

pub bounds-numbers-number : goal.bounds-numbers-number
bounds-numbers-number c =
    let next : (c.loop-left.left - 1) + 1 ≡ c.loop-left.left = omega arith in
    let some : 0 < c.loop-left.number = input_left c.args.items.now c.args.numbers.now (c.loop-left.left - 1) c.loop-left.left c.loop-left.number
    c.loop-left.scope c.at.result.now next c.at.ensures c.loop-left.invariant c.in-Input.name c.in-Input.pos c.in-Input.is in
    omega (arith, c.loop-left.invariant.enough, some)

pub loop-left-preserved-in-Ok : goal.loop-left-preserved-in-Ok
loop-left-preserved-in-Ok c =
    let next : (c.loop-left.left - 1) + 1 ≡ c.loop-left.left = omega arith in
    let some : 0 < c.loop-left.number = input_left c.args.items.now c.args.numbers.now (c.loop-left.left - 1) c.loop-left.left c.loop-left.number
    c.loop-left.scope c.at.result.now next c.at.ensures c.loop-left.invariant c.in-Input.name c.in-Input.pos c.in-Input.is in
    let less : (c.loop-left.number - 1) + 1 ≡ c.loop-left.number = omega (arith, some) in
    let z : ℤ = slice_index_or c.args.numbers.now (c.loop-left.number - 1) (pos 0) in
    let lt : c.loop-left.number - 1 < length c.args.numbers.now = omega (arith, less, c.loop-left.invariant.enough) in
    let new : c.bind.new.self ≡ record { name = c.in-Input.name; value = IntOf z } ∷ c.loop-left.scope = search (rules, c.in-Ok.ensures) in
    input_made c.args.items.now c.args.numbers.now (c.loop-left.left - 1) c.loop-left.left c.loop-left.number c.loop-left.scope c.at.result.now next
    c.at.ensures c.loop-left.invariant c.in-Input.name c.in-Input.pos (c.loop-left.number - 1) c.bind.new.self c.in-Input.is less new

pub loop-left-preserved-in-Single : goal.loop-left-preserved-in-Single
loop-left-preserved-in-Single c =
    let next : (c.loop-left.left - 1) + 1 ≡ c.loop-left.left = omega arith in
    single_passed c.args.items.now c.args.numbers.now (c.loop-left.left - 1) c.loop-left.left c.loop-left.number c.loop-left.scope c.at.result.now next
    c.at.ensures c.loop-left.invariant c.in-Single.name c.in-Single.pos c.in-Single.size c.in-Single.is

pub loop-left-preserved : goal.loop-left-preserved
loop-left-preserved c =
    let next : (c.loop-left.left - 1) + 1 ≡ c.loop-left.left = omega arith in
    family_passed c.args.items.now c.args.numbers.now (c.loop-left.left - 1) c.loop-left.left c.loop-left.number c.loop-left.scope c.at.result.now next
    c.at.ensures c.loop-left.invariant c.in-Family.name c.in-Family.pos c.in-Family.count c.in-Family.size c.in-Family.is
