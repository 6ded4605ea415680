use Rattle.std.proofs.Common.{◌≡◌, ◌+◌, ◌≤◌, sym, ◌∙◌, rules, arith, length}
use Rattle.jade_syntax.specs.Objects.{amount, sizes}
use Rattle.jade_meaning.proofs.Ranging.{single_here, family_here, single_within, family_within, input_past, single_past, family_past}
use Rattle.jade_meaning.proofs.resolve.range_of.Goals.{in-Input, in-Single+else-same_name, in-Family+else-same_name-2}
use Rattle.jade_meaning.proofs.resolve.range_of.Goals as goal

pub returns-then-same_name-clause-range : goal.returns-then-same_name-clause-range
returns-then-same_name-clause-range c =
    let w = c.in-Single in
    let cells : c.amount_of.result ≡ amount w.size.value = search rules in
    single_here c.args.name.now c.args.items.now c.loop-i.first c.loop-i.i c.at.result.now c.at.ensures w.declared w.pos w.size c.amount_of.result w.is
    (sym c.same_name.ensures ∙ c.if-same_name.true) cells c.loop-i.invariant.same

pub returns-then-same_name-2-clause-range : goal.returns-then-same_name-2-clause-range
returns-then-same_name-2-clause-range c =
    let w = c.in-Family in
    let members : c.amount_of-then-same_name-2.result ≡ amount w.count.value = search rules in
    let cells : c.amount_of-then-same_name-2-2.result ≡ amount w.size.value = search rules in
    family_here c.args.name.now c.args.items.now c.loop-i.first c.loop-i.i c.at.result.now c.at.ensures w.declared w.pos w.count w.size _ _ w.is
    (sym c.same_name-in-Family.ensures ∙ c.if-same_name-2.true) members cells c.loop-i.invariant.same

pub loop-i-preserved : goal.loop-i-preserved
loop-i-preserved c =
    let x = c.args.name.now in
    let items = c.args.items.now in
    let item = c.at.result.now in
    elim c.match-at.branch [
      | in-Input w ↦ input_past x items c.loop-i.first c.loop-i.i item c.at.ensures w.in-Input.name w.in-Input.pos c.match-at.first w.in-Input.is w.first-is
          c.loop-i.invariant
      | in-Single+else-same_name w ↦ single_past x items c.loop-i.first c.loop-i.i item c.at.ensures w.in-Single.declared w.in-Single.pos w.in-Single.size
          c.match-at.first w.in-Single.is (sym w.same_name.ensures ∙ w.if-same_name.false) w.first-is c.loop-i.invariant
      | in-Family+else-same_name-2 w ↦
          let members : w.amount_of-first.result ≡ amount w.in-Family.count.value = search rules in
          family_past x items c.loop-i.first c.loop-i.i item c.at.ensures w.in-Family.declared w.in-Family.pos w.in-Family.count w.in-Family.size
          w.amount_of-first.result c.match-at.first w.in-Family.is (sym w.same_name-in-Family.ensures ∙ w.if-same_name-2.false) members w.first-is
          c.loop-i.invariant
    ]

pub returns-then-same_name-clause-bounded : goal.returns-then-same_name-clause-bounded
returns-then-same_name-clause-bounded c =
    let w = c.in-Single in
    let within : c.loop-i.first + 1 ≤ length (sizes c.args.items.now) = single_within c.args.name.now c.args.items.now c.loop-i.first c.loop-i.i c.at.result.now
    c.at.ensures w.declared w.pos w.size w.is c.loop-i.invariant in
    omega (arith, within)

pub returns-then-same_name-2-clause-bounded : goal.returns-then-same_name-2-clause-bounded
returns-then-same_name-2-clause-bounded c =
    let w = c.in-Family in
    let members : c.amount_of-then-same_name-2.result ≡ amount w.count.value = search rules in
    let within : c.loop-i.first + c.amount_of-then-same_name-2.result ≤ length (sizes c.args.items.now) =
    family_within c.args.name.now c.args.items.now c.loop-i.first c.loop-i.i c.at.result.now c.at.ensures w.declared w.pos w.count w.size
    c.amount_of-then-same_name-2.result w.is members c.loop-i.invariant in
    omega (arith, within)
