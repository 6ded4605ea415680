use Rattle.std.proofs.Common.{refl, sym, ◌∙◌, ◌+◌, arith}
use Rattle.std.proofs.lemmas.Result.{on_ok_weaker}
use Rattle.proc_expand.specs.declared.taken.Taken.{Taken}
use Rattle.proc_expand.proofs.TakenNames.{other_more, known_more}
use Rattle.proc_expand.proofs.taken.add_name.Goals as goal

pub returns-then-not-begins_numbered : goal.returns-then-not-begins_numbered
returns-then-not-begins_numbered c =
    let t = c.args.taken.now in let u : Taken = record { names = t.names; others = t.others + 1 } in
    λ names h. other_more names c.args.name.now t u h (sym c.begins_numbered.ensures ∙ c.if-not-begins_numbered.true) refl (omega arith)

pub returns : goal.returns
returns c =
    let t = c.args.taken.now in let u : Taken = record { names = c.declare.new.self; others = t.others } in
    on_ok_weaker c.declare.result (λ e names h. known_more names c.args.name.now c.args.place t u h e refl) c.declare.ensures.declared
