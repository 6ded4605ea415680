use Rattle.std.proofs.Common.{◌+◌, ℕ, List, length, sym, ap, ◌∙◌, arith}
use Rattle.std.proofs.lemmas.List.{length-map}
use Rattle.jade_lexer.specs.Lexemes.{TokenAt}
use Rattle.proc_expand.specs.declared.procedures.Procedure.{Procedure}
use Rattle.proc_expand.specs.Words.{sign_of}
use Rattle.jade_syntax.specs.Abstract.{Name}
use Rattle.proc_expand.specs.steps.Replaced.{names_of, with_names}
use Rattle.proc_expand.proofs.BodyNames.{heads_names}
use Rattle.proc_expand.proofs.NameLists.{names_count, none_numbered}
use Rattle.proc_expand.proofs.Marking.{how_many, are_marked}
use Rattle.proc_expand.proofs.Wholes.{params_long, body_in, stop_within}
use Rattle.proc_expand.proofs.marks.number_names.Goals as goal

pub number_params-requires-clause-numbered : goal.number_params-requires-clause-numbered
number_params-requires-clause-numbered c = none_numbered c.none-seen.result c.none-seen.ensures

pub number_params-requires-clause-within : goal.number_params-requires-clause-within
number_params-requires-clause-within c =
    let ts = c.args.tokens.now.lexemes in let end = c.args.tokens.now.end in let p = c.args.procedure.place in
    let l = params_long ts end c.requires.accepted p c.requires.within c.requires.begins in
    let s = stop_within ts end c.requires.accepted p c.requires.within c.requires.begins in
    let n = ap (λ (q : Procedure). q.head.params) c.requires.procedure in let m = c.requires.as_many in omega (arith, l, s, n, m)

pub number_body-requires-clause-ordered : goal.number_body-requires-clause-ordered
number_body-requires-clause-ordered c =
    let ts = c.args.tokens.now.lexemes in let end = c.args.tokens.now.end in let p = c.args.procedure.place in
    let b = body_in ts end c.requires.accepted p c.requires.within c.requires.begins in
    let n = ap (λ (q : Procedure). q.head.stop) c.requires.procedure in let m = c.requires.stop in omega (arith, b, n, m)

pub overflow_add-procedure : goal.overflow_add-procedure
overflow_add-procedure c =
    let ts = c.args.tokens.now.lexemes in let end = c.args.tokens.now.end in let p = c.args.procedure.place in
    let b = body_in ts end c.requires.accepted p c.requires.within c.requires.begins in
    let n = ap (λ (q : Procedure). q.head.stop) c.requires.procedure in let m = c.requires.stop in omega (arith, b, n, m)

pub number_body-requires-clause-within : goal.number_body-requires-clause-within
number_body-requires-clause-within c =
    let ts = c.args.tokens.now.lexemes in let end = c.args.tokens.now.end in let p = c.args.procedure.place in
    let b = body_in ts end c.requires.accepted p c.requires.within c.requires.begins in let m = c.requires.stop in
    let e = ap length c.requires.signs in let f = length-map ts (λ (t : TokenAt). sign_of t.bytes) in omega (arith, b, m, e, f)

pub number_body-requires-clause-as_many : goal.number_body-requires-clause-as_many
number_body-requires-clause-as_many c =
    let ts = c.args.tokens.now.lexemes in let m = c.requires.as_many in let a = c.number_params.ensures.as_many in
    let e = ap length c.requires.signs in let f = length-map ts (λ (t : TokenAt). sign_of t.bytes) in omega (arith, m, a, e, f)

pub returns-clause-count : goal.returns-clause-count
returns-clause-count c =
    let ts = c.args.tokens.now.lexemes in let end = c.args.tokens.now.end in let p = c.args.procedure.place in
    let q = c.requires.procedure in
    how_many ts end p (c.args.procedure.head.stop + 1) c.args.stop c.args.procedure.head.params
    (names_of c.args.items.now) (names_of c.number_params.new.seen) (names_of c.number_body.new.seen) c.requires.items
    (ap (λ (r : Procedure). r.head.params) q) (ap (λ (r : Procedure). r.head.stop + 1) q) c.requires.stop
    (c.in_ok-number_params.ensures.names
    ∙ ap (λ (es : List (Name × ℕ)). with_names (names_of c.args.items.now) (names_of es) (heads_names ts end p c.args.procedure.head.params)) c.none-seen.ensures)
    c.in_ok-number_body.ensures.names _
    (c.len.ensures ∙ sym (names_count c.number_body.new.seen))

pub returns-clause-marked : goal.returns-clause-marked
returns-clause-marked c =
    let ts = c.args.tokens.now.lexemes in let end = c.args.tokens.now.end in let p = c.args.procedure.place in
    let q = c.requires.procedure in
    let l = params_long ts end c.requires.accepted p c.requires.within c.requires.begins in
    let n = ap (λ (r : Procedure). r.head.params) q in
    are_marked ts end p (c.args.procedure.head.stop + 1) c.args.stop c.args.procedure.head.params
    (names_of c.args.items.now) (names_of c.number_params.new.seen) (names_of c.number_body.new.seen) c.requires.items
    (ap (λ (r : Procedure). r.head.params) q) (ap (λ (r : Procedure). r.head.stop + 1) q) c.requires.stop
    (c.in_ok-number_params.ensures.names
    ∙ ap (λ (es : List (Name × ℕ)). with_names (names_of c.args.items.now) (names_of es) (heads_names ts end p c.args.procedure.head.params)) c.none-seen.ensures)
    c.in_ok-number_body.ensures.names
    c.number_params.new.marks c.number_body.new.marks (omega (arith, l, n))
    c.in_ok-number_params.ensures.marked c.in_ok-number_body.ensures.marked c.in_ok-number_body.ensures.before

pub returns-clause-before : goal.returns-clause-before
returns-clause-before c =
    let ts = c.args.tokens.now.lexemes in let end = c.args.tokens.now.end in let p = c.args.procedure.place in
    let l = params_long ts end c.requires.accepted p c.requires.within c.requires.begins in
    let n = ap (λ (r : Procedure). r.head.stop) c.requires.procedure in
    λ k m. c.in_ok-number_body.ensures.before k (omega (arith, l, n, m)) ∙ c.in_ok-number_params.ensures.before k m
