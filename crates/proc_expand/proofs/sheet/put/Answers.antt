use Rattle.std.proofs.Common.{◌≡◌, ◌+◌, ◌++◌, [], ◌∷◌, length, ap, ◌∙◌, arith}
use Rattle.proc_expand.proofs.SheetFacts.{put_tokens, put_sheet}
use Rattle.proc_expand.proofs.sheet.put.Goals as goal

pub returns-clause-sheet : goal.returns-clause-sheet
returns-clause-sheet c =
    let l : c.len-start.result ≡ length c.args.sheet.now.text.items = omega (arith, c.len-start.ensures) in
    put_sheet c.args.sheet.now (record { text = c.push.new.self; pieces = c.push-2.new.self }) c.args.bytes.now
    (record { start = c.len-start.result; stop = c.len-start.result + length c.args.bytes.now; origin = c.args.origin }) c.requires
    (c.in_ok-push.ensures.items ∙ ap (λ u. u ++ 32 ∷ []) c.in_ok-append.ensures.written) c.in_ok-push-2.ensures.items l (ap (λ n. n + length c.args.bytes.now) l)
    (let f = c.if-bytes-start.false in omega (arith, f, l))

pub returns-clause-tokens : goal.returns-clause-tokens
returns-clause-tokens c =
    let l : c.len-start.result ≡ length c.args.sheet.now.text.items = omega (arith, c.len-start.ensures) in
    put_tokens c.args.sheet.now (record { text = c.push.new.self; pieces = c.push-2.new.self }) c.args.bytes.now
    (record { start = c.len-start.result; stop = c.len-start.result + length c.args.bytes.now; origin = c.args.origin }) c.requires
    (c.in_ok-push.ensures.items ∙ ap (λ u. u ++ 32 ∷ []) c.in_ok-append.ensures.written) c.in_ok-push-2.ensures.items l (ap (λ n. n + length c.args.bytes.now) l)
