use Rattle.std.proofs.Common.{◌∷◌, [], ◌++◌, take, ap, ◌∙◌, arith}
use Rattle.proc_expand.proofs.Origins.{finished_whole, finished_tokens}
use Rattle.proc_expand.proofs.expanding.finished.Goals as goal

pub invariant_of-result : goal.invariant_of-result
invariant_of-result c =
    finished_whole c.args.sheet c.push.new.self.items c.requires
    (c.in_ok-push.ensures.items ∙ ap (λ u. u ++ 10 ∷ []) c.truncate.ensures.items
    ∙ ap (λ i. take i c.args.sheet.text.items ++ 10 ∷ []) (let l = c.len.ensures in let k = c.saturating_sub-kept.ensures in omega (arith, l, k)))

pub returns-clause-expanded : goal.returns-clause-expanded
returns-clause-expanded c =
    ap (λ us. record { tokens = us; end = c.args.end })
    (finished_tokens c.args.sheet c.push.new.self.items c.requires
    (c.in_ok-push.ensures.items ∙ ap (λ u. u ++ 10 ∷ []) c.truncate.ensures.items
    ∙ ap (λ i. take i c.args.sheet.text.items ++ 10 ∷ []) (let l = c.len.ensures in let k = c.saturating_sub-kept.ensures in omega (arith, l, k))))
