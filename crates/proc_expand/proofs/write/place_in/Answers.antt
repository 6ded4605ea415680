use Rattle.std.proofs.Common.{refl, sym}
use Rattle.proc_expand.proofs.Writing.{next_in}
use Rattle.proc_expand.proofs.write.place_in.Goals as goal

pub returns-in-None : goal.returns-in-None
returns-in-None c =
    next_in c.args.tokens.now.lexemes c.args.tokens.now.end c.args.source.now c.requires.source c.args.frame c.index.result.now c.requires.frame c.requires.left c.index.result.now
    (λ e. c.index.ensures) (λ a e. absurd (let z = sym c.in-None.is in cc))

pub returns-in-Some : goal.returns-in-Some
returns-in-Some c =
    next_in c.args.tokens.now.lexemes c.args.tokens.now.end c.args.source.now c.requires.source c.args.frame 0 c.requires.frame c.requires.left c.args.frame.next
    (λ e. absurd (let z = c.in-Some.is in cc)) (λ a e. refl)
