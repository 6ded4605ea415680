use Rattle.std.proofs.Common.{◌∙◌, arith}
use Rattle.proc_expand.proofs.KnownNames.{begun_within, begun_at, lies_in}
use Rattle.proc_expand.proofs.scan.begins_at.Goals as goal

pub index-requires : goal.index-requires
index-requires c =
    let l = begun_within c.args.tokens.now.lexemes c.args.scan.now c.requires.scan c.args.place c.requires.within in
    omega (arith, c.args.scan.now.begins.ok.0, l)

pub returns : goal.returns
returns c =
    let ts = c.args.tokens.now.lexemes in
    let s = c.args.scan.now in
    c.index.ensures ∙ begun_at ts s c.requires.scan c.args.place c.index.result.now (lies_in ts s c.requires.scan c.args.place c.requires.within)
