use Rattle.jade_parser.proofs.Steps.{residual}
use Rattle.std.proofs.Common.{◌≡◌, ◌+◌, true, sym, ◌∙◌}
use Rattle.jade_syntax.specs.Shapes.{is_main}
use Rattle.jade_parser.specs.steps.Forms.{NoHead}
use Rattle.jade_parser.specs.declared.Sign.TheVariants.{LeftBracket}
use Rattle.jade_parser.proofs.Simply.{unnamed, assign_begun, store_begun, named_alone}
use Rattle.jade_parser.proofs.simple.parse_named.Goals as goal
use Rattle.jade_parser.proofs.simple.parse_named.Goals.{else-is_main-via-then-is_main+else-is_at-2, else-is_main-via-else-is_main}

pub returns-in_err-name : goal.returns-in_err-name
returns-in_err-name c = residual _ _ _ _ c.from_residual.ensures.1 (unnamed _ _ _ _ c.requires.within c.requires.no_sign c.in_err-name.ensures)

pub parse_assign-requires-clause-read : goal.parse_assign-requires-clause-read
parse_assign-requires-clause-read c = assign_begun _ _ _ _ _ c.pos_at-pos.ensures c.in_ok-name.ensures (c.is_at.ensures.yes c.if-is_at.true)

pub parse_store-requires-clause-read : goal.parse_store-requires-clause-read
parse_store-requires-clause-read c = store_begun _ _ _ _ _ c.pos_at-pos.ensures (sym c.is_main.ensures ∙ c.if-is_main.true) c.in_ok-name.ensures
    (c.is_at-then-is_main.ensures.yes c.if-is_at-2.true)

pub returns : goal.returns
returns c = let m : is_main c.args.place ≡ true → NoHead LeftBracket c.args.tokens.now (c.args.start + 1) = elim (c.else-is_main.branch) [
  | else-is_main-via-then-is_main+else-is_at-2 w ↦ λ h. w.is_at-then-is_main.ensures.no w.if-is_at-2.false
  | else-is_main-via-else-is_main w ↦ λ h. let q = w.if-is_main.false in let r = c.is_main.ensures in absurd (cc)
] in
    named_alone _ _ _ _ _ c.pos_at-pos.ensures c.in_ok-name.ensures (c.is_at.ensures.no c.if-is_at.false) m
