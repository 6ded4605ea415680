use Rattle.std.proofs.Common.{length, map, get_or, get_or-take, not, false-eqb, sym, refl, ap, ◌∙◌, arith}
use Rattle.std.proofs.lemmas.Bool.{eqb-true}
use Rattle.std.proofs.ResultArms.{chosen}
use Rattle.jade_lexer.specs.declared.lexeme.Lexeme.{Lexeme}
use Rattle.jade_lexer.specs.Lexemes.{token_of}
use Rattle.jade_lexer.specs.Reading.{depth_after}
use Rattle.jade_lexer.proofs.Steps.{underway_blank, underway_token, underway_end, underway_refused, map_push}
use Rattle.jade_lexer.proofs.lexer.tokens.Goals as goal

pub parts-preserved-in-Ok-Blank : goal.parts-preserved-in-Ok-Blank
parts-preserved-in-Ok-Blank c =
    let part = c.in-Ok-Blank in
    let takes = c.split_at.ensures in
    let moves = c.after-spot.ensures in
    underway_blank c.args.text.now (map token_of c.parts.items.items) c.parts.spot c.after-spot.result part.length c.parts.rest.now c.split_at.result.0.now
    c.split_at.result.1.now
    c.parts.invariant
    (record {
      some = rw part.field-0-is at part.ensures.some;
      within = rw part.field-0-is at part.ensures.within;
      front_is = takes.front;
      after_is =
          takes.back;
    })
    (record { is = moves.value; line = moves.line; column = moves.column })
    (rw part.field-0-is at part.ensures.value)

pub parts-preserved : goal.parts-preserved
parts-preserved c =
    let part = c.in-Ok-Token in
    let takes = c.split_at-in-Ok-Token.ensures in
    let moves = c.after-spot-in-Ok-Token.ensures in
    let token = c.split_at-in-Ok-Token.result.0 in
    let lexeme : Lexeme = record { text = token; start = c.parts.spot.start; pos = c.parts.spot.pos } in
    let some = rw part.field-0-is at part.ensures.some in
    let pushed = chosen _ _ _ _ c.push.ensures.items (c.is_err.ensures.negation ∙ ap not c.if-is_err.false) in
    underway_token c.args.text.now (map token_of c.parts.items.items) (map token_of c.push.new.self.items) (token_of lexeme) c.parts.spot
    c.after-spot-in-Ok-Token.result c.depth_after-depth.result part.length c.parts.rest.now token.now c.split_at-in-Ok-Token.result.1.now
    c.parts.invariant
    (record { some = some; within = rw part.field-0-is at part.ensures.within; front_is = takes.front; after_is = takes.back })
    (record { is = moves.value; line = moves.line; column = moves.column })
    (rw part.field-0-is at part.ensures.value)
    (c.depth_after-depth.ensures.value
    ∙ ap (depth_after c.parts.spot.depth) (ap (λ l. get_or l 0 0) takes.front ∙ get_or-take part.length c.parts.rest.now 0 0 some))
    c.depth_after-depth.ensures.bound
    refl
    (ap (map token_of) pushed ∙ map_push c.parts.items.items lexeme)

pub returns-in-Err-clause-refused : goal.returns-in-Err-clause-refused
returns-in-Err-clause-refused c =
    underway_refused c.args.text.now (map token_of c.parts.items.items) c.parts.spot c.parts.rest.now c.in-Err.error c.parts.invariant
    (omega (arith, false-eqb (length c.parts.rest.now) 0 c.parts-test.ensures))
    (sym c.in-Err.is ∙ c.first_part.ensures.value)

pub returns-clause-whole : goal.returns-clause-whole
returns-clause-whole c =
    underway_end c.args.text.now (map token_of c.parts.items.items) c.parts.spot c.parts.rest.now c.parts.invariant
    (eqb-true (length c.parts.rest.now) 0 (sym c.parts-test.ensures))
