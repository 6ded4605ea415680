-- What each word begins, in each place.
use Rattle.std.proofs.Common.{refl}
use Rattle.jade_syntax.specs.declared.shapes.place.BlockKind.{BlockKind}
use Rattle.jade_syntax.specs.declared.shapes.place.BlockKind.TheVariants.{Main, Section, Amends}
use Rattle.jade_parser.specs.declared.Sign.{Sign}
use Rattle.jade_parser.specs.declared.Sign.TheVariants.{TrueWord, FalseWord, LeftParen, RightParen}
use Rattle.jade_parser.specs.declared.Sign.TheVariants.{LeftBracket, RightBracket, OrSign, AndSign, EqualSign}
use Rattle.jade_parser.specs.declared.Sign.TheVariants.{UnequalSign, LessSign, LessEqualSign, GreaterSign}
use Rattle.jade_parser.specs.declared.Sign.TheVariants.{GreaterEqualSign, PlusSign, MinusSign, TimesSign}
use Rattle.jade_parser.specs.declared.Sign.TheVariants.{OverSign, PercentSign, NotSign, Semicolon, Becomes}
use Rattle.jade_parser.specs.declared.Sign.TheVariants.{LeftBrace, RightBrace, IfWord, ElseWord, ForWord}
use Rattle.jade_parser.specs.declared.Sign.TheVariants.{InWord, DotDot, IntWord, BoolWord, WithonlyWord}
use Rattle.jade_parser.specs.declared.Sign.TheVariants.{WithWord, DoWord, ContWord, Comma, RdWord, WrWord}
use Rattle.jade_parser.specs.declared.Sign.TheVariants.{RdWrWord, DfRdWord, DfWrWord, DfRdWrWord, CmWord, NoRdWord}
use Rattle.jade_parser.specs.declared.Sign.TheVariants.{NoWrWord, NoRdWrWord, InputWord, ObjectWord}
use Rattle.jade_parser.specs.declared.Sign.TheVariants.{ObjectsWord, MainWord, Colon}
use Rattle.jade_parser.specs.steps.Begins.{begin_of, Predicts}

pub predicted : (c : BlockKind) (s : Sign) → Predicts c s (begin_of c s)
predicted Main TrueWord = λ st. refl
predicted Main FalseWord = λ st. refl
predicted Main LeftParen = λ st. refl
predicted Main RightParen = λ st. refl
predicted Main LeftBracket = λ st. refl
predicted Main RightBracket = λ st. refl
predicted Main OrSign = λ st. refl
predicted Main AndSign = λ st. refl
predicted Main EqualSign = λ st. refl
predicted Main UnequalSign = λ st. refl
predicted Main LessSign = λ st. refl
predicted Main LessEqualSign = λ st. refl
predicted Main GreaterSign = λ st. refl
predicted Main GreaterEqualSign = λ st. refl
predicted Main PlusSign = λ st. refl
predicted Main MinusSign = λ st. refl
predicted Main TimesSign = λ st. refl
predicted Main OverSign = λ st. refl
predicted Main PercentSign = λ st. refl
predicted Main NotSign = λ st. refl
predicted Main Semicolon = λ st. refl
predicted Main Becomes = λ st. refl
predicted Main LeftBrace = λ st. refl
predicted Main RightBrace = refl
predicted Main IfWord = (refl, λ st. refl)
predicted Main ElseWord = λ st. refl
predicted Main ForWord = (refl, λ st. refl)
predicted Main InWord = λ st. refl
predicted Main DotDot = λ st. refl
predicted Main IntWord = (refl, λ st. refl)
predicted Main BoolWord = (refl, λ st. refl)
predicted Main WithonlyWord = (refl, refl, λ st. refl)
predicted Main WithWord = (refl, refl, λ st. refl)
predicted Main DoWord = λ st. refl
predicted Main ContWord = λ st. refl
predicted Main Comma = λ st. refl
predicted Main RdWord = λ st. refl
predicted Main WrWord = λ st. refl
predicted Main RdWrWord = λ st. refl
predicted Main DfRdWord = λ st. refl
predicted Main DfWrWord = λ st. refl
predicted Main DfRdWrWord = λ st. refl
predicted Main CmWord = λ st. refl
predicted Main NoRdWord = λ st. refl
predicted Main NoWrWord = λ st. refl
predicted Main NoRdWrWord = λ st. refl
predicted Main InputWord = λ st. refl
predicted Main ObjectWord = λ st. refl
predicted Main ObjectsWord = λ st. refl
predicted Main MainWord = λ st. refl
predicted Main Colon = λ st. refl
predicted Section TrueWord = λ st. refl
predicted Section FalseWord = λ st. refl
predicted Section LeftParen = λ st. refl
predicted Section RightParen = λ st. refl
predicted Section LeftBracket = λ st. refl
predicted Section RightBracket = λ st. refl
predicted Section OrSign = λ st. refl
predicted Section AndSign = λ st. refl
predicted Section EqualSign = λ st. refl
predicted Section UnequalSign = λ st. refl
predicted Section LessSign = λ st. refl
predicted Section LessEqualSign = λ st. refl
predicted Section GreaterSign = λ st. refl
predicted Section GreaterEqualSign = λ st. refl
predicted Section PlusSign = λ st. refl
predicted Section MinusSign = λ st. refl
predicted Section TimesSign = λ st. refl
predicted Section OverSign = λ st. refl
predicted Section PercentSign = λ st. refl
predicted Section NotSign = λ st. refl
predicted Section Semicolon = λ st. refl
predicted Section Becomes = λ st. refl
predicted Section LeftBrace = λ st. refl
predicted Section RightBrace = refl
predicted Section IfWord = (refl, λ st. refl)
predicted Section ElseWord = λ st. refl
predicted Section ForWord = (refl, λ st. refl)
predicted Section InWord = λ st. refl
predicted Section DotDot = λ st. refl
predicted Section IntWord = (refl, λ st. refl)
predicted Section BoolWord = (refl, λ st. refl)
predicted Section WithonlyWord = λ st. refl
predicted Section WithWord = λ st. refl
predicted Section DoWord = λ st. refl
predicted Section ContWord = λ st. refl
predicted Section Comma = λ st. refl
predicted Section RdWord = (refl, refl, λ st. refl)
predicted Section WrWord = (refl, refl, λ st. refl)
predicted Section RdWrWord = (refl, refl, λ st. refl)
predicted Section DfRdWord = (refl, refl, λ st. refl)
predicted Section DfWrWord = (refl, refl, λ st. refl)
predicted Section DfRdWrWord = (refl, refl, λ st. refl)
predicted Section CmWord = (refl, refl, λ st. refl)
predicted Section NoRdWord = λ st. refl
predicted Section NoWrWord = λ st. refl
predicted Section NoRdWrWord = λ st. refl
predicted Section InputWord = λ st. refl
predicted Section ObjectWord = λ st. refl
predicted Section ObjectsWord = λ st. refl
predicted Section MainWord = λ st. refl
predicted Section Colon = λ st. refl
predicted Amends TrueWord = λ st. refl
predicted Amends FalseWord = λ st. refl
predicted Amends LeftParen = λ st. refl
predicted Amends RightParen = λ st. refl
predicted Amends LeftBracket = λ st. refl
predicted Amends RightBracket = λ st. refl
predicted Amends OrSign = λ st. refl
predicted Amends AndSign = λ st. refl
predicted Amends EqualSign = λ st. refl
predicted Amends UnequalSign = λ st. refl
predicted Amends LessSign = λ st. refl
predicted Amends LessEqualSign = λ st. refl
predicted Amends GreaterSign = λ st. refl
predicted Amends GreaterEqualSign = λ st. refl
predicted Amends PlusSign = λ st. refl
predicted Amends MinusSign = λ st. refl
predicted Amends TimesSign = λ st. refl
predicted Amends OverSign = λ st. refl
predicted Amends PercentSign = λ st. refl
predicted Amends NotSign = λ st. refl
predicted Amends Semicolon = λ st. refl
predicted Amends Becomes = λ st. refl
predicted Amends LeftBrace = λ st. refl
predicted Amends RightBrace = refl
predicted Amends IfWord = (refl, λ st. refl)
predicted Amends ElseWord = λ st. refl
predicted Amends ForWord = (refl, λ st. refl)
predicted Amends InWord = λ st. refl
predicted Amends DotDot = λ st. refl
predicted Amends IntWord = (refl, λ st. refl)
predicted Amends BoolWord = (refl, λ st. refl)
predicted Amends WithonlyWord = λ st. refl
predicted Amends WithWord = λ st. refl
predicted Amends DoWord = λ st. refl
predicted Amends ContWord = λ st. refl
predicted Amends Comma = λ st. refl
predicted Amends RdWord = (refl, refl, λ st. refl)
predicted Amends WrWord = (refl, refl, λ st. refl)
predicted Amends RdWrWord = (refl, refl, λ st. refl)
predicted Amends DfRdWord = λ st. refl
predicted Amends DfWrWord = λ st. refl
predicted Amends DfRdWrWord = λ st. refl
predicted Amends CmWord = λ st. refl
predicted Amends NoRdWord = (refl, refl, λ st. refl)
predicted Amends NoWrWord = (refl, refl, λ st. refl)
predicted Amends NoRdWrWord = (refl, refl, λ st. refl)
predicted Amends InputWord = λ st. refl
predicted Amends ObjectWord = λ st. refl
predicted Amends ObjectsWord = λ st. refl
predicted Amends MainWord = λ st. refl
predicted Amends Colon = λ st. refl
