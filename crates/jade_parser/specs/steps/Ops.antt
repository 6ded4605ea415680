-- What the signs of operators and of declarations are in a tree.
use Rattle.std.specs.Prelude.{Option, Some, None}
use Rattle.jade_parser.specs.declared.Sign.{Sign}
use Rattle.jade_parser.specs.declared.Sign.TheVariants.{EqualSign, UnequalSign, LessSign, LessEqualSign}
use Rattle.jade_parser.specs.declared.Sign.TheVariants.{GreaterSign, GreaterEqualSign, PlusSign, MinusSign}
use Rattle.jade_parser.specs.declared.Sign.TheVariants.{TimesSign, OverSign, PercentSign, NotSign, RdWord}
use Rattle.jade_parser.specs.declared.Sign.TheVariants.{WrWord, RdWrWord, DfRdWord, DfWrWord, DfRdWrWord, CmWord}
use Rattle.jade_parser.specs.declared.Sign.TheVariants.{NoRdWord, NoWrWord, NoRdWrWord}
use Rattle.jade_syntax.specs.declared.tree.Relation.{Relation}
use Rattle.jade_syntax.specs.declared.tree.Relation.TheVariants.{Equal, Unequal, Less, LessEqual, Greater, GreaterEqual}
use Rattle.jade_syntax.specs.declared.tree.SumOp.{SumOp}
use Rattle.jade_syntax.specs.declared.tree.SumOp.TheVariants.{Plus, Minus}
use Rattle.jade_syntax.specs.declared.tree.ProductOp.{ProductOp}
use Rattle.jade_syntax.specs.declared.tree.ProductOp.TheVariants.{Times, Over, Remainder}
use Rattle.jade_syntax.specs.declared.tree.UnaryOp.{UnaryOp}
use Rattle.jade_syntax.specs.declared.tree.UnaryOp.TheVariants.{Negative, Not}
use Rattle.jade_syntax.specs.declared.tree.DeclareWord.{DeclareWord}
use Rattle.jade_syntax.specs.declared.tree.DeclareWord.TheVariants.{Rd, Wr, RdWr, DfRd, DfWr, DfRdWr, Cm, NoRd, NoWr, NoRdWr}

-- the operator of a sum
abbrev pub sum_of : Sign → Option SumOp
sum_of PlusSign = Some Plus
sum_of MinusSign = Some Minus
sum_of s = None

-- the operator of a product
abbrev pub product_of : Sign → Option ProductOp
product_of TimesSign = Some Times
product_of OverSign = Some Over
product_of PercentSign = Some Remainder
product_of s = None

-- a relation
abbrev pub relation_of : Sign → Option Relation
relation_of EqualSign = Some Equal
relation_of UnequalSign = Some Unequal
relation_of LessSign = Some Less
relation_of LessEqualSign = Some LessEqual
relation_of GreaterSign = Some Greater
relation_of GreaterEqualSign = Some GreaterEqual
relation_of s = None

-- a sign before an operand
abbrev pub unary_of : Sign → Option UnaryOp
unary_of MinusSign = Some Negative
unary_of NotSign = Some Not
unary_of s = None

-- the word of a declaration
abbrev pub declare_of : Sign → Option DeclareWord
declare_of RdWord = Some Rd
declare_of WrWord = Some Wr
declare_of RdWrWord = Some RdWr
declare_of DfRdWord = Some DfRd
declare_of DfWrWord = Some DfWr
declare_of DfRdWrWord = Some DfRdWr
declare_of CmWord = Some Cm
declare_of NoRdWord = Some NoRd
declare_of NoWrWord = Some NoWr
declare_of NoRdWrWord = Some NoRdWr
declare_of s = None
