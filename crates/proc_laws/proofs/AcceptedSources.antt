-- For each text that is not refused, and for which a program is written, there is a source, and the program answers what it answers.
use Rattle.std.proofs.Common.{◌≡◌, ℕ, List, [], length, map, sym, subst}
use Rattle.std.specs.Prelude.{None}
use Rattle.std.proofs.lemmas.List.{append-nil}
use Rattle.jade_base.specs.declared.place.Pos.{Pos}
use Rattle.jade_lexer.specs.Cut.{IsCut}
use Rattle.jade_lexer.specs.Lexemes.{TokenAt, TokenList}
use Rattle.jade_lexer.specs.Reading.{reading, Whole}
use Rattle.jade_syntax.specs.declared.tree.Program.{Program}
use Rattle.jade_syntax.specs.Erased.{erased_program}
use Rattle.jade_syntax.specs.Image.{program}
use Rattle.jade_syntax.specs.PlacedImage.{placed_program}
use Rattle.jade_syntax.specs.StaticFaults.{static_faults}
use Rattle.jade_parser.specs.Statements.{braced, statement_parts}
use Rattle.jade_parser.specs.Grammar.{IsReading}
use Rattle.proc_expand.specs.Words.{signs}
use Rattle.proc_expand.specs.Refusals.{refusal}
use Rattle.proc_expand.specs.Written.{MadeToken, expanded_text}
use Rattle.proc_laws.specs.AcceptedSource.{ReadsAsSource, AnswersAsSource}
use Rattle.proc_laws.proofs.WrittenTree.{calls_follow}
use Rattle.proc_laws.proofs.WrittenAnswers.{text_answers}
use Rattle.proc_laws.proofs.TokensAhead.{Says}
use Rattle.proc_laws.proofs.Begun.{begun}
use Rattle.proc_laws.proofs.CallsWalk.{main_read}
use Rattle.proc_laws.proofs.Unrefused.{all_facts}
use Rattle.proc_laws.proofs.AcceptedText.{MainReads, source_read, same_texts}

mains : (ts : List TokenAt) (end : Pos) → refusal ts ≡ None → MainReads ts end
mains ts end ok = record {
  by = λ k m ys e s.
      let r = main_read ts end (calls_follow ts ok) (begun (signs ts) (length ts)) (all_facts ts end ok) k m 0 ys e
      (subst (λ (us : List MadeToken). Says us (braced (map statement_parts ys))) (sym (append-nil _)) s) in
      record { main = r.main; reads = r.reads; ends = r.ends; sound = r.sound };
}

module _ (cut : (text : List ℕ) (tokens : TokenList) → reading text ≡ Whole tokens → IsCut text tokens) where
  pub accepted_reads : (text : List ℕ) (l : TokenList) → reading text ≡ Whole l → refusal l.lexemes ≡ None → (there : TokenList)
      → reading (expanded_text l) ≡ Whole there → (p : Program) → IsReading there p → ReadsAsSource l
  accepted_reads text l h ok there r p read =
      source_read l ok there (same_texts cut text l h there r) p read (all_facts l.lexemes l.end ok) (mains l.lexemes l.end ok)

  pub accepted_answers : ((p : Program) → erased_program (placed_program p) ≡ program p)
      → ((tokens : TokenList) (p q : Program) → IsReading tokens p → IsReading tokens q → placed_program p ≡ placed_program q)
      → (text : List ℕ) (l : TokenList) → reading text ≡ Whole l → refusal l.lexemes ≡ None → (there : TokenList)
      → reading (expanded_text l) ≡ Whole there → (p : Program) → IsReading there p → static_faults (placed_program p) ≡ [] → AnswersAsSource l p
  accepted_answers whole one text l h ok there r p read faultless =
      let s = accepted_reads text l h ok there r p read in
      record {
        source = s.source;
        is = s.is;
        answers = λ ns limit turns. text_answers whole one l s.source s.is ok there r p read faultless ns limit turns;
      }
