-- What the tokens that are written for a source read as answers what the source answers.
use Rattle.std.proofs.Common.{◌≡◌, ℕ, List, [], map}
use Rattle.std.specs.Prelude.{ℤ, None}
use Rattle.jade_base.specs.declared.place.Pos.{Pos}
use Rattle.jade_lexer.specs.Lexemes.{TokenList}
use Rattle.jade_lexer.specs.Reading.{reading, Whole}
use Rattle.jade_syntax.specs.declared.tree.Program.{Program}
use Rattle.jade_syntax.specs.Erased.{erased_program}
use Rattle.jade_syntax.specs.Image.{program}
use Rattle.jade_syntax.specs.PlacedImage.{placed_program}
use Rattle.jade_syntax.specs.StaticFaults.{static_faults}
use Rattle.jade_parser.specs.Grammar.{IsReading, texts, positions}
use Rattle.jade_meaning.specs.Serial.{Path}
use Rattle.jade_meaning.specs.Answer.{answer}
use Rattle.proc_expand.specs.Expanded.{origin_of}
use Rattle.proc_expand.specs.Refusals.{refusal}
use Rattle.proc_expand.specs.Written.{text_names, fresh_name, expansion, expanded_text}
use Rattle.jade_meaning.specs.Moved.{moved_answer}
use Rattle.proc_laws.specs.SourceAnswer.{source_answer}
use Rattle.proc_laws.specs.SourceTree.{SourceText, source_of}
use Rattle.proc_laws.specs.SourceReading.{IsSourceReading, expanded_tokens}
use Rattle.proc_laws.proofs.MovedAnswers.{answers_follow}
use Rattle.proc_laws.proofs.TokensToSource.{sizes_same}
use Rattle.proc_laws.proofs.TextPlaces.{places_come}
use Rattle.proc_laws.proofs.TextRead.{text_read}
use Rattle.proc_laws.proofs.WrittenMeaning.{there_reads, written_does}
use Rattle.proc_laws.proofs.WrittenTree.{all_tokens}

module _ (whole : (p : Program) → erased_program (placed_program p) ≡ program p)
    (one : (tokens : TokenList) (p q : Program) → IsReading tokens p → IsReading tokens q → placed_program p ≡ placed_program q) where
  pub written_answers : (origin : Pos → Pos) (l : TokenList) (q : SourceText) → IsSourceReading l q → refusal l.lexemes ≡ None
      → (there : TokenList) → texts there ≡ texts (expanded_tokens l) → map origin (positions there) ≡ positions (expanded_tokens l)
      → (p : Program) → IsReading there p → static_faults (placed_program p) ≡ [] → (ns : List ℤ) (limit : ℕ) (turns : ℕ → List Path)
      → moved_answer origin (answer (program p) ns limit turns) ≡ source_answer (source_of q) ns limit turns
  written_answers origin l q r none_refused there e f p read faultless ns limit turns =
      answers_follow origin (program p) (source_of q)
      (sizes_same whole one origin (fresh_name (text_names l.lexemes l.end)) q there (there_reads origin l q r none_refused there e f p read) p read) ns limit
      (written_does whole one origin l q r none_refused there e f p read faultless ns limit) turns

  -- the text that is written, where it reads as tokens
  pub text_answers : (l : TokenList) (q : SourceText) → IsSourceReading l q → refusal l.lexemes ≡ None → (there : TokenList)
      → reading (expanded_text l) ≡ Whole there → (p : Program) → IsReading there p → static_faults (placed_program p) ≡ [] → (ns : List ℤ) (limit : ℕ)
      → (turns : ℕ → List Path)
      → moved_answer (origin_of (record { tokens = expansion l.lexemes l.end; end = l.end })) (answer (program p) ns limit turns)
      ≡ source_answer (source_of q) ns limit turns
  text_answers l q r none_refused there e p read faultless ns limit turns =
      let h = all_tokens l q r none_refused in
      written_answers (origin_of (record { tokens = expansion l.lexemes l.end; end = l.end })) l q r none_refused there (text_read l there h e)
      (places_come l there h e) p read faultless ns limit turns
