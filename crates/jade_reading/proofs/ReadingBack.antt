-- The printed text of a shaped program reads as the same tree but for places.
use Rattle.std.proofs.Common.{◌≡◌, true, sym, ap, ◌∙◌}
use Rattle.jade_syntax.specs.declared.tree.Program.{Program}
use Rattle.jade_syntax.specs.Shapes.{is_shaped}
use Rattle.jade_layout.specs.Layout.{layout}
use Rattle.jade_layout.specs.Readable.{ReadsAs}
use Rattle.jade_layout.specs.Spelling.{spelling}
use Rattle.jade_parser.specs.Programs.{program_parts}
use Rattle.jade_parser.specs.Grammar.{bytes_of, texts}
use Rattle.jade_reading.proofs.Same.{program_alike}
use Rattle.jade_reading.specs.ReadingBack.{ReadsBack}
use Rattle.jade_reading.proofs.OneTree.{spelled_same}
use Rattle.jade_reading.proofs.ShapeNotRefused.{not_refused}
use Rattle.jade_reading.proofs.ReadingIsShaped.{program_if_shaped}

pub reads_back : (p : Program) → is_shaped p ≡ true → ReadsAs (layout (spelling p)) (spelling p) → ReadsBack p
reads_back p e r =
    let sound = program_if_shaped p e in
    let same : bytes_of (program_parts p) ≡ texts r.tokens = program_alike p ∙ sym r.same in
    record {
      tokens = r.tokens;
      whole = r.whole;
      taken = λ e h. not_refused r.tokens p e sound.0 sound.1 same h;
      same = λ q h. spelled_same q p h.sound sound.0 (h.spelled ∙ sym same);
      again = λ q h. ap layout (sym (program_alike q) ∙ h.spelled ∙ r.same);
    }
