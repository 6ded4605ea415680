-- A text is read, refused, answered, tested, shown and drilled in one way.
use Rattle.std.proofs.Common.{◌≡◌, ℕ, ◌≤◌, true, List, [], length, Some, refl, ap, sym, ◌∙◌, subst}
use Rattle.std.specs.Prelude.{codes, ℤ, None}
use Rattle.jade_syntax.specs.declared.tree.Program.{Program}
use Rattle.jade_syntax.specs.Image.{program}
use Rattle.jade_syntax.specs.Placed.{PlacedProgram}
use Rattle.jade_syntax.specs.PlacedImage.{placed_program}
use Rattle.jade_syntax.specs.Erased.{erased_program}
use Rattle.jade_syntax.specs.Objects.{input_names}
use Rattle.jade_syntax.specs.Shapes.{is_shaped}
use Rattle.jade_syntax.specs.StaticFaults.{static_faults, first_fault}
use Rattle.jade_syntax.specs.declared.static_fault.StaticFault.{StaticFault}
use Rattle.jade_gen.specs.Drill.{drill_text}
use Rattle.jade_meaning.specs.Answer.{answer, Cells}
use Rattle.jade_meaning.specs.Serial.{Store}
use Rattle.jade_run.specs.declared.status.Status.{Status}
use Rattle.jade_run.specs.declared.status.Status.TheVariants.{Good}
use Rattle.jade_base.specs.declared.place.Pos.{Pos}
use Rattle.jade_lexer.specs.declared.lexeme.LexError.{LexError}
use Rattle.jade_lexer.specs.declared.lexeme.LexError.TheVariants.{Byte, Number, Deep, Memory as LexMemory}
use Rattle.jade_lexer.specs.Lexemes.{TokenList}
use Rattle.jade_lexer.specs.Reading.{reading, Whole, Refused as Unlexed}
use Rattle.jade_layout.specs.Spelling.{spelling}
use Rattle.jade_layout.specs.Layout.{layout}
use Rattle.jade_parser.specs.declared.ParseError.{ParseError}
use Rattle.jade_parser.specs.declared.ParseError.TheVariants.{Token as AtToken, Long, Memory as ParseMemory}
use Rattle.jade_parser.specs.Grammar.{IsReading, IsRefusal, bytes_of}
use Rattle.jade_parser.specs.Programs.{program_parts}
use Rattle.jade_parser.specs.OneReading.{SameRefusal, IsMemory}
use Rattle.jade_reading.specs.Reading.{ReadsAs}
use Rattle.jade_meaning.specs.Turns.{in_order}
use Rattle.jade_run.specs.Answered.{
  TurnLists,
  IsAnswered,
  IsExpanded,
  IsGood,
  IsRead,
  IsShown,
  IsTested,
  IsDrilled,
  IsWrong,
  NotRead,
  RefusedAs,
  RefusedFor,
  refused,
  answered,
  miscounted,
  good,
  not_good,
  shown,
  not_shown,
  expanded,
  not_expanded,
  summed,
  not_summed,
  unexpanded,
  unread,
  no_program,
  wrong,
  unlexed,
  token,
  long,
  answer_text,
  answer_status,
  input_count,
}
use Rattle.jade_meaning.specs.Moved.{moved_answer}
use Rattle.jade_run.specs.Standing.{NotExpanded, first_place, byte, number, deep, not_lexed, improper}
use Rattle.jade_run.specs.Outcome.{SameOutcome}
use Rattle.jade_run.specs.Sums.{sum_of_cells}
use Rattle.jade_run.specs.Texts.{refused_text, numbers_text, static_word, drilled_text}
use Rattle.jade_run.proofs.Standings.{lexed_or_improper, not_whole, same_improper, same_stands, stands_or_not, whole_is}

-- ---- a text is refused at one place and for one reason, or not

abbrev lexical_place : LexError → Pos
lexical_place (Byte p) = p
lexical_place (Number p) = p
lexical_place (Deep p) = p
lexical_place LexMemory = first_place

abbrev lexical_word : LexError → List ℕ
lexical_word (Byte p) = codes "byte"
lexical_word (Number p) = codes "number"
lexical_word (Deep p) = codes "deep"
lexical_word LexMemory = []

abbrev error_place : ParseError → Pos
error_place (AtToken p) = p
error_place (Long p) = p
error_place ParseMemory = first_place

abbrev error_word : ParseError → List ℕ
error_word (AtToken p) = codes "token"
error_word (Long p) = codes "long"
error_word ParseMemory = []

-- how tokens are read, as it is proved of the parser
pub record Parses : Type 0 where
  pub one_spelling : (ts : TokenList) (p q : Program) → IsReading ts p → IsReading ts q → bytes_of (program_parts p) ≡ bytes_of (program_parts q)
  pub refusal : (ts : TokenList) (e f : ParseError) → IsRefusal ts e → IsRefusal ts f → SameRefusal e f
  pub apart : (ts : TokenList) (p : Program) (e : ParseError) → IsReading ts p → IsRefusal ts e → IsMemory e
  pub alike : (p : Program) → bytes_of (program_parts p) ≡ spelling p
  pub placed : (ts : TokenList) (p q : Program) → IsReading ts p → IsReading ts q → placed_program p ≡ placed_program q
  pub erased : (p : Program) → erased_program (placed_program p) ≡ program p
  pub shaped : (text : List ℕ) (ts : TokenList) (p : Program) → length text ≤ 1048576 → reading text ≡ Whole ts → IsReading ts p → is_shaped p ≡ true

-- a refusal, by the lexer or by the parser
data Refuses (bytes : List ℕ) (place : Pos) (why : List ℕ) : Type 0 where
  lexical : (e : LexError) → reading bytes ≡ Unlexed e → place ≡ lexical_place e → why ≡ lexical_word e → Refuses bytes place why
  grammatical : (ts : TokenList) (e : ParseError) → reading bytes ≡ Whole ts → IsRefusal ts e → (IsMemory e → ⊥) → place ≡ error_place e →
      why ≡ error_word e → Refuses bytes place why

refuses : (bytes : List ℕ) (place : Pos) (why : List ℕ) → RefusedAs bytes place why → Refuses bytes place why
refuses bytes place why (unlexed (byte r w)) = lexical (Byte place) r refl w
refuses bytes place why (unlexed (number r w)) = lexical (Number place) r refl w
refuses bytes place why (unlexed (deep r w)) = lexical (Deep place) r refl w
refuses bytes place why (token ts r h w) = grammatical ts (AtToken place) r h (λ m. m) refl w
refuses bytes place why (long ts r h w) = grammatical ts (Long place) r h (λ m. m) refl w

same_error : (e f : ParseError) → (IsMemory e → ⊥) → (IsMemory f → ⊥) → SameRefusal e f → (error_place e ≡ error_place f) × (error_word e ≡ error_word f)
same_error (AtToken p) (AtToken q) m n s = (s, refl)
same_error (Long p) (Long q) m n s = (s, refl)
same_error (AtToken p) (Long q) m n s = absurd s
same_error (Long p) (AtToken q) m n s = absurd s
same_error ParseMemory f m n s = absurd (m tt)
same_error (AtToken p) ParseMemory m n s = absurd (n tt)
same_error (Long p) ParseMemory m n s = absurd (n tt)

error_is : (e f : LexError) → Unlexed e ≡ Unlexed f → e ≡ f
error_is e f h = cc

same_refuses : Parses → (bytes : List ℕ) (p q : Pos) (v w : List ℕ) → Refuses bytes p v → Refuses bytes q w → (p ≡ q) × (v ≡ w)
same_refuses law bytes p q v w (lexical e r a b) (lexical f s c d) =
    let same : e ≡ f = error_is e f (sym r ∙ s) in
    (a ∙ ap lexical_place same ∙ sym c, b ∙ ap lexical_word same ∙ sym d)
same_refuses law bytes p q v w (lexical e r a b) (grammatical us f s h n c d) = absurd (not_whole (reading bytes) us e s r)
same_refuses law bytes p q v w (grammatical ts e r h m a b) (lexical f s c d) = absurd (not_whole (reading bytes) ts f r s)
same_refuses law bytes p q v w (grammatical ts e r h m a b) (grammatical us f s k n c d) =
    let same : ts ≡ us = whole_is ts us (sym r ∙ s) in
    let both = same_error e f m n (law.refusal us e f (subst (λ z. IsRefusal z e) same h) k) in
    (a ∙ both.0 ∙ sym c, b ∙ both.1 ∙ sym d)

read_and_refused : Parses → (bytes : List ℕ) (tree : Program) (p : Pos) (v : List ℕ) → ReadsAs bytes tree → RefusedAs bytes p v → ⊥
read_and_refused law bytes tree p v r h = by_cases (refuses bytes p v h) where
  by_cases : Refuses bytes p v → ⊥
  by_cases (lexical e h a b) = not_whole (reading bytes) r.tokens e r.whole h
  by_cases (grammatical ts e h k m a b) =
      let same : ts ≡ r.tokens = whole_is ts r.tokens (sym h ∙ r.whole) in
      m (law.apart r.tokens tree e r.read (subst (λ z. IsRefusal z e) same k))

same_reading : Parses → (bytes : List ℕ) (x y : Program) → ReadsAs bytes x → ReadsAs bytes y → layout (spelling x) ≡ layout (spelling y)
same_reading law bytes x y r s =
    let same : r.tokens ≡ s.tokens = whole_is r.tokens s.tokens (sym r.whole ∙ s.whole) in
    ap layout (sym (law.alike x) ∙ law.one_spelling s.tokens x y (subst (λ z. IsReading z x) same r.read) s.read ∙ law.alike y)

read_placed : Parses → (bytes : List ℕ) (x y : Program) → ReadsAs bytes x → ReadsAs bytes y → placed_program x ≡ placed_program y
read_placed law bytes x y r s =
    let same : r.tokens ≡ s.tokens = whole_is r.tokens s.tokens (sym r.whole ∙ s.whole) in
    law.placed s.tokens x y (subst (λ z. IsReading z x) same r.read) s.read

-- ---- bytes are refused at one place and for one reason, or are a program

same_unexpanded : Parses → (bytes : List ℕ) (p q : Pos) (v w : List ℕ) → NotExpanded bytes p v → NotExpanded bytes q w → (p ≡ q) × (v ≡ w)
same_unexpanded law bytes p q v w (not_lexed h) (not_lexed k) =
    same_refuses law bytes p q v w (refuses bytes p v (unlexed h)) (refuses bytes q w (unlexed k))
same_unexpanded law bytes p q v w (not_lexed h) (improper us s m e o i) = absurd (lexed_or_improper bytes us p v s h)
same_unexpanded law bytes p q v w (improper ts r n e o i) (not_lexed k) = absurd (lexed_or_improper bytes ts q w r k)
same_unexpanded law bytes p q v w (improper ts r n d o i) (improper us s m e u j) = same_improper bytes ts us d e p q v w r s o u i j

same_not_read : Parses → (bytes : List ℕ) (p q : Pos) (v w : List ℕ) → NotRead bytes p v → NotRead bytes q w → (p ≡ q) × (v ≡ w)
same_not_read law bytes p q v w (unexpanded h) (unexpanded k) = same_unexpanded law bytes p q v w h k
same_not_read law bytes p q v w (unexpanded h) (unread u k s at r e) = absurd (stands_or_not bytes u k p v s h)
same_not_read law bytes p q v w (unread t h s at r e) (unexpanded k) = absurd (stands_or_not bytes t h q w s k)
same_not_read law bytes p q v w (unread t h st at r e) (unread u k su to s f) =
    let same = same_stands bytes t u h k st su in
    let both = same_refuses law u at to v w (refuses u at v (subst (λ x. RefusedAs x at v) same.0 r)) (refuses u to w s) in
    (e ∙ ap h both.0 ∙ ap (λ (g : Pos → Pos). g to) same.1 ∙ sym f, both.1)

-- what was read of bytes is what is read of them
reads_there : (bytes : List ℕ) (x y : Program) {h k : Pos → Pos} (r : IsRead bytes x h) (s : IsRead bytes y k) → ReadsAs s.text x
reads_there bytes x y {h = h} {k = k} r s = subst (λ t. ReadsAs t x) (same_stands bytes r.text s.text h k r.stands s.stands).0 r.reads

pub same_home : (bytes : List ℕ) (x y : Program) (h k : Pos → Pos) → IsRead bytes x h → IsRead bytes y k → h ≡ k
same_home bytes x y h k r s = (same_stands bytes r.text s.text h k r.stands s.stands).1

read_or_not : Parses → (bytes : List ℕ) (tree : Program) (h : Pos → Pos) (p : Pos) (v : List ℕ) → IsRead bytes tree h → NotRead bytes p v → ⊥
read_or_not law bytes tree h p v r (unexpanded n) = stands_or_not bytes r.text h p v r.stands n
read_or_not law bytes tree h p v r (unread u k s at n e) =
    read_and_refused law u tree at v (subst (λ t. ReadsAs t tree) (same_stands bytes r.text u h k r.stands s).0 r.reads) n

same_layout : Parses → (bytes : List ℕ) (x y : Program) {h k : Pos → Pos} → IsRead bytes x h → IsRead bytes y k → layout (spelling x) ≡ layout (spelling y)
same_layout law bytes x y r s = same_reading law s.text x y (reads_there bytes x y r s) s.reads

-- ---- a text is one program, but for where its boxes lie

same_placed : Parses → (bytes : List ℕ) (x y : Program) {h k : Pos → Pos} → IsRead bytes x h → IsRead bytes y k → placed_program x ≡ placed_program y
same_placed law bytes x y r s = read_placed law s.text x y (reads_there bytes x y r s) s.reads

pub same_program : Parses → (bytes : List ℕ) (x y : Program) {h k : Pos → Pos} → IsRead bytes x h → IsRead bytes y k → program x ≡ program y
same_program law bytes x y r s = sym (law.erased x) ∙ ap erased_program (same_placed law bytes x y r s) ∙ law.erased y

pub same_count : Parses → (bytes : List ℕ) (x y : Program) {h k : Pos → Pos} → IsRead bytes x h → IsRead bytes y k → input_count x ≡ input_count y
same_count law bytes x y r s = ap (λ (p : PlacedProgram). length (input_names p.items)) (same_placed law bytes x y r s)

none_or_some : (f : StaticFault) (o : _) → o ≡ None → o ≡ Some f → ⊥
none_or_some f o e g = absurd (cc)

pub good_or_refused : Parses → (bytes : List ℕ) (x : Program) {h : Pos → Pos} (p : Pos) (v : List ℕ) → IsGood bytes x h → RefusedFor bytes p v → ⊥
good_or_refused law bytes x {h = h} p v g (no_program n) = read_or_not law bytes x h p v g.read n
good_or_refused law bytes x p v g (wrong w) =
    none_or_some _ (first_fault (static_faults (placed_program w.tree)))
    (ap (λ q. first_fault (static_faults q)) (sym (same_placed law bytes x w.tree g.read w.read)) ∙ ap first_fault g.faultless) w.first

some_is : (f g : StaticFault) → Some f ≡ Some g → f ≡ g
some_is f g e = cc

same_wrong : Parses → (bytes : List ℕ) (p q : Pos) (v w : List ℕ) → IsWrong bytes p v → IsWrong bytes q w → (p ≡ q) × (v ≡ w)
same_wrong law bytes p q v w h k =
    let same = some_is _ _ (sym h.first ∙ ap (λ x. first_fault (static_faults x)) (same_placed law bytes h.tree k.tree h.read k.read) ∙ k.first) in
    let homes = same_home bytes h.tree k.tree h.home k.home h.read k.read in (
      h.comes ∙ ap (λ (f : StaticFault). h.home f.pos) same ∙ ap (λ (g : Pos → Pos). g k.at) homes ∙ sym k.comes,
      h.named ∙ ap (λ (f : StaticFault). static_word f.kind) same ∙ sym k.named,
    )

one_text : (p q : Pos) (v w : List ℕ) → (p ≡ q) × (v ≡ w) → refused_text p v ≡ refused_text q w
one_text p q v w both = ap (λ z. refused_text z v) both.0 ∙ ap (refused_text q) both.1

same_refusal : Parses → (bytes : List ℕ) (p q : Pos) (v w : List ℕ) → RefusedFor bytes p v → RefusedFor bytes q w → refused_text p v ≡ refused_text q w
same_refusal law bytes p q v w (no_program h) (no_program k) = one_text p q v w (same_not_read law bytes p q v w h k)
same_refusal law bytes p q v w (no_program h) (wrong k) = absurd (read_or_not law bytes k.tree k.home p v k.read h)
same_refusal law bytes p q v w (wrong h) (no_program k) = absurd (read_or_not law bytes h.tree h.home q w h.read k)
same_refusal law bytes p q v w (wrong h) (wrong k) = one_text p q v w (same_wrong law bytes p q v w h k)

pub same_answers : Parses → (bytes : List ℕ) (numbers : List ℤ) (limit : ℕ) (turns : TurnLists) (t u : List ℕ) (s r : Status) → IsAnswered bytes numbers limit turns t s →
    IsAnswered bytes numbers limit turns u r → SameOutcome t s u r
same_answers law bytes numbers limit turns t u s r (answered x f g n a) (answered y e h m b) =
    let same = same_program law bytes x y g.read h.read in
    let homes : f ≡ e = same_home bytes x y f e g.read h.read in
    record {
      text = a.shown ∙ ap (λ p. answer_text p (moved_answer f (answer p numbers limit turns))) same
          ∙ ap (λ (z : Pos → Pos). answer_text (program y) (moved_answer z (answer (program y) numbers limit turns))) homes ∙ sym b.shown;
      status = a.ended ∙ ap (λ p. answer_status (moved_answer f (answer p numbers limit turns))) same
          ∙ ap (λ (z : Pos → Pos). answer_status (moved_answer z (answer (program y) numbers limit turns))) homes ∙ sym b.ended;
    }
same_answers law bytes numbers limit turns t u s r (answered x f g n a) (miscounted y e h m c d) = absurd (m (n ∙ same_count law bytes x y g.read h.read))
same_answers law bytes numbers limit turns t u s r (answered x f g n a) (refused q w k c d) = absurd (good_or_refused law bytes x q w g k)
same_answers law bytes numbers limit turns t u s r (miscounted x f g n a b) (answered y e h m c) = absurd (n (m ∙ same_count law bytes y x h.read g.read))
same_answers law bytes numbers limit turns t u s r (miscounted x f g n a b) (miscounted y e h m c d) =
    record { text = a ∙ ap (λ k. numbers_text k (length numbers)) (same_count law bytes x y g.read h.read) ∙ sym c; status = b ∙ sym d }
same_answers law bytes numbers limit turns t u s r (miscounted x f g n a b) (refused q w k c d) = absurd (good_or_refused law bytes x q w g k)
same_answers law bytes numbers limit turns t u s r (refused p v h a b) (answered y e k m c) = absurd (good_or_refused law bytes y p v k h)
same_answers law bytes numbers limit turns t u s r (refused p v h a b) (miscounted y e k m c d) = absurd (good_or_refused law bytes y p v k h)
same_answers law bytes numbers limit turns t u s r (refused p v h a b) (refused q w k c d) =
    record { text = a ∙ same_refusal law bytes p q v w h k ∙ sym c; status = b ∙ sym d }

pub same_tested : Parses → (bytes t u : List ℕ) (s r : Status) → IsTested bytes t s → IsTested bytes u r → SameOutcome t s u r
same_tested law bytes t u s r (good x f g a b) (good y e h c d) = record { text = a ∙ sym c; status = b ∙ sym d }
same_tested law bytes t u s r (good x f g a b) (not_good q w k c d) = absurd (good_or_refused law bytes x q w g k)
same_tested law bytes t u s r (not_good p v h a b) (good y e k c d) = absurd (good_or_refused law bytes y p v k h)
same_tested law bytes t u s r (not_good p v h a b) (not_good q w k c d) = record { text = a ∙ same_refusal law bytes p q v w h k ∙ sym c; status = b ∙ sym d }

pub same_shown : Parses → (bytes t u : List ℕ) (s r : Status) → IsShown bytes t s → IsShown bytes u r → SameOutcome t s u r
same_shown law bytes t u s r (shown x f h a b) (shown y e k c d) = record { text = a ∙ same_layout law bytes x y h k ∙ sym c; status = b ∙ sym d }
same_shown law bytes t u s r (shown x f h a b) (not_shown q w k c d) = absurd (read_or_not law bytes x f q w h k)
same_shown law bytes t u s r (not_shown p v h a b) (shown y e k c d) = absurd (read_or_not law bytes y e p v k h)
same_shown law bytes t u s r (not_shown p v h a b) (not_shown q w k c d) =
    record { text = a ∙ one_text p q v w (same_not_read law bytes p q v w h k) ∙ sym c; status = b ∙ sym d }

pub same_expanded : Parses → (bytes t u : List ℕ) (s r : Status) → IsExpanded bytes t s → IsExpanded bytes u r → SameOutcome t s u r
same_expanded law bytes t u s r (expanded f h b) (expanded e k d) = record { text = (same_stands bytes t u f e h k).0; status = b ∙ sym d }
same_expanded law bytes t u s r (expanded f h b) (not_expanded q w k c d) = absurd (stands_or_not bytes t f q w h k)
same_expanded law bytes t u s r (not_expanded p v h a b) (expanded e k d) = absurd (stands_or_not bytes u e p v k h)
same_expanded law bytes t u s r (not_expanded p v h a b) (not_expanded q w k c d) =
    record { text = a ∙ one_text p q v w (same_unexpanded law bytes p q v w h k) ∙ sym c; status = b ∙ sym d }

-- a text whose answer is the cells of a store is answered well
well : Parses → (bytes : List ℕ) (x : Program) (f : Pos → Pos) (limit : ℕ) (turns : TurnLists) (store : Store) (t : List ℕ) (s : Status) → IsGood bytes x f
    → input_count x ≡ 0 → answer (program x) [] limit turns ≡ Cells store → IsAnswered bytes [] limit turns t s → s ≡ Good
well law bytes x f limit turns store t s g n e (answered y k h m a) =
    a.ended ∙ ap (λ p. answer_status (moved_answer k (answer p [] limit turns))) (same_program law bytes y x h.read g.read) ∙ ap (λ z. answer_status (moved_answer k z)) e
well law bytes x f limit turns store t s g n e (miscounted y k h m a b) = absurd (m (sym n ∙ same_count law bytes x y g.read h.read))
well law bytes x f limit turns store t s g n e (refused q w k a b) = absurd (good_or_refused law bytes x q w g k)

cells_are : (a b : Store) → Cells a ≡ Cells b → a ≡ b
cells_are a b e = cc

pub same_drilled : Parses → (n : ℕ) (t u : List ℕ) (s r : Status) → IsDrilled n t s → IsDrilled n u r → SameOutcome t s u r
same_drilled law n t u s r (summed x i g z a e v w) (summed y j h k b f c d) =
    let same = same_program law (drill_text n) y x h.read g.read in
    let store : a ≡ b = cells_are a b (sym e ∙ sym (ap (λ p. answer p [] 4294967295 in_order) same) ∙ f) in
    record { text = v ∙ ap (λ l. drilled_text n (sum_of_cells l)) store ∙ sym c; status = w ∙ sym d }
same_drilled law n t u s r (summed x i g z a e v w) (not_summed k bad) = absurd (bad (well law (drill_text n) x i 4294967295 in_order a u r g z e k))
same_drilled law n t u s r (not_summed k bad) (summed x i g z a e v w) = absurd (bad (well law (drill_text n) x i 4294967295 in_order a t s g z e k))
same_drilled law n t u s r (not_summed h bad) (not_summed k worse) = same_answers law (drill_text n) [] 4294967295 in_order t u s r h k
