-- What a recording of a run keeps: its numbers fit, and its answer has at most 4,096 lines.
use Rattle.std.proofs.Common.{◌≡◌, ℕ, zero, suc, ◌+◌, ◌/◌, ◌%◌, ◌<◌, ◌≤◌, ◌==◌, Bool, true, false, List, [], ◌∷◌, ◌++◌, length, map, take, codes, Option, Some, None, refl, ap, sym, ◌∙◌, subst, arith, append_assoc, nat_lt, if◌then◌else◌, All, ◌⊎◌, inl, inr}
use Rattle.std.specs.Prelude.{ℤ, pos, negsuc, Result, Ok, Err, IfOk}
use Rattle.std.specs.List.{join_with_byte, list_all, slice_get}
use Rattle.std.specs.Fmt.{decimal, digit_glyph, digits, digits_onto, signed_decimal}
use Rattle.std.proofs.lemmas.List.Elements.{All-nil, All-cons, All-append, All-push}
use Rattle.jade_base.specs.declared.place.Pos.{Pos}
use Rattle.jade_base.specs.declared.report.Blame.{Blame}
use Rattle.jade_base.specs.declared.report.FaultKind.{FaultKind}
use Rattle.jade_base.specs.declared.report.FaultKind.TheVariants.{Overflow, Zero, Index, Object, Right, Cover, Change, Limit, Commute}
use Rattle.jade_syntax.specs.declared.tree.Program.{Program}
use Rattle.jade_syntax.specs.Image.{program}
use Rattle.jade_syntax.specs.Limits.{within_limits}
use Rattle.jade_syntax.specs.Objects.{Label, labels, sizes}
use Rattle.jade_syntax.specs.Shapes.{is_shaped}
use Rattle.jade_syntax.proofs.Limits.{labels_counted, limits}
use Rattle.jade_meaning.specs.Answer.{Answer, Faulted, Cells, answer}
use Rattle.number_words.specs.Numbers.{is_number}
use Rattle.run_record.specs.Pieces.{Lacks}
use Rattle.run_record.specs.Recording.{Recorded, IsRecorded, IsTurn, ended, recording}
use Rattle.run_record.proofs.Bytes.{Above, above, lacks, lower, word_above}
use Rattle.run_record.proofs.PathLemmas.{IsNumber}
use Rattle.record_parts.specs.Labels.{member_text}
use Rattle.record_parts.specs.Lines.{AreLines}
use Rattle.record_parts.proofs.Cutting.{lines_once, take_one}
use Rattle.record_parts.proofs.Spelling.{called}
use Rattle.jade_lexer.specs.Lexemes.{TokenList}
use Rattle.jade_lexer.specs.Reading.{reading, Whole}
use Rattle.jade_parser.specs.Grammar.{IsReading}
use Rattle.jade_base.specs.declared.report.Report.{Report}
use Rattle.jade_syntax.specs.Abstract.{AbstractProgram}
use Rattle.jade_meaning.specs.Report.{report}
use Rattle.jade_meaning.specs.ReportAnswer.{report_answer, ReportTells}
use Rattle.jade_meaning.specs.Specification.{numbers}
use Rattle.jade_meaning.specs.Plan.{RunPlan}
use Rattle.jade_meaning.specs.Turns.{Full, in_order, marks_by, turns_in, turns_on}
use Rattle.jade_syntax.specs.CheckedProgram.{CheckedProgram}
use Rattle.jade_base.specs.declared.failure.Memory.{Memory as NoMemory}
use Rattle.run_record.specs.declared.turns.LabelledTurn.{LabelledTurn}
use Rattle.run_record.specs.Written.{IsWritten}
use Rattle.jade_run.specs.declared.status.Status.{Status}
use Rattle.jade_run.specs.declared.status.Status.TheVariants.{Good, Fault, Refused, Numbers, Replay}
use Rattle.jade_run.specs.declared.answer.Answer.{Answer as AnswerOf}
use Rattle.jade_run.specs.Recordings.{AreAnswer, IsRecordingOf, kept, long, not_run}
use Rattle.jade_run.specs.steps.Preparing.{IsSettled}
use Rattle.jade_run.specs.steps.Recording.{IsKeptRun, IsKeptText, IsWrittenAs, whole, too_long}
use Rattle.jade_run.specs.Witnessed.{SawKept, SawOne, SeenRun}
use Rattle.jade_meaning.specs.Moved.{moved_answer}
use Rattle.jade_run.proofs.Standings.{stands_within}
use Rattle.jade_run.proofs.Witnessing.{one}
use Rattle.jade_run.specs.Answered.{answer_text, input_count, BySomeTurns, IsGood, Shows, TurnLists}
use Rattle.jade_run.specs.Texts.{cells_text, fault_word, long_text, objects_text, path_text, place_before, place_text}

-- ---- numbers

-- one number more that has 64 bits with its sign
pub numbers_more : (ns : List ℤ) (i : ℕ) (z : ℤ) → slice_get ns i ≡ Some z → is_number z ≡ true → All IsNumber (take i ns) → All IsNumber (take (i + 1) ns)
numbers_more ns i z s fit h = subst (All IsNumber) (sym (take_one ns i z s)) (All-push IsNumber (take i ns) z h fit)

-- ---- which bytes stand in an answer

glyph_above : (b : Bool) (d : ℕ) → 47 < (if b then 48 + d else 87 + d)
glyph_above true d = omega arith
glyph_above false d = omega arith

either_above : (b : Bool) (x y : List ℕ) → Above 47 x → Above 47 y → Above 47 (if b then x else y)
either_above true x y h k = h
either_above false x y h k = k

digits_above : (k n : ℕ) (after : List ℕ) → Above 47 after → Above 47 (digits_onto k 10 false n after)
digits_above zero n after h = h
digits_above (suc k) n after h =
    let d = digit_glyph false (n % 10) in
    let g = All-cons (λ b. 47 < b) d after (glyph_above (nat_lt (n % 10) 10) (n % 10)) h in
    either_above (n / 10 == 0) (d ∷ after) (digits_onto k 10 false (n / 10) (d ∷ after)) g (digits_above k (n / 10) (d ∷ after) g)

-- digits, whatever the number
decimal_is_above : (n : ℕ) → Above 31 (decimal n)
unfolding digits
decimal_is_above n = lower 47 31 (digits 10 false n) (omega arith) (digits_above 64 n [] (All-nil (λ b. 47 < b)))

signed_is_above : (z : ℤ) → Above 31 (signed_decimal z)
signed_is_above (pos n) = decimal_is_above n
signed_is_above (negsuc n) = All-cons (λ b. 31 < b) 45 (decimal (suc n)) (omega arith) (decimal_is_above (suc n))

then_above : (a b : List ℕ) → Above 31 a → Above 31 b → Above 31 (a ++ b)
then_above a b g k = All-append (λ b. 31 < b) a b g k

joined_above : {A : Type 0} (c : ℕ) (f : A → List ℕ) → 31 < c → ((x : A) → Above 31 (f x)) → (xs : List A) → Above 31 (join_with_byte c (map f xs))
joined_above c f lt h [] = All-nil (λ b. 31 < b)
joined_above c f lt h (x ∷ []) = h x
joined_above c f lt h (x ∷ y ∷ xs) =
    then_above (f x) (c ∷ join_with_byte c (map f (y ∷ xs))) (h x)
    (All-cons (λ b. 31 < b) c (join_with_byte c (map f (y ∷ xs))) lt (joined_above c f lt h (y ∷ xs)))

place_above : (at : Option Pos) → Above 31 (place_before at)
place_above None = All-nil (λ b. 31 < b)
place_above (Some p) =
    then_above (place_text p) (codes " ")
    (then_above (decimal p.line ++ codes ":") (decimal p.column)
    (then_above (decimal p.line) (codes ":") (decimal_is_above p.line) (above 31 (codes ":") refl)) (decimal_is_above p.column))
    (above 31 (codes " ") refl)

word_is_above : (k : FaultKind) → Above 31 (fault_word k)
word_is_above Overflow = above 31 (codes "overflow") refl
word_is_above Zero = above 31 (codes "zero") refl
word_is_above Index = above 31 (codes "index") refl
word_is_above Object = above 31 (codes "object") refl
word_is_above Right = above 31 (codes "right") refl
word_is_above Cover = above 31 (codes "cover") refl
word_is_above Change = above 31 (codes "change") refl
word_is_above Limit = above 31 (codes "limit") refl
word_is_above Commute = above 31 (codes "commute") refl

-- the line of a fault
abbrev fault_line : List ℕ → Blame → List ℕ
fault_line path blame = codes "fault " ++ place_before blame.pos ++ fault_word blame.kind ++ codes " task " ++ path_text path

fault_is_above : (path : List ℕ) (blame : Blame) → Above 31 (fault_line path blame)
fault_is_above path blame =
    let before = place_before blame.pos in
    let word = fault_word blame.kind in
    then_above (codes "fault " ++ before ++ word ++ codes " task ") (path_text path)
    (then_above (codes "fault " ++ before ++ word) (codes " task ")
    (then_above (codes "fault " ++ before) word
    (then_above (codes "fault ") before (above 31 (codes "fault ") refl) (place_above blame.pos)) (word_is_above blame.kind)) (above 31 (codes " task ") refl))
    (joined_above 46 decimal (omega arith) decimal_is_above path)

member_above : (m : Option ℕ) → Above 31 (member_text m)
member_above None = All-nil (λ b. 31 < b)
member_above (Some i) =
    then_above (codes "[" ++ decimal i) (codes "]")
    (then_above (codes "[") (decimal i) (above 31 (codes "[") refl) (decimal_is_above i)) (above 31 (codes "]") refl)

-- the line of an object
abbrev object_line : Label → List ℤ → List ℕ
object_line label cells = label.name ++ member_text label.member ++ codes " = " ++ cells_text cells

object_is_above : (label : Label) (cells : List ℤ) → Above 47 label.name → Above 31 (object_line label cells)
object_is_above label cells named =
    then_above (label.name ++ member_text label.member ++ codes " = ") (cells_text cells)
    (then_above (label.name ++ member_text label.member) (codes " = ")
    (then_above label.name (member_text label.member) (lower 47 31 label.name (omega arith) named) (member_above label.member)) (above 31 (codes " = ") refl))
    (joined_above 32 signed_decimal (omega arith) signed_is_above cells)

-- ---- the lines of an answer

-- a text has at most 4,096 lines
pub record HasLines (text : List ℕ) : Type 0 where
  pub lines : List (List ℕ)
  pub are : AreLines lines text
  pub few : length lines ≤ 4096

-- one line for each object
abbrev object_lines : List Label → List (List ℤ) → List (List ℕ)
object_lines [] objects = []
object_lines (label ∷ more) [] = []
object_lines (label ∷ more) (cells ∷ objects) = object_line label cells ∷ object_lines more objects

lines_end_so : (ls : List Label) (objects : List (List ℤ)) → ended (object_lines ls objects) ≡ objects_text ls objects
lines_end_so [] objects = refl
lines_end_so (l ∷ ls) [] = refl
lines_end_so (l ∷ ls) (cells ∷ objects) =
    ap (λ t. object_line l cells ++ 10 ∷ t) (lines_end_so ls objects) ∙ sym (append_assoc (object_line l cells) (10 ∷ []) (objects_text ls objects))

each_a_line : (ls : List Label) (objects : List (List ℤ)) → ((i : ℕ) (l : Label) → slice_get ls i ≡ Some l → Above 47 l.name)
    → All (Lacks 10) (object_lines ls objects)
each_a_line [] objects h = All-nil (Lacks 10)
each_a_line (l ∷ ls) [] h = All-nil (Lacks 10)
each_a_line (l ∷ ls) (cells ∷ objects) h =
    All-cons (Lacks 10) (object_line l cells) (object_lines ls objects) (lacks 31 10 (object_line l cells) (omega arith) (object_is_above l cells (h 0 l refl)))
    (each_a_line ls objects (λ i x s. h (suc i) x s))

few_of : (ls : List Label) (objects : List (List ℤ)) → length (object_lines ls objects) ≤ length ls
few_of [] objects = omega arith
few_of (l ∷ ls) [] = omega arith
few_of (l ∷ ls) (cells ∷ objects) = let h = few_of ls objects in omega (arith, h)

-- the answer of a program that keeps its limits has a line of a fault, or one for each object
pub has_lines : (p : Program) (a : Answer) → is_shaped p ≡ true → within_limits p.items ≡ true → HasLines (answer_text (program p) a)
has_lines p (Faulted path blame) shaped within = record {
  lines = fault_line path blame ∷ [];
  are = record {
    whole = refl;
    one_each = All-cons (Lacks 10) (fault_line path blame) [] (lacks 31 10 (fault_line path blame) (omega arith) (fault_is_above path blame)) (All-nil (Lacks 10));
  };
  few = omega arith;
}
has_lines p (Cells store) shaped within = record {
  lines = object_lines (labels p.items) store;
  are = record {
    whole = lines_end_so (labels p.items) store;
    one_each = each_a_line (labels p.items) store (λ i l s. word_above l.name (called p i l shaped s));
  };
  few =
      let f = few_of (labels p.items) store in
      let n = labels_counted p.items in
      let m = (limits p.items within).objects in
      omega (arith, f, n, m);
}

-- so a text that shows its answer has such lines
pub lines_there : (p : Program) (a : Answer) (text : List ℕ) (status : Status) → is_shaped p ≡ true → within_limits p.items ≡ true → Shows (program p) a text status
    → HasLines text
lines_there p a text status shaped within h = subst HasLines (sym h.shown) (has_lines p a shaped within)

-- and no others
pub lines_are_few : (text : List ℕ) (found : List (List ℕ)) → HasLines text → AreLines found text → length found ≤ 4096
lines_are_few text found h are =
    let e : length found ≡ length h.lines = ap length (lines_once found h.lines text are h.are) in
    let few = h.few in
    omega (arith, e, few)

-- the lines that were found of a text that shows the answer of such a program
pub record Found (p : Program) (a : Answer) (text : List ℕ) (lines : List (List ℕ)) : Type 0 where
  pub are : AreLines lines (answer_text (program p) a)
  pub few : length lines ≤ 4096

pub found_of : (p : Program) (a : Answer) (text : List ℕ) (status : Status) (read : List ℕ) (found : List (List ℕ)) → is_shaped p ≡ true → within_limits p.items ≡ true
    → Shows (program p) a text status → read ≡ text → AreLines found read → Found p a text found
found_of p a text status read found shaped within h e are =
    let here : AreLines found text = subst (AreLines found) e are in
    record { are = subst (AreLines found) h.shown here; few = lines_are_few text found (lines_there p a text status shaped within h) here }

pub lines_asked : (p : Program) (a : Answer) (text : List ℕ) (status : Status) (read : List ℕ) → is_shaped p ≡ true → within_limits p.items ≡ true
    → Shows (program p) a text status → read ≡ text → (lines : List (List ℕ)) × AreLines lines read
lines_asked p a text status read shaped within h e =
    let l = lines_there p a text status shaped within h in
    (l.lines, subst (AreLines l.lines) (sym e) l.are)

-- ---- what is kept

-- a program that a text of at most 1,048,576 bytes reads as has its shape
pub good_is_shaped : ((text : List ℕ) (tokens : TokenList) (p : Program) → length text ≤ 1048576 → reading text ≡ Whole tokens → IsReading tokens p → is_shaped p ≡ true)
    → (bytes : List ℕ) (tree : Program) (home : Pos → Pos) → length bytes ≤ 1048576 → IsGood bytes tree home → is_shaped tree ≡ true
good_is_shaped law bytes tree home within g =
    law g.read.text g.read.reads.tokens tree (stands_within bytes g.read.text home within g.read.stands) g.read.reads.whole g.read.reads.read

length_numbers : (x n : ℕ) → length (numbers x n) ≡ n
length_numbers x zero = refl
length_numbers x (suc n) = ap suc (length_numbers (suc x) n)

length_each : {A B : Type 0} (f : A → B) (xs : List A) → length (map f xs) ≡ length xs
length_each f [] = refl
length_each f (x ∷ xs) = ap suc (length_each f xs)

-- a report has a turn list for each object
pub lists_counted : (r : Report) (p : Program) (ns : List ℤ) (limit : ℕ) (turns : TurnLists) → r ≡ report (program p) ns limit turns → length r.turns ≡ length (sizes p.items)
lists_counted r p ns limit turns e =
    ap (λ (x : Report). length x.turns) e ∙ length_each (λ o. turns_on o (marks_by (program p) ns limit turns)) (numbers 0 (length (sizes p.items)))
    ∙ length_numbers 0 (length (sizes p.items))

-- the lines of the answer that a report tells are those of the program's
pub lines_tell : (r : Report) (p : AbstractProgram) (home : Pos → Pos) (ns : List ℤ) (limit : ℕ) (turns : TurnLists) (found : List (List ℕ))
    → r ≡ report p ns limit turns → ReportTells p ns limit turns → AreLines found (answer_text p (moved_answer home (report_answer limit r)))
    → AreAnswer found p home ns limit turns
lines_tell r p home ns limit turns found e t are =
    let same : report_answer limit r ≡ answer p ns limit turns = ap (report_answer limit) e ∙ t.same in
    subst (AreLines found) (ap (λ a. answer_text p (moved_answer home a)) same) are

pub is_recorded : (limit : ℕ) (given copies : List ℤ) (turns : List LabelledTurn) (lines : List (List ℕ)) (text : List ℕ) → 1 ≤ limit → limit ≤ 4294967295 → copies ≡ given
    → list_all is_number given ≡ true → length given ≤ 64 → All IsTurn turns → length lines ≤ 4096 → All (Lacks 10) lines
    → IsRecorded (record { limit = limit; numbers = copies; turns = turns; answer = lines; text = text })
is_recorded limit given copies turns lines text some within e fit few turn lesser each =
    let made : IsRecorded (record { limit = limit; numbers = given; turns = turns; answer = lines; text = text }) =
    record {
      some_steps = some;
      steps_within = within;
      numbers_fit = fit;
      few_numbers = few;
      turns_fit = turn;
      few_lines = lesser;
      one_line_each = each;
    } in
    let F : List ℤ → Type 0 = λ x. IsRecorded (record { limit = limit; numbers = x; turns = turns; answer = lines; text = text }) in
    subst F (sym e) made

-- ---- what is written of it

pub written_whole : (r : Recorded) (text : List ℕ) → IsWritten r text → IsWrittenAs r text Good
written_whole r text w =
    let short = w.short in
    let same : length text ≡ length (recording r) = ap length w.whole in
    whole (omega (arith, short, same)) w.whole refl

pub written_long : (r : Recorded) (text : List ℕ) → 1048576 < length (recording r) → text ≡ long_text → IsWrittenAs r text Replay
written_long r text lt t = too_long lt t refl

-- ---- a run of a program that was compiled

-- the text of a program is that of the one that was compiled
pub good_same : (bytes : List ℕ) (home : Pos → Pos) (p q s : CheckedProgram) → q ≡ p → s ≡ q → IsGood bytes p.program home → IsGood bytes s.program home
good_same bytes home p q s f g h = subst (λ (x : CheckedProgram). IsGood bytes x.program home) (sym (g ∙ f)) h

-- the report of the run is that of the program, by its own turns
pub reported_by_its_turns : (r own : Report) (plan : RunPlan) (q s : CheckedProgram) (ns : List ℤ) (limit : ℕ) → r ≡ own
    → r ≡ report (program plan.program) plan.numbers plan.limit (turns_in own.turns) → plan ≡ record { program = q.program; numbers = ns; limit = limit } → s ≡ q
    → r ≡ report (program s.program) ns limit (turns_in r.turns)
reported_by_its_turns r own plan q s ns limit e m f g =
    m ∙ ap (λ (x : Report). report (program plan.program) plan.numbers plan.limit (turns_in x.turns)) (sym e)
    ∙ ap (λ (x : RunPlan). report (program x.program) x.numbers x.limit (turns_in r.turns)) f
    ∙ ap (λ (x : CheckedProgram). report (program x.program) ns limit (turns_in r.turns)) (sym g)

-- and these are full
pub full_by_its_turns : (r own : Report) (plan : RunPlan) (q s : CheckedProgram) (ns : List ℤ) (limit : ℕ) → r ≡ own
    → Full (program plan.program) plan.numbers plan.limit (turns_in own.turns) → plan ≡ record { program = q.program; numbers = ns; limit = limit } → s ≡ q
    → Full (program s.program) ns limit (turns_in r.turns)
full_by_its_turns r own plan q s ns limit e m f g =
    subst (λ (x : CheckedProgram). Full (program x.program) ns limit (turns_in r.turns)) (sym g)
    (subst (λ (x : RunPlan). Full (program x.program) x.numbers x.limit (turns_in r.turns)) f
    (subst (λ (x : Report). Full (program plan.program) plan.numbers plan.limit (turns_in x.turns)) (sym e) m))

-- the recording of the run is that of the program
pub recording_same : (bytes : List ℕ) (home : Pos → Pos) (p q s : CheckedProgram) (ns : List ℤ) (limit : ℕ) (r own : Report) (run : Recorded) → q ≡ p → s ≡ q → r ≡ own
    → IsRecordingOf bytes s.program home ns limit (turns_in r.turns) run → IsRecordingOf bytes p.program home ns limit (turns_in own.turns) run
recording_same bytes home p q s ns limit r own run f g e h =
    subst (λ (x : Report). IsRecordingOf bytes p.program home ns limit (turns_in x.turns) run) e
    (subst (λ (x : CheckedProgram). IsRecordingOf bytes x.program home ns limit (turns_in r.turns) run) (g ∙ f) h)

-- ---- what a text comes to whose run is recorded

written_text : (bytes : List ℕ) (ns : List ℤ) (limit : ℕ) (turns : TurnLists) (tree : Program) (home : Pos → Pos) (run : Recorded) (text : List ℕ) (status : Status)
    (before after : Option (List SeenRun)) → IsGood bytes tree home → length ns ≡ input_count tree → IsRecordingOf bytes tree home ns limit turns run
    → SawOne bytes ns limit turns before after → IsWrittenAs run text status → IsKeptText bytes ns limit turns text status before after
written_text bytes ns limit turns tree home run text status before after g n r o (whole le t s) =
    record { is = kept tree home g n run r le t s; saw = subst (λ x. SawKept bytes ns limit turns x before after) (sym s) o }
written_text bytes ns limit turns tree home run text status before after g n r o (too_long lt t s) =
    record { is = long tree home g n run r lt t s; saw = subst (λ x. SawKept bytes ns limit turns x before after) (sym s) o }

-- the run of a text's program is recorded
pub program_kept : (bytes : List ℕ) (ns : List ℤ) (limit : ℕ) (tree : Program) (home : Pos → Pos) (r : Result AnswerOf NoMemory)
    (before after : Option (List SeenRun)) → IsGood bytes tree home → length ns ≡ input_count tree
    → IfOk r (λ a. BySomeTurns (λ turns. IsKeptRun bytes tree home ns limit turns a.text.items a.status before after))
    → IfOk r (λ a. BySomeTurns (λ turns. IsKeptText bytes ns limit turns a.text.items a.status before after))
program_kept bytes ns limit tree home (Ok a) before after g n h =
    (h.0, written_text bytes ns limit h.0 tree home h.1.run a.text.items a.status before after g n h.1.of_run (one bytes ns limit h.0 tree home before after g h.1.shown) h.1.written)
program_kept bytes ns limit tree home (Err m) before after g n h = tt

unrun_is : (wanted status : Status) → (Refused ≡ wanted → ⊥) → (Numbers ≡ wanted → ⊥) → (status ≡ Refused) ⊎ (status ≡ Numbers) → status ≡ wanted → ⊥
unrun_is wanted status f g (inl e) h = f (sym e ∙ h)
unrun_is wanted status f g (inr e) h = g (sym e ∙ h)

unrun_saw : (bytes : List ℕ) (ns : List ℤ) (limit : ℕ) (status : Status) (before : Option (List SeenRun)) → (status ≡ Refused) ⊎ (status ≡ Numbers)
    → SawKept bytes ns limit in_order status before before
unrun_saw bytes ns limit status before (inl e) = subst (λ s. SawKept bytes ns limit in_order s before before) (sym e) refl
unrun_saw bytes ns limit status before (inr e) = subst (λ s. SawKept bytes ns limit in_order s before before) (sym e) refl

-- a text that is answered without a run
pub settled_kept : (bytes : List ℕ) (ns : List ℤ) (limit : ℕ) (text : List ℕ) (status : Status) (before : Option (List SeenRun))
    → IsSettled bytes ns text status → BySomeTurns (λ turns. IsKeptText bytes ns limit turns text status before before)
settled_kept bytes ns limit text status before h = (
  in_order,
  record {
    is = not_run (h.answered limit in_order) (unrun_is Good status (λ e. absurd (cc)) (λ e. absurd (cc)) h.unrun)
        (unrun_is Fault status (λ e. absurd (cc)) (λ e. absurd (cc)) h.unrun);
    saw = unrun_saw bytes ns limit status before h.unrun;
  },
)
