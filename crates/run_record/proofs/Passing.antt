-- From line to line of a recording.
use Rattle.std.proofs.Common.{◌≡◌, ◌≢◌, ℕ, zero, suc, ◌+◌, ◌<◌, ◌≤◌, List, [], ◌∷◌, ◌++◌, length, map, refl, ap, sym, ◌∙◌, subst, arith, append_assoc, length-append, All, inl, inr}
use Rattle.std.proofs.lemmas.List.{map-append}
use Rattle.std.proofs.lemmas.List.Elements.{All-nil, All-push}
use Rattle.run_record.specs.declared.turns.LabelledTurn.{LabelledTurn}
use Rattle.run_record.specs.declared.paths.Unfit.{Unfit}
use Rattle.run_record.specs.declared.paths.Unfit.TheVariants.{Form, Memory}
use Rattle.run_record.specs.declared.read.ReadError.{ReadError}
use Rattle.run_record.specs.declared.read.ReadError.TheVariants.{Form as Broken, Memory as NoMemory}
use Rattle.run_record.specs.Pieces.{Lacks}
use Rattle.run_record.specs.Recording.{IsTurn, turns_line, text_line, ended}
use Rattle.run_record.specs.Form.{Stage, at_head, at_limit, at_numbers, at_turns, at_answer, at_text, Takes, FirstLine, BreaksAt, here, later, IsUnread, IsTurnsLine, IsAnswerLine}
use Rattle.run_record.specs.steps.Cutting.{IsCut, BeginsOrEnds}
use Rattle.run_record.specs.steps.Rests.{Passed, TurnsRead, EndingRead, error_at}
use Rattle.run_record.specs.steps.Unfit.{NoNumbers, NoTurns}
use Rattle.run_record.proofs.Cuts.{front_same, back_same}

-- a line that is cut off where a line feed stands
pub line_is : (bytes line rest after : List ℕ) (b : ℕ) → IsCut 10 bytes line rest → rest ≡ b ∷ after → FirstLine bytes line after
line_is bytes line rest after b cut e =
    let F : List ℕ → Type 0 = BeginsOrEnds 10 in
    let feed : b ≡ 10 = subst F e cut.next in
    record { whole = cut.whole ∙ ap (λ x. line ++ x) e ∙ ap (λ x. line ++ x ∷ after) feed; one = cut.lacks }

-- no line ends where no line feed is left
pub no_line : (bytes front rest line after : List ℕ) → IsCut 10 bytes front rest → rest ≡ [] → FirstLine bytes line after → ⊥
no_line bytes front rest line after cut e l =
    let back = back_same 10 front line rest (10 ∷ after) cut.lacks l.one cut.next refl (sym cut.whole ∙ l.whole) in
    let bad : [] ≡ 10 ∷ after = sym e ∙ back in
    absurd (cc)

-- bytes have one first line
pub line_once : (bytes v x w y : List ℕ) → FirstLine bytes v x → FirstLine bytes w y → v ≡ w
line_once bytes v x w y f g = front_same 10 v w (10 ∷ x) (10 ∷ y) f.one g.one refl refl (sym f.whole ∙ g.whole)

heads_off : {a b : ℕ} {xs ys : List ℕ} → a ∷ xs ≡ b ∷ ys → xs ≡ ys
heads_off e = cc

pub rest_once : (bytes v x w y : List ℕ) → FirstLine bytes v x → FirstLine bytes w y → x ≡ y
rest_once bytes v x w y f g = heads_off (back_same 10 v w (10 ∷ x) (10 ∷ y) f.one g.one refl refl (sym f.whole ∙ g.whole))

pub head_open : at_head ≢ at_text
head_open e = cc

pub limit_open : at_limit ≢ at_text
limit_open e = cc

pub numbers_open : at_numbers ≢ at_text
numbers_open e = cc

pub turns_open : at_turns ≢ at_text
turns_open e = cc

pub answer_open : (k : ℕ) → at_answer k ≢ at_text
answer_open k e = cc

-- the line is not there
pub missing : (s : Stage) (number : ℕ) (bytes : List ℕ) → s ≢ at_text → ((line after : List ℕ) → FirstLine bytes line after → ⊥) → BreaksAt number s number bytes
missing s number bytes o none = here refl o (λ line after next f t. none line after f)

-- the line is not of its form
pub unfit : (s : Stage) (number : ℕ) (bytes line after : List ℕ) → s ≢ at_text → FirstLine bytes line after → ((next : Stage) → Takes s line next → ⊥) → BreaksAt number s number bytes
unfit s number bytes line after o f none =
    here refl o
    (λ l a next g t.
    let same : l ≡ line = line_once bytes l a line after g f in
    let F : List ℕ → Type 0 = λ x. Takes s x next in
    none next (subst F same t))

pub numbered : (s : Stage) (number next : ℕ) (bytes : List ℕ) (n : ℕ) → next ≡ number + 1 → BreaksAt n s next bytes → BreaksAt n s (suc number) bytes
numbered s number next bytes n e b = let F : ℕ → Type 0 = λ x. BreaksAt n s x bytes in let same : next ≡ suc number = omega arith in subst F same b

-- one line is passed
pub passed_line : (s t : Stage) (number next : ℕ) (bytes line after : List ℕ) → FirstLine bytes line after → Takes s line t → next ≡ number + 1 → Passed s number bytes t next after (line ∷ [])
passed_line s t number next bytes line after f takes e =
    record {
      whole = f.whole ∙ sym (append_assoc line (10 ∷ []) after);
      breaks = λ n b. later line after t f takes (numbered t number next after n e b);
    }

pub passed_none : (s : Stage) (number : ℕ) (bytes : List ℕ) → Passed s number bytes s number bytes []
passed_none s number bytes = record { whole = refl; breaks = λ n b. b }

pub ended-append : (xs ys : List (List ℕ)) → ended (xs ++ ys) ≡ ended xs ++ ended ys
ended-append [] ys = refl
ended-append (x ∷ xs) ys = ap (λ l. x ++ 10 ∷ l) (ended-append xs ys) ∙ sym (append_assoc x (10 ∷ ended xs) (ended ys))

pub passed_on : (s t u : Stage) (n m k : ℕ) (a b c : List ℕ) (xs ys : List (List ℕ)) → Passed s n a t m b xs → Passed t m b u k c ys → Passed s n a u k c (xs ++ ys)
passed_on s t u n m k a b c xs ys p q =
    record {
      whole = p.whole ∙ ap (λ l. ended xs ++ l) q.whole ∙ sym (append_assoc (ended xs) (ended ys) c) ∙ ap (λ l. l ++ c) (sym (ended-append xs ys));
      breaks = λ i x. p.breaks i (q.breaks i x);
    }

-- what is not read after lines is not read before them
pub unread_before : (s t : Stage) (n m : ℕ) (a b : List ℕ) (xs : List (List ℕ)) (e : ReadError) → Passed s n a t m b xs → IsUnread t m b e → IsUnread s n a e
unread_before s t n m a b xs (Broken i) p u = p.breaks i u
unread_before s t n m a b xs NoMemory p u = tt

-- an error at a line
pub no_numbers : (number : ℕ) (bytes line after : List ℕ) (u : Unfit) (e : ReadError) → FirstLine bytes line after → NoNumbers line u → e ≡ error_at number u → IsUnread at_numbers number bytes e
no_numbers number bytes line after Form e f none is =
    let F : ReadError → Type 0 = IsUnread at_numbers number bytes in
    subst F (sym is) (unfit at_numbers number bytes line after numbers_open f (λ next t. none t.0.0 t.0.1))
no_numbers number bytes line after Memory e f none is = let F : ReadError → Type 0 = IsUnread at_numbers number bytes in subst F (sym is) tt

-- turns that are read so far
pub record TurnsSoFar (number : ℕ) (bytes : List ℕ) (turns : List LabelledTurn) (next : ℕ) (after : List ℕ) : Type 0 where
  pub fit : All IsTurn turns
  pub passed : Passed at_turns number bytes at_turns next after (map turns_line turns)

pub turns_begun : (number : ℕ) (bytes : List ℕ) (turns : List LabelledTurn) → turns ≡ [] → TurnsSoFar number bytes turns number bytes
turns_begun number bytes turns e =
    let F : List LabelledTurn → Type 0 = λ x. TurnsSoFar number bytes x number bytes in
    subst F (sym e) (record { fit = All-nil IsTurn; passed = passed_none at_turns number bytes })

pub turns_go_on : (number : ℕ) (bytes : List ℕ) (turns : List LabelledTurn) (here_ : ℕ) (left line after : List ℕ) (next : ℕ) (turn : LabelledTurn) (new : List LabelledTurn) →
    TurnsSoFar number bytes turns here_ left → FirstLine left line after → next ≡ here_ + 1 → IsTurnsLine line turn → new ≡ turns ++ turn ∷ [] → TurnsSoFar number bytes new next after
turns_go_on number bytes turns here_ left line after next turn new so f e t is =
    let F : List LabelledTurn → Type 0 = λ x. TurnsSoFar number bytes x next after in
    let one = passed_line at_turns at_turns here_ next left line after f (inl ((turn, t), refl)) e in
    let both = passed_on at_turns at_turns at_turns number here_ next bytes left after (map turns_line turns) (line ∷ []) so.passed one in
    let G : List (List ℕ) → Type 0 = λ x. Passed at_turns number bytes at_turns next after x in
    let lines_are : map turns_line turns ++ line ∷ [] ≡ map turns_line (turns ++ turn ∷ []) =
    ap (λ l. map turns_line turns ++ l ∷ []) t.spelled ∙ sym (map-append turns_line turns (turn ∷ [])) in
    subst F (sym is) (record { fit = All-push IsTurn turns turn so.fit t.fit; passed = subst G lines_are both })

pub turns_end : (number : ℕ) (bytes : List ℕ) (turns : List LabelledTurn) (here_ : ℕ) (left line after : List ℕ) (next count : ℕ) → TurnsSoFar number bytes turns here_ left →
    FirstLine left line after → next ≡ here_ + 1 → IsAnswerLine line count → TurnsRead number bytes turns count next after
turns_end number bytes turns here_ left line after next count so f e a =
    let one = passed_line at_turns (at_answer count) here_ next left line after f (inr (count, a, refl)) e in
    let both = passed_on at_turns at_turns (at_answer count) number here_ next bytes left after (map turns_line turns) (line ∷ []) so.passed one in
    let G : List (List ℕ) → Type 0 = λ x. Passed at_turns number bytes (at_answer count) next after x in
    record { turns_fit = so.fit; few = a.few; passed = subst G (ap (λ l. map turns_line turns ++ l ∷ []) a.spelled) both }

neither : (line : List ℕ) (next : Stage) → ((turn : LabelledTurn) → IsTurnsLine line turn → ⊥) → ((count : ℕ) → IsAnswerLine line count → ⊥) → Takes at_turns line next → ⊥
neither line next no_turn no_count (inl t) = no_turn t.0.0 t.0.1
neither line next no_turn no_count (inr a) = no_count a.0 a.1

pub turns_unread : (number : ℕ) (bytes : List ℕ) (turns : List LabelledTurn) (here_ : ℕ) (left line after : List ℕ) (u : Unfit) (e : ReadError) → TurnsSoFar number bytes turns here_ left →
    FirstLine left line after → NoTurns line u → ((count : ℕ) → IsAnswerLine line count → ⊥) → e ≡ error_at here_ u → IsUnread at_turns number bytes e
turns_unread number bytes turns here_ left line after Form e so f none none_counted is =
    let F : ReadError → Type 0 = IsUnread at_turns number bytes in
    subst F (sym is) (so.passed.breaks here_ (unfit at_turns here_ left line after turns_open f (λ next t. neither line next none none_counted t)))
turns_unread number bytes turns here_ left line after Memory e so f none none_counted is = let F : ReadError → Type 0 = IsUnread at_turns number bytes in subst F (sym is) tt

-- lines of the answer that are read so far
pub record AnswerSoFar (count number : ℕ) (bytes : List ℕ) (lines : List (List ℕ)) (next : ℕ) (after : List ℕ) : Type 0 where
  pub left : ℕ
  pub counted : length lines + left ≡ count
  pub lacks : All (Lacks 10) lines
  pub passed : Passed (at_answer count) number bytes (at_answer left) next after lines

pub answer_begun : (count number : ℕ) (bytes : List ℕ) (lines : List (List ℕ)) → lines ≡ [] → AnswerSoFar count number bytes lines number bytes
answer_begun count number bytes lines e =
    let F : List (List ℕ) → Type 0 = λ x. AnswerSoFar count number bytes x number bytes in
    let none : AnswerSoFar count number bytes [] number bytes =
    record { left = count; counted = omega arith; lacks = All-nil (Lacks 10); passed = passed_none (at_answer count) number bytes } in
    subst F (sym e) none

one_line_more : (count number : ℕ) (bytes : List ℕ) (lines : List (List ℕ)) (here_ left : ℕ) (bytes_left line after : List ℕ) (next : ℕ) → length lines + left ≡ count → All (Lacks 10) lines →
    Passed (at_answer count) number bytes (at_answer left) here_ bytes_left lines → length lines < count → FirstLine bytes_left line after → next ≡ here_ + 1 →
    AnswerSoFar count number bytes (lines ++ line ∷ []) next after
one_line_more count number bytes lines here_ zero bytes_left line after next counted l p lt f e = absurd (omega arith)
one_line_more count number bytes lines here_ (suc left) bytes_left line after next counted l p lt f e =
    let one = passed_line (at_answer (suc left)) (at_answer left) here_ next bytes_left line after f refl e in
    record {
      left = left;
      counted = omega (arith, length-append lines (line ∷ []));
      lacks = All-push (Lacks 10) lines line l f.one;
      passed = passed_on (at_answer count) (at_answer (suc left)) (at_answer left) number here_ next bytes bytes_left after lines (line ∷ []) p one;
    }

pub answer_goes_on : (count number : ℕ) (bytes : List ℕ) (lines : List (List ℕ)) (here_ : ℕ) (bytes_left line after : List ℕ) (next : ℕ) (word : List ℕ) (new : List (List ℕ)) →
    AnswerSoFar count number bytes lines here_ bytes_left → length lines < count → FirstLine bytes_left line after → next ≡ here_ + 1 → word ≡ line → new ≡ lines ++ word ∷ [] →
    AnswerSoFar count number bytes new next after
answer_goes_on count number bytes lines here_ bytes_left line after next word new so lt f e w is =
    let F : List (List ℕ) → Type 0 = λ x. AnswerSoFar count number bytes x next after in
    subst F (sym (is ∙ ap (λ l. lines ++ l ∷ []) w)) (one_line_more count number bytes lines here_ so.left bytes_left line after next so.counted so.lacks so.passed lt f e)

pub record AnswerDone (count number : ℕ) (bytes : List ℕ) (lines : List (List ℕ)) (next : ℕ) (after : List ℕ) : Type 0 where
  pub counted : length lines ≡ count
  pub passed : Passed (at_answer count) number bytes (at_answer 0) next after lines

pub answer_ends : (count number : ℕ) (bytes : List ℕ) (lines : List (List ℕ)) (next : ℕ) (after : List ℕ) → AnswerSoFar count number bytes lines next after → count ≤ length lines →
    AnswerDone count number bytes lines next after
answer_ends count number bytes lines next after so le =
    let c = so.counted in
    let none : so.left ≡ 0 = omega (arith, c) in
    let F : ℕ → Type 0 = λ k. Passed (at_answer count) number bytes (at_answer k) next after lines in
    record { counted = omega (arith, c); passed = subst F none so.passed }

pub answer_missing : (count number : ℕ) (bytes : List ℕ) (lines : List (List ℕ)) (here_ : ℕ) (left : List ℕ) → AnswerSoFar count number bytes lines here_ left →
    ((line after : List ℕ) → FirstLine left line after → ⊥) → BreaksAt here_ (at_answer count) number bytes
answer_missing count number bytes lines here_ left so none = so.passed.breaks here_ (missing (at_answer so.left) here_ left (answer_open so.left) none)

pub ending : (count number next : ℕ) (bytes : List ℕ) (lines : List (List ℕ)) (after text : List ℕ) → length lines ≡ count → All (Lacks 10) lines →
    Passed (at_answer count) number bytes (at_answer 0) next after lines → after ≡ text_line ++ 10 ∷ text → EndingRead count bytes lines text
ending count number next bytes lines after text counted l p e =
    record {
      counted = counted;
      lines = l;
      whole =
          p.whole ∙ ap (λ x. ended lines ++ x) (e ∙ sym (append_assoc text_line (10 ∷ []) text)) ∙ sym (append_assoc (ended lines) (ended (text_line ∷ [])) text)
          ∙ ap (λ x. x ++ text) (sym (ended-append lines (text_line ∷ [])));
    }

-- one line is passed, which is this text
pub passed_text : (s t : Stage) (number next : ℕ) (bytes line text after : List ℕ) → FirstLine bytes line after → line ≡ text → Takes s text t → next ≡ number + 1 →
    Passed s number bytes t next after (text ∷ [])
passed_text s t number next bytes line text after f same takes e =
    let F : List ℕ → Type 0 = λ l. FirstLine bytes l after in
    passed_line s t number next bytes text after (subst F same f) takes e

pub ending_read : (count number next : ℕ) (bytes : List ℕ) (lines : List (List ℕ)) (after text word : List ℕ) → length lines ≡ count → All (Lacks 10) lines →
    Passed (at_answer count) number bytes (at_answer 0) next after lines → after ≡ text_line ++ 10 ∷ text → word ≡ text → EndingRead count bytes lines word
ending_read count number next bytes lines after text word counted l p e is =
    let F : List ℕ → Type 0 = EndingRead count bytes lines in
    subst F (sym is) (ending count number next bytes lines after text counted l p e)
