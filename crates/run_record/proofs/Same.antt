-- A recording's text has one reading, and its lines are of their form.
use Rattle.std.proofs.Common.{◌≡◌, ℕ, zero, suc, ◌+◌, ◌<◌, ◌≤◌, List, [], ◌∷◌, ◌++◌, length, take, map, codes, ℤ, refl, ap, sym, ◌∙◌, subst, arith, append_assoc, get_or, All, inl, inr}
use Rattle.std.specs.Fmt.{decimal, signed_decimal}
use Rattle.std.proofs.lemmas.Fmt.{decimal_injective}
use Rattle.std.proofs.lemmas.List.{append_cancel_left}
use Rattle.std.proofs.lemmas.List.Elements.{All-head, All-tail, All-append}
use Rattle.run_record.specs.declared.turns.LabelledTurn.{LabelledTurn}
use Rattle.number_words.specs.Numbers.{is_number}
use Rattle.run_record.specs.Pieces.{Lacks, each_after, path_text, IsPath}
use Rattle.run_record.specs.Recording.{Recorded, IsRecorded, IsTurn, head_line, limit_line, numbers_line, turns_line, answer_line, text_line, lines, ended, recording}
use Rattle.run_record.specs.Form.{Stage, at_head, at_limit, at_numbers, at_turns, at_answer, at_text, Takes, FirstLine, BreaksAt, here, later, IsRead, IsNumbersLine}
use Rattle.run_record.specs.Laws.{NoneBreaks}
use Rattle.run_record.specs.steps.Rests.{Passed, TurnsRead, EndingRead}
use Rattle.run_record.proofs.Bytes.{above, lacks, lower, tested, decimal_above, signed_above, path_above, label_above, pieces_above}
use Rattle.run_record.proofs.Cuts.{front_same, back_same}
use Rattle.run_record.proofs.PathLemmas.{IsNumber, numbers, paths}
use Rattle.run_record.proofs.Passing.{line_once, rest_once, ended-append, passed_on}
use Rattle.run_record.proofs.Spellings.{spelled_once, begins_after}

-- lines go from a stage to the text
abbrev pub Runs : Stage → List (List ℕ) → Type 0
Runs s [] = s ≡ at_text
Runs s (line ∷ more) = (next : Stage) × Takes s line next × Lacks 10 line × Runs next more

limit_one : (n m : ℕ) → n ≤ 4294967295 → m ≤ 4294967295 → limit_line n ≡ limit_line m → n ≡ m
limit_one n m ln lm e = decimal_injective n m (omega arith) (omega arith) (append_cancel_left (codes "limit ") (decimal n) (decimal m) e)

count_one : (n m : ℕ) → n ≤ 4096 → m ≤ 4096 → answer_line n ≡ answer_line m → n ≡ m
count_one n m ln lm e = decimal_injective n m (omega arith) (omega arith) (append_cancel_left (codes "answer ") (decimal n) (decimal m) e)

first_byte : (xs ys : List ℕ) → xs ≡ ys → get_or xs 0 0 ≡ get_or ys 0 0
first_byte xs ys e = ap (λ l. get_or l 0 0) e

unequal : (a b : ℕ) → a ≡ b → a ≡ 116 → b ≡ 97 → ⊥
unequal a b e ea eb = omega arith

-- a line of turns is no line of a count
apart : (turn : LabelledTurn) (count : ℕ) → turns_line turn ≡ answer_line count → ⊥
apart turn count e = unequal (get_or (turns_line turn) 0 0) (get_or (answer_line count) 0 0) (first_byte (turns_line turn) (answer_line count) e) refl refl

-- the stage after a line is one
turns_next : (line : List ℕ) (n m : Stage) → Takes at_turns line n → Takes at_turns line m → n ≡ m
turns_next line n m (inl t) (inl u) = t.1 ∙ sym u.1
turns_next line n m (inl t) (inr a) = absurd (apart t.0.0 a.0 (sym t.0.1.spelled ∙ a.1.spelled))
turns_next line n m (inr a) (inl t) = absurd (apart t.0.0 a.0 (sym t.0.1.spelled ∙ a.1.spelled))
turns_next line n m (inr a) (inr b) = a.2 ∙ ap at_answer (count_one a.0 b.0 a.1.few b.1.few (sym a.1.spelled ∙ b.1.spelled)) ∙ sym b.2

next_one : (s : Stage) (line : List ℕ) (n m : Stage) → Takes s line n → Takes s line m → n ≡ m
next_one at_head line n m t u = t.1 ∙ sym u.1
next_one at_limit line n m t u = t.1 ∙ sym u.1
next_one at_numbers line n m t u = t.1 ∙ sym u.1
next_one at_turns line n m t u = turns_next line n m t u
next_one (at_answer zero) line n m t u = t.1 ∙ sym u.1
next_one (at_answer (suc k)) line n m t u = t ∙ sym u
next_one at_text line n m t u = absurd t

-- the line that a text of ended lines begins with
first_of_lines : (line : List ℕ) (more : List (List ℕ)) (after : List ℕ) → Lacks 10 line → FirstLine (ended (line ∷ more) ++ after) line (ended more ++ after)
first_of_lines line more after l = record { whole = append_assoc line (10 ∷ ended more) after; one = l }

-- texts of lines that go from one stage to the text are the same line by line
pub same_lines : (s : Stage) (xs ys : List (List ℕ)) (x y : List ℕ) → Runs s xs → Runs s ys → ended xs ++ x ≡ ended ys ++ y → xs ≡ ys
same_lines s [] [] x y rx ry e = refl
same_lines s [] (v ∷ ys) x y rx ry e = let F : Stage → Type 0 = λ t. Takes t v ry.0 in absurd (subst F rx ry.1)
same_lines s (v ∷ xs) [] x y rx ry e = let F : Stage → Type 0 = λ t. Takes t v rx.0 in absurd (subst F ry rx.1)
same_lines s (v ∷ xs) (w ∷ ys) x y rx ry e =
    let fv = first_of_lines v xs x rx.2 in
    let fw = first_of_lines w ys y ry.2 in
    let F : List ℕ → Type 0 = λ b. FirstLine b w (ended ys ++ y) in
    let fw2 = subst F (sym e) fw in
    let same : v ≡ w = line_once (ended (v ∷ xs) ++ x) v (ended xs ++ x) w (ended ys ++ y) fv fw2 in
    let rest : ended xs ++ x ≡ ended ys ++ y = rest_once (ended (v ∷ xs) ++ x) v (ended xs ++ x) w (ended ys ++ y) fv fw2 in
    let G : List ℕ → Type 0 = λ l. Takes s l ry.0 in
    let one : ry.0 ≡ rx.0 = next_one s v ry.0 rx.0 (subst G (sym same) ry.1) rx.1 in
    let H : Stage → Type 0 = λ t. Runs t ys in
    ap (λ l. l ∷ xs) same ∙ ap (λ l. w ∷ l) (same_lines rx.0 xs ys x y rx.3 (subst H one ry.3) rest)

-- what breaks the form is no line before the first one of the bytes
pub breaks_after : (n : ℕ) (s : Stage) (number : ℕ) (bytes : List ℕ) → BreaksAt n s number bytes → number ≤ n
breaks_after n s number bytes (here e o none) = omega arith
breaks_after n s number bytes (later line after next f t b) = let le = breaks_after n next (suc number) after b in omega arith

-- among lines that go on to the text none breaks the form
pub none_of_them : (n : ℕ) (s : Stage) (number m : ℕ) (xs : List (List ℕ)) (after : List ℕ) → n + 1 ≡ number + m → Runs s xs → BreaksAt n s number (ended (take m xs) ++ after) → ⊥
none_of_them n s number zero xs after e r b = let le = breaks_after n s number (ended (take 0 xs) ++ after) b in omega arith
none_of_them n s number (suc m) [] after e r (here i o none) = o r
none_of_them n s number (suc m) [] after e r (later line a next f t b) = let F : Stage → Type 0 = λ u. Takes u line next in absurd (subst F r t)
none_of_them n s number (suc m) (x ∷ xs) after e r (here i o none) =
    none x (ended (take m xs) ++ after) r.0 (first_of_lines x (take m xs) after r.2) r.1
none_of_them n s number (suc m) (x ∷ xs) after e r (later line a next f t b) =
    let bytes : List ℕ = ended (x ∷ take m xs) ++ after in
    let g = first_of_lines x (take m xs) after r.2 in
    let same : line ≡ x = line_once bytes line a x (ended (take m xs) ++ after) f g in
    let rest : a ≡ ended (take m xs) ++ after = rest_once bytes line a x (ended (take m xs) ++ after) f g in
    let G : List ℕ → Type 0 = λ l. Takes s l next in
    let one : next ≡ r.0 = next_one s x next r.0 (subst G same t) r.1 in
    let F : Stage → Type 0 = λ u. BreaksAt n u (suc number) a in
    let H : List ℕ → Type 0 = λ c. BreaksAt n r.0 (suc number) c in
    none_of_them n r.0 (suc number) m xs after (omega arith) r.3 (subst H rest (subst F one b))

-- the lines of a recording have no line feed in them
pub head_lacks : (c : ℕ) → Lacks 10 head_line
head_lacks c = lacks 10 10 head_line (omega arith) (above 10 head_line refl)

pub text_lacks : Lacks 10 text_line
text_lacks = lacks 10 10 text_line (omega arith) (above 10 text_line refl)

pub limit_lacks : (n : ℕ) → n ≤ 4294967295 → Lacks 10 (limit_line n)
limit_lacks n le =
    lacks 10 10 (limit_line n) (omega arith)
    (All-append (λ b. 10 < b) (codes "limit ") (decimal n) (above 10 (codes "limit ") refl) (lower 47 10 (decimal n) (omega arith) (decimal_above n (omega arith))))

pub count_lacks : (n : ℕ) → n ≤ 4096 → Lacks 10 (answer_line n)
count_lacks n le =
    lacks 10 10 (answer_line n) (omega arith)
    (All-append (λ b. 10 < b) (codes "answer ") (decimal n) (above 10 (codes "answer ") refl) (lower 47 10 (decimal n) (omega arith) (decimal_above n (omega arith))))

pub numbers_lack : (ns : List ℤ) → All IsNumber ns → Lacks 10 (numbers_line ns)
numbers_lack ns g =
    lacks 10 10 (numbers_line ns) (omega arith)
    (All-append (λ b. 10 < b) (codes "numbers") (each_after 32 (map signed_decimal ns)) (above 10 (codes "numbers") refl)
    (pieces_above signed_decimal IsNumber 32 10 (omega arith) (λ z h. lower 44 10 (signed_decimal z) (omega arith) (signed_above z h)) ns g))

turns_lack : (turn : LabelledTurn) → IsTurn turn → Lacks 10 (turns_line turn)
turns_lack turn g =
    lacks 10 10 (turns_line turn) (omega arith)
    (All-append (λ b. 10 < b) (codes "turns ") (turn.label ++ each_after 32 (map path_text turn.paths)) (above 10 (codes "turns ") refl)
    (All-append (λ b. 10 < b) turn.label (each_after 32 (map path_text turn.paths)) (lower 44 10 turn.label (omega arith) (label_above turn.label g.label))
    (pieces_above path_text IsPath 32 10 (omega arith) (λ p h. lower 44 10 (path_text p) (omega arith) (path_above p h)) turn.paths g.paths)))

answer_runs : (ls : List (List ℕ)) → All (Lacks 10) ls → Runs (at_answer (length ls)) (ls ++ text_line ∷ [])
answer_runs [] g = (at_text, (refl, refl), text_lacks, refl)
answer_runs (l ∷ ls) g = (at_answer (length ls), refl, All-head (Lacks 10) l ls g, answer_runs ls (All-tail (Lacks 10) l ls g))

turns_run : (ts : List LabelledTurn) (ls : List (List ℕ)) → All IsTurn ts → length ls ≤ 4096 → All (Lacks 10) ls → Runs at_turns (map turns_line ts ++ answer_line (length ls) ∷ (ls ++ text_line ∷ []))
turns_run [] ls gt few gl =
    (at_answer (length ls), inr (length ls, record { few = few; spelled = refl }, refl), count_lacks (length ls) few, answer_runs ls gl)
turns_run (t ∷ ts) ls gt few gl =
    let first : IsTurn t = All-head IsTurn t ts gt in
    (at_turns, inl ((t, record { fit = first; spelled = refl }), refl), turns_lack t first, turns_run ts ls (All-tail IsTurn t ts gt) few gl)

pub lines_run : (r : Recorded) → IsRecorded r → Runs at_head (lines r)
lines_run r h = (
  at_limit,
  (refl, refl),
  head_lacks 0,
  (
    at_numbers,
    ((r.limit, record { some = h.some_steps; within = h.steps_within; spelled = refl }), refl),
    limit_lacks r.limit h.steps_within,
    (
      at_turns,
      ((r.numbers, record { fit = h.numbers_fit; few = h.few_numbers; spelled = refl }), refl),
      numbers_lack r.numbers (tested is_number r.numbers h.numbers_fit),
      turns_run r.turns r.answer h.turns_fit h.few_lines h.one_line_each,
    ),
  ),
)

pub none_breaks : (r : Recorded) (n : ℕ) (after : List ℕ) → NoneBreaks r n after
none_breaks r n after = record { none = λ h b. none_of_them n at_head 1 n (lines r) after (omega arith) (lines_run r h) b }

heads : {a b : List ℕ} {xs ys : List (List ℕ)} → a ∷ xs ≡ b ∷ ys → a ≡ b
heads e = cc

tails : {a b : List ℕ} {xs ys : List (List ℕ)} → a ∷ xs ≡ b ∷ ys → xs ≡ ys
tails e = cc

last_off : (xs ys : List (List ℕ)) (a : List ℕ) → length xs ≡ length ys → xs ++ a ∷ [] ≡ ys ++ a ∷ [] → xs ≡ ys
last_off [] [] a l e = refl
last_off [] (y ∷ ys) a l e = absurd (omega arith)
last_off (x ∷ xs) [] a l e = absurd (omega arith)
last_off (x ∷ xs) (y ∷ ys) a l e = ap (λ z. z ∷ xs) (heads e) ∙ ap (λ z. y ∷ z) (last_off xs ys a (omega arith) (tails e))

label_one : (t u : LabelledTurn) → IsTurn t → IsTurn u → turns_line t ≡ turns_line u → t ≡ u
label_one t u ht hu e =
    let body : t.label ++ each_after 32 (map path_text t.paths) ≡ u.label ++ each_after 32 (map path_text u.paths) =
    append_cancel_left (codes "turns ") (t.label ++ each_after 32 (map path_text t.paths)) (u.label ++ each_after 32 (map path_text u.paths)) e in
    let lt = lacks 44 32 t.label (omega arith) (label_above t.label ht.label) in
    let lu = lacks 44 32 u.label (omega arith) (label_above u.label hu.label) in
    let bt = begins_after 32 (map path_text t.paths) in
    let bu = begins_after 32 (map path_text u.paths) in
    let labels : t.label ≡ u.label = front_same 32 t.label u.label (each_after 32 (map path_text t.paths)) (each_after 32 (map path_text u.paths)) lt lu bt bu body in
    let texts = back_same 32 t.label u.label (each_after 32 (map path_text t.paths)) (each_after 32 (map path_text u.paths)) lt lu bt bu body in
    let same : t.paths ≡ u.paths = spelled_once 32 path_text IsPath paths t.paths u.paths ht.paths hu.paths texts in
    let F : List ℕ → LabelledTurn = λ l. record { label = l; paths = t.paths } in
    let G : List (List ℕ) → LabelledTurn = λ ps. record { label = u.label; paths = ps } in
    ap F labels ∙ ap G same

-- the turns and the answer of lines
record Both (ts us : List LabelledTurn) (xs ys : List (List ℕ)) : Type 0 where
  turns : ts ≡ us
  answer : xs ≡ ys

turns_one : (ts us : List LabelledTurn) (xs ys : List (List ℕ)) → All IsTurn ts → All IsTurn us → length xs ≤ 4096 → length ys ≤ 4096 →
    map turns_line ts ++ answer_line (length xs) ∷ (xs ++ text_line ∷ []) ≡ map turns_line us ++ answer_line (length ys) ∷ (ys ++ text_line ∷ []) → Both ts us xs ys
turns_one [] [] xs ys gt gu fx fy e = record { turns = refl; answer = last_off xs ys text_line (count_one (length xs) (length ys) fx fy (heads e)) (tails e) }
turns_one [] (u ∷ us) xs ys gt gu fx fy e = absurd (apart u (length xs) (sym (heads e)))
turns_one (t ∷ ts) [] xs ys gt gu fx fy e = absurd (apart t (length ys) (heads e))
turns_one (t ∷ ts) (u ∷ us) xs ys gt gu fx fy e =
    let first : t ≡ u = label_one t u (All-head IsTurn t ts gt) (All-head IsTurn u us gu) (heads e) in
    let rest = turns_one ts us xs ys (All-tail IsTurn t ts gt) (All-tail IsTurn u us gu) fx fy (tails e) in
    record { turns = ap (λ z. z ∷ ts) first ∙ ap (λ l. u ∷ l) rest.turns; answer = rest.answer }

-- a recording has one record
pub only_one : (r q : Recorded) → IsRecorded r → IsRecorded q → recording r ≡ recording q → r ≡ q
only_one r q hr hq e =
    let same : lines r ≡ lines q = same_lines at_head (lines r) (lines q) r.text q.text (lines_run r hr) (lines_run q hq) e in
    let texts : r.text ≡ q.text = append_cancel_left (ended (lines r)) r.text q.text (e ∙ ap (λ l. ended l ++ q.text) (sym same)) in
    let more = tails same in
    let limits : r.limit ≡ q.limit = limit_one r.limit q.limit hr.steps_within hq.steps_within (heads more) in
    let after = tails more in
    let given : r.numbers ≡ q.numbers =
    spelled_once 32 signed_decimal IsNumber numbers r.numbers q.numbers (tested is_number r.numbers hr.numbers_fit) (tested is_number q.numbers hq.numbers_fit)
    (append_cancel_left (codes "numbers") (each_after 32 (map signed_decimal r.numbers)) (each_after 32 (map signed_decimal q.numbers)) (heads after)) in
    let both = turns_one r.turns q.turns r.answer q.answer hr.turns_fit hq.turns_fit hr.few_lines hq.few_lines (tails after) in
    let A : ℕ → Recorded = λ x. record { limit = x; numbers = r.numbers; turns = r.turns; answer = r.answer; text = r.text } in
    let B : List ℤ → Recorded = λ x. record { limit = q.limit; numbers = x; turns = r.turns; answer = r.answer; text = r.text } in
    let C : List LabelledTurn → Recorded = λ x. record { limit = q.limit; numbers = q.numbers; turns = x; answer = r.answer; text = r.text } in
    let D : List (List ℕ) → Recorded = λ x. record { limit = q.limit; numbers = q.numbers; turns = q.turns; answer = x; text = r.text } in
    let E : List ℕ → Recorded = λ x. record { limit = q.limit; numbers = q.numbers; turns = q.turns; answer = q.answer; text = x } in
    ap A limits ∙ ap B given ∙ ap C both.turns ∙ ap D both.answer ∙ ap E texts

-- what is read of bytes
pub read_is : (bytes : List ℕ) (r : Recorded) → recording r ≡ bytes → IsRecorded r → IsRead bytes r
read_is bytes r e h = record { whole = e; fit = h; only = λ other g f. only_one other r g h (f ∙ sym e) }

pub whole_record : (bytes b1 b2 b3 b4 : List ℕ) (n1 n2 n3 n4 limit : ℕ) (ns : List ℤ) (ts : List LabelledTurn) (count : ℕ) (ls : List (List ℕ)) (text : List ℕ) →
    Passed at_head 1 bytes at_limit n1 b1 (head_line ∷ []) → 1 ≤ limit → limit ≤ 4294967295 → Passed at_limit n1 b1 at_numbers n2 b2 (limit_line limit ∷ []) →
    IsNumbersLine (numbers_line ns) ns → Passed at_numbers n2 b2 at_turns n3 b3 (numbers_line ns ∷ []) → TurnsRead n3 b3 ts count n4 b4 → EndingRead count b4 ls text →
    IsRead bytes (record { limit = limit; numbers = ns; turns = ts; answer = ls; text = text })
whole_record bytes b1 b2 b3 b4 n1 n2 n3 n4 limit ns ts count ls text p1 some within p2 numbered p3 turns ending =
    let r : Recorded = record { limit = limit; numbers = ns; turns = ts; answer = ls; text = text } in
    let front : List (List ℕ) = head_line ∷ limit_line limit ∷ numbers_line ns ∷ [] in
    let a = passed_on at_head at_limit at_numbers 1 n1 n2 bytes b1 b2 (head_line ∷ []) (limit_line limit ∷ []) p1 p2 in
    let b = passed_on at_head at_numbers at_turns 1 n2 n3 bytes b2 b3 (head_line ∷ limit_line limit ∷ []) (numbers_line ns ∷ []) a p3 in
    let c = passed_on at_head at_turns (at_answer count) 1 n3 n4 bytes b3 b4 front (map turns_line ts ++ answer_line count ∷ []) b turns.passed in
    let whole1 : bytes ≡ ended (front ++ (map turns_line ts ++ answer_line count ∷ [])) ++ (ended (ls ++ text_line ∷ []) ++ text) =
    c.whole ∙ ap (λ l. ended (front ++ (map turns_line ts ++ answer_line count ∷ [])) ++ l) ending.whole in
    let whole2 : bytes ≡ ended ((front ++ (map turns_line ts ++ answer_line count ∷ [])) ++ (ls ++ text_line ∷ [])) ++ text =
    whole1 ∙ sym (append_assoc (ended (front ++ (map turns_line ts ++ answer_line count ∷ []))) (ended (ls ++ text_line ∷ [])) text)
    ∙ ap (λ l. l ++ text) (sym (ended-append (front ++ (map turns_line ts ++ answer_line count ∷ [])) (ls ++ text_line ∷ []))) in
    let inner : (map turns_line ts ++ answer_line count ∷ []) ++ (ls ++ text_line ∷ []) ≡ map turns_line ts ++ answer_line (length ls) ∷ (ls ++ text_line ∷ []) =
    append_assoc (map turns_line ts) (answer_line count ∷ []) (ls ++ text_line ∷ [])
    ∙ ap (λ k. map turns_line ts ++ answer_line k ∷ (ls ++ text_line ∷ [])) (sym ending.counted) in
    let all_lines : (front ++ (map turns_line ts ++ answer_line count ∷ [])) ++ (ls ++ text_line ∷ []) ≡ lines r =
    ap (λ l. head_line ∷ limit_line limit ∷ numbers_line ns ∷ l) inner in
    let few = turns.few in
    let counted = ending.counted in
    read_is bytes r (ap (λ l. ended l ++ text) (sym all_lines) ∙ sym whole2)
    (record {
      some_steps = some;
      steps_within = within;
      numbers_fit = numbered.fit;
      few_numbers = numbered.few;
      turns_fit = turns.turns_fit;
      few_lines = omega (arith, counted, few);
      one_line_each = ending.lines;
    })
