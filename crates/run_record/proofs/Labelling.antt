-- Labels, and the line of turns on an object.
use Rattle.std.proofs.Common.{◌≡◌, ◌≢◌, ℕ, true, List, [], ◌∷◌, ◌++◌, map, codes, refl, ap, sym, ◌∙◌, subst, arith, All}
use Rattle.std.specs.Fmt.{decimal}
use Rattle.std.proofs.lemmas.List.{append_cancel_left}
use Rattle.jade_alphabet.specs.Letters.{is_word}
use Rattle.run_record.specs.declared.turns.LabelledTurn.{LabelledTurn}
use Rattle.run_record.specs.declared.paths.Unfit.{Unfit}
use Rattle.run_record.specs.declared.paths.Unfit.TheVariants.{Form, Memory}
use Rattle.run_record.specs.Pieces.{each_after, path_text, IsPath, IsLabel, single, member}
use Rattle.run_record.specs.Form.{IsTurnsLine}
use Rattle.run_record.specs.steps.Cutting.{IsCut, IsIndex}
use Rattle.run_record.specs.steps.Unfit.{NoPaths, NoTurns}
use Rattle.run_record.proofs.Bytes.{lacks, label_above, word_lacks}
use Rattle.run_record.proofs.Cuts.{front_same, back_same}
use Rattle.run_record.proofs.Spellings.{begins_after, no_more}

-- a name, and nothing or an index after it
pub label_made : (label name index : List ℕ) → label ≡ name ++ index → is_word name ≡ true → index ≡ [] → IsLabel label
label_made label name index e word none =
    let same : name ≡ label = sym (no_more name) ∙ ap (λ x. name ++ x) (sym none) ∙ sym e in
    let F : List ℕ → Type 0 = λ x. is_word x ≡ true in
    single (subst F same word)

pub label_indexed : (label name index : List ℕ) → label ≡ name ++ index → is_word name ≡ true → IsIndex index → IsLabel label
label_indexed label name index e word i = member name i.0 word i.1 (e ∙ ap (λ x. name ++ x) i.2)

-- how a label is cut before a bracket
pub record LabelParts (name index : List ℕ) : Type 0 where
  pub word : is_word name ≡ true
  pub rest : (index ≡ [] → ⊥) → IsIndex index

pub label_parts : (label name index : List ℕ) → IsCut 91 label name index → IsLabel label → LabelParts name index
label_parts label name index cut (single word) =
    let e : name ++ index ≡ label ++ [] = sym cut.whole ∙ sym (no_more label) in
    let l = word_lacks label word in
    let front = front_same 91 name label index [] cut.lacks l cut.next tt e in
    let back = back_same 91 name label index [] cut.lacks l cut.next tt e in
    let F : List ℕ → Type 0 = λ x. is_word x ≡ true in
    record { word = subst F (sym front) word; rest = λ h. absurd (h back) }
label_parts label name index cut (member n i word lt s) =
    let e : name ++ index ≡ n ++ 91 ∷ (decimal i ++ 93 ∷ []) = sym cut.whole ∙ s in
    let l = word_lacks n word in
    let front = front_same 91 name n index (91 ∷ (decimal i ++ 93 ∷ [])) cut.lacks l cut.next refl e in
    let back = back_same 91 name n index (91 ∷ (decimal i ++ 93 ∷ [])) cut.lacks l cut.next refl e in
    let F : List ℕ → Type 0 = λ x. is_word x ≡ true in
    record { word = subst F (sym front) word; rest = λ h. (i, lt, back) }

-- the turns of a line
pub turns_made : (line turns label rest word : List ℕ) (paths : List (List ℕ)) → line ≡ codes "turns " ++ turns → IsCut 32 turns label rest → IsLabel label →
    rest ≡ each_after 32 (map path_text paths) → paths ≢ [] → All IsPath paths → word ≡ label →
    IsTurnsLine line (record { label = word; paths = paths })
turns_made line turns label rest word paths w cut fit e some good is =
    let F : List ℕ → Type 0 = λ l. IsTurnsLine line (record { label = l; paths = paths }) in
    let made : IsTurnsLine line (record { label = label; paths = paths }) =
    record {
      fit = record { label = fit; some = some; paths = good };
      spelled = w ∙ ap (λ x. codes "turns " ++ x) (cut.whole ∙ ap (λ x. label ++ x) e);
    } in
    subst F (sym is) made

-- how the line of turns is cut
pub record TurnParts (turn : LabelledTurn) (label rest : List ℕ) : Type 0 where
  pub label_is : label ≡ turn.label
  pub rest_is : rest ≡ each_after 32 (map path_text turn.paths)

pub turn_parts : (line turns label rest : List ℕ) (turn : LabelledTurn) → line ≡ codes "turns " ++ turns → IsCut 32 turns label rest → IsTurnsLine line turn → TurnParts turn label rest
turn_parts line turns label rest turn w cut h =
    let e : turns ≡ turn.label ++ each_after 32 (map path_text turn.paths) =
    append_cancel_left (codes "turns ") turns (turn.label ++ each_after 32 (map path_text turn.paths)) (sym w ∙ h.spelled) in
    let l = lacks 44 32 turn.label (omega arith) (label_above turn.label h.fit.label) in
    let b = begins_after 32 (map path_text turn.paths) in
    record {
      label_is = front_same 32 label turn.label rest (each_after 32 (map path_text turn.paths)) cut.lacks l cut.next b (sym cut.whole ∙ e);
      rest_is = back_same 32 label turn.label rest (each_after 32 (map path_text turn.paths)) cut.lacks l cut.next b (sym cut.whole ∙ e);
    }

pub no_turns_head : (line : List ℕ) (turn : LabelledTurn) → ((rest : List ℕ) → line ≡ codes "turns " ++ rest → ⊥) → IsTurnsLine line turn → ⊥
no_turns_head line turn none h = none (turn.label ++ each_after 32 (map path_text turn.paths)) h.spelled

pub no_label : (line turns label rest : List ℕ) (turn : LabelledTurn) → line ≡ codes "turns " ++ turns → IsCut 32 turns label rest → (IsLabel label → ⊥) → IsTurnsLine line turn → ⊥
no_label line turns label rest turn w cut none h =
    let p = turn_parts line turns label rest turn w cut h in
    none (subst IsLabel (sym p.label_is) h.fit.label)

pub no_paths : (line turns label rest : List ℕ) (error : Unfit) → line ≡ codes "turns " ++ turns → IsCut 32 turns label rest → NoPaths rest error → NoTurns line error
no_paths line turns label rest Form w cut none =
    λ turn h.
    let p = turn_parts line turns label rest turn w cut h in
    none turn.paths h.fit.some h.fit.paths p.rest_is
no_paths line turns label rest Memory w cut none = tt
