-- What stands for a call does what the call does.
use Rattle.std.proofs.Common.{◌≡◌, ℕ, suc, ◌+◌, ◌-◌, ◌≤◌, Bool, true, false, List, [], ◌∷◌, ◌++◌, length, drop, map, refl, sym, ap, ◌∙◌, arith}
use Rattle.std.proofs.Math.Seq.{drop-append_seam}
use Rattle.std.proofs.lemmas.List.{length-append}
use Rattle.std.specs.Prelude.{not, IsTrue, if◌then◌else◌, nat_lt, Some}
use Rattle.jade_syntax.specs.Abstract.{Name, Expression, Action, Actions}
use Rattle.jade_syntax.specs.Numbering.{same_name}
use Rattle.jade_meaning.specs.Course.{Steps, Ends, Environment, Setting, Mine, On, bind, leave, step, choose, eval, run, run_all, value_of, limit_blame}
use Rattle.proc_laws.specs.Source.{Param, Procedure}
use Rattle.proc_laws.specs.SourceMeaning.{Calls, act_all, pass, entered, call, also, all_calls, no_calls}
use Rattle.proc_laws.specs.Expansion.{Each, names_in, argument_names, block_names, renamed, Made, Expansions, expanded_all, sets, sets_all, declares}
use Rattle.proc_expand.specs.Names.{is_among}
use Rattle.proc_laws.specs.Expansion.{replaced, replacement, call_made, and_call, all_expansions, no_expansions}
use Rattle.proc_expand.specs.Names.{place_among}
use Rattle.proc_laws.proofs.Basics.{by_case, no_both, each_left, each_right, each_among, Apart, bound, moved, past, not_true, not_same, same_self}
use Rattle.proc_laws.proofs.Evaluations.{Renames, Elsewhere, seeing, choose_same, evals}
use Rattle.proc_laws.proofs.Scopes.{Held, Behind, AreItems, Follows, sees_of, held_apart, fresh_apart}
use Rattle.proc_laws.proofs.Statements.{Grows, NoItem, Agrees, grow_all, acts_all}
use Rattle.proc_laws.proofs.Replacing.{known_of, each_known, renames, of_item, of_other}

pub bound_append : (e f : Environment) → bound (e ++ f) ≡ bound e ++ bound f
bound_append [] f = refl
bound_append (b ∷ e) f = ap (λ u. b.name ∷ u) (bound_append e f)

pub each_both : (is : Name → Bool) (xs ys : List Name) → Each is xs → Each is ys → Each is (xs ++ ys)
each_both is [] ys h k = k
each_both is (x ∷ xs) ys h k = (h.0, each_both is xs ys h.1 k)

pub apart_both : (x : Name) (e f : Environment) → Apart x (bound e) → Apart x (bound f) → Apart x (bound (e ++ f))
apart_both x [] f h k = k
apart_both x (b ∷ e) f h k = (h.0, apart_both x e f h.1 k)

module _ (s : Setting) (items : List Name) (given_items : AreItems s items) (fresh : ℕ → Name) (elsewhere : Elsewhere s items)
    (one_each : (i j : ℕ) → same_name (fresh i) (fresh j) ≡ true → i ≡ j) (no_item : (i : ℕ) → is_among items (fresh i) ≡ false)
    (calls : Calls) (exps : Expansions) (agrees : Agrees s items fresh calls exps) (grows : Grows exps) (p : Procedure) where
  -- a call that is reached at a number, by a caller
  module _ (known : Name → Bool) (to : Name → Name) (n0 : ℕ) (r : Renames items fresh known to n0) (c : Environment)
      (b : Behind s items fresh known to n0 c) (n : ℕ) (le : n0 ≤ n) where
    -- with what the call replaces names, and which it knows
    own : Name → Name
    own = replacement items fresh (replaced items fresh p) n

    module _ (ls : Environment) (k : Held items known ls) (on on' : On) (f : Follows s items known to c on on') where
      -- the caller's variables stand behind those of the body
      behind_call : Behind s items fresh (known_of items (replaced items fresh p)) (replacement items fresh (replaced items fresh p) n)
          (n + length (replaced items fresh p)) (moved to ls ++ c)
      behind_call = record {
        item_seen = λ x i.
            sym (past x ls s.given (held_apart s items given_items fresh known to n0 r x i ls k))
            ∙ sees_of s items given_items fresh known to n0 r c b ls k x (r.item_known x i)
            ∙ ap (λ y. value_of y (moved to ls ++ c)) (r.item x i);
        apart = λ x h i. again x i (n + place_among (replaced items fresh p) x) (omega (arith, le)) (of_other items fresh one_each no_item (replaced items fresh p) n x i);
        aged = λ i u. apart_both (fresh i) (moved to ls) c (fresh_apart s items given_items fresh known to n0 r i (omega (arith, le, u)) ls k)
            (b.aged i (omega (arith, le, u)));
      }
        where
          again : (x : Name) → is_among items x ≡ false → (i : ℕ) → n0 ≤ i → replacement items fresh (replaced items fresh p) n x ≡ fresh i
              → Apart (replacement items fresh (replaced items fresh p) n x) (bound (moved to ls ++ c))
          again x h i u e = rw e (apart_both (fresh i) (moved to ls) c (fresh_apart s items given_items fresh known to n0 r i u ls k) (b.aged i u))

      -- at the end of the body the caller has its variables again
      ends_same : (m0 : Mine) → Follows s items (known_of items (replaced items fresh p)) (replacement items fresh (replaced items fresh p) n) (moved to ls ++ c)
          (λ q. on (seeing q (ls ++ s.given))) (λ q. on' (leave (seeing m0 (moved to ls ++ c)) q))
      ends_same m0 us w z =
          let e = moved to ls ++ c in let xs = moved (replacement items fresh (replaced items fresh p) n) us in
          let d : length (xs ++ e) - length e ≡ length xs = omega (arith, length-append xs e) in
          f ls k z ∙ ap (λ u. on' (seeing z u)) (sym (ap (λ i. drop i (xs ++ e)) d ∙ drop-append_seam xs e))

      param_no_item : (x : Name) → IsTrue (not (is_among items (replacement items fresh (replaced items fresh p) n x))) → is_among items x ≡ false
      param_no_item x h = by_case (is_among items x) (λ i.
          no_both (is_among items (replacement items fresh (replaced items fresh p) n x))
          (ap (is_among items) (of_item items fresh one_each no_item (replaced items fresh p) n x i) ∙ i)
          (not_true (is_among items (replacement items fresh (replaced items fresh p) n x)) h)) (λ e. e)

      -- no name of the caller is a parameter's
      params_apart : (x : Name) → known x ≡ true → (us : Environment) → Held items (known_of items (replaced items fresh p)) us
          → Apart (to x) (bound (moved (replacement items fresh (replaced items fresh p) n) us))
      params_apart x h [] w = tt
      params_apart x h (d ∷ us) w =
          let i = n + place_among (replaced items fresh p) d.name in
          let e = of_other items fresh one_each no_item (replaced items fresh p) n d.name w.1 in (
            ap not (not_same (to x) (replacement items fresh (replaced items fresh p) n d.name)
                (λ g. no_both (same_name (fresh i) (to x)) (ap (same_name (fresh i)) (g ∙ e) ∙ same_self (fresh i)) (r.old x h i (omega (arith, le))))),
            params_apart x h us w.2,
          )

      step_pair : (g g' : On) (m : Mine) (e e' : Environment) → ((m : Mine) → g (seeing m e) ≡ g' (seeing m e'))
          → step s.limit g (seeing m e) ≡ step s.limit g' (seeing m e')
      step_pair g g' m e e' h =
          choose_same (nat_lt m.taken s.limit) (λ n. Steps (g (record n { taken = suc n.taken }))) (λ n. Ends (Some limit_blame))
          (λ n. Steps (g' (record n { taken = suc n.taken }))) (λ n. Ends (Some limit_blame)) (seeing m e) (seeing m e')
          (ap Steps (h (record m { taken = suc m.taken }))) refl

      body_same : (body_known : Each (known_of items (replaced items fresh p)) (block_names p.body)) → (m0 : Mine)
          → NoItem items (sets_all (expanded_all exps (replacement items fresh (replaced items fresh p) n) p.body (n + length (replaced items fresh p))).made)
          → (us : Environment) → Held items (known_of items (replaced items fresh p)) us → (m : Mine)
          → entered s (act_all s calls p.body) (us ++ s.given) on (seeing m (ls ++ s.given))
          ≡ run_all s (expanded_all exps (replacement items fresh (replaced items fresh p) n) p.body (n + length (replaced items fresh p))).made
          (λ q. on' (leave (seeing m0 (moved to ls ++ c)) q)) (seeing m (moved (replacement items fresh (replaced items fresh p) n) us ++ (moved to ls ++ c)))
      body_same body_known m0 clean us w m =
          acts_all s items given_items fresh elsewhere calls exps agrees grows (known_of items (replaced items fresh p))
          (replacement items fresh (replaced items fresh p) n) (n + length (replaced items fresh p))
          (renames items fresh one_each no_item (replaced items fresh p) n) p.body body_known (moved to ls ++ c) behind_call
          (n + length (replaced items fresh p)) (omega arith) clean (λ q. on (seeing q (ls ++ s.given)))
          (λ q. on' (leave (seeing m0 (moved to ls ++ c)) q)) (ends_same m0) us w m

      passes : (body_known : Each (known_of items (replaced items fresh p)) (block_names p.body)) → (m0 : Mine)
          → (ps : List Param) → Each (known_of items (replaced items fresh p)) (map (λ (a : Param). a.name) ps)
          → (es : List Expression) → Each known (argument_names es)
          → NoItem items (sets_all (declares (replacement items fresh (replaced items fresh p) n) ps (map (renamed to) es)
          (expanded_all exps (replacement items fresh (replaced items fresh p) n) p.body (n + length (replaced items fresh p))).made))
          → (us : Environment) → Held items (known_of items (replaced items fresh p)) us → (m : Mine)
          → pass s ps es (us ++ s.given) (λ env q. entered s (act_all s calls p.body) env on q) (seeing m (ls ++ s.given))
          ≡ run_all s (declares (replacement items fresh (replaced items fresh p) n) ps (map (renamed to) es)
          (expanded_all exps (replacement items fresh (replaced items fresh p) n) p.body (n + length (replaced items fresh p))).made)
          (λ q. on' (leave (seeing m0 (moved to ls ++ c)) q)) (seeing m (moved (replacement items fresh (replaced items fresh p) n) us ++ (moved to ls ++ c)))
      passes bk m0 [] pk es h clean us w m = body_same bk m0 clean us w m
      passes bk m0 (a ∷ ps) pk [] h clean us w m = body_same bk m0 clean us w m
      passes bk m0 (a ∷ ps) pk (e ∷ es) h clean us w m =
          let to' : Name → Name = replacement items fresh (replaced items fresh p) n in
          let rest : Actions = (expanded_all exps to' p.body (n + length (replaced items fresh p))).made in
          let on2 : On = λ q. on' (leave (seeing m0 (moved to ls ++ c)) q) in
          let next : Environment → On → On = λ env g. g in
          step_pair
          (λ q. eval s e q (λ v. pass s ps es (record { name = a.name; value = v } ∷ (us ++ s.given)) (λ env z. entered s (act_all s calls p.body) env on z) q))
          (λ q. eval s (renamed to e) q (λ v. run_all s (declares to' ps (map (renamed to) es) rest) on2 (bind (to' a.name) v q)))
          m (ls ++ s.given) (moved to' us ++ (moved to ls ++ c)) (λ z.
          evals s items fresh elsewhere known to n0 r (ls ++ s.given) (moved to' us ++ (moved to ls ++ c)) z
          (λ x i. sees_of s items given_items fresh known to n0 r c b ls k x i
          ∙ sym (past (to x) (moved to' us) (moved to ls ++ c) (params_apart x i us w))) e (each_left known (names_in e) (argument_names es) h)
          (λ v. pass s ps es (record { name = a.name; value = v } ∷ (us ++ s.given)) (λ env q. entered s (act_all s calls p.body) env on q)
          (seeing z (ls ++ s.given)))
          (λ v. run_all s (declares to' ps (map (renamed to) es) rest) on2 (bind (to' a.name) v (seeing z (moved to' us ++ (moved to ls ++ c)))))
          (λ v. passes bk m0 ps pk.1 es (each_right known (names_in e) (argument_names es) h) clean.1 (record { name = a.name; value = v } ∷ us)
          (pk.0, param_no_item a.name clean.0, w) z))

      -- the call
      pub called : (args : List Expression) → Each known (argument_names args)
          → NoItem items (sets (call_made items fresh exps p (map (renamed to) args) n).made) → (m : Mine)
          → call s calls p args on (seeing m (ls ++ s.given))
          ≡ run s (call_made items fresh exps p (map (renamed to) args) n).made on' (seeing m (moved to ls ++ c))
      called args h clean m =
          let own = map (λ (a : Param). a.name) p.params in
          let all : Each (known_of items (replaced items fresh p)) (own ++ block_names p.body) =
          each_among (own ++ block_names p.body) (known_of items (replaced items fresh p)) (each_known items (own ++ block_names p.body)) in
          passes (each_right (known_of items (replaced items fresh p)) own (block_names p.body) all) m p.params
          (each_left (known_of items (replaced items fresh p)) own (block_names p.body) all) args h clean [] tt m

  picked : (t : Bool) (x y : Made Action) (g d : On) (on' : On) (m m' : Mine) → (NoItem items (sets x.made) → g m ≡ run s x.made on' m')
      → (NoItem items (sets y.made) → d m ≡ run s y.made on' m') → NoItem items (sets (if t then x else y).made)
      → choose t g d m ≡ run s (if t then x else y).made on' m'
  picked true x y g d on' m m' h k clean = h clean
  picked false x y g d on' m m' h k clean = k clean

  pub also_agrees : Agrees s items fresh (also s calls p) (and_call items fresh exps p)
  also_agrees known to n0 r c b f args h n le clean on on' fl ls k m =
      picked (same_name f p.name) (call_made items fresh exps p (map (renamed to) args) n) (exps f (map (renamed to) args) n)
      (call s calls p args on) (calls f args on) on' (seeing m (ls ++ s.given)) (seeing m (moved to ls ++ c))
      (λ q. called known to n0 r c b n le ls k on on' fl args h q m)
      (λ q. agrees known to n0 r c b f args h n le q on on' fl ls k m) clean

  pub also_grows : Grows (and_call items fresh exps p)
  also_grows f args n = by (same_name f p.name) (grows f args n)
    where
      by : (t : Bool) → n ≤ (exps f args n).next → n ≤ (if t then call_made items fresh exps p args n else exps f args n).next
      by true h = let u = grow_all exps grows (replacement items fresh (replaced items fresh p) n) p.body (n + length (replaced items fresh p)) in omega (arith, u)
      by false h = h

module _ (s : Setting) (items : List Name) (given_items : AreItems s items) (fresh : ℕ → Name) (elsewhere : Elsewhere s items)
    (one_each : (i j : ℕ) → same_name (fresh i) (fresh j) ≡ true → i ≡ j) (no_item : (i : ℕ) → is_among items (fresh i) ≡ false) where
  pub all_agree : (ps : List Procedure) (calls : Calls) (exps : Expansions) → Agrees s items fresh calls exps → Grows exps
      → Agrees s items fresh (all_calls s calls ps) (all_expansions items fresh exps ps)
  all_agree [] calls exps agrees grows = agrees
  all_agree (p ∷ ps) calls exps agrees grows =
      all_agree ps (also s calls p) (and_call items fresh exps p)
      (also_agrees s items given_items fresh elsewhere one_each no_item calls exps agrees grows p)
      (also_grows s items given_items fresh elsewhere one_each no_item calls exps agrees grows p)

  pub all_grow : (ps : List Procedure) (calls : Calls) (exps : Expansions) → Agrees s items fresh calls exps → Grows exps
      → Grows (all_expansions items fresh exps ps)
  all_grow [] calls exps agrees grows = grows
  all_grow (p ∷ ps) calls exps agrees grows =
      all_grow ps (also s calls p) (and_call items fresh exps p)
      (also_agrees s items given_items fresh elsewhere one_each no_item calls exps agrees grows p)
      (also_grows s items given_items fresh elsewhere one_each no_item calls exps agrees grows p)

  pub none_agree : Agrees s items fresh (no_calls s) no_expansions
  none_agree known to n0 r c b f args h n le clean on on' fl ls k m =
      let e = moved to ls ++ c in
      let z : length e - length e ≡ 0 = omega arith in
      fl ls k m ∙ ap (λ u. on' (seeing m u)) (sym (ap (λ i. drop i e) z))

  pub none_grow : Grows no_expansions
  none_grow f args n = omega arith
