-- A part of a larger tree is refused, or too long: so is the tree.
use Rattle.std.proofs.Common.{◌≡◌, ℕ, List, [], ◌∷◌, ◌++◌, refl, ◌∙◌, append_assoc, nat_le}
use Rattle.std.proofs.lemmas.List.Folds.{list_all-append}
use Rattle.jade_parser.specs.Spelled.{Part, Parts, AllValid, AllShort}
use Rattle.jade_parser.specs.steps.Machine.{Stack}
use Rattle.jade_parser.specs.declared.Seen.{Seen}
use Rattle.jade_parser.specs.declared.Stop.{Stop}
use Rattle.jade_parser.specs.declared.Stop.TheVariants.{Token as AtToken, Long, Memory}
use Rattle.jade_parser.specs.steps.Reads.{Stops, Whole, OnStop, OnOther}
use Rattle.jade_parser.specs.steps.Parts.{RefusalIn, LongIn}
use Rattle.jade_parser.proofs.Reading.{reads_on, all_valid}

pub all_short : (s t : Parts) → AllShort s → AllShort t → AllShort (s ++ t)
all_short s t p q = record { is = rw (list_all-append (λ (x : Part). nat_le x.nth 256) s t, p.is, q.is) refl }

pub none_short : AllShort []
none_short = record { is = refl }

pub refusal_in_under : {X : Type 0} {P : X → Type 0} {f : X → Parts} {all : List Seen} {a k : ℕ} {xs : Stack} (zs : Stack) → RefusalIn P f all a xs k
    → RefusalIn P f all a (xs ++ zs) k
refusal_in_under {X} {P} {f} {all} {a} {k} {xs} zs p =
    record { stops = record { by = λ st. rw (append_assoc xs zs st) (p.stops.by (zs ++ st)) }; begun = p.begun }

module _ {X Y : Type 0} (P : X → Type 0) (Q : Y → Type 0) (f : X → Parts) (g : Y → Parts) (all : List Seen) (a b : ℕ) (xs ys : Stack) (s : Parts)
    (make : Y → X)
    (z : Parts)
    (eq : (y : Y) → f (make y) ≡ s ++ (g y ++ z)) (proper : (y : Y) → Q y → P (make y)) (v : AllValid z) (short : AllShort s) (w : Whole all a xs b ys s)
  where
    refused_part : (k : ℕ) → RefusalIn Q g all b ys k → RefusalIn P f all a xs k
    refused_part k r = record {
      stops = record { by = λ st. w.passes.by st ∙ r.stops.by st };
      begun = record {
        read = s ++ r.begun.read;
        more = r.begun.more ++ z;
        tree = make r.begun.tree;
        reads = reads_on w.reads r.begun.reads;
        by = eq r.begun.tree ∙ rw (r.begun.by) (simp append_assoc);
        fits = proper r.begun.tree r.begun.fits;
        valid = all_valid r.begun.more z r.begun.valid v;
        short = all_short s r.begun.read short r.begun.short;
      };
    }

    long_part : (k : ℕ) → LongIn Q g all b k → LongIn P f all a k
    long_part k l = record {
      read = s ++ l.read;
      last = l.last;
      more = l.more ++ z;
      tree = make l.tree;
      reads = rw (append_assoc s l.read (l.last ∷ [])) (reads_on w.reads l.reads);
      by = eq l.tree ∙ rw (l.by) (simp append_assoc);
      fits = proper l.tree l.fits;
      valid = λ k. all_valid l.more z (l.valid k) v;
      short = all_short s l.read short l.short;
      too_many = l.too_many;
    }

    -- after s, which was read, a part is refused or too long
    pub stop_in : (e : Stop) → OnStop e (RefusalIn Q g all b ys) (LongIn Q g all b) → OnStop e (RefusalIn P f all a xs) (LongIn P f all a)
    stop_in (AtToken k) o = refused_part k o
    stop_in (Long k) o = long_part k o
    stop_in Memory o = tt

-- after s, which was read, another token stands than the tree asks for
pub stop_here : {X : Type 0} (P : X → Type 0) (f : X → Parts) (all : List Seen) (a b : ℕ) (xs ys : Stack) (s more : Parts) (tree : X)
    → f tree ≡ s ++ more → P tree → AllValid more → AllShort s → Whole all a xs b ys s → Stops all b ys b → RefusalIn P f all a xs b
stop_here P f all a b xs ys s more tree eq fits v short w stop = record {
  stops = record { by = λ st. w.passes.by st ∙ stop.by st };
  begun = record { read = s; more = more; tree = tree; reads = w.reads; by = eq; fits = fits; valid = v; short = short };
}

pub stop_other : {X : Type 0} (P : X → Type 0) (f : X → Parts) (all : List Seen) (a b : ℕ) (xs ys zs : Stack) (s more : Parts) (tree : X) (e : Stop)
    → f tree ≡ s ++ more → P tree → AllValid more → AllShort s → Whole all a xs b (ys ++ zs) s → OnOther e all b ys
    → OnStop e (RefusalIn P f all a xs) (LongIn P f all a)
stop_other P f all a b xs ys zs s more tree (AtToken k) eq fits v short w o =
    let under : Stops all b (ys ++ zs) b = record { by = λ st. rw (append_assoc ys zs st) (o.1.by (zs ++ st)) } in
    rw (o.0) (stop_here P f all a b xs (ys ++ zs) s more tree eq fits v short w under)
stop_other P f all a b xs ys zs s more tree (Long k) eq fits v short w o = elim o [ ]
stop_other P f all a b xs ys zs s more tree Memory eq fits v short w o = tt

-- what stands below changes no refusal
pub stop_under : {X : Type 0} (P : X → Type 0) (f : X → Parts) (all : List Seen) (a : ℕ) (xs zs : Stack) (e : Stop)
    → OnStop e (RefusalIn P f all a xs) (LongIn P f all a) → OnStop e (RefusalIn P f all a (xs ++ zs)) (LongIn P f all a)
stop_under P f all a xs zs (AtToken k) o = refusal_in_under zs o
stop_under P f all a xs zs (Long k) o = o
stop_under P f all a xs zs Memory o = tt
