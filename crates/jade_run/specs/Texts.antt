-- The texts that the commands write. Each line ends with a line feed.
use Rattle.std.specs.Prelude.{ℕ, zero, suc, List, [], ◌∷◌, ◌++◌, map, codes, Option, Some, None, ℤ}
use Rattle.std.specs.Fmt.{decimal, signed_decimal}
use Rattle.std.specs.List.{join_with_byte}
use Rattle.record_parts.specs.Labels.{member_text}
use Rattle.jade_base.specs.declared.place.Pos.{Pos}
use Rattle.jade_base.specs.declared.report.Blame.{Blame}
use Rattle.jade_base.specs.declared.report.FaultKind.{FaultKind}
use Rattle.jade_base.specs.declared.report.FaultKind.TheVariants.{Overflow, Zero, Index, Object, Right, Cover, Change, Limit, Commute}
use Rattle.jade_syntax.specs.Objects.{Label}
use Rattle.jade_syntax.specs.declared.static_fault.StaticKind.{StaticKind}
use Rattle.jade_syntax.specs.declared.static_fault.StaticKind.TheVariants as static

-- a text and its line feed
abbrev pub line_of : List ℕ → List ℕ
line_of text = text ++ 10 ∷ []

-- LINE:COLUMN
abbrev pub place_text : Pos → List ℕ
place_text p = decimal p.line ++ codes ":" ++ decimal p.column

-- the word of a fault
abbrev pub fault_word : FaultKind → List ℕ
fault_word Overflow = codes "overflow"
fault_word Zero = codes "zero"
fault_word Index = codes "index"
fault_word Object = codes "object"
fault_word Right = codes "right"
fault_word Cover = codes "cover"
fault_word Change = codes "change"
fault_word Limit = codes "limit"
fault_word Commute = codes "commute"

-- what stands before an item of a number in a list whose items a byte joins
abbrev pub between : (byte number : ℕ) → List ℕ
between c zero = []
between c (suc i) = c ∷ []

-- a task's path with dots, as 0.1.2
abbrev pub path_text : List ℕ → List ℕ
path_text path = join_with_byte 46 (map decimal path)

-- the place of a blame and a space, where it has a place
abbrev pub place_before : Option Pos → List ℕ
place_before None = []
place_before (Some p) = place_text p ++ codes " "

-- fault LINE:COLUMN KIND task PATH, or fault KIND task PATH
abbrev pub fault_text : List ℕ → Blame → List ℕ
fault_text path blame =
    line_of (codes "fault " ++ place_before blame.pos ++ fault_word blame.kind ++ codes " task " ++ path_text path)

-- refused LINE:COLUMN WORD
abbrev pub refused_text : Pos → List ℕ → List ℕ
refused_text p why = line_of (codes "refused " ++ place_text p ++ codes " " ++ why)

-- what is written where the words are refused
abbrev pub usage_text : List ℕ
usage_text = line_of (codes "usage")

-- what is written of a checked program
abbrev pub ok_text : List ℕ
ok_text = line_of (codes "ok")

-- numbers: want W, got G
abbrev pub numbers_text : (wanted got : ℕ) → List ℕ
numbers_text wanted got = line_of (codes "numbers: want " ++ decimal wanted ++ codes ", got " ++ decimal got)

-- the word of a static fault
abbrev pub static_word : StaticKind → List ℕ
static_word static.Name = codes "name"
static_word static.Twice = codes "twice"
static_word static.Kind = codes "kind"
static_word static.Assign = codes "assign"
static_word static.Size = codes "size"

-- cells with one space between them
abbrev pub cells_text : List ℤ → List ℕ
cells_text cells = join_with_byte 32 (map signed_decimal cells)

-- NAME = CELLS, or NAME[INDEX] = CELLS, with one space between cells
abbrev pub object_text : Label → List ℤ → List ℕ
object_text label cells =
    line_of (label.name ++ member_text label.member ++ codes " = " ++ cells_text cells)

-- one line for each object
abbrev pub objects_text : List Label → List (List ℤ) → List ℕ
objects_text [] objects = []
objects_text (label ∷ labels) [] = []
objects_text (label ∷ labels) (cells ∷ objects) = object_text label cells ++ objects_text labels objects

-- tasks N sum X
abbrev pub drilled_text : (tasks : ℕ) → (total : ℤ) → List ℕ
drilled_text tasks total = line_of (codes "tasks " ++ decimal tasks ++ codes " sum " ++ signed_decimal total)

-- what is written where a recording would be longer than a text may be
abbrev pub long_text : List ℕ
long_text = line_of (codes "record: long")

-- replay: form LINE
abbrev pub form_text : (line : ℕ) → List ℕ
form_text line = line_of (codes "replay: form " ++ decimal line)

-- what is written of a recording whose turns are those of no run of its program
abbrev pub no_turns_text : List ℕ
no_turns_text = line_of (codes "replay: turns")

-- what is written of a recording whose lines are not the answer of its run
abbrev pub differs_text : List ℕ
differs_text = line_of (codes "replay: answer")

-- what is written of a recording that is right
abbrev pub same_text : List ℕ
same_text = line_of (codes "same")
