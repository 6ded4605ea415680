-- The drill text: a program of any number of tasks over sixteen objects, each of which reads one object and changes another.
use Rattle.std.specs.Prelude.{ℕ, List, ◌++◌, codes}
use Rattle.std.specs.Fmt.{decimal}

-- what stands before the number of tasks
abbrev pub drill_head : List ℕ
drill_head = codes "objects block[16] : 64;\nmain {\n    for i in 0 .. "

-- what stands after it
abbrev pub drill_tail : List ℕ
drill_tail =
    codes " {\n        withonly { rd(block[7 * i % 16]); rd_wr(block[(5 * i + 3) % 16]); } do (i) {\n            for c in 0 .. 64 {\n"
    ++ codes "                block[(5 * i + 3) % 16][c] = (block[(5 * i + 3) % 16][c] + block[7 * i % 16][c]) / 2 + i + c;\n"
    ++ codes "            }\n        }\n    }\n}\n"

-- the drill text of so many tasks
abbrev pub drill_text : ℕ → List ℕ
drill_text tasks = drill_head ++ decimal tasks ++ drill_tail
