-- The text that `generate` makes: one line for each binding, with numbers drawn from a pseudo-random sequence.
use Rattle.std.specs.Prelude.{ℕ, zero, suc, ◌+◌, ◌*◌, ◌/◌, ◌%◌, ◌==◌, if◌then◌else◌, List, [], ◌∷◌, ◌++◌, codes}
use Rattle.std.specs.Prelude.{decimal}
use Rattle.mls_base.specs.Files.{Files}

-- the state behind another in the sequence of a linear congruential generator, with the numbers that the standard of C
-- gives for `rand`
abbrev pub next : ℕ → ℕ
next s = (s * 1103515245 + 12345) % 2147483648

-- the state after so many draws
unfoldable pub state : (seed draws : ℕ) → ℕ
state seed zero = seed
state seed (suc draws) = next (state seed draws)

-- the number below `bound` that is drawn in a state: the upper bits of the next state, modulo the bound
abbrev pub draw : (s bound : ℕ) → ℕ
draw s bound = next s / 65536 % bound

-- how many numbers line i draws
abbrev pub draws_of : ℕ → ℕ
draws_of i = if i % 4 == 0 then 1 else 2

-- and how many the lines before it draw
unfoldable pub draws_before : ℕ → ℕ
draws_before zero = 0
draws_before (suc i) = draws_before i + draws_of i

-- the name of binding i
abbrev pub binding : ℕ → List ℕ
binding i = codes "v" ++ decimal i

-- a function that makes a record
abbrev pub maker : (i n : ℕ) → List ℕ
maker i n = codes "let " ++ binding i ++ codes " = fun x -> fun y -> {a = x, b = y, c = " ++ decimal n ++ codes "}\n"

-- a record, made by the function j
abbrev pub made : (i j n : ℕ) → List ℕ
made i j n = codes "let " ++ binding i ++ codes " = (" ++ binding j ++ codes " " ++ decimal n ++ codes ") true\n"

-- the label with this number, from 0 to 2
abbrev pub label : ℕ → List ℕ
label l = if l == 0 then codes "a" else if l == 1 then codes "b" else codes "c"

-- a function that adds a field of its argument to one of the record j
abbrev pub adder : (i : ℕ) (label : List ℕ) (j : ℕ) → List ℕ
adder i label j =
    codes "let " ++ binding i ++ codes " = fun r -> r." ++ label ++ codes " + " ++ binding j ++ codes ".c\n"

-- a function that calls itself, and below a number the function j
abbrev pub caller : (i n j : ℕ) → List ℕ
caller i n j =
    codes "let rec " ++ binding i ++ codes " = fun n -> if n < " ++ decimal n ++ codes " then " ++ binding j
    ++ codes " {a = n, b = n, c = n} else " ++ binding i ++ codes " (n - 1)\n"

-- The line of binding i, drawn from this state on. Any four lines in a row have one binding of each form, and where a
-- line names another binding, it is one of an earlier line.
abbrev pub line_from : (s i : ℕ) → List ℕ
line_from s i =
    if i % 4 == 0 then maker i (draw s 1000)
    else if i % 4 == 1 then made i (4 * draw s (i / 4 + 1)) (draw (next s) 1000)
    else if i % 4 == 2 then adder i (label (draw s 3)) (4 * draw (next s) (i / 4 + 1) + 1)
    else caller i (draw s 1000) (4 * draw (next s) (i / 4 + 1) + 2)

abbrev pub line : (seed i : ℕ) → List ℕ
line seed i = line_from (state seed (draws_before i)) i

-- the text with so many bindings
unfoldable pub generated : (seed count : ℕ) → List ℕ
generated seed zero = []
generated seed (suc count) = generated seed count ++ line seed count

-- the name of a generated module
abbrev pub generated_name : List ℕ
generated_name = codes "generated"

-- the files where just the text of a generated module is
abbrev pub generated_files : (seed count : ℕ) → Files
generated_files seed count = (codes "generated.ml", generated seed count) ∷ []
