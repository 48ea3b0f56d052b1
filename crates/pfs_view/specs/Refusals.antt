-- The line that a program writes of a text that is no script, and that line in words.
use Rattle.std.specs.Prelude.{ℕ, ◌≢◌, ◌<◌, ◌^◌, ◌==◌, if◌then◌else◌, List, ◌++◌, codes, decimal}
use Rattle.pfs_view.specs.ScriptLines.{line_at, quoted_line}

unfoldable pub faulty_line : ℕ → List ℕ
faulty_line line = codes "bad script: line " ++ decimal line

unfoldable pub why_faulty : ℕ → List ℕ
why_faulty reason = codes " reason " ++ decimal reason ++ codes "\n"

-- the line that is written of a script's first faulty line and the number of the reason
unfoldable pub refusal_line : ℕ → ℕ → List ℕ
refusal_line line reason = faulty_line line ++ why_faulty reason

-- no line and reason are told so
abbrev pub IsNoRefusal : List ℕ → Type 0
IsNoRefusal text = (line reason : ℕ) → line < 2 ^ 64 → reason < 2 ^ 64 → text ≢ refusal_line line reason

-- why a line of a script is faulty
abbrev pub reason_words : ℕ → List ℕ
reason_words reason =
    if reason == 1 then codes "a byte of it is none of a script's"
    else if reason == 2 then codes "it is the last one and has no line feed"
    else if reason == 3 then codes "it has none of the forms of a script, or a name breaks its rule"
    else if reason == 4 then codes "it may not stand there"
    else if reason == 5 then codes "a number in it is over 2^64 - 1, or a repeat has 0"
    else if reason == 6 then codes "its session is none of 1 to 64, has a block in the phase, or has quit, or names are missing or too many"
    else if reason == 7 then codes "a name in it is not known, or is that of a class that is there"
    else if reason == 8 then codes "a limit is outside its range, or is given twice"
    else if reason == 9 then codes "an event may not start there, or none may end"
    else if reason == 10 then codes "a statement's text can't be read as tokens"
    else if reason == 11 then codes "with it there are more lines or bytes than a script may have"
    else if reason == 12 then codes "with it there are more phases, classes, tables, SELECTs or work than a script may have"
    else codes "its reason has no words here"

unfoldable pub line_words : ℕ → List ℕ
line_words line = codes "Line " ++ decimal line ++ codes " is the first faulty line: "

-- what it says
unfoldable pub explained_text : ℕ → ℕ → List ℕ
explained_text line reason = line_words line ++ reason_words reason ++ codes ".\n"

-- both, and the script's line, where the script is there
unfoldable pub refusal_text : List ℕ → ℕ → ℕ → List ℕ
refusal_text script line reason =
    refusal_line line reason ++ explained_text line reason ++ quoted_line (line_at script line)
