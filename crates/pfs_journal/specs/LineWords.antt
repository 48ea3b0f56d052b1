-- The words of a line, and what its words say.
use Rattle.std.specs.Prelude.{ℕ, ◌≡◌, ◌<◌, ◌^◌, ◌==◌, not, Bool, true, if◌then◌else◌, List, [], ◌∷◌, ◌++◌, Option, Some, None, codes, take, drop, decimal}
use Rattle.std.specs.List.{All, flat_map, prefix_len}
use Rattle.std.specs.Str.{bytes_eq}
use Rattle.pfs_event.specs.declared.entry.Entry.{Entry}
use Rattle.pfs_event.specs.declared.entry.Entry.TheVariants as entry
use Rattle.pfs_event.specs.declared.verdict.Verdict.{Verdict}
use Rattle.pfs_event.specs.declared.verdict.Verdict.TheVariants.{LostThread, LostClass, OffGlobal, OffClass, OffTable, OffThread, LostNested, LostLocker, Aside, Attributed}
use Rattle.pfs_event.specs.Verdicts.{verdict_name}
use Rattle.pfs_text.specs.declared.values.RowValue.{RowValue}
use Rattle.pfs_text.specs.declared.values.RowValue.TheVariants as value
use Rattle.pfs_journal.specs.declared.line.Line.{Line}
use Rattle.pfs_journal.specs.declared.line.Line.TheVariants.{Head, Phase, Session, Entry as Journal, Row, Final, Table, Lost, End}
use Rattle.pfs_journal.specs.Spelling.{optional_text, value_text}

-- a byte of a word: any but a space
abbrev pub is_word_byte : ℕ → Bool
is_word_byte b = not (b == 32)

-- a byte of a line: any but a line feed
abbrev pub is_line_byte : ℕ → Bool
is_line_byte b = not (b == 10)

-- the bytes up to the first space, and those from it on
abbrev pub front_word : List ℕ → List ℕ
front_word bytes = take (prefix_len is_word_byte bytes) bytes

abbrev pub behind_word : List ℕ → List ℕ
behind_word bytes = drop (prefix_len is_word_byte bytes) bytes

-- nothing, or a space and more
abbrev pub IsBehind : List ℕ → Type 0
IsBehind [] = Unit {0}
IsBehind (b ∷ bytes) = b ≡ 32

-- a space and a word stand in front of this
pub record Leads (word behind bytes : List ℕ) : Type 0 where
  pub clean : All (λ b. is_word_byte b ≡ true) word
  pub stops : IsBehind behind
  pub text : bytes ≡ 32 ∷ (word ++ behind)

-- a number is below 2^64
abbrev pub Fits : ℕ → Type 0
Fits number = number < 2 ^ 64

abbrev pub FitsField : Option ℕ → Type 0
FitsField None = Unit {0}
FitsField (Some number) = Fits number

-- the word of a number, or `-` where there is none
abbrev pub optional_word : Option ℕ → List ℕ
optional_word None = codes "-"
optional_word (Some number) = decimal number

-- that there is no number, where the word is `-`
abbrev pub dash_of : List ℕ → Option (Option ℕ)
dash_of word = if bytes_eq word (codes "-") then Some None else None

abbrev pub FitsValue : RowValue → Type 0
FitsValue value.Null = Unit {0}
FitsValue (value.Number number) = Fits number
FitsValue (value.Text text) = Unit {0}

-- the word with which an entry's line begins
abbrev pub entry_word : Entry → List ℕ
entry_word (entry.Connect action thread account user host) = codes "connect"
entry_word (entry.Start event verdict consumers thread class table) = codes "start"
entry_word (entry.End event last consumers thread) = codes "end"
entry_word (entry.Add row version) = codes "add"
entry_word (entry.Held row first second) = codes "held"
entry_word (entry.Ring row version) = codes "ring"
entry_word (entry.Long row version ticket) = codes "long"
entry_word (entry.Busy row first second) = codes "busy"
entry_word (entry.Late row ticket greater) = codes "late"
entry_word entry.Settle = codes "settle"
entry_word (entry.Act action) = codes "act"
entry_word (entry.Take row version) = codes "take"
entry_word (entry.Give row version source) = codes "give"
entry_word (entry.Tag row version) = codes "tag"
entry_word (entry.Free row version) = codes "free"
entry_word (entry.Set word version flags) = codes "set"
entry_word (entry.Reply number) = codes "reply"
entry_word (entry.Error number) = codes "error"
entry_word entry.Query = codes "query"
entry_word (entry.Seen row version) = codes "seen"
entry_word (entry.Vacant row) = codes "vacant"
entry_word (entry.Saw word version) = codes "saw"
entry_word (entry.Rows number) = codes "rows"

-- the numbers on an entry's line, in their order
abbrev pub entry_numbers : Entry → List (Option ℕ)
entry_numbers (entry.Connect action thread account user host) = Some action ∷ thread ∷ account ∷ user ∷ host ∷ []
entry_numbers (entry.Start event verdict consumers thread class table) =
    event ∷ consumers ∷ thread ∷ class ∷ table ∷ []
entry_numbers (entry.End event last consumers thread) = event ∷ last ∷ consumers ∷ thread ∷ []
entry_numbers (entry.Add row version) = Some row ∷ Some version ∷ []
entry_numbers (entry.Held row first second) = Some row ∷ Some first ∷ Some second ∷ []
entry_numbers (entry.Ring row version) = Some row ∷ Some version ∷ []
entry_numbers (entry.Long row version ticket) = Some row ∷ Some version ∷ Some ticket ∷ []
entry_numbers (entry.Busy row first second) = Some row ∷ Some first ∷ Some second ∷ []
entry_numbers (entry.Late row ticket greater) = Some row ∷ Some ticket ∷ Some greater ∷ []
entry_numbers entry.Settle = []
entry_numbers (entry.Act action) = Some action ∷ []
entry_numbers (entry.Take row version) = Some row ∷ Some version ∷ []
entry_numbers (entry.Give row version source) = Some row ∷ Some version ∷ Some source ∷ []
entry_numbers (entry.Tag row version) = Some row ∷ Some version ∷ []
entry_numbers (entry.Free row version) = Some row ∷ Some version ∷ []
entry_numbers (entry.Set word version flags) = Some word ∷ Some version ∷ Some flags ∷ []
entry_numbers (entry.Reply number) = Some number ∷ []
entry_numbers (entry.Error number) = Some number ∷ []
entry_numbers entry.Query = []
entry_numbers (entry.Seen row version) = Some row ∷ Some version ∷ []
entry_numbers (entry.Vacant row) = Some row ∷ []
entry_numbers (entry.Saw word version) = Some word ∷ Some version ∷ []
entry_numbers (entry.Rows number) = Some number ∷ []

-- the word with which a line begins
abbrev pub line_word : Line → List ℕ
line_word (Head format) = codes "pfs-report"
line_word (Phase number) = codes "phase"
line_word (Session number) = codes "session"
line_word (Journal entry) = entry_word entry
line_word (Row row) = codes "row"
line_word Final = codes "final"
line_word (Table name) = codes "table"
line_word (Lost lost) = codes "lost"
line_word End = codes "end"

-- the numbers on a line that are neither a value's nor a name's
abbrev pub line_numbers : Line → List (Option ℕ)
line_numbers (Head format) = Some format ∷ []
line_numbers (Phase number) = Some number ∷ []
line_numbers (Session number) = Some number ∷ []
line_numbers (Journal entry) = entry_numbers entry
line_numbers (Lost lost) = Some lost.number ∷ []
line_numbers _ = []

-- each number on the line is below 2^64
abbrev pub FitsLine : Line → Type 0
FitsLine (Row row) = All FitsValue row
FitsLine line = All FitsField (line_numbers line)

-- what stands behind the word of an entry's line
abbrev pub entry_rest : Entry → List ℕ
entry_rest (entry.Start event verdict consumers thread class table) =
    optional_text event
    ++ ((codes " " ++ verdict_name verdict) ++ flat_map optional_text (consumers ∷ thread ∷ class ∷ table ∷ []))
entry_rest entry = flat_map optional_text (entry_numbers entry)

-- what stands behind a line's word, its line feed left out
abbrev pub line_rest : Line → List ℕ
line_rest (Row row) = flat_map value_text row
line_rest (Table name) = codes " " ++ name
line_rest (Lost lost) = (codes " " ++ lost.name) ++ flat_map optional_text (line_numbers (Lost lost))
line_rest (Journal entry) = entry_rest entry
line_rest line = flat_map optional_text (line_numbers line)

-- the verdict of a name
abbrev pub verdict_of : List ℕ → Option Verdict
verdict_of name =
    if bytes_eq name (codes "lost-thread") then Some LostThread
    else if bytes_eq name (codes "lost-class") then Some LostClass
    else if bytes_eq name (codes "off-global") then Some OffGlobal
    else if bytes_eq name (codes "off-class") then Some OffClass
    else if bytes_eq name (codes "off-table") then Some OffTable
    else if bytes_eq name (codes "off-thread") then Some OffThread
    else if bytes_eq name (codes "lost-nested") then Some LostNested
    else if bytes_eq name (codes "lost-locker") then Some LostLocker
    else if bytes_eq name (codes "aside") then Some Aside
    else if bytes_eq name (codes "attributed") then Some Attributed
    else None

-- what a word says alone, and with one number or more behind it
abbrev pub alone_says : List ℕ → Option Line
alone_says word =
    if bytes_eq word (codes "settle") then Some (Journal entry.Settle)
    else if bytes_eq word (codes "query") then Some (Journal entry.Query)
    else if bytes_eq word (codes "final") then Some Final
    else if bytes_eq word (codes "end") then Some End
    else None

abbrev pub one_says : List ℕ → ℕ → Option Line
one_says word n =
    if bytes_eq word (codes "act") then Some (Journal (entry.Act n))
    else if bytes_eq word (codes "reply") then Some (Journal (entry.Reply n))
    else if bytes_eq word (codes "error") then Some (Journal (entry.Error n))
    else if bytes_eq word (codes "vacant") then Some (Journal (entry.Vacant n))
    else if bytes_eq word (codes "rows") then Some (Journal (entry.Rows n))
    else if bytes_eq word (codes "session") then Some (Session n)
    else if bytes_eq word (codes "phase") then Some (Phase n)
    else if bytes_eq word (codes "pfs-report") then Some (Head n)
    else None

abbrev pub two_say : List ℕ → ℕ → ℕ → Option Entry
two_say word a b =
    if bytes_eq word (codes "add") then Some (entry.Add a b)
    else if bytes_eq word (codes "ring") then Some (entry.Ring a b)
    else if bytes_eq word (codes "take") then Some (entry.Take a b)
    else if bytes_eq word (codes "tag") then Some (entry.Tag a b)
    else if bytes_eq word (codes "free") then Some (entry.Free a b)
    else if bytes_eq word (codes "seen") then Some (entry.Seen a b)
    else if bytes_eq word (codes "saw") then Some (entry.Saw a b)
    else None

abbrev pub three_say : List ℕ → ℕ → ℕ → ℕ → Option Entry
three_say word a b c =
    if bytes_eq word (codes "held") then Some (entry.Held a b c)
    else if bytes_eq word (codes "busy") then Some (entry.Busy a b c)
    else if bytes_eq word (codes "long") then Some (entry.Long a b c)
    else if bytes_eq word (codes "late") then Some (entry.Late a b c)
    else if bytes_eq word (codes "give") then Some (entry.Give a b c)
    else if bytes_eq word (codes "set") then Some (entry.Set a b c)
    else None

-- what a line without values and names says, whose word and numbers are these
abbrev pub entry_of : Option Entry → Option Line
entry_of None = None
entry_of (Some entry) = Some (Journal entry)

abbrev pub one_of : List ℕ → Option ℕ → Option Line
one_of word None = None
one_of word (Some a) = one_says word a

abbrev pub two_of : List ℕ → Option ℕ → Option ℕ → Option Line
two_of word (Some a) (Some b) = entry_of (two_say word a b)
two_of word _ _ = None

abbrev pub three_of : List ℕ → Option ℕ → Option ℕ → Option ℕ → Option Line
three_of word (Some a) (Some b) (Some c) = entry_of (three_say word a b c)
three_of word _ _ _ = None

abbrev pub five_of : List ℕ → Option ℕ → Option ℕ → Option ℕ → Option ℕ → Option ℕ → Option Line
five_of word None b c d e = None
five_of word (Some a) b c d e =
    if bytes_eq word (codes "connect") then Some (Journal (entry.Connect a b c d e)) else None

abbrev pub plain_says : List ℕ → List (Option ℕ) → Option Line
plain_says word [] = alone_says word
plain_says word (a ∷ []) = one_of word a
plain_says word (a ∷ b ∷ []) = two_of word a b
plain_says word (a ∷ b ∷ c ∷ []) = three_of word a b c
plain_says word (a ∷ b ∷ c ∷ d ∷ []) =
    if bytes_eq word (codes "end") then Some (Journal (entry.End a b c d)) else None
plain_says word (a ∷ b ∷ c ∷ d ∷ e ∷ []) = five_of word a b c d e
plain_says word _ = None
