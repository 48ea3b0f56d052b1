-- What the reader answers of a line, and of a text.
use Rattle.std.specs.Prelude.{ℕ, ◌≡◌, ◌+◌, Bool, true, false, List, [], ◌∷◌, ◌++◌, length, Option, Some, None, Result, Ok, Err}
use Rattle.std.specs.List.{fold, list_all, list_any}
use Rattle.pfs_script.specs.declared.reading.ScriptFault.{ScriptFault}
use Rattle.pfs_script.specs.declared.reading.ScriptFault.TheVariants.{Bad, NoMemory}
use Rattle.pfs_script.specs.declared.reading.Reader.{Reader}
use Rattle.pfs_script.specs.declared.known.KnownLines.{KnownLines}
use Rattle.pfs_script.specs.declared.finds.Finds.{Finds}
use Rattle.pfs_script.specs.declared.drafts.Drafts.{Drafts}
use Rattle.pfs_script.specs.declared.drafts.Owner.{Owner}
use Rattle.pfs_script.specs.declared.forms.Form.{Form}
use Rattle.pfs_script.specs.declared.forms.Form.TheVariants as form
use Rattle.pfs_script.specs.declared.scripts.Script.{Script}
use Rattle.pfs_script.specs.Blocks.{Sense, sense_of, block_line, phases_of}
use Rattle.pfs_script.specs.Drafts.{phases_behind, with_owner}
use Rattle.pfs_script.specs.SessionNames.{with_session}
use Rattle.pfs_script.specs.Sessions.{is_phase}
use Rattle.pfs_script.specs.Headings.{head_of}
use Rattle.pfs_script.specs.KnownLines.{AreKnown}
use Rattle.pfs_script.specs.Reasons.{fault_of, next}
use Rattle.pfs_script.specs.Senses.{number_in, IsSettled}
use Rattle.pfs_script.specs.ReaderState.{Knows, KnowsFinds}
use Rattle.pfs_script.specs.Scripts.{script_of, IsScript, IsFirstFault}

-- under both each of these lines says the same
abbrev pub SayAlike : Sense → Sense → List Form → Type 0
SayAlike one other [] = Unit {0}
SayAlike one other (line ∷ lines) = (block_line one line ≡ block_line other line) × SayAlike one other lines

-- the drafts and what lines to come make of them are what all lines make, where those so far say what they do by
-- themselves
abbrev pub AreDrafted : Drafts → List Form → Type 0
AreDrafted drafts before =
    (sense : Sense) (lines : List Form) → SayAlike sense (sense_of before) before
    → phases_of sense (before ++ lines) ≡ phases_behind sense drafts lines

-- the owners are those that the lines give
abbrev pub AreOwners : List Owner → List Form → Type 0
AreOwners owners before = (names : List (List ℕ)) → fold with_owner names owners ≡ fold with_session names before

-- a line that may stand before the first phase says nothing to a session
abbrev pub is_ahead : Form → Bool
is_ahead form.Silent = true
is_ahead (form.Limit name value) = true
is_ahead (form.Class name kind enabled timed) = true
is_ahead (form.Consumer name on) = true
is_ahead (form.Instrument pattern enabled timed) = true
is_ahead _ = false

-- the table and the digest text of each of these lines are settled
abbrev pub AreSettled : ℕ → Finds → List Form → Type 0
AreSettled most finds [] = Unit {0}
AreSettled most finds (line ∷ lines) = IsSettled most finds.tables finds.digests line × AreSettled most finds lines

-- the reader has taken these lines: how many they are, what they make, and what all of them amount to
pub record IsBehind (reader : Reader) (before : List Form) : Type 0 where
  pub count : reader.count ≡ length before
  pub drafted : AreDrafted reader.drafts before
  pub owners : AreOwners reader.drafts.owners.items before
  pub ahead : list_any is_phase before ≡ false → list_all is_ahead before ≡ true
  pub place : Knows reader.place before
  pub head : reader.heading ≡ head_of before
  pub finds : KnowsFinds reader.finds before
  pub settled : AreSettled reader.heading.limits.digests reader.finds before

-- the line was taken behind these, or it is faulty there
abbrev pub Takes : Reader → List Form → Form → Result (Option ℕ) ScriptFault → Type 0
Takes new before line (Ok number) =
    (fault_of before line ≡ None) × IsBehind new (before ++ line ∷ [])
    × (number ≡ number_in new.finds.tables new.finds.digests line)
Takes new before line (Err (Bad number reason)) =
    (number ≡ length before + 1) × (fault_of before line ≡ Some reason)
Takes new before line (Err NoMemory) = Unit {0}

-- behind these lines the answer is what the bytes of the next line say, or its fault
abbrev pub Says : Reader → KnownLines → List Form → List ℕ → Result (Unit {0}) ScriptFault → Type 0
Says new known before bytes (Ok done) =
    (line : Form) × (next before bytes ≡ Ok line) × IsBehind new (before ++ line ∷ [])
    × AreKnown new.heading new.finds (before ++ line ∷ []) known
Says new known before bytes (Err (Bad number reason)) =
    (number ≡ length before + 1) × (next before bytes ≡ Err reason)
Says new known before bytes (Err NoMemory) = Unit {0}

-- the answer is what the text's lines make and fix, or their first fault
abbrev pub Reads : List ℕ → Result Reader ScriptFault → Type 0
Reads text (Ok reader) = (lines : List Form) × (script_of text ≡ Ok lines) × IsBehind reader lines
Reads text (Err (Bad number reason)) = script_of text ≡ Err (record { number = number; reason = reason })
Reads text (Err NoMemory) = Unit {0}

-- the answer is the text's script, or its first fault
abbrev pub Gives : List ℕ → Result Script ScriptFault → Type 0
Gives text (Ok script) = IsScript text script.setting script.phases
Gives text (Err (Bad number reason)) = IsFirstFault text number reason
Gives text (Err NoMemory) = Unit {0}
