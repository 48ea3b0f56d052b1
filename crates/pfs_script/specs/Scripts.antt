-- Which bytes are a script, and the first line with which they are none.
use Rattle.std.specs.Prelude.{ℕ, ◌≡◌, ◌+◌, ◌==◌, true, false, if◌then◌else◌, List, [], ◌∷◌, ◌++◌, length, Result, Ok, Err}
use Rattle.std.specs.List.{slice_split, list_all}
use Rattle.pfs_classes.specs.declared.setting.Setting.{Setting}
use Rattle.pfs_script.specs.declared.blocks.Phase.{Phase}
use Rattle.pfs_script.specs.declared.forms.Form.{Form}
use Rattle.pfs_script.specs.declared.reasons.Reason.{Reason}
use Rattle.pfs_script.specs.declared.reasons.Reason.TheVariants.{BadByte, OpenLine, OutOfPlace}
use Rattle.pfs_script.specs.ScriptWords.{is_script_byte}
use Rattle.pfs_script.specs.Headings.{head_of, limits_of}
use Rattle.pfs_script.specs.SessionNames.{names_of}
use Rattle.pfs_script.specs.Finds.{tables_of, digests_of}
use Rattle.pfs_script.specs.LineCounts.{is_in_repeat}
use Rattle.pfs_script.specs.Reasons.{next}
use Rattle.pfs_script.specs.Blocks.{sense_of, phases_of}

-- the lines, each without its line feed, and what stands behind the last line feed
abbrev pub parts_of : List ℕ → List (List ℕ)
parts_of text = slice_split (λ byte. byte == 10) text

-- behind the lines before it, each of these says the line beside it
abbrev pub Begins : List Form → List (List ℕ) → List Form → Type 0
Begins before [] [] = Unit {0}
Begins before (raw ∷ raws) (line ∷ lines) = (next before raw ≡ Ok line) × Begins (before ++ line ∷ []) raws lines
Begins before [] (line ∷ lines) = ⊥
Begins before (raw ∷ raws) [] = ⊥

-- the text says these lines: each is ended, each may stand where it does, and each repeat is done
abbrev pub IsText : List ℕ → List Form → Type 0
IsText text lines = (raws : List (List ℕ)) × (parts_of text ≡ raws ++ [] ∷ []) × Begins [] raws lines
    × (is_in_repeat lines ≡ false)

-- why a line that isn't ended is faulty
abbrev pub open_reason : List ℕ → Reason
open_reason bytes = if list_all is_script_byte bytes then OpenLine else BadByte

-- the part is faulty behind these lines: as a line, as what has no line feed, or as the end of a text in which a
-- repeat isn't done
abbrev pub IsBad : List Form → List ℕ → List (List ℕ) → Reason → Type 0
IsBad before [] [] reason = (is_in_repeat before ≡ true) × (reason ≡ OutOfPlace)
IsBad before (byte ∷ bytes) [] reason = reason ≡ open_reason (byte ∷ bytes)
IsBad before bad (part ∷ parts) reason = next before bad ≡ Err reason

-- the setting has what the lines before the first phase fix, and the names, tables and digest texts of all lines
pub record IsSetting (lines : List Form) (setting : Setting) : Type 0 where
  pub names : setting.names ≡ names_of lines
  pub classes : setting.classes ≡ (head_of lines).classes
  pub tables : setting.tables ≡ tables_of lines
  pub digests : setting.digests ≡ digests_of (limits_of lines).digests lines
  pub limits : setting.limits ≡ (head_of lines).limits
  pub consumers : setting.consumers ≡ (head_of lines).consumers

-- the text is a script with this setting and these phases: they are what its lines fix and say
unfoldable pub IsScript : List ℕ → Setting → List Phase → Type 0
IsScript text setting phases =
    (lines : List Form) × IsText text lines × IsSetting lines setting × (phases ≡ phases_of (sense_of lines) lines)

-- the first faulty line, counted from 1, with its least reason: the lines before it begin a script, and with it they
-- don't; where a repeat isn't done at the end, that is the line behind the last
unfoldable pub IsFirstFault : List ℕ → ℕ → Reason → Type 0
IsFirstFault text number reason =
    (raws : List (List ℕ)) × (lines : List Form) × (bad : List ℕ) × (more : List (List ℕ))
    × (number ≡ length raws + 1) × (parts_of text ≡ raws ++ bad ∷ more) × Begins [] raws lines
    × IsBad lines bad more reason

-- a faulty line and its reason
pub record Fault : Type 0 where
  pub number : ℕ
  pub reason : Reason

-- what follows from one line: the rest, or its fault
abbrev pub on_line : Result Form Reason → ℕ → (Form → Result (List Form) Fault) → Result (List Form) Fault
on_line (Ok line) number rest = rest line
on_line (Err reason) number rest = Err (record { number = number; reason = reason })

-- behind the last line feed nothing may stand, and each repeat is done there
abbrev pub last_of : List Form → List ℕ → Result (List Form) Fault
last_of before [] = if is_in_repeat before then Err (record {
  number = length before + 1;
  reason = OutOfPlace;
}) else Ok before
last_of before (byte ∷ bytes) = Err (record { number = length before + 1; reason = open_reason (byte ∷ bytes) })

-- what the parts of a text say behind these lines, in one pass
unfoldable pub lines_from : List Form → List (List ℕ) → Result (List Form) Fault
lines_from before [] = Ok before
lines_from before (bytes ∷ []) = last_of before bytes
lines_from before (bytes ∷ (more ∷ parts)) =
    on_line (next before bytes) (length before + 1)
    (λ line. lines_from (before ++ line ∷ []) (more ∷ parts))

-- what the text says
abbrev pub script_of : List ℕ → Result (List Form) Fault
script_of text = lines_from [] (parts_of text)

-- two settings that agree in all that they fix
pub record AreAlike (a b : Setting) : Type 0 where
  pub names : a.names ≡ b.names
  pub classes : a.classes ≡ b.classes
  pub tables : a.tables ≡ b.tables
  pub digests : a.digests ≡ b.digests
  pub limits : a.limits ≡ b.limits
  pub consumers : a.consumers ≡ b.consumers

-- a text that is a script has no fault; it has one first fault at most, and is at most one script
pub record IsExact : Type 0 where
  pub excludes : (text : List ℕ) (setting : Setting) (phases : List Phase) (number : ℕ) (reason : Reason)
      → IsScript text setting phases → ¬ IsFirstFault text number reason
  pub one_fault : (text : List ℕ) (m n : ℕ) (r s : Reason) → IsFirstFault text m r → IsFirstFault text n s
      → (m ≡ n) × (r ≡ s)
  pub one_script : (text : List ℕ) (a b : Setting) (p q : List Phase) → IsScript text a p → IsScript text b q
      → AreAlike a b × (p ≡ q)
