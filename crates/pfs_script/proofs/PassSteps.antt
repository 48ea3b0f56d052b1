-- One line more of the pass over a text.
use Rattle.std.proofs.Common.{ℕ, ◌≡◌, ◌+◌, ◌<◌, List, [], ◌∷◌, ◌++◌, length, Ok, Err, true, false, refl, sym, ◌∙◌, arith}
use Rattle.pfs_script.specs.declared.forms.Form.{Form}
use Rattle.pfs_script.specs.declared.reading.ScriptFault.{ScriptFault}
use Rattle.pfs_script.specs.declared.reading.ScriptFault.TheVariants.{Bad, NoMemory}
use Rattle.pfs_script.specs.declared.reasons.Reason.{Reason}
use Rattle.pfs_script.specs.declared.reasons.Reason.TheVariants.{OutOfPlace}
use Rattle.pfs_script.specs.LineCounts.{is_in_repeat}
use Rattle.pfs_script.specs.Reasons.{next}
use Rattle.pfs_script.specs.Scripts.{lines_from, script_of, open_reason}
use Rattle.pfs_script.specs.declared.known.KnownLines.{KnownLines}
use Rattle.pfs_script.specs.declared.reading.Reader.{Reader}
use Rattle.pfs_script.specs.ReaderAnswers.{Says, Reads}

-- the next line says something: the pass goes on behind it
pub says_line : (before : List Form) (bytes : List ℕ) (parts : List (List ℕ)) (line : Form) → 0 < length parts → next before bytes ≡ Ok line → lines_from before (bytes ∷ parts) ≡ lines_from (before ++ line ∷ []) parts
unfolding lines_from
says_line before bytes [] line h e = absurd (omega arith)
says_line before bytes (more ∷ parts) line h e = rw e refl

-- the next line is faulty: the pass ends with its fault
pub says_fault : (before : List Form) (bytes : List ℕ) (parts : List (List ℕ)) (reason : Reason) (number : ℕ) → number ≡ length before + 1 → 0 < length parts → next before bytes ≡ Err reason → lines_from before (bytes ∷ parts) ≡ Err (record { number = number; reason = reason })
unfolding lines_from
says_fault before bytes [] reason number m h e = absurd (omega arith)
says_fault before bytes (more ∷ parts) reason number m h e = rw (e, m) refl

-- nothing stands behind the last line feed, and each repeat is done: the pass ends with the lines
pub says_all : (before : List Form) (bytes : List ℕ) → length bytes ≡ 0 → is_in_repeat before ≡ false → lines_from before (bytes ∷ []) ≡ Ok before
unfolding lines_from
says_all before [] h done = rw done refl
says_all before (byte ∷ bytes) h done = absurd (omega arith)

-- a repeat isn't done there
pub says_undone : (before : List Form) (bytes : List ℕ) (number : ℕ) → number ≡ length before + 1 → length bytes ≡ 0 → is_in_repeat before ≡ true → lines_from before (bytes ∷ []) ≡ Err (record { number = number; reason = OutOfPlace })
unfolding lines_from
says_undone before [] number m h undone = rw (undone, m) refl
says_undone before (byte ∷ bytes) number m h undone = absurd (omega arith)

-- something stands there: it is an unended line
pub says_open : (before : List Form) (bytes : List ℕ) (number : ℕ) → number ≡ length before + 1 → 0 < length bytes → lines_from before (bytes ∷ []) ≡ Err (record { number = number; reason = open_reason bytes })
unfolding lines_from
says_open before [] number m h = absurd (omega arith)
says_open before (byte ∷ bytes) number m h = rw m refl

-- the reader's answer at a faulty line is that of the text
pub next_bad : (text : List ℕ) (new : Reader) (known : KnownLines) (before : List Form) (bytes : List ℕ) (parts : List (List ℕ)) (fault : ScriptFault) → 0 < length parts
    → Says new known before bytes (Err fault) → lines_from before (bytes ∷ parts) ≡ script_of text → Reads text (Err fault)
next_bad text new known before bytes parts (Bad number reason) h says i =
    sym i ∙ says_fault before bytes parts reason number says.0 h says.1
next_bad text new known before bytes parts NoMemory h says i = tt
