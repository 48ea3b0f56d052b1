-- Reading a text line by line: what goes over one line, and over one text behind another.
use Rattle.std.proofs.Common.{ℕ, ◌≡◌, ◌==◌, Bool, true, false, cond, List, [], ◌∷◌, ◌++◌, None, Result, Ok, Err, refl, ap, ◌∙◌, append_assoc, arith}
use Rattle.std.specs.List.{All, list_all}
use Rattle.std.proofs.lemmas.Bool.{and_parts}
use Rattle.std.proofs.lemmas.Bool.Decides.{nat_tests}
use Rattle.std.proofs.lemmas.List.Elements.{All-cons}
use Rattle.std.proofs.lemmas.List.Splits.{slice_split_at}
use Rattle.pfs_script.specs.declared.forms.Form.{Form}
use Rattle.pfs_script.specs.declared.reasons.Reason.{Reason}
use Rattle.pfs_script.specs.ScriptWords.{is_script_byte}
use Rattle.pfs_script.specs.Forms.{form}
use Rattle.pfs_script.specs.Reasons.{fault_of, next}
use Rattle.pfs_script.specs.Scripts.{parts_of, lines_from}
use Rattle.pfs_script.proofs.FirstLines.{some_parts}
use Rattle.pfs_script.proofs.PassSteps.{says_line}
use Rattle.pfs_script.proofs.FaultlessLines.{Passes}

-- behind these lines the reading of a text finds those, whatever stands behind the text
abbrev pub Goes : List Form → List ℕ → List Form → Type 0
Goes before text lines = (rest : List ℕ) → lines_from before (parts_of (text ++ rest)) ≡ lines_from (before ++ lines) (parts_of rest)

pub goes_on : (before : List Form) (first second : List ℕ) (a b : List Form) → Goes before first a → Goes (before ++ a) second b → Goes before (first ++ second) (a ++ b)
goes_on before first second a b g h = λ rest.
    ap (λ text. lines_from before (parts_of text)) (append_assoc first second rest)
    ∙ (g (second ++ rest)
    ∙ (h rest ∙ ap (λ lines. lines_from lines (parts_of rest)) (append_assoc before a b)))

-- the text is one line, ended, that says this
pub record Says (text : List ℕ) (line : Form) : Type 0 where
  pub raw : List ℕ
  pub ended : text ≡ raw ++ 10 ∷ []
  pub said : form raw ≡ Ok line

not_feed : (byte : ℕ) → is_script_byte byte ≡ true → (byte == 10) ≡ false
not_feed byte h = grind (arith, nat_tests, h)

no_feed : (raw : List ℕ) → list_all is_script_byte raw ≡ true → All (λ byte. (byte == 10) ≡ false) raw
no_feed [] h = λ k d within. absurd (omega arith)
no_feed (byte ∷ bytes) h =
    let parts = and_parts (is_script_byte byte) (list_all is_script_byte bytes) h in
    All-cons (λ byte. (byte == 10) ≡ false) byte bytes (not_feed byte parts.0) (no_feed bytes parts.1)

clean_by : (clean : Bool) (rest : Result Form Reason) (bad : Reason) (line : Form) → cond clean rest (Err bad) ≡ Ok line → clean ≡ true
clean_by true rest bad line h = refl
clean_by false rest bad line h = cc

-- a line that says something is clean
clean : (raw : List ℕ) (line : Form) → form raw ≡ Ok line → list_all is_script_byte raw ≡ true
unfolding form
clean raw line h = clean_by (list_all is_script_byte raw) _ _ line h

next_is : (before : List Form) (raw : List ℕ) (line : Form) → form raw ≡ Ok line → fault_of before line ≡ None → next before raw ≡ Ok line
unfolding next
next_is before raw line f h = rw (f, h) refl

-- where no test finds a fault, there is none
pub no_fault : (before : List Form) (line : Form) → Passes before line → fault_of before line ≡ None
unfolding fault_of
no_fault before line p = rw (p.place, p.number, p.session, p.known, p.limit, p.nesting, p.statement, p.long, p.much, p.tables) refl

pub goes_line : (before : List Form) (text : List ℕ) (line : Form) → Says text line → Passes before line → Goes before text (line ∷ [])
goes_line before text line s p = λ rest.
    let raw = s.raw in
    ap (λ whole. lines_from before (parts_of (whole ++ rest))) s.ended
    ∙ (ap (λ whole. lines_from before (parts_of whole)) (append_assoc raw (10 ∷ []) rest)
    ∙ (ap (lines_from before) (slice_split_at (λ byte. byte == 10) raw 10 rest (no_feed raw (clean raw line s.said)) refl)
    ∙ says_line before raw (parts_of rest) line (some_parts (λ byte. byte == 10) rest) (next_is before raw line s.said (no_fault before line p))))
