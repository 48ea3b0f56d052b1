-- What the lines of a text say by their bytes alone, wherever they may stand.
use Rattle.std.proofs.Common.{ℕ, ◌≡◌, ◌==◌, Bool, true, false, cond, List, [], ◌∷◌, ◌++◌, length, map, Option, Some, None, Result, Ok, Err, refl, ap, sym, ◌∙◌, append_assoc, append-nil, length-append, arith}
use Rattle.std.specs.List.{All, list_all}
use Rattle.std.proofs.lemmas.Bool.{and_parts}
use Rattle.std.proofs.lemmas.Bool.Decides.{nat_tests}
use Rattle.std.proofs.lemmas.List.{map-append}
use Rattle.std.proofs.lemmas.List.Elements.{All-cons}
use Rattle.std.proofs.lemmas.List.Splits.{slice_split_at}
use Rattle.pfs_script.specs.Forms.{form}
use Rattle.pfs_script.specs.Reasons.{fault_of, next, placed, unless_fault}
use Rattle.pfs_script.specs.ScriptWords.{is_script_byte}
use Rattle.pfs_script.specs.Scripts.{Begins, IsText, parts_of}
use Rattle.pfs_script.specs.declared.forms.Form.{Form}
use Rattle.pfs_script.specs.declared.reasons.Reason.{Reason}

-- what each part says, and lines that are said
abbrev said_by : List (List ℕ) → List (Result Form Reason)
said_by parts = map form parts

abbrev all_said : List Form → List (Result Form Reason)
all_said lines = map (λ (line : Form). Ok line) lines

-- the text says these lines, whatever stands behind it
abbrev pub Spells : List ℕ → List Form → Type 0
Spells text lines = (rest : List ℕ) → said_by (parts_of (text ++ rest)) ≡ all_said lines ++ said_by (parts_of rest)

pub spells_none : Spells [] []
spells_none = λ rest. refl

pub spells_on : (first second : List ℕ) (a b : List Form) → Spells first a → Spells second b → Spells (first ++ second) (a ++ b)
spells_on first second a b f g = λ rest.
    ap (λ text. said_by (parts_of text)) (append_assoc first second rest)
    ∙ (f (second ++ rest)
    ∙ (ap (λ (z : List (Result Form Reason)). all_said a ++ z) (g rest)
    ∙ (sym (append_assoc (all_said a) (all_said b) (said_by (parts_of rest)))
    ∙ ap (λ (z : List (Result Form Reason)). z ++ said_by (parts_of rest)) (sym (map-append (λ (line : Form). Ok line) a b)))))

not_feed : (byte : ℕ) → is_script_byte byte ≡ true → (byte == 10) ≡ false
not_feed byte h = grind (arith, nat_tests, h)

no_feed : (raw : List ℕ) → list_all is_script_byte raw ≡ true → All (λ byte. (byte == 10) ≡ false) raw
no_feed [] h = λ k d within. absurd (omega arith)
no_feed (byte ∷ bytes) h =
    let parts = and_parts (is_script_byte byte) (list_all is_script_byte bytes) h in
    All-cons (λ byte. (byte == 10) ≡ false) byte bytes (not_feed byte parts.0) (no_feed bytes parts.1)

clean_by : (clean : Bool) (rest : Result Form Reason) (bad : Reason) (line : Form) → cond clean rest (Err bad) ≡ Ok line → clean ≡ true
clean_by true rest bad line h = refl
clean_by false rest bad line h = cc

-- a line that says something is clean
clean : (raw : List ℕ) (line : Form) → form raw ≡ Ok line → list_all is_script_byte raw ≡ true
unfolding form
clean raw line h = clean_by (list_all is_script_byte raw) _ _ line h

-- the text is one line, ended, that says this
pub spells_line : (text raw : List ℕ) (line : Form) → text ≡ raw ++ 10 ∷ [] → form raw ≡ Ok line → Spells text (line ∷ [])
spells_line text raw line ended said = λ rest.
    ap (λ whole. said_by (parts_of (whole ++ rest))) ended
    ∙ (ap (λ whole. said_by (parts_of whole)) (append_assoc raw (10 ∷ []) rest)
    ∙ (ap said_by (slice_split_at (λ byte. byte == 10) raw 10 rest (no_feed raw (clean raw line said)) refl)
    ∙ ap (λ (z : Result Form Reason). z ∷ said_by (parts_of rest)) said))

-- ---- a script's lines are those that its text spells

by_fault : (one line : Form) (fault : Option Reason) → unless_fault one fault ≡ Ok line → ◌≡◌ {A = Result Form Reason} (Ok one) (Ok line)
by_fault one line None h = h
by_fault one line (Some reason) h = cc

by_form : (before : List Form) (said : Result Form Reason) (line : Form) → placed before said ≡ Ok line → said ≡ Ok line
by_form before (Ok one) line h = by_fault one line (fault_of before one) h
by_form before (Err reason) line h = cc

said_next : (before : List Form) (raw : List ℕ) (line : Form) → next before raw ≡ Ok line → form raw ≡ Ok line
unfolding next
said_next before raw line h = by_form before (form raw) line h

begun : (before : List Form) (raws : List (List ℕ)) (lines : List Form) → Begins before raws lines → said_by raws ≡ all_said lines
begun before [] [] b = refl
begun before [] (line ∷ lines) b = absurd b
begun before (raw ∷ raws) [] b = absurd b
begun before (raw ∷ raws) (line ∷ lines) b =
    ap (λ (z : Result Form Reason). z ∷ said_by raws) (said_next before raw line b.0)
    ∙ ap (λ (z : List (Result Form Reason)). Ok line ∷ z) (begun (before ++ line ∷ []) raws lines b.1)

same_front : (last : Result Form Reason) (a b : List Form) → all_said a ++ last ∷ [] ≡ all_said b ++ last ∷ [] → a ≡ b
same_front last [] [] h = refl
same_front last [] (y ∷ ys) h = absurd (let l : 1 ≡ length (Ok y ∷ (all_said ys ++ last ∷ [])) = ap length h in omega (arith, l, length-append (all_said ys) (last ∷ [])))
same_front last (x ∷ xs) [] h = absurd (let l : length (Ok x ∷ (all_said xs ++ last ∷ [])) ≡ 1 = ap length h in omega (arith, l, length-append (all_said xs) (last ∷ [])))
same_front last (x ∷ xs) (y ∷ ys) h =
    let first : x ≡ y = cc in
    let rest : all_said xs ++ last ∷ [] ≡ all_said ys ++ last ∷ [] = cc in
    ap (λ z. z ∷ xs) first ∙ ap (λ (z : List Form). y ∷ z) (same_front last xs ys rest)

pub same_lines : (text : List ℕ) (lines others : List Form) → IsText text lines → Spells text others → lines ≡ others
same_lines text lines others says spells =
    let own : said_by (parts_of text) ≡ all_said lines ++ form [] ∷ [] =
    ap said_by says.1 ∙ (map-append form says.0 ([] ∷ []) ∙ ap (λ (z : List (Result Form Reason)). z ++ form [] ∷ []) (begun [] says.0 lines says.2)) in
    let spelled : said_by (parts_of text) ≡ all_said others ++ form [] ∷ [] =
    ap (λ whole. said_by (parts_of whole)) (sym (append-nil text)) ∙ spells [] in
    same_front (form []) lines others (sym own ∙ spelled)
