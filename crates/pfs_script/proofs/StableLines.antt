-- A line's number and what it says stay as more lines come, so that both are found once, at the line.
use Rattle.std.proofs.Common.{ℕ, ◌≡◌, inl, inr, Bool, true, false, cond, nat_lt, List, [], ◌∷◌, ◌++◌, length, Option, Some, None, Result, Ok, Err, refl, sym, ap, ◌∙◌, subst}
use Rattle.std.specs.Prelude.{position, is_some, IsSome}
use Rattle.std.proofs.lemmas.Bool.{false≢true}
use Rattle.std.proofs.lemmas.Slice.Eq.{bytes_eq-Decides}
use Rattle.pfs_lexer.specs.declared.tokens.LexFault.{LexFault}
use Rattle.pfs_digest.specs.Digest.{digest_text_of}
use Rattle.pfs_classes.specs.declared.setting.TableName.{TableName}
use Rattle.pfs_classes.specs.declared.setting.DigestText.{DigestText}
use Rattle.pfs_script.specs.declared.forms.Form.{Form}
use Rattle.pfs_script.specs.declared.forms.Form.TheVariants as form
use Rattle.pfs_script.specs.Finds.{has_text, of_text, place_of, is_table, table_number, with_table, add_digest, with_digest}
use Rattle.pfs_script.specs.Senses.{number_in, IsPlaced, IsSettled}
use Rattle.pfs_script.proofs.TestPlaces.{found_more, new_place, Adds, adds_line, AddsTable, adds_table, own_table}

-- a table that is there keeps its number

table_kept : (p : TableName → Bool) (tables after : List TableName) (found : Option ℕ) → position p tables ≡ found → AddsTable tables after → IsSome found → IsSome (position p after) × (position p after ≡ found)
table_kept p tables after None e adds some = absurd (false≢true some)
table_kept p tables after (Some number) e (inl same) some =
    let still : position p after ≡ Some number = ap (λ (all : List TableName). position p all) same ∙ e in
    (subst (λ (o : Option ℕ). IsSome o) (sym still) refl, still)
table_kept p tables after (Some number) e (inr (one, more)) some =
    let still : position p after ≡ Some number = ap (λ (all : List TableName). position p all) more ∙ found_more p tables one number e in
    (subst (λ (o : Option ℕ). IsSome o) (sym still) refl, still)

-- a text that has its place, or no room, keeps it

text_kept : (most : ℕ) (digests after : List DigestText) (shown : List ℕ) (found : Option ℕ) → position (has_text shown) digests ≡ found → Adds most digests after → (found ≡ None → nat_lt (length digests) most ≡ false)
    → (position (has_text shown) after ≡ None → nat_lt (length after) most ≡ false) × (position (has_text shown) after ≡ found)
text_kept most digests after shown found e (inl same) full =
    let still : position (has_text shown) after ≡ found = ap (λ (all : List DigestText). position (has_text shown) all) same ∙ e in
    (λ none. ap (λ (all : List DigestText). nat_lt (length all) most) same ∙ full (sym still ∙ none), still)
text_kept most digests after shown (Some place) e (inr (one, more, room)) full =
    let still : position (has_text shown) after ≡ Some place = ap (λ (all : List DigestText). position (has_text shown) all) more ∙ found_more (has_text shown) digests one place e in
    (λ none. let no : Some place ≡ None = sym still ∙ none in cc, still)
text_kept most digests after shown None e (inr (one, more, room)) full = absurd (false≢true (sym (full refl) ∙ room))

due_kept : (most : ℕ) (digests after : List DigestText) (due : Result (List ℕ) LexFault) → Adds most digests after → IsPlaced most digests due → IsPlaced most after due × (place_of after due ≡ place_of digests due)
due_kept most digests after (Ok shown) adds placed = text_kept most digests after shown (position (has_text shown) digests) refl adds placed
due_kept most digests after (Err fault) adds placed = (tt, refl)

-- so a settled line keeps its number
pub settled_more : (most : ℕ) (tables : List TableName) (digests : List DigestText) (next line : Form) → IsSettled most tables digests line
    → IsSettled most (with_table tables next) (with_digest most digests next) line × (number_in (with_table tables next) (with_digest most digests next) line ≡ number_in tables digests line)
settled_more most tables digests next (form.TableWait class schema name) s = table_kept (is_table schema name) tables (with_table tables next) (table_number tables schema name) refl (adds_table tables next) s
settled_more most tables digests next (form.Statement class text) s = due_kept most digests (with_digest most digests next) (digest_text_of text) (adds_line most digests next) s
settled_more most tables digests next _ s = (tt, refl)

-- a line settles its own table and digest text

table_new : (tables : List TableName) (schema name : List ℕ) (found : Option ℕ) → table_number tables schema name ≡ found
    → IsSome (table_number (cond (is_some found) tables (tables ++ record { schema = schema; name = name } ∷ [])) schema name)
table_new tables schema name (Some number) e = subst (λ (o : Option ℕ). IsSome o) (sym e) refl
table_new tables schema name None e =
    subst (λ (o : Option ℕ). IsSome o) (sym (new_place (is_table schema name) tables (record { schema = schema; name = name }) e (own_table schema name))) refl

text_new : (most : ℕ) (digests : List DigestText) (shown : List ℕ) (found : Option ℕ) (room : Bool) → position (has_text shown) digests ≡ found → nat_lt (length digests) most ≡ room
    → position (has_text shown) (cond (is_some found) digests (cond room (digests ++ of_text shown ∷ []) digests)) ≡ None → nat_lt (length (cond (is_some found) digests (cond room (digests ++ of_text shown ∷ []) digests))) most ≡ false
text_new most digests shown (Some place) room e f none = let no : Some place ≡ None = sym e ∙ none in cc
text_new most digests shown None true e f none =
    let no : Some (length digests) ≡ None = sym (new_place (has_text shown) digests (of_text shown) e ((bytes_eq-Decides shown shown).1 refl)) ∙ none in
    cc
text_new most digests shown None false e f none = f

due_new : (most : ℕ) (digests : List DigestText) (due : Result (List ℕ) LexFault) → IsPlaced most (add_digest most digests due) due
due_new most digests (Ok shown) = text_new most digests shown (position (has_text shown) digests) (nat_lt (length digests) most) refl refl
due_new most digests (Err fault) = tt

pub settled_new : (most : ℕ) (tables : List TableName) (digests : List DigestText) (line : Form) → IsSettled most (with_table tables line) (with_digest most digests line) line
settled_new most tables digests (form.TableWait class schema name) = table_new tables schema name (table_number tables schema name) refl
settled_new most tables digests (form.Statement class text) = due_new most digests (digest_text_of text)
settled_new most tables digests _ = tt
