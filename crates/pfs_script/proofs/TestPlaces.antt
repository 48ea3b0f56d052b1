-- The place of a test in a list with one element more, and what a line adds to the tables and digest texts.
use Rattle.std.proofs.Common.{ℕ, ◌≡◌, ◌≤◌, ◌<◌, ◌+◌, ◌⊎◌, inl, inr, Bool, true, false, cond, nat_lt, eqb, List, [], ◌∷◌, ◌++◌, length, Option, Some, None, Result, Ok, Err, refl, sym, ap, ◌∙◌, arith}
use Rattle.std.specs.Prelude.{position, is_some}
use Rattle.std.specs.List.{position_or_len}
use Rattle.std.proofs.lemmas.Bool.{lt-ltb, eq-eqb, ne_eqb}
use Rattle.std.proofs.lemmas.Bool.Decides.{nat_tests}
use Rattle.std.proofs.lemmas.List.{length-append}
use Rattle.std.proofs.lemmas.List.Folds.{position_or_len_push}
use Rattle.std.proofs.lemmas.Slice.Eq.{bytes_eq-Decides}
use Rattle.std.proofs.lemmas.List.Sums.{prefix_len-le-length}
use Rattle.pfs_lexer.specs.declared.tokens.LexFault.{LexFault}
use Rattle.pfs_digest.specs.Digest.{digest_text_of}
use Rattle.pfs_classes.specs.declared.setting.DigestText.{DigestText}
use Rattle.pfs_script.specs.declared.forms.Form.{Form}
use Rattle.pfs_script.specs.declared.forms.Form.TheVariants as form
use Rattle.pfs_classes.specs.declared.setting.TableName.{TableName}
use Rattle.pfs_script.specs.Finds.{has_text, of_text, add_digest, with_digest, is_table, table_number, with_table}
use Rattle.pfs_script.proofs.AppearanceLemmas.{miss_by}

-- the place of a test in a list with one element more

within_by : (n len place : ℕ) (b : Bool) → nat_lt n len ≡ b → cond {A = Option ℕ} b (Some n) None ≡ Some place → (n < len) × (n ≡ place)
within_by n len place true e h = (grind (arith, nat_tests, e), cc)
within_by n len place false e h = cc

at_place : {X : Type 0} (p : X → Bool) (xs : List X) (n : ℕ) → position_or_len p xs ≡ n → n < length xs → position p xs ≡ Some n
at_place p xs n e lt =
    let within : position_or_len p xs < length xs = omega arith in
    ap (λ (b : Bool). cond {A = Option ℕ} b (Some (position_or_len p xs)) None) (lt-ltb (position_or_len p xs) (length xs) within) ∙ ap Some e

pub found_more : {X : Type 0} (p : X → Bool) (xs : List X) (y : X) (place : ℕ) → position p xs ≡ Some place → position p (xs ++ y ∷ []) ≡ Some place
found_more p xs y place e =
    let n = position_or_len p xs in
    let old = within_by n (length xs) place (nat_lt n (length xs)) refl e in
    let apart : eqb n (length xs) ≡ false = ne_eqb n (length xs) (λ same. omega (arith, old.0)) in
    let same : position_or_len p (xs ++ y ∷ []) ≡ n = position_or_len_push p xs y ∙ ap (λ (b : Bool). cond {A = ℕ} b (length xs + cond {A = ℕ} (p y) 0 1) n) apart in
    at_place p (xs ++ y ∷ []) n same (omega (arith, old.0, length-append xs (y ∷ []))) ∙ ap Some old.1

pub new_place : {X : Type 0} (p : X → Bool) (xs : List X) (y : X) → position p xs ≡ None → p y ≡ true → position p (xs ++ y ∷ []) ≡ Some (length xs)
new_place p xs y none is =
    let n = position_or_len p xs in
    let out : length xs ≤ n = miss_by p xs (nat_lt n (length xs)) refl none in
    let most : n ≤ length xs = prefix_len-le-length _ xs in
    let here : eqb n (length xs) ≡ true = eq-eqb n (length xs) (omega arith) in
    let same : position_or_len p (xs ++ y ∷ []) ≡ length xs + 0 =
    position_or_len_push p xs y ∙ (ap (λ (b : Bool). cond {A = ℕ} b (length xs + cond {A = ℕ} (p y) 0 1) n) here
    ∙ ap (λ (b : Bool). length xs + cond {A = ℕ} b 0 1) is) in
    at_place p (xs ++ y ∷ []) (length xs) (omega (arith, same)) (omega (arith, length-append xs (y ∷ [])))

-- and that of a text that is added
pub added_place : (digests old after : List DigestText) (bytes shown : List ℕ) → None ≡ position (has_text bytes) digests → bytes ≡ shown → digests ≡ old → after ≡ old ++ of_text shown ∷ []
    → Some (length digests) ≡ position (has_text shown) after
added_place digests old after bytes shown none b d more =
    let absent : position (has_text shown) digests ≡ None = sym (none ∙ ap (λ (one : List ℕ). position (has_text one) digests) b) in
    let all : after ≡ digests ++ of_text shown ∷ [] = more ∙ ap (λ (all : List DigestText). all ++ of_text shown ∷ []) (sym d) in
    sym (ap (λ (all : List DigestText). position (has_text shown) all) all ∙ new_place (has_text shown) digests (of_text shown) absent ((bytes_eq-Decides shown shown).1 refl))

-- a line adds a digest text where there is room, or none
abbrev pub Adds : ℕ → List DigestText → List DigestText → Type 0
Adds most digests after = (after ≡ digests) ⊎ ((one : DigestText) × (after ≡ digests ++ one ∷ []) × (nat_lt (length digests) most ≡ true))

added_by : (most : ℕ) (digests : List DigestText) (one : DigestText) (found room : Bool) → nat_lt (length digests) most ≡ room → Adds most digests (cond found digests (cond room (digests ++ one ∷ []) digests))
added_by most digests one true room e = inl refl
added_by most digests one false true e = inr (one, refl, e)
added_by most digests one false false e = inl refl

adds_text : (most : ℕ) (digests : List DigestText) (due : Result (List ℕ) LexFault) → Adds most digests (add_digest most digests due)
adds_text most digests (Ok shown) = added_by most digests (of_text shown) (is_some (position (has_text shown) digests)) (nat_lt (length digests) most) refl
adds_text most digests (Err fault) = inl refl

pub adds_line : (most : ℕ) (digests : List DigestText) (line : Form) → Adds most digests (with_digest most digests line)
adds_line most digests (form.Statement class text) = adds_text most digests (digest_text_of text)
adds_line most digests _ = inl refl

-- a line adds a table or none
abbrev pub AddsTable : List TableName → List TableName → Type 0
AddsTable tables after = (after ≡ tables) ⊎ ((one : TableName) × (after ≡ tables ++ one ∷ []))

table_by : (tables : List TableName) (one : TableName) (found : Bool) → AddsTable tables (cond found tables (tables ++ one ∷ []))
table_by tables one true = inl refl
table_by tables one false = inr (one, refl)

pub adds_table : (tables : List TableName) (line : Form) → AddsTable tables (with_table tables line)
adds_table tables (form.TableWait class schema name) = table_by tables (record { schema = schema; name = name }) (is_some (table_number tables schema name))
adds_table tables _ = inl refl

pub own_table : (schema name : List ℕ) → is_table schema name (record { schema = schema; name = name }) ≡ true
own_table schema name = rw ((bytes_eq-Decides schema schema).1 refl, (bytes_eq-Decides name name).1 refl) refl

-- the number of a table that is added
pub added_table : (tables old after : List TableName) (schema name : List ℕ) (one : TableName) → one.schema ≡ schema → one.name ≡ name → None ≡ table_number tables schema name → tables ≡ old → after ≡ old ++ one ∷ []
    → table_number after schema name ≡ Some (length tables)
added_table tables old after schema name one s n none e more =
    ap (λ (all : List TableName). table_number all schema name) (more ∙ ap (λ (all : List TableName). all ++ one ∷ []) (sym e))
    ∙ new_place (is_table schema name) tables one (sym none) (rw (s, n) (own_table schema name))
