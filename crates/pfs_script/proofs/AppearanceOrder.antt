-- The tables and the digest texts of lines are in the order of their first appearance.
use Rattle.std.proofs.Common.{ℕ, ◌≡◌, ◌≤◌, ◌<◌, ◌⊎◌, inl, inr, Bool, true, false, cond, nat_lt, List, [], ◌∷◌, ◌++◌, length, map, Option, Some, None, Result, Ok, Err, Contains, refl, sym, ap, ◌∙◌, subst, arith}
use Rattle.std.specs.Prelude.{slice_get, position, is_some, fold, option_map, option_and_then}
use Rattle.std.specs.Option.{MatchOption}
use Rattle.std.specs.Str.{bytes_eq}
use Rattle.std.proofs.lemmas.Bool.{false≢true, and_parts, and_from}
use Rattle.std.proofs.lemmas.Bool.Decides.{nat_tests}
use Rattle.std.proofs.lemmas.List.{append-nil, append_assoc, map-append, length-map}
use Rattle.std.proofs.lemmas.Option.{slice_get-map}
use Rattle.std.proofs.lemmas.Slice.Eq.{bytes_eq-Decides}
use Rattle.pfs_lexer.specs.declared.tokens.LexFault.{LexFault}
use Rattle.pfs_digest.specs.Digest.{digest_text_of}
use Rattle.pfs_classes.specs.declared.classes.ClassRef.{ClassRef}
use Rattle.pfs_classes.specs.declared.setting.TableName.{TableName}
use Rattle.pfs_classes.specs.declared.setting.DigestText.{DigestText}
use Rattle.pfs_script.specs.declared.blocks.BlockLine.TheVariants as said
use Rattle.pfs_script.specs.declared.forms.Form.{Form}
use Rattle.pfs_script.specs.declared.forms.Form.TheVariants as form
use Rattle.pfs_script.specs.Headings.{head_of, limits_of, resolved}
use Rattle.pfs_script.specs.Finds.{is_table, table_number, with_table, tables_of, has_text, of_text, place_of, digest_place, add_digest, with_digest, digests_of}
use Rattle.pfs_script.specs.Blocks.{sense_of, block_line}
use Rattle.pfs_script.specs.Appearances.{IsFirstAt, AreInOrder, table_named, shown_text, text_named, AreTables, texts_of, AreDigests}
use Rattle.pfs_script.proofs.AppearanceLemmas.{contains_at, at_contains, position_hit, position_miss, Kept, kept_none, kept_same, kept_more}
use Rattle.pfs_script.proofs.NextFinds.{few_digests}

-- tables

abbrev table_of : List ℕ → List ℕ → TableName
table_of schema name = record { schema = schema; name = name }

same_table : (schema name : List ℕ) (table : TableName) → is_table schema name table ≡ true → table ≡ table_of schema name
same_table schema name table e =
    let both = and_parts (bytes_eq table.schema schema) (bytes_eq table.name name) e in
    let s : table.schema ≡ schema = (bytes_eq-Decides table.schema schema).0 both.0 in
    let n : table.name ≡ name = (bytes_eq-Decides table.name name).0 both.1 in
    ap (λ one. table_of one table.name) s ∙ ap (λ one. table_of schema one) n

is_itself : (schema name : List ℕ) → is_table schema name (table_of schema name) ≡ true
is_itself schema name = and_from (bytes_eq schema schema) (bytes_eq name name) ((bytes_eq-Decides schema schema).1 refl) ((bytes_eq-Decides name name).1 refl)

table_hit : (tables : List TableName) (schema name : List ℕ) (number : ℕ) → table_number tables schema name ≡ Some number → slice_get tables number ≡ Some (table_of schema name)
table_hit tables schema name number e =
    let found = position_hit (is_table schema name) tables number (table_of schema name) e in
    found.1 ∙ ap Some (same_table schema name found.0 found.2)

table_absent : (tables : List TableName) (schema name : List ℕ) → table_number tables schema name ≡ None → ¬ Contains tables (table_of schema name)
table_absent tables schema name e has =
    let there = at_contains tables (table_of schema name) has in
    false≢true (sym (position_miss (is_table schema name) tables there.0 (table_of schema name) e there.1) ∙ is_itself schema name)

-- there is always room for a table
abbrev Never : List TableName → Type 0
Never tables = ⊥

table_by : (named : List (Option TableName)) (tables : List TableName) (schema name : List ℕ) (found : Option ℕ) → table_number tables schema name ≡ found → Kept Never named tables
    → Kept Never (named ++ Some (table_of schema name) ∷ []) (cond (is_some found) tables (tables ++ table_of schema name ∷ []))
table_by named tables schema name (Some number) e k =
    kept_same Never named tables (Some (table_of schema name)) k
    (λ value is. let same : table_of schema name ≡ value = cc in inl (contains_at tables number value (table_hit tables schema name number e ∙ ap Some same)))
table_by named tables schema name None e k = kept_more Never named tables (table_of schema name) k (table_absent tables schema name e) (λ full. full)

table_step : (named : List (Option TableName)) (tables : List TableName) (line : Form) → Kept Never named tables → Kept Never (named ++ table_named line ∷ []) (with_table tables line)
table_step named tables (form.TableWait class schema name) k = table_by named tables schema name (table_number tables schema name) refl k
table_step named tables _ k = kept_same Never named tables None k (λ value is. cc)

tables_kept : (named : List (Option TableName)) (tables : List TableName) (lines : List Form) → Kept Never named tables → Kept Never (named ++ map table_named lines) (fold with_table tables lines)
tables_kept named tables [] k = rw append-nil k
tables_kept named tables (line ∷ lines) k =
    subst (λ all. Kept Never all (fold with_table (with_table tables line) lines)) (append_assoc named (table_named line ∷ []) (map table_named lines))
    (tables_kept (named ++ table_named line ∷ []) (with_table tables line) lines (table_step named tables line k))

tables_all : (lines : List Form) → Kept Never (map table_named lines) (tables_of lines)
unfolding tables_of
tables_all lines = tables_kept [] [] lines (kept_none Never)

number_by : (tables : List TableName) (named : List (Option TableName)) (schema name : List ℕ) (number : ℕ) (found : Option ℕ) → AreInOrder named tables → table_number tables schema name ≡ found
    → slice_get tables number ≡ Some (table_of schema name) → table_number tables schema name ≡ Some number
number_by tables named schema name number (Some other) listed e at = e ∙ ap Some (listed.once other number (table_of schema name) (table_hit tables schema name other e) at)
number_by tables named schema name number None listed e at = absurd (table_absent tables schema name e (contains_at tables number (table_of schema name) at))

table_number_is : (tables : List TableName) (named : List (Option TableName)) (schema name : List ℕ) (number : ℕ) → AreInOrder named tables → slice_get tables number ≡ Some (table_of schema name) → table_number tables schema name ≡ Some number
table_number_is tables named schema name number listed at = number_by tables named schema name number (table_number tables schema name) listed refl at

has_all : (lines : List Form) (place : ℕ) (table : TableName) → slice_get (map table_named lines) place ≡ Some (Some table) → Contains (tables_of lines) table
has_all lines place table at = elim ((tables_all lines).missing place table at) [
  | inl has ↦ has
  | inr full ↦ absurd full.0
]

wait_line : (lines : List Form) (class schema name : List ℕ) (ref : ClassRef) (number : ℕ) → resolved (head_of lines) class ≡ Some ref → table_number (tables_of lines) schema name ≡ Some number
    → block_line (sense_of lines) (form.TableWait class schema name) ≡ Some (said.TableWait ref number)
wait_line lines class schema name ref number r n =
    ap (λ (class : Option ClassRef). option_and_then (λ ref. option_map (said.TableWait ref) (table_number (tables_of lines) schema name)) class) r
    ∙ ap (λ (found : Option ℕ). option_map (said.TableWait ref) found) n

pub are_tables : (lines : List Form) → AreTables lines (tables_of lines)
are_tables lines =
    let kept = tables_all lines in
    record {
      listed = kept.listed;
      all = has_all lines;
      number = λ schema name number. (table_hit (tables_of lines) schema name number, table_number_is (tables_of lines) (map table_named lines) schema name number kept.listed);
      given = λ place class schema name ref at r.
          let named : slice_get (map table_named lines) place ≡ Some (Some (table_of schema name)) = slice_get-map table_named lines place ∙ ap (option_map table_named) at in
          let there = at_contains (tables_of lines) (table_of schema name) (has_all lines place (table_of schema name) named) in
          (there.0, wait_line lines class schema name ref there.0 r (table_number_is (tables_of lines) (map table_named lines) schema name there.0 kept.listed there.1), there.1);
    }

-- digest texts

same_text : (shown : List ℕ) (digest : DigestText) → has_text shown digest ≡ true → digest.text ≡ shown
same_text shown digest e = (bytes_eq-Decides digest.text shown).0 e

text_hit : (digests : List DigestText) (shown : List ℕ) (place : ℕ) → position (has_text shown) digests ≡ Some place → slice_get (texts_of digests) place ≡ Some shown
text_hit digests shown place e =
    let found = position_hit (has_text shown) digests place (of_text shown) e in
    slice_get-map (λ (digest : DigestText). digest.text) digests place
    ∙ (ap (option_map (λ (digest : DigestText). digest.text)) found.1 ∙ ap Some (same_text shown found.0 found.2))

text_at : (digests : List DigestText) (shown : List ℕ) (place : ℕ) → slice_get (texts_of digests) place ≡ Some shown → (digest : DigestText) × (slice_get digests place ≡ Some digest) × (digest.text ≡ shown)
text_at digests shown place e = found_by (slice_get digests place) refl
  where
    found_by : (found : Option DigestText) → slice_get digests place ≡ found → (digest : DigestText) × (slice_get digests place ≡ Some digest) × (digest.text ≡ shown)
    found_by (Some digest) at =
        let same : Some digest.text ≡ Some shown = sym (slice_get-map (λ (one : DigestText). one.text) digests place ∙ ap (option_map (λ (one : DigestText). one.text)) at) ∙ e in
        (digest, at, cc)
    found_by None at =
        let none : ◌≡◌ {A = Option (List ℕ)} None (Some shown) = sym (slice_get-map (λ (one : DigestText). one.text) digests place ∙ ap (option_map (λ (one : DigestText). one.text)) at) ∙ e in
        cc

text_absent : (digests : List DigestText) (shown : List ℕ) → position (has_text shown) digests ≡ None → ¬ Contains (texts_of digests) shown
text_absent digests shown e has =
    let there = at_contains (texts_of digests) shown has in
    let digest = text_at digests shown there.0 there.1 in
    false≢true (sym (position_miss (has_text shown) digests there.0 digest.0 e digest.1) ∙ (bytes_eq-Decides digest.0.text shown).1 digest.2)

-- there is no room for one more
abbrev Filled : ℕ → List (List ℕ) → Type 0
Filled most texts = most ≤ length texts

filled : (most : ℕ) (digests : List DigestText) → nat_lt (length digests) most ≡ false → Filled most (texts_of digests)
filled most digests e = let n = length-map digests (λ (digest : DigestText). digest.text) in grind (arith, nat_tests, e)

unfilled : (most : ℕ) (digests : List DigestText) → nat_lt (length digests) most ≡ true → ¬ Filled most (texts_of digests)
unfilled most digests e full = let n = length-map digests (λ (digest : DigestText). digest.text) in grind (arith, nat_tests, e)

digest_by : (most : ℕ) (named : List (Option (List ℕ))) (digests : List DigestText) (shown : List ℕ) (found : Option ℕ) (room : Bool) → position (has_text shown) digests ≡ found → nat_lt (length digests) most ≡ room
    → Kept (Filled most) named (texts_of digests) → Kept (Filled most) (named ++ Some shown ∷ []) (texts_of (cond (is_some found) digests (cond room (digests ++ of_text shown ∷ []) digests)))
digest_by most named digests shown (Some place) room e f k =
    kept_same (Filled most) named (texts_of digests) (Some shown) k
    (λ value is. let same : shown ≡ value = cc in inl (contains_at (texts_of digests) place value (text_hit digests shown place e ∙ ap Some same)))
digest_by most named digests shown None true e f k =
    subst (λ texts. Kept (Filled most) (named ++ Some shown ∷ []) texts) (sym (map-append (λ (digest : DigestText). digest.text) digests (of_text shown ∷ [])))
    (kept_more (Filled most) named (texts_of digests) shown k (text_absent digests shown e) (unfilled most digests f))
digest_by most named digests shown None false e f k = kept_same (Filled most) named (texts_of digests) (Some shown) k (λ value is. inr (filled most digests f))

digest_added : (most : ℕ) (named : List (Option (List ℕ))) (digests : List DigestText) (shown : Result (List ℕ) LexFault) → Kept (Filled most) named (texts_of digests)
    → Kept (Filled most) (named ++ shown_text shown ∷ []) (texts_of (add_digest most digests shown))
digest_added most named digests (Ok shown) k = digest_by most named digests shown (position (has_text shown) digests) (nat_lt (length digests) most) refl refl k
digest_added most named digests (Err fault) k = kept_same (Filled most) named (texts_of digests) None k (λ value is. cc)

digest_step : (most : ℕ) (named : List (Option (List ℕ))) (digests : List DigestText) (line : Form) → Kept (Filled most) named (texts_of digests) → Kept (Filled most) (named ++ text_named line ∷ []) (texts_of (with_digest most digests line))
digest_step most named digests (form.Statement class text) k = digest_added most named digests (digest_text_of text) k
digest_step most named digests _ k = kept_same (Filled most) named (texts_of digests) None k (λ value is. cc)

digests_kept : (most : ℕ) (named : List (Option (List ℕ))) (digests : List DigestText) (lines : List Form) → Kept (Filled most) named (texts_of digests)
    → Kept (Filled most) (named ++ map text_named lines) (texts_of (fold (with_digest most) digests lines))
digests_kept most named digests [] k = rw append-nil k
digests_kept most named digests (line ∷ lines) k =
    subst (λ all. Kept (Filled most) all (texts_of (fold (with_digest most) (with_digest most digests line) lines))) (append_assoc named (text_named line ∷ []) (map text_named lines))
    (digests_kept most (named ++ text_named line ∷ []) (with_digest most digests line) lines (digest_step most named digests line k))

digests_all : (most : ℕ) (lines : List Form) → Kept (Filled most) (map text_named lines) (texts_of (digests_of most lines))
unfolding digests_of
digests_all most lines = digests_kept most [] [] lines (kept_none (Filled most))

found_place : (digests : List DigestText) (shown : List ℕ) (found : Option ℕ) → position (has_text shown) digests ≡ found
    → MatchOption found (¬ Contains (texts_of digests) shown) (λ place. slice_get (texts_of digests) place ≡ Some shown)
found_place digests shown (Some place) e = text_hit digests shown place e
found_place digests shown None e = text_absent digests shown e

first_digests : (most : ℕ) (lines : List Form) (place : ℕ) (text : List ℕ) → slice_get (map text_named lines) place ≡ Some (Some text)
    → Contains (texts_of (digests_of most lines)) text
    ⊎ ((length (digests_of most lines) ≡ most) × ((other : List ℕ) (at : ℕ) → Contains (texts_of (digests_of most lines)) other → IsFirstAt (map text_named lines) other at → at < place))
first_digests most lines place text at = elim ((digests_all most lines).missing place text at) [
  | inl has ↦ inl has
  | inr full ↦
      let n = length-map (digests_of most lines) (λ (digest : DigestText). digest.text) in
      let few = few_digests most lines in
      inr (omega (arith, full.0), full.1)
]

statement_line : (lines : List Form) (class text : List ℕ) (ref : ClassRef) → resolved (head_of lines) class ≡ Some ref
    → block_line (sense_of lines) (form.Statement class text) ≡ Some (said.Statement ref (digest_place (digests_of (limits_of lines).digests lines) text))
statement_line lines class text ref r =
    ap (λ (class : Option ClassRef). option_map (λ ref. said.Statement ref (digest_place (digests_of (limits_of lines).digests lines) text)) class) r

placed_text : (digests : List DigestText) (text shown : List ℕ) → digest_text_of text ≡ Ok shown → position (has_text shown) digests ≡ digest_place digests text
placed_text digests text shown e = sym (ap (place_of digests) e)

pub are_digests : (lines : List Form) → AreDigests lines (digests_of (limits_of lines).digests lines)
are_digests lines =
    let most = (limits_of lines).digests in
    let kept = digests_all most lines in
    record {
      listed = kept.listed;
      few = few_digests most lines;
      first = first_digests most lines;
      given = λ class text shown ref e r. (
        digest_place (digests_of most lines) text,
        statement_line lines class text ref r,
        found_place (digests_of most lines) shown (digest_place (digests_of most lines) text) (placed_text (digests_of most lines) text shown e),
      );
    }
