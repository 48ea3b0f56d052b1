-- Values in the order of their first appearance among what the lines of a list name.
use Rattle.std.specs.Prelude.{ℕ, [], ◌∷◌, ◌++◌, ◌≡◌, ◌≤◌, ◌<◌, ◌↔◌, ◌⊎◌, List, Option, Some, None, Result, Ok, Err, length, map, slice_get, Contains}
use Rattle.std.specs.List.{flat_map}
use Rattle.std.specs.Option.{MatchOption}
use Rattle.pfs_lexer.specs.declared.tokens.LexFault.{LexFault}
use Rattle.pfs_digest.specs.Digest.{digest_text_of}
use Rattle.pfs_classes.specs.declared.classes.ClassRef.{ClassRef}
use Rattle.pfs_classes.specs.declared.setting.TableName.{TableName}
use Rattle.pfs_classes.specs.declared.setting.DigestText.{DigestText}
use Rattle.pfs_script.specs.declared.blocks.BlockLine.TheVariants as said
use Rattle.pfs_script.specs.declared.forms.Form.{Form}
use Rattle.pfs_script.specs.declared.forms.Form.TheVariants as form
use Rattle.pfs_script.specs.Headings.{head_of, limits_of, resolved}
use Rattle.pfs_script.specs.SessionNames.{connect_of}
use Rattle.pfs_script.specs.Finds.{table_number}
use Rattle.pfs_script.specs.Blocks.{sense_of, block_line}

-- the value is named at this place, and at none before it
pub record IsFirstAt {A : Type 0} (named : List (Option A)) (value : A) (place : ℕ) : Type 0 where
  pub here : slice_get named place ≡ Some (Some value)
  pub first : (earlier : ℕ) → earlier < place → ¬ (slice_get named earlier ≡ Some (Some value))

-- no value stands twice, each is named, and one stands before another exactly where it was first named before it
pub record AreInOrder {A : Type 0} (named : List (Option A)) (values : List A) : Type 0 where
  pub once : (i j : ℕ) (value : A) → slice_get values i ≡ Some value → slice_get values j ≡ Some value → i ≡ j
  pub each : (value : A) → Contains values value → (place : ℕ) × IsFirstAt named value place
  pub order : (a b : A) (i j m n : ℕ) → slice_get values i ≡ Some a → slice_get values j ≡ Some b
      → IsFirstAt named a m → IsFirstAt named b n → (i < j) ↔ (m < n)

-- the table that a line names
abbrev pub table_named : Form → Option TableName
table_named (form.TableWait class schema name) = Some (record { schema = schema; name = name })
table_named _ = None

abbrev pub shown_text : Result (List ℕ) LexFault → Option (List ℕ)
shown_text (Ok shown) = Some shown
shown_text (Err fault) = None

-- the digest text of the statement that a line opens
abbrev pub text_named : Form → Option (List ℕ)
text_named (form.Statement class text) = shown_text (digest_text_of text)
text_named _ = None

-- the tables are exactly those that the lines name, in the order of their first appearance; a table's number is its
-- place, and a line that names one is given its number
pub record AreTables (lines : List Form) (tables : List TableName) : Type 0 where
  pub listed : AreInOrder (map table_named lines) tables
  pub all : (place : ℕ) (table : TableName) → slice_get (map table_named lines) place ≡ Some (Some table)
      → Contains tables table
  pub number : (schema name : List ℕ) (number : ℕ) → (table_number tables schema name ≡ Some number)
      ↔ (slice_get tables number ≡ Some (record { schema = schema; name = name }))
  pub given : (place : ℕ) (class schema name : List ℕ) (ref : ClassRef)
      → slice_get lines place ≡ Some (form.TableWait class schema name) → resolved (head_of lines) class ≡ Some ref
      → (number : ℕ)
      × (block_line (sense_of lines) (form.TableWait class schema name) ≡ Some (said.TableWait ref number))
      × (slice_get tables number ≡ Some (record { schema = schema; name = name }))

abbrev pub texts_of : List DigestText → List (List ℕ)
texts_of digests = map (λ (digest : DigestText). digest.text) digests

-- the digest texts are those that the lines' statements have, the first so many that the limit allows, in the order of
-- their first appearance; a statement is given the place of its text, and none where its text isn't among them
pub record AreDigests (lines : List Form) (digests : List DigestText) : Type 0 where
  pub listed : AreInOrder (map text_named lines) (texts_of digests)
  pub few : length digests ≤ (limits_of lines).digests
  -- one that isn't among them appears behind all of them, and there is no room
  pub first : (place : ℕ) (text : List ℕ) → slice_get (map text_named lines) place ≡ Some (Some text)
      → Contains (texts_of digests) text
      ⊎ ((length digests ≡ (limits_of lines).digests) × ((other : List ℕ) (at : ℕ) → Contains (texts_of digests) other
      → IsFirstAt (map text_named lines) other at → at < place))
  pub given : (class text shown : List ℕ) (ref : ClassRef) → digest_text_of text ≡ Ok shown
      → resolved (head_of lines) class ≡ Some ref → (digest : Option ℕ)
      × (block_line (sense_of lines) (form.Statement class text) ≡ Some (said.Statement ref digest))
      × MatchOption digest (¬ Contains (texts_of digests) shown)
      (λ place. slice_get (texts_of digests) place ≡ Some shown)

-- the names that a line gives to a session
abbrev pub names_given : Form → List (Option (List ℕ))
names_given (form.Connect session user host) = Some user ∷ Some host ∷ []
names_given _ = []

-- those of the classes, and behind them those of sessions
abbrev pub names_told : List Form → List (Option (List ℕ))
names_told lines = map Some (head_of lines).names ++ flat_map names_given lines

-- the names are exactly those of the classes, which keep their ids, and behind them those of users and hosts, in the
-- order of their first appearance; a session is given the ids of its own user and host
pub record AreNamed (lines : List Form) (names : List (List ℕ)) : Type 0 where
  pub listed : AreInOrder (names_told lines) names
  pub all : (place : ℕ) (text : List ℕ) → slice_get (names_told lines) place ≡ Some (Some text) → Contains names text
  pub classes : (id : ℕ) (text : List ℕ) → slice_get (head_of lines).names id ≡ Some text
      → slice_get names id ≡ Some text
  pub given : (place : ℕ) (session : Option ℕ) (user host : List ℕ)
      → slice_get lines place ≡ Some (form.Connect session user host)
      → (slice_get names (connect_of names user host).user ≡ Some user)
      × (slice_get names (connect_of names user host).host ≡ Some host)
