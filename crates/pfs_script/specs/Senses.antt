-- What names and texts stand for, by what the reader has found.
use Rattle.std.specs.Prelude.{ℕ, ◌≡◌, false, nat_lt, List, length, position, Option, Some, None, IsSome, option_and_then, Result, Ok, Err}
use Rattle.pfs_lexer.specs.declared.tokens.LexFault.{LexFault}
use Rattle.pfs_classes.specs.declared.classes.ClassRef.{ClassRef}
use Rattle.pfs_classes.specs.declared.setting.TableName.{TableName}
use Rattle.pfs_classes.specs.declared.setting.DigestText.{DigestText}
use Rattle.pfs_script.specs.declared.forms.Form.{Form}
use Rattle.pfs_script.specs.declared.forms.Form.TheVariants as form
use Rattle.pfs_script.specs.declared.finds.Finds.{Finds}
use Rattle.pfs_script.specs.declared.finds.Found.{Found}
use Rattle.pfs_script.specs.declared.finds.Found.TheVariants.{Before, Now}
use Rattle.pfs_digest.specs.Digest.{digest_text_of}
use Rattle.pfs_script.specs.Finds.{table_number, has_text, digest_place, shown_of}
use Rattle.pfs_script.specs.Reasons.{is_bad_statement}

-- the class of the event that a line starts
abbrev pub class_of : Form → Option (List ℕ)
class_of (form.Wait class) = Some class
class_of (form.TableWait class schema name) = Some class
class_of (form.Statement class text) = Some class
class_of (form.Stage class) = Some class
class_of _ = None

-- what it stands for
abbrev pub class_in : (List ℕ → Option ClassRef) → Form → Option ClassRef
class_in classes line = option_and_then classes (class_of line)

-- the number of a wait's table, or the place of a statement's digest text; none for any other line
abbrev pub number_in : List TableName → List DigestText → Form → Option ℕ
number_in tables digests (form.TableWait class schema name) = table_number tables schema name
number_in tables digests (form.Statement class text) = digest_place digests text
number_in tables digests _ = None

-- the line names neither a class nor a command
abbrev pub IsPlain : Form → Type 0
IsPlain (form.Sql text) = ⊥
IsPlain (form.Wait class) = ⊥
IsPlain (form.Stage class) = ⊥
IsPlain (form.Statement class text) = ⊥
IsPlain (form.TableWait class schema name) = ⊥
IsPlain _ = Unit {0}

-- the digest text is there, or there is room for no more
abbrev pub IsPlaced : ℕ → List DigestText → Result (List ℕ) LexFault → Type 0
IsPlaced most digests (Ok shown) = position (has_text shown) digests ≡ None → nat_lt (length digests) most ≡ false
IsPlaced most digests (Err fault) = Unit {0}

-- as more tables and digest texts come, the line keeps its number
abbrev pub IsSettled : ℕ → List TableName → List DigestText → Form → Type 0
IsSettled most tables digests (form.TableWait class schema name) = IsSome (table_number tables schema name)
IsSettled most tables digests (form.Statement class text) = IsPlaced most digests (digest_text_of text)
IsSettled most tables digests _ = Unit {0}

-- this is known of the line
abbrev pub IsFound : ℕ → Finds → Form → Found → Type 0
IsFound most finds line (Before number) =
    (number_in finds.tables finds.digests line ≡ number) × IsSettled most finds.tables finds.digests line
    × (is_bad_statement line ≡ false)
IsFound most finds line (Now shown) = shown ≡ shown_of line
