-- The grammar: how each command is spelled in tokens.
use Rattle.std.specs.Prelude.{◌≡◌, ℕ, ◌==◌, ◌&&◌, ◌⊎◌, Bool, true, false, not, List, [], ◌∷◌, length, map, codes, Option, None, Some}
use Rattle.std.specs.List.{list_any}
use Rattle.std.specs.Str.{str_eq_ignore_ascii_case}
use Rattle.pfs_text.specs.declared.conditions.Comparison.{Comparison}
use Rattle.pfs_text.specs.declared.conditions.Comparison.TheVariants.{Equal}
use Rattle.pfs_text.specs.declared.conditions.Literal.{Literal}
use Rattle.pfs_text.specs.declared.conditions.TestKind.{TestKind}
use Rattle.pfs_text.specs.declared.conditions.TestKind.TheVariants as kinds
use Rattle.pfs_sql.specs.declared.faults.SqlError.TheVariants.{Parse}
use Rattle.pfs_sql.specs.declared.faults.SqlFault.{SqlFault}
use Rattle.pfs_sql.specs.declared.faults.SqlFault.TheVariants as faults
use Rattle.pfs_sql.specs.declared.token.Token.{Token}
use Rattle.pfs_sql.specs.declared.command.Command.{Command}
use Rattle.pfs_sql.specs.declared.command.Command.TheVariants.{Select, Update, Insert, Delete, Truncate}
use Rattle.pfs_sql.specs.declared.command.InsertCommand.{InsertCommand}
use Rattle.pfs_sql.specs.declared.command.NamedTest.{NamedTest}
use Rattle.pfs_sql.specs.declared.command.NamedOrder.{NamedOrder}
use Rattle.pfs_sql.specs.declared.command.Assignment.{Assignment}
use Rattle.pfs_sql.specs.Tokens.{AreTokens}
use Rattle.pfs_sql.specs.TokenWords.{is_key, is_comma, is_open, is_close, is_star, is_semicolon, name_in, table_in, number_in, text_in, comparison_in, literal_in}

-- what one token may be asked to be
pub data Part : Type 0 where
  Passes : (Token → Bool) → Part
  Name : List ℕ → Part
  Table : List ℕ → Part
  Number : ℕ → Part
  Quotes : List ℕ → Part
  Compares : Comparison → Part
  Value : Literal → Part
  Never : Part

-- a part that stands there, or one that may be left out
pub data Piece : Type 0 where
  One : Part → Piece
  May : Part → Piece

-- the token is that part
abbrev pub Is : Part → Token → Type 0
Is (Passes test) token = test token ≡ true
Is (Name name) token = name_in token ≡ Some name
Is (Table name) token = table_in token ≡ Some name
Is (Number number) token = number_in token ≡ Some number
Is (Quotes text) token = text_in token ≡ Some text
Is (Compares comparison) token = comparison_in token ≡ Some comparison
Is (Value literal) token = literal_in token ≡ Some literal
Is Never token = ⊥

-- the tokens are these pieces, one after another, and no more
abbrev pub Fits : List Piece → List Token → Type 0
Fits [] [] = Unit {0}
Fits [] (token ∷ tokens) = ⊥
Fits (One part ∷ pieces) [] = ⊥
Fits (One part ∷ pieces) (token ∷ tokens) = Is part token × Fits pieces tokens
Fits (May part ∷ pieces) [] = Fits pieces []
Fits (May part ∷ pieces) (token ∷ tokens) = (Is part token × Fits pieces tokens) ⊎ Fits pieces (token ∷ tokens)

-- a keyword
abbrev pub key : List ℕ → Piece
key word = One (Passes (is_key word))

-- items with a separator before each
abbrev pub each_behind : {X : Type 0} → (Token → Bool) → (X → List Piece → List Piece) → List X → List Piece
    → List Piece
each_behind separator item [] tail = tail
each_behind separator item (x ∷ xs) tail = One (Passes separator) ∷ item x (each_behind separator item xs tail)

-- items with a separator between them, at least one
abbrev pub separated : {X : Type 0} → (Token → Bool) → (X → List Piece → List Piece) → List X → List Piece → List Piece
separated separator item [] tail = One Never ∷ tail
separated separator item (x ∷ xs) tail = item x (each_behind separator item xs tail)

-- a clause that begins with a keyword, or nothing where it has no items
abbrev pub clause : {X : Type 0} → (Token → Bool) → (List X → List Piece → List Piece) → List X → List Piece
    → List Piece
clause begins items [] tail = tail
clause begins items (x ∷ xs) tail = One (Passes begins) ∷ items (x ∷ xs) tail

-- what begins with a token of its own, or nothing
abbrev pub optional : {X : Type 0} → (Token → Bool) → (X → List Piece → List Piece) → Option X → List Piece → List Piece
optional begins item None tail = tail
optional begins item (Some x) tail = One (Passes begins) ∷ item x tail

abbrev pub name : List ℕ → List Piece → List Piece
name column tail = One (Name column) ∷ tail

abbrev pub text : List ℕ → List Piece → List Piece
text value tail = One (Quotes value) ∷ tail

-- column {, column}
abbrev pub names : List (List ℕ) → List Piece → List Piece
names = separated is_comma name

-- * | column {, column}
abbrev pub columns : Option (List (List ℕ)) → List Piece → List Piece
columns None tail = One (Passes is_star) ∷ tail
columns (Some list) tail = names list tail

-- = | <> | != | < | <= | > | >= literal, LIKE text, IS NULL, IS NOT NULL
abbrev pub kind : TestKind → List Piece → List Piece
kind (kinds.Compare comparison literal) tail = One (Compares comparison) ∷ One (Value literal) ∷ tail
kind (kinds.Like pattern) tail = key (codes "like") ∷ One (Quotes pattern) ∷ tail
kind kinds.IsNull tail = key (codes "is") ∷ key (codes "null") ∷ tail
kind kinds.IsNotNull tail = key (codes "is") ∷ key (codes "not") ∷ key (codes "null") ∷ tail

abbrev pub test : NamedTest → List Piece → List Piece
test t tail = One (Name t.column) ∷ kind t.kind tail

-- WHERE cond {AND cond}
abbrev pub conditions : List NamedTest → List Piece → List Piece
conditions = clause (is_key (codes "where")) (separated (is_key (codes "and")) test)

-- ASC may be left out, DESC may not
abbrev pub direction : Bool → Piece
direction false = May (Passes (is_key (codes "asc")))
direction true = key (codes "desc")

abbrev pub order_item : NamedOrder → List Piece → List Piece
order_item o tail = One (Name o.column) ∷ direction o.descending ∷ tail

abbrev pub order_items : List NamedOrder → List Piece → List Piece
order_items list tail = key (codes "by") ∷ separated is_comma order_item list tail

-- ORDER BY column [ASC|DESC] {, column [ASC|DESC]}
abbrev pub order : List NamedOrder → List Piece → List Piece
order = clause (is_key (codes "order")) order_items

abbrev pub number : ℕ → List Piece → List Piece
number n tail = One (Number n) ∷ tail

-- LIMIT number
abbrev pub limit : Option ℕ → List Piece → List Piece
limit = optional (is_key (codes "limit")) number

-- column = text
abbrev pub assignment : Assignment → List Piece → List Piece
assignment a tail = One (Name a.column) ∷ One (Compares Equal) ∷ One (Quotes a.value) ∷ tail

-- column {, column} )
abbrev pub listed : List (List ℕ) → List Piece → List Piece
listed list tail = names list (One (Passes is_close) ∷ tail)

-- a `;` may stand at the end
abbrev pub ending : List Piece
ending = May (Passes is_semicolon) ∷ []

-- the spelling of each command
abbrev pub spelling : Command → List Piece
spelling (Select s) = key (codes "select") ∷ columns s.columns (key (codes "from") ∷ One (Table s.table)
    ∷ conditions s.tests (order s.order (limit s.limit ending)))
spelling (Update u) = key (codes "update") ∷ One (Table u.table) ∷ key (codes "set")
    ∷ separated is_comma assignment u.sets (conditions u.tests ending)
spelling (Insert i) = key (codes "insert") ∷ key (codes "into") ∷ One (Table i.table)
    ∷ optional is_open listed i.columns (key (codes "values") ∷ One (Passes is_open)
    ∷ separated is_comma text i.values (One (Passes is_close) ∷ ending))
spelling (Delete d) = key (codes "delete") ∷ key (codes "from") ∷ One (Table d.table) ∷ conditions d.tests ending
spelling (Truncate t) = key (codes "truncate") ∷ May (Passes (is_key (codes "table"))) ∷ One (Table t.table) ∷ ending

-- no name stands in the list twice, in any case
abbrev pub are_apart : List (List ℕ) → Bool
are_apart [] = true
are_apart (n ∷ ns) = not (list_any (λ m. str_eq_ignore_ascii_case n m) ns) && are_apart ns

-- as many values as columns; all five where no columns are named
abbrev pub counts_agree : Option (List (List ℕ)) → List (List ℕ) → Bool
counts_agree None values = length values == 5
counts_agree (Some list) values = length list == length values

abbrev pub are_columns : Option (List (List ℕ)) → Bool
are_columns None = true
are_columns (Some list) = are_apart list

abbrev pub has_values : InsertCommand → Bool
has_values i = are_columns i.columns && counts_agree i.columns i.values

-- SET and INSERT name no column twice, and INSERT has a value for each column
abbrev pub is_proper : Command → Bool
is_proper (Select s) = true
is_proper (Update u) = are_apart (map (λ a. a.column) u.sets)
is_proper (Insert i) = has_values i
is_proper (Delete d) = true
is_proper (Truncate t) = true

-- a refusal says that the text is no command, which is then so; memory may run out at any time
abbrev pub Refuses : SqlFault → Type 0 → Type 0
Refuses faults.NoMemory none = Unit {0}
Refuses (faults.Error error) none = (error ≡ Parse) × none

-- the tokens are a spelling of the command
abbrev pub Spells : List Token → Command → Type 0
Spells tokens command = Fits (spelling command) tokens × (is_proper command ≡ true)

-- the text says the command
abbrev pub Says : List ℕ → Command → Type 0
Says text command = (tokens : List Token) × AreTokens text tokens × Spells tokens command
