-- Reading tokens from left to right. The grammar doesn't cite this: it is what the reading functions compute, and the
-- proofs show that it reads exactly what the grammar spells.
use Rattle.std.specs.Prelude.{◌≡◌, ℕ, zero, suc, Bool, true, false, List, [], ◌∷◌, ◌++◌, length, codes, Option, None, Some, Result, Ok, Err, if◌then◌else◌}
use Rattle.std.specs.Option.{option_map}
use Rattle.pfs_text.specs.declared.conditions.Comparison.{Comparison}
use Rattle.pfs_text.specs.declared.conditions.Comparison.TheVariants.{Equal, Unequal, Less, AtMost, Greater, AtLeast}
use Rattle.pfs_text.specs.declared.conditions.Literal.{Literal}
use Rattle.pfs_text.specs.declared.conditions.TestKind.{TestKind}
use Rattle.pfs_text.specs.declared.conditions.TestKind.TheVariants as kinds
use Rattle.pfs_sql.specs.declared.token.Token.{Token}
use Rattle.pfs_sql.specs.declared.token.Token.TheVariants as tokens
use Rattle.pfs_sql.specs.declared.faults.SqlFault.{SqlFault}
use Rattle.pfs_sql.specs.declared.faults.SqlFault.TheVariants as faults
use Rattle.pfs_sql.specs.declared.faults.SqlError.TheVariants.{Parse}
use Rattle.pfs_sql.specs.declared.command.Command.{Command}
use Rattle.pfs_sql.specs.declared.command.Command.TheVariants.{Select, Update, Insert, Delete, Truncate}
use Rattle.pfs_sql.specs.declared.command.NamedTest.{NamedTest}
use Rattle.pfs_sql.specs.declared.command.NamedOrder.{NamedOrder}
use Rattle.pfs_sql.specs.declared.command.Assignment.{Assignment}
use Rattle.pfs_sql.specs.TokenWords.{is_key, is_comma, is_open, is_close, is_star, is_semicolon, name_in, table_in, number_in, text_in, comparison_in, literal_in}
use Rattle.pfs_sql.specs.Grammar.{is_proper}

infixl 10 ◌>>=◌
abbrev pub ◌>>=◌ : {A B : Type 0} → Option A → (A → Option B) → Option B
None >>= f = None
(Some x) >>= f = f x

-- What a function returned, seen by view, is what reading gives, unless memory ran out.
abbrev pub Fails : {Y : Type 0} → SqlFault → Option Y → Type 0
Fails faults.NoMemory read = Unit {0}
Fails (faults.Error error) read = (error ≡ Parse) × (read ≡ None)

abbrev pub Gives : {X Y : Type 0} → (X → Y) → Result X SqlFault → Option Y → Type 0
Gives view (Ok x) read = read ≡ Some (view x)
Gives view (Err fault) read = Fails fault read

-- what is read from the front of tokens, and those behind it
abbrev pub Reader : Type 0 → Type 0
Reader X = List Token → Option (X × List Token)

-- what follows from a value, or else
abbrev pub choose : {A B : Type 0} → Option A → (A → B) → B → B
choose None f other = other
choose (Some x) f other = f x

abbrev pub given : Bool → List Token → Option (List Token)
given true tokens = Some tokens
given false tokens = None

-- the tokens behind a first one that passes
abbrev pub after : (Token → Bool) → List Token → Option (List Token)
after test [] = None
after test (token ∷ tokens) = given (test token) tokens

abbrev pub after_key : List ℕ → List Token → Option (List Token)
after_key word = after (is_key word)

abbrev pub one : {X : Type 0} → (Token → Option X) → Reader X
one f [] = None
one f (token ∷ tokens) = option_map (λ x. (x, tokens)) (f token)

-- behind a token that passes
abbrev pub behind : {X : Type 0} → (Token → Bool) → Reader X → Reader X
behind test read tokens = after test tokens >>= read

-- in front of a token that passes
abbrev pub before : {X : Type 0} → Reader X → (Token → Bool) → Reader X
before read test tokens = read tokens >>= λ x. after test x.1 >>= λ rest. Some (x.0, rest)

abbrev pub optionally : {X : Type 0} → (Token → Bool) → Reader X → Reader (Option X)
optionally test read tokens =
    choose (after test tokens) (λ rest. read rest >>= λ x. Some (Some x.0, x.1)) (Some (None, tokens))

abbrev pub clause_at : {X : Type 0} → (Token → Bool) → Reader (List X) → Reader (List X)
clause_at test read tokens = choose (after test tokens) read (Some ([], tokens))

-- what was read before is put in front
abbrev pub with_front : {X : Type 0} → List X → Option (List X × List Token) → Option (List X × List Token)
with_front front read = read >>= λ x. Some (front ++ x.0, x.1)

-- items with a separator between them, of no more than so many
unfoldable pub many : {X : Type 0} → (Token → Bool) → Reader X → ℕ → Reader (List X)
many separator read zero tokens = None
many separator read (suc n) tokens = read tokens >>= λ x.
    choose (after separator x.1) (λ rest. with_front (x.0 ∷ []) (many separator read n rest)) (Some (x.0 ∷ [], x.1))

abbrev pub items_at : {X : Type 0} → (Token → Bool) → Reader X → Reader (List X)
items_at separator read tokens = many separator read (length tokens) tokens

abbrev pub name_at : Reader (List ℕ)
name_at = one name_in

abbrev pub text_at : Reader (List ℕ)
text_at = one text_in

abbrev pub table_at : Reader (List ℕ)
table_at = one table_in

abbrev pub names_at : Reader (List (List ℕ))
names_at = items_at is_comma name_at

abbrev pub texts_at : Reader (List (List ℕ))
texts_at = items_at is_comma text_at

unfoldable pub columns_at : Reader (Option (List (List ℕ)))
columns_at tokens = choose (after is_star tokens) (λ rest. Some (None, rest))
    (names_at tokens >>= λ x. Some (Some x.0, x.1))

-- behind IS
unfoldable pub null_at : Reader TestKind
null_at tokens = choose (after_key (codes "not") tokens)
    (λ rest. after_key (codes "null") rest >>= λ last. Some (kinds.IsNotNull, last))
    (after_key (codes "null") tokens >>= λ last. Some (kinds.IsNull, last))

-- behind a comparison
unfoldable pub compared_at : Comparison → Reader TestKind
compared_at comparison tokens = one literal_in tokens >>= λ x. Some (kinds.Compare comparison x.0, x.1)

-- behind LIKE
unfoldable pub like_at : Reader TestKind
like_at tokens = text_at tokens >>= λ x. Some (kinds.Like x.0, x.1)

unfoldable pub word_kind_at : Reader TestKind
word_kind_at tokens = choose (after_key (codes "like") tokens) like_at (behind (is_key (codes "is")) null_at tokens)

unfoldable pub kind_at : Reader TestKind
kind_at tokens = choose (one comparison_in tokens) (λ x. compared_at x.0 x.1) (word_kind_at tokens)

unfoldable pub test_at : Reader NamedTest
test_at tokens = name_at tokens >>= λ x. kind_at x.1 >>= λ y. Some (record { column = x.0; kind = y.0 }, y.1)

abbrev pub tests_at : Reader (List NamedTest)
tests_at = items_at (is_key (codes "and")) test_at

abbrev pub conditions_at : Reader (List NamedTest)
conditions_at = clause_at (is_key (codes "where")) tests_at

unfoldable pub direction_at : List Token → Bool × List Token
direction_at tokens = choose (after_key (codes "asc") tokens) (λ rest. (false, rest))
    (choose (after_key (codes "desc") tokens) (λ rest. (true, rest)) (false, tokens))

unfoldable pub order_item_at : Reader NamedOrder
order_item_at tokens = name_at tokens >>= λ x.
    Some (record { column = x.0; descending = (direction_at x.1).0 }, (direction_at x.1).1)

abbrev pub order_items_at : Reader (List NamedOrder)
order_items_at = items_at is_comma order_item_at

abbrev pub order_at : Reader (List NamedOrder)
order_at = clause_at (is_key (codes "order")) (behind (is_key (codes "by")) order_items_at)

abbrev pub limit_at : Reader (Option ℕ)
limit_at = optionally (is_key (codes "limit")) (one number_in)

abbrev pub is_equal : Token → Bool
is_equal (tokens.Compares Equal) = true
is_equal token = false

unfoldable pub assignment_at : Reader Assignment
assignment_at tokens = name_at tokens >>= λ x. after is_equal x.1 >>= λ rest. text_at rest >>= λ y.
    Some (record { column = x.0; value = y.0 }, y.1)

abbrev pub assignments_at : Reader (List Assignment)
assignments_at = items_at is_comma assignment_at

abbrev pub listed_at : Reader (Option (List (List ℕ)))
listed_at = optionally is_open (before names_at is_close)

abbrev pub values_at : Reader (List (List ℕ))
values_at = behind (is_key (codes "values")) (behind is_open (before texts_at is_close))

-- behind the command's first word
unfoldable pub select_at : Reader Command
select_at tokens = columns_at tokens >>= λ c. after_key (codes "from") c.1 >>= λ behind_from. table_at behind_from >>=
    λ t.
    conditions_at t.1 >>= λ w. order_at w.1 >>= λ o. limit_at o.1 >>= λ l.
    Some (Select (record { columns = c.0; table = t.0; tests = w.0; order = o.0; limit = l.0 }), l.1)

unfoldable pub update_at : Reader Command
update_at tokens = table_at tokens >>= λ t. after_key (codes "set") t.1 >>= λ behind_set. assignments_at behind_set
    >>= λ s.
    conditions_at s.1 >>= λ w. Some (Update (record { table = t.0; sets = s.0; tests = w.0 }), w.1)

unfoldable pub insert_at : Reader Command
insert_at tokens = after_key (codes "into") tokens >>= λ behind_into. table_at behind_into >>= λ t. listed_at t.1 >>=
    λ c. values_at c.1 >>= λ v.
    Some (Insert (record { table = t.0; columns = c.0; values = v.0 }), v.1)

unfoldable pub delete_at : Reader Command
delete_at tokens = after_key (codes "from") tokens >>= λ behind_from. table_at behind_from >>= λ t.
    conditions_at t.1 >>= λ w. Some (Delete (record { table = t.0; tests = w.0 }), w.1)

-- no token is left, or one `;`
abbrev pub ends : List Token → Bool
ends [] = true
ends (token ∷ []) = is_semicolon token
ends (token ∷ more ∷ tokens) = false

-- behind the word TABLE, unless that word is the table's name: it is where the text ends behind it
unfoldable pub past_table : List Token → List Token
past_table tokens = choose (after_key (codes "table") tokens) (λ rest. if ends rest then tokens else rest) tokens

unfoldable pub truncate_at : Reader Command
truncate_at tokens = table_at (past_table tokens) >>= λ t. Some (Truncate (record { table = t.0 }), t.1)

unfoldable pub removal_at : Reader Command
removal_at tokens = choose (after_key (codes "delete") tokens) delete_at
    (after_key (codes "truncate") tokens >>= truncate_at)

unfoldable pub change_at : Reader Command
change_at tokens = choose (after_key (codes "update") tokens) update_at
    (choose (after_key (codes "insert") tokens) insert_at (removal_at tokens))

unfoldable pub command_at : Reader Command
command_at tokens = choose (after_key (codes "select") tokens) select_at (change_at tokens)

-- all of the tokens
unfoldable pub whole : List Token → Option Command
whole tokens = command_at tokens >>= λ c. (if ends c.1 then Some c.0 else None)

unfoldable pub command_of : List Token → Option Command
command_of tokens = whole tokens >>= λ c. (if is_proper c then Some c else None)
