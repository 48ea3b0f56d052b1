-- Columns by their names.
use Rattle.std.proofs.Common.{◌≡◌, nat_lt, ◌<◌, ◌≤◌, ◌+◌, ℕ, zero, suc, Bool, true, false, not, ◌&&◌, cond, List, [], ◌∷◌, ◌++◌, Option, Some, None, MatchOption, map, length, position, slice_get, get_or, inl, inr, refl, sym, ◌∙◌, ap, subst, arith}
use Rattle.std.specs.List.{list_any, prefix_len, position_or_len}
use Rattle.std.specs.Option.{option_map_or}
use Rattle.std.specs.Char.{to_ascii_lowercase}
use Rattle.std.specs.Str.{bytes_eq}
use Rattle.std.proofs.lemmas.Bool.{cases_lt}
use Rattle.std.proofs.lemmas.List.Quantifiers.{position-Some}
use Rattle.std.proofs.lemmas.List.Sums.{fails_before_first, position_or_len_is}
use Rattle.std.proofs.lemmas.Map.Keys.{any_passes_from_place}
use Rattle.std.proofs.lemmas.Option.{same_Some, slice_get-get_or, slice_get_within, get_or_from_slice_get}
use Rattle.std.proofs.lemmas.Slice.Eq.{bytes_eq-Decides}
use Rattle.pfs_rows.specs.declared.table.TableKind.TheVariants.{Waits, Stages, Statements, Transactions}
use Rattle.pfs_rows.specs.declared.table.SummaryTable.TheVariants.{ByThread, ByAccount, ByUser, ByHost, Global}
use Rattle.pfs_rows.specs.declared.table.Table.{Table}
use Rattle.pfs_rows.specs.declared.table.Table.TheVariants.{SetupActors, SetupObjects, SetupInstruments, SetupConsumers, Threads, Accounts, Users, Hosts, Events, Summary, DigestSummary}
use Rattle.pfs_catalogue.specs.Columns.{AreFound, Named, NamesDiffer, columns_of, has_name}
use Rattle.pfs_catalogue.specs.LetterCases.{SameName, is_same_name}

pub same_name : (a b : List ℕ) → is_same_name a b ≡ true → SameName a b
same_name a b h = (bytes_eq-Decides (map to_ascii_lowercase a) (map to_ascii_lowercase b)).0 h

pub is_same : (a b : List ℕ) → SameName a b → is_same_name a b ≡ true
is_same a b h = (bytes_eq-Decides (map to_ascii_lowercase a) (map to_ascii_lowercase b)).1 h

-- the column at this place of the list has this name
abbrev pub IsAt : List Named → List ℕ → ℕ → Type 0
IsAt columns name place = (column : Named) × (slice_get columns place ≡ Some column) × SameName column.name name

none_is_past : {X : Type 0} (p : X → Bool) (xs : List X) → position p xs ≡ None → length xs ≤ position_or_len p xs
none_is_past p xs e = elim (cases_lt (position_or_len p xs) (length xs)) [
  | inl below ↦ absurd (grind (arith, below, e))
  | inr past ↦ past
]

named_at : (columns : List Named) (name : List ℕ) (place : ℕ) → position (has_name name) columns ≡ Some place → (d : Named) → IsAt columns name place
named_at columns name place e d =
    let found : (place < length columns) × (has_name name (get_or columns place d) ≡ true) × ((k : ℕ) → k < place → has_name name (get_or columns k d) ≡ false) = position-Some (has_name name) columns place d e in
    (get_or columns place d, slice_get-get_or columns place d found.0, same_name (get_or columns place d).name name found.1)

not_named : (columns : List Named) (name : List ℕ) → position (has_name name) columns ≡ None → (place : ℕ) → ¬ IsAt columns name place
not_named columns name e place (column, here, same) =
    let inside : place < length columns = slice_get_within columns place column here in
    let past : length columns ≤ position_or_len (has_name name) columns = none_is_past (has_name name) columns e in
    let fails : has_name name (get_or columns place column) ≡ false = fails_before_first (has_name name) columns place column (omega arith) in
    let at : get_or columns place column ≡ column = get_or_from_slice_get columns place column column here in
    let passes : has_name name column ≡ true = is_same column.name name same in
    cc

-- what `position` finds is a column of that name, and where it finds none there is none
pub place_named : (columns : List Named) (name : List ℕ) (r : Option ℕ) → r ≡ position (has_name name) columns → (d : Named) → MatchOption r ((place : ℕ) → ¬ IsAt columns name place) (IsAt columns name)
place_named columns name (Some place) e d = named_at columns name place (sym e) d
place_named columns name None e d = not_named columns name (sym e)

pick_below : (n m : ℕ) → n < m → cond (nat_lt n m) (Some n) None ≡ Some n
pick_below n m h = grind arith

pick_past : (n m : ℕ) → m ≤ n → cond (nat_lt n m) (Some n) None ≡ None
pick_past n m h = grind arith

at_place : (columns : List Named) (name : List ℕ) (k : ℕ) (d : Named) → k < length columns → option_map_or (has_name name) (slice_get columns k) false ≡ has_name name (get_or columns k d)
at_place columns name k d inside = rw (slice_get-get_or columns k d inside) refl

-- the first place whose column has the name
pub place_is : (columns : List Named) (name : List ℕ) (i : ℕ) → i < length columns → ((k : ℕ) → k < i → option_map_or (has_name name) (slice_get columns k) false ≡ false) → option_map_or (has_name name) (slice_get columns i) false ≡ true → position (has_name name) columns ≡ Some i
place_is [] name i inside before here = absurd (omega arith)
place_is (column ∷ columns) name i inside before here =
    let first : position_or_len (has_name name) (column ∷ columns) ≡ i = position_or_len_is (has_name name) (column ∷ columns) i column (omega arith) (λ k below. sym (at_place (column ∷ columns) name k column (omega arith)) ∙ before k below) (λ _. sym (at_place (column ∷ columns) name i column inside) ∙ here) in
    ap (λ n. cond (nat_lt n (length (column ∷ columns))) (Some n) None) first ∙ pick_below i (length (column ∷ columns)) inside

pub no_place : (columns : List Named) (name : List ℕ) → ((k : ℕ) → k < length columns → option_map_or (has_name name) (slice_get columns k) false ≡ false) → position (has_name name) columns ≡ None
no_place [] name none = refl
no_place (column ∷ columns) name none =
    let first : position_or_len (has_name name) (column ∷ columns) ≡ length (column ∷ columns) = position_or_len_is (has_name name) (column ∷ columns) (length (column ∷ columns)) column (omega arith) (λ k below. sym (at_place (column ∷ columns) name k column below) ∙ none k below) (λ past. absurd (omega arith)) in
    ap (λ n. cond (nat_lt n (length (column ∷ columns))) (Some n) None) first ∙ pick_past (length (column ∷ columns)) (length (column ∷ columns)) (omega arith)

-- a test that no two names are the same
abbrev pub are_apart : List Named → Bool
are_apart [] = true
are_apart (column ∷ columns) = not (list_any (has_name column.name) columns) && are_apart columns

rest_apart : (a b : Bool) → (not a && b) ≡ true → b ≡ true
rest_apart true b h = absurd (cc)
rest_apart false b h = h

none_apart : (a b : Bool) → (not a && b) ≡ true → a ≡ false
none_apart true b h = absurd (cc)
none_apart false b h = refl

first_apart : (name : List ℕ) (columns : List Named) (other : Named) (place : ℕ) → list_any (has_name name) columns ≡ false → slice_get columns place ≡ Some other → SameName other.name name → ⊥
first_apart name columns other place none here same =
    let passes : list_any (has_name name) columns ≡ true = any_passes_from_place (has_name name) columns place other here (is_same other.name name same) in
    cc

same_place : (columns : List Named) → are_apart columns ≡ true → (a b : Named) (i j : ℕ) → slice_get columns i ≡ Some a → slice_get columns j ≡ Some b → SameName a.name b.name → i ≡ j
same_place [] h a b i j at_i at_j same = absurd (cc)
same_place (column ∷ columns) h a b zero zero at_i at_j same = refl
same_place (column ∷ columns) h a b zero (suc j) at_i at_j same =
    let is_a : column ≡ a = same_Some column a at_i in
    absurd (first_apart column.name columns b j (none_apart (list_any (has_name column.name) columns) (are_apart columns) h) at_j (sym same ∙ ap (λ (x : Named). map to_ascii_lowercase x.name) (sym is_a)))
same_place (column ∷ columns) h a b (suc i) zero at_i at_j same =
    let is_b : column ≡ b = same_Some column b at_j in
    absurd (first_apart column.name columns a i (none_apart (list_any (has_name column.name) columns) (are_apart columns) h) at_i (same ∙ ap (λ (x : Named). map to_ascii_lowercase x.name) (sym is_b)))
same_place (column ∷ columns) h a b (suc i) (suc j) at_i at_j same = ap suc (same_place columns (rest_apart (list_any (has_name column.name) columns) (are_apart columns) h) a b i j at_i at_j same)

found_at : (columns : List Named) → are_apart columns ≡ true → (name : List ℕ) (place : ℕ) → IsAt columns name place → (r : Option ℕ) → MatchOption r ((other : ℕ) → ¬ IsAt columns name other) (IsAt columns name) → r ≡ Some place
found_at columns apart name place at None none = absurd (none place at)
found_at columns apart name place (column, here, same) (Some i) (other, there, also) = ap Some (same_place columns apart other column i place there here (also ∙ sym same))

-- a column is found at its place where names differ
pub found_back : (columns : List Named) → are_apart columns ≡ true → (name : List ℕ) (place : ℕ) → IsAt columns name place → position (has_name name) columns ≡ Some place
found_back columns apart name place at = found_at columns apart name place at (position (has_name name) columns) (place_named columns name (position (has_name name) columns) refl at.0)

-- the names of each table's columns differ
apart : (table : Table) → are_apart (columns_of table) ≡ true
apart SetupActors = refl
apart SetupObjects = refl
apart SetupInstruments = refl
apart SetupConsumers = refl
apart Threads = refl
apart Accounts = refl
apart Users = refl
apart Hosts = refl
apart (Events Waits table) = refl
apart (Events Stages table) = refl
apart (Events Statements table) = refl
apart (Events Transactions table) = refl
apart (Summary Waits ByThread) = refl
apart (Summary Waits ByAccount) = refl
apart (Summary Waits ByUser) = refl
apart (Summary Waits ByHost) = refl
apart (Summary Waits Global) = refl
apart (Summary Stages ByThread) = refl
apart (Summary Stages ByAccount) = refl
apart (Summary Stages ByUser) = refl
apart (Summary Stages ByHost) = refl
apart (Summary Stages Global) = refl
apart (Summary Statements ByThread) = refl
apart (Summary Statements ByAccount) = refl
apart (Summary Statements ByUser) = refl
apart (Summary Statements ByHost) = refl
apart (Summary Statements Global) = refl
apart (Summary Transactions ByThread) = refl
apart (Summary Transactions ByAccount) = refl
apart (Summary Transactions ByUser) = refl
apart (Summary Transactions ByHost) = refl
apart (Summary Transactions Global) = refl
apart DigestSummary = refl

pub names_differ : NamesDiffer
names_differ table a b i j at_i at_j same = same_place (columns_of table) (apart table) a b i j at_i at_j same

pub are_found : AreFound
are_found table name place at = found_back (columns_of table) (apart table) name place at
