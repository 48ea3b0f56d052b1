-- Tables by their names.
use Rattle.std.proofs.Common.{◌≡◌, ◌<◌, ◌≤◌, ℕ, Bool, true, false, cond, List, [], ◌∷◌, ◌++◌, Option, Some, None, MatchOption, Contains, map, take, drop, length, slice_get, get_or, codes, inl, inr, lit<, refl, sym, ◌∙◌, ap, arith}
use Rattle.std.specs.Char.{to_ascii_lowercase}
use Rattle.std.specs.List.{find, position_or_len}
use Rattle.std.specs.Str.{bytes_eq}
use Rattle.std.proofs.lemmas.Bool.{cases_lt}
use Rattle.std.proofs.lemmas.List.{take-map, drop-map, map-append, take-append-drop, length-map, length-take}
use Rattle.std.proofs.lemmas.List.Folds.{find_at}
use Rattle.std.proofs.lemmas.List.Sums.{fails_before_first, passes_at_first, position_or_len_is}
use Rattle.std.proofs.lemmas.Option.{slice_get-get_or, slice_get_past, slice_get_within, get_or_from_slice_get}
use Rattle.std.proofs.lemmas.Slice.Eq.{bytes_eq-Decides}
use Rattle.pfs_rows.specs.declared.table.TableKind.TheVariants.{Waits, Stages, Statements, Transactions}
use Rattle.pfs_rows.specs.declared.table.EventTable.TheVariants.{Current, History, HistoryLong}
use Rattle.pfs_rows.specs.declared.table.SummaryTable.TheVariants.{ByThread, ByAccount, ByUser, ByHost, Global}
use Rattle.pfs_rows.specs.declared.table.Table.{Table}
use Rattle.pfs_rows.specs.declared.table.Table.TheVariants.{SetupActors, SetupObjects, SetupInstruments, SetupConsumers, Threads, Accounts, Users, Hosts, Events, Summary, DigestSummary}
use Rattle.pfs_rows.specs.Tables.{table_name}
use Rattle.pfs_catalogue.specs.LetterCases.{IsTableName, SameName, is_same_name, schema_front, without_schema}
use Rattle.pfs_catalogue.specs.declared.tables.TheConstants.{TABLES}
use Rattle.pfs_catalogue.proofs.ColumnNames.{is_same, same_name}

abbrev pub lower : List ℕ → List ℕ
lower name = map to_ascii_lowercase name

pub each_table : (table : Table) → Contains TABLES table
each_table SetupActors = (0, lit< tt, refl)
each_table SetupObjects = (1, lit< tt, refl)
each_table SetupInstruments = (2, lit< tt, refl)
each_table SetupConsumers = (3, lit< tt, refl)
each_table Threads = (4, lit< tt, refl)
each_table Accounts = (5, lit< tt, refl)
each_table Users = (6, lit< tt, refl)
each_table Hosts = (7, lit< tt, refl)
each_table (Events Waits Current) = (8, lit< tt, refl)
each_table (Events Waits History) = (9, lit< tt, refl)
each_table (Events Waits HistoryLong) = (10, lit< tt, refl)
each_table (Events Stages Current) = (11, lit< tt, refl)
each_table (Events Stages History) = (12, lit< tt, refl)
each_table (Events Stages HistoryLong) = (13, lit< tt, refl)
each_table (Events Statements Current) = (14, lit< tt, refl)
each_table (Events Statements History) = (15, lit< tt, refl)
each_table (Events Statements HistoryLong) = (16, lit< tt, refl)
each_table (Events Transactions Current) = (17, lit< tt, refl)
each_table (Events Transactions History) = (18, lit< tt, refl)
each_table (Events Transactions HistoryLong) = (19, lit< tt, refl)
each_table (Summary Waits ByThread) = (20, lit< tt, refl)
each_table (Summary Waits ByAccount) = (21, lit< tt, refl)
each_table (Summary Waits ByUser) = (22, lit< tt, refl)
each_table (Summary Waits ByHost) = (23, lit< tt, refl)
each_table (Summary Waits Global) = (24, lit< tt, refl)
each_table (Summary Stages ByThread) = (25, lit< tt, refl)
each_table (Summary Stages ByAccount) = (26, lit< tt, refl)
each_table (Summary Stages ByUser) = (27, lit< tt, refl)
each_table (Summary Stages ByHost) = (28, lit< tt, refl)
each_table (Summary Stages Global) = (29, lit< tt, refl)
each_table (Summary Statements ByThread) = (30, lit< tt, refl)
each_table (Summary Statements ByAccount) = (31, lit< tt, refl)
each_table (Summary Statements ByUser) = (32, lit< tt, refl)
each_table (Summary Statements ByHost) = (33, lit< tt, refl)
each_table (Summary Statements Global) = (34, lit< tt, refl)
each_table (Summary Transactions ByThread) = (35, lit< tt, refl)
each_table (Summary Transactions ByAccount) = (36, lit< tt, refl)
each_table (Summary Transactions ByUser) = (37, lit< tt, refl)
each_table (Summary Transactions ByHost) = (38, lit< tt, refl)
each_table (Summary Transactions Global) = (39, lit< tt, refl)
each_table DigestSummary = (40, lit< tt, refl)

-- names are in lower case
lowered : (table : Table) → lower (table_name table) ≡ table_name table
lowered SetupActors = refl
lowered SetupObjects = refl
lowered SetupInstruments = refl
lowered SetupConsumers = refl
lowered Threads = refl
lowered Accounts = refl
lowered Users = refl
lowered Hosts = refl
lowered (Events Waits Current) = refl
lowered (Events Waits History) = refl
lowered (Events Waits HistoryLong) = refl
lowered (Events Stages Current) = refl
lowered (Events Stages History) = refl
lowered (Events Stages HistoryLong) = refl
lowered (Events Statements Current) = refl
lowered (Events Statements History) = refl
lowered (Events Statements HistoryLong) = refl
lowered (Events Transactions Current) = refl
lowered (Events Transactions History) = refl
lowered (Events Transactions HistoryLong) = refl
lowered (Summary Waits ByThread) = refl
lowered (Summary Waits ByAccount) = refl
lowered (Summary Waits ByUser) = refl
lowered (Summary Waits ByHost) = refl
lowered (Summary Waits Global) = refl
lowered (Summary Stages ByThread) = refl
lowered (Summary Stages ByAccount) = refl
lowered (Summary Stages ByUser) = refl
lowered (Summary Stages ByHost) = refl
lowered (Summary Stages Global) = refl
lowered (Summary Statements ByThread) = refl
lowered (Summary Statements ByAccount) = refl
lowered (Summary Statements ByUser) = refl
lowered (Summary Statements ByHost) = refl
lowered (Summary Statements Global) = refl
lowered (Summary Transactions ByThread) = refl
lowered (Summary Transactions ByAccount) = refl
lowered (Summary Transactions ByUser) = refl
lowered (Summary Transactions ByHost) = refl
lowered (Summary Transactions Global) = refl
lowered DigestSummary = refl

-- no table's name begins with the schema
no_schema : (table : Table) → bytes_eq (take 19 (lower (table_name table))) (lower schema_front) ≡ false
no_schema SetupActors = refl
no_schema SetupObjects = refl
no_schema SetupInstruments = refl
no_schema SetupConsumers = refl
no_schema Threads = refl
no_schema Accounts = refl
no_schema Users = refl
no_schema Hosts = refl
no_schema (Events kind table) = refl
no_schema (Summary kind table) = refl
no_schema DigestSummary = refl

true_not_false : true ≡ false → ⊥
true_not_false e = cc

find_passes : {X : Type 0} (p : X → Bool) (xs : List X) (x : X) → find p xs ≡ Some x → p x ≡ true
find_passes p xs x e =
    let here : slice_get xs (position_or_len p xs) ≡ Some x = sym (find_at p xs) ∙ e in
    let inside : position_or_len p xs < length xs = slice_get_within xs (position_or_len p xs) x here in
    let passes : p (get_or xs (position_or_len p xs) x) ≡ true = passes_at_first p xs x inside in
    ap p (sym (get_or_from_slice_get xs (position_or_len p xs) x x here)) ∙ passes

-- the first element that passes
pub found_here : {X : Type 0} (p : X → Bool) (xs : List X) (i : ℕ) (d : X) → i < length xs → ((k : ℕ) → k < i → p (get_or xs k d) ≡ false) → p (get_or xs i d) ≡ true → find p xs ≡ Some (get_or xs i d)
found_here p xs i d inside before h =
    let first : position_or_len p xs ≡ i = position_or_len_is p xs i d (omega arith) before (λ _. h) in
    find_at p xs ∙ (ap (slice_get xs) first ∙ slice_get-get_or xs i d inside)

pub found_none : {X : Type 0} (p : X → Bool) (xs : List X) (d : X) → ((k : ℕ) → k < length xs → p (get_or xs k d) ≡ false) → find p xs ≡ None
found_none p xs d none =
    let first : position_or_len p xs ≡ length xs = position_or_len_is p xs (length xs) d (omega arith) none (λ past. absurd (omega arith)) in
    find_at p xs ∙ slice_get_past xs (position_or_len p xs) (omega arith)

find_fails : {X : Type 0} (p : X → Bool) (xs : List X) (x : X) → find p xs ≡ None → Contains xs x → p x ≡ false
find_fails p xs x e (k, inside, at) =
    let fails : p (get_or xs k x) ≡ false = fails_before_first p xs k x (elim (cases_lt (position_or_len p xs) (length xs)) [
      | inl below ↦ (let there : slice_get xs (position_or_len p xs) ≡ Some (get_or xs (position_or_len p xs) x) = slice_get-get_or xs (position_or_len p xs) x below in let found : find p xs ≡ slice_get xs (position_or_len p xs) = find_at p xs in absurd (cc))
      | inr past ↦ omega arith
    ]) in
    ap p (sym at) ∙ fails

-- a name behind what stands before it
join_same : (front rest s name : List ℕ) → front ++ rest ≡ name → lower front ≡ lower s → (table : List ℕ) → lower table ≡ lower rest → lower (s ++ table) ≡ lower name
join_same front rest s name e same_front table same_rest =
    let whole : lower name ≡ lower front ++ lower rest = ap lower (sym e) ∙ map-append to_ascii_lowercase front rest in
    let joined : lower (s ++ table) ≡ lower s ++ lower table = map-append to_ascii_lowercase s table in
    cc

means_at : (table : Table) (name : List ℕ) (b : Bool) → is_same_name (take 19 name) schema_front ≡ b → is_same_name (table_name table) (cond b (drop 19 name) name) ≡ true → IsTableName table name
means_at table name true e h =
    inr (join_same (take 19 name) (drop 19 name) schema_front name (take-append-drop 19 name) (same_name (take 19 name) schema_front e) (table_name table) (same_name (table_name table) (drop 19 name) h))
means_at table name false e h = inl (same_name (table_name table) name h)

-- a table that is found has the name
pub means : (table : Table) (name : List ℕ) → is_same_name (table_name table) (without_schema name) ≡ true → IsTableName table name
means table name h = means_at table name (is_same_name (take 19 name) schema_front) refl h

meant_at : (table : Table) (name : List ℕ) (b : Bool) → is_same_name (take 19 name) schema_front ≡ b → IsTableName table name → is_same_name (table_name table) (cond b (drop 19 name) name) ≡ true
meant_at table name true e (inl bare) =
    let front : lower (take 19 name) ≡ take 19 (lower name) = sym (take-map to_ascii_lowercase 19 name) in
    let same_front : lower (take 19 name) ≡ lower schema_front = same_name (take 19 name) schema_front e in
    let begins : take 19 (lower (table_name table)) ≡ lower schema_front = ap (take 19) bare ∙ (sym front ∙ same_front) in
    let tested : bytes_eq (take 19 (lower (table_name table))) (lower schema_front) ≡ true = (bytes_eq-Decides (take 19 (lower (table_name table))) (lower schema_front)).1 begins in
    absurd (true_not_false (sym tested ∙ no_schema table))
meant_at table name false e (inl bare) = is_same (table_name table) name bare
meant_at table name true e (inr full) =
    is_same (table_name table) (drop 19 name) (ap (drop 19) full ∙ drop-map to_ascii_lowercase 19 name)
meant_at table name false e (inr full) =
    absurd (true_not_false (sym (is_same (take 19 name) schema_front (sym (take-map to_ascii_lowercase 19 name) ∙ ap (take 19) (sym full))) ∙ e))

-- a table that has the name is found
pub meant : (table : Table) (name : List ℕ) → IsTableName table name → is_same_name (table_name table) (without_schema name) ≡ true
meant table name h = meant_at table name (is_same_name (take 19 name) schema_front) refl h

pub table_found : (name : List ℕ) (r : Option Table) → r ≡ find (λ table. is_same_name (table_name table) (without_schema name)) TABLES → MatchOption r ((table : Table) → ¬ IsTableName table name) (λ table. IsTableName table name)
table_found name (Some table) e = means table name (find_passes (λ t. is_same_name (table_name t) (without_schema name)) TABLES table (sym e))
table_found name None e = λ table h. true_not_false (sym (meant table name h) ∙ find_fails (λ t. is_same_name (table_name t) (without_schema name)) TABLES table (sym e) (each_table table))

pub one_name : (a b : Table) (name : List ℕ) → IsTableName a name → IsTableName b name → table_name a ≡ table_name b
one_name a b name is_a is_b =
    let same_a : lower (table_name a) ≡ lower (without_schema name) = same_name (table_name a) (without_schema name) (meant a name is_a) in
    let same_b : lower (table_name b) ≡ lower (without_schema name) = same_name (table_name b) (without_schema name) (meant b name is_b) in
    sym (lowered a) ∙ (same_a ∙ (sym same_b ∙ lowered b))

short_at : (name : List ℕ) (b : Bool) → length name < 19 → is_same_name (take 19 name) schema_front ≡ b → name ≡ cond b (drop 19 name) name
short_at name false short e = refl
short_at name true short e =
    let same : lower (take 19 name) ≡ lower schema_front = same_name (take 19 name) schema_front e in
    let lengths : length (lower (take 19 name)) ≡ 19 = ap length same in
    let front : length (lower (take 19 name)) ≡ length (take 19 name) = length-map (take 19 name) to_ascii_lowercase in
    let fewer : length (take 19 name) ≤ length name = omega (arith, length-take 19 name) in
    absurd (omega arith)

-- no schema stands before a name that is shorter
pub short : (name : List ℕ) → length name < 19 → name ≡ without_schema name
short name h = short_at name (is_same_name (take 19 name) schema_front) h refl
