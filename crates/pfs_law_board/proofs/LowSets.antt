-- Each word that the actions of a run set is one of its 160: a connect and a quit set the word of a slot that is there, a
-- truncation and a statement those of their table.
use Rattle.std.proofs.Common.{ℕ, zero, suc, ◌≡◌, ◌+◌, ◌<◌, ◌≤◌, ◌==◌, Bool, true, false, cond, List, [], ◌∷◌, ◌++◌, length, replicate, Option, Some, None, IfSome, refl, arith}
use Rattle.pfs_admin.specs.AdministrationStates.{State, connected, has_quit, thread_flags}
use Rattle.pfs_admin.specs.ConnectionAsks.{connect_work, quit_work}
use Rattle.pfs_admin.specs.Fold.{stepped}
use Rattle.pfs_admin.specs.OpeningState.{opened}
use Rattle.pfs_admin.specs.SetupStatements.{first_of, first_word, flags_after, most_of, word_count}
use Rattle.pfs_admin.specs.Truncations.{action_of, off, truncation_flags}
use Rattle.pfs_admin.specs.WordChanges.{change_at, flags_changed, up_to}
use Rattle.pfs_admin.specs.Works.{Flagging, flagging, word_at}
use Rattle.pfs_admin.specs.declared.changes.Change.{Change}
use Rattle.pfs_admin.specs.declared.changes.Change.TheVariants.{Connect, Quit, Truncate, Setup}
use Rattle.pfs_admin.specs.declared.changes.SetupStatement.{SetupStatement}
use Rattle.pfs_admin.specs.declared.changes.SetupStatement.TheVariants.{Update, Insert, Delete, Show}
use Rattle.pfs_board.specs.declared.view.Label.{Label}
use Rattle.pfs_board_admin.specs.Desks.{sets_by, sets_from, sets_of, work_of_change}
use Rattle.pfs_classes.specs.declared.setting.Setting.{Setting}
use Rattle.pfs_containers.proofs.PlaceBounds.{IfFound, IsThere, found_inside, free_inside, len_fill_at}
use Rattle.pfs_containers.specs.Administration.{Containers, Found, advanced, connect_at, found_where, lowest_free, quit_line, session_of}
use Rattle.pfs_containers.specs.Connections.{State as Places, emptied_at}
use Rattle.pfs_containers.specs.Connections.{stepped as places_after}
use Rattle.pfs_containers.specs.ContainerState.{AllEntries, seat_by, seated}
use Rattle.pfs_containers.specs.declared.containers.Connection.{Connection}
use Rattle.pfs_exec.specs.NewRows.{table_of}
use Rattle.pfs_levels.specs.declared.answers.Word.{Word}
use Rattle.pfs_rows.specs.declared.table.Table.{Table}
use Rattle.pfs_rows.specs.declared.table.Table.TheVariants as tables
use Rattle.pfs_rows.specs.declared.truncations.Truncation.{Truncation}
use Rattle.pfs_rows.specs.declared.truncations.Truncation.TheVariants.{Events, Summary, DigestSummary, Accounts, Users, Hosts, SetupActors, SetupObjects}
use Rattle.pfs_switches.specs.History.{Each}
use Rattle.pfs_switches.specs.declared.view.Setting.{Setting as WordSetting}

abbrev pub IsLow : WordSetting → Type 0
IsLow s = s.word < 160

-- words that are to be set
abbrev AreLow : List Flagging → Type 0
AreLow [] = Unit {0}
AreLow (f ∷ fs) = (f.word < 160) × AreLow fs

low_both : (fs gs : List Flagging) → AreLow fs → AreLow gs → AreLow (fs ++ gs)
low_both [] gs a b = b
low_both (f ∷ fs) gs a b = (a.0, low_both fs gs a.1 b)

one_low : (at to : ℕ) (b : Bool) → at < 160 → AreLow (cond b [] (record { word = at; flags = to } ∷ []))
one_low at to true low = tt
one_low at to false low = (low, tt)

flagging_low : (words : List Word) (at to : ℕ) → at < 160 → AreLow (flagging words at to)
flagging_low words at to low = one_low at to ((word_at words at).flags == to) low

up_low : (change : ℕ → ℕ → ℕ) (words : List Word) (first count : ℕ) → first + count ≤ 160 → AreLow (up_to (change_at change words first) count)
up_low change words first zero low = tt
up_low change words first (suc n) low =
    low_both (up_to (change_at change words first) n) (change_at change words first n) (up_low change words first n (omega (arith, low)))
    (flagging_low words (first + n) (change (first + n) (word_at words (first + n)).flags) (omega (arith, low)))

changed_low : (change : ℕ → ℕ → ℕ) (words : List Word) (first count : ℕ) → first + count ≤ 160 → AreLow (flags_changed change words first count)
unfolding flags_changed
changed_low change words first count low = up_low change words first count low

-- so are those that are set
each_both : (xs ys : List WordSetting) → Each IsLow xs → Each IsLow ys → Each IsLow (xs ++ ys)
each_both [] ys a b = b
each_both (x ∷ xs) ys a b = (a.0, each_both xs ys a.1 b)

sets_low : (words : List Word) (fs : List Flagging) → AreLow fs → Each IsLow (sets_by words fs)
sets_low words [] low = tt
sets_low words (f ∷ fs) low = each_both (sets_by words fs) _ (sets_low words fs low.1) (low.0, tt)

-- a connect's slot
fewer : (few : ℕ) (slot : Option ℕ) → few ≤ 32 → IfSome slot (λ n. n < few) → IfSome slot (λ n. n < 32)
fewer few None less inside = tt
fewer few (Some slot) less inside = omega (arith, less, inside)

connect_low : (words : List Word) (flags : ℕ) (after now : Containers) (number user host : ℕ) (slot : Option ℕ) → IfSome slot (λ n. n < 32)
    → AreLow (connect_work words flags after (seat_by now number user host slot)).flags
connect_low words flags after now number user host None low = tt
connect_low words flags after now number user host (Some slot) low = flagging_low words (1 + slot) flags (omega (arith, low))

-- a quit's
any_entries : (xs : List (Option Connection)) → AllEntries (λ x. Unit {0}) xs
any_entries [] = tt
any_entries (None ∷ xs) = any_entries xs
any_entries (Some x ∷ xs) = (tt, any_entries xs)

quit_low : (few : ℕ) (words : List Word) (cells : List ℕ) (after : Containers) (found : Option (Found Connection)) → few ≤ 32 → IfFound found (IsThere (λ x. Unit {0}) few)
    → AreLow (quit_work words cells after (seated found)).flags
quit_low few words cells after None less inside = tt
quit_low few words cells after (Some found) less inside = flagging_low words (1 + found.place) 0 (omega (arith, less, inside.0))

truncated_low : (words : List Word) (what : Truncation) → AreLow (truncation_flags words what)
truncated_low words (Events kind table) = tt
truncated_low words (Summary kind table) = tt
truncated_low words DigestSummary = tt
truncated_low words Accounts = tt
truncated_low words Users = tt
truncated_low words Hosts = tt
truncated_low words SetupActors = tt
truncated_low words SetupObjects = changed_low off words 96 64 (omega arith)

table_inside : (table : Table) → first_word table + word_count table ≤ 160
table_inside tables.SetupConsumers = omega arith
table_inside tables.Threads = omega arith
table_inside tables.SetupInstruments = omega arith
table_inside tables.SetupObjects = omega arith
table_inside tables.SetupActors = omega arith
table_inside tables.Accounts = omega arith
table_inside tables.Users = omega arith
table_inside tables.Hosts = omega arith
table_inside (tables.Events kind table) = omega arith
table_inside (tables.Summary kind table) = omega arith
table_inside tables.DigestSummary = omega arith

statement_inside : (what : SetupStatement) → first_of what + most_of what ≤ 160
statement_inside (Update update) = table_inside update.table
statement_inside (Insert insert) = table_inside (table_of insert.row)
statement_inside (Delete delete) = table_inside delete.table
statement_inside Show = omega arith

work_low : (s : State) (session : ℕ) (what : Change) → length s.kept.now.places.threads ≤ 32 → AreLow (work_of_change s session what).flags
work_low s session (Connect user host) few =
    let threads : List (Option Connection) = s.kept.now.places.threads in
    connect_low s.words (thread_flags s user host) (connected s session user host).kept.now s.kept.now session user host (lowest_free threads) (fewer (length threads) (lowest_free threads) few (free_inside threads))
work_low s session Quit few =
    let threads : List (Option Connection) = s.kept.now.places.threads in
    let test : Connection → Bool = λ x. x.number == session in
    quit_low (length threads) s.words s.cells (has_quit s session).kept.now (found_where test threads) few (found_inside (λ x. Unit {0}) test threads (any_entries threads))
work_low s session (Truncate what) few = truncated_low s.words what
work_low s session (Setup what) few = changed_low (flags_after s what) s.words (first_of what) (most_of what) (statement_inside what)

-- there are as many slots as at first
len_emptied : {X : Type 0} (n : ℕ) (xs : List (Option X)) → length (emptied_at n xs) ≡ length xs
len_emptied n [] = refl
len_emptied zero (x ∷ xs) = refl
len_emptied (suc n) (x ∷ xs) = omega (arith, len_emptied n xs)

connect_many : (c : Containers) (number user host : ℕ) (slot : Option ℕ) → length (connect_at c number user host slot).places.threads ≡ length c.places.threads
connect_many c number user host None = refl
connect_many c number user host (Some slot) = len_fill_at slot (session_of c.places number user host) c.places.threads

quit_many : (s : Places) (found : Option (Found Connection)) → length (places_after s (quit_line found)).threads ≡ length s.threads
quit_many s None = refl
quit_many s (Some found) = len_emptied found.place s.threads

truncate_many : (c : Containers) (what : Truncation) → length (advanced c (action_of what)).places.threads ≡ length c.places.threads
truncate_many c (Events kind table) = refl
truncate_many c (Summary kind table) = refl
truncate_many c DigestSummary = refl
truncate_many c Accounts = refl
truncate_many c Users = refl
truncate_many c Hosts = refl
truncate_many c SetupActors = refl
truncate_many c SetupObjects = refl

step_many : (s : State) (session : ℕ) (what : Change) → length (stepped s session what).kept.now.places.threads ≡ length s.kept.now.places.threads
step_many s session (Connect user host) = connect_many s.kept.now session user host (lowest_free s.kept.now.places.threads)
step_many s session Quit = quit_many s.kept.now.places (found_where (λ x. x.number == session) s.kept.now.places.threads)
step_many s session (Truncate what) = truncate_many s.kept.now what
step_many s session (Setup what) = refl

from_low : (change : Label → Change) (s : State) (labels : List Label) → length s.kept.now.places.threads ≤ 32 → Each IsLow (sets_from change s labels)
unfolding sets_from
from_low change s [] few = tt
from_low change s (label ∷ labels) few =
    let next : State = stepped s label.session (change label) in
    let rest : Each IsLow (sets_from change next labels) = from_low change next labels (omega (arith, few, step_many s label.session (change label))) in
    each_both (sets_from change next labels) (sets_by s.words (work_of_change s label.session (change label)).flags) rest
    (sets_low s.words (work_of_change s label.session (change label)).flags (work_low s label.session (change label) few))

len_free : (n : ℕ) → length {A = Option Connection} (replicate n None) ≡ n
len_free zero = refl
len_free (suc n) = omega (arith, len_free n)

pub run_sets : (setting : Setting) (change : Label → Change) (labels : List Label) → Each IsLow (sets_of setting change labels)
run_sets setting change labels = from_low change (opened setting) labels (omega (arith, len_free setting.limits.thread_instances, setting.in_range.thread_instances))
