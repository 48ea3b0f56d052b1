-- Worked examples.
use Rattle.std.proofs.Common.{◌≡◌, true, false, List, [], ◌∷◌, refl}
use Rattle.pfs_rows.specs.declared.table.Table.TheVariants as tables
use Rattle.pfs_rows.specs.declared.table.TableKind.TheVariants.{Waits, Stages}
use Rattle.pfs_rows.specs.declared.table.EventTable.TheVariants.{History, HistoryLong}
use Rattle.pfs_rows.specs.declared.table.SummaryTable.TheVariants.{ByThread, ByAccount, Global}
use Rattle.pfs_rows.specs.declared.table.Reading.{Reading}
use Rattle.pfs_rows.specs.declared.table.Reading.TheVariants.{Slot}
use Rattle.pfs_rows.specs.declared.table.Seen.TheVariants.{Whole, Free}
use Rattle.pfs_classes.specs.declared.classes.Class.{Class}
use Rattle.pfs_classes.specs.declared.kind.Kind.{Kind}
use Rattle.pfs_classes.specs.declared.kind.Kind.TheVariants.{File, Stage}
use Rattle.pfs_readsets.specs.TablePlaces.{Scope}
use Rattle.pfs_readsets.specs.ReadSets.{row_test, word_test, passing}

abbrev class : Kind → Class
class kind = record { name = 0; kind = kind; enabled = true; timed = true }

-- a class of files, a class of stages, one digest text
abbrev scope : Scope
scope = record { classes = class File ∷ class Stage ∷ []; digests = 1 }

-- thread 0 is there, thread 1 isn't
abbrev threads : List Reading
threads = Slot 1 (Whole 1 []) ∷ Slot 2 (Free 0) ∷ []

-- of the waits by thread, the cell of class 0 of thread 0 is read, and neither that of the stage nor one of thread 1
pub example_cells : (row_test scope (tables.Summary Waits ByThread) threads 129 ≡ true)
    × (row_test scope (tables.Summary Waits ByThread) threads 130 ≡ false) × (row_test scope (tables.Summary Waits ByThread) threads 193 ≡ false)
example_cells = (refl, refl, refl)

-- by account the thread's cells are read too, and the infos of threads, but no global cell
pub example_accounts : (row_test scope (tables.Summary Waits ByAccount) threads 129 ≡ true) × (row_test scope (tables.Summary Waits ByAccount) threads 32 ≡ true)
    × (row_test scope (tables.Summary Waits ByAccount) threads 8321 ≡ false) × (row_test scope (tables.Summary Waits Global) threads 8321 ≡ true)
example_accounts = (refl, refl, refl, refl)

-- no cell of a user in the global table, and no user's info
pub example_no_users : (row_test scope (tables.Summary Waits Global) threads 4225 ≡ false) × (row_test scope (tables.Summary Waits Global) threads 65 ≡ false)
example_no_users = (refl, refl)

-- the stages' history of thread 0 begins at ring place 26, and thread 1 has none; the long history of stages at row 11,242
pub example_rings : (row_test scope (tables.Events Stages History) threads 8476 ≡ true) × (row_test scope (tables.Events Stages History) threads 8475 ≡ false)
    × (row_test scope (tables.Events Stages History) threads 8532 ≡ false) × (row_test scope (tables.Events Stages HistoryLong) threads 11242 ≡ true)
example_rings = (refl, refl, refl, refl)

-- one digest text has a place
pub example_digests : (row_test scope tables.DigestSummary [] 8386 ≡ true) × (row_test scope tables.DigestSummary [] 8387 ≡ false)
example_digests = (refl, refl)

-- the words of two classes and of `transaction`; the word of the thread that is there
pub example_words : (passing (word_test scope tables.SetupInstruments []) 30 70 ≡ 33 ∷ 34 ∷ 95 ∷ []) × (passing (word_test scope tables.Threads threads) 0 160 ≡ 1 ∷ [])
unfolding passing
example_words = (refl, refl)

-- the objects' and actors' tables read nothing
pub example_nothing : (row_test scope tables.SetupActors threads 1 ≡ false) × (word_test scope tables.SetupObjects threads 0 ≡ false)
example_nothing = (refl, refl)
