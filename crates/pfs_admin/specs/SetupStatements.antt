-- What a statement on the setup tables changes, what it asks for, and what it is answered.
use Rattle.std.specs.Prelude.{ℕ, ◌+◌, List, [], map, Result, Ok, Err}
use Rattle.pfs_exec.specs.NewRows.{table_of}
use Rattle.pfs_levels.specs.declared.answers.Word.{Word}
use Rattle.pfs_matching.specs.declared.actor_rows.ActorRow.{ActorRow}
use Rattle.pfs_matching.specs.declared.object_rows.ObjectRow.{ObjectRow}
use Rattle.pfs_rows.specs.declared.table.Table.{Table}
use Rattle.pfs_rows.specs.declared.table.Table.TheVariants as tables
use Rattle.pfs_setups.specs.Deletes.{actors_left, flags_by_rows, objects_left}
use Rattle.pfs_setups.specs.Inserts.{actors_inserted, flags_by_answer, insert_answer, objects_inserted}
use Rattle.pfs_setups.specs.SetupRows.{held_met, rows_met}
use Rattle.pfs_setups.specs.Updates.{actors_updated, flags_behind, objects_updated}
use Rattle.pfs_admin.specs.declared.changes.Reply.{Reply}
use Rattle.pfs_admin.specs.declared.changes.Reply.TheVariants as replies
use Rattle.pfs_admin.specs.declared.changes.SetupStatement.{SetupStatement}
use Rattle.pfs_admin.specs.declared.changes.SetupStatement.TheVariants.{Update as Updates, Insert as Inserts, Delete as Deletes, Show}
use Rattle.pfs_admin.specs.WordChanges.{flags_changed, words_changed}
use Rattle.pfs_admin.specs.AdministrationStates.{State, naming_in}
use Rattle.pfs_admin.specs.Works.{Work}

-- the words that a table's rows have flags in: from the first one on, so many
abbrev pub first_word : Table → ℕ
first_word tables.SetupConsumers = 0
first_word tables.Threads = 1
first_word tables.SetupInstruments = 33
first_word tables.SetupObjects = 96
first_word _ = 0

abbrev pub word_count : Table → ℕ
word_count tables.SetupConsumers = 1
word_count tables.Threads = 32
word_count tables.SetupInstruments = 63
word_count tables.SetupObjects = 64
word_count _ = 0

abbrev pub first_of : SetupStatement → ℕ
first_of (Updates update) = first_word update.table
first_of (Inserts insert) = first_word (table_of insert.row)
first_of (Deletes delete) = first_word delete.table
first_of Show = 0

abbrev pub most_of : SetupStatement → ℕ
most_of (Updates update) = word_count update.table
most_of (Inserts insert) = word_count (table_of insert.row)
most_of (Deletes delete) = word_count delete.table
most_of Show = 0

-- the rows of the two setup tables behind it
abbrev pub actors_after : SetupStatement → List ActorRow → List ActorRow
actors_after (Updates update) actors = actors_updated update.table update.tests update.change actors
actors_after (Inserts insert) actors = actors_inserted actors insert.row
actors_after (Deletes delete) actors = actors_left delete.table delete.tests actors
actors_after Show actors = actors

abbrev pub objects_after : SetupStatement → List ObjectRow → List ObjectRow
objects_after (Updates update) objects = objects_updated update.table update.tests update.change objects
objects_after (Inserts insert) objects = objects_inserted objects insert.row
objects_after (Deletes delete) objects = objects_left delete.table delete.tests objects
objects_after Show objects = objects

-- the flags of a word behind it, by those before: which rows are met goes by the state before it, and tables are decided
-- by the rows behind it
abbrev pub flags_after : State → SetupStatement → ℕ → ℕ → ℕ
flags_after s (Updates update) =
    flags_behind (naming_in s) s.kept.now.places.threads (objects_after (Updates update) s.objects) update
flags_after s (Inserts insert) = flags_by_answer (naming_in s) (objects_after (Inserts insert) s.objects)
    (table_of insert.row) (insert_answer s.actors s.objects insert.row)
flags_after s (Deletes delete) = flags_by_rows (naming_in s) (objects_after (Deletes delete) s.objects) delete.table
flags_after s Show = λ word flags. flags

abbrev pub words_after : State → SetupStatement → List Word
words_after s what = words_changed (flags_after s what) s.words (first_of what) (most_of what)

-- the state behind it, which is one action
abbrev pub has_changed : State → SetupStatement → State
has_changed s what = record s {
  words = words_after s what;
  actors = actors_after what s.actors;
  objects = objects_after what s.objects;
  actions = s.actions + 1;
}

-- it moves nothing and writes no info; it sets the words whose flags it changes, ascending, each once
abbrev pub work_of_statement : State → SetupStatement → Work
work_of_statement s what = record {
  moves = [];
  signs = [];
  flags = flags_changed (flags_after s what) s.words (first_of what) (most_of what);
}

abbrev pub flags_in : Word → ℕ
flags_in word = word.flags

-- how many rows it changes: of an UPDATE and a DELETE all that are met, also where they stay as they were
abbrev pub reply_of : Result ℕ ℕ → Reply
reply_of (Ok count) = replies.Changed count
reply_of (Err error) = replies.Error error

abbrev pub reply_to : State → SetupStatement → Reply
reply_to s (Updates update) = replies.Changed (rows_met (naming_in s) s.kept.now.places.threads s.actors s.objects
    (map flags_in s.words) update.table update.tests)
reply_to s (Inserts insert) = reply_of (insert_answer s.actors s.objects insert.row)
reply_to s (Deletes delete) = replies.Changed (held_met delete.table delete.tests s.actors s.objects)
reply_to s Show = replies.Changed 0
