-- Worked examples, by computation.
use Rattle.std.proofs.Common.{◌≡◌, ℕ, true, false, List, [], ◌∷◌, ◌++◌, map, Some, None, refl}
use Rattle.std.specs.Prelude.{codes}
use Rattle.pfs_rows.specs.declared.place.Place.TheVariants.{UserCell}
use Rattle.pfs_rows.specs.declared.table.Seen.TheVariants.{Whole, Busy}
use Rattle.pfs_rows.specs.declared.table.Reading.{Reading}
use Rattle.pfs_rows.specs.declared.table.Reading.TheVariants.{Slot}
use Rattle.pfs_rows.specs.declared.table.TableKind.TheVariants.{Transactions}
use Rattle.pfs_rows.specs.declared.table.SummaryTable.TheVariants.{ByThread, ByAccount, ByUser, ByHost, Global}
use Rattle.pfs_containers.specs.InfoWords.{six_words, three_words}
use Rattle.pfs_stat.specs.declared.Stat.{Stat}
use Rattle.pfs_stat.specs.Stat.{zero_of, words_of}
use Rattle.pfs_text.specs.declared.values.RowValue.{RowValue}
use Rattle.pfs_text.specs.declared.values.RowValue.TheVariants as value
use Rattle.pfs_summaries.specs.declared.heads.RowKey.{RowKey}
use Rattle.pfs_summaries.specs.declared.numbers.Numbers.TheVariants as numbers
use Rattle.pfs_summaries.specs.FoundContents.{content_at, infos_of}
use Rattle.pfs_summaries.specs.Cells.{key_of, tally_of, is_hidden_by}
use Rattle.pfs_summaries.specs.Heads.{head_of}
use Rattle.pfs_summaries.specs.RowValues.{values_of, times_of, sums_of, numbers_row}
use Rattle.pfs_summaries.specs.Summaries.{put_rows, is_skipped}
use Rattle.pfs_summaries.specs.DigestRows.{counted_row, null_heading, place_row}

-- so many waits of 5
abbrev waits : ℕ → ℕ → Stat
waits count sum = record zero_of { count = count; sum = sum; min = 5; max = 5 }

-- a thread of the first account, user and host; one of the second user alone; and the first account, of the first user and host
abbrev infos : List Reading
infos =
    Slot 1 (Whole 1 (six_words 1 1 1 1 0 1)) ∷ Slot 2 (Whole 1 (six_words 2 0 2 0 2 1))
    ∷ Slot 33 (Whole 1 (six_words 0 1 1 1 1 1)) ∷ Slot 65 (Whole 1 (three_words 0 0 3)) ∷ []

-- a thread's cell of class 6, another's, an account's, a user's and a host's
abbrev cells : List Reading
cells =
    Slot 135 (Whole 1 (words_of (waits 1 5))) ∷ Slot 199 (Whole 1 (words_of (waits 10 50))) ∷ Slot 2183 (Whole 1 (words_of (waits 100 500)))
    ∷ Slot 4231 (Whole 1 (words_of (waits 1000 5000))) ∷ Slot 6279 (Whole 1 (words_of (waits 10000 50000))) ∷ []

abbrev all : List Reading
all = infos ++ cells

-- the first account has its own and its thread's; the first user and host those, and each its own
pub by_account : tally_of ByAccount (infos_of all) all 0 6 ≡ record { stat = waits 101 505; busy = false }
by_account = refl

pub by_user : tally_of ByUser (infos_of all) all 0 6 ≡ record { stat = waits 1101 5505; busy = false }
by_user = refl

pub by_host : tally_of ByHost (infos_of all) all 0 6 ≡ record { stat = waits 10101 50505; busy = false }
by_host = refl

-- globally all but the users' count
pub global : tally_of Global (infos_of all) all 0 6 ≡ record { stat = waits 10111 50555; busy = false }
global = refl

pub no_user_globally : key_of Global (infos_of all) (UserCell 0 6) ≡ None
no_user_globally = refl

-- a busy cell of a thread is one of its account's row, and of no other class's
pub busy_thread : (tally_of ByAccount (infos_of infos) (infos ++ Slot 135 (Busy 5 5) ∷ []) 0 6).busy ≡ true
busy_thread = refl

pub other_class : (tally_of ByAccount (infos_of infos) (infos ++ Slot 135 (Busy 5 5) ∷ []) 0 7).busy ≡ false
other_class = refl

-- READ ONLY transactions busy
pub busy_transactions : is_skipped Transactions (tally_of ByThread (infos_of infos) (infos ++ Slot 192 (Busy 5 5) ∷ []) 0) 62 ≡ true
busy_transactions = refl

-- a busy host's info hides the global table alone, a busy user's none
pub busy_host : is_hidden_by Global (Slot 97 (Busy 5 5)) ≡ true
busy_host = refl

pub busy_host_by_host : is_hidden_by ByHost (Slot 97 (Busy 5 5)) ≡ false
busy_host_by_host = refl

pub busy_user : is_hidden_by ByUser (Slot 65 (Busy 5 5)) ≡ false
busy_user = refl

-- the last reading of a row counts
pub last_reading : content_at (Slot 65 (Whole 1 (three_words 0 0 3)) ∷ Slot 65 (Busy 9 9) ∷ []) 65 ≡ None
last_reading = refl

-- a user without a connection doesn't stand by itself, and one whose name is unknown has no rows
pub gone : head_of ByUser (codes "u" ∷ []) (infos_of infos) 0 ≡ Some (record { thread_id = 0; user = codes "u"; host = []; stands = false })
gone = refl

pub unknown : head_of ByUser [] (infos_of infos) 0 ≡ None
unknown = refl

-- an untimed cell shows 0 as least and greatest
pub untimed : values_of (numbers.Times (record zero_of { count = 2 })) ≡ numbers_row (2 ∷ 0 ∷ 0 ∷ 0 ∷ 0 ∷ [])
unfolding values_of times_of
untimed = refl

-- transactions: both modes in one, then each
pub both_modes : values_of (numbers.Transactions (waits 1 5) (waits 2 10)) ≡ numbers_row (3 ∷ 15 ∷ 5 ∷ 5 ∷ 5 ∷ 1 ∷ 5 ∷ 5 ∷ 5 ∷ 5 ∷ 2 ∷ 10 ∷ 5 ∷ 5 ∷ 5 ∷ [])
unfolding values_of times_of
both_modes = refl

abbrev key : List ℕ → ℕ → ℕ → RowKey
key user class place = record { thread_id = 0; user = user; host = []; class = class; place = place }

abbrev row : ℕ → List RowValue
row number = value.Number number ∷ []

-- rows stand by name, then by class, then by place
pub in_order : map (λ (one : RowKey × List RowValue). one.1) (put_rows [] ((key (codes "u") 6 0, row 4) ∷ (key (codes "b") 6 3, row 2) ∷ (key (codes "b") 7 1, row 3) ∷ (key (codes "b") 6 1, row 1) ∷ []))
    ≡ row 1 ∷ row 2 ∷ row 3 ∷ row 4 ∷ []
in_order = refl

-- the row of the texts without a place has no digest; a place that the setting doesn't have, or without a count, has no row
pub null_row : counted_row null_heading (Some (words_of (record zero_of { count = 2 }))) ≡ (value.Null ∷ value.Null ∷ value.Null ∷ numbers_row (2 ∷ 0 ∷ 0 ∷ 0 ∷ 0 ∷ 0 ∷ 0 ∷ 0 ∷ 0 ∷ 0 ∷ 0 ∷ [])) ∷ []
unfolding values_of times_of sums_of
null_row = refl

pub no_digest : place_row None (Some (words_of (waits 1 5))) ≡ []
no_digest = refl

pub no_count : counted_row null_heading (Some (words_of zero_of)) ≡ []
no_count = refl
