-- What a table lists doesn't go by the lock words of FREE rows.
use Rattle.std.proofs.Common.{◌≡◌, refl, ℕ, Bool, true, false, ◌||◌, ◌&&◌, cond, List, [], ◌∷◌, ◌++◌, map, Option, Some, None, sym, ◌∙◌, ap}
use Rattle.std.specs.Prelude.{if◌then◌else◌, find, reverse, option_and_then}
use Rattle.std.specs.Option.{option_map, option_map_or, option_to_list}
use Rattle.std.specs.List.{cons_option, filter_map, flat_map, list_any, range_with_len}
use Rattle.std.proofs.lemmas.List.{map-append, reverse-append}
use Rattle.pfs_classes.specs.declared.setting.Setting.{Setting}
use Rattle.pfs_rows.specs.declared.table.Table.{Table}
use Rattle.pfs_rows.specs.declared.table.Table.TheVariants as tables
use Rattle.pfs_rows.specs.declared.table.TableKind.{TableKind}
use Rattle.pfs_rows.specs.declared.table.SummaryTable.{SummaryTable}
use Rattle.pfs_rows.specs.declared.table.Reading.{Reading}
use Rattle.pfs_rows.specs.declared.table.Reading.TheVariants.{Slot, Word}
use Rattle.pfs_rows.specs.declared.table.Seen.{Seen}
use Rattle.pfs_rows.specs.declared.table.Seen.TheVariants.{Whole, Free, Busy}
use Rattle.pfs_rows.specs.Rows.{place_at}
use Rattle.pfs_summaries.specs.Cells.{counted_in, hides_rows, is_hidden_by, reads_key_cell, tally_of}
use Rattle.pfs_summaries.specs.DigestRows.{counted_row, digest_row, digests_of, null_heading}
use Rattle.pfs_summaries.specs.FoundContents.{content_at, content_in, contents_of, found_busy, info_at, infos_of, is_reading_of}
use Rattle.pfs_summaries.specs.Summaries.{ordered_rows, summary_rows_of}
use Rattle.pfs_summaries.specs.declared.tallies.Tally.{Tally}
use Rattle.pfs_stat.specs.Stat.{merge_all, stat_of_words}
use Rattle.pfs_summaries.specs.declared.heads.RowKey.{RowKey}
use Rattle.pfs_containers.specs.InfoWords as infos
use Rattle.pfs_tables.specs.ListedRows.{listed_rows}
use Rattle.pfs_tables.specs.PlaceTables.{flags_at, flags_in, loads, may_show, on_place, plain_rows_of, rows_of, slot_row, thread_row, words_row}
use Rattle.pfs_tables.specs.TableOrders.{Keyed, put_rows}
use Rattle.pfs_text.specs.declared.values.RowValue.{RowValue}

-- a reading as far as a journal and the contents tell it: without the lock word of a FREE row
abbrev told_seen : Seen → Seen
told_seen (Whole version content) = Whole version content
told_seen (Free word) = Free 0
told_seen (Busy first second) = Busy first second

abbrev pub told : Reading → Reading
told (Slot row seen) = Slot row (told_seen seen)
told (Word word version flags) = Word word version flags

-- ---- of what a reading is asked alike with and without the word, lists of them are too

any_told : (p : Reading → Bool) → ((r : Reading) → p (told r) ≡ p r) → (rs : List Reading) → list_any p (map told rs) ≡ list_any p rs
any_told p same [] = refl
any_told p same (r ∷ rs) = ap (λ b. b || list_any p (map told rs)) (same r) ∙ ap (λ b. p r || b) (any_told p same rs)

find_told : (p : Reading → Bool) → ((r : Reading) → p (told r) ≡ p r) → (rs : List Reading) → find p (map told rs) ≡ option_map told (find p rs)
find_told p same [] = refl
find_told p same (r ∷ rs) = ap (λ b. cond b (Some (told r)) (find p (map told rs))) (same r) ∙ on (p r) (find_told p same rs) where
  on : (b : Bool) → find p (map told rs) ≡ option_map told (find p rs) → cond b (Some (told r)) (find p (map told rs)) ≡ option_map told (cond b (Some r) (find p rs))
  on true rest = refl
  on false rest = rest

kept_told : {X : Type 0} (f : Reading → Option X) → ((r : Reading) → f (told r) ≡ f r) → (rs : List Reading) → filter_map f (map told rs) ≡ filter_map f rs
kept_told f same [] = refl
kept_told f same (r ∷ rs) = ap (λ o. cons_option o (filter_map f (map told rs))) (same r) ∙ ap (cons_option (f r)) (kept_told f same rs)

flat_told : {X : Type 0} (f g : Reading → List X) → ((r : Reading) → f (told r) ≡ g r) → (rs : List Reading) → flat_map f (map told rs) ≡ flat_map g rs
flat_told f g same [] = refl
flat_told f g same (r ∷ rs) = ap (λ l. l ++ flat_map f (map told rs)) (same r) ∙ ap (λ l. g r ++ l) (flat_told f g same rs)

turned_told : (rs : List Reading) → reverse (map told rs) ≡ map told (reverse rs)
turned_told [] = refl
turned_told (r ∷ rs) =
    reverse-append (told r ∷ []) (map told rs)
    ∙ ap (λ l. l ++ told r ∷ []) (turned_told rs)
    ∙ sym (ap (map told) (reverse-append (r ∷ []) rs) ∙ map-append told (reverse rs) (r ∷ []))

-- ---- the tables whose rows each show one place or one word

loads_told : (word : ℕ) (r : Reading) → loads word (told r) ≡ loads word r
loads_told word (Slot row seen) = refl
loads_told word (Word other version flags) = refl

flags_told : (rs : List Reading) (word : ℕ) → flags_at (map told rs) word ≡ flags_at rs word
flags_told rs word = ap (λ o. option_map_or flags_in o 0) (find_told (loads word) (loads_told word) rs) ∙ on (find (loads word) rs) where
  one : (r : Reading) → flags_in (told r) ≡ flags_in r
  one (Slot row seen) = refl
  one (Word other version flags) = refl

  on : (o : Option Reading) → option_map_or flags_in (option_map told o) 0 ≡ option_map_or flags_in o 0
  on None = refl
  on (Some r) = one r

words_told : (setting : Setting) (table : Table) (rs : List Reading) (row : ℕ) (words : List ℕ)
    → words_row setting table (map told rs) row words ≡ words_row setting table rs row words
unfolding words_row
words_told setting tables.Threads rs row words = ap (λ flags. thread_row setting row flags (infos.thread_of words)) (flags_told rs row)
words_told setting tables.Accounts rs row words = refl
words_told setting tables.Users rs row words = refl
words_told setting tables.Hosts rs row words = refl
words_told setting (tables.Events kind which) rs row words = refl
words_told setting _ rs row words = refl

slot_told : (setting : Setting) (table : Table) (rs : List Reading) (row : ℕ) (seen : Seen)
    → slot_row setting table (map told rs) row (told_seen seen) ≡ slot_row setting table rs row seen
unfolding slot_row
slot_told setting table rs row (Whole version content) = ap (λ o. if on_place (may_show table) (place_at row) then o else None) (words_told setting table rs row content)
slot_told setting table rs row (Free word) = refl
slot_told setting table rs row (Busy first second) = refl

row_told : (setting : Setting) (table : Table) (rs : List Reading) (r : Reading) → rows_of setting table (map told rs) (told r) ≡ rows_of setting table rs r
row_told setting table rs (Slot row seen) = ap option_to_list (slot_told setting table rs row seen)
row_told setting table rs (Word word version flags) = refl

plain_told : (setting : Setting) (table : Table) (rs : List Reading) → plain_rows_of setting table (map told rs) ≡ plain_rows_of setting table rs
unfolding plain_rows_of
plain_told setting table rs =
    ap (λ rows. map (λ (row : Keyed). row.1) (put_rows [] rows))
    (flat_told (rows_of setting table (map told rs)) (rows_of setting table rs) (row_told setting table rs) rs)

-- ---- summaries and the table of digests

reading_of_told : (row : ℕ) (r : Reading) → is_reading_of row (told r) ≡ is_reading_of row r
reading_of_told row (Slot other seen) = refl
reading_of_told row (Word word version flags) = refl

in_told : (r : Reading) → content_in (told r) ≡ content_in r
in_told (Slot row (Whole version content)) = refl
in_told (Slot row (Free word)) = refl
in_told (Slot row (Busy first second)) = refl
in_told (Word word version flags) = refl

busy_told : (r : Reading) → found_busy (told r) ≡ found_busy r
busy_told (Slot row (Whole version content)) = refl
busy_told (Slot row (Free word)) = refl
busy_told (Slot row (Busy first second)) = refl
busy_told (Word word version flags) = refl

content_told : (rs : List Reading) (row : ℕ) → content_at (map told rs) row ≡ content_at rs row
content_told rs row =
    ap (λ l. option_and_then content_in (find (is_reading_of row) l)) (turned_told rs)
    ∙ ap (option_and_then content_in) (find_told (is_reading_of row) (reading_of_told row) (reverse rs))
    ∙ on (find (is_reading_of row) (reverse rs))
  where
    on : (o : Option Reading) → option_and_then content_in (option_map told o) ≡ option_and_then content_in o
    on None = refl
    on (Some r) = in_told r

contents_told : (first count : ℕ) (rs : List Reading) → contents_of first count (map told rs) ≡ contents_of first count rs
contents_told first count rs = ap (λ f. map f (range_with_len first count)) (λ i row. content_told rs row i)

cell_told : (which : SummaryTable) (infos : List (Option (List ℕ))) (key cell : ℕ) (r : Reading) → reads_key_cell which infos key cell (told r) ≡ reads_key_cell which infos key cell r
cell_told which infos key cell (Slot row seen) = refl
cell_told which infos key cell (Word word version flags) = refl

counted_told : (which : SummaryTable) (infos : List (Option (List ℕ))) (key cell : ℕ) (r : Reading) → counted_in which infos key cell (told r) ≡ counted_in which infos key cell r
counted_told which infos key cell r =
    ap (λ b. if b then option_map stat_of_words (content_in (told r)) else None) (cell_told which infos key cell r)
    ∙ ap (λ o. if reads_key_cell which infos key cell r then option_map stat_of_words o else None) (in_told r)

busy_cell_told : (which : SummaryTable) (infos : List (Option (List ℕ))) (key cell : ℕ) (r : Reading)
    → (reads_key_cell which infos key cell (told r) && found_busy (told r)) ≡ (reads_key_cell which infos key cell r && found_busy r)
busy_cell_told which infos key cell r =
    ap (λ b. b && found_busy (told r)) (cell_told which infos key cell r) ∙ ap (λ b. reads_key_cell which infos key cell r && b) (busy_told r)

tally_told : (which : SummaryTable) (infos : List (Option (List ℕ))) (rs : List Reading) (key cell : ℕ) → tally_of which infos (map told rs) key cell ≡ tally_of which infos rs key cell
tally_told which infos rs key cell = λ i. record {
  stat = merge_all (kept_told (counted_in which infos key cell) (counted_told which infos key cell) rs i);
  busy = any_told (λ reading. reads_key_cell which infos key cell reading && found_busy reading) (busy_cell_told which infos key cell) rs i;
}

hidden_told : (which : SummaryTable) (r : Reading) → is_hidden_by which (told r) ≡ is_hidden_by which r
hidden_told which (Slot row seen) = ap (λ b. hides_rows which (place_at row) && b) (busy_told (Slot row seen))
hidden_told which (Word word version flags) = refl

summary_told : (setting : Setting) (kind : TableKind) (which : SummaryTable) (rs : List Reading) → summary_rows_of setting kind which (map told rs) ≡ summary_rows_of setting kind which rs
unfolding summary_rows_of
summary_told setting kind which rs =
    ap (λ b. shown b (infos_of (map told rs)) (tally_of which (infos_of (map told rs)) (map told rs))) (any_told (is_hidden_by which) (hidden_told which) rs)
    ∙ ap (λ infos. shown (list_any (is_hidden_by which) rs) infos (tally_of which infos (map told rs))) (contents_told 0 129 rs)
    ∙ ap (λ tally. shown (list_any (is_hidden_by which) rs) (infos_of rs) tally) (λ i key cell. tally_told which (infos_of rs) rs key cell i)
  where
    shown : Bool → List (Option (List ℕ)) → (ℕ → ℕ → Tally) → List (List RowValue)
    shown hidden infos tally = if hidden then [] else map (λ (row : RowKey × List RowValue). row.1) (ordered_rows setting kind which infos tally)

digests_told : (setting : Setting) (rs : List Reading) → digests_of setting (map told rs) ≡ digests_of setting rs
unfolding digests_of
digests_told setting rs =
    ap (λ contents. counted_row null_heading (info_at contents 0) ++ flat_map (digest_row setting.digests contents) (range_with_len 0 64)) (contents_told 8385 65 rs)

pub listed_told : (setting : Setting) (table : Table) (rs : List Reading) → listed_rows setting table (map told rs) ≡ listed_rows setting table rs
listed_told setting (tables.Summary kind which) rs = summary_told setting kind which rs
listed_told setting tables.DigestSummary rs = digests_told setting rs
listed_told setting tables.SetupActors rs = plain_told setting tables.SetupActors rs
listed_told setting tables.SetupObjects rs = plain_told setting tables.SetupObjects rs
listed_told setting tables.SetupInstruments rs = plain_told setting tables.SetupInstruments rs
listed_told setting tables.SetupConsumers rs = plain_told setting tables.SetupConsumers rs
listed_told setting tables.Threads rs = plain_told setting tables.Threads rs
listed_told setting tables.Accounts rs = plain_told setting tables.Accounts rs
listed_told setting tables.Users rs = plain_told setting tables.Users rs
listed_told setting tables.Hosts rs = plain_told setting tables.Hosts rs
listed_told setting (tables.Events kind which) rs = plain_told setting (tables.Events kind which) rs
