-- What actions write to info rows has no ticket.
use Rattle.std.proofs.Common.{ℕ, zero, suc, ◌≡◌, ◌+◌, ◌*◌, Bool, true, false, cond, List, [], ◌++◌, Option, Some, None, refl}
use Rattle.std.specs.List.{slice_index_or}
use Rattle.std.specs.Option.{option_map}
use Rattle.pfs_admin.specs.AdministrationStates.{State, thread_flags, connected, has_quit, seat_at, seat_in}
use Rattle.pfs_admin.specs.ConnectionAsks.{tag_of, account_tag, user_tag, host_tag, upper_tags, connect_work, quit_work, work_of_connect, work_of_quit}
use Rattle.pfs_admin.specs.Truncations.{sign_at, place_sign, first_row, content_at, level_signs, freed_at, free_rows, free_ring, free_slot, free_threads, event_signs, truncation_signs, work_of_truncation, current_first, current_count, is_there, kept_behind}
use Rattle.pfs_admin.specs.WordChanges.{up_to}
use Rattle.pfs_admin.specs.Works.{Sign, Releases, Tags}
use Rattle.pfs_containers.specs.Administration.{Containers}
use Rattle.pfs_containers.specs.InfoWords.{thread_words, account_words, name_words}
use Rattle.pfs_containers.specs.PlaceInfos.{thread_info_of, account_info_at, user_info_at, host_info_at}
use Rattle.pfs_containers.specs.declared.containers.Connection.{Connection}
use Rattle.pfs_containers.specs.declared.containers.Seated.{Seated}
use Rattle.pfs_levels.specs.declared.places.Level.{Level}
use Rattle.pfs_levels.specs.declared.places.Level.TheVariants as levels
use Rattle.pfs_model.proofs.EachLists.{each_join}
use Rattle.pfs_model.specs.Chains.{Each}
use Rattle.pfs_rows.specs.Tables.{kind_number}
use Rattle.pfs_rows.specs.declared.table.EventTable.{EventTable}
use Rattle.pfs_rows.specs.declared.table.EventTable.TheVariants as events
use Rattle.pfs_rows.specs.declared.table.TableKind.{TableKind}
use Rattle.pfs_rows.specs.declared.truncations.Truncation.{Truncation}
use Rattle.pfs_rows.specs.declared.truncations.Truncation.TheVariants.{Events, Summary, DigestSummary, Accounts, Users, Hosts, SetupActors, SetupObjects}
use Rattle.pfs_law_shared.proofs.TicketedPuts.{word_of}

abbrev pub IsUnticketed : Sign → Type 0
IsUnticketed (Releases row) = Unit {0}
IsUnticketed (Tags row content) = word_of content ≡ 0

abbrev AreUnticketed : List Sign → Type 0
AreUnticketed signs = Each IsUnticketed signs

all_up_to : (f : ℕ → List Sign) → ((n : ℕ) → AreUnticketed (f n)) → (n : ℕ) → AreUnticketed (up_to f n)
all_up_to f each zero = tt
all_up_to f each (suc n) = each_join IsUnticketed (up_to f n) (f n) (all_up_to f each n) (each n)

-- the words of an info row, where there is one
abbrev IsInfo : Option (List ℕ) → Type 0
IsInfo None = Unit {0}
IsInfo (Some content) = word_of content ≡ 0

mapped : {A : Type 0} (words : A → List ℕ) → ((x : A) → word_of (words x) ≡ 0) → (info : Option A) → IsInfo (option_map words info)
mapped words none None = tt
mapped words none (Some x) = none x

tagged : (row : ℕ) (content : Option (List ℕ)) → IsInfo content → AreUnticketed (tag_of row content)
tagged row None is = tt
tagged row (Some content) is = (is, tt)

account_tagged : (c : Containers) (place : Option ℕ) → AreUnticketed (account_tag c place)
account_tagged c None = tt
account_tagged c (Some place) = tagged (33 + place) (option_map account_words (account_info_at c place)) (mapped account_words (λ x. refl) (account_info_at c place))

user_tagged : (c : Containers) (place : Option ℕ) → AreUnticketed (user_tag c place)
user_tagged c None = tt
user_tagged c (Some place) = tagged (65 + place) (option_map name_words (user_info_at c place)) (mapped name_words (λ x. refl) (user_info_at c place))

host_tagged : (c : Containers) (place : Option ℕ) → AreUnticketed (host_tag c place)
host_tagged c None = tt
host_tagged c (Some place) = tagged (97 + place) (option_map name_words (host_info_at c place)) (mapped name_words (λ x. refl) (host_info_at c place))

upper_tagged : (c : Containers) (x : Connection) → AreUnticketed (upper_tags c x)
upper_tagged c x =
    each_join IsUnticketed (account_tag c x.account) (user_tag c x.user ++ host_tag c x.host) (account_tagged c x.account)
    (each_join IsUnticketed (user_tag c x.user) (host_tag c x.host) (user_tagged c x.user) (host_tagged c x.host))

freed : (first count : ℕ) → AreUnticketed (free_rows first count)
unfolding free_rows
freed first count = all_up_to (freed_at first) (λ n. (tt, tt)) count

pub connect_unticketed : (admin : State) (number user host : ℕ) → AreUnticketed (work_of_connect admin number user host).signs
connect_unticketed admin number user host = by (seat_at admin number user host) where
  by : (seat : Option Seated) → AreUnticketed (connect_work admin.words (thread_flags admin user host) (connected admin number user host).kept.now seat).signs
  by None = tt
  by (Some seat) = (refl, upper_tagged (connected admin number user host).kept.now seat.connection)

pub quit_unticketed : (admin : State) (number : ℕ) → AreUnticketed (work_of_quit admin number).signs
quit_unticketed admin number = by (seat_in admin number) where
  by : (seat : Option Seated) → AreUnticketed (quit_work admin.words admin.cells (has_quit admin number).kept.now seat).signs
  by None = tt
  by (Some seat) =
      (tt, each_join IsUnticketed (upper_tags (has_quit admin number).kept.now seat.connection) (free_ring seat.slot) (upper_tagged (has_quit admin number).kept.now seat.connection) (freed (8450 + 56 * seat.slot) 56))

placed : (written there : Bool) (row : ℕ) (content : Option (List ℕ)) → IsInfo content → AreUnticketed (place_sign written there row content)
placed written false row content is = tt
placed written true row None is = (tt, tt)
placed false true row (Some content) is = tt
placed true true row (Some content) is = (is, tt)

found : (after : Containers) (level : Level) (place : ℕ) → IsInfo (content_at after level place)
found after levels.Thread place = mapped (λ x. thread_words (thread_info_of x)) (λ x. refl) (slice_index_or after.places.threads place None)
found after levels.Account place = mapped account_words (λ x. refl) (account_info_at after place)
found after levels.User place = mapped name_words (λ x. refl) (user_info_at after place)
found after levels.Host place = mapped name_words (λ x. refl) (host_info_at after place)

leveled : (written : Bool) (was : ℕ → Bool) (after : Containers) (level : Level) → AreUnticketed (level_signs written was after level)
unfolding level_signs
leveled written was after level =
    all_up_to (sign_at written was after level) (λ place. placed written (was place) (first_row level + place) (content_at after level place) (found after level place)) 32

slots_freed : (there : ℕ → Bool) (first count : ℕ) → AreUnticketed (free_threads there first count)
unfolding free_threads
slots_freed there first count = all_up_to (free_slot there first count) (λ slot. at (there slot) slot) 32 where
  at : (b : Bool) (slot : ℕ) → AreUnticketed (cond b (free_rows (8450 + 56 * slot + first) count) [])
  at true slot = freed (8450 + 56 * slot + first) count
  at false slot = tt

events_freed : (there : ℕ → Bool) (kind : TableKind) (table : EventTable) → AreUnticketed (event_signs there kind table)
events_freed there kind events.Current = slots_freed there (current_first kind) (current_count kind)
events_freed there kind events.History = slots_freed there (16 + 10 * kind_number kind) 10
events_freed there kind events.HistoryLong = freed (10242 + 1000 * kind_number kind) 1000

signs_of_truncation : (was : Level → ℕ → Bool) (after : Containers) (what : Truncation) → AreUnticketed (truncation_signs was after what)
signs_of_truncation was after Accounts = leveled true (was levels.Account) after levels.Account
signs_of_truncation was after Users =
    each_join IsUnticketed (level_signs false (was levels.Account) after levels.Account) (level_signs true (was levels.User) after levels.User) (leveled false (was levels.Account) after levels.Account)
    (leveled true (was levels.User) after levels.User)
signs_of_truncation was after Hosts =
    each_join IsUnticketed (level_signs false (was levels.Account) after levels.Account) (level_signs true (was levels.Host) after levels.Host) (leveled false (was levels.Account) after levels.Account)
    (leveled true (was levels.Host) after levels.Host)
signs_of_truncation was after (Events kind table) = events_freed (is_there after.places levels.Thread) kind table
signs_of_truncation was after (Summary kind table) = tt
signs_of_truncation was after DigestSummary = tt
signs_of_truncation was after SetupActors = tt
signs_of_truncation was after SetupObjects = tt

pub truncation_unticketed : (admin : State) (what : Truncation) → AreUnticketed (work_of_truncation admin what).signs
truncation_unticketed admin what = signs_of_truncation (is_there admin.kept.now.places) (kept_behind admin.kept what).now what
