-- What an action of the fold moves and writes lies below the long history: cells, rows of digests and info rows. None is
-- row 0.
use Rattle.std.proofs.Common.{ℕ, zero, suc, ◌≡◌, ◌+◌, ◌*◌, ◌<◌, ◌≤◌, Bool, true, false, inl, inr, List, [], ◌∷◌, ◌++◌, map, length, Option, Some, None, IfSome, refl, sym, subst, arith}
use Rattle.std.specs.List.{range_with_len, slice_index_or}
use Rattle.std.specs.Option.{option_map}
use Rattle.std.specs.Prelude.{All}
use Rattle.std.proofs.lemmas.List.Elements.{All-head, All-tail}
use Rattle.pfs_admin.proofs.FoldSteps.{fixed_law}
use Rattle.pfs_admin.proofs.KindCells.{kinds_fit}
use Rattle.pfs_admin.specs.AdministrationStates.{KindCells, kind_cells, seat_at, seat_in, thread_flags, connected, has_quit}
use Rattle.pfs_admin.specs.AdministrationStates.{State as Administration}
use Rattle.pfs_admin.specs.ConnectionAsks.{tag_of, account_tag, user_tag, host_tag, upper_tags, up_of, connect_work, quit_work, work_of_connect, work_of_quit}
use Rattle.pfs_admin.specs.Fold.{state_of}
use Rattle.pfs_admin.specs.FoldLaws.{row_of}
use Rattle.pfs_admin.specs.OpeningState.{cells_of as class_cells, kinds_of}
use Rattle.pfs_admin.specs.Truncations.{freed_at, free_rows, free_ring, is_there, kept_behind, work_of_truncation, thread_source, account_source, user_source, host_source, place_asks, asks_at, level_asks, emptied, cleared, lower_asks, upper_asks, reach_of, summary_asks, all_asks, digest_ask, digest_asks, truncation_asks}
use Rattle.pfs_admin.specs.WordChanges.{up_to}
use Rattle.pfs_admin.specs.Works.{Sign, Releases, Tags, Work}
use Rattle.pfs_admin.specs.declared.changes.Change.{Change}
use Rattle.pfs_board.specs.declared.view.Label.{Label}
use Rattle.pfs_classes.specs.declared.setting.Setting.{Setting}
use Rattle.pfs_containers.proofs.PlaceBounds.{session_in_range, account_in_range}
use Rattle.pfs_containers.specs.Administration.{Containers}
use Rattle.pfs_containers.specs.Connections.{State as Places}
use Rattle.pfs_containers.specs.ContainerState.{AreWell, IsInRange, HasPlaces, HasUppers}
use Rattle.pfs_containers.specs.declared.containers.Account.{Account}
use Rattle.pfs_containers.specs.declared.containers.Connection.{Connection}
use Rattle.pfs_containers.specs.declared.containers.Seated.{Seated}
use Rattle.pfs_levels.specs.Flushes.{Ascends, upper, beyond, ask_of, asks_of}
use Rattle.pfs_levels.specs.Moves.{Ask, ask}
use Rattle.pfs_levels.specs.declared.flushes.Source.{Source}
use Rattle.pfs_levels.specs.declared.flushes.Source.TheVariants as of
use Rattle.pfs_levels.specs.declared.places.Level.{Level}
use Rattle.pfs_levels.specs.declared.places.Level.TheVariants as levels
use Rattle.pfs_model.proofs.EachLists.{each_join}
use Rattle.pfs_model.specs.Chains.{Each}
use Rattle.pfs_rows.specs.Rows.{row_number}
use Rattle.pfs_rows.specs.declared.place.Place.TheVariants.{GlobalCell}
use Rattle.pfs_rows.specs.declared.table.SummaryTable.{SummaryTable}
use Rattle.pfs_rows.specs.declared.table.SummaryTable.TheVariants as tables
use Rattle.pfs_rows.specs.declared.table.TableKind.{TableKind}
use Rattle.pfs_rows.specs.declared.table.TableKind.TheVariants.{Waits, Stages, Statements, Transactions}
use Rattle.pfs_rows.specs.declared.truncations.Truncation.{Truncation}
use Rattle.pfs_rows.specs.declared.truncations.Truncation.TheVariants.{Events, Summary, DigestSummary, Accounts, Users, Hosts, SetupActors, SetupObjects}
use Rattle.pfs_law_plain.proofs.ClassCount.{few_classes}
use Rattle.pfs_law_plain.proofs.SessionPlaces.{fold_well, seat_at_in, seat_in_in}
use Rattle.pfs_law_plain.proofs.TruncationRows.{AreInfosOrRings, IsRelease, signs_split}

abbrev pub IsLowRow : ℕ → Type 0
IsLowRow row = (0 < row) × (row < 10242)

abbrev pub IsLowAsk : Ask → Type 0
IsLowAsk a = IsLowRow a.from × Each IsLowRow a.to

abbrev pub IsLowSign : Sign → Type 0
IsLowSign (Releases row) = 0 < row
IsLowSign (Tags row content) = IsLowRow row

abbrev pub IsLowWork : Work → Type 0
IsLowWork work = Each IsLowAsk work.moves × Each IsLowSign work.signs

abbrev IsSmall : ℕ → Type 0
IsSmall cell = cell < 64

abbrev IsIn : Option ℕ → Type 0
IsIn place = IfSome place (λ p. p < 32)

-- what is asked of a source's cells
abbrev IsLowSource : Source → Type 0
IsLowSource (of.Thread up) = (up.place < 32) × IsIn up.account × IsIn up.user × IsIn up.host
IsLowSource (of.Account up) = (up.place < 32) × IsIn up.user × IsIn up.host
IsLowSource (of.User place) = place < 32
IsLowSource (of.Host place) = place < 32

beyond_low : (user host : Option ℕ) (cell : ℕ) → cell < 64 → IsIn user → IsIn host → Each IsLowRow (beyond user host cell)
beyond_low (Some user) (Some host) cell c u h = ((omega arith, omega (arith, c, u)), ((omega arith, omega (arith, c, h)), tt))
beyond_low (Some user) None cell c u h = ((omega arith, omega (arith, c, u)), ((omega arith, omega (arith, c)), tt))
beyond_low None (Some host) cell c u h = ((omega arith, omega (arith, c, h)), tt)
beyond_low None None cell c u h = ((omega arith, omega (arith, c)), tt)

upper_low : (account user host : Option ℕ) (cell : ℕ) → cell < 64 → IsIn account → IsIn user → IsIn host → Each IsLowRow (upper account user host cell)
upper_low (Some account) user host cell c a u h = ((omega arith, omega (arith, c, a)), tt)
upper_low None user host cell c a u h = beyond_low user host cell c u h

ask_low : (source : Source) (cell : ℕ) → IsLowSource source → cell < 64 → IsLowAsk (ask_of source cell)
ask_low (of.Thread up) cell p c = ((omega arith, omega (arith, p.0, c)), upper_low up.account up.user up.host cell c p.1 p.2 p.3)
ask_low (of.Account up) cell p c = ((omega arith, omega (arith, p.0, c)), beyond_low up.user up.host cell c p.1 p.2)
ask_low (of.User place) cell p c = ((omega arith, omega (arith, p, c)), tt)
ask_low (of.Host place) cell p c = ((omega arith, omega (arith, p, c)), ((omega arith, omega (arith, c)), tt))

asks_low : (source : Source) (cells : List ℕ) → IsLowSource source → Each IsSmall cells → Each IsLowAsk (asks_of cells source)
asks_low source [] p small = tt
asks_low source (cell ∷ cells) p small = (ask_low source cell p small.0, asks_low source cells p small.1)

-- at each level
at_low : (s : Places) (cells : List ℕ) (level : Level) (place : ℕ) → AreWell s → Each IsSmall cells → place < 32 → Each IsLowAsk (asks_at s cells level place)
at_low s cells levels.Thread place well small low = on (slice_index_or s.threads place None) refl where
  on : (o : Option Connection) → slice_index_or s.threads place None ≡ o → Each IsLowAsk (place_asks cells (option_map (thread_source place) o))
  on None e = tt
  on (Some x) e = (let r : HasPlaces 32 32 32 x = session_in_range s place x well e in asks_low (thread_source place x) cells (low, r.account, r.user, r.host) small)
at_low s cells levels.Account place well small low = on (slice_index_or s.accounts place None) refl where
  on : (o : Option Account) → slice_index_or s.accounts place None ≡ o → Each IsLowAsk (place_asks cells (option_map (account_source place) o))
  on None e = tt
  on (Some x) e = (let r : HasUppers 32 32 x = account_in_range s place x well e in asks_low (account_source place x) cells (low, r.user, r.host) small)
at_low s cells levels.User place well small low = on (slice_index_or s.users place None) where
  on : (o : Option ℕ) → Each IsLowAsk (place_asks cells (option_map (user_source place) o))
  on None = tt
  on (Some x) = asks_low (user_source place x) cells low small
at_low s cells levels.Host place well small low = on (slice_index_or s.hosts place None) where
  on : (o : Option ℕ) → Each IsLowAsk (place_asks cells (option_map (host_source place) o))
  on None = tt
  on (Some x) = asks_low (host_source place x) cells low small

up_low : (f : ℕ → List Ask) (n : ℕ) → n ≤ 32 → ((place : ℕ) → place < 32 → Each IsLowAsk (f place)) → Each IsLowAsk (up_to f n)
up_low f zero few each = tt
up_low f (suc n) few each = each_join IsLowAsk (up_to f n) (f n) (up_low f n (omega (arith, few)) each) (each n (omega (arith, few)))

level_low : (s : Places) (cells : List ℕ) (level : Level) → AreWell s → Each IsSmall cells → Each IsLowAsk (level_asks s cells level)
unfolding level_asks
level_low s cells level well small = up_low (asks_at s cells level) 32 (omega arith) (λ place low. at_low s cells level place well small low)

emptied_low : (b : Bool) (s : Places) (cells : List ℕ) (level : Level) → AreWell s → Each IsSmall cells → Each IsLowAsk (emptied b s cells level)
emptied_low false s cells level well small = tt
emptied_low true s cells level well small = level_low s cells level well small

globals_low : (cells : List ℕ) → Each IsSmall cells → Each IsLowAsk (map (λ cell. ask (row_number (GlobalCell cell)) []) cells)
globals_low [] small = tt
globals_low (cell ∷ cells) small = (((omega arith, omega (arith, small.0)), tt), globals_low cells small.1)

cleared_low : (b : Bool) (cells : List ℕ) → Each IsSmall cells → Each IsLowAsk (cleared b cells)
cleared_low false cells small = tt
cleared_low true cells small = globals_low cells small

summary_low : (s : Places) (table : SummaryTable) (cells : List ℕ) → AreWell s → Each IsSmall cells → Each IsLowAsk (summary_asks s table cells)
summary_low s table cells well small =
    each_join IsLowAsk (lower_asks s (reach_of table) cells) (upper_asks s (reach_of table) cells)
    (each_join IsLowAsk (level_asks s cells levels.Thread) (emptied (reach_of table).accounts s cells levels.Account) (level_low s cells levels.Thread well small) (emptied_low (reach_of table).accounts s cells levels.Account well small))
    (each_join IsLowAsk (emptied (reach_of table).users s cells levels.User) (emptied (reach_of table).hosts s cells levels.Host ++ cleared (reach_of table).global cells) (emptied_low (reach_of table).users s cells levels.User well small)
    (each_join IsLowAsk (emptied (reach_of table).hosts s cells levels.Host) (cleared (reach_of table).global cells) (emptied_low (reach_of table).hosts s cells levels.Host well small) (cleared_low (reach_of table).global cells small)))

module _ (kinds : KindCells) (s : Places) (well : AreWell s) (small : (kind : TableKind) → Each IsSmall (kind_cells kinds kind)) (few : kinds.digests ≤ 64) where
  all_low : (table : SummaryTable) → Each IsLowAsk (all_asks kinds s table)
  all_low table =
      each_join IsLowAsk (summary_asks s table kinds.waits) _ (summary_low s table kinds.waits well (small Waits))
      (each_join IsLowAsk (summary_asks s table kinds.stages) _ (summary_low s table kinds.stages well (small Stages))
      (each_join IsLowAsk (summary_asks s table kinds.statements) (summary_asks s table kinds.transactions) (summary_low s table kinds.statements well (small Statements)) (summary_low s table kinds.transactions well (small Transactions))))

  digests_up : (n : ℕ) → n ≤ 65 → Each IsLowAsk (up_to digest_ask n)
  digests_up zero low = tt
  digests_up (suc n) low = each_join IsLowAsk (up_to digest_ask n) (digest_ask n) (digests_up n (omega (arith, low))) (((omega arith, omega (arith, low)), tt), tt)

  digests_low : Each IsLowAsk (digest_asks kinds.digests)
  unfolding digest_asks
  digests_low = digests_up (kinds.digests + 1) (omega (arith, few))

  asked_low : (what : Truncation) → Each IsLowAsk (truncation_asks kinds s what)
  asked_low (Summary kind table) = summary_low s table (kind_cells kinds kind) well (small kind)
  asked_low (Events kind table) = tt
  asked_low Accounts = all_low tables.ByAccount
  asked_low Users = all_low tables.ByUser
  asked_low Hosts = all_low tables.ByHost
  asked_low DigestSummary = digests_low
  asked_low SetupActors = tt
  asked_low SetupObjects = tt

-- info rows
tag_low : (row : ℕ) (content : Option (List ℕ)) → IsLowRow row → Each IsLowSign (tag_of row content)
tag_low row None low = tt
tag_low row (Some content) low = (low, tt)

account_low : (c : Containers) (place : Option ℕ) → IsIn place → Each IsLowSign (account_tag c place)
account_low c None low = tt
account_low c (Some place) low = tag_low (33 + place) _ (omega arith, omega (arith, low))

user_low : (c : Containers) (place : Option ℕ) → IsIn place → Each IsLowSign (user_tag c place)
user_low c None low = tt
user_low c (Some place) low = tag_low (65 + place) _ (omega arith, omega (arith, low))

host_low : (c : Containers) (place : Option ℕ) → IsIn place → Each IsLowSign (host_tag c place)
host_low c None low = tt
host_low c (Some place) low = tag_low (97 + place) _ (omega arith, omega (arith, low))

uppers_low : (c : Containers) (seat : Seated) → IsInRange seat → Each IsLowSign (upper_tags c seat.connection)
uppers_low c seat r =
    each_join IsLowSign (account_tag c seat.connection.account) _ (account_low c seat.connection.account r.places.account)
    (each_join IsLowSign (user_tag c seat.connection.user) _ (user_low c seat.connection.user r.places.user) (host_low c seat.connection.host r.places.host))

freed_low : (first count : ℕ) → 0 < first → Each IsLowSign (free_rows first count)
unfolding free_rows
freed_low first count up = all_up count where
  all_up : (n : ℕ) → Each IsLowSign (up_to (freed_at first) n)
  all_up zero = tt
  all_up (suc n) = each_join IsLowSign (up_to (freed_at first) n) (freed_at first n) (all_up n) (omega (arith, up), tt)

ascending_low : (low : ℕ) (signs : List Sign) → 0 < low → Ascends low 129 (map row_of signs) → Each IsLowSign signs
ascending_low low [] up a = tt
ascending_low low (Releases row ∷ signs) up a = (omega (arith, up, a.0), ascending_low (row + 1) signs (omega arith) a.1.1)
ascending_low low (Tags row content ∷ signs) up a = ((omega (arith, up, a.0), omega (arith, a.1.0)), ascending_low (row + 1) signs (omega arith) a.1.1)

rings_low : (low : ℕ) (signs : List Sign) → 0 < low → Ascends low 14242 (map row_of signs) → Each IsRelease signs → Each IsLowSign signs
rings_low low [] up a r = tt
rings_low low (Releases row ∷ signs) up a r = (omega (arith, up, a.0), rings_low (row + 1) signs (omega arith) a.1.1 r.1)
rings_low low (Tags row content ∷ signs) up a r = absurd r.0

split_low : (signs : List Sign) → AreInfosOrRings signs → Each IsLowSign signs
split_low signs (inl a) = ascending_low 1 signs (omega arith) a
split_low signs (inr a) = rings_low 8450 signs (omega arith) a.0 a.1

-- the works
pub connect_low : (s : Administration) (number user host : ℕ) → AreWell s.kept.now.places → IsLowWork (work_of_connect s number user host) × IfSome (seat_at s number user host) IsInRange
connect_low s number user host well = (on (seat_at s number user host) seated, seated) where
  seated : IfSome (seat_at s number user host) IsInRange
  seated = seat_at_in s.kept.now number user host well

  on : (o : Option Seated) → IfSome o IsInRange → IsLowWork (connect_work s.words (thread_flags s user host) (connected s number user host).kept.now o)
  on None r = (tt, tt)
  on (Some seat) r = (tt, ((omega arith, (let low : seat.slot < 32 = r.slot in omega (arith, low))), uppers_low (connected s number user host).kept.now seat r))

module _ (setting : Setting) (s : Administration) (well : AreWell s.kept.now.places) (cells : s.cells ≡ class_cells setting.classes) (kinds : s.kinds ≡ kinds_of setting) where
  small_range : (cell more : ℕ) → cell + more ≤ 62 → Each IsSmall (range_with_len cell more ++ 62 ∷ 63 ∷ [])
  small_range cell zero few = (omega arith, (omega arith, tt))
  small_range cell (suc more) few = (omega (arith, few), small_range (cell + 1) more (omega (arith, few)))

  small_cells : Each IsSmall (class_cells setting.classes)
  small_cells = small_range 0 (length setting.classes.classes) (omega (arith, few_classes setting))

  each_small : (xs : List ℕ) → All (λ cell. cell < 64) xs → Each IsSmall xs
  each_small [] all = tt
  each_small (x ∷ xs) all = (All-head (λ c. c < 64) x xs all, each_small xs (All-tail (λ c. c < 64) x xs all))

  pub quit_low : (number : ℕ) → IsLowWork (work_of_quit s number)
  quit_low number = on (seat_in s number) (seat_in_in s.kept.now number well) where
    on : (o : Option Seated) → IfSome o IsInRange → IsLowWork (quit_work s.words s.cells (has_quit s number).kept.now o)
    on None r = (tt, tt)
    on (Some seat) r = (
      asks_low (of.Thread (up_of seat)) s.cells (r.slot, r.places.account, r.places.user, r.places.host) (subst (Each IsSmall) (sym cells) small_cells),
      (omega arith, each_join IsLowSign (upper_tags (has_quit s number).kept.now seat.connection) (free_ring seat.slot) (uppers_low (has_quit s number).kept.now seat r) (freed_low (8450 + 56 * seat.slot) 56 (omega arith))),
    )

  pub truncation_low : (what : Truncation) → IsLowWork (work_of_truncation s what)
  truncation_low what = (
    subst (λ z. Each IsLowAsk (truncation_asks z s.kept.now.places what)) (sym kinds)
        (asked_low (kinds_of setting) s.kept.now.places well (λ kind. each_small (kind_cells (kinds_of setting) kind) ((kinds_fit setting).small kind)) (kinds_fit setting).digests_few what),
    split_low (work_of_truncation s what).signs (signs_split (is_there s.kept.now.places) (kept_behind s.kept what).now what),
  )

-- in each state of the fold
pub record IsOfFold (setting : Setting) (s : Administration) : Type 0 where
  pub well : AreWell s.kept.now.places
  pub cells : s.cells ≡ class_cells setting.classes
  pub kinds : s.kinds ≡ kinds_of setting

pub of_fold : (setting : Setting) (change : Label → Change) (labels : List Label) (s : Administration) → s ≡ state_of setting change labels → IsOfFold setting s
of_fold setting change labels s e =
    let fixed = fixed_law setting change labels s e in
    record { well = subst (λ (z : Administration). AreWell z.kept.now.places) (sym e) (fold_well setting change labels); cells = fixed.1; kinds = fixed.2 }
