-- What the info rows that a summary reads say of who is connected.
use Rattle.std.proofs.Common.{◌≡◌, ℕ, ◌+◌, ◌<◌, ◌&&◌, true, cond, List, Option, Some, None, refl, ap, ◌∙◌, arith}
use Rattle.std.specs.Prelude.{is_some}
use Rattle.std.specs.Option.{option_map}
use Rattle.std.proofs.lemmas.List.FromFn.{get_or-map-range_with_len}
use Rattle.pfs_containers.specs.Administration.{Containers}
use Rattle.pfs_containers.specs.Connections.{entry_at}
use Rattle.pfs_containers.specs.PlaceInfos.{thread_info_of, account_info_of, user_info_of, host_info_of}
use Rattle.pfs_containers.specs.InfoWords.{thread_words, thread_of, account_words, account_of, name_words, name_of}
use Rattle.pfs_containers.specs.declared.infos.AccountInfo.{AccountInfo}
use Rattle.pfs_containers.specs.declared.infos.NameInfo.{NameInfo}
use Rattle.pfs_containers.specs.declared.infos.ThreadInfo.{ThreadInfo}
use Rattle.pfs_readsets.specs.TablePlaces.{Scope, has_cell, reads, has_accounts, has_users, has_hosts}
use Rattle.pfs_readsets.specs.ReadSets.{found_whole, is_whole, on_place, row_test}
use Rattle.pfs_rows.specs.Rows.{IsPlace, row_number, place_at}
use Rattle.pfs_rows.specs.declared.place.Place.{Place}
use Rattle.pfs_rows.specs.declared.place.Place.TheVariants.{ThreadInfo as ThreadRow, AccountInfo as AccountRow, UserInfo as UserRow, HostInfo as HostRow}
use Rattle.pfs_rows.specs.declared.table.Reading.{Reading}
use Rattle.pfs_rows.specs.declared.table.Seen.{Seen}
use Rattle.pfs_rows.specs.declared.table.Seen.TheVariants.{Whole, Free, Busy}
use Rattle.pfs_rows.specs.declared.table.SummaryTable.{SummaryTable}
use Rattle.pfs_rows.specs.declared.table.Table.TheVariants.{Summary}
use Rattle.pfs_rows.specs.declared.table.TableKind.{TableKind}
use Rattle.pfs_summaries.specs.FoundContents.{whole_of, content_at, infos_of, info_at, thread_at, account_at, user_at, host_at}
use Rattle.pfs_law_summaries.proofs.TableReadings.{IsShown, whole_at, content_is}

-- an info's words give the info back
pub record AreBack : Type 0 where
  pub threads : (info : ThreadInfo) → thread_of (thread_words info) ≡ info
  pub accounts : (info : AccountInfo) → account_of (account_words info) ≡ info
  pub names : (info : NameInfo) → name_of (name_words info) ≡ info

-- rows and places go both ways
pub record ArePlaces : Type 0 where
  pub back : (p : Place) → IsPlace p → place_at (row_number p) ≡ Some p
  pub found : (row : ℕ) → row < 14242 → (p : Place) × IsPlace p × (row_number p ≡ row)

-- each info row holds what is said of its place, and stands where something is there
pub record AreTold (seen : ℕ → Seen) (c : Containers) : Type 0 where
  pub threads : (t : ℕ) → t < 32 → whole_of (seen (1 + t)) ≡ option_map (λ x. thread_words (thread_info_of x)) (entry_at c.places.threads t)
  pub accounts : (a : ℕ) → a < 32 → whole_of (seen (33 + a)) ≡ option_map (λ e. account_words (account_info_of c a e)) (entry_at c.places.accounts a)
  pub users : (u : ℕ) → u < 32 → whole_of (seen (65 + u)) ≡ option_map (λ n. name_words (user_info_of c u n)) (entry_at c.places.users u)
  pub hosts : (h : ℕ) → h < 32 → whole_of (seen (97 + h)) ≡ option_map (λ n. name_words (host_info_of c h n)) (entry_at c.places.hosts h)

whole_some : (s : Seen) → found_whole s ≡ is_some (whole_of s)
whole_some (Whole version content) = refl
whole_some (Free word) = refl
whole_some (Busy first second) = refl

some_map : {X Y : Type 0} (f : X → Y) (o : Option X) → is_some (option_map f o) ≡ is_some o
some_map f None = refl
some_map f (Some x) = refl

map_back : {X Y Z : Type 0} (f : X → Y) (g : Y → Z) (h : X → Z) (o : Option X) → ((x : X) → g (f x) ≡ h x) → option_map g (option_map f o) ≡ option_map h o
map_back f g h None same = refl
map_back {Z} f g h (Some x) same = ap (λ (z : Z). Some z) (same x)

module _ (back : AreBack) (places : ArePlaces) (seen : ℕ → Seen) (versions flags : ℕ → ℕ) (scope : Scope) (kind : TableKind) (which : SummaryTable) (found : List Reading)
    (is : IsShown seen versions flags scope (Summary kind which) found) (c : Containers) (told : AreTold seen c) where
  reads_place : (p : Place) → IsPlace p → row_test scope (Summary kind which) found (row_number p) ≡ reads (Summary kind which) (has_cell scope (Summary kind which)) scope.digests (is_whole found) p
  reads_place p low = ap (on_place (reads (Summary kind which) (has_cell scope (Summary kind which)) scope.digests (is_whole found))) (places.back p low)

  info_is : (row : ℕ) → row < 129 → row_test scope (Summary kind which) found row ≡ true → info_at (infos_of found) row ≡ whole_of (seen row)
  info_is row low read =
      get_or-map-range_with_len (content_at found) 0 129 row row None low (omega arith)
      ∙ (content_is seen versions flags scope (Summary kind which) found is row (omega (arith, low)) ∙ ap (λ b. cond b (whole_of (seen row)) None) read)

  stands_is : {X : Type 0} (row : ℕ) (words : X → List ℕ) (o : Option X) → row < 129 → row_test scope (Summary kind which) found row ≡ true → whole_of (seen row) ≡ option_map words o → is_whole found row ≡ is_some o
  stands_is row words o low read e =
      whole_at seen versions flags scope (Summary kind which) found is row (omega (arith, low))
      ∙ (ap (λ b. b && found_whole (seen row)) read ∙ (whole_some (seen row) ∙ (ap is_some e ∙ some_map words o)))

  -- threads
  read_thread : (t : ℕ) → t < 32 → row_test scope (Summary kind which) found (1 + t) ≡ true
  read_thread t low = reads_place (ThreadRow t) low

  pub thread_stands : (t : ℕ) → t < 32 → is_whole found (1 + t) ≡ is_some (entry_at c.places.threads t)
  thread_stands t low = stands_is (1 + t) (λ x. thread_words (thread_info_of x)) (entry_at c.places.threads t) (omega (arith, low)) (read_thread t low) (told.threads t low)

  pub thread_is : (t : ℕ) → t < 32 → thread_at (infos_of found) t ≡ option_map thread_info_of (entry_at c.places.threads t)
  thread_is t low =
      ap (option_map thread_of) (info_is (1 + t) (omega (arith, low)) (read_thread t low) ∙ told.threads t low)
      ∙ map_back (λ x. thread_words (thread_info_of x)) thread_of thread_info_of (entry_at c.places.threads t) (λ x. back.threads (thread_info_of x))

  -- accounts
  pub account_stands : has_accounts (Summary kind which) ≡ true → (a : ℕ) → a < 32 → is_whole found (33 + a) ≡ is_some (entry_at c.places.accounts a)
  account_stands has a low =
      stands_is (33 + a) (λ e. account_words (account_info_of c a e)) (entry_at c.places.accounts a) (omega (arith, low)) (reads_place (AccountRow a) low ∙ has) (told.accounts a low)

  pub account_is : has_accounts (Summary kind which) ≡ true → (a : ℕ) → a < 32 → account_at (infos_of found) a ≡ option_map (account_info_of c a) (entry_at c.places.accounts a)
  account_is has a low =
      ap (option_map account_of) (info_is (33 + a) (omega (arith, low)) (reads_place (AccountRow a) low ∙ has) ∙ told.accounts a low)
      ∙ map_back (λ e. account_words (account_info_of c a e)) account_of (account_info_of c a) (entry_at c.places.accounts a) (λ e. back.accounts (account_info_of c a e))

  -- users
  pub user_stands : has_users (Summary kind which) ≡ true → (u : ℕ) → u < 32 → is_whole found (65 + u) ≡ is_some (entry_at c.places.users u)
  user_stands has u low =
      stands_is (65 + u) (λ n. name_words (user_info_of c u n)) (entry_at c.places.users u) (omega (arith, low)) (reads_place (UserRow u) low ∙ has) (told.users u low)

  pub user_is : has_users (Summary kind which) ≡ true → (u : ℕ) → u < 32 → user_at (infos_of found) u ≡ option_map (user_info_of c u) (entry_at c.places.users u)
  user_is has u low =
      ap (option_map name_of) (info_is (65 + u) (omega (arith, low)) (reads_place (UserRow u) low ∙ has) ∙ told.users u low)
      ∙ map_back (λ n. name_words (user_info_of c u n)) name_of (user_info_of c u) (entry_at c.places.users u) (λ n. back.names (user_info_of c u n))

  -- hosts
  pub host_stands : has_hosts (Summary kind which) ≡ true → (h : ℕ) → h < 32 → is_whole found (97 + h) ≡ is_some (entry_at c.places.hosts h)
  host_stands has h low =
      stands_is (97 + h) (λ n. name_words (host_info_of c h n)) (entry_at c.places.hosts h) (omega (arith, low)) (reads_place (HostRow h) low ∙ has) (told.hosts h low)

  pub host_is : has_hosts (Summary kind which) ≡ true → (h : ℕ) → h < 32 → host_at (infos_of found) h ≡ option_map (host_info_of c h) (entry_at c.places.hosts h)
  host_is has h low =
      ap (option_map name_of) (info_is (97 + h) (omega (arith, low)) (reads_place (HostRow h) low ∙ has) ∙ told.hosts h low)
      ∙ map_back (λ n. name_words (host_info_of c h n)) name_of (host_info_of c h) (entry_at c.places.hosts h) (λ n. back.names (host_info_of c h n))
