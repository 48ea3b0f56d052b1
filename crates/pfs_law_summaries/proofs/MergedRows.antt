-- The rows that a place's row of a summary merges are those that its key shows.
use Rattle.std.proofs.Common.{◌≡◌, ℕ, zero, suc, ◌+◌, ◌*◌, ◌<◌, ◌==◌, ◌&&◌, Bool, true, false, cond, List, [], ◌∷◌, ◌++◌, Option, Some, None, refl, sym, ap, ◌∙◌, arith, eq-eqb, ne_eqb}
use Rattle.std.specs.Prelude.{is_some, option_and_then}
use Rattle.std.specs.Option.{option_map}
use Rattle.std.proofs.lemmas.Bool.{eqb-true}
use Rattle.pfs_lemmas.proofs.Numbers.{zero_plus}
use Rattle.pfs_lemmas.proofs.Bools.{and_false}
use Rattle.pfs_conservation.proofs.Connects.{Sound}
use Rattle.pfs_conservation.proofs.NameKeys.{user_same, host_same, account_same}
use Rattle.pfs_conservation.specs.PlaceFolds.{CellRows}
use Rattle.pfs_conservation.specs.PlaceRows.{AreApart}
use Rattle.pfs_conservation.specs.KindSummaries.{Key, KeyThread, KeyAccount, KeyUser, KeyHost, KeyAll, passes, listed_from, shown_cell}
use Rattle.pfs_containers.specs.Administration.{Containers}
use Rattle.pfs_containers.specs.Connections.{State, entry_at, is_from}
use Rattle.pfs_containers.specs.PlaceInfos.{thread_info_of, account_info_of}
use Rattle.pfs_containers.specs.ContainerState.{AreWell}
use Rattle.pfs_containers.specs.declared.containers.Account.{Account}
use Rattle.pfs_containers.specs.declared.containers.Connection.{Connection}
use Rattle.pfs_containers.specs.declared.infos.AccountInfo.{AccountInfo}
use Rattle.pfs_containers.specs.declared.infos.ThreadInfo.{ThreadInfo}
use Rattle.pfs_readsets.specs.TablePlaces.{Scope, has_accounts, has_cell}
use Rattle.pfs_readsets.specs.ReadSets.{is_whole}
use Rattle.pfs_rows.specs.declared.place.Place.TheVariants.{ThreadCell, AccountCell}
use Rattle.pfs_rows.specs.declared.table.Reading.{Reading}
use Rattle.pfs_rows.specs.declared.table.Seen.{Seen}
use Rattle.pfs_rows.specs.declared.table.SummaryTable.{SummaryTable}
use Rattle.pfs_rows.specs.declared.table.SummaryTable.TheVariants.{ByThread, ByAccount, ByUser, ByHost, Global}
use Rattle.pfs_rows.specs.declared.table.Table.TheVariants.{Summary}
use Rattle.pfs_rows.specs.declared.table.TableKind.{TableKind}
use Rattle.pfs_summaries.specs.Cells.{key_of, is_number}
use Rattle.pfs_summaries.specs.FoundContents.{infos_of, thread_at, account_at}
use Rattle.pfs_summaries.specs.Heads.{places_of}
use Rattle.pfs_law_summaries.specs.SummaryKeys.{is_key_of}
use Rattle.pfs_law_summaries.proofs.SkippedRows.{picked, picked_nothing, picked_listed, picked_only}
use Rattle.pfs_law_summaries.proofs.TableReadings.{IsShown}
use Rattle.pfs_law_summaries.proofs.CellTallies.{wanted_thread, wanted_account, wanted_user, wanted_host, wanted_global, key_rows}
use Rattle.pfs_law_summaries.proofs.InfoReadings.{AreBack, ArePlaces, AreTold, thread_stands, thread_is, account_stands, account_is, user_stands, host_stands}

-- whose rows stand at a place: of the session, account, user or host that is there
abbrev pub key_at : SummaryTable → State → ℕ → Option Key
key_at ByThread s place = option_map (λ (x : Connection). KeyThread x.number place) (entry_at s.threads place)
key_at ByAccount s place = option_map (λ (e : Account). KeyAccount e.user_name e.host_name) (entry_at s.accounts place)
key_at ByUser s place = option_map KeyUser (entry_at s.users place)
key_at ByHost s place = option_map KeyHost (entry_at s.hosts place)
key_at Global s place = Some KeyAll

-- the rows of a cell
abbrev pub rows_at : ℕ → CellRows
rows_at cell = record {
  thread = λ t. 129 + 64 * t + cell;
  account = λ a. 2177 + 64 * a + cell;
  user = λ u. 4225 + 64 * u + cell;
  host = λ h. 6273 + 64 * h + cell;
  global = 8321 + cell;
}

-- no session stands at two slots
abbrev pub AreAlone : State → Type 0
AreAlone s = (t u : ℕ) (x y : Connection) → entry_at s.threads t ≡ Some x → entry_at s.threads u ≡ Some y → x.number ≡ y.number → t ≡ u

joined : (t a u h g p b v k l : List ℕ) → t ≡ p → a ≡ b → u ≡ v → h ≡ k → g ≡ l → t ++ (a ++ (u ++ (h ++ g))) ≡ p ++ (b ++ (v ++ (k ++ l)))
joined t a u h g p b v k l q r s w z = cc

number_from : (key : ℕ) (o : Option ℕ) → is_number key o ≡ is_from key o
number_from key None = refl
number_from key (Some other) = refl

-- what stands at a place, and a test of it
stands_and : {X : Type 0} (o : Option X) (b : Bool) (f : X → Bool) → ((x : X) → o ≡ Some x → b ≡ f x) → (is_some o && b) ≡ passes f o
stands_and None b f h = refl
stands_and (Some x) b f h = h x refl

module _ (back : AreBack) (places : ArePlaces) (seen : ℕ → Seen) (versions flags : ℕ → ℕ) (scope : Scope) (kind : TableKind) (which : SummaryTable) (found : List Reading)
    (is : IsShown seen versions flags scope (Summary kind which) found) (c : Containers) (told : AreTold seen c) (well : AreWell c.places) (cell : ℕ) (low : cell < 64)
    (is_cell : has_cell scope (Summary kind which) cell ≡ true) where
  abbrev infos : List (Option (List ℕ))
  infos = infos_of found

  abbrev threads : List (Option Connection)
  threads = c.places.threads

  abbrev rows : CellRows
  rows = rows_at cell

  whole_thread : (t : ℕ) → t < 32 → is_whole found (1 + t) ≡ is_some (entry_at threads t)
  whole_thread = thread_stands back places seen versions flags scope kind which found is c told

  thread_there : (t : ℕ) → t < 32 → thread_at infos t ≡ option_map thread_info_of (entry_at threads t)
  thread_there = thread_is back places seen versions flags scope kind which found is c told

  -- threads are listed by a test of what stands there
  threads_listed : (key : ℕ) (f : Connection → Bool) → ((t : ℕ) → t < 32 → (x : Connection) → entry_at threads t ≡ Some x → is_number key (key_of which infos (ThreadCell t cell)) ≡ f x)
      → picked (wanted_thread places seen versions flags scope kind which found is cell low is_cell key) rows.thread 0 32 ≡ listed_from f rows.thread 0 threads
  threads_listed key f same =
      picked_listed f (wanted_thread places seen versions flags scope kind which found is cell low is_cell key) rows.thread 0 32 threads well.threads_few
      (λ i l. ap (wanted_thread places seen versions flags scope kind which found is cell low is_cell key) (zero_plus i)
      ∙ (ap (λ b. b && is_number key (key_of which infos (ThreadCell i cell))) (whole_thread i l)
      ∙ stands_and (entry_at threads i) (is_number key (key_of which infos (ThreadCell i cell))) f (same i l)))

  -- accounts, where they are read
  accounts_listed : (key : ℕ) (f : Account → Bool) → (has : has_accounts (Summary kind which) ≡ true)
      → ((a : ℕ) → a < 32 → (e : Account) → entry_at c.places.accounts a ≡ Some e → is_number key (key_of which infos (AccountCell a cell)) ≡ f e)
      → picked (wanted_account places seen versions flags scope kind which found is cell low is_cell key) rows.account 0 32 ≡ listed_from f rows.account 0 c.places.accounts
  accounts_listed key f has same =
      picked_listed f (wanted_account places seen versions flags scope kind which found is cell low is_cell key) rows.account 0 32 c.places.accounts well.accounts_few
      (λ i l. ap (wanted_account places seen versions flags scope kind which found is cell low is_cell key) (zero_plus i)
      ∙ (ap (λ b. b && (is_whole found (33 + i) && is_number key (key_of which infos (AccountCell i cell)))) has
      ∙ (ap (λ b. b && is_number key (key_of which infos (AccountCell i cell))) (account_stands back places seen versions flags scope kind which found is c told has i l)
      ∙ stands_and (entry_at c.places.accounts i) (is_number key (key_of which infos (AccountCell i cell))) f (same i l))))

  account_there : has_accounts (Summary kind which) ≡ true → (a : ℕ) → a < 32 → account_at infos a ≡ option_map (account_info_of c a) (entry_at c.places.accounts a)
  account_there = account_is back places seen versions flags scope kind which found is c told

-- a place alone: it stands, and no other has its number
only_here : (key i : ℕ) (w : Bool) → (i ≡ key → ⊥) → (w && (i == key)) ≡ false
only_here key i w n = ap (λ b. w && b) (ne_eqb i key n) ∙ and_false w

here : {X : Type 0} (key : ℕ) (w : Bool) (o : Option X) (x : X) → w ≡ is_some o → o ≡ Some x → (w && (key == key)) ≡ true
here key w o x q e = ap (λ b. b && (key == key)) (q ∙ ap is_some e) ∙ eq-eqb key key refl

module _ (back : AreBack) (places : ArePlaces) (seen : ℕ → Seen) (versions flags : ℕ → ℕ) (scope : Scope) (kind : TableKind) (found : List Reading) (c : Containers) (told : AreTold seen c)
    (well : AreWell c.places) (sound : Sound c.places) (apart : AreApart c.places) (alone : AreAlone c.places) (cell : ℕ) (low : cell < 64) where
  by_thread : (is : IsShown seen versions flags scope (Summary kind ByThread) found) (is_cell : has_cell scope (Summary kind ByThread) cell ≡ true) (place : ℕ) (x : Connection) → entry_at c.places.threads place ≡ Some x
      → key_rows places seen versions flags scope kind ByThread found is cell low is_cell place ≡ shown_cell (KeyThread x.number place) (rows_at cell) c.places
  by_thread is is_cell place x e =
      joined (picked (wanted_thread places seen versions flags scope kind ByThread found is cell low is_cell place) (rows_at cell).thread 0 32)
      (picked (wanted_account places seen versions flags scope kind ByThread found is cell low is_cell place) (rows_at cell).account 0 32)
      (picked (wanted_user places seen versions flags scope kind ByThread found is cell low is_cell place) (rows_at cell).user 0 32)
      (picked (wanted_host places seen versions flags scope kind ByThread found is cell low is_cell place) (rows_at cell).host 0 32)
      (cond (wanted_global places seen versions flags scope kind ByThread found is cell low is_cell place) ((8321 + cell) ∷ []) [])
      (listed_from (λ (y : Connection). y.number == x.number) (rows_at cell).thread 0 c.places.threads) [] [] [] []
      (threads_listed back places seen versions flags scope kind ByThread found is c told well cell low is_cell place (λ (y : Connection). y.number == x.number) (λ t l y f. same t y f (t == place) (y.number == x.number) refl refl))
      (picked_nothing (wanted_account places seen versions flags scope kind ByThread found is cell low is_cell place) (rows_at cell).account 0 32 (λ i l. refl))
      (picked_nothing (wanted_user places seen versions flags scope kind ByThread found is cell low is_cell place) (rows_at cell).user 0 32 (λ i l. refl))
      (picked_nothing (wanted_host places seen versions flags scope kind ByThread found is cell low is_cell place) (rows_at cell).host 0 32 (λ i l. refl)) refl
    where
      some_is : (a b : Connection) → ◌≡◌ {A = Option Connection} (Some a) (Some b) → a ≡ b
      some_is a b h = cc

      same : (t : ℕ) (y : Connection) → entry_at c.places.threads t ≡ Some y → (a b : Bool) → (t == place) ≡ a → (y.number == x.number) ≡ b → (t == place) ≡ (y.number == x.number)
      same t y f true true p q = p ∙ sym q
      same t y f false false p q = p ∙ sym q
      same t y f true false p q =
          let w : x ≡ y = some_is x y (sym e ∙ (ap (entry_at c.places.threads) (sym (eqb-true t place p)) ∙ f)) in
          absurd (let z : true ≡ false = sym (eq-eqb y.number x.number (ap (λ (k : Connection). k.number) (sym w))) ∙ q in cc)
      same t y f false true p q = absurd (let z : true ≡ false = sym (eq-eqb t place (alone t place y x f e (eqb-true y.number x.number q))) ∙ p in cc)

  by_account : (is : IsShown seen versions flags scope (Summary kind ByAccount) found) (is_cell : has_cell scope (Summary kind ByAccount) cell ≡ true) (place : ℕ) → place < 32 → (e : Account) → entry_at c.places.accounts place ≡ Some e
      → key_rows places seen versions flags scope kind ByAccount found is cell low is_cell place ≡ shown_cell (KeyAccount e.user_name e.host_name) (rows_at cell) c.places
  by_account is is_cell place l e at =
      joined (picked (wanted_thread places seen versions flags scope kind ByAccount found is cell low is_cell place) (rows_at cell).thread 0 32)
      (picked (wanted_account places seen versions flags scope kind ByAccount found is cell low is_cell place) (rows_at cell).account 0 32)
      (picked (wanted_user places seen versions flags scope kind ByAccount found is cell low is_cell place) (rows_at cell).user 0 32)
      (picked (wanted_host places seen versions flags scope kind ByAccount found is cell low is_cell place) (rows_at cell).host 0 32)
      (cond (wanted_global places seen versions flags scope kind ByAccount found is cell low is_cell place) ((8321 + cell) ∷ []) [])
      (listed_from (λ (x : Connection). is_from place x.account) (rows_at cell).thread 0 c.places.threads) ((rows_at cell).account place ∷ []) [] [] []
      (threads_listed back places seen versions flags scope kind ByAccount found is c told well cell low is_cell place (λ (x : Connection). is_from place x.account)
      (λ t b x f. ap (λ (o : Option ThreadInfo). is_number place (option_and_then (λ info. info.account) o)) (thread_there back places seen versions flags scope kind ByAccount found is c told well cell low is_cell t b ∙ ap (option_map thread_info_of) f) ∙ number_from place x.account))
      (picked_only (wanted_account places seen versions flags scope kind ByAccount found is cell low is_cell place) (rows_at cell).account place 0 32 (omega arith) (omega (arith, l))
      (here place (is_whole found (33 + place)) (entry_at c.places.accounts place) e (account_stands back places seen versions flags scope kind ByAccount found is c told refl place l) at)
      (λ i n. only_here place i (is_whole found (33 + i)) n))
      (picked_nothing (wanted_user places seen versions flags scope kind ByAccount found is cell low is_cell place) (rows_at cell).user 0 32 (λ i l. refl))
      (picked_nothing (wanted_host places seen versions flags scope kind ByAccount found is cell low is_cell place) (rows_at cell).host 0 32 (λ i l. refl)) refl
      ∙ sym (account_same c.places sound apart (rows_at cell) place e at)

  by_user : (is : IsShown seen versions flags scope (Summary kind ByUser) found) (is_cell : has_cell scope (Summary kind ByUser) cell ≡ true) (place : ℕ) → place < 32 → (name : ℕ) → entry_at c.places.users place ≡ Some name
      → key_rows places seen versions flags scope kind ByUser found is cell low is_cell place ≡ shown_cell (KeyUser name) (rows_at cell) c.places
  by_user is is_cell place l name at =
      joined (picked (wanted_thread places seen versions flags scope kind ByUser found is cell low is_cell place) (rows_at cell).thread 0 32)
      (picked (wanted_account places seen versions flags scope kind ByUser found is cell low is_cell place) (rows_at cell).account 0 32)
      (picked (wanted_user places seen versions flags scope kind ByUser found is cell low is_cell place) (rows_at cell).user 0 32)
      (picked (wanted_host places seen versions flags scope kind ByUser found is cell low is_cell place) (rows_at cell).host 0 32)
      (cond (wanted_global places seen versions flags scope kind ByUser found is cell low is_cell place) ((8321 + cell) ∷ []) [])
      (listed_from (λ (x : Connection). is_from place x.user) (rows_at cell).thread 0 c.places.threads) (listed_from (λ (e : Account). is_from place e.user) (rows_at cell).account 0 c.places.accounts) ((rows_at cell).user place ∷ []) [] []
      (threads_listed back places seen versions flags scope kind ByUser found is c told well cell low is_cell place (λ (x : Connection). is_from place x.user)
      (λ t b x f. ap (λ (o : Option ThreadInfo). is_number place (option_and_then (λ info. info.user) o)) (thread_there back places seen versions flags scope kind ByUser found is c told well cell low is_cell t b ∙ ap (option_map thread_info_of) f) ∙ number_from place x.user))
      (accounts_listed back places seen versions flags scope kind ByUser found is c told well cell low is_cell place (λ (e : Account). is_from place e.user) refl
      (λ a b e f. ap (λ (o : Option AccountInfo). is_number place (option_and_then (λ info. info.user) o)) (account_there back places seen versions flags scope kind ByUser found is c told well cell low is_cell refl a b ∙ ap (option_map (account_info_of c a)) f) ∙ number_from place e.user))
      (picked_only (wanted_user places seen versions flags scope kind ByUser found is cell low is_cell place) (rows_at cell).user place 0 32 (omega arith) (omega (arith, l))
      (here place (is_whole found (65 + place)) (entry_at c.places.users place) name (user_stands back places seen versions flags scope kind ByUser found is c told refl place l) at)
      (λ i n. only_here place i (is_whole found (65 + i)) n))
      (picked_nothing (wanted_host places seen versions flags scope kind ByUser found is cell low is_cell place) (rows_at cell).host 0 32 (λ i l. refl)) refl
      ∙ sym (user_same c.places sound apart (rows_at cell) place name at)

  by_host : (is : IsShown seen versions flags scope (Summary kind ByHost) found) (is_cell : has_cell scope (Summary kind ByHost) cell ≡ true) (place : ℕ) → place < 32 → (name : ℕ) → entry_at c.places.hosts place ≡ Some name
      → key_rows places seen versions flags scope kind ByHost found is cell low is_cell place ≡ shown_cell (KeyHost name) (rows_at cell) c.places
  by_host is is_cell place l name at =
      joined (picked (wanted_thread places seen versions flags scope kind ByHost found is cell low is_cell place) (rows_at cell).thread 0 32)
      (picked (wanted_account places seen versions flags scope kind ByHost found is cell low is_cell place) (rows_at cell).account 0 32)
      (picked (wanted_user places seen versions flags scope kind ByHost found is cell low is_cell place) (rows_at cell).user 0 32)
      (picked (wanted_host places seen versions flags scope kind ByHost found is cell low is_cell place) (rows_at cell).host 0 32)
      (cond (wanted_global places seen versions flags scope kind ByHost found is cell low is_cell place) ((8321 + cell) ∷ []) [])
      (listed_from (λ (x : Connection). is_from place x.host) (rows_at cell).thread 0 c.places.threads) (listed_from (λ (e : Account). is_from place e.host) (rows_at cell).account 0 c.places.accounts) [] ((rows_at cell).host place ∷ []) []
      (threads_listed back places seen versions flags scope kind ByHost found is c told well cell low is_cell place (λ (x : Connection). is_from place x.host)
      (λ t b x f. ap (λ (o : Option ThreadInfo). is_number place (option_and_then (λ info. info.host) o)) (thread_there back places seen versions flags scope kind ByHost found is c told well cell low is_cell t b ∙ ap (option_map thread_info_of) f) ∙ number_from place x.host))
      (accounts_listed back places seen versions flags scope kind ByHost found is c told well cell low is_cell place (λ (e : Account). is_from place e.host) refl
      (λ a b e f. ap (λ (o : Option AccountInfo). is_number place (option_and_then (λ info. info.host) o)) (account_there back places seen versions flags scope kind ByHost found is c told well cell low is_cell refl a b ∙ ap (option_map (account_info_of c a)) f) ∙ number_from place e.host))
      (picked_nothing (wanted_user places seen versions flags scope kind ByHost found is cell low is_cell place) (rows_at cell).user 0 32 (λ i l. refl))
      (picked_only (wanted_host places seen versions flags scope kind ByHost found is cell low is_cell place) (rows_at cell).host place 0 32 (omega arith) (omega (arith, l))
      (here place (is_whole found (97 + place)) (entry_at c.places.hosts place) name (host_stands back places seen versions flags scope kind ByHost found is c told refl place l) at)
      (λ i n. only_here place i (is_whole found (97 + i)) n)) refl
      ∙ sym (host_same c.places sound apart (rows_at cell) place name at)

  globally : (is : IsShown seen versions flags scope (Summary kind Global) found) (is_cell : has_cell scope (Summary kind Global) cell ≡ true)
      → key_rows places seen versions flags scope kind Global found is cell low is_cell 0 ≡ shown_cell KeyAll (rows_at cell) c.places
  globally is is_cell =
      joined (picked (wanted_thread places seen versions flags scope kind Global found is cell low is_cell 0) (rows_at cell).thread 0 32)
      (picked (wanted_account places seen versions flags scope kind Global found is cell low is_cell 0) (rows_at cell).account 0 32)
      (picked (wanted_user places seen versions flags scope kind Global found is cell low is_cell 0) (rows_at cell).user 0 32)
      (picked (wanted_host places seen versions flags scope kind Global found is cell low is_cell 0) (rows_at cell).host 0 32)
      (cond (wanted_global places seen versions flags scope kind Global found is cell low is_cell 0) ((8321 + cell) ∷ []) [])
      (listed_from (λ (x : Connection). true) (rows_at cell).thread 0 c.places.threads) (listed_from (λ (e : Account). true) (rows_at cell).account 0 c.places.accounts) [] (listed_from (λ (n : ℕ). true) (rows_at cell).host 0 c.places.hosts) ((8321 + cell) ∷ [])
      (threads_listed back places seen versions flags scope kind Global found is c told well cell low is_cell 0 (λ (x : Connection). true) (λ t b x f. refl))
      (accounts_listed back places seen versions flags scope kind Global found is c told well cell low is_cell 0 (λ (e : Account). true) refl (λ a b e f. refl))
      (picked_nothing (wanted_user places seen versions flags scope kind Global found is cell low is_cell 0) (rows_at cell).user 0 32 (λ i l. refl))
      (picked_listed (λ (n : ℕ). true) (wanted_host places seen versions flags scope kind Global found is cell low is_cell 0) (rows_at cell).host 0 32 c.places.hosts well.hosts_few
      (λ i l. ap (wanted_host places seen versions flags scope kind Global found is cell low is_cell 0) (zero_plus i)
      ∙ (ap (λ b. b && true) (host_stands back places seen versions flags scope kind Global found is c told refl i l) ∙ stands_and (entry_at c.places.hosts i) true (λ n. true) (λ n e. refl)))) refl

  some_none : {X : Type 0} (x : X) → ◌≡◌ {A = Option X} None (Some x) → ⊥
  some_none x h = cc

  some_key : (a b : Key) → ◌≡◌ {A = Option Key} (Some a) (Some b) → a ≡ b
  some_key a b h = cc

  -- whichever summary it is
  pub rows_are : (which : SummaryTable) (is : IsShown seen versions flags scope (Summary kind which) found) (is_cell : has_cell scope (Summary kind which) cell ≡ true) (place : ℕ) → place < places_of which
      → (key : Key) → key_at which c.places place ≡ Some key → key_rows places seen versions flags scope kind which found is cell low is_cell place ≡ shown_cell key (rows_at cell) c.places
  rows_are ByThread is is_cell place l key e = at (entry_at c.places.threads place) refl e where
    at : (o : Option Connection) → entry_at c.places.threads place ≡ o → option_map (λ (x : Connection). KeyThread x.number place) o ≡ Some key → key_rows places seen versions flags scope kind ByThread found is cell low is_cell place ≡ shown_cell key (rows_at cell) c.places
    at None q h = absurd (some_none key h)
    at (Some x) q h = by_thread is is_cell place x q ∙ ap (λ k. shown_cell k (rows_at cell) c.places) (some_key (KeyThread x.number place) key h)
  rows_are ByAccount is is_cell place l key e = at (entry_at c.places.accounts place) refl e where
    at : (o : Option Account) → entry_at c.places.accounts place ≡ o → option_map (λ (x : Account). KeyAccount x.user_name x.host_name) o ≡ Some key → key_rows places seen versions flags scope kind ByAccount found is cell low is_cell place ≡ shown_cell key (rows_at cell) c.places
    at None q h = absurd (some_none key h)
    at (Some x) q h = by_account is is_cell place l x q ∙ ap (λ k. shown_cell k (rows_at cell) c.places) (some_key (KeyAccount x.user_name x.host_name) key h)
  rows_are ByUser is is_cell place l key e = at (entry_at c.places.users place) refl e where
    at : (o : Option ℕ) → entry_at c.places.users place ≡ o → option_map KeyUser o ≡ Some key → key_rows places seen versions flags scope kind ByUser found is cell low is_cell place ≡ shown_cell key (rows_at cell) c.places
    at None q h = absurd (some_none key h)
    at (Some x) q h = by_user is is_cell place l x q ∙ ap (λ k. shown_cell k (rows_at cell) c.places) (some_key (KeyUser x) key h)
  rows_are ByHost is is_cell place l key e = at (entry_at c.places.hosts place) refl e where
    at : (o : Option ℕ) → entry_at c.places.hosts place ≡ o → option_map KeyHost o ≡ Some key → key_rows places seen versions flags scope kind ByHost found is cell low is_cell place ≡ shown_cell key (rows_at cell) c.places
    at None q h = absurd (some_none key h)
    at (Some x) q h = by_host is is_cell place l x q ∙ ap (λ k. shown_cell k (rows_at cell) c.places) (some_key (KeyHost x) key h)
  rows_are Global is is_cell zero l key e = globally is is_cell ∙ ap (λ k. shown_cell k (rows_at cell) c.places) (some_key KeyAll key e)
  rows_are Global is is_cell (suc place) l key e = absurd (omega arith)

-- the key at a place is one of the summary's
pub table_of : (s : State) (which : SummaryTable) (place : ℕ) (key : Key) → key_at which s place ≡ Some key → is_key_of which key ≡ true
table_of s ByThread place key h = at (entry_at s.threads place) h where
  at : (o : Option Connection) → option_map (λ (x : Connection). KeyThread x.number place) o ≡ Some key → is_key_of ByThread key ≡ true
  at None h = absurd (cc)
  at (Some x) h = let e : KeyThread x.number place ≡ key = cc in ap (is_key_of ByThread) (sym e)
table_of s ByAccount place key h = at (entry_at s.accounts place) h where
  at : (o : Option Account) → option_map (λ (e : Account). KeyAccount e.user_name e.host_name) o ≡ Some key → is_key_of ByAccount key ≡ true
  at None h = absurd (cc)
  at (Some x) h = let e : KeyAccount x.user_name x.host_name ≡ key = cc in ap (is_key_of ByAccount) (sym e)
table_of s ByUser place key h = at (entry_at s.users place) h where
  at : (o : Option ℕ) → option_map KeyUser o ≡ Some key → is_key_of ByUser key ≡ true
  at None h = absurd (cc)
  at (Some x) h = let e : KeyUser x ≡ key = cc in ap (is_key_of ByUser) (sym e)
table_of s ByHost place key h = at (entry_at s.hosts place) h where
  at : (o : Option ℕ) → option_map KeyHost o ≡ Some key → is_key_of ByHost key ≡ true
  at None h = absurd (cc)
  at (Some x) h = let e : KeyHost x ≡ key = cc in ap (is_key_of ByHost) (sym e)
table_of s Global place key h = let e : KeyAll ≡ key = cc in ap (is_key_of Global) (sym e)
