-- What is known of the places of a summary that was read: whose they are, and what their cells have counted.
use Rattle.std.proofs.Common.{◌≡◌, ℕ, zero, suc, ◌<◌, ◌≤◌, ◌==◌, ◌&&◌, Bool, true, false, cond, List, [], ◌∷◌, ◌++◌, length, map, Option, Some, None, refl, sym, ap, subst, ◌∙◌, arith}
use Rattle.std.specs.Prelude.{All, is_some, nat_lt, not, if◌then◌else◌}
use Rattle.std.specs.List.{list_any}
use Rattle.std.specs.Option.{option_map}
use Rattle.std.proofs.lemmas.List.Elements.{All-nil, All-cons, All-head, All-tail}
use Rattle.std.proofs.lemmas.List.Folds.{list_any_none}
use Rattle.std.proofs.lemmas.Bool.{eqb-true, lt-ltb}
use Rattle.pfs_lemmas.proofs.Bools.{and_first, and_second}
use Rattle.pfs_classes.specs.Registry.{text_of}
use Rattle.pfs_classes.specs.declared.setting.Setting.{Setting}
use Rattle.pfs_conservation.proofs.Connects.{Sound, Stands, found_is}
use Rattle.pfs_conservation.specs.PlaceRows.{AreApart, names_of}
use Rattle.pfs_conservation.specs.CellHolders.{all_free}
use Rattle.pfs_conservation.specs.KindSummaries.{Key, KeyThread, KeyAccount, KeyUser, KeyHost, KeyAll, listed_from, shown_cell}
use Rattle.pfs_containers.specs.Administration.{Containers, Found, one_up, found_where, is_account}
use Rattle.pfs_containers.specs.Connections.{State, entry_at, entry_of}
use Rattle.pfs_containers.specs.PlaceInfos.{thread_info_of, account_info_of, user_info_of, host_info_of}
use Rattle.pfs_containers.specs.ContainerState.{AreWell}
use Rattle.pfs_containers.specs.declared.containers.Account.{Account}
use Rattle.pfs_containers.specs.declared.containers.Connection.{Connection}
use Rattle.pfs_containers.specs.declared.infos.ThreadInfo.{ThreadInfo}
use Rattle.pfs_readsets.specs.TablePlaces.{scope_of, has_cell}
use Rattle.pfs_readsets.specs.ReadSets.{target_of}
use Rattle.pfs_readsets.specs.declared.target.Target.{Target}
use Rattle.pfs_readsets.specs.declared.target.Target.TheVariants.{Row, Word}
use Rattle.pfs_rows.specs.Rows.{place_at}
use Rattle.pfs_rows.specs.declared.table.Reading.{Reading}
use Rattle.pfs_rows.specs.declared.table.Seen.{Seen}
use Rattle.pfs_rows.specs.declared.table.SummaryTable.{SummaryTable}
use Rattle.pfs_rows.specs.declared.table.SummaryTable.TheVariants.{ByThread, ByAccount, ByUser, ByHost, Global}
use Rattle.pfs_rows.specs.declared.table.Table.TheVariants.{Summary}
use Rattle.pfs_rows.specs.declared.table.TableKind.{TableKind}
use Rattle.pfs_stat.specs.Stat.{merge_all, stat_of_words}
use Rattle.pfs_stat.specs.declared.Stat.{Stat}
use Rattle.pfs_summaries.specs.Cells.{tally_of, reads_key_cell, hides_rows, is_hidden_by}
use Rattle.pfs_summaries.specs.FoundContents.{whole_of, is_busy, found_busy, infos_of}
use Rattle.pfs_summaries.specs.Heads.{account_head, user_head, host_head, head_of, places_of, heading_of}
use Rattle.pfs_summaries.specs.declared.heads.Head.{Head}
use Rattle.pfs_law_summaries.specs.SummaryKeys.{is_key_of, heading_of_key}
use Rattle.pfs_law_summaries.specs.SummaryRows.{HasRow}
use Rattle.pfs_law_summaries.proofs.ClassCells.{few_ids, same_numbers, zero_numbers, never_skipped}
use Rattle.pfs_law_summaries.proofs.MergedRows.{key_at, AreAlone, rows_at, rows_are, table_of}
use Rattle.pfs_law_summaries.proofs.SummaryRows.{ArePlaced}
use Rattle.pfs_law_summaries.proofs.TableReadings.{IsShown, shows}
use Rattle.pfs_law_summaries.proofs.CellTallies.{tally_is}
use Rattle.pfs_law_summaries.proofs.InfoReadings.{AreBack, ArePlaces, AreTold, thread_is, account_is, user_is, host_is}

-- the names of all that stands are among so many
pub record AreNamed (count : ℕ) (s : State) : Type 0 where
  pub account_users : (a : ℕ) (e : Account) → entry_at s.accounts a ≡ Some e → e.user_name < count
  pub account_hosts : (a : ℕ) (e : Account) → entry_at s.accounts a ≡ Some e → e.host_name < count
  pub users : (u name : ℕ) → entry_at s.users u ≡ Some name → name < count
  pub hosts : (h name : ℕ) → entry_at s.hosts h ≡ Some name → name < count

-- what is known of who is connected
pub record AreSettled (setting : Setting) (IsKey : Key → Type 0) (c : Containers) : Type 0 where
  pub well : AreWell c.places
  pub sound : Sound c.places
  pub apart : AreApart c.places
  pub named : AreNamed (length setting.names) c.places
  pub seated : (t : ℕ) (x : Connection) → entry_at c.places.threads t ≡ Some x → IsKey (KeyThread x.number t)
  pub slots : (session p q : ℕ) → IsKey (KeyThread session p) → IsKey (KeyThread session q) → p ≡ q
  pub accounts : (user host : ℕ) → IsKey (KeyAccount user host)
  pub users : (user : ℕ) → IsKey (KeyUser user)
  pub hosts : (host : ℕ) → IsKey (KeyHost host)
  pub all : IsKey KeyAll

if_one : (head : Head) (a : Bool) → a ≡ true → (if a then Some head else None) ≡ Some head
if_one head true p = refl
if_one head false p = absurd (cc)

if_both : (head : Head) (a b : Bool) → a ≡ true → b ≡ true → (if a && b then Some head else None) ≡ Some head
if_both head true true p q = refl
if_both head true false p q = absurd (cc)
if_both head false b p q = absurd (cc)

same_names : (x y : Account) → x.user_name ≡ y.user_name → x.host_name ≡ y.host_name → names_of x ≡ names_of y
same_names x y p q = ap (λ n. record { user = n; host = x.host_name }) p ∙ ap (λ n. record { user = y.user_name; host = n }) q

-- at first nothing stands anywhere
pub none_stands : {X : Type 0} (n i : ℕ) (x : X) → entry_at (all_free {X = X} n) i ≡ Some x → ⊥
none_stands zero i x h = absurd (cc)
none_stands (suc n) zero x h = absurd (cc)
none_stands (suc n) (suc i) x h = none_stands n i x h

-- where an entry stands, its place is one of the list
entry_below : {X : Type 0} (xs : List (Option X)) (n : ℕ) (x : X) → entry_at xs n ≡ Some x → n < length xs
entry_below [] n x h = absurd (cc)
entry_below (o ∷ xs) zero x h = omega arith
entry_below (o ∷ xs) (suc n) x h = let l : n < length xs = entry_below xs n x h in omega (arith, l)

-- where nothing is found, nothing is listed
nothing_found : {X : Type 0} (test : X → Bool) (xs : List (Option X)) → found_where test xs ≡ None → (i : ℕ) (x : X) → entry_at xs i ≡ Some x → test x ≡ false
nothing_found test [] h i x e = absurd (cc)
nothing_found {X} test (None ∷ xs) h zero x e = absurd (cc)
nothing_found {X} test (None ∷ xs) h (suc i) x e = nothing_found test xs (up (found_where test xs) h) i x e where
  up : (o : Option (Found X)) → one_up o ≡ None → o ≡ None
  up None h = refl
  up (Some f) h = absurd (cc)
nothing_found {X} test (Some y ∷ xs) h i x e = at (test y) refl h (λ k j w. nothing_found test xs k j x w) where
  up : (o : Option (Found X)) → one_up o ≡ None → o ≡ None
  up None h = refl
  up (Some f) h = absurd (cc)

  some_is : (a b : X) → ◌≡◌ {A = Option X} (Some a) (Some b) → a ≡ b
  some_is a b h = cc

  at : (b : Bool) → test y ≡ b → cond b (Some (record { place = 0; entry = y })) (one_up (found_where test xs)) ≡ None → (found_where test xs ≡ None → (j : ℕ) → entry_at xs j ≡ Some x → test x ≡ false) → test x ≡ false
  at true q h ih = absurd (cc)
  at false q h ih = by i e where
    by : (i : ℕ) → entry_at (Some y ∷ xs) i ≡ Some x → test x ≡ false
    by zero e = ap test (sym (some_is y x e)) ∙ q
    by (suc i) e = ih (up (found_where test xs) h) i e

listed_nothing : {X : Type 0} (f : X → Bool) (row : ℕ → ℕ) (n : ℕ) (xs : List (Option X)) → ((i : ℕ) (x : X) → entry_at xs i ≡ Some x → f x ≡ false) → listed_from f row n xs ≡ []
listed_nothing f row n [] h = refl
listed_nothing f row n (None ∷ xs) h = listed_nothing f row (suc n) xs (λ i x e. h (suc i) x e)
listed_nothing f row n (Some x ∷ xs) h = ap (λ b. cond b (row n ∷ []) [] ++ listed_from f row (suc n) xs) (h 0 x refl) ∙ listed_nothing f row (suc n) xs (λ i y e. h (suc i) y e)

module _ (back : AreBack) (places : ArePlaces) (seen : ℕ → Seen) (versions flags : ℕ → ℕ) (setting : Setting) (kind : TableKind) (found : List Reading) (c : Containers) (told : AreTold seen c) (IsKey : Key → Type 0)
    (settled : AreSettled setting IsKey c) (never_busy : (row : ℕ) → is_busy (seen row) ≡ false) (stands : ℕ → Stat) (whole : (row : ℕ) → 129 ≤ row → row < 8385 → option_map stat_of_words (whole_of (seen row)) ≡ Some (stands row))
    (counts : Key → ℕ → Stat) where
  -- what a key shows of a cell is what it has counted
  abbrev pub AreMerged : Type 0
  AreMerged = (which : SummaryTable) (key : Key) → is_key_of which key ≡ true → IsKey key → (cell : ℕ) → cell < 64 → has_cell (scope_of setting) (Summary kind which) cell ≡ true
      → merge_all (map stands (shown_cell key (rows_at cell) c.places)) ≡ counts key cell

  alone : AreAlone c.places
  alone t u x y e f same = settled.slots x.number t u (settled.seated t x e) (subst (λ n. IsKey (KeyThread n u)) (sym same) (settled.seated u y f))

  none_busy : (which : SummaryTable) (is : IsShown seen versions flags (scope_of setting) (Summary kind which) found) (q : Reading → Bool) → list_any (λ r. q r && found_busy r) found ≡ false
  none_busy which is q = list_any_none (λ r. q r && found_busy r) found (each found is.shown) where
    and_false : (b : Bool) → (b && false) ≡ false
    and_false true = refl
    and_false false = refl

    one : (t : Target) → found_busy (shows seen versions flags t) ≡ false
    one (Row row) = never_busy row
    one (Word word) = refl

    each : (rs : List Reading) → All (λ r. r ≡ shows seen versions flags (target_of r)) rs → All (λ r. (q r && found_busy r) ≡ false) rs
    each [] h = All-nil (λ r. (q r && found_busy r) ≡ false)
    each (r ∷ rs) h =
        let e : r ≡ shows seen versions flags (target_of r) = All-head (λ r. r ≡ shows seen versions flags (target_of r)) r rs h in
        All-cons (λ r. (q r && found_busy r) ≡ false) r rs (ap (λ b. q r && b) (ap found_busy e ∙ one (target_of r)) ∙ and_false (q r)) (each rs (All-tail (λ r. r ≡ shows seen versions flags (target_of r)) r rs h))

  pub never_hidden : (which : SummaryTable) (is : IsShown seen versions flags (scope_of setting) (Summary kind which) found) → list_any (is_hidden_by which) found ≡ false
  never_hidden which is = list_any_none (is_hidden_by which) found (each found is.shown) where
    and_false : (b : Bool) → (b && false) ≡ false
    and_false true = refl
    and_false false = refl

    one : (t : Target) → is_hidden_by which (shows seen versions flags t) ≡ false
    one (Row row) = ap (λ b. hides_rows which (place_at row) && b) (never_busy row) ∙ and_false (hides_rows which (place_at row))
    one (Word word) = refl

    each : (rs : List Reading) → All (λ r. r ≡ shows seen versions flags (target_of r)) rs → All (λ r. is_hidden_by which r ≡ false) rs
    each [] h = All-nil (λ r. is_hidden_by which r ≡ false)
    each (r ∷ rs) h =
        let e : r ≡ shows seen versions flags (target_of r) = All-head (λ r. r ≡ shows seen versions flags (target_of r)) r rs h in
        All-cons (λ r. is_hidden_by which r ≡ false) r rs (ap (is_hidden_by which) e ∙ one (target_of r)) (each rs (All-tail (λ r. r ≡ shows seen versions flags (target_of r)) r rs h))

  -- the key at a place is one that may be asked for
  key_asked : (which : SummaryTable) (place : ℕ) (key : Key) → key_at which c.places place ≡ Some key → IsKey key
  key_asked ByThread place key h = at (entry_at c.places.threads place) refl h where
    at : (o : Option Connection) → entry_at c.places.threads place ≡ o → option_map (λ (x : Connection). KeyThread x.number place) o ≡ Some key → IsKey key
    at None q h = absurd (cc)
    at (Some x) q h = let e : KeyThread x.number place ≡ key = cc in subst IsKey e (settled.seated place x q)
  key_asked ByAccount place key h = at (entry_at c.places.accounts place) h where
    at : (o : Option Account) → option_map (λ (e : Account). KeyAccount e.user_name e.host_name) o ≡ Some key → IsKey key
    at None h = absurd (cc)
    at (Some x) h = let e : KeyAccount x.user_name x.host_name ≡ key = cc in subst IsKey e (settled.accounts x.user_name x.host_name)
  key_asked ByUser place key h = at (entry_at c.places.users place) h where
    at : (o : Option ℕ) → option_map KeyUser o ≡ Some key → IsKey key
    at None h = absurd (cc)
    at (Some x) h = let e : KeyUser x ≡ key = cc in subst IsKey e (settled.users x)
  key_asked ByHost place key h = at (entry_at c.places.hosts place) h where
    at : (o : Option ℕ) → option_map KeyHost o ≡ Some key → IsKey key
    at None h = absurd (cc)
    at (Some x) h = let e : KeyHost x ≡ key = cc in subst IsKey e (settled.hosts x)
  key_asked Global place key h = let e : KeyAll ≡ key = cc in subst IsKey e settled.all

  no_two : (which : SummaryTable) (p q : ℕ) (key : Key) → p < places_of which → q < places_of which → key_at which c.places p ≡ Some key → key_at which c.places q ≡ Some key → p ≡ q
  no_two ByThread p q key l m g h = at (entry_at c.places.threads p) (entry_at c.places.threads q) g h where
    at : (o w : Option Connection) → option_map (λ (x : Connection). KeyThread x.number p) o ≡ Some key → option_map (λ (x : Connection). KeyThread x.number q) w ≡ Some key → p ≡ q
    at None w g h = absurd (cc)
    at (Some x) None g h = absurd (cc)
    at (Some x) (Some y) g h = let e : KeyThread x.number p ≡ KeyThread y.number q = cc in cc
  no_two ByAccount p q key l m g h = at (entry_at c.places.accounts p) (entry_at c.places.accounts q) refl refl g h where
    at : (o w : Option Account) → entry_at c.places.accounts p ≡ o → entry_at c.places.accounts q ≡ w → option_map (λ (e : Account). KeyAccount e.user_name e.host_name) o ≡ Some key → option_map (λ (e : Account). KeyAccount e.user_name e.host_name) w ≡ Some key → p ≡ q
    at None w a b g h = absurd (cc)
    at (Some x) None a b g h = absurd (cc)
    at (Some x) (Some y) a b g h =
        let e : KeyAccount x.user_name x.host_name ≡ KeyAccount y.user_name y.host_name = cc in
        let u : x.user_name ≡ y.user_name = cc in
        let v : x.host_name ≡ y.host_name = cc in
        settled.apart.accounts p q x y a b (same_names x y u v)
  no_two ByUser p q key l m g h = at (entry_at c.places.users p) (entry_at c.places.users q) refl refl g h where
    at : (o w : Option ℕ) → entry_at c.places.users p ≡ o → entry_at c.places.users q ≡ w → option_map KeyUser o ≡ Some key → option_map KeyUser w ≡ Some key → p ≡ q
    at None w a b g h = absurd (cc)
    at (Some x) None a b g h = absurd (cc)
    at (Some x) (Some y) a b g h = let e : KeyUser x ≡ KeyUser y = cc in let u : x ≡ y = cc in settled.apart.users p q x y a b u
  no_two ByHost p q key l m g h = at (entry_at c.places.hosts p) (entry_at c.places.hosts q) refl refl g h where
    at : (o w : Option ℕ) → entry_at c.places.hosts p ≡ o → entry_at c.places.hosts q ≡ w → option_map KeyHost o ≡ Some key → option_map KeyHost w ≡ Some key → p ≡ q
    at None w a b g h = absurd (cc)
    at (Some x) None a b g h = absurd (cc)
    at (Some x) (Some y) a b g h = let e : KeyHost x ≡ KeyHost y = cc in let u : x ≡ y = cc in settled.apart.hosts p q x y a b u
  no_two Global p q key l m g h = omega (arith, l, m)

  -- what the rows of a place begin with
  abbrev HasHead : SummaryTable → ℕ → Key → Type 0
  HasHead which place key = (head : Head) × (head_of which setting.names (infos_of found) place ≡ Some head) × (heading_of which head ≡ heading_of_key setting.names key)

  heads : (which : SummaryTable) (is : IsShown seen versions flags (scope_of setting) (Summary kind which) found) (place : ℕ) → place < places_of which → (key : Key) → key_at which c.places place ≡ Some key → HasHead which place key
  heads ByThread is place l key h = at (entry_at c.places.threads place) refl h where
    at : (o : Option Connection) → entry_at c.places.threads place ≡ o → option_map (λ (x : Connection). KeyThread x.number place) o ≡ Some key → HasHead ByThread place key
    at None q h = absurd (cc)
    at (Some x) q h =
        let e : KeyThread x.number place ≡ key = cc in
        subst (HasHead ByThread place) e (record { thread_id = x.number; user = []; host = []; stands = true }, ap (option_map (λ (info : ThreadInfo). record { thread_id = info.session; user = []; host = []; stands = true })) (thread_is back places seen versions flags (scope_of setting) kind ByThread found is c told place l ∙ ap (option_map thread_info_of) q), refl)
  heads ByAccount is place l key h = at (entry_at c.places.accounts place) refl h where
    at : (o : Option Account) → entry_at c.places.accounts place ≡ o → option_map (λ (e : Account). KeyAccount e.user_name e.host_name) o ≡ Some key → HasHead ByAccount place key
    at None q h = absurd (cc)
    at (Some x) q h =
        let e : KeyAccount x.user_name x.host_name ≡ key = cc in
        subst (HasHead ByAccount place) e (
          record { thread_id = 0; user = text_of setting.names x.user_name; host = text_of setting.names x.host_name; stands = not ((account_info_of c place x).current == 0) },
          ap (account_head setting.names) (account_is back places seen versions flags (scope_of setting) kind ByAccount found is c told refl place l ∙ ap (option_map (account_info_of c place)) q)
              ∙ if_both (record { thread_id = 0; user = text_of setting.names x.user_name; host = text_of setting.names x.host_name; stands = not ((account_info_of c place x).current == 0) }) (nat_lt x.user_name (length setting.names)) (nat_lt x.host_name (length setting.names)) (lt-ltb x.user_name (length setting.names) (settled.named.account_users place x q)) (lt-ltb x.host_name (length setting.names) (settled.named.account_hosts place x q)),
          refl,
        )
  heads ByUser is place l key h = at (entry_at c.places.users place) refl h where
    at : (o : Option ℕ) → entry_at c.places.users place ≡ o → option_map KeyUser o ≡ Some key → HasHead ByUser place key
    at None q h = absurd (cc)
    at (Some x) q h =
        let e : KeyUser x ≡ key = cc in
        subst (HasHead ByUser place) e (
          record { thread_id = 0; user = text_of setting.names x; host = []; stands = not ((user_info_of c place x).current == 0) },
          ap (user_head setting.names) (user_is back places seen versions flags (scope_of setting) kind ByUser found is c told refl place l ∙ ap (option_map (user_info_of c place)) q)
              ∙ if_one (record { thread_id = 0; user = text_of setting.names x; host = []; stands = not ((user_info_of c place x).current == 0) }) (nat_lt x (length setting.names)) (lt-ltb x (length setting.names) (settled.named.users place x q)),
          refl,
        )
  heads ByHost is place l key h = at (entry_at c.places.hosts place) refl h where
    at : (o : Option ℕ) → entry_at c.places.hosts place ≡ o → option_map KeyHost o ≡ Some key → HasHead ByHost place key
    at None q h = absurd (cc)
    at (Some x) q h =
        let e : KeyHost x ≡ key = cc in
        subst (HasHead ByHost place) e (
          record { thread_id = 0; user = []; host = text_of setting.names x; stands = not ((host_info_of c place x).current == 0) },
          ap (host_head setting.names) (host_is back places seen versions flags (scope_of setting) kind ByHost found is c told refl place l ∙ ap (option_map (host_info_of c place)) q)
              ∙ if_one (record { thread_id = 0; user = []; host = text_of setting.names x; stands = not ((host_info_of c place x).current == 0) }) (nat_lt x (length setting.names)) (lt-ltb x (length setting.names) (settled.named.hosts place x q)),
          refl,
        )
  heads Global is place l key h = let e : KeyAll ≡ key = cc in subst (HasHead Global place) e (record { thread_id = 0; user = []; host = []; stands = true }, refl, refl)

  -- a place where nobody is has no rows
  headless : (which : SummaryTable) (is : IsShown seen versions flags (scope_of setting) (Summary kind which) found) (place : ℕ) → place < places_of which → key_at which c.places place ≡ None → head_of which setting.names (infos_of found) place ≡ None
  headless ByThread is place l h = at (entry_at c.places.threads place) refl h where
    at : (o : Option Connection) → entry_at c.places.threads place ≡ o → option_map (λ (x : Connection). KeyThread x.number place) o ≡ None → head_of ByThread setting.names (infos_of found) place ≡ None
    at (Some x) q h = absurd (cc)
    at None q h = ap (option_map (λ (info : ThreadInfo). record { thread_id = info.session; user = []; host = []; stands = true })) (thread_is back places seen versions flags (scope_of setting) kind ByThread found is c told place l ∙ ap (option_map thread_info_of) q)
  headless ByAccount is place l h = at (entry_at c.places.accounts place) refl h where
    at : (o : Option Account) → entry_at c.places.accounts place ≡ o → option_map (λ (e : Account). KeyAccount e.user_name e.host_name) o ≡ None → head_of ByAccount setting.names (infos_of found) place ≡ None
    at (Some x) q h = absurd (cc)
    at None q h = ap (account_head setting.names) (account_is back places seen versions flags (scope_of setting) kind ByAccount found is c told refl place l ∙ ap (option_map (account_info_of c place)) q)
  headless ByUser is place l h = at (entry_at c.places.users place) refl h where
    at : (o : Option ℕ) → entry_at c.places.users place ≡ o → option_map KeyUser o ≡ None → head_of ByUser setting.names (infos_of found) place ≡ None
    at (Some x) q h = absurd (cc)
    at None q h = ap (user_head setting.names) (user_is back places seen versions flags (scope_of setting) kind ByUser found is c told refl place l ∙ ap (option_map (user_info_of c place)) q)
  headless ByHost is place l h = at (entry_at c.places.hosts place) refl h where
    at : (o : Option ℕ) → entry_at c.places.hosts place ≡ o → option_map KeyHost o ≡ None → head_of ByHost setting.names (infos_of found) place ≡ None
    at (Some x) q h = absurd (cc)
    at None q h = ap (host_head setting.names) (host_is back places seen versions flags (scope_of setting) kind ByHost found is c told refl place l ∙ ap (option_map (host_info_of c place)) q)
  headless Global is place l h = absurd (cc)

  -- where a key shows no row, nothing is counted for it
  nothing_counted : AreMerged → (which : SummaryTable) (key : Key) (id : ℕ) → HasRow setting kind which IsKey counts (key, id) → ((cell : ℕ) → shown_cell key (rows_at cell) c.places ≡ []) → ⊥
  nothing_counted merged which key id h none = absurd (let z : true ≡ false = sym (zero_numbers setting kind id (counts key) h.class (λ cell l is. sym (merged which key h.of_table h.key cell l is) ∙ ap (λ (l : List ℕ). merge_all (map stands l)) (none cell))) ∙ h.some in cc)

  abbrev IsThere : SummaryTable → Key → Type 0
  IsThere which key = (place : ℕ) × (place < places_of which) × (key_at which c.places place ≡ Some key)

  -- by what name something was counted, that one stands at a place
  there : AreMerged → (which : SummaryTable) (key : Key) (id : ℕ) → HasRow setting kind which IsKey counts (key, id) → IsThere which key
  there merged ByThread (KeyThread session slot) id h = at (found_where (λ (x : Connection). x.number == session) c.places.threads) refl where
    at : (o : Option (Found Connection)) → found_where (λ (x : Connection). x.number == session) c.places.threads ≡ o → IsThere ByThread (KeyThread session slot)
    at None q =
        absurd (nothing_counted merged ByThread (KeyThread session slot) id h
        (λ cell. ap (λ (l : List ℕ). l ++ []) (listed_nothing (λ (x : Connection). x.number == session) (rows_at cell).thread 0 c.places.threads (nothing_found (λ (x : Connection). x.number == session) c.places.threads q))))
    at (Some f) q =
        let st : Stands (λ (x : Connection). x.number == session) c.places.threads f = found_is (λ (x : Connection). x.number == session) c.places.threads f q in
        let n : f.entry.number ≡ session = eqb-true f.entry.number session st.passes in
        let p : slot ≡ f.place = settled.slots session slot f.place h.key (subst (λ k. IsKey (KeyThread k f.place)) n (settled.seated f.place f.entry st.stands)) in
        let b : f.place < length c.places.threads = entry_below c.places.threads f.place f.entry st.stands in
        (f.place, omega (arith, b, settled.well.threads_few), ap (option_map (λ (x : Connection). KeyThread x.number f.place)) st.stands ∙ (ap (λ k. Some (KeyThread k f.place)) n ∙ ap (λ k. Some (KeyThread session k)) (sym p)))
  there merged ByAccount (KeyAccount user host) id h = at (found_where (is_account user host) c.places.accounts) refl where
    at : (o : Option (Found Account)) → found_where (is_account user host) c.places.accounts ≡ o → IsThere ByAccount (KeyAccount user host)
    at (Some f) q =
        let st : Stands (is_account user host) c.places.accounts f = found_is (is_account user host) c.places.accounts f q in
        let n : f.entry.user_name ≡ user = eqb-true f.entry.user_name user (and_first (f.entry.user_name == user) (f.entry.host_name == host) st.passes) in
        let m : f.entry.host_name ≡ host = eqb-true f.entry.host_name host (and_second (f.entry.user_name == user) (f.entry.host_name == host) st.passes) in
        let b : f.place < length c.places.accounts = entry_below c.places.accounts f.place f.entry st.stands in
        (f.place, omega (arith, b, settled.well.accounts_few), ap (option_map (λ (e : Account). KeyAccount e.user_name e.host_name)) st.stands ∙ (ap (λ k. Some (KeyAccount k f.entry.host_name)) n ∙ ap (λ k. Some (KeyAccount user k)) m))
    at None q = absurd (nothing_counted merged ByAccount (KeyAccount user host) id h (λ cell. two (listed_nothing (λ (x : Connection). is_some x.account && ((x.user_name == user) && (x.host_name == host))) (rows_at cell).thread 0 c.places.threads (λ t x e. thread x (settled.sound.lives t x e).account x.account refl)) (listed_nothing (is_account user host) (rows_at cell).account 0 c.places.accounts none))) where
      none : (i : ℕ) (x : Account) → entry_at c.places.accounts i ≡ Some x → is_account user host x ≡ false
      none = nothing_found (is_account user host) c.places.accounts q

      two : {l m : List ℕ} → l ≡ [] → m ≡ [] → l ++ (m ++ []) ≡ []
      two p q = rw p (rw q refl)

      thread : (x : Connection) → ((a : ℕ) → x.account ≡ Some a → entry_at c.places.accounts a ≡ Some (entry_of x)) → (o : Option ℕ) → x.account ≡ o → (is_some x.account && ((x.user_name == user) && (x.host_name == host))) ≡ false
      thread x lives None e = ap (λ (o : Option ℕ). is_some o && ((x.user_name == user) && (x.host_name == host))) e
      thread x lives (Some a) e = ap (λ (o : Option ℕ). is_some o && ((x.user_name == user) && (x.host_name == host))) e ∙ none a (entry_of x) (lives a e)
  there merged ByUser (KeyUser user) id h = at (found_where (λ (n : ℕ). n == user) c.places.users) refl where
    at : (o : Option (Found ℕ)) → found_where (λ (n : ℕ). n == user) c.places.users ≡ o → IsThere ByUser (KeyUser user)
    at (Some f) q =
        let st : Stands (λ (n : ℕ). n == user) c.places.users f = found_is (λ (n : ℕ). n == user) c.places.users f q in
        let b : f.place < length c.places.users = entry_below c.places.users f.place f.entry st.stands in
        (f.place, omega (arith, b, settled.well.users_few), ap (option_map KeyUser) st.stands ∙ ap (λ k. Some (KeyUser k)) (eqb-true f.entry user st.passes))
    at None q =
        absurd (nothing_counted merged ByUser (KeyUser user) id h (λ cell. three (listed_nothing (λ (x : Connection). is_some x.user && (x.user_name == user)) (rows_at cell).thread 0 c.places.threads (λ t x e. named x.user_name x.user (λ u w. (settled.sound.lives t x e).user u w) x.user refl))
        (listed_nothing (λ (x : Account). is_some x.user && (x.user_name == user)) (rows_at cell).account 0 c.places.accounts (λ a x e. named x.user_name x.user (λ u w. settled.sound.user a x u e w) x.user refl))
        (listed_nothing (λ (n : ℕ). n == user) (rows_at cell).user 0 c.places.users none))) where
          none : (i : ℕ) (x : ℕ) → entry_at c.places.users i ≡ Some x → (x == user) ≡ false
          none = nothing_found (λ (n : ℕ). n == user) c.places.users q

          three : {l m n : List ℕ} → l ≡ [] → m ≡ [] → n ≡ [] → l ++ (m ++ (n ++ [])) ≡ []
          three p q r = rw p (rw q (rw r refl))

          named : (name : ℕ) (which : Option ℕ) → ((u : ℕ) → which ≡ Some u → entry_at c.places.users u ≡ Some name) → (o : Option ℕ) → which ≡ o → (is_some which && (name == user)) ≡ false
          named name which holds None e = ap (λ (o : Option ℕ). is_some o && (name == user)) e
          named name which holds (Some u) e = ap (λ (o : Option ℕ). is_some o && (name == user)) e ∙ none u name (holds u e)
  there merged ByHost (KeyHost host) id h = at (found_where (λ (n : ℕ). n == host) c.places.hosts) refl where
    at : (o : Option (Found ℕ)) → found_where (λ (n : ℕ). n == host) c.places.hosts ≡ o → IsThere ByHost (KeyHost host)
    at (Some f) q =
        let st : Stands (λ (n : ℕ). n == host) c.places.hosts f = found_is (λ (n : ℕ). n == host) c.places.hosts f q in
        let b : f.place < length c.places.hosts = entry_below c.places.hosts f.place f.entry st.stands in
        (f.place, omega (arith, b, settled.well.hosts_few), ap (option_map KeyHost) st.stands ∙ ap (λ k. Some (KeyHost k)) (eqb-true f.entry host st.passes))
    at None q =
        absurd (nothing_counted merged ByHost (KeyHost host) id h (λ cell. three (listed_nothing (λ (x : Connection). is_some x.host && (x.host_name == host)) (rows_at cell).thread 0 c.places.threads (λ t x e. named x.host_name x.host (λ u w. (settled.sound.lives t x e).host u w) x.host refl))
        (listed_nothing (λ (x : Account). is_some x.host && (x.host_name == host)) (rows_at cell).account 0 c.places.accounts (λ a x e. named x.host_name x.host (λ u w. settled.sound.host a x u e w) x.host refl))
        (listed_nothing (λ (n : ℕ). n == host) (rows_at cell).host 0 c.places.hosts none))) where
          none : (i : ℕ) (x : ℕ) → entry_at c.places.hosts i ≡ Some x → (x == host) ≡ false
          none = nothing_found (λ (n : ℕ). n == host) c.places.hosts q

          three : {l m n : List ℕ} → l ≡ [] → m ≡ [] → n ≡ [] → l ++ (m ++ (n ++ [])) ≡ []
          three p q r = rw p (rw q (rw r refl))

          named : (name : ℕ) (which : Option ℕ) → ((u : ℕ) → which ≡ Some u → entry_at c.places.hosts u ≡ Some name) → (o : Option ℕ) → which ≡ o → (is_some which && (name == host)) ≡ false
          named name which holds None e = ap (λ (o : Option ℕ). is_some o && (name == host)) e
          named name which holds (Some u) e = ap (λ (o : Option ℕ). is_some o && (name == host)) e ∙ none u name (holds u e)
  there merged Global KeyAll id h = (0, omega arith, refl)
  there merged which key id h = absurd (let e : is_key_of which key ≡ true = h.of_table in grind (arith, e))

  -- put together
  pub placed : AreMerged → (which : SummaryTable) (is : IsShown seen versions flags (scope_of setting) (Summary kind which) found)
      → ArePlaced setting kind which IsKey counts c.places (infos_of found) (tally_of which (infos_of found) found)
  placed merged which is = record {
    head = λ place l key h. heads which is place l key h;
    none = λ place l h. headless which is place l h;
    numbers = λ place l key h id of_kind. same_numbers setting kind id (tally_of which (infos_of found) found place) (counts key) of_kind
        (λ cell low is_cell. tally_is places seen versions flags (scope_of setting) kind which found is cell low is_cell place stands whole
        ∙ (ap (λ (l : List ℕ). merge_all (map stands l)) (rows_are back places seen versions flags (scope_of setting) kind found c told settled.well settled.sound settled.apart alone cell low which is is_cell place l key h)
        ∙ merged which key (table_of c.places which place key h) (key_asked which place key h) cell low is_cell));
    idle = λ place l id. never_skipped kind (tally_of which (infos_of found) found place) id (λ cell. none_busy which is (reads_key_cell which (infos_of found) place cell));
    stands = λ key id h. there merged which key id h;
    apart = λ p q key l m g h. no_two which p q key l m g h;
    keys = λ place key h. key_asked which place key h;
    few = λ id h. few_ids setting kind id h;
  }
