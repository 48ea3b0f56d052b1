-- What holds of all that is asked of a cell, at each level, holds of all that a truncation asks. Each move goes from a
-- level to higher ones, and all its rows are of one kind.
use Rattle.std.proofs.Common.{◌≡◌, refl, ℕ, zero, suc, ◌+◌, ◌*◌, ◌<◌, ◌≤◌, Bool, true, false, cond, nat_lt, List, [], ◌∷◌, ◌++◌, map, Option, Some, None, sym, ap, ◌∙◌, arith}
use Rattle.std.specs.List.{range_with_len, slice_index_or}
use Rattle.std.specs.Option.{option_map}
use Rattle.std.specs.Prelude.{All, filter}
use Rattle.std.proofs.lemmas.List.Elements.{All-head, All-tail}
use Rattle.std.proofs.lemmas.Bool.{le-ltb as more, lt-ltb}
use Rattle.pfs_admin.specs.AdministrationStates.{KindCells, kind_cells}
use Rattle.pfs_admin.specs.WordChanges.{up_to}
use Rattle.pfs_admin.specs.Truncations.{thread_source, account_source, user_source, host_source, place_asks, asks_at, level_asks, emptied, cleared, lower_asks, upper_asks, reach_of, summary_asks, all_asks, digest_ask, digest_asks, truncation_asks}
use Rattle.pfs_containers.proofs.PlaceBounds.{session_in_range, account_in_range}
use Rattle.pfs_containers.specs.Connections.{State}
use Rattle.pfs_containers.specs.ContainerState.{AreWell, HasPlaces, HasUppers}
use Rattle.pfs_containers.specs.declared.containers.Account.{Account}
use Rattle.pfs_containers.specs.declared.containers.Connection.{Connection}
use Rattle.pfs_levels.specs.Flushes.{upper, beyond, ask_of}
use Rattle.pfs_levels.specs.Moves.{Ask, ask}
use Rattle.pfs_levels.specs.declared.flushes.Source.TheVariants as of
use Rattle.pfs_levels.specs.declared.places.Level.{Level}
use Rattle.pfs_levels.specs.declared.places.Level.TheVariants as levels
use Rattle.pfs_levels.specs.declared.places.Up.{Up}
use Rattle.pfs_model.specs.Chains.{Each}
use Rattle.pfs_rows.specs.Rows.{row_number}
use Rattle.pfs_rows.specs.declared.place.Place.TheVariants.{DigestNull, GlobalCell}
use Rattle.pfs_rows.specs.declared.table.SummaryTable.{SummaryTable}
use Rattle.pfs_rows.specs.declared.table.SummaryTable.TheVariants as tables
use Rattle.pfs_rows.specs.declared.table.TableKind.{TableKind}
use Rattle.pfs_rows.specs.declared.table.TableKind.TheVariants.{Waits, Stages, Statements, Transactions}
use Rattle.pfs_law_conservation.specs.KindRows.{is_kind_row}
use Rattle.pfs_law_conservation.proofs.PrintedMoves.{AreAlike}
use Rattle.pfs_law_conservation.proofs.QuitMoves.{IsLow}
use Rattle.pfs_law_conservation.proofs.SlotMoves.{AreBack, thread_kind, account_kind, user_kind, host_kind, global_kind}
use Rattle.pfs_rows.specs.declared.truncations.Truncation.{Truncation}
use Rattle.pfs_rows.specs.declared.truncations.Truncation.TheVariants.{Events, Summary, DigestSummary, Accounts, Users, Hosts, SetupActors, SetupObjects}

-- places that are there
pub record IsPlaced (up : Up) : Type 0 where
  pub place : up.place < 32
  pub account : IsLow up.account
  pub user : IsLow up.user
  pub host : IsLow up.host

-- what is asked of a cell, at each level
pub record IsAsking (P : Ask → Type 0) (cell : ℕ) : Type 0 where
  pub thread : (up : Up) → IsPlaced up → P (ask_of (of.Thread up) cell)
  pub account : (up : Up) → IsPlaced up → P (ask_of (of.Account up) cell)
  pub user : (place : ℕ) → place < 32 → P (ask_of (of.User place) cell)
  pub host : (place : ℕ) → place < 32 → P (ask_of (of.Host place) cell)
  pub global : P (ask (row_number (GlobalCell cell)) [])

module _ (P : Ask → Type 0) where
  join : (xs ys : List Ask) → Each P xs → Each P ys → Each P (xs ++ ys)
  join [] ys a b = b
  join (x ∷ xs) ys a b = (a.0, join xs ys a.1 b)

  pub of_cells : (f : ℕ → Ask) → ((cell : ℕ) → IsAsking P cell → P (f cell)) → (cells : List ℕ) → Each (IsAsking P) cells → Each P (map f cells)
  of_cells f h [] k = tt
  of_cells f h (cell ∷ cells) k = (h cell k.0, of_cells f h cells k.1)

  at_place : (s : State) (cells : List ℕ) (level : Level) (place : ℕ) → AreWell s → Each (IsAsking P) cells → place < 32 → Each P (asks_at s cells level place)
  at_place s cells levels.Thread place well k l = on (slice_index_or s.threads place None) refl where
    on : (o : Option Connection) → slice_index_or s.threads place None ≡ o → Each P (place_asks cells (option_map (thread_source place) o))
    on None e = tt
    on (Some x) e = (
        let r : HasPlaces 32 32 32 x = session_in_range s place x well e in
        let up : IsPlaced (record { place = place; account = x.account; user = x.user; host = x.host }) = record { place = l; account = r.account; user = r.user; host = r.host } in
        of_cells (ask_of (thread_source place x)) (λ (cell : ℕ) (c : IsAsking P cell). c.thread (record { place = place; account = x.account; user = x.user; host = x.host }) up) cells k
        )
  at_place s cells levels.Account place well k l = on (slice_index_or s.accounts place None) refl where
    on : (o : Option Account) → slice_index_or s.accounts place None ≡ o → Each P (place_asks cells (option_map (account_source place) o))
    on None e = tt
    on (Some x) e = (
        let r : HasUppers 32 32 x = account_in_range s place x well e in
        let up : IsPlaced (record { place = place; account = None; user = x.user; host = x.host }) = record { place = l; account = tt; user = r.user; host = r.host } in
        of_cells (ask_of (account_source place x)) (λ (cell : ℕ) (c : IsAsking P cell). c.account (record { place = place; account = None; user = x.user; host = x.host }) up) cells k
        )
  at_place s cells levels.User place well k l = on (slice_index_or s.users place None) where
    on : (o : Option ℕ) → Each P (place_asks cells (option_map (user_source place) o))
    on None = tt
    on (Some x) = of_cells (ask_of (user_source place x)) (λ (cell : ℕ) (c : IsAsking P cell). c.user place l) cells k
  at_place s cells levels.Host place well k l = on (slice_index_or s.hosts place None) where
    on : (o : Option ℕ) → Each P (place_asks cells (option_map (host_source place) o))
    on None = tt
    on (Some x) = of_cells (ask_of (host_source place x)) (λ (cell : ℕ) (c : IsAsking P cell). c.host place l) cells k

  up_all : (f : ℕ → List Ask) (n : ℕ) → n ≤ 32 → ((place : ℕ) → place < 32 → Each P (f place)) → Each P (up_to f n)
  up_all f zero l h = tt
  up_all f (suc n) l h = join (up_to f n) (f n) (up_all f n (omega (arith, l)) h) (h n (omega (arith, l)))

  each_level : (s : State) (cells : List ℕ) (level : Level) → AreWell s → Each (IsAsking P) cells → Each P (level_asks s cells level)
  unfolding level_asks
  each_level s cells level well k = up_all (asks_at s cells level) 32 (omega arith) (λ place l. at_place s cells level place well k l)

  each_emptied : (b : Bool) (s : State) (cells : List ℕ) (level : Level) → AreWell s → Each (IsAsking P) cells → Each P (emptied b s cells level)
  each_emptied false s cells level well k = tt
  each_emptied true s cells level well k = each_level s cells level well k

  each_cleared : (b : Bool) (cells : List ℕ) → Each (IsAsking P) cells → Each P (cleared b cells)
  each_cleared false cells k = tt
  each_cleared true cells k = of_cells (λ cell. ask (row_number (GlobalCell cell)) []) (λ (cell : ℕ) (c : IsAsking P cell). c.global) cells k

  pub each_summary : (s : State) (table : SummaryTable) (cells : List ℕ) → AreWell s → Each (IsAsking P) cells → Each P (summary_asks s table cells)
  each_summary s table cells well k =
      join (lower_asks s (reach_of table) cells) (upper_asks s (reach_of table) cells)
      (join (level_asks s cells levels.Thread) (emptied (reach_of table).accounts s cells levels.Account) (each_level s cells levels.Thread well k) (each_emptied (reach_of table).accounts s cells levels.Account well k))
      (join (emptied (reach_of table).users s cells levels.User) (emptied (reach_of table).hosts s cells levels.Host ++ cleared (reach_of table).global cells) (each_emptied (reach_of table).users s cells levels.User well k)
      (join (emptied (reach_of table).hosts s cells levels.Host) (cleared (reach_of table).global cells) (each_emptied (reach_of table).hosts s cells levels.Host well k) (each_cleared (reach_of table).global cells k)))

  pub each_kinds : (kinds : KindCells) (s : State) (table : SummaryTable) → AreWell s → ((kind : TableKind) → Each (IsAsking P) (kind_cells kinds kind)) → Each P (all_asks kinds s table)
  each_kinds kinds s table well k =
      join (summary_asks s table kinds.waits) _ (each_summary s table kinds.waits well (k Waits))
      (join (summary_asks s table kinds.stages) _ (each_summary s table kinds.stages well (k Stages))
      (join (summary_asks s table kinds.statements) (summary_asks s table kinds.transactions) (each_summary s table kinds.statements well (k Statements)) (each_summary s table kinds.transactions well (k Transactions))))

  -- rows of digests
  digests_up : ((at : ℕ) → at ≤ 64 → P (ask (row_number DigestNull + at) [])) → (n : ℕ) → n ≤ 65 → Each P (up_to digest_ask n)
  digests_up d zero l = tt
  digests_up d (suc n) l = join (up_to digest_ask n) (digest_ask n) (digests_up d n (omega (arith, l))) (d n (omega (arith, l)), tt)

  pub each_digests : ((at : ℕ) → at ≤ 64 → P (ask (row_number DigestNull + at) [])) → (places : ℕ) → places ≤ 64 → Each P (digest_asks places)
  unfolding digest_asks
  each_digests d places l = digests_up d (places + 1) (omega (arith, l))

  pub each_truncation : (kinds : KindCells) (s : State) (what : Truncation) → AreWell s → ((kind : TableKind) → Each (IsAsking P) (kind_cells kinds kind))
      → kinds.digests ≤ 64 → ((at : ℕ) → at ≤ 64 → P (ask (row_number DigestNull + at) [])) → Each P (truncation_asks kinds s what)
  each_truncation kinds s (Summary kind table) well k few d = each_summary s table (kind_cells kinds kind) well (k kind)
  each_truncation kinds s (Events kind table) well k few d = tt
  each_truncation kinds s Accounts well k few d = each_kinds kinds s tables.ByAccount well k
  each_truncation kinds s Users well k few d = each_kinds kinds s tables.ByUser well k
  each_truncation kinds s Hosts well k few d = each_kinds kinds s tables.ByHost well k
  each_truncation kinds s DigestSummary well k few d = each_digests d kinds.digests few
  each_truncation kinds s SetupActors well k few d = tt
  each_truncation kinds s SetupObjects well k few d = tt

-- what holds of low cells
pub low_each : (Q : ℕ → Type 0) → ((cell : ℕ) → cell < 64 → Q cell) → (cells : List ℕ) → All (λ cell. cell < 64) cells → Each Q cells
low_each Q h [] k = tt
low_each Q h (cell ∷ cells) k = (h cell (All-head (λ c. c < 64) cell cells k), low_each Q h cells (All-tail (λ c. c < 64) cell cells k))

-- a row's level: threads below accounts, these below users and hosts, and global cells above all
abbrev pub row_level : ℕ → ℕ
row_level row = cond (nat_lt row 2177) 0 (cond (nat_lt row 4225) 1 (cond (nat_lt row 8321) 2 3))

pub level_most : (row : ℕ) → row_level row ≤ 3
level_most row = at (nat_lt row 2177) (nat_lt row 4225) (nat_lt row 8321) where
  at : (a b c : Bool) → cond a 0 (cond b 1 (cond {A = ℕ} c 2 3)) ≤ 3
  at true b c = omega arith
  at false true c = omega arith
  at false false true = omega arith
  at false false false = omega arith

thread_level : (row : ℕ) → row < 2177 → row_level row ≡ 0
thread_level row h = ap (λ b. cond b 0 (cond (nat_lt row 4225) 1 (cond {A = ℕ} (nat_lt row 8321) 2 3))) (lt-ltb row 2177 h)

above_threads : (row : ℕ) → 2177 ≤ row → row_level row ≡ cond (nat_lt row 4225) 1 (cond {A = ℕ} (nat_lt row 8321) 2 3)
above_threads row l = ap (λ b. cond b 0 (cond (nat_lt row 4225) 1 (cond {A = ℕ} (nat_lt row 8321) 2 3))) (more row 2177 l)

account_level : (row : ℕ) → 2177 ≤ row → row < 4225 → row_level row ≡ 1
account_level row l h = above_threads row l ∙ ap (λ b. cond b 1 (cond {A = ℕ} (nat_lt row 8321) 2 3)) (lt-ltb row 4225 h)

name_level : (row : ℕ) → 4225 ≤ row → row < 8321 → row_level row ≡ 2
name_level row l h = above_threads row (omega (arith, l)) ∙ (ap (λ b. cond b 1 (cond {A = ℕ} (nat_lt row 8321) 2 3)) (more row 4225 l) ∙ ap (λ b. cond {A = ℕ} b 2 3) (lt-ltb row 8321 h))

global_level : (row : ℕ) → 8321 ≤ row → row_level row ≡ 3
global_level row l = above_threads row (omega (arith, l)) ∙ (ap (λ b. cond b 1 (cond {A = ℕ} (nat_lt row 8321) 2 3)) (more row 4225 (omega (arith, l))) ∙ ap (λ b. cond {A = ℕ} b 2 3) (more row 8321 l))

-- what goes from a row goes to higher levels
abbrev pub Climbs : ℕ → List ℕ → Type 0
Climbs from to = Each (λ row. suc (row_level from) ≤ row_level row) to

abbrev pub IsClimbing : Ask → Type 0
IsClimbing a = (129 ≤ a.from) × Climbs a.from a.to

beyond_climbs : (from cell : ℕ) → row_level from ≤ 1 → cell < 64 → (user host : Option ℕ) → IsLow user → IsLow host → Climbs from (beyond user host cell)
beyond_climbs from cell f c (Some user) (Some host) u h =
    let a : row_level (4225 + 64 * user + cell) ≡ 2 = name_level (4225 + 64 * user + cell) (omega arith) (omega (arith, u, c)) in
    let b : row_level (6273 + 64 * host + cell) ≡ 2 = name_level (6273 + 64 * host + cell) (omega arith) (omega (arith, h, c)) in
    (omega (arith, f, a), (omega (arith, f, b), tt))
beyond_climbs from cell f c (Some user) None u h =
    let a : row_level (4225 + 64 * user + cell) ≡ 2 = name_level (4225 + 64 * user + cell) (omega arith) (omega (arith, u, c)) in
    let b : row_level (8321 + cell) ≡ 3 = global_level (8321 + cell) (omega arith) in
    (omega (arith, f, a), (omega (arith, f, b), tt))
beyond_climbs from cell f c None (Some host) u h =
    let b : row_level (6273 + 64 * host + cell) ≡ 2 = name_level (6273 + 64 * host + cell) (omega arith) (omega (arith, h, c)) in
    (omega (arith, f, b), tt)
beyond_climbs from cell f c None None u h = let b : row_level (8321 + cell) ≡ 3 = global_level (8321 + cell) (omega arith) in (omega (arith, f, b), tt)

upper_climbs : (from cell : ℕ) → row_level from ≡ 0 → cell < 64 → (account user host : Option ℕ) → IsLow account → IsLow user → IsLow host → Climbs from (upper account user host cell)
upper_climbs from cell f c (Some account) user host a u h =
    let b : row_level (2177 + 64 * account + cell) ≡ 1 = account_level (2177 + 64 * account + cell) (omega arith) (omega (arith, a, c)) in
    (omega (arith, f, b), tt)
upper_climbs from cell f c None user host a u h = beyond_climbs from cell (omega (arith, f)) c user host u h

pub climbing : (cell : ℕ) → cell < 64 → IsAsking IsClimbing cell
climbing cell c = record {
  thread = λ (up : Up) (p : IsPlaced up). (let l : up.place < 32 = p.place in (omega arith, upper_climbs (129 + 64 * up.place + cell) cell (thread_level (129 + 64 * up.place + cell) (omega (arith, l, c))) c up.account up.user up.host p.account p.user p.host));
  account = λ (up : Up) (p : IsPlaced up). (let l : up.place < 32 = p.place in
      let e : row_level (2177 + 64 * up.place + cell) ≡ 1 = account_level (2177 + 64 * up.place + cell) (omega arith) (omega (arith, l, c)) in
      (omega arith, beyond_climbs (2177 + 64 * up.place + cell) cell (omega (arith, e)) c up.user up.host p.user p.host));
  user = λ place l. (omega arith, tt);
  host = λ place l. (let e : row_level (6273 + 64 * place + cell) ≡ 2 = name_level (6273 + 64 * place + cell) (omega arith) (omega (arith, l, c)) in
      let b : row_level (8321 + cell) ≡ 3 = global_level (8321 + cell) (omega arith) in
      (omega arith, (omega (arith, e, b), tt)));
  global = (omega arith, tt);
}

-- and all rows of what is asked of a cell are of one kind
module _ (back : AreBack) (is_cell : ℕ → Bool) (cell : ℕ) (c : cell < 64) where
  abbrev pub IsAlike : Ask → Type 0
  IsAlike a = AreAlike (is_kind_row is_cell) a.from a.to

  abbrev pub IsOther : Ask → Type 0
  IsOther a = is_kind_row is_cell a.from ≡ false

  beyond_alike : (from : ℕ) → is_cell cell ≡ is_kind_row is_cell from → (user host : Option ℕ) → IsLow user → IsLow host → AreAlike (is_kind_row is_cell) from (beyond user host cell)
  beyond_alike from own (Some u) (Some h) ul hl = (user_kind back is_cell u cell ul c ∙ own, (host_kind back is_cell h cell hl c ∙ own, tt))
  beyond_alike from own (Some u) None ul hl = (user_kind back is_cell u cell ul c ∙ own, (global_kind back is_cell cell c ∙ own, tt))
  beyond_alike from own None (Some h) ul hl = (host_kind back is_cell h cell hl c ∙ own, tt)
  beyond_alike from own None None ul hl = (global_kind back is_cell cell c ∙ own, tt)

  upper_alike : (from : ℕ) → is_cell cell ≡ is_kind_row is_cell from → (account user host : Option ℕ) → IsLow account → IsLow user → IsLow host → AreAlike (is_kind_row is_cell) from (upper account user host cell)
  upper_alike from own (Some a) user host al ul hl = (account_kind back is_cell a cell al c ∙ own, tt)
  upper_alike from own None user host al ul hl = beyond_alike from own user host ul hl

  pub asking_alike : IsAsking (λ (a : Ask). AreAlike (is_kind_row is_cell) a.from a.to) cell
  asking_alike = record {
    thread = λ (up : Up) (p : IsPlaced up). upper_alike (129 + 64 * up.place + cell) (sym (thread_kind back is_cell up.place cell p.place c)) up.account up.user up.host p.account p.user p.host;
    account = λ (up : Up) (p : IsPlaced up). beyond_alike (2177 + 64 * up.place + cell) (sym (account_kind back is_cell up.place cell p.place c)) up.user up.host p.user p.host;
    user = λ place l. tt;
    host = λ place l. (global_kind back is_cell cell c ∙ sym (host_kind back is_cell place cell l c), tt);
    global = tt;
  }

  pub asking_other : is_cell cell ≡ false → IsAsking (λ (a : Ask). is_kind_row is_cell a.from ≡ false) cell
  asking_other q = record {
    thread = λ (up : Up) (p : IsPlaced up). thread_kind back is_cell up.place cell p.place c ∙ q;
    account = λ (up : Up) (p : IsPlaced up). account_kind back is_cell up.place cell p.place c ∙ q;
    user = λ place l. user_kind back is_cell place cell l c ∙ q;
    host = λ place l. host_kind back is_cell place cell l c ∙ q;
    global = global_kind back is_cell cell c ∙ q;
  }

-- cells of one kind are none of another
pub other_cells : (test is_cell : ℕ → Bool) → ((cell : ℕ) → test cell ≡ true → is_cell cell ≡ false) → (Q : ℕ → Type 0) → ((cell : ℕ) → cell < 64 → is_cell cell ≡ false → Q cell)
    → (cell more : ℕ) → cell + more ≤ 64 → Each Q (filter test (range_with_len cell more))
other_cells test is_cell apart Q h cell zero l = tt
other_cells test is_cell apart Q h cell (suc more) l = at (test cell) refl (other_cells test is_cell apart Q h (cell + 1) more (omega (arith, l))) where
  at : (b : Bool) → test cell ≡ b → Each Q (filter test (range_with_len (cell + 1) more)) → Each Q (cond b (cell ∷ filter test (range_with_len (cell + 1) more)) (filter test (range_with_len (cell + 1) more)))
  at true q r = (h cell (omega (arith, l)) (apart cell q), r)
  at false q r = r
