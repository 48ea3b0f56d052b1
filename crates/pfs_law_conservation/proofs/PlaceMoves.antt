-- What a truncation asks, among the rows of a kind, is what the fold moves there: place by place, and cell by cell.
use Rattle.std.proofs.Common.{◌≡◌, refl, ℕ, zero, suc, ◌+◌, ◌*◌, ◌<◌, ◌≤◌, Bool, true, false, cond, List, [], ◌∷◌, ◌++◌, map, Option, Some, None, sym, ap, ◌∙◌, arith}
use Rattle.std.specs.List.{range_with_len, slice_index_or}
use Rattle.std.specs.Option.{option_map}
use Rattle.std.specs.Prelude.{filter, IfSome}
use Rattle.pfs_admin.specs.WordChanges.{up_to}
use Rattle.pfs_admin.specs.Truncations.{thread_source, account_source, user_source, host_source, place_asks, asks_at, level_asks, emptied, cleared, lower_asks, upper_asks, reach_asks, reach_of}
use Rattle.pfs_law_session.specs.Demands.{moves_asked}
use Rattle.pfs_conservation.specs.ActionMoves.{moved_by, moves_of}
use Rattle.pfs_conservation.specs.AdministrationFold.{Action, line_of, state_before}
use Rattle.pfs_conservation.specs.PlaceFolds.{State, Place, Thread, Account, User, Host, Global, Line, Session, Entry, line_takes, entry_at, owner_of, thread_owner, account_owner, user_owner, host_owner, holder_in, ups}
use Rattle.pfs_conservation.specs.RowMoves.{Move}
use Rattle.pfs_conservation.specs.CellHolders.{Seat, holder_at, holder_of, takes_by, rows_of}
use Rattle.pfs_conservation.specs.Tenures.{Owner}
use Rattle.pfs_levels.specs.Flushes.{beyond, ask_of}
use Rattle.pfs_levels.specs.Moves.{Ask, ask}
use Rattle.pfs_levels.specs.declared.flushes.Source.{Source}
use Rattle.pfs_levels.specs.declared.places.Level.{Level}
use Rattle.pfs_levels.specs.declared.places.Level.TheVariants as levels
use Rattle.pfs_model.specs.Chains.{Each}
use Rattle.pfs_rows.specs.Rows.{row_number}
use Rattle.pfs_rows.specs.declared.table.SummaryTable.{SummaryTable}
use Rattle.pfs_rows.specs.declared.place.Place.TheVariants.{ThreadCell, AccountCell, UserCell, HostCell, GlobalCell}
use Rattle.pfs_law_conservation.specs.KindRows.{board, elsewhere, seat_in as seat_of_row, is_kind_row, kind_rows_from, kind_rows}
use Rattle.pfs_law_conservation.proofs.PrintedMoves.{moves_as, moves_on}
use Rattle.pfs_law_conservation.proofs.QuitMoves.{ups_are}
use Rattle.pfs_law_conservation.proofs.SlotMoves.{AreBack, seat_at as seat_is, thread_kind, account_kind, user_kind, host_kind, global_kind, moves_then, rows_then}

-- what stands at a place, in both words
same_entry : {X : Type 0} (xs : List (Option X)) (n : ℕ) → slice_index_or xs n None ≡ entry_at xs n
same_entry [] n = refl
same_entry (x ∷ xs) zero = refl
same_entry (x ∷ xs) (suc n) = same_entry xs n

-- where an account's cell goes, in both words
ups_beyond : (is_cell : ℕ → Bool) (cell : ℕ) (user host : Option ℕ) → ups (rows_of (board is_cell) cell) user host ≡ beyond user host cell
ups_beyond is_cell cell (Some user) (Some host) = refl
ups_beyond is_cell cell (Some user) None = refl
ups_beyond is_cell cell None (Some host) = refl
ups_beyond is_cell cell None None = refl

none_up : {X : Type 0} (f : ℕ → List X) (n : ℕ) → n ≤ 32 → ((place : ℕ) → place < 32 → f place ≡ []) → up_to f n ≡ []
none_up f zero l h = refl
none_up {X = X} f (suc n) l h = ap (λ (z : List X). z ++ f n) (none_up f n (omega (arith, l)) h) ∙ h n (omega (arith, l))

-- what is asked, but for rows of other kinds
module _ (is_cell : ℕ → Bool) (action : ℕ) where
  abbrev pub asked : List Ask → List Move
  asked asks = moves_on (is_kind_row is_cell) (moves_as action (moves_asked asks))

  abbrev moved : Ask → Move
  moved a = record { action = action; from = a.from; to = a.to }

  pub asked_then : (xs ys : List Ask) → asked (xs ++ ys) ≡ asked xs ++ asked ys
  asked_then [] ys = refl
  asked_then (x ∷ xs) ys = at (is_kind_row is_cell x.from) (asked_then xs ys) where
    at : (b : Bool) → asked (xs ++ ys) ≡ asked xs ++ asked ys → cond b (moved x ∷ []) [] ++ asked (xs ++ ys) ≡ (cond b (moved x ∷ []) [] ++ asked xs) ++ asked ys
    at true e = ap (λ (z : List Move). moved x ∷ z) e
    at false e = e

  asked_up : (f : ℕ → List Ask) (n : ℕ) → asked (up_to f n) ≡ up_to (λ place. asked (f place)) n
  asked_up f zero = refl
  asked_up f (suc n) = asked_then (up_to f n) (f n) ∙ ap (λ (z : List Move). z ++ asked (f n)) (asked_up f n)

  pub none_asked : (asks : List Ask) → Each (λ (a : Ask). is_kind_row is_cell a.from ≡ false) asks → asked asks ≡ []
  none_asked [] h = refl
  none_asked (a ∷ asks) h = ap (λ b. cond b (moved a ∷ []) [] ++ asked asks) h.0 ∙ none_asked asks h.1

  -- what the cells from one on give, so many
  abbrev given_from : (ℕ → List Move) → ℕ → ℕ → List Move
  given_from give cell zero = []
  given_from give cell (suc more) = cond (is_cell cell) (give cell) [] ++ given_from give (cell + 1) more

  given_none : (cell more : ℕ) → given_from (λ c. []) cell more ≡ []
  given_none cell zero = refl
  given_none cell (suc more) = at (is_cell cell) (given_none (cell + 1) more) where
    at : (b : Bool) → given_from (λ c. []) (cell + 1) more ≡ [] → cond {A = List Move} b [] [] ++ given_from (λ c. []) (cell + 1) more ≡ []
    at true e = e
    at false e = e

  abbrev wants : (ℕ → Ask) → ℕ → List Move
  wants f cell = moved (f cell) ∷ []

  -- the cells of the kind, as they are asked
  asked_cells : (f : ℕ → Ask) → ((cell : ℕ) → cell < 64 → is_kind_row is_cell (f cell).from ≡ is_cell cell) → (cell more : ℕ) → cell + more ≤ 64
      → asked (map f (filter is_cell (range_with_len cell more))) ≡ given_from (wants f) cell more
  asked_cells f kinds cell zero l = refl
  asked_cells f kinds cell (suc more) l = at (is_cell cell) refl (asked_cells f kinds (cell + 1) more (omega (arith, l))) where
    rest : List ℕ
    rest = filter is_cell (range_with_len (cell + 1) more)

    at : (b : Bool) → is_cell cell ≡ b → asked (map f (filter is_cell (range_with_len (cell + 1) more))) ≡ given_from (wants f) (cell + 1) more
        → asked (map f (cond b (cell ∷ filter is_cell (range_with_len (cell + 1) more)) (filter is_cell (range_with_len (cell + 1) more)))) ≡ cond b (wants f cell) [] ++ given_from (wants f) (cell + 1) more
    at true q ih = ap (λ z. cond z (moved (f cell) ∷ []) [] ++ asked (map f rest)) (kinds cell (omega (arith, l)) ∙ q) ∙ ap (λ (z : List Move). moved (f cell) ∷ z) ih
    at false q ih = ih

-- which rows an action moves, place by place
module _ (is_cell : ℕ → Bool) (holder : ℕ → ℕ → Option Owner) (takes : ℕ → ℕ → Bool) (action : ℕ) where
  abbrev pub moves : List ℕ → List Move
  moves rows = moves_of holder takes action rows

  stride : (base : ℕ) (give : ℕ → List Move) → ((cell : ℕ) → cell < 64 → is_kind_row is_cell (base + cell) ≡ is_cell cell)
      → ((cell : ℕ) → cell < 64 → is_cell cell ≡ true → cond (takes action (base + cell)) (moved_by (holder action (base + cell)) action (base + cell)) [] ≡ give cell)
      → (row cell more : ℕ) → row ≡ base + cell → cell + more ≤ 64 → moves (kind_rows_from is_cell row more) ≡ given_from is_cell action give cell more
  stride base give kinds own row cell zero e l = refl
  stride base give kinds own row cell (suc more) e l = at (is_cell cell) refl (stride base give kinds own (suc row) (cell + 1) more (omega (arith, e)) (omega (arith, l))) where
    low : cell < 64
    low = omega (arith, l)

    at : (b : Bool) → is_cell cell ≡ b → moves (kind_rows_from is_cell (suc row) more) ≡ given_from is_cell action give (cell + 1) more
        → moves (cond (is_kind_row is_cell row) (row ∷ []) [] ++ kind_rows_from is_cell (suc row) more) ≡ cond b (give cell) [] ++ given_from is_cell action give (cell + 1) more
    at true q ih =
        ap (λ z. moves (cond z (row ∷ []) [] ++ kind_rows_from is_cell (suc row) more)) (ap (is_kind_row is_cell) e ∙ (kinds cell low ∙ q))
        ∙ (ap (λ (z : List Move). z ++ moves (kind_rows_from is_cell (suc row) more)) (ap (λ r. cond (takes action r) (moved_by (holder action r) action r) []) e ∙ own cell low q)
        ∙ ap (λ (z : List Move). give cell ++ z) ih)
    at false q ih = ap (λ z. moves (cond z (row ∷ []) [] ++ kind_rows_from is_cell (suc row) more)) (ap (is_kind_row is_cell) e ∙ (kinds cell low ∙ q)) ∙ ih

  two : (row m n total next : ℕ) → total ≡ m + n → next ≡ row + m → moves (kind_rows_from is_cell row total) ≡ moves (kind_rows_from is_cell row m) ++ moves (kind_rows_from is_cell next n)
  two row m n total next t r =
      ap (λ k. moves (kind_rows_from is_cell row k)) t
      ∙ (ap (λ (z : List ℕ). moves z) (rows_then is_cell holder takes action row m n)
      ∙ (moves_then is_cell holder takes action (kind_rows_from is_cell row m) (kind_rows_from is_cell (row + m) n)
      ∙ ap (λ k. moves (kind_rows_from is_cell row m) ++ moves (kind_rows_from is_cell k n)) (sym r)))

  level_moves : (base : ℕ) (g : ℕ → List Move) (n total : ℕ) → n ≤ 32 → total ≡ 64 * n → ((place : ℕ) → place < 32 → moves (kind_rows_from is_cell (base + 64 * place) 64) ≡ g place)
      → moves (kind_rows_from is_cell base total) ≡ up_to g n
  level_moves base g zero total l t h = ap (λ k. moves (kind_rows_from is_cell base k)) (let e : total ≡ 0 = omega (arith, t) in e)
  level_moves base g (suc n) total l t h =
      two base (64 * n) 64 total (base + 64 * n) (omega (arith, t)) refl
      ∙ (ap (λ (z : List Move). z ++ moves (kind_rows_from is_cell (base + 64 * n) 64)) (level_moves base g n (64 * n) (omega (arith, l)) refl h)
      ∙ ap (λ (z : List Move). up_to g n ++ z) (h n (omega (arith, l))))

  -- all rows: four levels, and the global cells
  five : (a b c d e : List Move) → a ≡ moves (kind_rows_from is_cell 129 2048) → b ≡ moves (kind_rows_from is_cell 2177 2048) → c ≡ moves (kind_rows_from is_cell 4225 2048)
      → d ≡ moves (kind_rows_from is_cell 6273 2048) → e ≡ moves (kind_rows_from is_cell 8321 64) → (a ++ b) ++ (c ++ (d ++ e)) ≡ moves (kind_rows is_cell)
  unfolding kind_rows
  five a b c d e p q r s t =
      ap (λ z. (z ++ b) ++ (c ++ (d ++ e))) p
      ∙ (ap (λ z. (moves (kind_rows_from is_cell 129 2048) ++ z) ++ (c ++ (d ++ e))) q
      ∙ (ap (λ (z : List Move). z ++ (c ++ (d ++ e))) (sym (two 129 2048 2048 4096 2177 (omega arith) (omega arith)))
      ∙ (ap (λ (z : List Move). moves (kind_rows_from is_cell 129 4096) ++ z) upper
      ∙ sym (two 129 4096 4160 8256 4225 (omega arith) (omega arith))))) where
        upper : c ++ (d ++ e) ≡ moves (kind_rows_from is_cell 4225 4160)
        upper =
            ap (λ z. z ++ (d ++ e)) r
            ∙ (ap (λ z. moves (kind_rows_from is_cell 4225 2048) ++ (z ++ e)) s
            ∙ (ap (λ z. moves (kind_rows_from is_cell 4225 2048) ++ (moves (kind_rows_from is_cell 6273 2048) ++ z)) t
            ∙ (ap (λ (z : List Move). moves (kind_rows_from is_cell 4225 2048) ++ z) (sym (two 6273 2048 64 2112 8321 (omega arith) (omega arith)))
            ∙ sym (two 4225 2048 2112 4160 6273 (omega arith) (omega arith)))))

module _ (back : AreBack) (is_cell : ℕ → Bool) (opening : State) (actions : ℕ → Action) (kind action : ℕ) where
  abbrev holder : ℕ → ℕ → Option Owner
  holder = holder_of (board is_cell) opening actions

  abbrev takes : ℕ → ℕ → Bool
  takes = takes_by (board is_cell) opening actions kind

  abbrev pub before : State
  before = state_before opening actions action

  abbrev pub line : Line
  line = line_of kind (state_before opening actions action) (actions action)

  abbrev pub cells : List ℕ
  cells = filter is_cell (range_with_len 0 64)

  abbrev Moves : List ℕ → List Move
  Moves rows = moves_of (holder_of (board is_cell) opening actions) (takes_by (board is_cell) opening actions kind) action rows

  -- the rows of a place's cells
  record IsAt (base : ℕ) (place : Place) : Type 0 where
    kinds : (cell : ℕ) → cell < 64 → is_kind_row is_cell (base + cell) ≡ is_cell cell
    seats : (cell : ℕ) → cell < 64 → is_cell cell ≡ true → seat_of_row is_cell (base + cell) ≡ record { cell = cell; place = place }

  abbrev seated : ℕ → Place → Bool → Seat
  seated cell place b = cond {A = Seat} b (record { cell = cell; place = place }) elsewhere

  thread_at : (place : ℕ) → place < 32 → IsAt (129 + 64 * place) (Thread place)
  thread_at place l = record { kinds = λ cell c. thread_kind back is_cell place cell l c; seats = λ cell c q. seat_is back is_cell (ThreadCell place cell) (l, c) ∙ ap (seated cell (Thread place)) q }

  account_at : (place : ℕ) → place < 32 → IsAt (2177 + 64 * place) (Account place)
  account_at place l = record { kinds = λ cell c. account_kind back is_cell place cell l c; seats = λ cell c q. seat_is back is_cell (AccountCell place cell) (l, c) ∙ ap (seated cell (Account place)) q }

  user_at : (place : ℕ) → place < 32 → IsAt (4225 + 64 * place) (User place)
  user_at place l = record { kinds = λ cell c. user_kind back is_cell place cell l c; seats = λ cell c q. seat_is back is_cell (UserCell place cell) (l, c) ∙ ap (seated cell (User place)) q }

  host_at : (place : ℕ) → place < 32 → IsAt (6273 + 64 * place) (Host place)
  host_at place l = record { kinds = λ cell c. host_kind back is_cell place cell l c; seats = λ cell c q. seat_is back is_cell (HostCell place cell) (l, c) ∙ ap (seated cell (Host place)) q }

  global_at : IsAt 8321 Global
  global_at = record { kinds = λ cell c. global_kind back is_cell cell c; seats = λ cell c q. seat_is back is_cell (GlobalCell cell) c ∙ ap (seated cell Global) q }

  plus : (a : ℕ) → a ≡ a + 0
  plus a = omega arith

  -- a place whose rows are taken, and one whose rows are left
  taken : (base : ℕ) (place : Place) (give : ℕ → List Move) → IsAt base place → line_takes line place ≡ true
      → ((cell : ℕ) → moved_by (holder_in (rows_of (board is_cell) cell) before place) action (base + cell) ≡ give cell) → Moves (kind_rows_from is_cell base 64) ≡ given_from is_cell action give 0 64
  taken base place give at t h = stride is_cell holder takes action base give at.kinds own base 0 64 (plus base) (omega arith) where
    own : (cell : ℕ) → cell < 64 → is_cell cell ≡ true → cond (takes action (base + cell)) (moved_by (holder action (base + cell)) action (base + cell)) [] ≡ give cell
    own cell c q =
        ap (λ b. cond b (moved_by (holder action (base + cell)) action (base + cell)) []) (ap (λ (z : Seat). line_takes line z.place) (at.seats cell c q) ∙ t)
        ∙ (ap (λ (z : Seat). moved_by (holder_at (board is_cell) before z) action (base + cell)) (at.seats cell c q) ∙ h cell)

  left : (base : ℕ) (place : Place) → IsAt base place → line_takes line place ≡ false → Moves (kind_rows_from is_cell base 64) ≡ []
  left base place at t = stride is_cell holder takes action base (λ c. []) at.kinds own base 0 64 (plus base) (omega arith) ∙ given_none is_cell action 0 64 where
    own : (cell : ℕ) → cell < 64 → is_cell cell ≡ true → cond (takes action (base + cell)) (moved_by (holder action (base + cell)) action (base + cell)) [] ≡ []
    own cell c q = ap (λ b. cond b (moved_by (holder action (base + cell)) action (base + cell)) []) (ap (λ (z : Seat). line_takes line z.place) (at.seats cell c q) ∙ t)

  -- what is asked of a place is what moves there
  abbrev wanted : Option Source → ℕ → List Move
  wanted None cell = []
  wanted (Some source) cell = wants is_cell action (ask_of source) cell

  place_same : (base : ℕ) (place : Place) (o : Option Source) → IsAt base place → line_takes line place ≡ true
      → ((cell : ℕ) → moved_by (holder_in (rows_of (board is_cell) cell) before place) action (base + cell) ≡ wanted o cell)
      → IfSome o (λ source. (cell : ℕ) → (ask_of source cell).from ≡ base + cell)
      → asked is_cell action (place_asks cells o) ≡ Moves (kind_rows_from is_cell base 64)
  place_same base place None at t h f = sym (taken base place (λ c. []) at t h ∙ given_none is_cell action 0 64)
  place_same base place (Some source) at t h f =
      asked_cells is_cell action (ask_of source) (λ cell c. ap (is_kind_row is_cell) (f cell) ∙ at.kinds cell c) 0 64 (omega arith)
      ∙ sym (taken base place (wants is_cell action (ask_of source)) at t h)

  thread_same : (place : ℕ) → place < 32 → line_takes line (Thread place) ≡ true → asked is_cell action (asks_at before cells levels.Thread place) ≡ Moves (kind_rows_from is_cell (129 + 64 * place) 64)
  thread_same place l t = on (slice_index_or before.threads place None) (same_entry before.threads place) where
    by : (o : Option Session) → o ≡ entry_at before.threads place → (cell : ℕ)
        → moved_by (holder_in (rows_of (board is_cell) cell) before (Thread place)) action (129 + 64 * place + cell) ≡ moved_by (owner_of (thread_owner (rows_of (board is_cell) cell)) o) action (129 + 64 * place + cell)
    by o e cell = ap (λ (z : Option Session). moved_by (owner_of (thread_owner (rows_of (board is_cell) cell)) z) action (129 + 64 * place + cell)) (sym e)

    on : (o : Option Session) → o ≡ entry_at before.threads place → asked is_cell action (place_asks cells (option_map (thread_source place) o)) ≡ Moves (kind_rows_from is_cell (129 + 64 * place) 64)
    on None e = place_same (129 + 64 * place) (Thread place) None (thread_at place l) t (by None e) tt
    on (Some x) e = place_same (129 + 64 * place) (Thread place) (Some (thread_source place x)) (thread_at place l) t
        (λ cell. by (Some x) e cell ∙ ap (λ (to : List ℕ). record { action = action; from = 129 + 64 * place + cell; to = to } ∷ []) (ups_are is_cell cell x.number x.user_name x.host_name x.account x.user x.host)) (λ cell. refl)

  account_same : (place : ℕ) → place < 32 → line_takes line (Account place) ≡ true → asked is_cell action (asks_at before cells levels.Account place) ≡ Moves (kind_rows_from is_cell (2177 + 64 * place) 64)
  account_same place l t = on (slice_index_or before.accounts place None) (same_entry before.accounts place) where
    by : (o : Option Entry) → o ≡ entry_at before.accounts place → (cell : ℕ)
        → moved_by (holder_in (rows_of (board is_cell) cell) before (Account place)) action (2177 + 64 * place + cell) ≡ moved_by (owner_of (account_owner (rows_of (board is_cell) cell)) o) action (2177 + 64 * place + cell)
    by o e cell = ap (λ (z : Option Entry). moved_by (owner_of (account_owner (rows_of (board is_cell) cell)) z) action (2177 + 64 * place + cell)) (sym e)

    on : (o : Option Entry) → o ≡ entry_at before.accounts place → asked is_cell action (place_asks cells (option_map (account_source place) o)) ≡ Moves (kind_rows_from is_cell (2177 + 64 * place) 64)
    on None e = place_same (2177 + 64 * place) (Account place) None (account_at place l) t (by None e) tt
    on (Some x) e = place_same (2177 + 64 * place) (Account place) (Some (account_source place x)) (account_at place l) t
        (λ cell. by (Some x) e cell ∙ ap (λ (to : List ℕ). record { action = action; from = 2177 + 64 * place + cell; to = to } ∷ []) (ups_beyond is_cell cell x.user x.host)) (λ cell. refl)

  user_same : (place : ℕ) → place < 32 → line_takes line (User place) ≡ true → asked is_cell action (asks_at before cells levels.User place) ≡ Moves (kind_rows_from is_cell (4225 + 64 * place) 64)
  user_same place l t = on (slice_index_or before.users place None) (same_entry before.users place) where
    by : (o : Option ℕ) → o ≡ entry_at before.users place → (cell : ℕ)
        → moved_by (holder_in (rows_of (board is_cell) cell) before (User place)) action (4225 + 64 * place + cell) ≡ moved_by (owner_of user_owner o) action (4225 + 64 * place + cell)
    by o e cell = ap (λ (z : Option ℕ). moved_by (owner_of user_owner z) action (4225 + 64 * place + cell)) (sym e)

    on : (o : Option ℕ) → o ≡ entry_at before.users place → asked is_cell action (place_asks cells (option_map (user_source place) o)) ≡ Moves (kind_rows_from is_cell (4225 + 64 * place) 64)
    on None e = place_same (4225 + 64 * place) (User place) None (user_at place l) t (by None e) tt
    on (Some x) e = place_same (4225 + 64 * place) (User place) (Some (user_source place x)) (user_at place l) t (by (Some x) e) (λ cell. refl)

  host_same : (place : ℕ) → place < 32 → line_takes line (Host place) ≡ true → asked is_cell action (asks_at before cells levels.Host place) ≡ Moves (kind_rows_from is_cell (6273 + 64 * place) 64)
  host_same place l t = on (slice_index_or before.hosts place None) (same_entry before.hosts place) where
    by : (o : Option ℕ) → o ≡ entry_at before.hosts place → (cell : ℕ)
        → moved_by (holder_in (rows_of (board is_cell) cell) before (Host place)) action (6273 + 64 * place + cell) ≡ moved_by (owner_of (host_owner (rows_of (board is_cell) cell)) o) action (6273 + 64 * place + cell)
    by o e cell = ap (λ (z : Option ℕ). moved_by (owner_of (host_owner (rows_of (board is_cell) cell)) z) action (6273 + 64 * place + cell)) (sym e)

    on : (o : Option ℕ) → o ≡ entry_at before.hosts place → asked is_cell action (place_asks cells (option_map (host_source place) o)) ≡ Moves (kind_rows_from is_cell (6273 + 64 * place) 64)
    on None e = place_same (6273 + 64 * place) (Host place) None (host_at place l) t (by None e) tt
    on (Some x) e = place_same (6273 + 64 * place) (Host place) (Some (host_source place x)) (host_at place l) t (by (Some x) e) (λ cell. refl)

  -- a level that is emptied, or left
  level_same : (base : ℕ) (level : Level) (place_of : ℕ → Place) (b : Bool) → ((place : ℕ) → place < 32 → IsAt (base + 64 * place) (place_of place))
      → ((place : ℕ) → line_takes line (place_of place) ≡ b)
      → ((place : ℕ) → place < 32 → line_takes line (place_of place) ≡ true → asked is_cell action (asks_at before cells level place) ≡ Moves (kind_rows_from is_cell (base + 64 * place) 64))
      → asked is_cell action (emptied b before cells level) ≡ Moves (kind_rows_from is_cell base 2048)
  unfolding level_asks
  level_same base level place_of true at t same =
      asked_up is_cell action (asks_at before cells level) 32
      ∙ sym (level_moves is_cell holder takes action base (λ place. asked is_cell action (asks_at before cells level place)) 32 2048 (omega arith) (omega arith) (λ place l. sym (same place l (t place))))
  level_same base level place_of false at t same =
      sym (level_moves is_cell holder takes action base (λ place. []) 32 2048 (omega arith) (omega arith) (λ place l. left (base + 64 * place) (place_of place) (at place l) (t place))
      ∙ none_up (λ place. []) 32 (omega arith) (λ place l. refl))

  global_same : (b : Bool) → line_takes line Global ≡ b → asked is_cell action (cleared b cells) ≡ Moves (kind_rows_from is_cell 8321 64)
  global_same true t =
      asked_cells is_cell action (λ cell. ask (row_number (GlobalCell cell)) []) global_at.kinds 0 64 (omega arith)
      ∙ sym (taken 8321 Global (wants is_cell action (λ cell. ask (row_number (GlobalCell cell)) [])) global_at t (λ cell. refl))
  global_same false t = sym (left 8321 Global global_at t)

  -- which levels an action takes
  pub record Reaches (table : SummaryTable) : Type 0 where
    pub thread : (place : ℕ) → line_takes (line_of kind (state_before opening actions action) (actions action)) (Thread place) ≡ true
    pub account : (place : ℕ) → line_takes (line_of kind (state_before opening actions action) (actions action)) (Account place) ≡ (reach_of table).accounts
    pub user : (place : ℕ) → line_takes (line_of kind (state_before opening actions action) (actions action)) (User place) ≡ (reach_of table).users
    pub host : (place : ℕ) → line_takes (line_of kind (state_before opening actions action) (actions action)) (Host place) ≡ (reach_of table).hosts
    pub global : line_takes (line_of kind (state_before opening actions action) (actions action)) Global ≡ (reach_of table).global

  pub reach_same : (table : SummaryTable) → Reaches table
      → asked is_cell action (reach_asks (state_before opening actions action) (reach_of table) (filter is_cell (range_with_len 0 64)))
      ≡ moves_of (holder_of (board is_cell) opening actions) (takes_by (board is_cell) opening actions kind) action (kind_rows is_cell)
  reach_same table reaches =
      asked_then is_cell action (lower_asks before (reach_of table) cells) (upper_asks before (reach_of table) cells)
      ∙ (ap (λ (z : List Move). z ++ asked is_cell action (upper_asks before (reach_of table) cells)) (asked_then is_cell action threads accounts)
      ∙ (ap (λ (z : List Move). (asked is_cell action threads ++ asked is_cell action accounts) ++ z)
      (asked_then is_cell action users (hosts ++ global) ∙ ap (λ (z : List Move). asked is_cell action users ++ z) (asked_then is_cell action hosts global))
      ∙ five is_cell holder takes action (asked is_cell action threads) (asked is_cell action accounts) (asked is_cell action users) (asked is_cell action hosts) (asked is_cell action global)
      (level_same 129 levels.Thread Thread true thread_at reaches.thread thread_same)
      (level_same 2177 levels.Account Account (reach_of table).accounts account_at reaches.account account_same)
      (level_same 4225 levels.User User (reach_of table).users user_at reaches.user user_same)
      (level_same 6273 levels.Host Host (reach_of table).hosts host_at reaches.host host_same)
      (global_same (reach_of table).global reaches.global))) where
        threads : List Ask
        threads = level_asks before cells levels.Thread

        accounts : List Ask
        accounts = emptied (reach_of table).accounts before cells levels.Account

        users : List Ask
        users = emptied (reach_of table).users before cells levels.User

        hosts : List Ask
        hosts = emptied (reach_of table).hosts before cells levels.Host

        global : List Ask
        global = cleared (reach_of table).global cells
