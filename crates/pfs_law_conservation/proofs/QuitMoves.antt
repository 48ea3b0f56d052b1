-- What the administration asks of an action, among the rows of a kind, is what the fold moves there.
use Rattle.std.proofs.Common.{◌≡◌, refl, ℕ, zero, suc, ◌+◌, ◌-◌, ◌*◌, ◌<◌, ◌≤◌, ◌&&◌, Bool, true, false, cond, nat_lt, nat_le, List, [], ◌∷◌, ◌++◌, length, Option, Some, None, IfSome, sym, ap, subst, ◌∙◌, arith}
use Rattle.std.specs.List.{range_with_len}
use Rattle.std.proofs.lemmas.Option.{slice_get_past}
use Rattle.pfs_classes.specs.declared.classes.Class.{Class}
use Rattle.pfs_conservation.specs.AdministrationFold.{found_where, one_up, Found}
use Rattle.pfs_conservation.specs.PlaceFolds.{Place, Thread, Account, User, Host, Global, Elsewhere, Quits, entry_at, line_takes, thread_ups}
use Rattle.pfs_conservation.specs.RowMoves.{Move}
use Rattle.pfs_conservation.specs.CellHolders.{rows_of}
use Rattle.pfs_levels.specs.Flushes.{upper, asks_of}
use Rattle.pfs_levels.specs.declared.flushes.Source.TheVariants as of
use Rattle.pfs_levels.specs.declared.places.Up.{Up}
use Rattle.pfs_law_session.specs.Demands.{moves_asked}
use Rattle.pfs_model.specs.Chains.{Each}
use Rattle.pfs_readsets.specs.TablePlaces.{is_kind_cell}
use Rattle.pfs_rows.specs.declared.table.TableKind.{TableKind}
use Rattle.pfs_rows.specs.declared.table.TableKind.TheVariants.{Waits, Stages, Statements, Transactions}
use Rattle.pfs_law_conservation.specs.KindRows.{board, is_kind_row}
use Rattle.pfs_law_conservation.proofs.PrintedMoves.{moves_as, moves_on, AreAlike, AllAlike}
use Rattle.pfs_law_conservation.proofs.SlotMoves.{AreBack, is_slot, thread_kind, account_kind, user_kind, host_kind, global_kind}

-- a place that was found is there
pub record IsThere {X : Type 0} (test : X → Bool) (xs : List (Option X)) (f : Found X) : Type 0 where
  pub entry : entry_at xs f.place ≡ Some f.entry
  pub passes : test f.entry ≡ true
  pub within : f.place < length xs

pub found_there : {X : Type 0} (test : X → Bool) (xs : List (Option X)) (f : Found X) → found_where test xs ≡ Some f → IsThere test xs f
found_there test [] f q = absurd (cc)
found_there {X = X} test (None ∷ xs) f q = up (found_where test xs) refl q (found_there test xs) where
  up : (o : Option (Found X)) → found_where test xs ≡ o → one_up o ≡ Some f → ((g : Found X) → found_where test xs ≡ Some g → IsThere test xs g) → IsThere test (None ∷ xs) f
  up None e q go = absurd (cc)
  up (Some g) e q go =
      let t : IsThere test xs g = go g e in
      let w : g.place < length xs = t.within in
      let same : record { place = suc g.place; entry = g.entry } ≡ f = cc in
      subst (IsThere test (None ∷ xs)) same (record { entry = t.entry; passes = t.passes; within = omega (arith, w) })
found_there {X = X} test (Some x ∷ xs) f q = at (test x) refl q (found_there test xs) where
  up : (o : Option (Found X)) → found_where test xs ≡ o → one_up o ≡ Some f → ((g : Found X) → found_where test xs ≡ Some g → IsThere test xs g) → IsThere test (Some x ∷ xs) f
  up None e q go = absurd (cc)
  up (Some g) e q go =
      let t : IsThere test xs g = go g e in
      let w : g.place < length xs = t.within in
      let same : record { place = suc g.place; entry = g.entry } ≡ f = cc in
      subst (IsThere test (Some x ∷ xs)) same (record { entry = t.entry; passes = t.passes; within = omega (arith, w) })

  at : (b : Bool) → test x ≡ b → cond b (Some (record { place = 0; entry = x })) (one_up (found_where test xs)) ≡ Some f → ((g : Found X) → found_where test xs ≡ Some g → IsThere test xs g) → IsThere test (Some x ∷ xs) f
  at true p q go = let same : record { place = 0; entry = x } ≡ f = cc in subst (IsThere test (Some x ∷ xs)) same (record { entry = refl; passes = p; within = omega arith })
  at false p q go = up (found_where test xs) refl q go

-- cells of no class are of no kind
pub kind_past : (classes : List Class) (kind : TableKind) (cell : ℕ) → length classes ≤ cell → cell < 62 → is_kind_cell classes kind cell ≡ false
kind_past classes Waits cell l h = rw (slice_get_past classes cell l) refl
kind_past classes Stages cell l h = rw (slice_get_past classes cell l) refl
kind_past classes Statements cell l h = rw (slice_get_past classes cell l) refl
kind_past classes Transactions cell l h = low cell h where
  low : (c : ℕ) → c < 62 → (nat_le 62 c && nat_lt c 64) ≡ false
  low c h = grind arith

-- where a thread's cell goes, in both words
pub ups_are : (is_cell : ℕ → Bool) (cell number user_name host_name : ℕ) (account user host : Option ℕ)
    → thread_ups (rows_of (board is_cell) cell) (record { number = number; user_name = user_name; host_name = host_name; account = account; user = user; host = host }) ≡ upper account user host cell
ups_are is_cell cell number user_name host_name (Some account) user host = refl
ups_are is_cell cell number user_name host_name None (Some user) (Some host) = refl
ups_are is_cell cell number user_name host_name None (Some user) None = refl
ups_are is_cell cell number user_name host_name None None (Some host) = refl
ups_are is_cell cell number user_name host_name None None None = refl

pub takes_slot : (slot : ℕ) (place : Place) → line_takes (Quits slot) place ≡ is_slot slot place
takes_slot slot (Thread t) = refl
takes_slot slot (Account a) = refl
takes_slot slot (User u) = refl
takes_slot slot (Host h) = refl
takes_slot slot Global = refl
takes_slot slot Elsewhere = refl

-- places below 32
abbrev pub IsLow : Option ℕ → Type 0
IsLow place = IfSome place (λ n. n < 32)

module _ (back : AreBack) (is_cell : ℕ → Bool) (action slot : ℕ) (low : slot < 32) (account user host : Option ℕ) (account_low : IsLow account) (user_low : IsLow user) (host_low : IsLow host) where
  up : Up
  up = record { place = slot; account = account; user = user; host = host }

  abbrev pub moved : ℕ → Move
  moved cell = record { action = action; from = 129 + 64 * slot + cell; to = upper account user host cell }

  abbrev pub moved_cells : List ℕ → List Move
  moved_cells [] = []
  moved_cells (cell ∷ cells) = cond (is_cell cell) (moved cell ∷ []) [] ++ moved_cells cells

  -- the cells that are asked, but for those of other kinds
  pub asked_cells : (cells : List ℕ) → Each (λ cell. cell < 64) cells
      → moves_on (is_kind_row is_cell) (moves_as action (moves_asked (asks_of cells (of.Thread (record { place = slot; account = account; user = user; host = host }))))) ≡ moved_cells cells
  asked_cells [] h = refl
  asked_cells (cell ∷ cells) h = at (is_cell cell) (thread_kind back is_cell slot cell low h.0) (asked_cells cells h.1) where
    Rest : List Move
    Rest = moves_on (is_kind_row is_cell) (moves_as action (moves_asked (asks_of cells (of.Thread (record { place = slot; account = account; user = user; host = host })))))

    at : (b : Bool) → is_kind_row is_cell (129 + 64 * slot + cell) ≡ b → Rest ≡ moved_cells cells → cond (is_kind_row is_cell (129 + 64 * slot + cell)) (moved cell ∷ []) [] ++ Rest ≡ cond b (moved cell ∷ []) [] ++ moved_cells cells
    at b q ih = ap (λ z. cond z (moved cell ∷ []) [] ++ Rest) q ∙ ap (λ (z : List Move). cond b (moved cell ∷ []) [] ++ z) ih

  -- a cell's rows are of one kind
  alike : (cell : ℕ) → cell < 64 → AreAlike (is_kind_row is_cell) (129 + 64 * slot + cell) (upper account user host cell)
  alike cell c = by account user host account_low user_low host_low where
    own : is_cell cell ≡ is_kind_row is_cell (129 + 64 * slot + cell)
    own = sym (thread_kind back is_cell slot cell low c)

    by : (account user host : Option ℕ) → IsLow account → IsLow user → IsLow host → AreAlike (is_kind_row is_cell) (129 + 64 * slot + cell) (upper account user host cell)
    by (Some a) user host al ul hl = (account_kind back is_cell a cell al c ∙ own, tt)
    by None (Some u) (Some h) al ul hl = (user_kind back is_cell u cell ul c ∙ own, (host_kind back is_cell h cell hl c ∙ own, tt))
    by None (Some u) None al ul hl = (user_kind back is_cell u cell ul c ∙ own, (global_kind back is_cell cell c ∙ own, tt))
    by None None (Some h) al ul hl = (host_kind back is_cell h cell hl c ∙ own, tt)
    by None None None al ul hl = (global_kind back is_cell cell c ∙ own, tt)

  pub all_alike : (cells : List ℕ) → Each (λ cell. cell < 64) cells
      → AllAlike (is_kind_row is_cell) (moves_as action (moves_asked (asks_of cells (of.Thread (record { place = slot; account = account; user = user; host = host })))))
  all_alike [] h = tt
  all_alike (cell ∷ cells) h = (alike cell h.0, all_alike cells h.1)

-- cells one after another, and those between that are of no kind
module _ (is_cell : ℕ → Bool) (move : ℕ → Move) where
  abbrev pub cells_from : ℕ → ℕ → List Move
  cells_from cell zero = []
  cells_from cell (suc more) = cond (is_cell cell) (move cell ∷ []) [] ++ cells_from (cell + 1) more

  abbrev pub of_list : List ℕ → List Move
  of_list [] = []
  of_list (cell ∷ cells) = cond (is_cell cell) (move cell ∷ []) [] ++ of_list cells

  join : (b : Bool) (x : Move) (xs ys : List Move) → (cond b (x ∷ []) [] ++ xs) ++ ys ≡ cond b (x ∷ []) [] ++ (xs ++ ys)
  join true x xs ys = refl
  join false x xs ys = refl

  of_range : (cell more : ℕ) (cells : List ℕ) → of_list (range_with_len cell more ++ cells) ≡ cells_from cell more ++ of_list cells
  of_range cell zero cells = refl
  of_range cell (suc more) cells =
      ap (λ (z : List Move). cond (is_cell cell) (move cell ∷ []) [] ++ z) (of_range (cell + 1) more cells)
      ∙ sym (join (is_cell cell) (move cell) (cells_from (cell + 1) more) (of_list cells))

  from_then : (cell m n : ℕ) → cells_from cell (m + n) ≡ cells_from cell m ++ cells_from (cell + m) n
  from_then cell zero n = ap (λ k. cells_from cell k) (left n) ∙ ap (λ c. cells_from c n) (plus cell) where
    left : (n : ℕ) → 0 + n ≡ n
    left n = omega arith

    plus : (a : ℕ) → a ≡ a + 0
    plus a = omega arith
  from_then cell (suc m) n =
      ap (λ k. cells_from cell k) (more m n)
      ∙ ap (λ (z : List Move). cond (is_cell cell) (move cell ∷ []) [] ++ z) (from_then (cell + 1) m n ∙ ap (λ c. cells_from (cell + 1) m ++ cells_from c n) (shift cell m))
      ∙ sym (join (is_cell cell) (move cell) (cells_from (cell + 1) m) (cells_from (cell + suc m) n)) where
        shift : (a b : ℕ) → a + 1 + b ≡ a + suc b
        shift a b = omega arith

        more : (a b : ℕ) → suc a + b ≡ suc (a + b)
        more a b = omega arith

  none_from : (cell more : ℕ) → ((c : ℕ) → cell ≤ c → c < cell + more → is_cell c ≡ false) → cells_from cell more ≡ []
  none_from cell zero h = refl
  none_from cell (suc more) h =
      ap (λ z. cond z (move cell ∷ []) [] ++ cells_from (cell + 1) more) (h cell (omega arith) (omega arith))
      ∙ none_from (cell + 1) more (λ c l m. h c (omega (arith, l)) (omega (arith, m)))

  -- all 64 cells are those of the classes and the last two
  pub cells_all : (n : ℕ) → n ≤ 62 → ((c : ℕ) → n ≤ c → c < 62 → is_cell c ≡ false) → of_list (range_with_len 0 n ++ 62 ∷ 63 ∷ []) ≡ cells_from 0 64
  cells_all n l h =
      of_range 0 n (62 ∷ 63 ∷ [])
      ∙ (ap (λ (z : List Move). cells_from 0 n ++ z) (sym (middle n l h))
      ∙ (sym (from_then 0 n ((62 - n) + 2)) ∙ ap (λ k. cells_from 0 k) (total n l))) where
        total : (n : ℕ) → n ≤ 62 → n + ((62 - n) + 2) ≡ 64
        total n l = omega (arith, l)

        zero_plus : (n : ℕ) → 0 + n ≡ n
        zero_plus n = omega arith

        last : (n : ℕ) → n ≤ 62 → 0 + n + (62 - n) ≡ 62
        last n l = omega (arith, l)

        middle : (n : ℕ) → n ≤ 62 → ((c : ℕ) → n ≤ c → c < 62 → is_cell c ≡ false) → cells_from (0 + n) ((62 - n) + 2) ≡ of_list (62 ∷ 63 ∷ [])
        middle n l h =
            from_then (0 + n) (62 - n) 2
            ∙ (ap (λ (z : List Move). z ++ cells_from (0 + n + (62 - n)) 2) (none_from (0 + n) (62 - n) (λ c a b. h c (omega (arith, a)) (omega (arith, b, l))))
            ∙ ap (λ c. cells_from c 2) (last n l))
