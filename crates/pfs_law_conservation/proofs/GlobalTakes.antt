-- Only a TRUNCATE of the kind's global summary takes a global row.
use Rattle.std.proofs.Common.{◌≡◌, refl, ℕ, suc, ◌+◌, ◌≤◌, ◌==◌, Bool, true, false, cond, List, [], ◌∷◌, ◌++◌, Option, Some, None, sym, ap, subst, ◌∙◌, inl, inr, arith}
use Rattle.std.proofs.lemmas.Bool.{eqb-true}
use Rattle.pfs_conservation.specs.ActionMoves.{moved_by, moves_of}
use Rattle.pfs_conservation.specs.AdministrationFold.{Summary, Accounts, Users, Hosts, Action, Connect, Quit, Truncate, Other, Found, lowest_free, found_where, connect_line, quit_line, line_of, numbered, state_before}
use Rattle.pfs_conservation.specs.RowChains.{Taken}
use Rattle.pfs_conservation.specs.PlaceFolds.{Session, Global, State, Level, ByThread, ByAccount, ByUser, ByHost, ByAll, Truncates, Others, line_takes}
use Rattle.pfs_conservation.specs.PrintedChanges.{Tagged, Stands}
use Rattle.pfs_conservation.specs.RowMoves.{Move}
use Rattle.pfs_conservation.specs.Prints.{prints_all, printed_by}
use Rattle.pfs_conservation.specs.CellHolders.{Seat, holder_of, takes_by, opened_by}
use Rattle.pfs_conservation.specs.Tenures.{Owner}
use Rattle.pfs_event.specs.declared.entry.Entry.{Entry}
use Rattle.pfs_event.specs.declared.entry.Entry.TheVariants as says
use Rattle.pfs_model.specs.Actions.{IsAmong}
use Rattle.pfs_model.specs.Chains.{Each, times}
use Rattle.pfs_model.specs.EntryPlaces.{Placed}
use Rattle.pfs_rows.specs.Rows.{row_number}
use Rattle.pfs_rows.specs.Tables.{kind_number}
use Rattle.pfs_rows.specs.declared.place.Place.TheVariants.{GlobalCell}
use Rattle.pfs_rows.specs.declared.table.TableKind.{TableKind}
use Rattle.pfs_law_conservation.specs.RunActions.{moves_at}
use Rattle.pfs_law_conservation.specs.KindRows.{cells_of, board, limits_of, is_kind_row, kind_rows}
use Rattle.pfs_law_conservation.specs.ConservationLaws.{ClearedLaw}
use Rattle.pfs_law_conservation.specs.Premises.{AreKept}
use Rattle.pfs_law_conservation.specs.RunTerms.{Run, entries_to, actions_to, lines_to, IsCleared}
use Rattle.pfs_law_conservation.proofs.ActedLines.{acted}
use Rattle.pfs_law_conservation.proofs.KindRows.{low_cell, board_good, row_here}
use Rattle.pfs_law_conservation.proofs.KindContents.{taken_line}
use Rattle.pfs_law_conservation.proofs.RowRanges.{AreNone}
use Rattle.pfs_law_conservation.proofs.SlotMoves.{AreBack, AreFound}
use Rattle.pfs_law_conservation.proofs.SingleTakes.{is_take, is_take_at, is_taken, two_takes, take_stands, takes_printed, takes_moved}
use Rattle.pfs_law_conservation.proofs.EntrySources.{IsTaken}

-- of all actions only that one takes a global row
cleared_by : (kind : ℕ) (s : State) (action : Action) → line_takes (line_of kind s action) Global ≡ true → action ≡ Truncate (Summary kind ByAll)
cleared_by kind s (Connect number user host) h = absurd (on (lowest_free s.threads) h) where
  on : (o : Option ℕ) → line_takes (connect_line s number user host o) Global ≡ true → ⊥
  on None h = cc
  on (Some slot) h = cc
cleared_by kind s (Quit number) h = absurd (on (found_where (λ x. x.number == number) s.threads) h) where
  on : (o : Option (Found Session)) → line_takes (quit_line o) Global ≡ true → ⊥
  on None h = cc
  on (Some found) h = cc
cleared_by kind s (Truncate (Summary number level)) h = at (number == kind) refl level h where
  at : (b : Bool) → (number == kind) ≡ b → (level : Level) → line_takes (cond b (Truncates level) Others) Global ≡ true → Truncate (Summary number level) ≡ Truncate (Summary kind ByAll)
  at true q ByAll h = ap (λ (n : ℕ). Truncate (Summary n ByAll)) (eqb-true number kind q)
  at true q ByThread h = absurd (cc)
  at true q ByAccount h = absurd (cc)
  at true q ByUser h = absurd (cc)
  at true q ByHost h = absurd (cc)
  at false q level h = absurd (cc)
cleared_by kind s (Truncate Accounts) h = absurd (cc)
cleared_by kind s (Truncate Users) h = absurd (cc)
cleared_by kind s (Truncate Hosts) h = absurd (cc)
cleared_by kind s Other h = absurd (cc)

-- what is moved is taken
moved_taken : (holder : ℕ → ℕ → Option Owner) (takes : ℕ → ℕ → Bool) (action row : ℕ) (rows : List ℕ) → 1 ≤ times (λ (m : Move). m.from == row) (moves_of holder takes action rows) → takes action row ≡ true
moved_taken holder takes action row [] l = absurd (omega (arith, l))
moved_taken holder takes action row (r ∷ rows) l = at (takes action r) refl (holder action r) l (moved_taken holder takes action row rows) where
  at : (b : Bool) → takes action r ≡ b → (o : Option Owner) → 1 ≤ times (λ (m : Move). m.from == row) (cond b (moved_by o action r) [] ++ moves_of holder takes action rows)
      → (1 ≤ times (λ (m : Move). m.from == row) (moves_of holder takes action rows) → takes action row ≡ true) → takes action row ≡ true
  at false q o l go = go l
  at true q None l go = go l
  at true q (Some owner) l go = own (r == row) refl l where
    own : (b : Bool) → (r == row) ≡ b → 1 ≤ cond {A = ℕ} b 1 0 + times (λ (m : Move). m.from == row) (moves_of holder takes action rows) → takes action row ≡ true
    own true e l = ap (takes action) (sym (eqb-true r row e)) ∙ q
    own false e l = go (omega (arith, l))

module _ (back : AreBack) (found : AreFound) (none : AreNone) (run : Run) (kind : TableKind) (phase : ℕ) (kept : AreKept run) (cell : ℕ) (low : cells_of run.setting kind cell ≡ true) where
  abbrev is_cell : ℕ → Bool
  is_cell = cells_of run.setting kind

  abbrev row : ℕ
  row = row_number (GlobalCell cell)

  abbrev lines : List Tagged
  lines = lines_to run kind phase

  abbrev holder : ℕ → ℕ → Option Owner
  holder = holder_of (board (cells_of run.setting kind)) (opened_by (limits_of run.setting)) (numbered (actions_to run phase))

  abbrev takes : ℕ → ℕ → Bool
  takes = takes_by (board (cells_of run.setting kind)) (opened_by (limits_of run.setting)) (numbered (actions_to run phase)) (kind_number kind)

  took : (action version : ℕ) → Stands lines row version (Taken action) → takes_by (board (cells_of run.setting kind)) (opened_by (limits_of run.setting)) (numbered (actions_to run phase)) (kind_number kind) action (row_number (GlobalCell cell)) ≡ true
  unfolding kind_rows
  took action version s =
      let stands : 1 ≤ times (is_take_at action row version) lines = take_stands action row version lines s in
      let two : times (is_take_at action row version) lines + times (is_take_at action row (suc version)) lines ≤ times (is_take action row) lines = two_takes action row version (suc version) lines (omega arith) in
      let a : times (is_take action row) lines ≤ times (is_taken action row) (printed_by lines action) = takes_printed action row lines in
      let e : times (is_taken action row) (printed_by lines action) ≡ times (is_taken action row) (prints_all run.counted (moves_at run.setting kind (actions_to run phase) action)) =
      ap (times (is_taken action row)) ((acted back found none run kind phase kept).asks action) in
      let b : times (is_taken action row) (prints_all run.counted (moves_at run.setting kind (actions_to run phase) action)) ≤ times (λ (m : Move). m.from == row) (moves_at run.setting kind (actions_to run phase) action) =
      takes_moved run.counted action row (moves_at run.setting kind (actions_to run phase) action) in
      moved_taken holder takes action row (kind_rows is_cell) (omega (arith, stands, two, a, e, b))

  cleared_at : (action version : ℕ) → Stands lines row version (Taken action) → numbered (actions_to run phase) action ≡ Truncate (Summary (kind_number kind) ByAll)
  cleared_at action version s =
      cleared_by (kind_number kind) (state_before (opened_by (limits_of run.setting)) (numbered (actions_to run phase)) action) (numbered (actions_to run phase) action)
      (ap (λ (z : Seat). line_takes (line_of (kind_number kind) (state_before (opened_by (limits_of run.setting)) (numbered (actions_to run phase)) action) (numbered (actions_to run phase) action)) z.place)
      (sym ((board_good back found none is_cell (low_cell run.setting kind)).seats cell Global low tt)) ∙ took action version s)

  taken_here : (p : Placed) (at version : ℕ) (ps : List Placed) → IsAmong p ps → p.entry ≡ says.Take at version → IsTaken ps p.context.action at version
  taken_here p at version [] m e = absurd m
  taken_here p at version (x ∷ ps) (inl q) e = inl (ap (λ (z : Placed). z.context.action) q, ap (λ (z : Placed). z.entry) q ∙ e)
  taken_here p at version (x ∷ ps) (inr m) e = inr (taken_here p at version ps m e)

  each_among : (P : Placed → Type 0) (ps : List Placed) → ((p : Placed) → IsAmong p ps → P p) → Each P ps
  each_among P [] h = tt
  each_among P (p ∷ ps) h = (h p (inl refl), each_among P ps (λ x m. h x (inr m)))

  pub cleared : Each (λ (place : Placed). IsCleared run kind phase (row_number (GlobalCell cell)) place place.entry) (entries_to run phase)
  cleared = each_among _ (entries_to run phase) (λ p m. by p m p.entry refl) where
    by : (p : Placed) → IsAmong p (entries_to run phase) → (e : Entry) → p.entry ≡ e → IsCleared run kind phase (row_number (GlobalCell cell)) p e
    by p m (says.Take at version) q = λ same.
        cleared_at p.context.action version
        (taken_line (is_kind_row is_cell) (entries_to run phase) p.context.action row version (row_here back found none is_cell (low_cell run.setting kind) cell Global low tt)
        (subst (λ r. IsTaken (entries_to run phase) p.context.action r version) same (taken_here p at version (entries_to run phase) m q)))
    by p m _ q = tt

pub cleared_law : AreBack → AreFound → AreNone → ClearedLaw
cleared_law back found none run kind phase kept cell low = cleared back found none run kind phase kept cell low
