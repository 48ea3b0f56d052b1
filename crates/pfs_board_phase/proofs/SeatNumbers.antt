-- The actors of a phase have the numbers of their blocks.
use Rattle.std.proofs.Common.{ℕ, ◌≡◌, ◌+◌, List, [], ◌∷◌, ◌++◌, inl, inr, length, length-append, refl, ap, ◌∙◌, subst, arith}
use Rattle.pfs_board.specs.History.{Each}
use Rattle.pfs_board_root.specs.Roots.{RootView, opening_at}
use Rattle.pfs_board_run.specs.BoardRuns.{newest_first, share_of_each}
use Rattle.pfs_board_store.specs.RootActors.{Worked, calls_of_all}
use Rattle.pfs_board_tables.specs.EndTables.{AreListed, HasMet}
use Rattle.pfs_classes.specs.declared.setting.Setting.{Setting}
use Rattle.pfs_journal.specs.declared.report.PhaseParts.{PhaseParts}
use Rattle.pfs_journal.specs.declared.values.TableReport.{TableReport}
use Rattle.pfs_law_board.specs.PhaseEnds.{IsQuiet}
use Rattle.pfs_law_plain.specs.Spells.{Spell, doings_calls}
use Rattle.pfs_law_shared.specs.Shares.{actors_of}
use Rattle.pfs_levels.specs.CallOrder.{AllCalls}
use Rattle.pfs_levels.specs.Calls.{Call, Opening}
use Rattle.pfs_board_phase.specs.SeatNumbers.{AreNumbered, IsOwn, newest_tables}
use Rattle.pfs_board_phase.proofs.PhaseActors.{AreOpened}

-- what the root did itself
pub all_own : (ws : List Worked) → Each (λ (w : Worked). w.start.board.number ≡ 0) ws → AllCalls IsQuiet (calls_of_all ws) → Each IsOwn ws
all_own [] numbers quiet = tt
all_own (w ∷ ws) numbers quiet = (record { number = numbers.0; quiet = quiet.0 }, all_own ws numbers.1 quiet.1)

pub all_quiet : (ws : List Worked) → Each IsOwn ws → AllCalls IsQuiet (calls_of_all ws)
all_quiet [] own = tt
all_quiet (w ∷ ws) own = (own.0.quiet, all_quiet ws own.1)

-- the root settled, read the tables of a phase, and settled again
pub closed_numbered : (setting : Setting) (tables : List TableReport) (shown : List (List TableReport)) (blocks : List (List Call)) (met reads : Worked) (own ws : List Worked)
    → Each IsOwn (met ∷ (reads ∷ own)) → Each HasMet (met ∷ own) → AreListed setting tables reads.calls → AreNumbered setting shown blocks ws → AreNumbered setting (tables ∷ shown) blocks ((met ∷ (reads ∷ own)) ++ ws)
closed_numbered setting tables shown blocks met reads own ws all meets listed n =
    inr (inr (all.0.number, meets.0, inr (inl ((all.1.0.number, listed), met_numbered own all.1.1 meets.1)))) where
      met_numbered : (own : List Worked) → Each IsOwn own → Each HasMet own → AreNumbered setting shown blocks (own ++ ws)
      met_numbered [] all meets = n
      met_numbered (w ∷ own) all meets = inr (inr (all.0.number, meets.0, met_numbered own all.1 meets.1))

pub newest_then : (reports : List PhaseParts) (report : PhaseParts) → newest_tables (reports ++ report ∷ []) ≡ report.tables ∷ newest_tables reports
newest_then [] report = refl
newest_then (r ∷ reports) report = ap (λ z. z ++ r.tables ∷ []) (newest_then reports report)

-- each has the number of how many there are up to it, behind so many
abbrev AreDown : ℕ → List Worked → Type 0
AreDown k [] = Unit {0}
AreDown k (w ∷ ws) = (w.start.board.number ≡ k + length (w ∷ ws)) × AreDown k ws

down_push : (k : ℕ) (ws : List Worked) (w : Worked) → AreDown (k + 1) ws → w.start.board.number ≡ k + 1 → AreDown k (ws ++ w ∷ [])
down_push k [] w down is = (omega (arith, is), tt)
down_push k (x ∷ ws) w down is = (omega (arith, down.0, length-append ws (w ∷ [])), down_push k ws w down.1 is)

calls_long : (ws : List Worked) → length (calls_of_all ws) ≡ length ws
calls_long [] = refl
calls_long (w ∷ ws) = omega (arith, calls_long ws)

down_numbered : (setting : Setting) (shown : List (List TableReport)) (k : ℕ) (blocks : List (List Call)) (ws others : List Worked) → length blocks ≡ k → AreDown k ws → AreNumbered setting shown blocks others
    → AreNumbered setting shown (calls_of_all ws ++ blocks) (ws ++ others)
down_numbered setting shown k blocks [] others long down n = n
down_numbered setting shown k blocks (w ∷ ws) others long down n =
    inl ((refl, omega (arith, down.0, long, calls_long ws, length-append (calls_of_all ws) blocks)), down_numbered setting shown k blocks ws others long down.1 n)

-- those that were split off one after another
opened_down : (flags : List ℕ) (r : RootView) (k : ℕ) (ws : List Worked) → AreOpened (λ n. opening_at flags r share_of_each share_of_each n) (k + 1) ws → AreDown (r.seat.seats + k) (newest_first ws)
opened_down flags r k [] are = tt
opened_down flags r k (w ∷ ws) are =
    down_push (r.seat.seats + k) (newest_first ws) w (subst (λ n. AreDown n (newest_first ws)) (omega arith) (opened_down flags r (k + 1) ws are.1)) (omega (arith, ap (λ (o : Opening). o.board.number) are.0))

pub next_numbered : (setting : Setting) (shown : List (List TableReport)) (flags : List ℕ) (r : RootView) (blocks : List (List Call)) (ws others : List Worked) → length blocks ≡ r.seat.seats
    → AreOpened (λ n. opening_at flags r share_of_each share_of_each n) 1 ws → AreNumbered setting shown blocks others → AreNumbered setting shown (calls_of_all (newest_first ws) ++ blocks) (newest_first ws ++ others)
next_numbered setting shown flags r blocks ws others long are n =
    down_numbered setting shown r.seat.seats blocks (newest_first ws) others long (subst (λ k. AreDown k (newest_first ws)) (omega arith) (opened_down flags r 0 ws are)) n

-- one actor for each spell
pub actors_long : (spells : List Spell) → length (actors_of spells) ≡ length spells
actors_long [] = refl
actors_long (s ∷ ss) = omega (arith, actors_long ss, length-append (actors_of ss) (doings_calls s.doings ∷ []))
