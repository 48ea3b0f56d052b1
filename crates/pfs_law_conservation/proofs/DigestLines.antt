-- The lines of digests are acted: a TRUNCATE of their table takes all of their rows, and nothing else takes one.
use Rattle.std.proofs.Common.{◌≡◌, refl, ℕ, zero, suc, ◌<◌, ◌≤◌, ◌==◌, ◌&&◌, Bool, true, false, cond, nat_lt, nat_le, List, [], ◌∷◌, ◌++◌, length, take, count_by, sym, ap, subst, ◌∙◌, arith}
use Rattle.std.proofs.lemmas.Option.{slice_get_past}
use Rattle.std.proofs.lemmas.Bool.{ltb-false, ltb-true}
use Rattle.pfs_conservation.specs.ActionMoves.{moves_of}
use Rattle.pfs_conservation.specs.RowChains.{Change, Added, Taken, Given}
use Rattle.pfs_conservation.specs.DigestClears.{held, clears}
use Rattle.pfs_conservation.specs.PrintedChanges.{Tagged, change_of}
use Rattle.pfs_conservation.specs.RowMoves.{Move}
use Rattle.pfs_conservation.specs.Prints.{Print, is_move, printed_by, prints_all, AreActed}
use Rattle.pfs_model.specs.ActionAsks.{did, of_action}
use Rattle.pfs_model.specs.Chains.{Each, action_change, each_of}
use Rattle.pfs_model.specs.EntryPlaces.{Placed, places}
use Rattle.pfs_model.specs.SummaryCounts.{is_digest_row}
use Rattle.pfs_runs.specs.Labels.{label_at, asked_at}
use Rattle.pfs_law_conservation.specs.RunDigests.{digest_rows, clears_by, digest_lines_to, clears_to, DigestActedLaw}
use Rattle.pfs_law_conservation.specs.Premises.{AreKept}
use Rattle.pfs_law_conservation.specs.RunTerms.{Run, entries_to, actions_to}
use Rattle.pfs_law_conservation.specs.KindLines.{all_lines}
use Rattle.pfs_law_conservation.proofs.DigestMoves.{none_cleared, asked_rows, alike_rows}
use Rattle.pfs_law_conservation.proofs.DigestRanges.{row_above, row_below, row_range}
use Rattle.pfs_law_conservation.proofs.RowActions.{never_falls}
use Rattle.pfs_law_conservation.proofs.PlaceFolds.{front_get, front_length}
use Rattle.pfs_law_conservation.proofs.ActionPhases.{early_did}
use Rattle.pfs_law_conservation.proofs.PrintedMoves.{prints, prints_on, moves_as, asked_prints, on_moves}
use Rattle.pfs_law_conservation.proofs.ChosenLines as rowed
use Rattle.pfs_law_conservation.proofs.ActionJournals.{actor}
use Rattle.pfs_law_conservation.proofs.RowLines.{sifted}

-- a row of no cell is none of a digest either
pub low : (row : ℕ) → row < 129 → is_digest_row row ≡ false
low row l = row_below row (omega (arith, l))

module _ (run : Run) (phase : ℕ) (kept : AreKept run) where
  abbrev all : List Placed
  all = places run.blocks

  abbrev so_far : List Placed
  so_far = entries_to run phase

  abbrev count : ℕ
  count = length (each_of action_change so_far)

  abbrev lines : List Tagged
  lines = digest_lines_to run phase

  abbrev moves : ℕ → List Move
  moves action = moves_of held (clears (clears_to run phase) (digest_rows run.setting)) action (digest_rows run.setting)

  few : count ≤ length run.labels
  few = rowed.few is_digest_row row_above low run phase kept

  printed : (action : ℕ) → printed_by lines action ≡ prints_on is_digest_row (prints action (each_of did (of_action action so_far)))
  printed = rowed.printed is_digest_row row_above low run phase kept

  nothing : (action : ℕ) → (1 ≤ action → action ≤ count → ⊥) → printed_by lines action ≡ []
  nothing = rowed.nothing is_digest_row row_above low run phase kept

  -- the labels up to there are the first of all
  early : (k : ℕ) → k < count → clears_to run phase (suc k) ≡ clears_by run.change (label_at run.labels (suc k))
  early k l = ap (clears_by run.change) (front_get run.labels count k l)

  late : (k : ℕ) → count ≤ k → clears_to run phase (suc k) ≡ false
  late k l = ap (clears_by run.change) (slice_get_past (take count run.labels) k (let e : length (take count run.labels) ≡ count = front_length run.labels count few in omega (arith, e, l)))

  asks : (action : ℕ) → printed_by lines action ≡ prints_all run.counted (moves action)
  asks zero = nothing 0 (λ l h. omega (arith, l)) ∙ sym (ap (prints_all run.counted) (none_cleared 0 run.setting (clears_to run phase) refl))
  asks (suc k) = at (nat_lt k count) refl where
    at : (b : Bool) → nat_lt k count ≡ b → printed_by lines (suc k) ≡ prints_all run.counted (moves (suc k))
    at true q =
        let l : k < count = ltb-true k count q in
        printed (suc k)
        ∙ (ap (λ ds. prints_on is_digest_row (prints (suc k) ds)) (early_did phase all kept.rules.joint.ordered.numbers (suc k) (omega arith) (omega (arith, l)) (rowed.said is_digest_row row_above low run phase kept) ∙ kept.rules.done (suc k) (omega arith))
        ∙ (ap (prints_on is_digest_row) (asked_prints run.counted (suc k) (asked_at run.setting run.change run.labels (suc k)))
        ∙ (on_moves is_digest_row run.counted (moves_as (suc k) (asked_at run.setting run.change run.labels (suc k)).moves) (alike_rows run.setting run.change run.labels (suc k))
        ∙ ap (prints_all run.counted) (asked_rows run.setting run.change run.labels (suc k) (clears_to run phase) (early k l)))))
    at false q =
        nothing (suc k) (λ a h. (let l : count ≤ k = ltb-false k count q in omega (arith, l, h)))
        ∙ sym (ap (prints_all run.counted) (none_cleared (suc k) run.setting (clears_to run phase) (late k (ltb-false k count q))))

  pub digest_acted : AreActed run.counted
      (λ action. moves_of held (clears (clears_to run phase) (digest_rows run.setting)) action (digest_rows run.setting))
      (length (actions_to run phase)) (digest_lines_to run phase)
  digest_acted = record {
    low = λ row version change s. (let l : row < 8450 = (row_range row (sifted is_digest_row (all_lines so_far) row version change s).0).1 in omega (arith, l));
    within = rowed.within is_digest_row row_above low run phase kept;
    once = rowed.once is_digest_row row_above low run phase kept;
    numbers = rowed.numbers is_digest_row row_above low run phase kept;
    never_fall = never_falls is_digest_row (λ (p : Placed). nat_le p.phase phase) all kept.rules.joint.ordered.deeds;
    by = actor so_far;
    are_by = rowed.are_by is_digest_row row_above low run phase kept;
    rises = rowed.rises is_digest_row row_above low run phase kept;
    asks = asks;
  }

-- what is printed of each action holds of each line that moves
printed_each : (P : Print → Type 0) (lines : List Tagged) → ((action : ℕ) → Each P (printed_by lines action))
    → Each (λ (line : Tagged). is_move line.kind ≡ true → P (record { row = line.row; change = change_of line })) lines
printed_each P [] h = tt
printed_each P (line ∷ lines) h = (own, printed_each P lines (λ action. rest action (is_move line.kind && (line.action == action)) (h action))) where
  self : (n : ℕ) → (n == n) ≡ true
  self n = grind arith

  x : Print
  x = record { row = line.row; change = change_of line }

  first : (b : Bool) → b ≡ true → Each P (cond b (x ∷ []) [] ++ printed_by lines line.action) → P x
  first true q e = e.0
  first false q e = absurd (cc)

  own : is_move line.kind ≡ true → P x
  own m = first (is_move line.kind && (line.action == line.action)) (ap (λ b. b && (line.action == line.action)) m ∙ self line.action) (h line.action)

  rest : (action : ℕ) (b : Bool) → Each P (cond b (x ∷ []) [] ++ printed_by lines action) → Each P (printed_by lines action)
  rest action true e = e.1
  rest action false e = e

-- each move is a take by an action that clears the table
abbrev pub IsClearing : (ℕ → Bool) → Change → Type 0
IsClearing cleared (Taken action) = cleared action ≡ true
IsClearing cleared (Added events) = ⊥
IsClearing cleared (Given action from) = ⊥

moves_clear : (counted : ℕ → ℕ → Bool) (cleared : ℕ → Bool) (rows some : List ℕ) (action : ℕ) → Each (λ (x : Print). IsClearing cleared x.change) (prints_all counted (moves_of held (clears cleared rows) action some))
moves_clear counted cleared rows [] action = tt
moves_clear counted cleared rows (row ∷ some) action = at (cleared action) refl (nat_lt 0 (count_by (λ r. r == row) rows)) (moves_clear counted cleared rows some action) where
  at : (a : Bool) → cleared action ≡ a → (b : Bool) → Each (λ (x : Print). IsClearing cleared x.change) (prints_all counted (moves_of held (clears cleared rows) action some))
      → Each (λ (x : Print). IsClearing cleared x.change) (prints_all counted (cond (a && b) (record { action = action; from = row; to = [] } ∷ []) [] ++ moves_of held (clears cleared rows) action some))
  at true q true h = (q, h)
  at true q false h = h
  at false q b h = h

pub clearing_lines : (run : Run) (phase : ℕ) → AreKept run → Each (λ (line : Tagged). is_move line.kind ≡ true → IsClearing (clears_to run phase) (change_of line)) (digest_lines_to run phase)
clearing_lines run phase kept =
    printed_each (λ (x : Print). IsClearing (clears_to run phase) x.change) (digest_lines_to run phase)
    (λ action. subst (Each (λ (x : Print). IsClearing (clears_to run phase) x.change)) (sym ((digest_acted run phase kept).asks action)) (moves_clear run.counted (clears_to run phase) (digest_rows run.setting) (digest_rows run.setting) action))

pub digest_acted_law : DigestActedLaw
digest_acted_law run phase kept = digest_acted run phase kept
