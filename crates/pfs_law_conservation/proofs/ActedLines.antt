-- The lines of a kind are acted.
use Rattle.std.proofs.Common.{◌≡◌, refl, ℕ, zero, suc, ◌<◌, ◌≤◌, Bool, true, false, nat_lt, nat_le, List, [], length, sym, ap, ◌∙◌, arith}
use Rattle.std.proofs.lemmas.Bool.{ltb-false, ltb-true}
use Rattle.pfs_conservation.specs.PrintedChanges.{Tagged, standing}
use Rattle.pfs_conservation.specs.Prints.{AreActed, printed_by, prints_all}
use Rattle.pfs_model.specs.Actions.{is_acted}
use Rattle.pfs_model.specs.ActionAsks.{did, of_action}
use Rattle.pfs_model.specs.Chains.{Each, action_change, row_change, each_of, IsChained}
use Rattle.pfs_model.specs.EntryPlaces.{Placed, places}
use Rattle.pfs_rows.specs.declared.table.TableKind.{TableKind}
use Rattle.pfs_runs.specs.Labels.{asked_at}
use Rattle.pfs_law_conservation.specs.RunActions.{moves_at}
use Rattle.pfs_law_conservation.specs.KindRows.{cells_of, is_kind_row}
use Rattle.pfs_law_conservation.specs.ConservationLaws.{ActedLaw}
use Rattle.pfs_law_conservation.specs.Premises.{AreKept}
use Rattle.pfs_law_conservation.specs.RunTerms.{Run, entries_to, actions_to, lines_to}
use Rattle.pfs_law_conservation.specs.KindLines.{all_lines}
use Rattle.pfs_law_conservation.proofs.LabelMoves.{asks_are, alike_are, none_are}
use Rattle.pfs_law_conservation.proofs.LineVersions.{AreCells}
use Rattle.pfs_law_conservation.proofs.RowActions.{never_falls}
use Rattle.pfs_law_conservation.proofs.PlaceFolds.{numbered_past}
use Rattle.pfs_law_conservation.proofs.ActionPhases.{early_did}
use Rattle.pfs_law_conservation.proofs.PrintedMoves.{prints, prints_on, moves_as, asked_prints, on_moves}
use Rattle.pfs_law_conservation.proofs.RowRanges.{AreNone, outside, kind_range}
use Rattle.pfs_law_conservation.proofs.ChosenLines as rowed
use Rattle.pfs_law_conservation.proofs.ActionJournals.{HasNumber, actor}
use Rattle.pfs_law_conservation.proofs.SlotMoves.{AreBack, AreFound}
use Rattle.pfs_law_conservation.proofs.RowLines.{sifted}

module _ (back : AreBack) (found : AreFound) (none : AreNone) (run : Run) (kind : TableKind) (phase : ℕ) (kept : AreKept run) where
  abbrev all : List Placed
  all = places run.blocks

  abbrev so_far : List Placed
  so_far = entries_to run phase

  abbrev test : ℕ → Bool
  test = is_kind_row (cells_of run.setting kind)

  abbrev count : ℕ
  count = length (each_of action_change so_far)

  abbrev lines : List Tagged
  lines = lines_to run kind phase

  high : (row : ℕ) → 8450 ≤ row → test row ≡ false
  high row l = outside back found none (cells_of run.setting kind) row (λ a b. omega (arith, l, b))

  low : (row : ℕ) → row < 129 → test row ≡ false
  low row l = outside back found none (cells_of run.setting kind) row (λ a b. omega (arith, l, a))

  pub said : Each (HasNumber all) all
  said = rowed.said test high low run phase kept

  pub first : (p : Placed) → HasNumber all p → is_acted p.entry ≡ true → 0 < p.context.action
  first = rowed.first test high low run phase kept

  pub cells : AreCells test so_far
  cells = rowed.cells test high low run phase kept

  pub chain : IsChained (each_of row_change so_far)
  chain = rowed.chain test high low run phase kept

  pub once : (row version : ℕ) → length (standing lines row version) ≤ 1
  once = rowed.once test high low run phase kept

  few : count ≤ length run.labels
  few = rowed.few test high low run phase kept

  counted : length (actions_to run phase) ≡ count
  counted = rowed.counted test high low run phase kept

  printed : (action : ℕ) → printed_by lines action ≡ prints_on test (prints action (each_of did (of_action action so_far)))
  printed = rowed.printed test high low run phase kept

  nothing : (action : ℕ) → (1 ≤ action → action ≤ count → ⊥) → printed_by lines action ≡ []
  nothing = rowed.nothing test high low run phase kept

  asks : (action : ℕ) → printed_by lines action ≡ prints_all run.counted (moves_at run.setting kind (actions_to run phase) action)
  asks zero = nothing 0 (λ l h. omega (arith, l)) ∙ sym (ap (prints_all run.counted) (none_are back found run.setting run.change run.labels kind (actions_to run phase) 0 refl))
  asks (suc k) = at (nat_lt k count) refl where
    at : (b : Bool) → nat_lt k count ≡ b → printed_by lines (suc k) ≡ prints_all run.counted (moves_at run.setting kind (actions_to run phase) (suc k))
    at true q =
        let l : k < count = ltb-true k count q in
        let f : count ≤ length run.labels = few in
        printed (suc k)
        ∙ (ap (λ ds. prints_on test (prints (suc k) ds)) (early_did phase all kept.rules.joint.ordered.numbers (suc k) (omega arith) (omega (arith, l)) said ∙ kept.rules.done (suc k) (omega arith))
        ∙ (ap (prints_on test) (asked_prints run.counted (suc k) (asked_at run.setting run.change run.labels (suc k)))
        ∙ (on_moves test run.counted (moves_as (suc k) (asked_at run.setting run.change run.labels (suc k)).moves) (alike_are back found run.setting run.change run.labels kind k (omega (arith, l, f)))
        ∙ ap (prints_all run.counted) (asks_are back found run.setting run.change run.labels kind count few k l))))
    at false q =
        let l : count ≤ k = ltb-false k count q in
        let c : length (actions_to run phase) ≡ count = counted in
        nothing (suc k) (λ a h. omega (arith, l, h))
        ∙ sym (ap (prints_all run.counted) (none_are back found run.setting run.change run.labels kind (actions_to run phase) (suc k) (numbered_past (actions_to run phase) k (omega (arith, c, l)))))

  pub acted : AreActed run.counted (moves_at run.setting kind (actions_to run phase)) (length (actions_to run phase)) (lines_to run kind phase)
  acted = record {
    low = λ row version change s. let r : (129 ≤ row) × (row < 8385) = kind_range back found none (cells_of run.setting kind) row (sifted test (all_lines so_far) row version change s).0 in let l : row < 8385 = r.1 in omega (arith, l);
    within = rowed.within test high low run phase kept;
    once = once;
    numbers = rowed.numbers test high low run phase kept;
    never_fall = never_falls test (λ (p : Placed). nat_le p.phase phase) all kept.rules.joint.ordered.deeds;
    by = actor so_far;
    are_by = rowed.are_by test high low run phase kept;
    rises = rowed.rises test high low run phase kept;
    asks = asks;
  }

pub acted_law : AreBack → AreFound → AreNone → ActedLaw
acted_law back found none run kind phase kept = acted back found none run kind phase kept
