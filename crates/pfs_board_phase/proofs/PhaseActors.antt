-- The actors of a phase as the root of a board has them.
use Rattle.std.proofs.Common.{ℕ, ◌≡◌, ◌≤◌, ◌<◌, ◌+◌, ◌*◌, List, [], ◌∷◌, ◌++◌, length, slice_index, refl, ap, ◌∙◌, subst, arith}
use Rattle.pfs_admin.specs.declared.changes.Change.{Change}
use Rattle.pfs_board.proofs.HistoryFacts.{each_append}
use Rattle.pfs_board.specs.History.{Each}
use Rattle.pfs_board.specs.declared.view.Change.{Change as Entry}
use Rattle.pfs_board.specs.declared.view.Label.{Label}
use Rattle.pfs_board_admin.specs.LabelWords.{AllKeepWords, version_after}
use Rattle.pfs_board_root.specs.Roots.{HasKept, HaveKept, RootView, opening_at, stakes, ticket_stakes}
use Rattle.pfs_board_run.specs.BoardRuns.{HaveRunBlocks, newest_first, share_of_each}
use Rattle.pfs_board_run.specs.declared.board.Ran.{Ran}
use Rattle.pfs_board_session.specs.SeatedViews.{MeetsInside}
use Rattle.pfs_board_store.specs.RootActors.{Worked, calls_of_all}
use Rattle.pfs_classes.specs.declared.setting.Setting.{Setting}
use Rattle.pfs_law_board.specs.PhaseEnds.{BeganBehind}
use Rattle.pfs_levels.specs.CallOrder.{AllCalls}
use Rattle.pfs_levels.specs.Calls.{Call, Adds, Rings, Reads, Loads, Draws, Takes, Puts, Frees, Sets, Enters, Leaves, Meets, Opening, action_in}
use Rattle.pfs_script.specs.declared.blocks.Block.{Block}
use Rattle.pfs_session.specs.SessionStates.{Book}

-- each began as its number says
abbrev pub AreOpened : (ℕ → Opening) → ℕ → List Worked → Type 0
AreOpened opening n [] = Unit {0}
AreOpened opening n (w ∷ ws) = (w.start ≡ opening n) × AreOpened opening (n + 1) ws

pub opened : (setting fixed : Setting) (change : Label → Change) (opening : ℕ → Opening) (n : ℕ) (blocks : List Block) (olds : List Book) (rans : List Ran) (ws : List Worked) → HaveRunBlocks setting fixed change opening n blocks olds rans ws
    → AreOpened opening n ws × (length ws ≡ length blocks)
opened setting fixed change opening n [] [] [] [] run = (tt, refl)
opened setting fixed change opening n [] [] [] (w ∷ ws) run = absurd run
opened setting fixed change opening n [] [] (r ∷ rs) ws run = absurd run
opened setting fixed change opening n [] (k ∷ ks) rs ws run = absurd run
opened setting fixed change opening n (b ∷ bs) [] rs ws run = absurd run
opened setting fixed change opening n (b ∷ bs) (k ∷ ks) [] ws run = absurd run
opened setting fixed change opening n (b ∷ bs) (k ∷ ks) (r ∷ rs) [] run = absurd run
opened setting fixed change opening n (b ∷ bs) (k ∷ ks) (r ∷ rs) (w ∷ ws) run =
    let rest = opened setting fixed change opening (n + 1) bs ks rs ws run.1 in ((run.0.start_is, rest.0), omega (arith, rest.1))

-- what they might use is the share of each
stakes_then : (xs ys : List Worked) → stakes (xs ++ ys) ≡ stakes xs + stakes ys
stakes_then [] ys = omega arith
stakes_then (x ∷ xs) ys = omega (arith, stakes_then xs ys)

tickets_then : (xs ys : List Worked) → ticket_stakes (xs ++ ys) ≡ ticket_stakes xs + ticket_stakes ys
tickets_then [] ys = omega arith
tickets_then (x ∷ xs) ys = omega (arith, tickets_then xs ys)

module _ (flags : List ℕ) (r : RootView) where
  abbrev Open : ℕ → Opening
  Open n = opening_at flags r share_of_each share_of_each n

  pub shares : (n : ℕ) (ws : List Worked) → AreOpened Open n ws → (stakes (newest_first ws) ≡ length ws * share_of_each) × (ticket_stakes (newest_first ws) ≡ length ws * share_of_each)
  shares n [] are = (omega arith, omega arith)
  shares n (w ∷ ws) are =
      let rest = shares (n + 1) ws are.1 in
      let publications = ap (λ (o : Opening). o.board.stake) are.0 in
      let draws = ap (λ (o : Opening). o.tickets.stake) are.0 in (
        omega (arith, rest.0, publications, stakes_then (newest_first ws) (w ∷ [])),
        omega (arith, rest.1, draws, tickets_then (newest_first ws) (w ∷ [])),
      )

-- who kept to the words of the labels, one by one
module _ (setting : Setting) (change : Label → Change) (seen : List ℕ) where
  kept_parts : (xs ys : List Worked) → HaveKept setting change seen (xs ++ ys) → HaveKept setting change seen xs × HaveKept setting change seen ys
  kept_parts [] ys kept = (tt, kept)
  kept_parts (x ∷ xs) ys kept = let rest = kept_parts xs ys kept.1 in ((kept.0, rest.0), rest.1)

  pub kept_words : (ws : List Worked) → HaveKept setting change seen ws → AllCalls (AllKeepWords (version_after setting change)) (calls_of_all ws)
  kept_words [] kept = tt
  kept_words (w ∷ ws) kept = (kept.0.keeps, kept_words ws kept.1)

  met_inside : (more earlier : List Call) (versions : List ℕ) → MeetsInside (more ++ Meets versions ∷ earlier) → 0 < action_in earlier
  met_inside [] earlier versions m = m.0
  met_inside (Adds row amount answer ∷ more) earlier versions m = met_inside more earlier versions m
  met_inside (Rings row content answer ∷ more) earlier versions m = met_inside more earlier versions m
  met_inside (Reads row found ∷ more) earlier versions m = met_inside more earlier versions m
  met_inside (Loads at to flags ∷ more) earlier versions m = met_inside more earlier versions m
  met_inside (Draws kind ticket ∷ more) earlier versions m = met_inside more earlier versions m
  met_inside (Meets other ∷ more) earlier versions m = met_inside more earlier versions m.1
  met_inside (Takes row k found ∷ more) earlier versions m = met_inside more earlier versions m
  met_inside (Puts row content k ∷ more) earlier versions m = met_inside more earlier versions m
  met_inside (Frees row k ∷ more) earlier versions m = met_inside more earlier versions m
  met_inside (Sets at to k ∷ more) earlier versions m = met_inside more earlier versions m
  met_inside (Enters label labels ∷ more) earlier versions m = met_inside more earlier versions m
  met_inside (Leaves ∷ more) earlier versions m = met_inside more earlier versions m

  -- They were split off a root that has changed no row since an end, and knows no word below where the writer was then:
  -- so they began behind that end
  module _ (flags : List ℕ) (r : RootView) (made : List Entry) (pen : List ℕ) (same : r.seat.made ≡ made) (above : (at : ℕ) → at < 160 → slice_index pen at ≤ slice_index r.words.seen at) where
    began_one : (n : ℕ) (w : Worked) → w.start ≡ opening_at flags r share_of_each share_of_each n → HasKept setting change seen w → BeganBehind (length made) pen w
    began_one n w is kept = record {
      base = ap (λ (o : Opening). o.board.base) is ∙ ap length same;
      words = λ at low. omega (arith, ap (λ (o : Opening). slice_index o.words at) is, above at low);
      inside = λ more earlier versions e. met_inside more earlier versions (subst MeetsInside e kept.inside);
    }

    pub began : (n : ℕ) (ws : List Worked) → AreOpened (λ k. opening_at flags r share_of_each share_of_each k) n ws → HaveKept setting change seen (newest_first ws) → Each (BeganBehind (length made) pen) (newest_first ws)
    began n [] are kept = tt
    began n (w ∷ ws) are kept =
        let parts = kept_parts (newest_first ws) (w ∷ []) kept in
        each_append (BeganBehind (length made) pen) (newest_first ws) (w ∷ []) (began (n + 1) ws are.1 parts.0) (began_one n w are.0 parts.1.0, tt)
