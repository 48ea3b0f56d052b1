-- What the blocks of a phase need of the root of a board, and what they leave it.
use Rattle.std.proofs.Common.{ℕ, suc, ◌≡◌, ◌≤◌, ◌<◌, ◌+◌, ◌*◌, Bool, true, false, List, [], ◌∷◌, ◌++◌, length, refl, ap, sym, ◌∙◌, append_assoc, length-append, eqb, ◌||◌, ne_eqb, arith}
use Rattle.std.specs.List.{AllByRecursion, IsDistinct, list_any}
use Rattle.std.proofs.lemmas.Bool.{eqb-true}
use Rattle.std.proofs.lemmas.List.Sums.{sum_by-cons}
use Rattle.std.proofs.lemmas.Map.Steps.{length-le_from_distinct_below}
use Rattle.pfs_board_root.specs.Roots.{RootView}
use Rattle.pfs_board_run.specs.BoardRuns.{AllMayRun, share_of_each, spare_of, tickets_of}
use Rattle.pfs_classes.specs.declared.setting.Setting.{Setting}
use Rattle.pfs_law_plain.specs.Spells.{Spell}
use Rattle.pfs_law_script.proofs.BlocksAhead.{done_phase, done_whole}
use Rattle.pfs_law_script.specs.Course.{IsCourse, PhasedBlock, numbered, phased}
use Rattle.pfs_law_script.specs.PlayableBlocks.{FewLaw, blocks_in}
use Rattle.pfs_model.specs.Chains.{Each}
use Rattle.pfs_runs.specs.ScriptLines.{change_in}
use Rattle.pfs_script.specs.KnownClasses.{AreDistinct}
use Rattle.pfs_script.specs.Scripts.{IsScript}
use Rattle.pfs_script.specs.declared.blocks.Block.{Block}
use Rattle.pfs_script.specs.declared.blocks.Phase.{Phase}
use Rattle.pfs_seats.proofs.BlockPlaces.{IsHere}
use Rattle.pfs_seats.proofs.BlockStarts.{early_at, named_at, rare_at}
use Rattle.pfs_seats.proofs.ReadySessions.{IsReady}
use Rattle.pfs_seats.specs.Seats.{depth_of}
use Rattle.pfs_session.specs.SessionStates.{Book}
use Rattle.pfs_board_phase.specs.BetweenPhases.{IsSpared}
use Rattle.pfs_board_phase.proofs.PhaseSeats.{AreOthers, apart, phased_long, sessions_of}
use Rattle.pfs_board_phase.proofs.PhaseSpells.{AreReady}

-- a phase has no more blocks than a script has sessions
all_apart : (session : ℕ) (blocks : List Block) → AreOthers session blocks → AllByRecursion (λ number. eqb session number ≡ false) (sessions_of blocks)
all_apart session [] off = tt
all_apart session (b ∷ bs) off = (ne_eqb session b.session (λ e. off.0 (sym e)), all_apart session bs off.1)

no_two : (blocks : List Block) → AreDistinct (sessions_of blocks) → IsDistinct eqb (sessions_of blocks)
unfolding IsDistinct
no_two [] distinct = tt
no_two (b ∷ bs) distinct = (all_apart b.session bs (apart b.session bs distinct.0), no_two bs distinct.1)

all_low : (blocks : List Block) (number : ℕ) → Each (λ (block : Block). block.session ≤ 64) blocks → list_any (eqb number) (sessions_of blocks) ≡ true → number < 65
all_low [] number low e = cc
all_low (b ∷ bs) number low e = by (eqb number b.session) refl e (all_low bs number low.1) where
  by : (t : Bool) → eqb number b.session ≡ t → (t || list_any (eqb number) (sessions_of bs)) ≡ true → (list_any (eqb number) (sessions_of bs) ≡ true → number < 65) → number < 65
  by true same e rest = omega (arith, eqb-true number b.session same, low.0)
  by false same e rest = rest e

pub few_blocks : (blocks : List Block) → AreDistinct (sessions_of blocks) → Each (λ (block : Block). block.session ≤ 64) blocks → length blocks ≤ 65
few_blocks blocks distinct low =
    let few = length-le_from_distinct_below (sessions_of blocks) 65 (no_two blocks distinct) (λ number. all_low blocks number low) in
    omega (arith, few, long blocks) where
      long : (blocks : List Block) → length (sessions_of blocks) ≡ length blocks
      long [] = refl
      long (b ∷ bs) = ap suc (long bs)

-- and a script no more than 200,000
numbered_long : (number : ℕ) (phases : List Phase) → length (numbered number phases) ≡ blocks_in phases
numbered_long number [] = refl
numbered_long number (p ∷ ps) =
    omega (arith, sum_by-cons (λ (phase : Phase). length phase.blocks) p ps, length-append (phased number p.blocks) (numbered (number + 1) ps), phased_long number p.blocks, numbered_long (number + 1) ps)

front_few : (before rest : List Phase) → blocks_in before ≤ blocks_in (before ++ rest)
front_few [] rest = omega arith
front_few (p ∷ ps) rest = omega (arith, sum_by-cons (λ (phase : Phase). length phase.blocks) p ps, sum_by-cons (λ (phase : Phase). length phase.blocks) p (ps ++ rest), front_few ps rest)

pub few_done : FewLaw → (text : List ℕ) (setting : Setting) (phases before rest : List Phase) → IsScript text setting phases → phases ≡ before ++ rest → length (numbered 1 before) ≤ 200000
few_done law text setting phases before rest script is = omega (arith, law text setting phases script, ap blocks_in is, front_few before rest, numbered_long 1 before)

pub further_long : (before : List Phase) (phase : Phase) → length (numbered 1 (before ++ phase ∷ [])) ≡ length (numbered 1 before) + length phase.blocks
further_long before phase =
    ap length (sym (done_whole (before ++ phase ∷ [])) ∙ done_phase before phase) ∙ (length-append (numbered 1 before) (phased (1 + length before) phase.blocks) ∙ ap (λ n. length (numbered 1 before) + n) (phased_long (1 + length before) phase.blocks))

module _ (setting : Setting) (phases before : List Phase) (phase : Phase) (after : List Phase) (spells : List Spell)
    (here : (first : List Block) (block : Block) (others : List Block) → phase.blocks ≡ first ++ block ∷ others → IsHere setting phases before first block others after (numbered 1 before)) where
  -- sessions that are ready may play their blocks
  pub all_may : (first blocks : List Block) (books : List Book) → phase.blocks ≡ first ++ blocks → IsCourse setting (change_in phases) (depth_of phases) (numbered 1 before) spells
      → AreReady setting phases (numbered 1 before) spells blocks books → AllMayRun setting (change_in phases) blocks books
  all_may first [] [] all course are = tt
  all_may first [] (k ∷ ks) all course are = absurd are
  all_may first (b ∷ bs) [] all course are = absurd are
  all_may first (b ∷ bs) (k ∷ ks) all course are =
      let at : IsHere setting phases before first b bs after (numbered 1 before) = here first b bs all in
      let r : IsReady setting phases (numbered 1 before) spells b k = are.0 in (
        record {
          named = named_at setting phases before first b bs after (numbered 1 before) spells k at r course;
          connects = r.connects;
          may = r.may;
          lie = r.lie;
          free = r.free;
          early = early_at setting phases before first b bs after (numbered 1 before) spells k at r;
          rare = rare_at setting phases before first b bs after (numbered 1 before) spells k at r;
          short = at.playable.short;
          few = omega (arith, at.rare);
        },
        all_may (first ++ b ∷ []) bs ks (all ∙ sym (append_assoc first (b ∷ []) bs)) course are.1,
      )

  pub all_low_here : (first blocks : List Block) → phase.blocks ≡ first ++ blocks → Each (λ (block : Block). block.session ≤ 64) blocks
  all_low_here first [] all = tt
  all_low_here first (b ∷ bs) all = ((here first b bs all).playable.high, all_low_here (first ++ b ∷ []) bs (all ∙ sym (append_assoc first (b ∷ []) bs)))

  -- each uses up no more than a script's longest block may
  pub used : (first blocks : List Block) → phase.blocks ≡ first ++ blocks → (spare_of blocks ≤ 340000000 * length blocks) × (tickets_of blocks ≤ 400000 * length blocks)
  used first [] all = (omega arith, omega arith)
  used first (b ∷ bs) all =
      let at : IsHere setting phases before first b bs after (numbered 1 before) = here first b bs all in
      let rest = used (first ++ b ∷ []) bs (all ∙ sym (append_assoc first (b ∷ []) bs)) in
      (omega (arith, rest.0, at.playable.short, at.rare), omega (arith, rest.1, at.playable.short))

-- the root has a share for each of them
pub room : (done : List PhasedBlock) (blocks : List Block) (r : RootView) → IsSpared done r → length done ≤ 200000 → length blocks ≤ 65 → (length blocks * share_of_each < r.seat.allowance) × (length blocks * share_of_each ≤ r.draws.draws)
room done blocks r spared rare few = (omega (arith, spared.publications, rare, few), omega (arith, spared.tickets, rare, few))

-- and has enough left behind them
pub spared_next : (done now : List PhasedBlock) (blocks : List Block) (old mid new : RootView) → IsSpared done old → length now ≡ length done + length blocks → (spare_of blocks ≤ 340000000 * length blocks) × (tickets_of blocks ≤ 400000 * length blocks)
    → old.seat.allowance ≤ mid.seat.allowance + spare_of blocks → old.draws.draws ≤ mid.draws.draws + tickets_of blocks → new.seat.allowance ≡ mid.seat.allowance → new.draws.draws ≡ mid.draws.draws → IsSpared now new
spared_next done now blocks old mid new spared long uses back draws same too = record {
  publications = omega (arith, spared.publications, long, uses.0, back, same);
  tickets = omega (arith, spared.tickets, long, uses.1, draws, too);
}
