-- What the sessions of a phase did at its blocks, each over an actor of its own, as spells behind those before.
use Rattle.std.proofs.Common.{ℕ, suc, ◌≡◌, ◌+◌, ◌==◌, Bool, true, false, cond, List, [], ◌∷◌, ◌++◌, length, map, refl, ap, sym, ◌∙◌, append_assoc, subst, arith}
use Rattle.pfs_board_run.specs.BoardRuns.{HasRunBlock, HaveRunBlocks, IsAt, newest_first}
use Rattle.pfs_board_run.specs.declared.board.Ran.{Ran}
use Rattle.pfs_board_store.specs.RootActors.{Worked, calls_of_all}
use Rattle.pfs_classes.specs.declared.setting.Setting.{Setting}
use Rattle.pfs_journal.specs.declared.blocks.BlockReport.{BlockReport}
use Rattle.pfs_law_phases.proofs.BoardActors.{calls_then}
use Rattle.pfs_law_phases.proofs.PlayedSpells.{played}
use Rattle.pfs_law_phases.specs.Behind.{ArePlayed}
use Rattle.pfs_law_phases.specs.Blocks.{HasSpell}
use Rattle.pfs_law_plain.specs.Spells.{Doing, Spell, doings_calls, parts_in}
use Rattle.pfs_law_script.specs.BlocksAhead.{NoneIsOver, block_at}
use Rattle.pfs_law_script.specs.Course.{AreSpellsOf, PhasedBlock, numbered, phased, session_at}
use Rattle.pfs_law_script.specs.CourseSteps.{IsPlayed, spell_at}
use Rattle.pfs_law_script.specs.ReportSpells.{AreTold, IsTold}
use Rattle.pfs_law_session.specs.JournalLaws.{entries_of, state_behind}
use Rattle.pfs_law_shared.specs.Shares.{actors_of}
use Rattle.pfs_levels.specs.Calls.{Opening}
use Rattle.pfs_model.specs.JournalCuts.{joined}
use Rattle.pfs_runs.specs.ScriptLines.{change_in}
use Rattle.pfs_script.specs.declared.blocks.Block.{Block}
use Rattle.pfs_script.specs.declared.blocks.Phase.{Phase}
use Rattle.pfs_seats.proofs.BlockPlaces.{IsHere}
use Rattle.pfs_seats.proofs.ReadySessions.{IsReady}
use Rattle.pfs_seats.proofs.RunSteps.{IsLeft, left_as}
use Rattle.pfs_seats.specs.Seats.{depth_of}
use Rattle.pfs_session.specs.SessionStates.{Book}
use Rattle.pfs_board_phase.specs.PhaseResults.{AreReported}

-- no session that is over has the block ahead, wherever it stands in its phase
no_rest : (b : Bool) (block : Block) (others : List Block) → cond b (block ∷ []) [] ++ others ≡ [] → others ≡ []
no_rest true block others e = absurd (cc)
no_rest false block others e = e

none_here : (number : ℕ) (first : List Block) (block : Block) (others : List Block) (rest : List PhasedBlock) (spells : List Spell) → NoneIsOver spells (phased number (first ++ block ∷ others) ++ rest)
    → NoneIsOver spells (record { phase = number; block = block } ∷ (phased number others ++ rest))
none_here number [] block others rest spells none = none
none_here number (x ∷ xs) block others rest spells none = none_here number xs block others rest spells (λ session over. no_rest (x.session == session) x _ (none session over))

-- sessions that go on, each beside its block
abbrev pub AreReady : Setting → List Phase → List PhasedBlock → List Spell → List Block → List Book → Type 0
AreReady setting phases done spells [] [] = Unit {0}
AreReady setting phases done spells (block ∷ blocks) (book ∷ books) = IsReady setting phases done spells block book × AreReady setting phases done spells blocks books
AreReady setting phases done spells _ _ = ⊥

-- a block of a phase as its session played it
pub record Played (setting : Setting) (phases before after : List Phase) (spells : List Spell) : Type 0 where
  pub first : List Block
  pub block : Block
  pub others : List Block
  pub here : IsHere setting phases before first block others after (numbered 1 before)
  pub book : Book
  pub ready : IsReady setting phases (numbered 1 before) spells block book
  pub ran : Ran
  pub w : Worked
  pub doings : List Doing
  pub played : IsPlayed setting (change_in phases) (depth_of phases) spells (block_at before block) doings
  pub state : ran.paused.state ≡ state_behind (session_at setting (depth_of phases) spells block.session) (parts_in doings)
  pub entries : ran.paused.journal.entries ≡ joined (entries_of (parts_in doings))
  pub calls : w.calls ≡ doings_calls doings
  pub told : (report : BlockReport) → report.session ≡ block.session → report.entries ≡ ran.paused.journal.entries → report.answers ≡ ran.answers.items → IsTold setting (1 + length before) block (spell_at (block_at before block) doings) report
  pub left : (waiting : Book) → waiting.state ≡ ran.paused.state → waiting.journal.entries ≡ [] → IsLeft block book waiting

module _ (setting : Setting) (phases before : List Phase) (phase : Phase) (after : List Phase) (spells : List Spell) where
  abbrev pub One : Type 0
  One = Played setting phases before after spells

  abbrev pub spell_in : One → Spell
  spell_in one = spell_at (block_at before one.block) one.doings

  abbrev pub block_in : One → Block
  block_in one = one.block

  abbrev pub ran_in : One → Ran
  ran_in one = one.ran

  abbrev pub actor_in : One → Worked
  actor_in one = one.w

  abbrev pub spells_in : List One → List Spell
  spells_in ones = map spell_in ones

  -- all of them, in the blocks' order
  pub record HavePlayed (blocks : List Block) (rans : List Ran) (ws : List Worked) : Type 0 where
    pub ones : List One
    pub blocks_are : blocks ≡ map block_in ones
    pub rans_are : rans ≡ map ran_in ones
    pub actors_are : ws ≡ map actor_in ones

  played_one : (first : List Block) (block : Block) (others : List Block) (start : Opening) (book : Book) (ran : Ran) (w : Worked) → IsHere setting phases before first block others after (numbered 1 before)
      → NoneIsOver spells (block_at before block ∷ (phased (1 + length before) others ++ numbered (1 + length before + 1) after)) → IsReady setting phases (numbered 1 before) spells block book
      → HasRunBlock setting setting (change_in phases) start block book ran w → One
  played_one first block others start book ran w here none ready run =
      let s : HasSpell setting (change_in phases) (depth_of phases) spells before block ran.paused ran.answers.items start (IsAt w.start w.calls) =
      played setting (change_in phases) (depth_of phases) spells before block book ran.paused ran.answers.items start (IsAt start []) (IsAt w.start w.calls) (here.reached.goes_on spells none) ready.state ready.entries (refl, refl) run.played in
      record {
        first = first;
        block = block;
        others = others;
        here = here;
        book = book;
        ready = ready;
        ran = ran;
        w = w;
        doings = s.doings;
        played = s.played;
        state = s.state;
        entries = s.entries;
        calls = sym s.reached.1;
        told = s.told;
        left = λ waiting same entries. left_as block book ran.paused waiting same entries run.free run.kinds run.lie run.drawn (omega (arith, run.actions)) run.depth;
      }

  module _ (here : (first : List Block) (block : Block) (others : List Block) → phase.blocks ≡ first ++ block ∷ others → IsHere setting phases before first block others after (numbered 1 before))
      (none : NoneIsOver spells (numbered (1 + length before) (phase ∷ after))) where
    pub have_played : (opening : ℕ → Opening) (n : ℕ) (first blocks : List Block) (books : List Book) (rans : List Ran) (ws : List Worked) → phase.blocks ≡ first ++ blocks → AreReady setting phases (numbered 1 before) spells blocks books
        → HaveRunBlocks setting setting (change_in phases) opening n blocks books rans ws → HavePlayed blocks rans ws
    unfolding played_one
    have_played opening n first [] [] [] [] all ready run = record { ones = []; blocks_are = refl; rans_are = refl; actors_are = refl }
    have_played opening n first [] [] [] (w ∷ ws) all ready run = absurd run
    have_played opening n first [] [] (ran ∷ rans) ws all ready run = absurd run
    have_played opening n first [] (book ∷ books) rans ws all ready run = absurd run
    have_played opening n first (block ∷ blocks) [] rans ws all ready run = absurd run
    have_played opening n first (block ∷ blocks) (book ∷ books) [] ws all ready run = absurd run
    have_played opening n first (block ∷ blocks) (book ∷ books) (ran ∷ rans) [] all ready run = absurd run
    have_played opening n first (block ∷ blocks) (book ∷ books) (ran ∷ rans) (w ∷ ws) all ready run =
        let number : ℕ = 1 + length before in
        let ahead : NoneIsOver spells (block_at before block ∷ (phased number blocks ++ numbered (number + 1) after)) =
        none_here number first block blocks (numbered (number + 1) after) spells (subst (λ (z : List Block). NoneIsOver spells (phased number z ++ numbered (number + 1) after)) all none) in
        let one : One = played_one first block blocks (opening n) book ran w (here first block blocks all) ahead ready.0 run.0 in
        let rest : HavePlayed blocks rans ws = have_played opening (n + 1) (first ++ block ∷ []) blocks books rans ws (all ∙ sym (append_assoc first (block ∷ []) blocks)) ready.1 run.1 in
        record {
          ones = one ∷ rest.ones;
          blocks_are = ap (λ (z : List Block). block ∷ z) rest.blocks_are;
          rans_are = ap (λ (z : List Ran). ran ∷ z) rest.rans_are;
          actors_are = ap (λ (z : List Worked). w ∷ z) rest.actors_are;
        }

  pub blocks_long : (ones : List One) → length (map block_in ones) ≡ length ones
  blocks_long [] = refl
  blocks_long (one ∷ ones) = ap suc (blocks_long ones)

  pub spells_long : (ones : List One) → length (spells_in ones) ≡ length ones
  spells_long [] = refl
  spells_long (one ∷ ones) = ap suc (spells_long ones)

  pub rans_long : (ones : List One) → length (map ran_in ones) ≡ length ones
  rans_long [] = refl
  rans_long (one ∷ ones) = ap suc (rans_long ones)

  -- each did what its block asks for
  pub are_of : (ones : List One) → AreSpellsOf (phased (1 + length before) (map block_in ones)) (spells_in ones)
  are_of [] = tt
  are_of (one ∷ ones) = (record { phase = refl; session = refl; asked = one.played.asked }, are_of ones)

  -- they are what the phase owes
  pub are_played : (ones : List One) → ArePlayed setting (change_in phases) (depth_of phases) spells before (map block_in ones) (spells_in ones)
  are_played [] = tt
  are_played (one ∷ ones) = (refl, one.played, are_played ones)

  -- the calls of their actors are theirs, the last block's actor first
  pub theirs : (ones : List One) → calls_of_all (newest_first (map actor_in ones)) ≡ actors_of (spells_in ones)
  theirs [] = refl
  theirs (one ∷ ones) =
      calls_then (newest_first (map actor_in ones)) (one.w ∷ []) ∙ (ap (λ z. z ++ one.w.calls ∷ []) (theirs ones) ∙ ap (λ z. actors_of (spells_in ones) ++ z ∷ []) one.calls)

  -- reports with their journals and answers tell of them
  pub are_told : (ones : List One) (reports : List BlockReport) → AreReported (map block_in ones) (map ran_in ones) reports → AreTold setting (1 + length before) (map block_in ones) (spells_in ones) reports
  are_told [] [] told = tt
  are_told [] (z ∷ zs) told = absurd told
  are_told (one ∷ ones) [] told = absurd told
  are_told (one ∷ ones) (z ∷ zs) told = (one.told z (ap (λ (r : BlockReport). r.session) told.0) (ap (λ (r : BlockReport). r.entries) told.0) (ap (λ (r : BlockReport). r.answers) told.0), are_told ones zs told.1)
