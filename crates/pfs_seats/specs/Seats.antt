-- The sessions of a run between their blocks: each waits in its seat for its next one.
use Rattle.std.specs.Prelude.{ℕ, ◌≡◌, ◌≤◌, ◌-◌, ◌*◌, List, [], length, Option, Some, None, MatchOption}
use Rattle.std.specs.List.{flat_map, slice_index_or}
use Rattle.pfs_classes.specs.declared.setting.Setting.{Setting}
use Rattle.pfs_law_plain.specs.LineSteps.{kinds_at}
use Rattle.pfs_law_plain.specs.Spells.{Spell}
use Rattle.pfs_law_script.specs.Course.{PhasedBlock, own_blocks, session_at}
use Rattle.pfs_law_script.specs.PlayableBlocks.{kinds_left, lines_among}
use Rattle.pfs_law_session.specs.Stints.{resumed}
use Rattle.pfs_play.specs.Errands.{StagesLie}
use Rattle.pfs_script.specs.Events.{blocks_for}
use Rattle.pfs_script.specs.Marks.{written_out}
use Rattle.pfs_script.specs.declared.blocks.Block.{Block}
use Rattle.pfs_script.specs.declared.blocks.BlockLine.{BlockLine}
use Rattle.pfs_script.specs.declared.blocks.Phase.{Phase}
use Rattle.pfs_session.specs.SessionStates.{Book, fresh, nothing_held}

-- a session has room for as many open events as its blocks have lines
abbrev pub depth_of : List Phase → ℕ → ℕ
depth_of phases session = lines_among (blocks_for session phases)

-- the lines of a session at blocks, each repeat written out
abbrev pub lines_at : ℕ → List PhasedBlock → List BlockLine
lines_at session done = flat_map (λ (block : Block). written_out block.lines) (own_blocks session done)

-- a session between its blocks: it is as the spells left it, with its journal handed out, and has open what its lines
-- leave open
pub record IsWaiting (setting : Setting) (phases : List Phase) (done : List PhasedBlock) (spells : List Spell)
    (session : ℕ) (book : Book) : Type 0 where
  pub begun : own_blocks session done ≡ [] → ⊥
  pub state : resumed book.state ≡ session_at setting (depth_of phases) spells session
  pub entries : book.journal.entries ≡ []
  pub depth : book.state.opened.depth ≡ depth_of phases session
  pub free : book.state.held ≡ nothing_held
  pub kinds : kinds_at book.state ≡ kinds_left (lines_at session done)
  pub lie : StagesLie (kinds_at book.state)
  pub drawn : book.state.drawn ≤ 200000 * length done
  pub actions : book.state.actions ≤ 16668 * length done

-- a session that had no block yet has no seat
abbrev pub Sits : Setting → List Phase → List PhasedBlock → List Spell → ℕ → Option Book → Type 0
Sits setting phases done spells session None = own_blocks session done ≡ []
Sits setting phases done spells session (Some book) = IsWaiting setting phases done spells session book

-- the seat of a session; sessions are numbered from 1
abbrev pub seat_of : List (Option Book) → ℕ → Option Book
seat_of seats session = slice_index_or seats (session - 1) None

-- the session of a seat goes on as it stands; one without begins, with room for so many open events
abbrev pub GoesOn : Option Book → ℕ → ℕ → ℕ → Book → Type 0
GoesOn seat number stack depth book =
    MatchOption seat (book ≡ record {
      state = fresh number stack depth;
      journal = record { entries = []; room = 0 };
    }) (λ was. book ≡ record was { state = resumed was.state })
