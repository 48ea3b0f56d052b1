-- Phases and blocks while a script is read, and what they come to with the lines to come.
use Rattle.std.specs.Prelude.{ℕ, List, [], ◌++◌, map, Option, option_map}
use Rattle.pfs_script.specs.declared.blocks.BlockLine.{BlockLine}
use Rattle.pfs_script.specs.declared.blocks.Block.{Block}
use Rattle.pfs_script.specs.declared.blocks.Phase.{Phase}
use Rattle.pfs_script.specs.declared.blocks.Connect.{Connect}
use Rattle.pfs_script.specs.declared.drafts.Owner.{Owner}
use Rattle.pfs_script.specs.declared.drafts.BlockFront.{BlockFront}
use Rattle.pfs_script.specs.declared.drafts.BlockDraft.{BlockDraft}
use Rattle.pfs_script.specs.declared.drafts.PhaseDraft.{PhaseDraft}
use Rattle.pfs_script.specs.declared.drafts.Drafts.{Drafts}
use Rattle.pfs_script.specs.declared.forms.Form.{Form}
use Rattle.pfs_script.specs.Blocks.{Sense, with_front, with_phase, block_lines, blocks_of, phases_of}
use Rattle.pfs_script.specs.SessionNames.{connect_of}
use Rattle.pfs_names.specs.InternedTexts.{interned}

-- an owner by ids
abbrev pub owner_named : List (List ℕ) → Owner → Connect
owner_named names owner = connect_of names owner.user.now owner.host.now

-- a block of these lines, under these names
abbrev pub block_of : List (List ℕ) → List BlockLine → BlockFront → Block
block_of names lines front = record {
  session = front.session;
  connect = option_map (owner_named names) front.owner;
  lines = lines;
}

abbrev pub block_named : List (List ℕ) → BlockDraft → Block
block_named names draft = block_of names draft.lines.items draft.front

abbrev pub phase_named : List (List ℕ) → PhaseDraft → Phase
phase_named names draft = record { blocks = map (block_named names) draft.blocks.items }

-- the names with those of an owner, where they are new
abbrev pub with_owner : List (List ℕ) → Owner → List (List ℕ)
with_owner names owner = interned (interned names owner.user.now) owner.host.now

-- what the first line of a block says
abbrev pub front_of : Option ℕ → Option Owner → Option BlockFront
front_of session owner = option_map (λ number. record { session = number; owner = owner }) session

-- the blocks of the phase at hand, with its last one as it is
abbrev pub blocks_at_hand : List (List ℕ) → Drafts → List Block
blocks_at_hand names drafts =
    map (block_named names) drafts.blocks.items
    ++ with_front (option_map (block_of names drafts.lines.items) drafts.front) []

-- what the block at hand comes to, and the blocks behind it
abbrev pub blocks_behind : Sense → Drafts → List Form → List Block
blocks_behind sense drafts lines =
    map (block_named sense.names) drafts.blocks.items
    ++ with_front (option_map (block_of sense.names (drafts.lines.items ++ block_lines sense lines)) drafts.front)
    (blocks_of sense lines)

-- what the phases so far come to, and the phases behind them
abbrev pub phases_behind : Sense → Drafts → List Form → List Phase
phases_behind sense drafts lines =
    map (phase_named sense.names) drafts.phases.items
    ++ with_phase drafts.has_phase (blocks_behind sense drafts lines) (phases_of sense lines)
