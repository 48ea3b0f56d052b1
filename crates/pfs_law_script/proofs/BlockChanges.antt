-- The changes that a block asks for stand in those of its session behind those of the blocks before it.
use Rattle.std.proofs.Common.{ℕ, ◌≡◌, ◌+◌, ◌==◌, Bool, true, false, cond, List, [], ◌∷◌, ◌++◌, length, eq-eqb, refl, ap, sym, ◌∙◌}
use Rattle.std.specs.Prelude.{filter}
use Rattle.std.specs.List.{flat_map}
use Rattle.std.proofs.lemmas.List.{append_assoc, append-nil}
use Rattle.std.proofs.lemmas.List.Concat.{flat_map-append}
use Rattle.std.proofs.lemmas.List.Elements.{filter-append}
use Rattle.pfs_admin.specs.declared.changes.Change.{Change}
use Rattle.pfs_law_script.specs.PlayableBlocks.{end_of}
use Rattle.pfs_play.specs.Errands.{LabelsName}
use Rattle.pfs_runs.specs.ScriptLines.{connect_changes, changes_on, changes_in, change_in}
use Rattle.pfs_script.specs.declared.blocks.Block.{Block}
use Rattle.pfs_script.specs.declared.blocks.Phase.{Phase}
use Rattle.pfs_script.specs.Events.{blocks_for}
use Rattle.pfs_law_script.specs.Course.{PhasedBlock, phased, numbered, own_blocks, own_changes}
use Rattle.pfs_law_script.proofs.AskedLabels.{asked_there}
use Rattle.pfs_law_script.proofs.QuietLines.{HasQuietLines}

pub own_then : (session : ℕ) (xs ys : List PhasedBlock) → own_blocks session (xs ++ ys) ≡ own_blocks session xs ++ own_blocks session ys
own_then session [] ys = refl
own_then session (x ∷ xs) ys =
    let own : List Block = cond (x.block.session == session) (x.block ∷ []) [] in
    ap (λ z. own ++ z) (own_then session xs ys) ∙ sym (append_assoc own (own_blocks session xs) (own_blocks session ys))

pub own_more : (session : ℕ) (done : List PhasedBlock) (one : PhasedBlock) → own_blocks session (done ++ one ∷ []) ≡ own_blocks session done ++ cond (one.block.session == session) (one.block ∷ []) []
own_more session done one =
    own_then session done (one ∷ []) ∙ ap (λ z. own_blocks session done ++ z) (append-nil (cond (one.block.session == session) (one.block ∷ []) []))

-- they are the script's
abbrev is_own : ℕ → Block → Bool
is_own session block = block.session == session

own_phased : (session phase : ℕ) (blocks : List Block) → own_blocks session (phased phase blocks) ≡ filter (is_own session) blocks
own_phased session phase [] = refl
own_phased session phase (block ∷ blocks) =
    ap (λ z. cond (block.session == session) (block ∷ []) [] ++ z) (own_phased session phase blocks) ∙ at (block.session == session) (filter (is_own session) blocks) where
      at : (b : Bool) (rest : List Block) → cond b (block ∷ []) [] ++ rest ≡ cond b (block ∷ rest) rest
      at true rest = refl
      at false rest = refl

pub own_numbered : (session number : ℕ) (phases : List Phase) → own_blocks session (numbered number phases) ≡ blocks_for session phases
own_numbered session number [] = refl
own_numbered session number (phase ∷ phases) =
    own_then session (phased number phase.blocks) (numbered (number + 1) phases)
    ∙ (ap (λ z. z ++ own_blocks session (numbered (number + 1) phases)) (own_phased session number phase.blocks)
    ∙ (ap (λ z. filter (is_own session) phase.blocks ++ z) (own_numbered session (number + 1) phases)
    ∙ sym (filter-append (is_own session) phase.blocks (flat_map (λ (one : Phase). one.blocks) phases))))

-- the changes of a block
pub block_changes : (block : Block) (has : HasQuietLines block.lines) → changes_in block ≡ connect_changes block.connect ++ flat_map changes_on (has.quiet ++ end_of has.quits)
block_changes block has = ap (λ z. connect_changes block.connect ++ flat_map changes_on z) has.written

here_then : (session : ℕ) (done rest : List PhasedBlock) (one : PhasedBlock) → one.block.session ≡ session → own_blocks session (done ++ one ∷ rest) ≡ own_blocks session done ++ one.block ∷ own_blocks session rest
here_then session done rest one e =
    own_then session done (one ∷ rest)
    ∙ ap (λ b. own_blocks session done ++ (cond b (one.block ∷ []) [] ++ own_blocks session rest)) (eq-eqb one.block.session session e)

-- and those of the session
pub asked_here : (phases : List Phase) (done rest : List PhasedBlock) (one : PhasedBlock) → numbered 1 phases ≡ done ++ one ∷ rest → LabelsName (change_in phases) one.block.session (length (own_changes one.block.session done)) (changes_in one.block)
asked_here phases done rest one e =
    let session : ℕ = one.block.session in
    let all : List Change = flat_map changes_in (blocks_for session phases) in
    let before : List Change = own_changes session done in
    let after : List Change = own_changes session rest in
    let blocks : blocks_for session phases ≡ own_blocks session done ++ one.block ∷ own_blocks session rest =
    sym (own_numbered session 1 phases) ∙ (ap (own_blocks session) e ∙ here_then session done rest one refl) in
    let split : all ≡ before ++ (changes_in one.block ++ after) =
    ap (flat_map changes_in) blocks ∙ flat_map-append changes_in (own_blocks session done) (one.block ∷ own_blocks session rest) in
    asked_there (change_in phases) session all (λ line. refl) (length before) before (changes_in one.block) after split refl
