-- What a script's place of a block says of it.
use Rattle.std.proofs.Common.{ℕ, suc, ◌≡◌, ◌≤◌, ◌<◌, ◌+◌, ◌==◌, Bool, true, cond, List, [], ◌∷◌, ◌++◌, length, slice_index_or, refl, ap, sym, ◌∙◌, subst, length-append, append-nil, eq-eqb, arith}
use Rattle.std.proofs.Math.Seq.{get_or-append_seam}
use Rattle.std.specs.List.{All, flat_map}
use Rattle.std.proofs.lemmas.List.Sums.{sum_by-append, sum_by-cons}
use Rattle.pfs_classes.specs.declared.setting.Setting.{Setting}
use Rattle.pfs_law_script.specs.BlocksAhead.{IsReached, block_at, done_before}
use Rattle.pfs_law_script.specs.Course.{PhasedBlock, numbered, own_blocks, own_changes, phased}
use Rattle.pfs_law_script.proofs.BlocksAhead.{block_here, none_earlier, reached}
use Rattle.pfs_law_script.proofs.BlockChanges.{asked_here, own_numbered, own_then}
use Rattle.pfs_play.specs.Errands.{LabelsName, actions_on}
use Rattle.pfs_law_script.specs.PlayableBlocks.{ActionsLaw, FewLaw, IsNamed, IsPlayable, IsPlayableBlock, NamedLaw, PlayableLaw, actions_among, actions_in, blocks_in, lines_among}
use Rattle.pfs_runs.specs.ScriptLines.{change_in, changes_in}
use Rattle.pfs_script.specs.Events.{blocks_for}
use Rattle.pfs_script.specs.Marks.{written_out}
use Rattle.pfs_script.specs.Scripts.{IsScript}
use Rattle.pfs_script.specs.declared.blocks.Block.{Block}
use Rattle.pfs_script.specs.declared.blocks.Phase.{Phase}
use Rattle.pfs_seats.specs.Seats.{depth_of}

-- where these blocks are done: those before it in its phase with those of the phases before, or just the latter
pub record IsHere (setting : Setting) (phases before : List Phase) (first : List Block) (block : Block) (others : List Block) (after : List Phase) (done : List PhasedBlock) : Type 0 where
  pub playable : IsPlayableBlock before after block
  pub reached : IsReached phases before first block others after
  pub own : own_blocks block.session done ≡ blocks_for block.session before
  pub asked : LabelsName (change_in phases) block.session (length (own_changes block.session done)) (changes_in block)
  pub named : IsNamed setting block
  pub few : length done < 200000
  pub rare : actions_on (written_out block.lines) ≤ 16666
  pub depth : lines_among (blocks_for block.session before) + length block.lines ≤ depth_of phases block.session

phased_length : (phase : ℕ) (blocks : List Block) → length (phased phase blocks) ≡ length blocks
phased_length phase [] = refl
phased_length phase (block ∷ blocks) = ap suc (phased_length phase blocks)

numbered_length : (number : ℕ) (phases : List Phase) → length (numbered number phases) ≡ blocks_in phases
numbered_length number [] = refl
numbered_length number (phase ∷ phases) =
    let one = sum_by-cons (λ (phase : Phase). length phase.blocks) phase phases in
    omega (arith, one, length-append (phased number phase.blocks) (numbered (number + 1) phases), phased_length number phase.blocks, numbered_length (number + 1) phases)

-- a block is among those of its session
with_itself : (block : Block) (same : Bool) → same ≡ true → cond same (block ∷ []) [] ≡ block ∷ []
with_itself block same is = ap (λ b. cond b (block ∷ []) []) is

lines_of_more : (xs : List Block) (block : Block) (ys : List Block) → lines_among (xs ++ block ∷ ys) ≡ lines_among xs + (length block.lines + lines_among ys)
lines_of_more xs block ys = sum_by-append (λ (block : Block). length block.lines) xs (block ∷ ys) ∙ ap (λ n. lines_among xs + n) (sum_by-cons (λ (block : Block). length block.lines) block ys)

-- a block has no more actions than all blocks of its script together
actions_here : (before after : List Phase) (first others : List Block) (block : Block) → actions_on (written_out block.lines) ≤ actions_in (before ++ record { blocks = first ++ block ∷ others } ∷ after)
actions_here before after first others block =
    let here : Phase = record { blocks = first ++ block ∷ others } in
    let all : actions_in (before ++ here ∷ after) ≡ actions_in before + actions_in (here ∷ after) = sum_by-append (λ (phase : Phase). actions_among phase.blocks) before (here ∷ after) in
    let now : actions_in (here ∷ after) ≡ actions_among (first ++ block ∷ others) + actions_in after = sum_by-cons (λ (phase : Phase). actions_among phase.blocks) here after in
    let both : actions_among (first ++ block ∷ others) ≡ actions_among first + actions_among (block ∷ others) = sum_by-append (λ (block : Block). actions_on (written_out block.lines)) first (block ∷ others) in
    let own : actions_among (block ∷ others) ≡ actions_on (written_out block.lines) + actions_among others = sum_by-cons (λ (block : Block). actions_on (written_out block.lines)) block others in
    omega (arith, all, now, both, own)

-- of what holds of each of a list
at_seam : {A : Type 0} (P : A → Type 0) (xs : List A) (x : A) (ys all : List A) → all ≡ xs ++ x ∷ ys → All P all → P x
at_seam P xs x ys all is h =
    subst P (get_or-append_seam xs x ys x)
    (subst (λ z. (k : ℕ) (d : _) → k < length z → P (slice_index_or z k d)) is h (length xs) x (within (length xs) (length ys) (length (xs ++ x ∷ ys)) (length-append xs (x ∷ ys)))) where
      within : (n m l : ℕ) → l ≡ n + suc m → n < l
      within n m l e = omega (arith, e)

-- behind the blocks before it in its phase
pub is_here : PlayableLaw → FewLaw → NamedLaw → ActionsLaw → (text : List ℕ) (setting : Setting) (phases before : List Phase) (first : List Block) (block : Block) (others : List Block) (after : List Phase) → IsScript text setting phases
    → phases ≡ before ++ record { blocks = first ++ block ∷ others } ∷ after → IsHere setting phases before first block others after (done_before before first)
is_here playable few named actions text setting phases before first block others after script is =
    let phase : Phase = record { blocks = first ++ block ∷ others } in
    let may : IsPlayable before phase after = playable text setting phases before phase after script is in
    let at : IsReached phases before first block others after = reached phases before phase after first block others is refl may in
    let done : List PhasedBlock = done_before before first in
    let session : ℕ = block.session in
    let earlier : own_blocks session (phased (1 + length before) first) ≡ [] = none_earlier (1 + length before) first block others may.sessions in
    let own : own_blocks session done ≡ blocks_for session before =
    own_then session (numbered 1 before) (phased (1 + length before) first) ∙ (ap (λ z. own_blocks session (numbered 1 before) ++ z) earlier ∙ (append-nil (own_blocks session (numbered 1 before)) ∙ own_numbered session 1 before)) in
    let rest : List PhasedBlock = at.next.rest in
    let all : numbered 1 phases ≡ done ++ block_at before block ∷ rest = at.next.all in
    let count = ap length all in
    let many = few text setting phases script in
    let mine : blocks_for session phases ≡ own_blocks session done ++ (block ∷ own_blocks session rest) =
    sym (own_numbered session 1 phases) ∙ (ap (own_blocks session) all ∙ (own_then session done (block_at before block ∷ rest)
    ∙ ap (λ z. own_blocks session done ++ (z ++ own_blocks session rest)) (with_itself block (block.session == session) (eq-eqb block.session session refl)))) in
    let lines = ap lines_among mine ∙ lines_of_more (own_blocks session done) block (own_blocks session rest) in
    let before_lines = ap lines_among own in
    let truncated = actions text setting phases script in
    let truncates = ap actions_in is in
    record {
      playable = block_here before phase after first block others refl may;
      reached = at;
      own = own;
      asked = asked_here phases done rest (block_at before block) all;
      named = at_seam (IsNamed setting) first block others phase.blocks refl (at_seam (λ (phase : Phase). All (IsNamed setting) phase.blocks) before phase after phases is (named text setting phases script));
      few = omega (arith, count, length-append done (block_at before block ∷ rest), numbered_length 1 phases, many);
      rare = omega (arith, truncated, truncates, actions_here before after first others block);
      depth = omega (arith, lines, before_lines);
    }

-- and behind the phases before alone, as all blocks of a phase are that begins
pub is_here_at_once : (setting : Setting) (phases before : List Phase) (first : List Block) (block : Block) (others : List Block) (after : List Phase) → IsHere setting phases before first block others after (done_before before first)
    → IsHere setting phases before first block others after (numbered 1 before)
is_here_at_once setting phases before first block others after here =
    let session : ℕ = block.session in
    let own : own_blocks session (numbered 1 before) ≡ blocks_for session before = own_numbered session 1 before in
    let made : own_changes session (done_before before first) ≡ own_changes session (numbered 1 before) = ap (flat_map changes_in) (here.own ∙ sym own) in
    record {
      playable = here.playable;
      reached = here.reached;
      own = own;
      asked = subst (λ z. LabelsName (change_in phases) session (length z) (changes_in block)) made here.asked;
      named = here.named;
      few = omega (arith, here.few, length-append (numbered 1 before) (phased (1 + length before) first));
      rare = here.rare;
      depth = here.depth;
    }
