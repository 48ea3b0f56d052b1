-- A block of a script that may be played is next, its session isn't over, and none that is over comes behind it.
use Rattle.std.proofs.Common.{ℕ, suc, ◌≡◌, ◌+◌, ◌≤◌, ◌<◌, ◌==◌, Bool, true, false, cond, List, [], ◌∷◌, ◌++◌, length, map, Option, Some, None, eq-eqb, refl, ap, sym, ◌∙◌, subst, length-append, arith}
use Rattle.std.specs.Prelude.{IfSome, MatchOption, Contains}
use Rattle.std.specs.List.{slice_index_or}
use Rattle.std.proofs.Math.Seq.{get_or-append_seam}
use Rattle.std.proofs.lemmas.Bool.{eqb-true, false≢true}
use Rattle.std.proofs.lemmas.List.{append_assoc, append-nil}
use Rattle.pfs_admin.specs.declared.changes.Change.{Change}
use Rattle.pfs_board.specs.declared.view.Label.{Label}
use Rattle.pfs_law_plain.specs.Spells.{Doing, Spell, parts_in}
use Rattle.pfs_classes.specs.declared.setting.Setting.{Setting}
use Rattle.pfs_model.specs.Chains.{Each}
use Rattle.pfs_law_session.specs.Deeds.{Part}
use Rattle.pfs_law_session.specs.JournalLaws.{over_behind}
use Rattle.pfs_law_script.specs.PlayableBlocks.{end_of, IsPlayable, IsPlayableBlock}
use Rattle.pfs_runs.specs.ScriptLines.{change_in}
use Rattle.pfs_script.specs.declared.blocks.Block.{Block}
use Rattle.pfs_script.specs.declared.blocks.Connect.{Connect}
use Rattle.pfs_script.specs.declared.blocks.Phase.{Phase}
use Rattle.pfs_script.specs.Events.{blocks_for}
use Rattle.pfs_script.specs.KnownClasses.{AreDistinct}
use Rattle.pfs_law_script.specs.BlocksAhead.{done_before, block_at, ahead_of, NoneIsOver, ReachedLaw}
use Rattle.pfs_play.specs.Errands.{AreFor}
use Rattle.pfs_law_script.specs.Course.{PhasedBlock, asks_of, phased, numbered, own_blocks, over_at}
use Rattle.pfs_law_script.specs.CourseSteps.{IsOneMore, spell_at}
use Rattle.pfs_law_script.proofs.BlockChanges.{own_then, own_numbered}
use Rattle.pfs_law_script.proofs.BlockActions.{block_through}
use Rattle.pfs_law_script.proofs.QuietLines.{HasQuietLines, quiet_lines, quits_same}

-- the blocks of phases one behind another
phased_then : (phase : ℕ) (xs ys : List Block) → phased phase (xs ++ ys) ≡ phased phase xs ++ phased phase ys
phased_then phase [] ys = refl
phased_then phase (x ∷ xs) ys = ap (λ z. record { phase = phase; block = x } ∷ z) (phased_then phase xs ys)

numbered_then : (number : ℕ) (xs ys : List Phase) → numbered number (xs ++ ys) ≡ numbered number xs ++ numbered (number + length xs) ys
numbered_then number [] ys = ap (λ n. numbered n ys) (none_more number) where
  none_more : (n : ℕ) → n ≡ n + 0
  none_more n = omega arith
numbered_then number (x ∷ xs) ys =
    ap (λ z. phased number x.blocks ++ z) (numbered_then (number + 1) xs ys ∙ ap (λ n. numbered (number + 1) xs ++ numbered n ys) (one_more number (length xs)))
    ∙ sym (append_assoc (phased number x.blocks) (numbered (number + 1) xs) (numbered (number + suc (length xs)) ys)) where
      one_more : (n m : ℕ) → n + 1 + m ≡ n + suc m
      one_more n m = omega arith

split_here : (before : List Phase) (phase : Phase) (after : List Phase) (first : List Block) (block : Block) (others : List Block) → phase.blocks ≡ first ++ block ∷ others
    → numbered 1 (before ++ phase ∷ after) ≡ done_before before first ++ block_at before block ∷ ahead_of before others after
split_here before phase after first block others e =
    let n : ℕ = 1 + length before in
    let ahead : List PhasedBlock = numbered (n + 1) after in
    let here : phased n phase.blocks ≡ phased n first ++ block_at before block ∷ phased n others = ap (phased n) e ∙ phased_then n first (block ∷ others) in
    numbered_then 1 before (phase ∷ after)
    ∙ (ap (λ z. numbered 1 before ++ (z ++ ahead)) here
    ∙ (ap (λ z. numbered 1 before ++ z) (append_assoc (phased n first) (block_at before block ∷ phased n others) ahead)
    ∙ sym (append_assoc (numbered 1 before) (phased n first) (block_at before block ∷ (phased n others ++ ahead)))))

-- before anything no session is over; all blocks are ahead of the first one, and before the end
pub none_yet : (ahead : List PhasedBlock) → NoneIsOver [] ahead
none_yet ahead = λ session over. absurd (false≢true over)

pub done_whole : (phases : List Phase) → done_before phases [] ≡ numbered 1 phases
done_whole phases = append-nil (numbered 1 phases)

-- what is done behind a block, and before the first block of the next phase
pub done_block : (before : List Phase) (first : List Block) (block : Block) → done_before before (first ++ block ∷ []) ≡ done_before before first ++ block_at before block ∷ []
done_block before first block =
    let n : ℕ = 1 + length before in
    ap (λ z. numbered 1 before ++ z) (phased_then n first (block ∷ [])) ∙ sym (append_assoc (numbered 1 before) (phased n first) (block_at before block ∷ []))

pub done_phase : (before : List Phase) (phase : Phase) → done_before (before ++ phase ∷ []) [] ≡ done_before before phase.blocks
done_phase before phase =
    let n : ℕ = 1 + length before in
    done_whole (before ++ phase ∷ [])
    ∙ (numbered_then 1 before (phase ∷ []) ∙ ap (λ z. numbered 1 before ++ z) (append-nil (phased n phase.blocks)))

-- they stand in no later phase
abbrev AreUpTo : ℕ → List PhasedBlock → Type 0
AreUpTo most blocks = Each (λ one. one.phase ≤ most) blocks

up_to_then : (most : ℕ) (xs ys : List PhasedBlock) → AreUpTo most xs → AreUpTo most ys → AreUpTo most (xs ++ ys)
up_to_then most [] ys a b = b
up_to_then most (x ∷ xs) ys a b = (a.0, up_to_then most xs ys a.1 b)

phased_up_to : (most phase : ℕ) (blocks : List Block) → phase ≤ most → AreUpTo most (phased phase blocks)
phased_up_to most phase [] low = tt
phased_up_to most phase (x ∷ xs) low = (low, phased_up_to most phase xs low)

numbered_up_to : (most number : ℕ) (phases : List Phase) → number + length phases ≤ most → AreUpTo most (numbered number phases)
numbered_up_to most number [] low = tt
numbered_up_to most number (x ∷ xs) low =
    up_to_then most (phased number x.blocks) (numbered (number + 1) xs) (phased_up_to most number x.blocks (here number (length xs) low))
    (numbered_up_to most (number + 1) xs (later number (length xs) low)) where
      here : (n m : ℕ) → n + suc m ≤ most → n ≤ most
      here n m h = omega (arith, h)

      later : (n m : ℕ) → n + suc m ≤ most → n + 1 + m ≤ most
      later n m h = omega (arith, h)

-- the blocks of a phase are of different sessions
abbrev sessions_of : List Block → List ℕ
sessions_of blocks = map (λ (block : Block). block.session) blocks

contains_more : (numbers : List ℕ) (number other : ℕ) → Contains numbers number → Contains (other ∷ numbers) number
contains_more numbers number other c = (suc c.0, below c.0 (length numbers) c.1, c.2) where
  below : (n m : ℕ) → n < m → suc n < suc m
  below n m h = omega (arith, h)

contains_first : (numbers : List ℕ) (number : ℕ) → Contains (number ∷ numbers) number
contains_first numbers number = (0, positive (length numbers), refl) where
  positive : (n : ℕ) → 0 < suc n
  positive n = omega arith

contains_here : (first : List Block) (block : Block) (others : List Block) → Contains (sessions_of (first ++ block ∷ others)) block.session
contains_here [] block others = contains_first (sessions_of others) block.session
contains_here (x ∷ xs) block others = contains_more (sessions_of (xs ++ block ∷ others)) block.session x.session (contains_here xs block others)

none_of : (session phase : ℕ) (blocks : List Block) → (Contains (sessions_of blocks) session → ⊥) → own_blocks session (phased phase blocks) ≡ []
none_of session phase [] none = refl
none_of session phase (x ∷ xs) none =
    at (x.session == session) refl (none_of session phase xs (λ c. none (contains_more (sessions_of xs) session x.session c))) where
      at : (b : Bool) → (x.session == session) ≡ b → own_blocks session (phased phase xs) ≡ [] → cond b (x ∷ []) [] ++ own_blocks session (phased phase xs) ≡ []
      at true e rest = absurd (none (subst (λ n. Contains (x.session ∷ sessions_of xs) n) (eqb-true x.session session e) (contains_first (sessions_of xs) x.session)))
      at false e rest = rest

none_later : (phase : ℕ) (first : List Block) (block : Block) (others : List Block) → AreDistinct (sessions_of (first ++ block ∷ others)) → own_blocks block.session (phased phase others) ≡ []
none_later phase [] block others d = none_of block.session phase others d.0
none_later phase (x ∷ xs) block others d = none_later phase xs block others d.1

pub none_earlier : (phase : ℕ) (first : List Block) (block : Block) (others : List Block) → AreDistinct (sessions_of (first ++ block ∷ others)) → own_blocks block.session (phased phase first) ≡ []
none_earlier phase [] block others d = refl
none_earlier phase (x ∷ xs) block others d = at (x.session == block.session) refl (none_earlier phase xs block others d.1) where
  at : (b : Bool) → (x.session == block.session) ≡ b → own_blocks block.session (phased phase xs) ≡ [] → cond b (x ∷ []) [] ++ own_blocks block.session (phased phase xs) ≡ []
  at true e rest = absurd (d.0 (subst (λ n. Contains (sessions_of (xs ++ block ∷ others)) n) (sym (eqb-true x.session block.session e)) (contains_here xs block others)))
  at false e rest = rest

-- a block that connects is the first of its session
first_there : (session phase : ℕ) (before : List Phase) (first : List Block) (connect : Option Connect) (other : Type 0) → MatchOption connect other (λ names. blocks_for session before ≡ [])
    → own_blocks session (phased phase first) ≡ [] → IfSome connect (λ names. own_blocks session (numbered 1 before ++ phased phase first) ≡ [])
first_there session phase before first None other m none = tt
first_there session phase before first (Some names) other m none =
    own_then session (numbered 1 before) (phased phase first) ∙ (ap (λ z. z ++ own_blocks session (phased phase first)) (own_numbered session 1 before ∙ m) ∙ none)

-- a session that has a block ahead isn't over
not_over : (spells : List Spell) (one : PhasedBlock) (ahead : List PhasedBlock) → NoneIsOver spells (one ∷ ahead) → over_at spells one.block.session ≡ false
not_over spells one ahead none = by_over (over_at spells one.block.session) refl where
  by_over : (b : Bool) → over_at spells one.block.session ≡ b → b ≡ false
  by_over true e =
      let nothing : one.block ∷ own_blocks one.block.session ahead ≡ [] =
      sym (ap (λ b. cond b (one.block ∷ []) [] ++ own_blocks one.block.session ahead) (eq-eqb one.block.session one.block.session refl)) ∙ none one.block.session e in
      absurd (cc)
  by_over false e = refl

-- whether it is over behind the block is whether the block quits
over_is : (one : PhasedBlock) (has : HasQuietLines one.block.lines) (ps : List Part) → AreFor (asks_of one.block.connect (has.quiet ++ end_of has.quits)) ps → over_behind false ps ≡ has.quits
over_is one has ps asked = (block_through 0 one.block.connect has.quiet has.quits ps has.are_quiet asked).over_is

still_none : (setting : Setting) (change : Label → Change) (depths : ℕ → ℕ) (done : List PhasedBlock) (spells : List Spell) (one : PhasedBlock) (doings : List Doing) (ahead : List PhasedBlock)
    → NoneIsOver spells (one ∷ ahead) → IsOneMore setting change depths done spells one doings → (over_behind false (parts_in doings) ≡ true → own_blocks one.block.session ahead ≡ [])
    → NoneIsOver (spells ++ spell_at one doings ∷ []) ahead
still_none setting change depths done spells one doings ahead none more last = λ k over. at k (one.block.session == k) refl over where
  at : (k : ℕ) (b : Bool) → (one.block.session == k) ≡ b → over_at (spells ++ spell_at one doings ∷ []) k ≡ true → own_blocks k ahead ≡ []
  at k true e over =
      let same : one.block.session ≡ k = eqb-true one.block.session k e in
      subst (λ n. own_blocks n ahead ≡ []) same (last (sym more.own_over ∙ (ap (λ n. over_at (spells ++ spell_at one doings ∷ []) n) same ∙ over)))
  at k false e over = sym (ap (λ b. cond b (one.block ∷ []) [] ++ own_blocks k ahead) e) ∙ none k (sym (more.others_over k e) ∙ over)

-- the block stands among those of its phase
pub block_here : (before : List Phase) (phase : Phase) (after : List Phase) (first : List Block) (block : Block) (others : List Block) → phase.blocks ≡ first ++ block ∷ others → IsPlayable before phase after → IsPlayableBlock before after block
block_here before phase after first block others b p =
    subst (IsPlayableBlock before after) (get_or-append_seam first block others block)
    (subst (λ z. (k : ℕ) (d : Block) → k < length z → IsPlayableBlock before after (slice_index_or z k d)) b p.blocks (length first) block (within (length first) (length others) (length (first ++ block ∷ others)) (length-append first (block ∷ others)))) where
      within : (n m l : ℕ) → l ≡ n + suc m → n < l
      within n m l e = omega (arith, e)

pub reached : ReachedLaw
reached = λ phases before phase after first block others e b p.
    (let n : ℕ = 1 + length before in
    let session : ℕ = block.session in
    let one : PhasedBlock = block_at before block in
    let distinct : AreDistinct (sessions_of (first ++ block ∷ others)) = subst (λ z. AreDistinct (sessions_of z)) b p.sessions in
    let here : IsPlayableBlock before after block = block_here before phase after first block others b p in
    let has : HasQuietLines block.lines = quiet_lines before after block here.body in
    let earlier : own_blocks session (phased n first) ≡ [] = none_earlier n first block others distinct in
    let later : own_blocks session (phased n others) ≡ [] = none_later n first block others distinct in
    record {
      next = record {
        rest = ahead_of before others after;
        all = ap (numbered 1) e ∙ split_here before phase after first block others b;
        low = up_to_then n (numbered 1 before) (phased n first) (numbered_up_to n 1 before (itself n)) (phased_up_to n n first (itself n));
        first = first_there session n before first block.connect _ here.first earlier;
        before = before;
        after = after;
        body = here.body;
      };
      goes_on = λ spells none. not_over spells one (ahead_of before others after) none;
      ahead = λ setting depths spells doings none played more.
          still_none setting (change_in phases) depths (done_before before first) spells one doings (ahead_of before others after) none more (λ over.
          (let quits : here.body.quits ≡ true = sym (quits_same before after block here.body) ∙ (sym (over_is one has (parts_in doings) (subst (λ z. AreFor (asks_of block.connect z) (parts_in doings)) has.written played.asked)) ∙ over) in
          own_then session (phased n others) (numbered (n + 1) after)
          ∙ (ap (λ z. z ++ own_blocks session (numbered (n + 1) after)) later ∙ (own_numbered session (n + 1) after ∙ here.body.last quits))));
    }) where
      itself : (n : ℕ) → n ≤ n
      itself n = omega arith
