-- A session behind one block of its own more, or behind blocks of others.
use Rattle.std.proofs.Common.{ℕ, ◌≡◌, ◌≢◌, ◌≤◌, ◌+◌, ◌-◌, ◌==◌, Bool, true, false, List, [], ◌∷◌, ◌++◌, length, Option, Some, None, slice_set, ap, sym, ◌∙◌, subst, append-nil, eq-eqb, arith}
use Rattle.std.specs.List.{flat_map}
use Rattle.std.proofs.lemmas.Grind.{flat_map-append}
use Rattle.std.proofs.lemmas.List.{get_or-set_same, get_or-set_other, length-set}
use Rattle.pfs_blocks.proofs.BlockQuits.{written_quit}
use Rattle.pfs_blocks.proofs.RepeatKinds.{written_kinds}
use Rattle.pfs_classes.specs.declared.setting.Setting.{Setting}
use Rattle.pfs_event.specs.declared.kind.EventKind.{EventKind}
use Rattle.pfs_law_plain.specs.LineSteps.{kinds_at}
use Rattle.pfs_law_plain.specs.Spells.{Spell}
use Rattle.pfs_law_script.specs.Course.{PhasedBlock, own_blocks, session_at}
use Rattle.pfs_law_script.specs.PlayableBlocks.{HasBody, end_of, kinds_before, kinds_left, lines_among}
use Rattle.pfs_law_session.specs.Stints.{resumed}
use Rattle.pfs_play.proofs.WrittenRepeats.{kinds_then}
use Rattle.pfs_play.specs.Errands.{StagesLie, actions_on, kinds_after}
use Rattle.pfs_play.specs.Repeats.{AllMayPlay}
use Rattle.pfs_script.specs.Events.{blocks_for, lines_for}
use Rattle.pfs_script.specs.Marks.{written_out}
use Rattle.pfs_script.specs.declared.blocks.Block.{Block}
use Rattle.pfs_script.specs.declared.blocks.BlockLine.{BlockLine}
use Rattle.pfs_script.specs.declared.blocks.BlockLine.TheVariants as said
use Rattle.pfs_script.specs.declared.blocks.Phase.{Phase}
use Rattle.pfs_session.specs.SessionStates.{State, Book, nothing_held}
use Rattle.pfs_seats.specs.Seats.{IsWaiting, Sits, depth_of, lines_at, seat_of}
use Rattle.pfs_seats.proofs.BlockPlaces.{IsHere}
use Rattle.pfs_seats.proofs.ReadySessions.{IsReady}

-- what a block leaves open, with each repeat written out or as it stands
ends_alike : (depth : ℕ) (kinds : List EventKind) (body : List BlockLine) (quits : Bool) → AllMayPlay 62 depth kinds None body → kinds_after kinds (written_out (body ++ end_of quits)) ≡ kinds_after kinds (body ++ end_of quits)
ends_alike depth kinds body false may =
    ap (λ (l : List BlockLine). kinds_after kinds (written_out l)) (append-nil body) ∙ (written_kinds depth kinds body may ∙ ap (kinds_after kinds) (sym (append-nil body)))
ends_alike depth kinds body true may =
    ap (kinds_after kinds) (written_quit body) ∙ (kinds_then kinds (written_out body) (said.Quit ∷ []) ∙ (ap (λ (k : List EventKind). kinds_after k (said.Quit ∷ [])) (written_kinds depth kinds body may) ∙ sym (kinds_then kinds body (said.Quit ∷ []))))

pub left_open : (before after : List Phase) (block : Block) (depth : ℕ) (kinds : List EventKind) → HasBody before after block → lines_among (blocks_for block.session before) + length block.lines ≤ depth → kinds ≡ kinds_before block.session before
    → kinds_after kinds (written_out block.lines) ≡ kinds_left (lines_for block.session before ++ written_out block.lines)
left_open before after block depth kinds body deep same =
    let may : AllMayPlay 62 depth kinds None body.body = subst (λ (k : List EventKind). AllMayPlay 62 depth k None body.body) (sym same) (body.plays depth deep) in
    ap (λ (l : List BlockLine). kinds_after kinds (written_out l)) body.lines
    ∙ (ends_alike depth kinds body.body body.quits may
    ∙ (ap (kinds_after kinds) (sym body.lines) ∙ (ap (λ (k : List EventKind). kinds_after k block.lines) same ∙ sym body.behind)))

-- seats
pub same_seat : (seats : List (Option Book)) (number : ℕ) (book : Book) → length seats ≡ 64 → 1 ≤ number → number ≤ 64 → seat_of (slice_set (slice_set seats (number - 1) None) (number - 1) (Some book)) number ≡ Some book
same_seat seats number book wide low high =
    let size = length-set seats (number - 1) None in
    get_or-set_same (slice_set seats (number - 1) None) (number - 1) (Some book) None (omega (arith, size, wide, low, high))

pub other_seat : (seats : List (Option Book)) (number other : ℕ) (book : Book) → 1 ≤ number → 1 ≤ other → (number == other) ≡ false → seat_of (slice_set (slice_set seats (number - 1) None) (number - 1) (Some book)) other ≡ seat_of seats other
other_seat seats number other book low least differ =
    let apart : other - 1 ≢ number - 1 = λ same. absurd (absurd_by number other differ (omega (arith, same, low, least))) in
    get_or-set_other (slice_set seats (number - 1) None) (number - 1) (other - 1) (Some book) None apart ∙ get_or-set_other seats (number - 1) (other - 1) None None apart
  where
    absurd_by : (n m : ℕ) → (n == m) ≡ false → n ≡ m → ⊥
    absurd_by n m differ same = let yes = eq-eqb n m same in cc

-- what a block leaves of its session, once the journal is handed out
pub record IsLeft (block : Block) (book waiting : Book) : Type 0 where
  pub entries : waiting.journal.entries ≡ []
  pub free : waiting.state.held ≡ nothing_held
  pub kinds : kinds_at waiting.state ≡ kinds_after (kinds_at book.state) (written_out block.lines)
  pub lie : StagesLie (kinds_at waiting.state)
  pub drawn : waiting.state.drawn ≤ book.state.drawn + length (written_out block.lines)
  pub actions : waiting.state.actions ≤ book.state.actions + actions_on (written_out block.lines) + 2
  pub depth : waiting.state.opened.depth ≡ book.state.opened.depth

-- the state is that of the session as it was paused
pub left_as : (block : Block) (book paused waiting : Book) → waiting.state ≡ paused.state → waiting.journal.entries ≡ [] → paused.state.held ≡ nothing_held
    → kinds_at paused.state ≡ kinds_after (kinds_at book.state) (written_out block.lines) → StagesLie (kinds_at paused.state) → paused.state.drawn ≤ book.state.drawn + length (written_out block.lines)
    → paused.state.actions ≤ book.state.actions + actions_on (written_out block.lines) + 2 → paused.state.opened.depth ≡ book.state.opened.depth → IsLeft block book waiting
left_as block book paused waiting same entries free kinds lie drawn actions depth =
    let drawn_same = ap (λ (s : State). s.drawn) same in
    let actions_same = ap (λ (s : State). s.actions) same in
    record {
      entries = entries;
      free = ap (λ (s : State). s.held) same ∙ free;
      kinds = ap (λ (s : State). kinds_at s) same ∙ kinds;
      lie = subst (λ (s : State). StagesLie (kinds_at s)) (sym same) lie;
      drawn = omega (arith, drawn_same, drawn);
      actions = omega (arith, actions_same, actions);
      depth = ap (λ (s : State). s.opened.depth) same ∙ depth;
    }

-- a session that had none of the blocks since waits as it did
pub others_by : (setting : Setting) (phases : List Phase) (done now : List PhasedBlock) (spells more : List Spell) (session : ℕ) (seat : Option Book) → own_blocks session now ≡ own_blocks session done → length done ≤ length now
    → session_at setting (depth_of phases) more session ≡ session_at setting (depth_of phases) spells session → Sits setting phases done spells session seat → Sits setting phases now more session seat
others_by setting phases done now spells more session None own long same sits = own ∙ sits
others_by setting phases done now spells more session (Some book) own long same sits = record {
  begun = λ none. sits.begun (sym own ∙ none);
  state = sits.state ∙ sym same;
  entries = sits.entries;
  depth = sits.depth;
  free = sits.free;
  kinds = sits.kinds ∙ ap (λ (bs : List Block). kinds_left (flat_map (λ (block : Block). written_out block.lines) bs)) (sym own);
  lie = sits.lie;
  drawn = omega (arith, long, sits.drawn);
  actions = omega (arith, long, sits.actions);
}

some_blocks : (blocks : List Block) (block : Block) → blocks ++ block ∷ [] ≡ [] → ⊥
some_blocks [] block e = cc
some_blocks (b ∷ bs) block e = cc

-- a session that had one of them, and no other, waits for its next block
pub own_waits : (setting : Setting) (phases before : List Phase) (first : List Block) (block : Block) (others : List Block) (after : List Phase) (done now : List PhasedBlock) (spells more : List Spell) (book waiting : Book)
    → IsHere setting phases before first block others after done → IsReady setting phases done spells block book → own_blocks block.session now ≡ own_blocks block.session done ++ block ∷ [] → length done + 1 ≤ length now
    → resumed waiting.state ≡ session_at setting (depth_of phases) more block.session → IsLeft block book waiting → IsWaiting setting phases now more block.session waiting
own_waits setting phases before first block others after done now spells more book waiting here ready own long state left =
    let write : List Block → List BlockLine = flat_map (λ (block : Block). written_out block.lines) in
    let lines : lines_at block.session now ≡ lines_at block.session done ++ written_out block.lines =
    ap write own ∙ (flat_map-append (λ (block : Block). written_out block.lines) (own_blocks block.session done) (block ∷ []) ∙ ap (λ (z : List BlockLine). lines_at block.session done ++ z) (append-nil (written_out block.lines))) in
    let kinds_are : kinds_at book.state ≡ kinds_before block.session before = ready.kinds ∙ ap (λ (bs : List Block). kinds_left (flat_map (λ (block : Block). written_out block.lines) bs)) here.own in
    let still : kinds_after (kinds_at book.state) (written_out block.lines) ≡ kinds_left (lines_at block.session done ++ written_out block.lines) =
    left_open before after block (depth_of phases block.session) (kinds_at book.state) here.playable.body here.depth kinds_are
    ∙ ap (λ (bs : List Block). kinds_left (flat_map (λ (block : Block). written_out block.lines) bs ++ written_out block.lines)) (sym here.own) in
    let short = here.playable.short in
    record {
      begun = λ none. some_blocks (own_blocks block.session done) block (sym own ∙ none);
      state = state;
      entries = left.entries;
      depth = left.depth ∙ ready.depth;
      free = left.free;
      kinds = left.kinds ∙ (still ∙ ap kinds_left (sym lines));
      lie = left.lie;
      drawn = omega (arith, long, short, left.drawn, ready.drawn);
      actions = omega (arith, long, here.rare, left.actions, ready.actions);
    }
