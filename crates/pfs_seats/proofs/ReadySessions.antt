-- A session that was taken from its seat may play its next block.
use Rattle.std.proofs.Common.{ℕ, ◌≡◌, ◌≤◌, ◌<◌, ◌+◌, ◌*◌, ◌==◌, Bool, true, false, cond, List, [], ◌∷◌, ◌++◌, length, Option, Some, None, IfSome, refl, ap, sym, ◌∙◌, subst, arith}
use Rattle.std.specs.Prelude.{MatchOption}
use Rattle.std.specs.List.{flat_map}
use Rattle.pfs_actor.specs.ActionAsks.{MayConnect}
use Rattle.pfs_law_plain.specs.Spells.{Spell, parts_in, stints_of}
use Rattle.pfs_blocks.specs.PlayedBlocks.{MayEnd}
use Rattle.pfs_blocks.proofs.RepeatKinds.{written_kinds}
use Rattle.pfs_classes.specs.declared.setting.Setting.{Setting}
use Rattle.pfs_law_script.specs.Course.{AreSpellsOf, PhasedBlock, own_blocks, session_at}
use Rattle.pfs_event.specs.declared.kind.EventKind.{EventKind}
use Rattle.pfs_law_plain.specs.LineSteps.{kinds_at}
use Rattle.pfs_law_session.specs.JournalLaws.{state_behind}
use Rattle.pfs_law_session.specs.Stints.{resumed, state_by}
use Rattle.pfs_play.specs.Errands.{StagesLie, kinds_after}
use Rattle.pfs_play.specs.Repeats.{AllMayPlay}
use Rattle.pfs_law_script.specs.PlayableBlocks.{HasBody, kinds_before, kinds_left, lines_among}
use Rattle.pfs_script.specs.Brackets.{brackets_from}
use Rattle.pfs_script.specs.Events.{blocks_for}
use Rattle.pfs_script.specs.Marks.{written_out}
use Rattle.pfs_script.specs.declared.blocks.Block.{Block}
use Rattle.pfs_script.specs.declared.blocks.BlockLine.{BlockLine}
use Rattle.pfs_script.specs.declared.blocks.Connect.{Connect}
use Rattle.pfs_script.specs.declared.blocks.Phase.{Phase}
use Rattle.pfs_session.specs.SessionStates.{State, Book, fresh, nothing_held}
use Rattle.pfs_seats.specs.Seats.{GoesOn, Sits, depth_of, lines_at}
use Rattle.pfs_seats.proofs.BlockPlaces.{IsHere}

pub record IsReady (setting : Setting) (phases : List Phase) (done : List PhasedBlock) (spells : List Spell) (block : Block) (book : Book) : Type 0 where
  pub state : book.state ≡ session_at setting (depth_of phases) spells block.session
  pub entries : book.journal.entries ≡ []
  pub connects : IfSome block.connect (λ names. MayConnect book.state setting names.user names.host)
  pub may : MayEnd book.state.opened.depth (kinds_at book.state) block.lines
  pub kinds : kinds_at book.state ≡ kinds_left (lines_at block.session done)
  pub lie : StagesLie (kinds_at book.state)
  pub free : book.state.held ≡ nothing_held
  pub drawn : book.state.drawn ≤ 200000 * length done
  pub actions : book.state.actions ≤ 16668 * length done
  pub depth : book.state.opened.depth ≡ depth_of phases block.session

-- a session that no spell is of is as it began
idle_by : (session : ℕ) (s : State) (spell : Spell) (spells : List Spell) → (spell.session == session) ≡ false → state_by session s (stints_of spells) ≡ s → state_by session s (stints_of (spell ∷ spells)) ≡ s
idle_by session s spell spells other rest = ap (λ (b : Bool). state_by session (cond b (resumed (state_behind s (parts_in spell.doings))) s) (stints_of spells)) other ∙ rest

not_own : (one : PhasedBlock) (others : List PhasedBlock) (session : ℕ) (b : Bool) → (one.block.session == session) ≡ b → cond b (one.block ∷ []) [] ++ own_blocks session others ≡ [] → b ≡ false
not_own one others session true is none = absurd (cc)
not_own one others session false is none = refl

pub no_spells : (session : ℕ) (s : State) (done : List PhasedBlock) (spells : List Spell) → AreSpellsOf done spells → own_blocks session done ≡ [] → state_by session s (stints_of spells) ≡ s
no_spells session s [] [] are none = refl
no_spells session s [] (y ∷ ys) are none = absurd are
no_spells session s (x ∷ xs) [] are none = absurd are
no_spells session s (x ∷ xs) (y ∷ ys) are none =
    let other : (x.block.session == session) ≡ false = not_own x xs session (x.block.session == session) refl none in
    let later : own_blocks session xs ≡ [] = ap (λ (b : Bool). cond b (x.block ∷ []) [] ++ own_blocks session xs) (sym other) ∙ none in
    idle_by session s y ys (ap (λ n. n == session) are.0.session ∙ other) (no_spells session s xs ys are.1 later)

-- the lines of a block may be played to their end
may_end : (before after : List Phase) (block : Block) (depth : ℕ) (kinds : List EventKind) → HasBody before after block → lines_among (blocks_for block.session before) + length block.lines ≤ depth → kinds ≡ kinds_before block.session before
    → MayEnd depth kinds block.lines
may_end before after block depth kinds body deep same =
    let may : AllMayPlay 62 depth kinds None body.body = subst (λ (k : List EventKind). AllMayPlay 62 depth k None body.body) (sym same) (body.plays depth deep) in
    record {
      body = body.body;
      quits = body.quits;
      are = body.lines;
      may = may;
      closed = λ quits. written_kinds depth kinds body.body may ∙ (ap (λ (k : List EventKind). kinds_after k body.body) same ∙ body.closed quits);
    }

no_names : (setting : Setting) (connect : Option Connect) (s : State) (none : Type 0) → MatchOption connect none (λ names. ⊥) → IfSome connect (λ names. MayConnect s setting names.user names.host)
no_names setting None s none m = tt
no_names setting (Some names) s none m = absurd m

-- names of a setting, for a session that begins
may_begin : (setting : Setting) (number stack depth : ℕ) (connect : Option Connect) → IfSome connect (λ names. (names.user < length setting.names) × (names.host < length setting.names))
    → IfSome connect (λ names. MayConnect (fresh number stack depth) setting names.user names.host)
may_begin setting number stack depth None named = tt
may_begin setting number stack depth (Some names) named = record {
  first = refl;
  unplaced = refl;
  closed = refl;
  user_named = named.0;
  host_named = named.1;
}

-- where a session has had blocks, its block gives no names
goes_by : (connect : Option Connect) (blocks : List Block) (other : Type 0) → MatchOption connect other (λ names. blocks ≡ []) → (blocks ≡ [] → ⊥) → MatchOption connect other (λ names. ⊥)
goes_by None blocks other m some = m
goes_by (Some names) blocks other m some = absurd (some m)

none_left : (lines : List BlockLine) → lines ≡ [] → kinds_left lines ≡ []
unfolding brackets_from
none_left lines none = ap kinds_left none

ready_by : (setting : Setting) (phases before : List Phase) (first : List Block) (block : Block) (others : List Block) (after : List Phase) (done : List PhasedBlock) (spells : List Spell) (book : Book) (seat : Option Book)
    → IsHere setting phases before first block others after done → AreSpellsOf done spells
    → Sits setting phases done spells block.session seat → GoesOn seat block.session setting.limits.statement_stack (depth_of phases block.session) book
    → IsReady setting phases done spells block book
ready_by setting phases before first block others after done spells book None here are sits goes =
    let begun : State = fresh block.session setting.limits.statement_stack (depth_of phases block.session) in
    let is : book.state ≡ begun = ap (λ (b : Book). b.state) goes in
    let lines : lines_at block.session done ≡ [] = ap (λ (bs : List Block). flat_map (λ (block : Block). written_out block.lines) bs) sits in
    let kinds : kinds_at book.state ≡ kinds_left (lines_at block.session done) = ap (λ (s : State). kinds_at s) is ∙ sym (none_left (lines_at block.session done) lines) in
    let deep : book.state.opened.depth ≡ depth_of phases block.session = ap (λ (s : State). s.opened.depth) is in
    let drawn = ap (λ (s : State). s.drawn) is in
    let actions = ap (λ (s : State). s.actions) is in
    record {
      state = is ∙ sym (no_spells block.session begun done spells are sits);
      entries = ap (λ (b : Book). b.journal.entries) goes;
      connects = subst (λ (s : State). IfSome block.connect (λ names. MayConnect s setting names.user names.host)) (sym is) (may_begin setting block.session setting.limits.statement_stack (depth_of phases block.session) block.connect here.named);
      may = may_end before after block book.state.opened.depth (kinds_at book.state) here.playable.body (subst (λ n. lines_among (blocks_for block.session before) + length block.lines ≤ n) (sym deep) here.depth)
          (kinds ∙ ap (λ (bs : List Block). kinds_left (flat_map (λ (block : Block). written_out block.lines) bs)) here.own);
      kinds = kinds;
      lie = subst (λ (s : State). StagesLie (kinds_at s)) (sym is) tt;
      free = ap (λ (s : State). s.held) is;
      drawn = omega (arith, drawn);
      actions = omega (arith, actions);
      depth = deep;
    }
ready_by setting phases before first block others after done spells book (Some was) here are sits goes =
    let is : book.state ≡ resumed was.state = ap (λ (b : Book). b.state) goes in
    let kinds : kinds_at book.state ≡ kinds_left (lines_at block.session done) = ap (λ (s : State). kinds_at s) is ∙ sits.kinds in
    let deep : book.state.opened.depth ≡ depth_of phases block.session = ap (λ (s : State). s.opened.depth) is ∙ sits.depth in
    let drawn = ap (λ (s : State). s.drawn) is in
    let actions = ap (λ (s : State). s.actions) is in
    let some : blocks_for block.session before ≡ [] → ⊥ = λ none. sits.begun (here.own ∙ none) in
    record {
      state = is ∙ sits.state;
      entries = ap (λ (b : Book). b.journal.entries) goes ∙ sits.entries;
      connects = no_names setting block.connect book.state _ (goes_by block.connect (blocks_for block.session before) _ here.playable.first some);
      may = may_end before after block book.state.opened.depth (kinds_at book.state) here.playable.body (subst (λ n. lines_among (blocks_for block.session before) + length block.lines ≤ n) (sym deep) here.depth)
          (kinds ∙ ap (λ (bs : List Block). kinds_left (flat_map (λ (block : Block). written_out block.lines) bs)) here.own);
      kinds = kinds;
      lie = subst (λ (s : State). StagesLie (kinds_at s)) (sym is) sits.lie;
      free = ap (λ (s : State). s.held) is ∙ sits.free;
      drawn = omega (arith, drawn, sits.drawn);
      actions = omega (arith, actions, sits.actions);
      depth = deep;
    }

pub ready : (setting : Setting) (phases before : List Phase) (first : List Block) (block : Block) (others : List Block) (after : List Phase) (done : List PhasedBlock) (spells : List Spell) (book : Book) (seat : Option Book)
    → IsHere setting phases before first block others after done → AreSpellsOf done spells
    → Sits setting phases done spells block.session seat → GoesOn seat block.session setting.limits.statement_stack (depth_of phases block.session) book
    → IsReady setting phases done spells block book
ready = ready_by

-- and it goes on so with room in its journal
pub ready_same : (setting : Setting) (phases : List Phase) (done : List PhasedBlock) (spells : List Spell) (block : Block) (book other : Book) → other.state ≡ book.state → other.journal.entries ≡ book.journal.entries
    → IsReady setting phases done spells block book → IsReady setting phases done spells block other
ready_same setting phases done spells block book other same entries r =
    let drawn = ap (λ (s : State). s.drawn) same in
    let actions = ap (λ (s : State). s.actions) same in
    record {
      state = same ∙ r.state;
      entries = entries ∙ r.entries;
      connects = subst (λ (s : State). IfSome block.connect (λ names. MayConnect s setting names.user names.host)) (sym same) r.connects;
      may = subst (λ (s : State). MayEnd s.opened.depth (kinds_at s) block.lines) (sym same) r.may;
      kinds = ap (λ (s : State). kinds_at s) same ∙ r.kinds;
      lie = subst (λ (s : State). StagesLie (kinds_at s)) (sym same) r.lie;
      free = ap (λ (s : State). s.held) same ∙ r.free;
      drawn = omega (arith, drawn, r.drawn);
      actions = omega (arith, actions, r.actions);
      depth = ap (λ (s : State). s.opened.depth) same ∙ r.depth;
    }
