-- A run behind one block more.
use Rattle.std.proofs.Common.{ℕ, ◌≡◌, ◌≤◌, ◌+◌, false, List, [], ◌∷◌, ◌++◌, length, ap, sym, ◌∙◌, subst, length-append}
use Rattle.pfs_actor.specs.ActorDeeds.{AreLabelled, HaveLed}
use Rattle.pfs_admin.specs.declared.changes.Change.{Change}
use Rattle.pfs_board.specs.declared.view.Label.{Label}
use Rattle.pfs_admin.specs.OpeningState.{opening_flags}
use Rattle.pfs_law_plain.specs.Spells.{Doing, Spell, calls_of, doings_calls, parts_in}
use Rattle.pfs_blocks.specs.PlayedBlocks.{HasPlayed}
use Rattle.pfs_classes.specs.declared.setting.Setting.{Setting}
use Rattle.pfs_law_script.specs.BlocksAhead.{NoneIsOver, ahead_of, block_at, done_before}
use Rattle.pfs_law_plain.proofs.NextSpell.{calls_more}
use Rattle.pfs_law_script.specs.Course.{IsCourse, PhasedBlock, asks_of, session_at}
use Rattle.pfs_law_script.specs.CourseSteps.{IsOneMore, IsPlayed, spell_at}
use Rattle.pfs_law_script.proofs.BlocksAhead.{done_block}
use Rattle.pfs_law_script.proofs.CourseSteps.{one_more}
use Rattle.pfs_law_report.specs.LostCounts.{lost_digests, lost_statements, lost_waits}
use Rattle.pfs_event.specs.declared.entry.Entry.{Entry}
use Rattle.pfs_law_plain.specs.ToldAnswers.{Answers}
use Rattle.pfs_levels.specs.Calls.{Call, Opening}
use Rattle.pfs_levels.specs.PlainStore.{AllAnswer}
use Rattle.pfs_matching.specs.ObjectRules.{opening_objects}
use Rattle.pfs_model.specs.JournalCuts.{joined}
use Rattle.pfs_law_session.specs.Deeds.{Part}
use Rattle.pfs_law_session.specs.JournalLaws.{AreParts, MayDoAll, entries_of, state_behind}
use Rattle.pfs_play.specs.Errands.{AreFor}
use Rattle.pfs_law_plain.proofs.ReadCalls.{LeadAlike, answers_more}
use Rattle.pfs_runs.specs.SelectAnswers.{Answer, AreAnswers, selections_in}
use Rattle.pfs_runs.specs.ScriptLines.{change_in}
use Rattle.pfs_script.specs.Marks.{written_out}
use Rattle.pfs_script.specs.declared.blocks.Block.{Block}
use Rattle.pfs_script.specs.declared.blocks.Phase.{Phase}
use Rattle.pfs_session.specs.SessionStates.{State, Book}
use Rattle.pfs_seats.proofs.BlockPlaces.{IsHere}
use Rattle.pfs_seats.proofs.LostDigestBounds.{block_digests}
use Rattle.pfs_seats.proofs.LostEventBounds.{block_few}
use Rattle.pfs_seats.specs.Seats.{depth_of}

-- what the session did at its block, as the course has it
pub record IsDone (setting : Setting) (phases before : List Phase) (first : List Block) (block : Block) (others : List Block) (after : List Phase) (spells : List Spell) (book paused : Book) (answers : List Answer) (start : Opening) (calls : List Call)
    (now : Opening → List Call → Type 0) : Type 0 where
  pub doings : List Doing
  pub more : IsOneMore setting (change_in phases) (depth_of phases) (done_before before first) spells (block_at before block) doings
  pub answer : AllAnswer (opening_flags setting opening_objects) (calls_of (spells ++ spell_at (block_at before block) doings ∷ []))
  pub state : paused.state ≡ state_behind (session_at setting (depth_of phases) spells block.session) (parts_in doings)
  pub entries : paused.journal.entries ≡ joined (entries_of (parts_in doings))
  pub led : now start (doings_calls doings ++ calls)
  pub ahead : NoneIsOver (spells ++ spell_at (block_at before block) doings ∷ []) (ahead_of before others after)
  pub are_parts : AreParts (session_at setting (depth_of phases) spells block.session) (parts_in doings)
  pub digests : lost_digests paused.journal.entries ≤ 1200012
  pub statements : lost_statements paused.journal.entries ≤ 200002
  pub waits : lost_waits paused.journal.entries ≤ 200002
  pub answered : AreAnswers (Answers setting) (selections_in block) (parts_in doings) answers

pub is_done : (setting : Setting) (phases before : List Phase) (first : List Block) (block : Block) (others : List Block) (after : List Phase) (spells : List Spell) (book paused : Book) (answers : List Answer) (start : Opening) (calls : List Call)
    (was now : Opening → List Call → Type 0) → IsHere setting phases before first block others after (done_before before first) → IsCourse setting (change_in phases) (depth_of phases) (done_before before first) spells
    → AllAnswer (opening_flags setting opening_objects) (calls_of spells) → NoneIsOver spells (block_at before block ∷ ahead_of before others after) → book.state ≡ session_at setting (depth_of phases) spells block.session → book.journal.entries ≡ []
    → HasPlayed setting setting (change_in phases) block book paused [] answers was now → start.flags ≡ opening_flags setting opening_objects → was start calls → LeadAlike calls (calls_of spells)
    → ((more : List Call) → now start more → AllAnswer start.flags more) → length (written_out block.lines) ≤ 200000 → IsDone setting phases before first block others after spells book paused answers start calls now
is_done setting phases before first block others after spells book paused answers start calls was now here course answer none is empty played opens led alike plain short =
    let one : PhasedBlock = block_at before block in
    let change : Label → Change = change_in phases in
    let flags : List ℕ = opening_flags setting opening_objects in
    let at : State = session_at setting (depth_of phases) spells block.session in
    let did = played.did in
    let ps : List Part = did.parts in
    let way : HaveLed setting change book.state ps start calls now = did.done.leads start calls led in
    let doings : List Doing = way.doings in
    let parts : parts_in doings ≡ ps = way.parts_are in
    let are : AreParts at ps = subst (λ (s : State). AreParts s ps) is did.done.are_parts in
    let told : AllAnswer flags (doings_calls doings ++ calls) = subst (λ (f : List ℕ). AllAnswer f (doings_calls doings ++ calls)) opens (plain (doings_calls doings ++ calls) way.reached) in
    let done : IsPlayed setting change (depth_of phases) spells one doings = record {
      goes_on = here.reached.goes_on spells none;
      are_parts = subst (λ (z : List Part). AreParts at z) (sym parts) are;
      may = subst (λ (z : List Part). MayDoAll false at z) (sym parts) (subst (λ (s : State). MayDoAll false s ps) is did.may);
      labelled = subst (λ (s : State). AreLabelled s doings) is way.labelled;
      folded = way.folded;
      asked = subst (AreFor (asks_of block.connect (written_out block.lines))) (sym parts) did.asked;
    } in
    let more = one_more setting phases (depth_of phases) (done_before before first) spells one doings course here.reached.next done in
    let text : paused.journal.entries ≡ joined (entries_of ps) = did.done.entries_are ∙ ap (λ (z : List Entry). z ++ joined (entries_of ps)) empty in
    record {
      doings = doings;
      more = more;
      answer = subst (AllAnswer flags) (sym (calls_more spells (spell_at one doings))) (answers_more flags (doings_calls doings) calls (calls_of spells) alike answer told);
      state = did.done.state ∙ (ap (λ (s : State). state_behind s ps) is ∙ ap (λ (z : List Part). state_behind at z) (sym parts));
      entries = text ∙ ap (λ (z : List Part). joined (entries_of z)) (sym parts);
      led = way.reached;
      ahead = here.reached.ahead setting (depth_of phases) spells doings none done more;
      are_parts = done.are_parts;
      digests = subst (λ (es : List Entry). lost_digests es ≤ 1200012) (sym text) (block_digests at ps block.connect (written_out block.lines) are did.asked short);
      statements = subst (λ (es : List Entry). lost_statements es ≤ 200002) (sym text) (block_few _ at ps block.connect (written_out block.lines) are did.asked short);
      waits = subst (λ (es : List Entry). lost_waits es ≤ 200002) (sym text) (block_few _ at ps block.connect (written_out block.lines) are did.asked short);
      answered = subst (λ (z : List Part). AreAnswers (Answers setting) (selections_in block) z answers) (sym parts)
          (subst (AreAnswers (Answers setting) (selections_in block) ps) (sym did.given_are) did.answered);
    }

-- a block that was played with no answers yet, and what is shown of those that came
pub from_none : (setting fixed : Setting) (change : Label → Change) (block : Block) (book paused : Book) (before after shown : List Answer) (was now : Opening → List Call → Type 0) → HasPlayed setting fixed change block book paused before after was now
    → before ≡ [] → shown ≡ after → HasPlayed setting fixed change block book paused [] shown was now
from_none setting fixed change block book paused before after shown was now played none same =
    subst (λ (z : List Answer). HasPlayed setting fixed change block book paused [] z was now) (sym same)
    (subst (λ (z : List Answer). HasPlayed setting fixed change block book paused z after was now) none played)

-- in a run that fixes this setting and changes what these phases say
pub in_run : (setting fixed : Setting) (change other : Label → Change) (block : Block) (book paused : Book) (answers behind : List Answer) (was now : Opening → List Call → Type 0) → fixed ≡ setting → change ≡ other
    → HasPlayed setting fixed change block book paused answers behind was now → HasPlayed setting setting other block book paused answers behind was now
in_run setting fixed change other block book paused answers behind was now same too played =
    subst (λ (f : Setting). HasPlayed setting f other block book paused answers behind was now) same
    (subst (λ (c : Label → Change). HasPlayed setting fixed c block book paused answers behind was now) too played)

-- the blocks so far, with one more
pub more_done : (before : List Phase) (first : List Block) (block : Block) → length (done_before before (first ++ block ∷ [])) ≡ length (done_before before first) + 1
more_done before first block = ap length (done_block before first block) ∙ length-append (done_before before first) (block_at before block ∷ [])
