-- The spell of a block that was played over an actor of its own.
use Rattle.std.proofs.Common.{ℕ, ◌≡◌, ◌+◌, false, List, [], ◌++◌, refl, ap, sym, ◌∙◌, subst, append-nil}
use Rattle.pfs_actor.specs.ActorDeeds.{AreLabelled, HaveLed}
use Rattle.pfs_event.specs.declared.entry.Entry.{Entry}
use Rattle.pfs_law_plain.specs.Spells.{Spell, doings_calls, parts_in}
use Rattle.pfs_law_plain.specs.ToldAnswers.{Answers}
use Rattle.pfs_law_script.specs.Course.{asks_of, over_at, session_at}
use Rattle.pfs_law_session.specs.Deeds.{Part}
use Rattle.pfs_law_session.specs.JournalLaws.{AreParts, MayDoAll, entries_of, state_behind}
use Rattle.pfs_model.specs.JournalCuts.{joined}
use Rattle.pfs_play.specs.Errands.{AreFor}
use Rattle.pfs_runs.specs.SelectAnswers.{Answer, AreAnswers, selections_in}
use Rattle.pfs_script.specs.Marks.{written_out}
use Rattle.pfs_session.specs.SessionStates.{Book, State}
use Rattle.pfs_admin.specs.declared.changes.Change.{Change}
use Rattle.pfs_blocks.specs.PlayedBlocks.{HasPlayed}
use Rattle.pfs_board.specs.declared.view.Label.{Label}
use Rattle.pfs_classes.specs.declared.setting.Setting.{Setting}
use Rattle.pfs_levels.specs.Calls.{Call, Opening}
use Rattle.pfs_script.specs.declared.blocks.Block.{Block}
use Rattle.pfs_script.specs.declared.blocks.Phase.{Phase}
use Rattle.pfs_law_phases.specs.Blocks.{HasSpell}

-- Its session was as the spells before the phase left it, not over, with an empty journal; the actor was as it was
-- opened, with no call behind that; and the block was played, behind no answers
pub played : (setting : Setting) (change : Label → Change) (depths : ℕ → ℕ) (spells : List Spell) (before : List Phase) (block : Block) (old new : Book) (given : List Answer) (start : Opening) (was now : Opening → List Call → Type 0)
    → over_at spells block.session ≡ false → old.state ≡ session_at setting depths spells block.session → old.journal.entries ≡ [] → was start [] → HasPlayed setting setting change block old new [] given was now
    → HasSpell setting change depths spells before block new given start now
played setting change depths spells before block old new given start was now goes is blank opened done =
    let at : State = session_at setting depths spells block.session in
    let did = done.did in
    let ps : List Part = did.parts in
    let way : HaveLed setting change old.state ps start [] now = did.done.leads start [] opened in
    let parts : parts_in way.doings ≡ ps = way.parts_are in
    let text : new.journal.entries ≡ joined (entries_of ps) = did.done.entries_are ∙ ap (λ (z : List Entry). z ++ joined (entries_of ps)) blank in
    record {
      doings = way.doings;
      played = record {
        goes_on = goes;
        are_parts = subst (λ (z : List Part). AreParts at z) (sym parts) (subst (λ (s : State). AreParts s ps) is did.done.are_parts);
        may = subst (λ (z : List Part). MayDoAll false at z) (sym parts) (subst (λ (s : State). MayDoAll false s ps) is did.may);
        labelled = subst (λ (s : State). AreLabelled s way.doings) is way.labelled;
        folded = way.folded;
        asked = subst (AreFor (asks_of block.connect (written_out block.lines))) (sym parts) did.asked;
      };
      state = did.done.state ∙ (ap (λ (s : State). state_behind s ps) is ∙ ap (λ (z : List Part). state_behind at z) (sym parts));
      entries = text ∙ ap (λ (z : List Part). joined (entries_of z)) (sym parts);
      reached = subst (now start) (append-nil (doings_calls way.doings)) way.reached;
      told = λ report session entries answers. record {
        phase = refl;
        session = refl;
        reported = session;
        entries = entries ∙ (text ∙ ap (λ (z : List Part). joined (entries_of z)) (sym parts));
        answers = subst (λ (z : List Part). AreAnswers (Answers setting) (selections_in block) z report.answers) (sym parts)
            (subst (AreAnswers (Answers setting) (selections_in block) ps) (sym (answers ∙ did.given_are)) did.answered);
      };
    }
