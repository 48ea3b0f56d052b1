-- A session that plays the lines of a block and quits, and the end of a block.
use Rattle.std.proofs.Common.{ℕ, ◌≡◌, ◌+◌, Bool, true, false, List, [], ◌∷◌, ◌++◌, length, map, Option, Some, None, refl, ap, sym, ◌∙◌, subst, append_assoc, arith}
use Rattle.std.proofs.lemmas.List.{append-nil, map-append}
use Rattle.std.proofs.Common.{length-append}
use Rattle.pfs_actor.specs.ActorDeeds.{HasActed, HasDone}
use Rattle.pfs_admin.specs.AdministrationStates.{State as Administration}
use Rattle.pfs_admin.specs.Fold.{state_of}
use Rattle.pfs_admin.specs.declared.changes.Change.{Change}
use Rattle.pfs_board.specs.declared.view.Label.{Label}
use Rattle.pfs_play.proofs.ActionParts.{may_quit}
use Rattle.pfs_play.proofs.FurtherDeeds.{then}
use Rattle.pfs_classes.specs.declared.setting.Setting.{Setting}
use Rattle.pfs_event.specs.declared.entry.Entry.{Entry}
use Rattle.pfs_event.specs.declared.kind.EventKind.{EventKind}
use Rattle.pfs_event.specs.declared.open.Open.{Open}
use Rattle.pfs_law_plain.specs.ToldAnswers.{Answers}
use Rattle.pfs_law_plain.specs.LineSteps.{kinds_in}
use Rattle.pfs_levels.specs.Calls.{Call, Opening}
use Rattle.pfs_model.specs.JournalCuts.{joined}
use Rattle.pfs_law_session.specs.Deeds.{Deed, Part, Closing, Quitting, part_entries}
use Rattle.pfs_play.specs.Errands.{HavePlayed, StagesLie, actions_on, asks_on, cost_on, kinds_after}
use Rattle.pfs_play.proofs.NextLines.{answers_on, asks_on_then}
use Rattle.pfs_play.proofs.RepeatedLines.{for_then}
use Rattle.pfs_play.proofs.WrittenRepeats.{actions_then, cost_then, kinds_then}
use Rattle.pfs_runs.specs.SelectAnswers.{Answer, AreAnswers, Selection, connect_selections, selection_on}
use Rattle.pfs_script.specs.declared.blocks.BlockLine.{BlockLine}
use Rattle.pfs_script.specs.declared.blocks.BlockLine.TheVariants as said
use Rattle.pfs_script.specs.declared.blocks.Connect.{Connect}
use Rattle.pfs_script.specs.Marks.{written_out}
use Rattle.pfs_session.specs.SessionStates.{Book}
use Rattle.pfs_session.specs.Turns.{Played, SettlesHeld}
use Rattle.pfs_law_script.specs.Course.{asks_of, connecting}
use Rattle.pfs_blocks.specs.PlayedBlocks.{HasMet}
use Rattle.pfs_blocks.proofs.MetAsks.{may_then, met_action, met_then, over_then}
use Rattle.pfs_blocks.proofs.BlockQuits.{written_quit}
use Rattle.pfs_blocks.proofs.PlayedLines.{met_lines}

-- of no kinds there are no events
pub no_events : (events : List Open) → kinds_in events ≡ [] → events ≡ []
no_events [] none = refl
no_events (what ∷ events) none = cc

joined_one : (entries : List Entry) → joined (entries ∷ []) ≡ entries
unfolding joined
joined_one entries = append-nil entries

closing_done : (fixed : Setting) (change : Label → Change) (old new : Book) (was now : Opening → List Call → Type 0) (played : Played (SettlesHeld ∷ []) old new was now)
    → HasDone fixed change ((record { deed = Closing; turns = played.turns }) ∷ []) old new was now
closing_done fixed change old new was now played =
    let its : Part = record { deed = Closing; turns = played.turns } in
    record {
      are_parts = (record { are_turns = played.are_turns; steps_are = played.steps_are }, tt);
      state = played.state_is;
      entries_are = played.did.entries_are ∙ ap (λ (z : List Entry). old.journal.entries ++ z) (sym (joined_one (part_entries its)));
      leads = λ start calls h. record {
        doings = (record { part = its; label = record { session = 0; line = 0 }; labels = []; met = None }) ∷ [];
        parts_are = refl;
        labelled = (tt, tt);
        folded = (tt, tt);
        reached = played.did.goes start calls h;
      };
    }

-- what a block asks of its session as it ends
abbrev closing : List (Administration → Deed)
closing = (λ admin. Closing) ∷ []

-- where its SELECTs are those of lines: behind them a quit, which is none, stands for the end
met_closing : (setting fixed : Setting) (change : Label → Change) (lines : List BlockLine) (asks : List (Administration → Deed)) (over : Bool) (old at new : Book) (answers behind : List Answer) (was mid now : Opening → List Call → Type 0)
    → HasMet setting fixed change (map selection_on lines) asks over old at answers behind was mid → Played (SettlesHeld ∷ []) at new mid now
    → HasMet setting fixed change (map selection_on lines ++ None ∷ []) (asks ++ closing) over old new answers behind was now
met_closing setting fixed change lines asks over old at new answers behind was mid now p played =
    let its : Part = record { deed = Closing; turns = played.turns } in
    let ps : List Part = p.parts in
    record {
      parts = ps ++ its ∷ [];
      asked = for_then asks closing ps (its ∷ []) p.asked (record { admin = state_of fixed change []; is = refl }, tt);
      may = may_then false old.state ps (its ∷ []) p.may (tt, tt);
      over_is = over_then false ps (its ∷ []) ∙ p.over_is;
      given = p.given ++ [];
      given_are = p.given_are ∙ ap (λ (z : List Answer). answers ++ z) (sym (append-nil p.given));
      answered = subst (λ (z : List (Option Selection)). AreAnswers (Answers setting) z (ps ++ its ∷ []) (p.given ++ [])) (map-append selection_on lines (said.Quit ∷ []))
          (answers_on setting lines (said.Quit ∷ []) ps (its ∷ []) p.given [] p.answered refl);
      done = then fixed change ps (its ∷ []) old at new was mid now p.done (closing_done fixed change at new mid now played);
    }

-- lines, and a quit behind them
pub met_quit : (setting fixed : Setting) (change : Label → Change) (body : List BlockLine) (old mid new : Book) (answers behind : List Answer) (was at now : Opening → List Call → Type 0)
    → HavePlayed setting fixed change (written_out body) old mid answers behind was at → HasActed fixed change Quitting mid new at now → mid.state.opened.events ≡ []
    → HasMet setting fixed change (map selection_on (written_out (body ++ said.Quit ∷ []))) (asks_on (written_out (body ++ said.Quit ∷ []))) true old new answers behind was now
met_quit setting fixed change body old mid new answers behind was at now played quit closed =
    let lines : List BlockLine = written_out body in
    let quitting : List (Administration → Deed) = asks_on (said.Quit ∷ []) in
    let first : HasMet setting fixed change (map selection_on lines) (asks_on lines) false old mid answers behind was at = met_lines setting fixed change lines old mid answers behind was at played in
    let last : HasMet setting fixed change (None ∷ []) quitting true mid new behind behind at now = met_action setting fixed change Quitting true mid new behind at now quit refl (may_quit mid.state quit.admin closed) refl in
    let both : HasMet setting fixed change (map selection_on (lines ++ said.Quit ∷ [])) (asks_on lines ++ quitting) true old new answers behind was now =
    met_then setting fixed change lines (said.Quit ∷ []) (asks_on lines) quitting true old mid new answers behind behind was at now first last in
    subst (λ (ls : List BlockLine). HasMet setting fixed change (map selection_on ls) (asks_on ls) true old new answers behind was now) (sym (written_quit body))
    (subst (λ (asks : List (Administration → Deed)). HasMet setting fixed change (map selection_on (lines ++ said.Quit ∷ [])) asks true old new answers behind was now) (sym (asks_on_then lines (said.Quit ∷ []))) both)

-- a connect is no SELECT, nor is a quit, which stands for it here
abbrev stand_in : Option Connect → List BlockLine
stand_in None = []
stand_in (Some names) = said.Quit ∷ []

connects_none : (names : Option Connect) → connect_selections names ≡ map selection_on (stand_in names)
connects_none None = refl
connects_none (Some names) = refl

-- what the lines of a block select, between its connect and its end
block_selects : (names : Option Connect) (lines : List BlockLine) → map selection_on (stand_in names ++ lines) ++ None ∷ [] ≡ connect_selections names ++ (map selection_on lines ++ None ∷ [])
block_selects names lines =
    ap (λ (z : List (Option Selection)). z ++ None ∷ []) (map-append selection_on (stand_in names) lines)
    ∙ (append_assoc (map selection_on (stand_in names)) (map selection_on lines) (None ∷ []) ∙ ap (λ (z : List (Option Selection)). z ++ (map selection_on lines ++ None ∷ [])) (sym (connects_none names)))

-- a connect, lines to their end, and the end of the block
pub met_block : (setting fixed : Setting) (change : Label → Change) (names : Option Connect) (lines : List BlockLine) (over : Bool) (old one two new : Book) (answers behind : List Answer) (was at mid now : Opening → List Call → Type 0)
    → HasMet setting fixed change (connect_selections names) (connecting names) false old one answers answers was at
    → HasMet setting fixed change (map selection_on (written_out lines)) (asks_on (written_out lines)) over one two answers behind at mid → Played (SettlesHeld ∷ []) two new mid now
    → HasMet setting fixed change (connect_selections names ++ (map selection_on (written_out lines) ++ None ∷ [])) (asks_of names (written_out lines)) over old new answers behind was now
met_block setting fixed change names lines over old one two new answers behind was at mid now connect play close =
    let entry : List BlockLine = stand_in names in
    let written : List BlockLine = written_out lines in
    let first : HasMet setting fixed change (map selection_on entry) (connecting names) false old one answers answers was at =
    subst (λ (xs : List (Option Selection)). HasMet setting fixed change xs (connecting names) false old one answers answers was at) (connects_none names) connect in
    let both : HasMet setting fixed change (map selection_on (entry ++ written)) (connecting names ++ asks_on written) over old two answers behind was mid =
    met_then setting fixed change entry written (connecting names) (asks_on written) over old one two answers answers behind was at mid first play in
    subst (λ (xs : List (Option Selection)). HasMet setting fixed change xs (asks_of names written) over old new answers behind was now) (block_selects names written)
    (subst (λ (asks : List (Administration → Deed)). HasMet setting fixed change (map selection_on (entry ++ written) ++ None ∷ []) asks over old new answers behind was now) (append_assoc (connecting names) (asks_on written) closing)
    (met_closing setting fixed change (entry ++ written) (connecting names ++ asks_on written) over old two new answers behind was mid now both close))

-- what a quit behind lines adds to them
pub quit_length : (body : List BlockLine) → length (written_out (body ++ said.Quit ∷ [])) ≡ length (written_out body) + 1
quit_length body = ap length (written_quit body) ∙ length-append (written_out body) (said.Quit ∷ [])

pub quit_actions : (body : List BlockLine) → actions_on (written_out (body ++ said.Quit ∷ [])) ≡ actions_on (written_out body)
quit_actions body = let e = ap actions_on (written_quit body) in let f = actions_then (written_out body) (said.Quit ∷ []) in omega (arith, e, f)

pub quit_cost : (body : List BlockLine) → cost_on (written_out (body ++ said.Quit ∷ [])) ≡ cost_on (written_out body)
quit_cost body = let e = ap cost_on (written_quit body) in let f = cost_then (written_out body) (said.Quit ∷ []) in omega (arith, e, f)

pub quit_kinds : (kinds : List EventKind) (body : List BlockLine) → kinds_after kinds (written_out body) ≡ [] → kinds_after kinds (written_out (body ++ said.Quit ∷ [])) ≡ []
quit_kinds kinds body closed =
    ap (kinds_after kinds) (written_quit body) ∙ (kinds_then kinds (written_out body) (said.Quit ∷ []) ∙ ap (λ (k : List EventKind). kinds_after k (said.Quit ∷ [])) closed)

pub none_lie : (kinds : List EventKind) → kinds ≡ [] → StagesLie kinds
none_lie kinds none = subst StagesLie (sym none) tt
