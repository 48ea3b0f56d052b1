-- In a report that keeps the rules the flags of each switch word fit in 16 bits: each set has the flags that its action
-- asks for.
use Rattle.std.proofs.Common.{◌≡◌, ℕ, ◌+◌, ◌<◌, ◌==◌, ◌&&◌, inl, inr, Bool, true, false, cond, List, [], ◌∷◌, ◌++◌, Option, Some, None, refl, sym, subst, arith}
use Rattle.pfs_admin.specs.AdministrationStates.{State, connected, has_quit, seat_at, seat_in, thread_flags, words_by}
use Rattle.pfs_admin.specs.ConnectionAsks.{connect_work, quit_work}
use Rattle.pfs_admin.specs.Fold.{state_from, stepped}
use Rattle.pfs_admin.specs.OpeningState.{opened, opening_flags}
use Rattle.pfs_admin.specs.SetupStatements.{first_of, flags_after, most_of}
use Rattle.pfs_admin.specs.Truncations.{off, truncation_flags, words_behind}
use Rattle.pfs_admin.specs.Works.{Flagging as Sets}
use Rattle.pfs_admin.specs.declared.changes.Change.{Change}
use Rattle.pfs_admin.specs.declared.changes.Change.TheVariants.{Connect, Quit, Truncate, Setup}
use Rattle.pfs_rows.specs.declared.truncations.Truncation.{Truncation}
use Rattle.pfs_rows.specs.declared.truncations.Truncation.TheVariants as what
use Rattle.pfs_board.specs.declared.view.Label.{Label}
use Rattle.pfs_classes.specs.declared.setting.Setting.{Setting}
use Rattle.pfs_containers.specs.Administration.{Containers}
use Rattle.pfs_containers.specs.declared.containers.Seated.{Seated}
use Rattle.pfs_event.specs.declared.entry.Entry.{Entry}
use Rattle.pfs_event.specs.declared.entry.Entry.TheVariants as says
use Rattle.pfs_law_session.specs.Demands.{sets_asked}
use Rattle.pfs_levels.specs.declared.answers.Word.{Word}
use Rattle.pfs_matching.specs.ObjectRules.{opening_objects}
use Rattle.pfs_model.specs.ActionAsks.{Asked, Flagged, Flagging, flagged_by, of_action}
use Rattle.pfs_model.specs.Actions.{IsAmong, Setting as Sat, is_acted, setting_at, settings_of}
use Rattle.pfs_model.specs.Chains.{Each, action_change, each_of}
use Rattle.pfs_model.specs.EntryPlaces.{Placed}
use Rattle.pfs_model.specs.SetupFlags.{flags_at}
use Rattle.pfs_model.specs.declared.changes.Change.{Change as Numbered}
use Rattle.pfs_runs.specs.Labels.{asked_at, before_action, label_at, work_for, work_of_label}
use Rattle.pfs_runs.specs.Runs.{all_blocks}
use Rattle.pfs_runs.specs.ScriptLines.{change_in}
use Rattle.pfs_check_faults.proofs.ActedEntries.{HasAction, SaysAbove, blocks_acted}
use Rattle.pfs_check_faults.proofs.ChainFacts.{action_one_change, chain_law}
use Rattle.pfs_check_faults.proofs.MemberCounts.{among_left, among_right, self_is}
use Rattle.pfs_check_faults.specs.ActionFaults.{SetAsAsked, flagging_at}
use Rattle.pfs_check_faults.specs.EntryFaults.{IsLinked, LinksAt}
use Rattle.pfs_check_faults.specs.Judgements.{KeepBefore, Keeps}
use Rattle.pfs_check_faults.specs.ReportCases.{AllHave, Case, Findings, entries_of, terms_in}
use Rattle.pfs_check_faults.specs.declared.rules.Rule.TheVariants as rules
use Rattle.pfs_check_ends.proofs.FittingFlags.{AreFit, AreFlaggings, Fits, FlagsFit, after_fits, changed_sets_fit, changed_words_fit, first_fit, flagged_fits, flagging_fits, index_fits, pair_fits, words_fit}

-- ---- the works of actions

thread_fits : (s : State) (user host : ℕ) → Fits (thread_flags s user host)
thread_fits s user host = pair_fits _ _

connect_fits : (words : List Word) (flags : ℕ) (after : Containers) (seat : Option Seated) → Fits flags → AreFlaggings (connect_work words flags after seat).flags
connect_fits words flags after None h = tt
connect_fits words flags after (Some seat) h = flagging_fits words (1 + seat.slot) flags h

quit_fits : (words : List Word) (cells : List ℕ) (after : Containers) (seat : Option Seated) → AreFlaggings (quit_work words cells after seat).flags
quit_fits words cells after None = tt
quit_fits words cells after (Some seat) = flagging_fits words (1 + seat.slot) 0 (omega arith)

off_fits : (at flags : ℕ) → Fits flags → Fits (off at flags)
off_fits at flags h = omega arith

truncation_fits : (words : List Word) (one : Truncation) → AreFit words → AreFlaggings (truncation_flags words one)
truncation_fits words what.SetupObjects h = changed_sets_fit off off_fits words 96 h 64
truncation_fits words (what.Events kind table) h = tt
truncation_fits words (what.Summary kind table) h = tt
truncation_fits words what.DigestSummary h = tt
truncation_fits words what.Accounts h = tt
truncation_fits words what.Users h = tt
truncation_fits words what.Hosts h = tt
truncation_fits words what.SetupActors h = tt

work_fits : (s : State) (session : ℕ) (change : Change) → AreFit s.words → AreFlaggings (work_for s session change).flags
work_fits s session (Connect user host) h = connect_fits s.words (thread_flags s user host) (connected s session user host).kept.now (seat_at s session user host) (thread_fits s user host)
work_fits s session Quit h = quit_fits s.words s.cells (has_quit s session).kept.now (seat_in s session)
work_fits s session (Truncate one) h = truncation_fits s.words one h
work_fits s session (Setup statement) h = changed_sets_fit (flags_after s statement) (after_fits s statement) s.words (first_of statement) h (most_of statement)

-- ---- the states behind them

seated_fits : (words : List Word) (flags : ℕ) (seat : Option Seated) → AreFit words → Fits flags → AreFit (words_by words flags seat)
seated_fits words flags None h k = h
seated_fits words flags (Some seat) h k = flagged_fits words (1 + seat.slot) flags h k

behind_fits : (words : List Word) (one : Truncation) → AreFit words → AreFit (words_behind one words)
behind_fits words what.SetupObjects h = changed_words_fit off off_fits words 96 h 64
behind_fits words (what.Events kind table) h = h
behind_fits words (what.Summary kind table) h = h
behind_fits words what.DigestSummary h = h
behind_fits words what.Accounts h = h
behind_fits words what.Users h = h
behind_fits words what.Hosts h = h
behind_fits words what.SetupActors h = h

step_fits : (s : State) (session : ℕ) (change : Change) → AreFit s.words → AreFit (stepped s session change).words
step_fits s session (Connect user host) h = seated_fits s.words (thread_flags s user host) (seat_at s session user host) h (thread_fits s user host)
step_fits s session Quit h = seated_fits s.words 0 (seat_in s session) h (omega arith)
step_fits s session (Truncate one) h = behind_fits s.words one h
step_fits s session (Setup statement) h = changed_words_fit (flags_after s statement) (after_fits s statement) s.words (first_of statement) h (most_of statement)

states_fit : (change : Label → Change) (s : State) (labels : List Label) → AreFit s.words → AreFit (state_from change s labels).words
unfolding state_from
states_fit change s [] h = h
states_fit change s (label ∷ labels) h = states_fit change (stepped s label.session (change label)) labels (step_fits s label.session (change label) h)

-- ---- what actions ask for

asked_fits : (sets : List Sets) → AreFlaggings sets → Each (λ (one : Flagging). Fits one.flags) (sets_asked sets)
asked_fits [] h = tt
asked_fits (one ∷ sets) h = (h.0, asked_fits sets h.1)

label_fits : (change : Label → Change) (s : State) (label : Option Label) → AreFit s.words → AreFlaggings (work_of_label change s label).flags
label_fits change s None h = tt
label_fits change s (Some label) h = work_fits s label.session (change label) h

actions_fit : (setting : Setting) (change : Label → Change) (labels : List Label) (number : ℕ) → Fits setting.consumers → Each (λ (one : Flagging). Fits one.flags) (asked_at setting change labels number).sets
actions_fit setting change labels number h =
    asked_fits _ (label_fits change (before_action setting change labels number) (label_at labels number)
    (states_fit change (opened setting) _ (words_fit (opening_flags setting opening_objects) (first_fit setting opening_objects h))))

-- ---- what entries set

flagged_fit : (at flags : ℕ) (sets : List Flagging) → Each (λ (one : Flagging). Fits one.flags) sets → IsAmong (Flagged at flags) (flagged_by sets) → Fits flags
flagged_fit at flags [] h among = absurd among
flagged_fit at flags (one ∷ sets) h (inl same) = let e : one.flags ≡ flags = cc in subst Fits e h.0
flagged_fit at flags (one ∷ sets) h (inr among) = flagged_fit at flags sets h.1 among

-- each set by an action from 1 on fits
abbrev AllFit : List Placed → Type 0
AllFit places = (number at flags : ℕ) → 0 < number → IsAmong (Flagged at flags) (each_of flagging_at (of_action number places)) → Fits flags

fewer_fit : (place : Placed) (places : List Placed) → AllFit (place ∷ places) → AllFit places
fewer_fit place places fit number at flags positive among = fit number at flags positive (by (place.context.action == number)) where
  by : (b : Bool) → IsAmong (Flagged at flags) (each_of flagging_at (cond b (place ∷ []) [] ++ of_action number places))
  by true = among_right (Flagged at flags) (flagging_at place.entry) (each_of flagging_at (of_action number places)) among
  by false = among

settings_fit : (places : List Placed) → AllFit places → Each HasAction places → Each (λ (one : Sat). Fits one.flags) (settings_of places)
settings_fit [] fit acted = tt
settings_fit (place ∷ places) fit acted = at place.entry refl (settings_fit places (fewer_fit place places fit) acted.1) where
  own : (word version flags : ℕ) → place.entry ≡ says.Set word version flags → Fits flags
  own word version flags e =
      fit place.context.action word flags (acted.0 (subst (λ (entry : Entry). is_acted entry ≡ true) (sym e) refl))
      (subst (λ b. IsAmong (Flagged word flags) (each_of flagging_at (cond b (place ∷ []) [] ++ of_action place.context.action places))) (sym (self_is place.context.action))
      (among_left (Flagged word flags) (flagging_at place.entry) (each_of flagging_at (of_action place.context.action places)) (subst (λ (entry : Entry). IsAmong (Flagged word flags) (flagging_at entry)) (sym e) (inl refl))))

  at : (entry : Entry) → place.entry ≡ entry → Each (λ (one : Sat). Fits one.flags) (settings_of places) → Each (λ (one : Sat). Fits one.flags) (setting_at place.context.action entry ++ settings_of places)
  at (says.Set word version flags) e rest = (own word version flags e, rest)
  at _ e rest = rest

all_fit : (asked : ℕ → Asked) (all : List Placed) → SetAsAsked asked all → ((number : ℕ) → Each (λ (one : Flagging). Fits one.flags) (asked number).sets) → AllFit all
all_fit asked all set fits number at flags positive among =
    flagged_fit at flags (asked number).sets (fits number) (subst (IsAmong (Flagged at flags)) (set number positive) among)

kept_fit : (opening : ℕ → ℕ) (settings : List Sat) (word version : ℕ) → Fits (opening word) → Each (λ (one : Sat). Fits one.flags) settings → Fits (flags_at opening settings word version)
kept_fit opening [] word version h k = h
kept_fit opening (one ∷ settings) word version h k = by ((one.word == word) && (one.version == version)) (kept_fit opening settings word version h k.1) where
  by : (b : Bool) → Fits (flags_at opening settings word version) → Fits (cond b one.flags (flags_at opening settings word version))
  by true rest = k.0
  by false rest = rest

-- ---- an action's changes have its number

all_above : (all earlier places : List Placed) → AllHave (LinksAt action_change all) earlier places → Each SaysAbove places
all_above all earlier [] h = tt
all_above all earlier (place ∷ places) h = (one (action_change place.entry) h.0, all_above all (place ∷ earlier) places h.1) where
  one : (changes : List Numbered) → Each (IsLinked action_change all earlier place) changes → Each (λ (change : Numbered). 0 < change.version) changes
  one [] h = tt
  one (change ∷ changes) h = (h.0.above, one changes h.1)

acted : (case : Case) (found : Findings) → Keeps rules.Shape case found → Keeps rules.Actions case found → Each HasAction (entries_of found)
acted case found shape actions =
    blocks_acted [] (all_blocks found.blocks) 0 shape.shaped
    (all_above (entries_of found) [] (entries_of found) ((chain_law action_change action_one_change (entries_of found)).0 actions.numbers))

pub flags_fit : (case : Case) (found : Findings) → Fits case.setting.consumers → KeepBefore rules.Tables case found → FlagsFit case found
flags_fit case found fits keeps = λ word version.
    kept_fit (terms_in case found).opening (settings_of (entries_of found)) word version
    (index_fits (opening_flags case.setting opening_objects) word (first_fit case.setting opening_objects fits))
    (settings_fit (entries_of found)
    (all_fit (terms_in case found).asked (entries_of found) (keeps rules.Setup (omega arith)).asked (λ number. actions_fit case.setting (change_in case.phases) found.labels number fits))
    (acted case found (keeps rules.Shape (omega arith)) (keeps rules.Actions (omega arith))))
