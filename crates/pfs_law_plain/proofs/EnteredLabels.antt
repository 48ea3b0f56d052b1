-- The labels of a store are those of the actions that entered, in their order, and each action entered behind those
-- before it.
use Rattle.std.proofs.Common.{ℕ, ◌≡◌, List, [], ◌∷◌, ◌++◌, Option, Some, None, ap, sym, ◌∙◌, subst}
use Rattle.std.specs.Prelude.{IfSome}
use Rattle.std.proofs.lemmas.List.{append_assoc, append-nil}
use Rattle.pfs_law_plain.specs.Spells.{Doing, Spell, around, doing_calls, doings_calls, parts_in, stints_of, calls_of}
use Rattle.pfs_board.specs.declared.view.Label.{Label}
use Rattle.pfs_levels.proofs.ActorFloors.{answers_rest}
use Rattle.pfs_levels.specs.Calls.{Call, Enters, Meets, label_in}
use Rattle.pfs_levels.specs.PlainStore.{AllAnswer, labels_after}
use Rattle.pfs_law_session.specs.Deeds.{action_of, part_calls}
use Rattle.pfs_law_session.specs.JournalLaws.{AreParts}
use Rattle.pfs_law_session.specs.Stints.{AreDone}
use Rattle.pfs_session.specs.SessionStates.{State}
use Rattle.pfs_session.specs.Turns.{state_after}
use Rattle.pfs_law_plain.proofs.InnerCalls.{AreWithin, turns_within, calls_within, no_label_more, same_label}

abbrev pub label_by : Option ℕ → Label → List Label
label_by None label = []
label_by (Some number) label = label ∷ []

abbrev pub labels_in : List Doing → List Label
labels_in [] = []
labels_in (d ∷ ds) = label_by (action_of d.part.deed) d.label ++ labels_in ds

abbrev pub all_labels : List Spell → List Label
all_labels [] = []
all_labels (spell ∷ spells) = labels_in spell.doings ++ all_labels spells

-- each action entered behind these and those among the labels that come before it
abbrev pub AreBehind : List Label → List Doing → Type 0
AreBehind before [] = Unit {0}
AreBehind before (d ∷ ds) =
    IfSome (action_of d.part.deed) (λ number. d.labels ≡ before) × AreBehind (before ++ label_by (action_of d.part.deed) d.label) ds

abbrev pub AllBehind : List Label → List Spell → Type 0
AllBehind before [] = Unit {0}
AllBehind before (spell ∷ spells) = AreBehind before spell.doings × AllBehind (before ++ labels_in spell.doings) spells

-- one doing
pub record HasEntered (past : List Call) (label : Label) (labels : List Label) (met : Option (List ℕ)) (action : Option ℕ) (calls : List Call) : Type 0 where
  pub now : labels_after (around label labels met action calls ++ past) ≡ labels_after past ++ label_by action label
  pub behind : IfSome action (λ number. labels ≡ labels_after past)

pub has_entered : (flags : List ℕ) (past : List Call) (label : Label) (labels : List Label) (met : Option (List ℕ)) (action : Option ℕ) (calls : List Call) → AreWithin calls
    → AllAnswer flags (around label labels met action calls ++ past) → HasEntered past label labels met action calls
unfolding labels_after
has_entered flags past label labels met None calls w a = record { now = no_label_more calls past w ∙ sym (append-nil (labels_after past)); behind = tt }
has_entered flags past label labels (Some versions) (Some number) calls w a =
    let e : (calls ++ Meets versions ∷ Enters label labels ∷ []) ++ past ≡ calls ++ Meets versions ∷ Enters label labels ∷ past = append_assoc calls (Meets versions ∷ Enters label labels ∷ []) past in
    absurd (answers_rest flags calls (Meets versions ∷ Enters label labels ∷ past) (subst (AllAnswer flags) e a.1)).0
has_entered flags past label labels None (Some number) calls w a =
    let e : (calls ++ Enters label labels ∷ []) ++ past ≡ calls ++ Enters label labels ∷ past = append_assoc calls (Enters label labels ∷ []) past in
    let inner : AllAnswer flags (Enters label labels ∷ past) = answers_rest flags calls (Enters label labels ∷ past) (subst (AllAnswer flags) e a.1) in
    record {
      now = ap (λ z. labels_after z ++ label_in z ∷ []) e
          ∙ (ap (λ z. z ++ label_in (calls ++ Enters label labels ∷ past) ∷ []) (no_label_more calls (Enters label labels ∷ past) w)
          ∙ ap (λ z. labels_after past ++ z ∷ []) (same_label calls (Enters label labels ∷ past) w));
      behind = inner.0.1;
    }

record HaveEntered (past : List Call) (ds : List Doing) : Type 0 where
  pub now : labels_after (doings_calls ds ++ past) ≡ labels_after past ++ labels_in ds
  pub behind : AreBehind (labels_after past) ds

have_entered : (flags : List ℕ) (past : List Call) (s : State) (ds : List Doing) → AreParts s (parts_in ds) → AllAnswer flags (doings_calls ds ++ past) → HaveEntered past ds
have_entered flags past s [] are a = record { now = sym (append-nil (labels_after past)); behind = tt }
have_entered flags past s (d ∷ ds) are a =
    let e : (doings_calls ds ++ doing_calls d) ++ past ≡ doings_calls ds ++ (doing_calls d ++ past) = append_assoc (doings_calls ds) (doing_calls d) past in
    let moved : AllAnswer flags (doings_calls ds ++ (doing_calls d ++ past)) = subst (AllAnswer flags) e a in
    let within : AreWithin (part_calls d.part) = calls_within d.part.turns (turns_within s d.part.turns are.0.are_turns) in
    let one : HasEntered past d.label d.labels d.met (action_of d.part.deed) (part_calls d.part) =
    has_entered flags past d.label d.labels d.met (action_of d.part.deed) (part_calls d.part) within (answers_rest flags (doings_calls ds) (doing_calls d ++ past) moved) in
    let r : HaveEntered (doing_calls d ++ past) ds = have_entered flags (doing_calls d ++ past) (state_after s d.part.turns) ds are.1 moved in
    let own : List Label = label_by (action_of d.part.deed) d.label in
    record {
      now = ap labels_after e ∙ (r.now ∙ (ap (λ z. z ++ labels_in ds) one.now ∙ append_assoc (labels_after past) own (labels_in ds)));
      behind = (one.behind, subst (λ z. AreBehind z ds) one.now r.behind);
    }

record AllEnteredSo (past : List Call) (spells : List Spell) : Type 0 where
  pub now : labels_after (calls_of spells ++ past) ≡ labels_after past ++ all_labels spells
  pub behind : AllBehind (labels_after past) spells

all_entered : (flags : List ℕ) (past : List Call) (spells : List Spell) → AreDone (stints_of spells) → AllAnswer flags (calls_of spells ++ past) → AllEnteredSo past spells
all_entered flags past [] done a = record { now = sym (append-nil (labels_after past)); behind = tt }
all_entered flags past (spell ∷ spells) done a =
    let own : List Call = doings_calls spell.doings in
    let e : (calls_of spells ++ own) ++ past ≡ calls_of spells ++ (own ++ past) = append_assoc (calls_of spells) own past in
    let moved : AllAnswer flags (calls_of spells ++ (own ++ past)) = subst (AllAnswer flags) e a in
    let one : HaveEntered past spell.doings = have_entered flags past done.0.from spell.doings done.0.are_parts (answers_rest flags (calls_of spells) (own ++ past) moved) in
    let r : AllEnteredSo (own ++ past) spells = all_entered flags (own ++ past) spells done.1 moved in
    record {
      now = ap labels_after e ∙ (r.now ∙ (ap (λ z. z ++ all_labels spells) one.now ∙ append_assoc (labels_after past) (labels_in spell.doings) (all_labels spells)));
      behind = (one.behind, subst (λ z. AllBehind z spells) one.now r.behind);
    }

pub record AreAllEntered (spells : List Spell) : Type 0 where
  pub labels : labels_after (calls_of spells) ≡ all_labels spells
  pub behind : AllBehind [] spells

pub entered : (flags : List ℕ) (spells : List Spell) → AreDone (stints_of spells) → AllAnswer flags (calls_of spells) → AreAllEntered spells
unfolding labels_after
entered flags spells done a =
    let e : calls_of spells ++ [] ≡ calls_of spells = append-nil (calls_of spells) in
    let all : AllEnteredSo [] spells = all_entered flags [] spells done (subst (AllAnswer flags) (sym e) a) in
    record { labels = ap labels_after (sym e) ∙ all.now; behind = all.behind }
