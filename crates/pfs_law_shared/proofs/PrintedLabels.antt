-- The labels that all sessions have in common are those of the printed actions, by their numbers.
use Rattle.std.proofs.Common.{ℕ, zero, suc, ◌≡◌, ◌+◌, ◌-◌, ◌<◌, ◌≤◌, ◌==◌, Bool, true, false, cond, ◌&&◌, List, [], ◌∷◌, ◌++◌, map, length, take, Option, Some, None, slice_index_or, slice_get, refl, ap, sym, ◌∙◌, subst, arith, append_assoc, append-nil}
use Rattle.std.specs.Prelude.{IfSome}
use Rattle.std.proofs.lemmas.Option.{same_Some}
use Rattle.pfs_board.specs.Knowledge.{no_label}
use Rattle.pfs_board.specs.declared.view.Label.{Label}
use Rattle.pfs_levels.specs.Calls.{Call, Adds, Rings, Reads, Loads, Draws, Takes, Puts, Frees, Sets, Enters, Leaves, Meets, action_in, label_in}
use Rattle.pfs_levels.specs.CallOrder.{AllCalls, AreNamed, marked}
use Rattle.pfs_levels.specs.JointCalls.{total, one_if}
use Rattle.pfs_model.specs.Actions.{numbers_by}
use Rattle.pfs_model.specs.Chains.{Each, action_change, change_at, each_of}
use Rattle.pfs_model.specs.EntryPlaces.{by_session, up_to_phase}
use Rattle.pfs_model.specs.declared.changes.Change.{Change}
use Rattle.pfs_runs.specs.Labels.{AreLabels}
use Rattle.pfs_session.specs.SessionStates.{State}
use Rattle.pfs_session.specs.Turns.{state_after}
use Rattle.pfs_law_session.proofs.Stints.{done}
use Rattle.pfs_law_session.specs.Deeds.{action_of, part_calls}
use Rattle.pfs_law_session.specs.JournalLaws.{AreParts}
use Rattle.pfs_law_session.specs.Stints.{AreStints, AreDone}
use Rattle.pfs_law_plain.proofs.ActionCounts.{AreLined, AllLined, more_made, none_made, one_of, all_lined}
use Rattle.pfs_law_plain.proofs.ConnectSlots.{own_doings, own_parts, own_lined}
use Rattle.pfs_law_plain.proofs.PhaseFronts.{entries_front}
use Rattle.pfs_law_plain.specs.RunRules.{entries_of}
use Rattle.pfs_law_plain.specs.Weights.{WeighedLaw}
use Rattle.pfs_law_joint.proofs.Sums.{total_map}
use Rattle.pfs_law_joint.proofs.VersionChains.{puts_to, mark_count}
use Rattle.pfs_law_joint.specs.Deeds.{RowsLaw, WordsLaw}
use Rattle.pfs_law_joint.specs.Versions.{ChainLaw, MarksLaw, at_mark}
use Rattle.pfs_law_shared.specs.Journals.{AgreedLaw}
use Rattle.pfs_law_plain.specs.SessionNotes.{ToldLaw, ToldThroughLaw}
use Rattle.pfs_law_plain.specs.Spells.{Doing, Spell, AreSpells, around, entering, doing_calls, doings_calls, parts_in, stints_of}
use Rattle.pfs_law_shared.specs.Order.{AllNear}
use Rattle.pfs_law_shared.proofs.OrderedActions.{each_actor, numbers_are}
use Rattle.pfs_law_shared.specs.Shares.{actors_of, spells_at, spells_before, AreShared}
use Rattle.pfs_law_shared.proofs.ActionNotes.{acts, act_by, acts_of, places_acts, own_acts, stints_acts}
use Rattle.pfs_law_shared.proofs.AgreedCalls.{calls_front, calls_back, each_spell}
use Rattle.pfs_law_shared.proofs.DoingMarks.{within_action, entering_action}
use Rattle.pfs_law_plain.proofs.LabelWork.{StandsAmong, StandAmong, AllStandAmong}
use Rattle.pfs_law_shared.proofs.InnerCalls.{AreWithin, turns_within, calls_within}
use Rattle.pfs_law_shared.proofs.PrintedPuts.{actors_all}

-- a session's numbers are those of its lines
pub session_numbers : ToldThroughLaw → (stack : ℕ) (depths : ℕ → ℕ) (session : ℕ) (spells : List Spell) → AreStints stack depths (stints_of spells) → AreDone (stints_of spells)
    → numbers_by session (entries_of spells) ≡ acts_of (parts_in (own_doings session spells))
session_numbers told stack depths session spells are done =
    own_acts session (entries_of spells)
    ∙ (places_acts (by_session session (entries_of spells))
    ∙ (ap acts (told stack depths session (stints_of spells) are) ∙ (stints_acts session (stints_of spells) done ∙ ap acts_of (own_parts session spells))))

-- the label of the action that calls are in
within_label : (calls past : List Call) → AreWithin calls → label_in (calls ++ past) ≡ label_in past
within_label [] past w = refl
within_label (Enters label labels ∷ calls) past w = absurd w.0
within_label (Leaves ∷ calls) past w = absurd w.0
within_label (Adds row amount answer ∷ calls) past w = within_label calls past w.1
within_label (Rings row content answer ∷ calls) past w = within_label calls past w.1
within_label (Reads row seen ∷ calls) past w = within_label calls past w.1
within_label (Loads at v found ∷ calls) past w = within_label calls past w.1
within_label (Draws kind ticket ∷ calls) past w = within_label calls past w.1
within_label (Takes row v found ∷ calls) past w = within_label calls past w.1
within_label (Puts row content v ∷ calls) past w = within_label calls past w.1
within_label (Frees row v ∷ calls) past w = within_label calls past w.1
within_label (Sets at flags v ∷ calls) past w = within_label calls past w.1
within_label (Meets versions ∷ calls) past w = within_label calls past w.1

named_back : (all : List Label) (xs ys : List Call) → AreNamed all (xs ++ ys) → AreNamed all ys
named_back all [] ys named = named
named_back all (x ∷ xs) ys named = named_back all xs ys named.1

-- the own label of each action stands at its number, behind those that it found
record IsLabelled (all : List Label) (label : Label) (labels : List Label) : Type 0 where
  pub index : slice_index_or all (length labels) no_label ≡ label
  pub before : take (length labels) all ≡ labels

abbrev StandLabelled : List Label → List Doing → Type 0
StandLabelled all [] = Unit {0}
StandLabelled all (d ∷ ds) = IfSome (action_of d.part.deed) (λ number. IsLabelled all d.label d.labels) × StandLabelled all ds

take_front : (xs ys : List Label) → take (length xs) (xs ++ ys) ≡ xs
take_front [] ys = refl
take_front (x ∷ xs) ys = ap (λ z. x ∷ z) (take_front xs ys)

one_less : (n : ℕ) → (n + 1) - 1 ≡ n
one_less n = omega arith

entering_label : (past : List Call) (label : Label) (labels : List Label) (met : Option (List ℕ)) → label_in (entering label labels met ++ past) ≡ label
entering_label past label labels None = refl
entering_label past label labels (Some versions) = refl

entering_named : (all : List Label) (past : List Call) (label : Label) (labels : List Label) (met : Option (List ℕ)) → AreNamed all (entering label labels met ++ past) → (later : List Label) × (all ≡ labels ++ later)
entering_named all past label labels None named = named.0
entering_named all past label labels (Some versions) named = named.1.0

around_labelled : (all : List Label) (past : List Call) (label : Label) (labels : List Label) (met : Option (List ℕ)) (action : Option ℕ) (calls : List Call) → AreWithin calls → AreNamed all (around label labels met action calls ++ past)
    → IfSome action (λ number. IsLabelled all label labels)
around_labelled all past label labels met None calls w named = tt
around_labelled all past label labels met (Some number) calls w named =
    let base : List Call = entering label labels met ++ past in
    let split : (calls ++ entering label labels met) ++ past ≡ calls ++ base = append_assoc calls (entering label labels met) past in
    let a : action_in ((calls ++ entering label labels met) ++ past) ≡ length labels + 1 = ap action_in split ∙ (within_action calls base w ∙ entering_action past label labels met) in
    let l : label_in ((calls ++ entering label labels met) ++ past) ≡ label = ap label_in split ∙ (within_label calls base w ∙ entering_label past label labels met) in
    let inner = entering_named all past label labels met (named_back all calls base (subst (AreNamed all) split named.1)) in
    record {
      index = sym (ap (λ n. slice_index_or all (n - 1) no_label) a ∙ ap (λ n. slice_index_or all n no_label) (one_less (length labels))) ∙ (named.0 ∙ l);
      before = ap (take (length labels)) inner.1 ∙ take_front labels inner.0;
    }

doings_labelled : (all : List Label) (past : List Call) (s : State) (ds : List Doing) → AreParts s (parts_in ds) → AreNamed all (doings_calls ds ++ past) → StandLabelled all ds
doings_labelled all past s [] are named = tt
doings_labelled all past s (d ∷ ds) are named =
    let moved : AreNamed all (doings_calls ds ++ (doing_calls d ++ past)) = subst (AreNamed all) (append_assoc (doings_calls ds) (doing_calls d) past) named in
    let w = calls_within d.part.turns (turns_within s d.part.turns are.0.are_turns) in (
      around_labelled all past d.label d.labels d.met (action_of d.part.deed) (part_calls d.part) w (named_back all (doings_calls ds) (doing_calls d ++ past) moved),
      doings_labelled all (doing_calls d ++ past) (state_after s d.part.turns) ds are.1 moved,
    )

spells_labelled : (all : List Label) (spells : List Spell) → AreDone (stints_of spells) → Each (λ spell. AreNamed all (doings_calls spell.doings)) spells → Each (λ spell. StandLabelled all spell.doings) spells
spells_labelled all [] by named = tt
spells_labelled all (spell ∷ spells) by named = (
  doings_labelled all [] by.0.from spell.doings by.0.are_parts (subst (AreNamed all) (sym (append-nil (doings_calls spell.doings))) named.0),
  spells_labelled all spells by.1 named.1,
)

labelled_then : (all : List Label) (xs ys : List Doing) → StandLabelled all xs → StandLabelled all ys → StandLabelled all (xs ++ ys)
labelled_then all [] ys a b = b
labelled_then all (x ∷ xs) ys a b = (a.0, labelled_then all xs ys a.1 b)

own_labelled : (all : List Label) (session : ℕ) (spells : List Spell) → Each (λ spell. StandLabelled all spell.doings) spells → StandLabelled all (own_doings session spells)
own_labelled all session [] a = tt
own_labelled all session (spell ∷ spells) a = labelled_then all (cond (spell.session == session) spell.doings []) (own_doings session spells) (at (spell.session == session)) (own_labelled all session spells a.1) where
  at : (b : Bool) → StandLabelled all (cond b spell.doings [])
  at true = a.0
  at false = tt

-- a label with a line is in the list
index_get : (xs : List Label) (n : ℕ) (x : Label) → slice_index_or xs n no_label ≡ x → 0 < x.line → slice_get xs n ≡ Some x
index_get [] n x e up = absurd (omega (arith, up, ap (λ (z : Label). z.line) e))
index_get (y ∷ ys) zero x e up = ap Some e
index_get (y ∷ ys) (suc n) x e up = index_get ys n x e up

-- so it stands among all labels
stand_among : (all : List Label) (session made : ℕ) (ds : List Doing) → AreLined session made ds → StandLabelled all ds → StandAmong all ds
stand_among all session made [] l a = tt
stand_among all session made (d ∷ ds) l a = (by (action_of d.part.deed) l.0 a.0, stand_among all session (made + one_of (action_of d.part.deed)) ds l.1 a.1) where
  by : (action : Option ℕ) → IfSome action (λ number. (number ≡ length d.labels + 1) × (d.label ≡ record { session = session; line = made + 1 })) → IfSome action (λ number. IsLabelled all d.label d.labels)
      → IfSome action (λ number. StandsAmong all d.label d.labels)
  by None is stands = tt
  by (Some number) is stands = record { here = index_get all (length d.labels) d.label stands.index (omega (arith, ap (λ (z : Label). z.line) is.1)); before = stands.before }

all_stand : (all : List Label) (made : ℕ → ℕ) (spells : List Spell) → AllLined made spells → Each (λ spell. StandLabelled all spell.doings) spells → AllStandAmong all spells
all_stand all made [] l a = tt
all_stand all made (spell ∷ spells) l a = (stand_among all spell.session (made spell.session) spell.doings l.0 a.0, all_stand all (more_made made spell) spells l.1 a.1)

each_label : (all : List Label) (session made : ℕ) (ds : List Doing) → AreLined session made ds → StandLabelled all ds → (i : ℕ) (number : Change) → slice_get (acts_of (parts_in ds)) i ≡ Some number
    → slice_get all (number.version - 1) ≡ Some (record { session = session; line = made + i + 1 })
each_label all session made [] l a = λ i number e. absurd (none number e) where
  none : (number : Change) → None ≡ Some number → ⊥
  none number e = absurd (cc)
each_label all session made (d ∷ ds) l a = by_action (action_of d.part.deed) l.0 a.0 l.1 (λ more lined. each_label all session more ds lined a.1) where
  by_action : (action : Option ℕ) → IfSome action (λ number. (number ≡ length d.labels + 1) × (d.label ≡ record { session = session; line = made + 1 }))
      → IfSome action (λ number. IsLabelled all d.label d.labels) → AreLined session (made + one_of action) ds
      → ((more : ℕ) → AreLined session more ds → (i : ℕ) (number : Change) → slice_get (acts_of (parts_in ds)) i ≡ Some number → slice_get all (number.version - 1) ≡ Some (record { session = session; line = more + i + 1 }))
      → (i : ℕ) (number : Change) → slice_get (act_by action ++ acts_of (parts_in ds)) i ≡ Some number → slice_get all (number.version - 1) ≡ Some (record { session = session; line = made + i + 1 })
  by_action None is stands lined rest i number e = rest made (subst (λ z. AreLined session z ds) (no_more made) lined) i number e where
    no_more : (n : ℕ) → n + 0 ≡ n
    no_more n = omega arith
  by_action (Some own) is stands lined rest zero number e =
      let same : change_at 0 own ≡ number = same_Some (change_at 0 own) number e in
      ap (λ (z : Change). slice_get all (z.version - 1)) (sym same)
      ∙ (ap (slice_get all) (less own (length d.labels) is.0)
      ∙ (index_get all (length d.labels) d.label stands.index (omega (arith, ap (λ (z : Label). z.line) is.1)) ∙ (ap Some is.1 ∙ ap (λ z. Some (record { session = session; line = z })) (line_is made)))) where
        less : (n m : ℕ) → n ≡ m + 1 → n - 1 ≡ m
        less n m e = omega (arith, e)

        line_is : (n : ℕ) → n + 1 ≡ n + 0 + 1
        line_is n = omega arith
  by_action (Some own) is stands lined rest (suc i) number e =
      rest (made + 1) lined i number e ∙ ap (λ z. Some (record { session = session; line = z })) (line_is made i) where
        line_is : (n i : ℕ) → n + 1 + i + 1 ≡ n + suc i + 1
        line_is n i = omega arith

pub ones : (cs : List Change) → total (λ c. 1) cs ≡ length cs
unfolding total
ones [] = refl
ones (c ∷ cs) = ap (λ n. 1 + n) (ones cs) ∙ one (length cs) where
  one : (n : ℕ) → 1 + n ≡ suc n
  one n = omega arith

line_is : (i : ℕ) → 0 + i + 1 ≡ i + 1
line_is i = omega arith

module _ (flags : List ℕ) (stack : ℕ) (depths : ℕ → ℕ) (spells : List Spell) (last : ℕ) (are : AreSpells stack depths spells) (shared : AreShared flags spells)
    (low : Each (λ spell. spell.phase ≤ last) spells) where
  -- what was found of them by all that they have in common
  pub named_all : AllCalls (AreNamed (shared last).labels) (actors_of spells)
  named_all =
      let P : List Call → Type 0 = AreNamed (shared last).labels in
      let now : List (List Call) = actors_of (spells_at last spells) in
      let before : List (List Call) = actors_of (spells_before last spells) in
      actors_all P spells (each_spell P last spells low (calls_front P now before (shared last).order.named) (calls_back P now before (shared last).order.named))

  stand : (labels : List Label) → AllCalls (AreNamed labels) (actors_of spells) → Each (λ spell. StandLabelled labels spell.doings) spells
  stand labels named = spells_labelled labels spells (done stack depths (stints_of spells) are.stints) (each_actor (AreNamed labels) spells named)

  pub among : AllStandAmong (shared last).labels spells
  among = all_stand (shared last).labels none_made spells (all_lined stack depths spells are.stints are.entered) (stand (shared last).labels named_all)

module _ (rows : RowsLaw) (words : WordsLaw) (chain : ChainLaw) (marks : MarksLaw) (agreed : AgreedLaw) (told : ToldLaw) (weighed : WeighedLaw) (through : ToldThroughLaw)
    (flags : List ℕ) (stack : ℕ) (depths : ℕ → ℕ) (spells : List Spell) (last : ℕ) (are : AreSpells stack depths spells) (shared : AreShared flags spells) (near : AllNear spells)
    (low : Each (λ spell. spell.phase ≤ last) spells) where
  few : length (shared last).labels ≡ length (each_of action_change (entries_of spells))
  few =
      let whole : up_to_phase last (entries_of spells) ≡ entries_of spells = subst (λ z. up_to_phase last (entries_of z) ≡ entries_of spells) (append-nil spells) (entries_front last spells [] low tt) in
      let n = numbers_are rows words chain marks agreed told weighed flags stack depths spells last are shared near low last (puts_to 0) (λ x off. ap (λ b. one_if (b && x.puts)) off) in
      let m : total (puts_to 0) (map at_mark (shared last).marks) ≡ marked (shared last).marks 0 = total_map at_mark (puts_to 0) (shared last).marks ∙ mark_count (shared last).marks 0 in
      let k : length (each_of action_change (up_to_phase last (entries_of spells))) ≡ marked (shared last).marks 0 = sym (ones (each_of action_change (up_to_phase last (entries_of spells)))) ∙ (n ∙ m) in
      (shared last).order.ended ∙ (sym k ∙ ap (λ z. length (each_of action_change z)) whole)

  pub labels_are : (labels : List Label) → length labels ≡ length (shared last).labels → AllCalls (AreNamed labels) (actors_of spells) → AreLabels labels (entries_of spells)
  labels_are labels many named =
      let d : AreDone (stints_of spells) = done stack depths (stints_of spells) are.stints in
      record {
        few = many ∙ few;
        each = λ session i number e.
            each_label labels session 0 (own_doings session spells) (own_lined session none_made spells (all_lined stack depths spells are.stints are.entered)) (own_labelled labels session spells (stand flags stack depths spells last are shared low labels named)) i number
            (sym (ap (λ z. slice_get z i) (session_numbers through stack depths session spells are.stints d)) ∙ e)
            ∙ ap (λ z. Some (record { session = session; line = z })) (line_is i);
      }
