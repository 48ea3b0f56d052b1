-- The store as a phase leaves it: the law.
use Rattle.std.proofs.Common.{ℕ, ◌≡◌, ◌<◌, not, List, [], ◌∷◌, ◌++◌, length, take, refl, ap, sym, ◌∙◌, subst}
use Rattle.std.proofs.lemmas.List.{append_assoc}
use Rattle.pfs_law_plain.proofs.PrintedFlags.{printed_same}
use Rattle.pfs_law_plain.proofs.PlainJournals.{AreTogether, together}
use Rattle.pfs_law_plain.specs.PlainJournals.{printed as printed_flags}
use Rattle.pfs_law_plain.specs.Spells.{Spell, AreSpells, stints_of, calls_of}
use Rattle.pfs_board.specs.declared.view.Label.{Label}
use Rattle.pfs_levels.proofs.PlainChanges.{counts, slot_version, plain_chain, plain_words}
use Rattle.pfs_levels.proofs.ActorFloors.{answers_rest}
use Rattle.pfs_levels.specs.Calls.{Call}
use Rattle.pfs_levels.specs.JointCalls.{changes_of, count, sets_of, word_version, flags_at}
use Rattle.pfs_levels.specs.PlainStore.{AllAnswer, ops_of, slot_after, word_after, content_at}
use Rattle.pfs_model.specs.Chains.{action_change, each_of}
use Rattle.pfs_model.specs.EntryPlaces.{Placed, up_to_phase}
use Rattle.pfs_law_session.proofs.Stints.{done}
use Rattle.pfs_law_session.specs.Stints.{AreDone}
use Rattle.pfs_law_plain.specs.PhaseStore.{RowIsLeft, WordIsLeft, LeftLaw}
use Rattle.pfs_law_plain.specs.RunRules.{entries_of, labels_of, contents_of}
use Rattle.pfs_law_plain.proofs.EnteredLabels.{labels_in, all_labels, AreAllEntered, entered}
use Rattle.pfs_law_plain.proofs.PhaseFronts.{calls_then, spells_front, entries_front}
use Rattle.pfs_law_plain.proofs.PrintedLabels.{as_many}
use Rattle.pfs_law_plain.proofs.PlainContents.{still_holds, flags_stay, allocated_is, free_is}
use Rattle.pfs_levels.proofs.PlainContents.{word_versions, word_flags}
use Rattle.pfs_law_plain.proofs.PrintedCounts.{AreTallied, tallied}

row_left : (flags : List ℕ) (printed : List Placed) (later calls : List Call) (row : ℕ) → 0 < row → AllAnswer flags calls → AreTallied printed calls
    → RowIsLeft printed (content_at (ops_of (later ++ calls))) row (slot_after (ops_of calls) row)
row_left flags printed later calls row up answers t =
    let version : (slot_after (ops_of calls) row).version ≡ count (changes_of calls) row = slot_version calls row up in
    record {
      version = version ∙ sym (t.rows row);
      allocated = allocated_is calls row up ∙ ap not (free_is (changes_of calls) row (plain_chain flags calls answers) ∙ sym (t.free row up));
      content_is = still_holds later calls row (slot_after (ops_of calls) row).version (version ∙ counts calls row up);
    }

-- the flags of a word are those of its printed sets
abbrev AllSame : List ℕ → List Placed → List Call → Type 0
AllSame flags printed calls = (at k : ℕ) → flags_at flags (sets_of calls) at k ≡ printed_flags flags printed at k

word_left : (flags : List ℕ) (printed all : List Placed) (later calls : List Call) (at : ℕ) → AllAnswer flags calls → AllAnswer flags (later ++ calls) → AreTallied printed calls
    → AllSame flags printed calls → AllSame flags all (later ++ calls) → WordIsLeft flags printed all at (word_after flags (sets_of calls) at)
word_left flags printed all later calls at answers all_answer t same all_same =
    let counted = plain_words flags calls answers in
    let version : (word_after flags (sets_of calls) at).version ≡ word_version (sets_of calls) at = word_versions flags (sets_of calls) at counted in
    let now = word_flags flags (sets_of calls) at counted ∙ ap (flags_at flags (sets_of calls) at) (sym version) in
    record {
      version = version ∙ sym (t.words at);
      flags = now ∙ same at (word_after flags (sets_of calls) at).version;
      ever = now ∙ (flags_stay flags later calls at (word_after flags (sets_of calls) at).version (plain_words flags (later ++ calls) all_answer) version
          ∙ all_same at (word_after flags (sets_of calls) at).version);
    }

take_front : (xs ys : List Label) → xs ≡ take (length xs) (xs ++ ys)
take_front [] ys = refl
take_front (x ∷ xs) ys = ap (λ z. x ∷ z) (take_front xs ys)

labels_then : (xs ys : List Spell) → all_labels (xs ++ ys) ≡ all_labels xs ++ all_labels ys
labels_then [] ys = refl
labels_then (x ∷ xs) ys = ap (λ z. labels_in x.doings ++ z) (labels_then xs ys) ∙ sym (append_assoc (labels_in x.doings) (all_labels xs) (all_labels ys))

pub left : LeftLaw
left = λ flags stack depths phase first later are answers low high.
    let all : List Spell = first ++ later in
    let calls : List Call = calls_of first in
    let split : calls_of all ≡ calls_of later ++ calls = calls_then first later in
    let all_answer : AllAnswer flags (calls_of later ++ calls) = subst (AllAnswer flags) split answers in
    let own_answers : AllAnswer flags calls = answers_rest flags (calls_of later) calls all_answer in
    let own : AreSpells stack depths first = spells_front stack depths first later are in
    let t : AreTogether flags first = together flags stack depths first own own_answers in
    let printed : List Placed = entries_of first in
    let up_to : up_to_phase phase (entries_of all) ≡ printed = entries_front phase first later low high in
    let tally : AreTallied printed calls = tallied printed calls t.same in
    let same : AllSame flags printed calls = λ at k. printed_same flags printed calls at k (plain_words flags calls own_answers) t.same in
    let u : AreTogether flags all = together flags stack depths all are answers in
    let all_same : AllSame flags (entries_of all) (calls_of later ++ calls) =
    subst (AllSame flags (entries_of all)) split (λ at k. printed_same flags (entries_of all) (calls_of all) at k (plain_words flags (calls_of all) answers) u.same) in
    let done_all : AreDone (stints_of all) = done stack depths (stints_of all) are.stints in
    let done_first : AreDone (stints_of first) = done stack depths (stints_of first) own.stints in
    let e : AreAllEntered first = entered flags first done_first own_answers in
    let f : AreAllEntered all = entered flags all done_all answers in
    record {
      rows = λ row up. subst (λ z. RowIsLeft z (contents_of all) row (slot_after (ops_of calls) row)) (sym up_to)
          (subst (λ z. RowIsLeft printed (content_at (ops_of z)) row (slot_after (ops_of calls) row)) (sym split) (row_left flags printed (calls_of later) calls row up own_answers tally));
      words = λ at. subst (λ z. WordIsLeft flags z (entries_of all) at (word_after flags (sets_of calls) at)) (sym up_to)
          (word_left flags printed (entries_of all) (calls_of later) calls at own_answers all_answer tally same all_same);
      labels = e.labels
          ∙ (take_front (all_labels first) (all_labels later)
          ∙ (ap (λ z. take z (all_labels first ++ all_labels later)) (as_many first done_first t.same)
          ∙ (ap (λ z. take (length (each_of action_change printed)) z) (sym (f.labels ∙ labels_then first later))
          ∙ ap (λ z. take (length (each_of action_change z)) (labels_of all)) (sym up_to))));
    }
