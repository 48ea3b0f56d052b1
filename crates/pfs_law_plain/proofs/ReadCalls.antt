-- Calls that only read change nothing: without them the calls round them answer the same.
use Rattle.std.proofs.Common.{ℕ, ◌≡◌, ◌+◌, ◌*◌, ◌<◌, ◌≤◌, true, false, List, [], ◌∷◌, ◌++◌, slice_index, refl, ap, ◌∙◌, subst}
use Rattle.pfs_board.specs.declared.view.Label.{Label}
use Rattle.pfs_levels.specs.Calls.{Call, Adds, Rings, Reads, Loads, Draws, Takes, Puts, Frees, Sets, Enters, Leaves, Meets, IsRow, IsCell, IsRing, label_in}
use Rattle.pfs_levels.specs.JointCalls.{Setting, sets_by, sets_of, Draw, draws_by, draws_of, drawn}
use Rattle.pfs_levels.specs.PlainStore.{Op, ops_by, ops_of, slot_after, word_after, word, labels_after, IsFresh, Answers, AllAnswer}
use Rattle.pfs_levels.specs.declared.answers.Added.TheVariants.{Counted, Held}
use Rattle.pfs_levels.specs.declared.answers.RingPut.TheVariants.{Done, Busy, Late}
use Rattle.pfs_rows.specs.declared.table.Seen.TheVariants.{Whole, Free}
use Rattle.pfs_rows.specs.declared.table.Seen.TheVariants as sees

-- a row is read, or a switch word is loaded
abbrev pub OnlyReads : Call → Type 0
OnlyReads (Reads row seen) = Unit {0}
OnlyReads (Loads at version found) = Unit {0}
OnlyReads (Adds row amount answer) = ⊥
OnlyReads (Rings row content answer) = ⊥
OnlyReads (Draws kind ticket) = ⊥
OnlyReads (Takes row version found) = ⊥
OnlyReads (Puts row content version) = ⊥
OnlyReads (Frees row version) = ⊥
OnlyReads (Sets at found version) = ⊥
OnlyReads (Enters label labels) = ⊥
OnlyReads Leaves = ⊥
OnlyReads (Meets versions) = ⊥

abbrev pub AllOnlyRead : List Call → Type 0
AllOnlyRead [] = Unit {0}
AllOnlyRead (call ∷ calls) = OnlyReads call × AllOnlyRead calls

-- two lists of calls lead to the same
pub record LeadAlike (some others : List Call) : Type 0 where
  pub ops : ops_of some ≡ ops_of others
  pub sets : sets_of some ≡ sets_of others
  pub draws : draws_of some ≡ draws_of others
  pub labels : labels_after some ≡ labels_after others
  pub label : label_in some ≡ label_in others

pub alike_none : (calls : List Call) → LeadAlike calls calls
alike_none calls = record { ops = refl; sets = refl; draws = refl; labels = refl; label = refl }

-- calls that only read may come more
pub reads_more : (reads some others : List Call) → AllOnlyRead reads → LeadAlike some others → LeadAlike (reads ++ some) others
unfolding ops_of sets_of draws_of labels_after
reads_more [] some others r a = a
reads_more (Reads row seen ∷ reads) some others r a =
    let b : LeadAlike (reads ++ some) others = reads_more reads some others r.1 a in
    record { ops = b.ops; sets = b.sets; draws = b.draws; labels = b.labels; label = b.label }
reads_more (Loads at version found ∷ reads) some others r a =
    let b : LeadAlike (reads ++ some) others = reads_more reads some others r.1 a in
    record { ops = b.ops; sets = b.sets; draws = b.draws; labels = b.labels; label = b.label }
reads_more (Adds row amount answer ∷ reads) some others r a = absurd r.0
reads_more (Rings row content answer ∷ reads) some others r a = absurd r.0
reads_more (Draws kind ticket ∷ reads) some others r a = absurd r.0
reads_more (Takes row version found ∷ reads) some others r a = absurd r.0
reads_more (Puts row content version ∷ reads) some others r a = absurd r.0
reads_more (Frees row version ∷ reads) some others r a = absurd r.0
reads_more (Sets at found version ∷ reads) some others r a = absurd r.0
reads_more (Enters label labels ∷ reads) some others r a = absurd r.0
reads_more (Leaves ∷ reads) some others r a = absurd r.0
reads_more (Meets versions ∷ reads) some others r a = absurd r.0

-- one call more
label_more : (call : Call) (some others : List Call) → LeadAlike some others → (labels_after (call ∷ some) ≡ labels_after (call ∷ others)) × (label_in (call ∷ some) ≡ label_in (call ∷ others))
unfolding labels_after
label_more Leaves some others a = (ap (λ z. z ++ label_in some ∷ []) a.labels ∙ ap (λ z. labels_after others ++ z ∷ []) a.label, refl)
label_more (Enters label labels) some others a = (a.labels, refl)
label_more (Adds row amount answer) some others a = (a.labels, a.label)
label_more (Rings row content answer) some others a = (a.labels, a.label)
label_more (Reads row seen) some others a = (a.labels, a.label)
label_more (Loads at version found) some others a = (a.labels, a.label)
label_more (Draws kind ticket) some others a = (a.labels, a.label)
label_more (Takes row version found) some others a = (a.labels, a.label)
label_more (Puts row content version) some others a = (a.labels, a.label)
label_more (Frees row version) some others a = (a.labels, a.label)
label_more (Sets at found version) some others a = (a.labels, a.label)
label_more (Meets versions) some others a = (a.labels, a.label)

one_more : (call : Call) (some others : List Call) → LeadAlike some others → LeadAlike (call ∷ some) (call ∷ others)
unfolding ops_of sets_of draws_of
one_more call some others a = record {
  ops = ap (λ z. ops_by call ++ z) a.ops;
  sets = ap (λ z. sets_by call ++ z) a.sets;
  draws = ap (λ z. draws_by call ++ z) a.draws;
  labels = (label_more call some others a).0;
  label = (label_more call some others a).1;
}

-- and any calls may come more on both sides
pub calls_more : (calls some others : List Call) → LeadAlike some others → LeadAlike (calls ++ some) (calls ++ others)
calls_more [] some others a = a
calls_more (call ∷ calls) some others a = one_more call (calls ++ some) (calls ++ others) (calls_more calls some others a)

-- and each call answers as it did
answers_alike : (flags : List ℕ) (some others : List Call) (call : Call) → LeadAlike some others → Answers flags some call → Answers flags others call
answers_alike flags some others (Adds row amount (Counted r version)) l a =
    subst (λ (z : List Op). IsCell row × (r ≡ row) × ((slot_after z row).taken ≡ false) × (version ≡ (slot_after z row).version + 1)) l.ops a
answers_alike flags some others (Adds row amount (Held r first second)) l a = absurd a
answers_alike flags some others (Rings row content (Done version)) l a =
    subst (λ (z : List Op). IsRing row content × ((slot_after z row).taken ≡ false) × (version ≡ (slot_after z row).version + 1) × IsFresh row (slot_after z row) content) l.ops a
answers_alike flags some others (Rings row content (Busy first second)) l a = absurd a
answers_alike flags some others (Rings row content (Late ticket version)) l a =
    subst (λ (z : List Op). IsRing row content × ((slot_after z row).allocated ≡ true) × (10242 ≤ row) × (slice_index (slot_after z row).content 15 ≡ ticket + 1) × (slice_index content 15 ≤ ticket) × (version ≡ (slot_after z row).version)) l.ops a
answers_alike flags some others (Reads row (Whole version content)) l a =
    subst (λ (z : List Op). IsRow row × ((slot_after z row).allocated ≡ true) × (version ≡ (slot_after z row).version) × (content ≡ (slot_after z row).content)) l.ops a
answers_alike flags some others (Reads row (Free w)) l a = subst (λ (z : List Op). IsRow row × ((slot_after z row).allocated ≡ false) × (w ≡ 4 * (slot_after z row).version)) l.ops a
answers_alike flags some others (Reads row (sees.Busy first second)) l a = absurd a
answers_alike flags some others (Loads at version found) l a = subst (λ (z : List Setting). (at < 160) × (word version found ≡ word_after flags z at)) l.sets a
answers_alike flags some others (Draws kind ticket) l a = subst (λ (z : List Draw). (kind < 4) × (ticket ≡ drawn z kind)) l.draws a
answers_alike flags some others (Meets versions) l a = absurd a
answers_alike flags some others (Takes row version found) l a =
    subst (λ (z : List Op). IsRow row × ((slot_after z row).taken ≡ false) × (version ≡ (slot_after z row).version) × (found ≡ (slot_after z row).content)) l.ops a
answers_alike flags some others (Puts row content version) l a = subst (λ (z : List Op). IsRow row × ((slot_after z row).taken ≡ true) × (version ≡ (slot_after z row).version + 1)) l.ops a
answers_alike flags some others (Frees row version) l a = subst (λ (z : List Op). IsRow row × ((slot_after z row).taken ≡ true) × (version ≡ (slot_after z row).version)) l.ops a
answers_alike flags some others (Sets at to version) l a = subst (λ (z : List Setting). (at < 160) × (version ≡ (word_after flags z at).version + 1)) l.sets a
answers_alike flags some others (Enters label labels) l a =
    subst (λ (z : List Label). ((slot_after (ops_of others) 0).taken ≡ false) × (labels ≡ z)) l.labels (subst (λ (z : List Op). ((slot_after z 0).taken ≡ false) × (labels ≡ labels_after some)) l.ops a)
answers_alike flags some others Leaves l a = subst (λ (z : List Op). (slot_after z 0).taken ≡ true) l.ops a

-- so calls that answer behind the one list answer behind the other
pub answers_more : (flags : List ℕ) (calls some others : List Call) → LeadAlike some others → AllAnswer flags others → AllAnswer flags (calls ++ some) → AllAnswer flags (calls ++ others)
answers_more flags [] some others l there a = there
answers_more flags (call ∷ calls) some others l there a =
    (answers_alike flags (calls ++ some) (calls ++ others) call (calls_more calls some others l) a.0, answers_more flags calls some others l there a.1)
