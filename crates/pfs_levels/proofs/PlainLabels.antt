-- Labels of a plain store, and the whole order.
use Rattle.std.proofs.Common.{ℕ, ◌≡◌, ◌<◌, ◌+◌, ◌-◌, inl, inr, false, List, [], ◌∷◌, ◌++◌, slice_index_or, length, refl, ap, sym, ◌∙◌, subst, arith, append_assoc, length-append}
use Rattle.std.proofs.lemmas.List.{append-nil, get_or_append_left}
use Rattle.std.proofs.Math.Seq.{get_or-append_seam}
use Rattle.pfs_board.specs.declared.view.Label.{Label}
use Rattle.pfs_board.specs.Knowledge.{no_label}
use Rattle.pfs_rows.specs.declared.table.Seen.TheVariants.{Whole, Free}
use Rattle.pfs_rows.specs.declared.table.Seen.TheVariants as sees
use Rattle.pfs_levels.specs.declared.answers.Added.TheVariants.{Counted, Held}
use Rattle.pfs_levels.specs.declared.answers.RingPut.TheVariants.{Done, Busy, Late}
use Rattle.pfs_levels.specs.Calls.{Call, Adds, Rings, Reads, Loads, Draws, Takes, Puts, Frees, Sets, Enters, Leaves, Meets, IsRing, action_in, label_in}
use Rattle.pfs_levels.specs.JointCalls.{all_calls}
use Rattle.pfs_levels.specs.CallOrder.{Mark, marks_of, all_marks, all_word_marks, HasCause, AreCaused, IsNamed, AreNamed, AllCalls, AreRising, IsThere, AreThere, Order}
use Rattle.pfs_levels.specs.PlainStore.{ops_of, slot_after, Answers, AllAnswer, labels_after}
use Rattle.pfs_levels.specs.PlainCalls.{AllOutside}
use Rattle.pfs_levels.proofs.PlainActions.{labels_count}
use Rattle.pfs_levels.proofs.ActorFloors.{stood, answers_rest}
use Rattle.pfs_levels.proofs.PlainOrder.{inside, leaving}
use Rattle.pfs_levels.proofs.PlainNumbers.{ordered}
use Rattle.pfs_levels.proofs.PlainRise.{rising}
use Rattle.pfs_levels.proofs.PlainContents.{versions}

-- nothing is held back
one_caused : (flags : List ℕ) (log own : List Mark) (call : Call) (calls rest : List Call) → Answers flags (calls ++ rest) call → HasCause log own calls call
one_caused flags log own (Adds row amount (Counted r v)) calls rest a = tt
one_caused flags log own (Adds row amount (Held r v w)) calls rest a = absurd a
one_caused flags log own (Rings row put (Late t v)) calls rest a = tt
one_caused flags log own (Rings row put (Done v)) calls rest a = tt
one_caused flags log own (Rings row put (Busy v w)) calls rest a = absurd a
one_caused flags log own (Reads row (Whole v found)) calls rest a = tt
one_caused flags log own (Reads row (Free w)) calls rest a = tt
one_caused flags log own (Reads row (sees.Busy v w)) calls rest a = absurd a
one_caused flags log own (Loads at v found) calls rest a = tt
one_caused flags log own (Draws kind ticket) calls rest a = tt
one_caused flags log own (Meets versions) calls rest a = tt
one_caused flags log own (Takes row v found) calls rest a = tt
one_caused flags log own (Puts row put v) calls rest a = tt
one_caused flags log own (Frees row v) calls rest a = tt
one_caused flags log own (Sets at to v) calls rest a = tt
one_caused flags log own (Enters label labels) calls rest a = tt
one_caused flags log own Leaves calls rest a = tt

are_caused : (flags : List ℕ) (log own : List Mark) (calls rest : List Call) → AllAnswer flags (calls ++ rest) → AreCaused log own calls
are_caused flags log own [] rest a = tt
are_caused flags log own (call ∷ calls) rest a = (one_caused flags log own call calls rest a.0, are_caused flags log own calls rest a.1)

all_caused : (flags : List ℕ) (log : List Mark) (actors : List (List Call)) → AllAnswer flags (all_calls actors) → AllCalls (λ calls. AreCaused log (marks_of calls) calls) actors
unfolding all_calls
all_caused flags log [] a = tt
all_caused flags log (calls ∷ actors) a = (are_caused flags log (marks_of calls) calls (all_calls actors) a, all_caused flags log actors (answers_rest flags calls (all_calls actors) a))

-- labels, with the places of those that ended
abbrev Named : List Label → List Call → Call → Type 0
Named all calls (Enters label labels) = (later : List Label) × (all ≡ labels ++ later)
Named all calls Leaves = (action_in calls - 1 < length all) × (slice_index_or all (action_in calls - 1) no_label ≡ label_in calls)
Named all calls (Adds row amount answer) = Unit {0}
Named all calls (Rings row put answer) = Unit {0}
Named all calls (Reads row seen) = Unit {0}
Named all calls (Loads at v found) = Unit {0}
Named all calls (Draws kind ticket) = Unit {0}
Named all calls (Meets versions) = Unit {0}
Named all calls (Takes row v found) = Unit {0}
Named all calls (Puts row put v) = Unit {0}
Named all calls (Frees row v) = Unit {0}
Named all calls (Sets at to v) = Unit {0}

abbrev AllNamed : List Label → List Call → Type 0
AllNamed all [] = Unit {0}
AllNamed all (call ∷ calls) = Named all calls call × AllNamed all calls

name_kept : (all more : List Label) (calls : List Call) (call : Call) → Named all calls call → Named (all ++ more) calls call
name_kept all more calls (Enters label labels) (later, e) = (later ++ more, ap (λ z. z ++ more) e ∙ append_assoc labels later more)
name_kept all more calls Leaves n = (omega (arith, n.0, length-append all more), get_or_append_left all more no_label (action_in calls - 1) n.0 ∙ n.1)
name_kept all more calls (Adds row amount answer) n = tt
name_kept all more calls (Rings row put answer) n = tt
name_kept all more calls (Reads row seen) n = tt
name_kept all more calls (Loads at v found) n = tt
name_kept all more calls (Draws kind ticket) n = tt
name_kept all more calls (Meets versions) n = tt
name_kept all more calls (Takes row v found) n = tt
name_kept all more calls (Puts row put v) n = tt
name_kept all more calls (Frees row v) n = tt
name_kept all more calls (Sets at to v) n = tt

names_kept : (all more : List Label) (calls : List Call) → AllNamed all calls → AllNamed (all ++ more) calls
names_kept all more [] n = tt
names_kept all more (call ∷ calls) n = (name_kept all more calls call n.0, names_kept all more calls n.1)

all_names_kept : (all more : List Label) (actors : List (List Call)) → AllCalls (AllNamed all) actors → AllCalls (AllNamed (all ++ more)) actors
all_names_kept all more [] n = tt
all_names_kept all more (calls ∷ actors) n = (names_kept all more calls n.0, all_names_kept all more actors n.1)

-- the label that a call adds
abbrev new_label : List Call → Call → List Label
new_label calls Leaves = label_in calls ∷ []
new_label calls (Enters label labels) = []
new_label calls (Adds row amount answer) = []
new_label calls (Rings row put answer) = []
new_label calls (Reads row seen) = []
new_label calls (Loads at v found) = []
new_label calls (Draws kind ticket) = []
new_label calls (Meets versions) = []
new_label calls (Takes row v found) = []
new_label calls (Puts row put v) = []
new_label calls (Frees row v) = []
new_label calls (Sets at to v) = []

label_added : (calls : List Call) (call : Call) → labels_after (call ∷ calls) ≡ labels_after calls ++ new_label calls call
unfolding labels_after
label_added calls Leaves = refl
label_added calls (Enters label labels) = sym (append-nil (labels_after calls))
label_added calls (Adds row amount answer) = sym (append-nil (labels_after calls))
label_added calls (Rings row put answer) = sym (append-nil (labels_after calls))
label_added calls (Reads row seen) = sym (append-nil (labels_after calls))
label_added calls (Loads at v found) = sym (append-nil (labels_after calls))
label_added calls (Draws kind ticket) = sym (append-nil (labels_after calls))
label_added calls (Meets versions) = sym (append-nil (labels_after calls))
label_added calls (Takes row v found) = sym (append-nil (labels_after calls))
label_added calls (Puts row put v) = sym (append-nil (labels_after calls))
label_added calls (Frees row v) = sym (append-nil (labels_after calls))
label_added calls (Sets at to v) = sym (append-nil (labels_after calls))

-- inside its own action an actor's label is its own
own_label : (calls rest : List Call) → 0 < action_in calls → label_in (calls ++ rest) ≡ label_in calls
own_label [] rest up = absurd (omega (arith, up))
own_label (Enters label labels ∷ calls) rest up = refl
own_label (Leaves ∷ calls) rest up = absurd (omega (arith, up))
own_label (Adds row amount answer ∷ calls) rest up = own_label calls rest up
own_label (Rings row put answer ∷ calls) rest up = own_label calls rest up
own_label (Reads row seen ∷ calls) rest up = own_label calls rest up
own_label (Loads at v found ∷ calls) rest up = own_label calls rest up
own_label (Draws kind ticket ∷ calls) rest up = own_label calls rest up
own_label (Meets versions ∷ calls) rest up = own_label calls rest up
own_label (Takes row v found ∷ calls) rest up = own_label calls rest up
own_label (Puts row put v ∷ calls) rest up = own_label calls rest up
own_label (Frees row v ∷ calls) rest up = own_label calls rest up
own_label (Sets at to v ∷ calls) rest up = own_label calls rest up

seam : (all : List Label) (l : Label) (i : ℕ) → i ≡ length all → slice_index_or (all ++ l ∷ []) i no_label ≡ l
seam all l i e = ap (λ z. slice_index_or (all ++ l ∷ []) z no_label) e ∙ get_or-append_seam all l [] no_label

newest_named : (flags : List ℕ) (call : Call) (calls rest : List Call) → AllAnswer flags (call ∷ (calls ++ rest)) → (slot_after (ops_of rest) 0).taken ≡ false → Named (labels_after (calls ++ rest) ++ new_label (calls ++ rest) call) calls call
newest_named flags (Enters label labels) calls rest a idle = ([], append-nil (labels_after (calls ++ rest)) ∙ sym a.0.1 ∙ sym (append-nil labels))
newest_named flags Leaves calls rest a idle =
    let all = labels_after (calls ++ rest) in
    let number : action_in calls ≡ length all + 1 = leaving (slot_after (ops_of (calls ++ rest)) 0) (action_in calls) (length all) a.0 (inside flags calls rest a.1 idle) in
    (omega (arith, number, length-append all (label_in (calls ++ rest) ∷ [])), seam all (label_in (calls ++ rest)) (action_in calls - 1) (omega (arith, number)) ∙ own_label calls rest (omega (arith, number)))
newest_named flags (Adds row amount answer) calls rest a idle = tt
newest_named flags (Rings row put answer) calls rest a idle = tt
newest_named flags (Reads row seen) calls rest a idle = tt
newest_named flags (Loads at v found) calls rest a idle = tt
newest_named flags (Draws kind ticket) calls rest a idle = tt
newest_named flags (Meets versions) calls rest a idle = tt
newest_named flags (Takes row v found) calls rest a idle = tt
newest_named flags (Puts row put v) calls rest a idle = tt
newest_named flags (Frees row v) calls rest a idle = tt
newest_named flags (Sets at to v) calls rest a idle = tt

named_of : (flags : List ℕ) (calls rest : List Call) (before : List (List Call)) → AllAnswer flags (calls ++ rest) → (slot_after (ops_of rest) 0).taken ≡ false → AllCalls (AllNamed (labels_after rest)) before → AllCalls (AllNamed (labels_after (calls ++ rest))) (calls ∷ before)
named_of flags [] rest before a idle n = (tt, n)
named_of flags (call ∷ calls) rest before a idle n =
    let old = named_of flags calls rest before a.1 idle n in
    let all = labels_after (calls ++ rest) in
    let more = new_label (calls ++ rest) call in
    let P : List Label → Type 0 = λ z. AllCalls (AllNamed z) ((call ∷ calls) ∷ before) in
    subst P (sym (label_added (calls ++ rest) call)) ((newest_named flags call calls rest a idle, names_kept all more calls old.0), all_names_kept all more before old.1)

pub named : (flags : List ℕ) (actors : List (List Call)) → AllAnswer flags (all_calls actors) → AllOutside actors → AllCalls (AllNamed (labels_after (all_calls actors))) actors
unfolding all_calls
named flags [] a out = tt
named flags (calls ∷ actors) a out =
    let b = answers_rest flags calls (all_calls actors) a in
    named_of flags calls (all_calls actors) actors a (stood flags actors b out.1).left.idle (named flags actors b out.1)

one_named : (all : List Label) (calls : List Call) (call : Call) → Named all calls call → IsNamed all calls call
one_named all calls (Enters label labels) n = n
one_named all calls Leaves n = n.1
one_named all calls (Adds row amount answer) n = tt
one_named all calls (Rings row put answer) n = tt
one_named all calls (Reads row seen) n = tt
one_named all calls (Loads at v found) n = tt
one_named all calls (Draws kind ticket) n = tt
one_named all calls (Meets versions) n = tt
one_named all calls (Takes row v found) n = tt
one_named all calls (Puts row put v) n = tt
one_named all calls (Frees row v) n = tt
one_named all calls (Sets at to v) n = tt

are_named : (all : List Label) (calls : List Call) → AllNamed all calls → AreNamed all calls
are_named all [] n = tt
are_named all (call ∷ calls) n = (one_named all calls call n.0, are_named all calls n.1)

all_named : (all : List Label) (actors : List (List Call)) → AllCalls (AllNamed all) actors → AllCalls (AreNamed all) actors
all_named all [] n = tt
all_named all (calls ∷ actors) n = (are_named all calls n.0, all_named all actors n.1)

all_rising : (flags : List ℕ) (actors : List (List Call)) → AllAnswer flags (all_calls actors) → AllOutside actors → AllCalls AreRising actors
unfolding all_calls
all_rising flags [] a out = tt
all_rising flags (calls ∷ actors) a out =
    let b = answers_rest flags calls (all_calls actors) a in
    (rising flags calls (all_calls actors) a (stood flags actors b out.1).left.idle, all_rising flags actors b out.1)

ring_there : (row : ℕ) (content : List ℕ) → IsRing row content → row < 14242
ring_there row content (inl h) = omega (arith, h)
ring_there row content (inr h) = h.1

one_there : (flags : List ℕ) (calls : List Call) (call : Call) → Answers flags calls call → IsThere call
one_there flags calls (Adds row amount (Counted r v)) a = omega (arith, a.0)
one_there flags calls (Adds row amount (Held r v w)) a = absurd a
one_there flags calls (Rings row put (Done v)) a = ring_there row put a.0
one_there flags calls (Rings row put (Busy v w)) a = absurd a
one_there flags calls (Rings row put (Late t v)) a = ring_there row put a.0
one_there flags calls (Reads row (Whole v found)) a = a.0.1
one_there flags calls (Reads row (Free w)) a = a.0.1
one_there flags calls (Reads row (sees.Busy v w)) a = absurd a
one_there flags calls (Loads at v found) a = a.0
one_there flags calls (Draws kind ticket) a = a.0
one_there flags calls (Meets versions) a = absurd a
one_there flags calls (Takes row v found) a = a.0.1
one_there flags calls (Puts row put v) a = a.0.1
one_there flags calls (Frees row v) a = a.0.1
one_there flags calls (Sets at to v) a = a.0
one_there flags calls (Enters label labels) a = tt
one_there flags calls Leaves a = tt

are_there : (flags : List ℕ) (calls rest : List Call) → AllAnswer flags (calls ++ rest) → AreThere calls
are_there flags [] rest a = tt
are_there flags (call ∷ calls) rest a = (one_there flags (calls ++ rest) call a.0, are_there flags calls rest a.1)

all_there : (flags : List ℕ) (actors : List (List Call)) → AllAnswer flags (all_calls actors) → AllCalls AreThere actors
unfolding all_calls
all_there flags [] a = tt
all_there flags (calls ∷ actors) a = (are_there flags calls (all_calls actors) a, all_there flags actors (answers_rest flags calls (all_calls actors) a))

-- any number of actors that used a plain store one after another, the last one first, none of them in an action at its end
pub plain_order : (flags : List ℕ) (actors : List (List Call)) → AllAnswer flags (all_calls actors) → AllOutside actors
    → Order actors (all_marks actors) (all_word_marks actors) (labels_after (all_calls actors))
plain_order flags actors a out =
    let s = stood flags actors a out in
    record {
      chain = s.left.chain;
      word_chain = s.left.word_chain;
      ordered = ordered flags actors a out;
      once = λ h. refl;
      words_once = λ h. refl;
      ended = labels_count flags (all_calls actors) a ∙ versions (ops_of (all_calls actors)) 0 ∙ sym (s.left.rows 0);
      floored = s.floors;
      rising = all_rising flags actors a out;
      there = all_there flags actors a;
      caused = all_caused flags (all_marks actors) actors a;
      named = all_named (labels_after (all_calls actors)) actors (named flags actors a out);
    }
