-- A journal that is written entry by entry.
use Rattle.std.proofs.Common.{ℕ, ◌≡◌, ◌+◌, ◌≤◌, ◌<◌, Bool, List, [], ◌∷◌, ◌++◌, length, drop, Option, Err, true, false, sym, ap, subst, ◌∙◌, refl, append_assoc, append-nil, arith}
use Rattle.std.specs.Prelude.{if◌then◌else◌, slice_get, Some}
use Rattle.std.proofs.lemmas.List.{drop-drop, drop_all, drop_more}
use Rattle.std.proofs.lemmas.Option.{get_or_from_slice_get}
use Rattle.pfs_outside.specs.DeviceCalls.{Added}
use Rattle.pfs_outside.specs.WholeStreams.{Puts}
use Rattle.pfs_outside.specs.declared.writing.WriteStop.{WriteStop}
use Rattle.pfs_outside.proofs.SinkWrites.{added_more, puts_then, puts_stop}
use Rattle.pfs_event.specs.declared.entry.Entry.{Entry}
use Rattle.pfs_text.specs.declared.values.RowValue.{RowValue}
use Rattle.pfs_journal.specs.Spelling.{is_answered, answered_text, journal_text}

-- what is left from a place on begins with the entry there
pub from_there : (xs : List Entry) (i : ℕ) (there : Entry) → i < length xs → slice_get xs i ≡ Some there → drop i xs ≡ there ∷ drop (i + 1) xs
from_there xs i there within stands = drop_more xs i there within ∙ ap (λ (entry : Entry). entry ∷ drop (i + 1) xs) (get_or_from_slice_get xs i there there stands)

abbrev pub Answers : Type 0
Answers = List (List (List RowValue))

-- what is written so far, and that with what is left it is the whole journal
pub record Leaves (before after : Option (List ℕ)) (old now : ℕ) (entries : List Entry) (answers : Answers) (index place : ℕ) : Type 0 where
  pub front : List ℕ
  pub added : Added before after front
  pub rose : old ≤ now
  pub whole : journal_text entries answers ≡ front ++ journal_text (drop index entries) (drop place answers)
  pub few : place ≤ index

place_more : (answers : Answers) (place : ℕ) (b : Bool) → (if b then drop 1 (drop place answers) else drop place answers) ≡ drop (if b then place + 1 else place) answers
place_more answers place true = drop-drop 1 place answers
place_more answers place false = refl

-- what is left begins with the entry here
left_here : (entries : List Entry) (answers : Answers) (index place : ℕ) (entry : Entry) → index < length entries → drop index entries ≡ entry ∷ drop (index + 1) entries
    → journal_text (drop index entries) (drop place answers) ≡ answered_text entry (drop place answers) ++ journal_text (drop (index + 1) entries) (drop (if is_answered entry then place + 1 else place) answers)
unfolding journal_text
left_here entries answers index place entry h e =
    ap (λ (es : List Entry). journal_text es (drop place answers)) e
    ∙ ap (λ (rest : Answers). answered_text entry (drop place answers) ++ journal_text (drop (index + 1) entries) rest) (place_more answers place (is_answered entry))

pub leaves_more : (before mid after : Option (List ℕ)) (old m now : ℕ) (entries : List Entry) (answers : Answers) (index place : ℕ) (entry : Entry) → index < length entries → drop index entries ≡ entry ∷ drop (index + 1) entries
    → Leaves before mid old m entries answers index place → Added mid after (answered_text entry (drop place answers)) × (m ≤ now)
    → (next : ℕ) → next ≡ (if is_answered entry then place + 1 else place) → Leaves before after old now entries answers (index + 1) next
leaves_more before mid after old m now entries answers index place entry h e l p next is = subst (λ (n : ℕ). Leaves before after old now entries answers (index + 1) n) (sym is) (record {
  front = l.front ++ answered_text entry (drop place answers);
  added = added_more before mid after l.front (answered_text entry (drop place answers)) l.added p.0;
  rose = omega (arith, l.rose, p.1);
  whole = l.whole ∙ (ap (λ (z : List ℕ). l.front ++ z) (left_here entries answers index place entry h e) ∙ sym (append_assoc l.front (answered_text entry (drop place answers)) (journal_text (drop (index + 1) entries) (drop (if is_answered entry then place + 1 else place) answers))));
  few = few_more (is_answered entry) place index l.few;
})
  where
    few_more : (b : Bool) (p i : ℕ) → p ≤ i → (if b then p + 1 else p) ≤ i + 1
    few_more true p i h = omega arith
    few_more false p i h = omega arith

-- an entry stopped
pub leaves_stop : (before mid after : Option (List ℕ)) (old m now : ℕ) (entries : List Entry) (answers : Answers) (index place : ℕ) (entry : Entry) (stop : WriteStop) → index < length entries → drop index entries ≡ entry ∷ drop (index + 1) entries
    → Leaves before mid old m entries answers index place → Puts mid after m now (answered_text entry (drop place answers)) (Err stop)
    → Puts before after old now (journal_text entries answers) (Err stop)
leaves_stop before mid after old m now entries answers index place entry stop h e l p =
    let text = answered_text entry (drop place answers) in
    let rest = journal_text (drop (index + 1) entries) (drop (if is_answered entry then place + 1 else place) answers) in
    let all = puts_then before mid after old m now l.front (text ++ rest) (Err stop) (l.added, l.rose) (puts_stop mid after m now text rest stop p) in
    subst (λ (z : List ℕ). Puts before after old now z (Err stop)) (sym (l.whole ∙ ap (λ (z : List ℕ). l.front ++ z) (left_here entries answers index place entry h e))) all

-- nothing is left
pub leaves_none : (before after : Option (List ℕ)) (old now : ℕ) (entries : List Entry) (answers : Answers) (index place : ℕ) → length entries ≤ index → Leaves before after old now entries answers index place → Added before after (journal_text entries answers) × (old ≤ now)
unfolding journal_text
leaves_none before after old now entries answers index place h l =
    let none : journal_text (drop index entries) (drop place answers) ≡ [] = ap (λ (es : List Entry). journal_text es (drop place answers)) (drop_all index entries h) in
    let whole : journal_text entries answers ≡ l.front = l.whole ∙ (ap (λ (z : List ℕ). l.front ++ z) none ∙ append-nil l.front) in
    (subst (λ (z : List ℕ). Added before after z) (sym whole) l.added, l.rose)
