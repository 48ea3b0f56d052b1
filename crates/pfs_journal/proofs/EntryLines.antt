-- A journal without answers, written line by line.
use Rattle.std.proofs.Common.{ℕ, ◌≡◌, ◌+◌, ◌-◌, ◌≤◌, ◌<◌, List, [], ◌∷◌, ◌++◌, length, take, drop, Option, Err, sym, ap, subst, ◌∙◌, refl, append_assoc, append-nil, arith}
use Rattle.std.specs.Prelude.{Bool, true, false, if◌then◌else◌}
use Rattle.std.specs.List.{flat_map}
use Rattle.std.proofs.lemmas.List.{drop_all, take_rest}
use Rattle.std.proofs.lemmas.List.Concat.{flat_map-cons}
use Rattle.pfs_outside.specs.DeviceCalls.{Added}
use Rattle.pfs_outside.specs.WholeStreams.{Puts}
use Rattle.pfs_outside.specs.declared.writing.WriteStop.{WriteStop}
use Rattle.pfs_outside.proofs.SinkWrites.{added_more, puts_then, puts_stop}
use Rattle.pfs_event.specs.declared.entry.Entry.{Entry}
use Rattle.pfs_journal.specs.Spelling.{entry_text, answered_text, journal_text, is_answered}

-- what is written so far, and that with what is left it is all lines
pub record Leaving (before after : Option (List ℕ)) (old now : ℕ) (entries : List Entry) (at : ℕ) : Type 0 where
  pub front : List ℕ
  pub added : Added before after front
  pub rose : old ≤ now
  pub whole : flat_map entry_text entries ≡ front ++ flat_map entry_text (drop at entries)
  pub within : at ≤ length entries

pub leaving_all : (before : Option (List ℕ)) (old : ℕ) (entries : List Entry) → Added before before [] → Leaving before before old old entries 0
leaving_all before old entries none = record { front = []; added = none; rose = omega arith; whole = refl; within = omega arith }

-- what is left begins with the line of the entry here
left_here : (entries : List Entry) (at : ℕ) (entry : Entry) → drop at entries ≡ entry ∷ drop (at + 1) entries → flat_map entry_text (drop at entries) ≡ entry_text entry ++ flat_map entry_text (drop (at + 1) entries)
left_here entries at entry e = ap (flat_map entry_text) e ∙ flat_map-cons entry_text entry (drop (at + 1) entries)

pub leaving_more : (before mid after : Option (List ℕ)) (old m now : ℕ) (entries : List Entry) (at : ℕ) (entry : Entry) → at < length entries → drop at entries ≡ entry ∷ drop (at + 1) entries
    → Leaving before mid old m entries at → Added mid after (entry_text entry) × (m ≤ now) → Leaving before after old now entries (at + 1)
leaving_more before mid after old m now entries at entry within e l p = record {
  front = l.front ++ entry_text entry;
  added = added_more before mid after l.front (entry_text entry) l.added p.0;
  rose = omega (arith, l.rose, p.1);
  whole = l.whole ∙ (ap (λ (z : List ℕ). l.front ++ z) (left_here entries at entry e) ∙ sym (append_assoc l.front (entry_text entry) (flat_map entry_text (drop (at + 1) entries))));
  within = omega (arith, within);
}

-- a line stopped
pub leaving_stop : (before mid after : Option (List ℕ)) (old m now : ℕ) (entries : List Entry) (at : ℕ) (entry : Entry) (stop : WriteStop) → drop at entries ≡ entry ∷ drop (at + 1) entries
    → Leaving before mid old m entries at → Puts mid after m now (entry_text entry) (Err stop) → Puts before after old now (flat_map entry_text entries) (Err stop)
leaving_stop before mid after old m now entries at entry stop e l p =
    let text = entry_text entry in
    let rest = flat_map entry_text (drop (at + 1) entries) in
    let all = puts_then before mid after old m now l.front (text ++ rest) (Err stop) (l.added, l.rose) (puts_stop mid after m now text rest stop p) in
    subst (λ (z : List ℕ). Puts before after old now z (Err stop)) (sym (l.whole ∙ ap (λ (z : List ℕ). l.front ++ z) (left_here entries at entry e))) all

-- nothing is left
pub leaving_none : (before after : Option (List ℕ)) (old now : ℕ) (entries : List Entry) (at : ℕ) → length entries ≤ at → Leaving before after old now entries at → Added before after (flat_map entry_text entries) × (old ≤ now)
leaving_none before after old now entries at h l =
    let whole : flat_map entry_text entries ≡ l.front = l.whole ∙ (ap (λ (ys : List Entry). l.front ++ flat_map entry_text ys) (drop_all at entries h) ∙ append-nil l.front) in
    (subst (λ (z : List ℕ). Added before after z) (sym whole) l.added, l.rose)

-- an entry without an answer behind it
no_answer : (text : List ℕ) (b : Bool) (entries : List Entry) → (rest : List ℕ) → journal_text entries [] ≡ rest
    → (text ++ (if b then [] else [])) ++ journal_text entries (if b then drop 1 [] else []) ≡ text ++ rest
no_answer text true entries rest is = ap (λ (z : List ℕ). z ++ journal_text entries []) (append-nil text) ∙ ap (λ (z : List ℕ). text ++ z) is
no_answer text false entries rest is = ap (λ (z : List ℕ). z ++ journal_text entries []) (append-nil text) ∙ ap (λ (z : List ℕ). text ++ z) is

-- without answers a journal is its lines
pub unanswered : (entries : List Entry) → journal_text entries [] ≡ flat_map entry_text entries
unfolding journal_text answered_text
unanswered [] = refl
unanswered (entry ∷ entries) = no_answer (entry_text entry) (is_answered entry) entries (flat_map entry_text entries) (unanswered entries) ∙ sym (flat_map-cons entry_text entry entries)

-- a line that stands at the end of a buffer
pub alone : (text buffer : List ℕ) (n : ℕ) → length buffer ≤ n → text ++ drop n buffer ≡ text
alone text buffer n h = ap (λ (z : List ℕ). text ++ z) (drop_all n buffer h) ∙ append-nil text

-- a buffer of known length, from a place to its end
pub to_the_end : (buffer : List ℕ) (start n : ℕ) → length buffer ≡ n → take (n - start) (drop start buffer) ≡ drop start buffer
to_the_end buffer start n long = ap (λ (k : ℕ). take (k - start) (drop start buffer)) (sym long) ∙ take_rest buffer start
