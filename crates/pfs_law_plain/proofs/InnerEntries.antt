-- Entries that change rows and words: what they tell goes by no context, and they leave a journal's slot.
use Rattle.std.proofs.Common.{ℕ, ◌≡◌, ◌+◌, List, [], ◌∷◌, ◌++◌, Option, refl, ap, sym, ◌∙◌}
use Rattle.std.proofs.lemmas.List.{append_assoc, append-nil}
use Rattle.pfs_admin.specs.Works.{Sign, Releases, Tags, Made, signs_calls, signs_entries, made_calls, made_entries, Flagging, flagging_calls, flagging_entries, word_at}
use Rattle.pfs_admin.specs.declared.changes.Reply.{Reply}
use Rattle.pfs_admin.specs.declared.changes.Reply.TheVariants as replies
use Rattle.pfs_admin.specs.declared.changes.SetupStatement.{SetupStatement}
use Rattle.pfs_admin.specs.declared.changes.SetupStatement.TheVariants.{Update, Insert, Delete, Show}
use Rattle.pfs_event.specs.declared.entry.Entry.{Entry}
use Rattle.pfs_event.specs.declared.entry.Entry.TheVariants as says
use Rattle.pfs_levels.specs.Calls.{Call, Takes, Puts, Sets}
use Rattle.pfs_levels.specs.RowWords.{merged, zero_words}
use Rattle.pfs_levels.specs.Moves.{Gift, Move, gift_calls, gift_entries, empty_calls, move_calls, move_entries, moves_calls, moves_entries}
use Rattle.pfs_levels.specs.declared.answers.Word.{Word}
use Rattle.pfs_model.specs.declared.lines.Subject.{Subject}
use Rattle.pfs_model.specs.Contexts.{Context, noted, after_entries}
use Rattle.pfs_session.specs.Settlements.{Paid, paid_calls, paid_entries, pay_calls, pay_entries}
use Rattle.pfs_session.specs.Turns.{reply_entry, reply_entries}
use Rattle.pfs_stat.specs.Stat.{stat_of_words}
use Rattle.pfs_stat.specs.declared.Stat.{Stat}
use Rattle.pfs_law_plain.specs.Notes.{Wrote, notes_at, notes_in, told, all_told}

pub told_then : (xs ys : List Call) → all_told (xs ++ ys) ≡ all_told ys ++ all_told xs
unfolding all_told
told_then [] ys = sym (append-nil (all_told ys))
told_then (x ∷ xs) ys = ap (λ z. z ++ told x) (told_then xs ys) ∙ append_assoc (all_told ys) (all_told xs) (told x)

pub notes_then : (subject : Option Subject) (context : Context) (xs ys : List Entry)
    → notes_in subject context (xs ++ ys) ≡ notes_in subject context xs ++ notes_in subject (after_entries subject context xs) ys
notes_then subject context [] ys = refl
notes_then subject context (x ∷ xs) ys =
    ap (λ z. notes_at subject context x ++ z) (notes_then subject (noted subject context x) xs ys)
    ∙ sym (append_assoc (notes_at subject context x) (notes_in subject (noted subject context x) xs) (notes_in subject (after_entries subject (noted subject context x) xs) ys))

pub entries_then : (subject : Option Subject) (context : Context) (xs ys : List Entry)
    → after_entries subject context (xs ++ ys) ≡ after_entries subject (after_entries subject context xs) ys
entries_then subject context [] ys = refl
entries_then subject context (x ∷ xs) ys = entries_then subject (noted subject context x) xs ys

-- a row is added to, left, given to, written or released, a word is set, or a change is answered
abbrev pub IsInner : Entry → Type 0
IsInner (says.Add row version) = Unit {0}
IsInner (says.Take row version) = Unit {0}
IsInner (says.Give row version from) = Unit {0}
IsInner (says.Tag row version) = Unit {0}
IsInner (says.Free row version) = Unit {0}
IsInner (says.Set word version flags) = Unit {0}
IsInner (says.Reply number) = Unit {0}
IsInner (says.Error number) = Unit {0}
IsInner entry = ⊥

abbrev pub AreInner : List Entry → Type 0
AreInner [] = Unit {0}
AreInner (e ∷ es) = IsInner e × AreInner es

pub inner_then : (xs ys : List Entry) → AreInner xs → AreInner ys → AreInner (xs ++ ys)
inner_then [] ys a b = b
inner_then (x ∷ xs) ys a b = (a.0, inner_then xs ys a.1 b)

inner_slot : (subject : Option Subject) (context : Context) (e : Entry) → IsInner e → (noted subject context e).slot ≡ context.slot
inner_slot subject context (says.Add row version) i = refl
inner_slot subject context (says.Take row version) i = refl
inner_slot subject context (says.Give row version from) i = refl
inner_slot subject context (says.Tag row version) i = refl
inner_slot subject context (says.Free row version) i = refl
inner_slot subject context (says.Set word version flags) i = refl
inner_slot subject context (says.Reply number) i = refl
inner_slot subject context (says.Error number) i = refl
inner_slot subject context _ i = absurd i

pub inner_slots : (subject : Option Subject) (context : Context) (es : List Entry) → AreInner es → (after_entries subject context es).slot ≡ context.slot
inner_slots subject context [] i = refl
inner_slots subject context (e ∷ es) i = inner_slots subject (noted subject context e) es i.1 ∙ inner_slot subject context e i.0

-- entries and calls that tell the same, whatever was told before
pub record IsSame (entries : List Entry) (calls : List Call) : Type 0 where
  pub inner : AreInner entries
  pub same : (subject : Option Subject) (context : Context) → notes_in subject context entries ≡ all_told calls

pub same_none : IsSame [] []
unfolding all_told
same_none = record { inner = tt; same = λ subject context. refl }

pub same_then : (xs ys : List Entry) (cs ds : List Call) → IsSame xs cs → IsSame ys ds → IsSame (xs ++ ys) (ds ++ cs)
same_then xs ys cs ds a b = record {
  inner = inner_then xs ys a.inner b.inner;
  same = λ subject context.
      notes_then subject context xs ys
      ∙ (ap (λ z. z ++ notes_in subject (after_entries subject context xs) ys) (a.same subject context)
      ∙ ap (λ z. all_told cs ++ z) (b.same subject (after_entries subject context xs))) ∙ sym (told_then ds cs);
}

put_same : (row version : ℕ) (content : List ℕ) (before : ℕ) (found : List ℕ) (e : Entry) → IsInner e
    → ((subject : Option Subject) (context : Context) → notes_at subject context e ≡ Wrote row version ∷ []) → IsSame (e ∷ []) (Puts row content version ∷ Takes row before found ∷ [])
unfolding all_told
put_same row version content before found e i n = record { inner = (i, tt); same = λ subject context. ap (λ z. z ++ []) (n subject context) }

pub gifts_same : (from : ℕ) (amount : Stat) (gs : List Gift) → IsSame (gift_entries from gs) (gift_calls amount gs)
gifts_same from amount [] = same_none
gifts_same from amount (g ∷ gs) =
    same_then (says.Give g.to g.version from ∷ []) (gift_entries from gs) (Puts g.to (merged g.there amount) g.version ∷ Takes g.to g.before g.there ∷ []) (gift_calls amount gs)
    (put_same g.to g.version (merged g.there amount) g.before g.there (says.Give g.to g.version from) tt (λ subject context. refl)) (gifts_same from amount gs)

pub move_same : (m : Move) → IsSame (move_entries m) (move_calls m)
move_same m =
    same_then (says.Take m.from m.version ∷ []) (gift_entries m.from m.gifts) (empty_calls m.from m.before m.version m.found) (gift_calls (stat_of_words m.found) m.gifts)
    (put_same m.from m.version zero_words m.before m.found (says.Take m.from m.version) tt (λ subject context. refl)) (gifts_same m.from (stat_of_words m.found) m.gifts)

pub moves_same : (ms : List Move) → IsSame (moves_entries ms) (moves_calls ms)
moves_same [] = same_none
moves_same (m ∷ ms) = same_then (moves_entries ms) (move_entries m) (moves_calls ms) (move_calls m) (moves_same ms) (move_same m)

made_same : (sign : Sign) (version : ℕ) (found : List ℕ) → IsSame (made_entries (record { sign = sign; version = version; found = found })) (made_calls (record { sign = sign; version = version; found = found }))
unfolding all_told
made_same (Releases row) version found = record { inner = (tt, tt); same = λ subject context. refl }
made_same (Tags row content) version found = put_same row (version + 1) content version found (says.Tag row (version + 1)) tt (λ subject context. refl)

pub signs_same : (ms : List Made) → IsSame (signs_entries ms) (signs_calls ms)
signs_same [] = same_none
signs_same (m ∷ ms) = same_then (signs_entries ms) (made_entries m) (signs_calls ms) (made_calls m) (signs_same ms) (made_same m.sign m.version m.found)

flag_same : (word version flags : ℕ) → IsSame (says.Set word version flags ∷ []) (Sets word flags version ∷ [])
unfolding all_told
flag_same word version flags = record { inner = (tt, tt); same = λ subject context. refl }

pub flags_same : (words : List Word) (fs : List Flagging) → IsSame (flagging_entries words fs) (flagging_calls words fs)
flags_same words [] = same_none
flags_same words (f ∷ fs) =
    same_then (says.Set f.word ((word_at words f.word).version + 1) f.flags ∷ []) (flagging_entries words fs) (Sets f.word f.flags ((word_at words f.word).version + 1) ∷ []) (flagging_calls words fs)
    (flag_same f.word ((word_at words f.word).version + 1) f.flags) (flags_same words fs)

-- an answer tells nothing
pub reply_same : (number : ℕ) → IsSame (says.Reply number ∷ []) []
unfolding all_told
reply_same number = record { inner = (tt, tt); same = λ subject context. refl }

error_same : (number : ℕ) → IsSame (says.Error number ∷ []) []
unfolding all_told
error_same number = record { inner = (tt, tt); same = λ subject context. refl }

answer_same : (reply : Reply) → IsSame (reply_entry reply ∷ []) []
answer_same (replies.Changed count) = reply_same count
answer_same (replies.Error error) = error_same error

pub answers_same : (what : SetupStatement) (reply : Reply) → IsSame (reply_entries what reply) []
answers_same (Update update) reply = answer_same reply
answers_same (Insert insert) reply = answer_same reply
answers_same (Delete delete) reply = answer_same reply
answers_same Show reply = same_none

pub paid_same : (ps : List Paid) → IsSame (paid_entries ps) (paid_calls ps)
paid_same [] = same_none
paid_same (p ∷ ps) =
    same_then (paid_entries ps) (pay_entries p) (paid_calls ps) (pay_calls p) (paid_same ps)
    (put_same p.owed.row (p.version + 1) (merged p.found p.owed.amount) p.version p.found (says.Add p.owed.row (p.version + 1)) tt (λ subject context. refl))
