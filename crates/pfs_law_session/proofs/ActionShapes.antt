-- What an action writes behind its head: moves, then signs, then sets.
use Rattle.std.proofs.Common.{ℕ, ◌≡◌, Bool, true, false, List, [], ◌∷◌, ◌++◌, Option, Some, None, refl, ap, sym, ◌∙◌}
use Rattle.std.specs.Prelude.{Ok, if◌then◌else◌}
use Rattle.std.proofs.lemmas.Bool.{false≢true}
use Rattle.std.proofs.lemmas.List.{append-nil}
use Rattle.pfs_admin.specs.ConnectionAsks.{connect_entry, placed_of}
use Rattle.pfs_admin.specs.declared.changes.Reply.{Reply}
use Rattle.pfs_admin.specs.declared.changes.Reply.TheVariants as replies
use Rattle.pfs_admin.specs.Works.{Sign, Made, Flagging, signs_entries, made_entries, sign_entry, Releases, Tags, flagging_entries}
use Rattle.pfs_containers.specs.declared.containers.Seated.{Seated}
use Rattle.pfs_event.specs.declared.entry.Entry.{Entry}
use Rattle.pfs_event.specs.declared.entry.Entry.TheVariants as says
use Rattle.pfs_levels.specs.Moves.{Gift, Move, gift_entries, move_entries, moves_entries}
use Rattle.pfs_levels.specs.declared.answers.Word.{Word}
use Rattle.pfs_model.specs.EntryAsks.{fits, is_move, is_sign, is_set}
use Rattle.pfs_model.specs.Contexts.{Context, noted, after_entries}
use Rattle.pfs_model.specs.Cuts.{cut, behind}
use Rattle.pfs_model.specs.Shapes.{changes, many, one}
use Rattle.pfs_model.specs.declared.lines.Subject.{Subject}
use Rattle.pfs_model.specs.declared.shapes.Ask.{Ask}
use Rattle.pfs_model.specs.declared.shapes.Ask.TheVariants as asks
use Rattle.pfs_model.specs.declared.shapes.Item.{Item}
use Rattle.pfs_session.specs.Turns.{reply_entry}
use Rattle.pfs_law_session.proofs.ShapeCuts.{cut_nothing, cut_one}
use Rattle.pfs_law_session.proofs.LinePieces.{is_plain}
use Rattle.pfs_law_session.proofs.SettlementEntries.{ArePlain, Kept}

-- all entries pass a test, or none does
abbrev pub AreAll : Bool → (Entry → Bool) → List Entry → Type 0
AreAll b test [] = Unit {0}
AreAll b test (e ∷ es) = (test e ≡ b) × AreAll b test es

pub all_then : (b : Bool) (test : Entry → Bool) (es fs : List Entry) → AreAll b test es → AreAll b test fs → AreAll b test (es ++ fs)
all_then b test [] fs p q = q
all_then b test (e ∷ es) fs p q = (p.0, all_then b test es fs p.1 q)

behind_all : (ask : Ask) (es fs : List Entry) → AreAll true (fits ask) es → AreAll false (fits ask) fs → behind ask (es ++ fs) ≡ fs
unfolding behind
behind_all ask [] [] p q = refl
behind_all ask [] (f ∷ fs) p q = ap (λ b. if b then behind ask fs else f ∷ fs) q.0
behind_all ask (e ∷ es) fs p q = ap (λ b. if b then behind ask (es ++ fs) else e ∷ (es ++ fs)) p.0 ∙ behind_all ask es fs p.1 q

pub cut_many : (ask : Ask) (items : List Item) (es fs : List Entry) → AreAll true (fits ask) es → AreAll false (fits ask) fs → cut (many ask ∷ items) (es ++ fs) ≡ cut items fs
unfolding cut
cut_many ask items es fs p q = ap (cut items) (behind_all ask es fs p q)

-- entries of three kinds, one kind behind another
pub cut_changes : (ms ss fs : List Entry) → AreAll true is_move ms → AreAll true is_sign ss → AreAll false is_move ss → AreAll true is_set fs → AreAll false is_move fs
    → AreAll false is_sign fs → cut changes (ms ++ (ss ++ fs)) ≡ Ok []
cut_changes ms ss fs m s s2 f f2 f3 =
    cut_many asks.Move _ ms (ss ++ fs) m (all_then false is_move ss fs s2 f2)
    ∙ (cut_many asks.Sign _ ss fs s f3 ∙ (ap (cut (many asks.Set ∷ [])) (sym (append-nil fs)) ∙ (cut_many asks.Set [] fs [] f tt ∙ cut_nothing [])))

-- the entries of moves, signs and sets
gifts_move : (from : ℕ) (gs : List Gift) → AreAll true is_move (gift_entries from gs)
gifts_move from [] = tt
gifts_move from (g ∷ gs) = (refl, gifts_move from gs)

pub moves_move : (ms : List Move) → AreAll true is_move (moves_entries ms)
moves_move [] = tt
moves_move (m ∷ ms) = all_then true is_move (moves_entries ms) (move_entries m) (moves_move ms) (refl, gifts_move m.from m.gifts)

sign_is : (m : Made) → (is_sign (sign_entry m.sign m.version) ≡ true) × (is_move (sign_entry m.sign m.version) ≡ false) × (is_plain (sign_entry m.sign m.version) ≡ true)
sign_is m = by_sign m.sign where
  by_sign : (sign : Sign) → (is_sign (sign_entry sign m.version) ≡ true) × (is_move (sign_entry sign m.version) ≡ false) × (is_plain (sign_entry sign m.version) ≡ true)
  by_sign (Releases row) = (refl, refl, refl)
  by_sign (Tags row content) = (refl, refl, refl)

pub signs_sign : (ms : List Made) → AreAll true is_sign (signs_entries ms)
signs_sign [] = tt
signs_sign (m ∷ ms) = all_then true is_sign (signs_entries ms) (made_entries m) (signs_sign ms) ((sign_is m).0, tt)

pub signs_no_move : (ms : List Made) → AreAll false is_move (signs_entries ms)
signs_no_move [] = tt
signs_no_move (m ∷ ms) = all_then false is_move (signs_entries ms) (made_entries m) (signs_no_move ms) ((sign_is m).1, tt)

pub sets_set : (words : List Word) (fs : List Flagging) → AreAll true is_set (flagging_entries words fs)
sets_set words [] = tt
sets_set words (f ∷ fs) = (refl, sets_set words fs)

pub sets_no_move : (words : List Word) (fs : List Flagging) → AreAll false is_move (flagging_entries words fs)
sets_no_move words [] = tt
sets_no_move words (f ∷ fs) = (refl, sets_no_move words fs)

pub sets_no_sign : (words : List Word) (fs : List Flagging) → AreAll false is_sign (flagging_entries words fs)
sets_no_sign words [] = tt
sets_no_sign words (f ∷ fs) = (refl, sets_no_sign words fs)

-- the entries of an action behind its head
pub work_shaped : (moves : List Move) (made : List Made) (words : List Word) (fs : List Flagging)
    → cut changes (moves_entries moves ++ (signs_entries made ++ flagging_entries words fs)) ≡ Ok []
work_shaped moves made words fs =
    cut_changes (moves_entries moves) (signs_entries made) (flagging_entries words fs) (moves_move moves) (signs_sign made) (signs_no_move made)
    (sets_set words fs) (sets_no_move words fs) (sets_no_sign words fs)

-- entries that leave what a journal tells of slot, open events, held rows and numbers
abbrev pub is_quiet : Entry → Bool
is_quiet (says.Take _ _) = true
is_quiet (says.Give _ _ _) = true
is_quiet (says.Tag _ _) = true
is_quiet (says.Free _ _) = true
is_quiet (says.Set _ _ _) = true
is_quiet (says.Act _) = true
is_quiet (says.Reply _) = true
is_quiet (says.Error _) = true
is_quiet says.Query = true
is_quiet (says.Rows _) = true
is_quiet (says.Seen _ _) = true
is_quiet (says.Vacant _) = true
is_quiet (says.Busy _ _ _) = true
is_quiet (says.Saw _ _) = true
is_quiet _ = false

-- an entry that closes an action, and is none of its changes
pub record IsLast (ask : Ask) (entry : Entry) : Type 0 where
  pub is_asked : fits ask entry ≡ true
  pub no_move : is_move entry ≡ false
  pub no_sign : is_sign entry ≡ false
  pub no_set : is_set entry ≡ false
  pub quiet : is_quiet entry ≡ true

pub reply_last : (reply : Reply) → IsLast asks.Answer (reply_entry reply)
reply_last (replies.Changed count) = record { is_asked = refl; no_move = refl; no_sign = refl; no_set = refl; quiet = refl }
reply_last (replies.Error error) = record { is_asked = refl; no_move = refl; no_sign = refl; no_set = refl; quiet = refl }

pub rows_last : (count : ℕ) → IsLast asks.Rows (says.Rows count)
rows_last count = record { is_asked = refl; no_move = refl; no_sign = refl; no_set = refl; quiet = refl }

-- and in front of the entry that closes it
pub answered_shaped : (moves : List Move) (made : List Made) (words : List Word) (fs : List Flagging) (ask : Ask) (entry : Entry) → IsLast ask entry
    → cut (changes ++ one ask ∷ []) (moves_entries moves ++ (signs_entries made ++ (flagging_entries words fs ++ entry ∷ []))) ≡ Ok []
answered_shaped moves made words fs ask entry last =
    let answer : List Entry = entry ∷ [] in
    let sets : List Entry = flagging_entries words fs in
    cut_many asks.Move _ (moves_entries moves) (signs_entries made ++ (sets ++ answer)) (moves_move moves)
    (all_then false is_move (signs_entries made) (sets ++ answer) (signs_no_move made) (all_then false is_move sets answer (sets_no_move words fs) (last.no_move, tt)))
    ∙ (cut_many asks.Sign _ (signs_entries made) (sets ++ answer) (signs_sign made) (all_then false is_sign sets answer (sets_no_sign words fs) (last.no_sign, tt))
    ∙ (cut_many asks.Set (one ask ∷ []) sets answer (sets_set words fs) (last.no_set, tt)
    ∙ (cut_one ask [] entry [] last.is_asked ∙ cut_nothing [])))

quiet_plain : (e : Entry) → is_quiet e ≡ true → is_plain e ≡ true
quiet_plain (says.Take _ _) q = refl
quiet_plain (says.Give _ _ _) q = refl
quiet_plain (says.Tag _ _) q = refl
quiet_plain (says.Free _ _) q = refl
quiet_plain (says.Set _ _ _) q = refl
quiet_plain (says.Act _) q = refl
quiet_plain (says.Reply _) q = refl
quiet_plain (says.Error _) q = refl
quiet_plain says.Query q = refl
quiet_plain (says.Rows _) q = refl
quiet_plain (says.Seen _ _) q = refl
quiet_plain (says.Vacant _) q = refl
quiet_plain (says.Busy _ _ _) q = refl
quiet_plain (says.Saw _ _) q = refl
quiet_plain _ q = absurd (false≢true q)

pub quiet_plains : (es : List Entry) → AreAll true is_quiet es → ArePlain es
quiet_plains [] q = tt
quiet_plains (e ∷ es) q = (quiet_plain e q.0, quiet_plains es q.1)

same_context : (context : Context) → Kept context context
same_context context = record { untouched = record { slot = refl; opened = refl; drawn = refl }; held = refl }

quiet_noted : (subject : Option Subject) (context : Context) (e : Entry) → is_quiet e ≡ true → Kept context (noted subject context e)
quiet_noted None context (says.Take row version) q = record { untouched = record { slot = refl; opened = refl; drawn = refl }; held = refl }
quiet_noted None context (says.Give row version from) q = same_context context
quiet_noted None context (says.Tag row version) q = same_context context
quiet_noted None context (says.Free row version) q = same_context context
quiet_noted None context (says.Set word version flags) q = same_context context
quiet_noted None context (says.Act action) q = record { untouched = record { slot = refl; opened = refl; drawn = refl }; held = refl }
quiet_noted None context (says.Reply number) q = record { untouched = record { slot = refl; opened = refl; drawn = refl }; held = refl }
quiet_noted None context (says.Error number) q = same_context context
quiet_noted None context says.Query q = same_context context
quiet_noted None context (says.Rows count) q = same_context context
quiet_noted None context (says.Seen row version) q = same_context context
quiet_noted None context (says.Vacant row) q = same_context context
quiet_noted None context (says.Busy row first second) q = same_context context
quiet_noted None context (says.Saw word version) q = same_context context
quiet_noted None context _ q = absurd (false≢true q)
quiet_noted (Some subject) context (says.Take row version) q = record { untouched = record { slot = refl; opened = refl; drawn = refl }; held = refl }
quiet_noted (Some subject) context (says.Give row version from) q = same_context context
quiet_noted (Some subject) context (says.Tag row version) q = same_context context
quiet_noted (Some subject) context (says.Free row version) q = same_context context
quiet_noted (Some subject) context (says.Set word version flags) q = same_context context
quiet_noted (Some subject) context (says.Act action) q = record { untouched = record { slot = refl; opened = refl; drawn = refl }; held = refl }
quiet_noted (Some subject) context (says.Reply number) q = record { untouched = record { slot = refl; opened = refl; drawn = refl }; held = refl }
quiet_noted (Some subject) context (says.Error number) q = same_context context
quiet_noted (Some subject) context says.Query q = same_context context
quiet_noted (Some subject) context (says.Rows count) q = same_context context
quiet_noted (Some subject) context (says.Seen row version) q = same_context context
quiet_noted (Some subject) context (says.Vacant row) q = same_context context
quiet_noted (Some subject) context (says.Busy row first second) q = same_context context
quiet_noted (Some subject) context (says.Saw word version) q = same_context context
quiet_noted (Some subject) context _ q = absurd (false≢true q)

pub kept_then : (a b c : Context) → Kept a b → Kept b c → Kept a c
kept_then a b c p q = record {
  untouched = record { slot = q.untouched.slot ∙ p.untouched.slot; opened = q.untouched.opened ∙ p.untouched.opened; drawn = q.untouched.drawn ∙ p.untouched.drawn };
  held = q.held ∙ p.held;
}

pub quiet_context : (subject : Option Subject) (context : Context) (es : List Entry) → AreAll true is_quiet es → Kept context (after_entries subject context es)
quiet_context subject context [] q = same_context context
quiet_context subject context (e ∷ es) q =
    kept_then _ _ _ (quiet_noted subject context e q.0) (quiet_context subject (noted subject context e) es q.1)

gifts_quiet : (from : ℕ) (gs : List Gift) → AreAll true is_quiet (gift_entries from gs)
gifts_quiet from [] = tt
gifts_quiet from (g ∷ gs) = (refl, gifts_quiet from gs)

moves_quiet : (ms : List Move) → AreAll true is_quiet (moves_entries ms)
moves_quiet [] = tt
moves_quiet (m ∷ ms) = all_then true is_quiet (moves_entries ms) (move_entries m) (moves_quiet ms) (refl, gifts_quiet m.from m.gifts)

sign_quiet : (sign : Sign) (version : ℕ) → is_quiet (sign_entry sign version) ≡ true
sign_quiet (Releases row) version = refl
sign_quiet (Tags row content) version = refl

signs_quiet : (ms : List Made) → AreAll true is_quiet (signs_entries ms)
signs_quiet [] = tt
signs_quiet (m ∷ ms) = all_then true is_quiet (signs_entries ms) (made_entries m) (signs_quiet ms) (sign_quiet m.sign m.version, tt)

sets_quiet : (words : List Word) (fs : List Flagging) → AreAll true is_quiet (flagging_entries words fs)
sets_quiet words [] = tt
sets_quiet words (f ∷ fs) = (refl, sets_quiet words fs)

pub work_quiet : (moves : List Move) (made : List Made) (words : List Word) (fs : List Flagging)
    → AreAll true is_quiet (moves_entries moves ++ (signs_entries made ++ flagging_entries words fs))
work_quiet moves made words fs =
    all_then true is_quiet _ _ (moves_quiet moves) (all_then true is_quiet _ _ (signs_quiet made) (sets_quiet words fs))

-- the journal's context behind the entry of a connect
pub record ConnectedAt (context behind : Context) (thread : Option ℕ) : Type 0 where
  pub slot : behind.slot ≡ thread
  pub opened : behind.opened ≡ context.opened
  pub held : behind.held ≡ context.held
  pub drawn : behind.drawn ≡ context.drawn

pub connected_context : (context : Context) (action : ℕ) (seat : Option Seated) → ConnectedAt context (noted None context (connect_entry action seat)) (placed_of seat).thread
connected_context context action None = record { slot = refl; opened = refl; held = refl; drawn = refl }
connected_context context action (Some seat) = record { slot = refl; opened = refl; held = refl; drawn = refl }

pub connect_fits : (action : ℕ) (seat : Option Seated) → fits asks.Connect (connect_entry action seat) ≡ true
connect_fits action None = refl
connect_fits action (Some seat) = refl

pub connect_plain : (action : ℕ) (seat : Option Seated) → is_plain (connect_entry action seat) ≡ true
connect_plain action None = refl
connect_plain action (Some seat) = refl
