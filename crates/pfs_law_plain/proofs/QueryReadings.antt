-- What the readings of a query show, and what stands at its line.
use Rattle.std.proofs.Common.{ℕ, ◌≡◌, List, [], ◌∷◌, ◌++◌, map, ap, sym, ◌∙◌, subst}
use Rattle.std.specs.Prelude.{All}
use Rattle.std.proofs.lemmas.List.Elements.{All-nil, All-cons}
use Rattle.pfs_classes.specs.declared.setting.Setting.{Setting}
use Rattle.pfs_event.specs.declared.entry.Entry.TheVariants as says
use Rattle.pfs_exec.specs.declared.query.Select.{Select}
use Rattle.pfs_law_plain.specs.ToldAnswers.{AnswersQuery}
use Rattle.pfs_levels.specs.Calls.{Call}
use Rattle.pfs_levels.specs.JointCalls.{AllAgree, At, flags_at}
use Rattle.pfs_levels.specs.JointCalls.{Setting as Switching}
use Rattle.pfs_model.specs.Chains.{Each}
use Rattle.pfs_law_session.proofs.Inquiries.{Front, front_of, inquired_at, told, asked_by, asked_steps, asked_entries}
use Rattle.pfs_law_session.specs.Deeds.{Querying, steps_for}
use Rattle.pfs_rows.specs.declared.table.Reading.{Reading}
use Rattle.pfs_rows.specs.declared.table.Reading.TheVariants as readings
use Rattle.pfs_rows.specs.declared.table.Seen.TheVariants.{Whole, Free, Busy}
use Rattle.pfs_runs.specs.SelectAnswers.{Answer, IsShown, IsQueried}
use Rattle.pfs_session.specs.Inquiries.{Inquiry, Looks, Remarks, inquiry_calls, reading_entry}
use Rattle.pfs_session.specs.SessionStates.{State}
use Rattle.pfs_session.specs.Turns.{Inquires, Inquired, Turn, AreTurns, state_after, steps_of, turns_calls, turns_entries}
use Rattle.pfs_session.specs.declared.remarks.Remark.TheVariants as remarks

-- what all calls of a store make of its rows and words: contents, changes and sets
pub record Made : Type 0 where
  pub content : ℕ → ℕ → List ℕ
  pub log : List At
  pub sets : List Switching

-- some calls found that
abbrev pub Finds : List ℕ → Made → List Call → Type 0
Finds opening all calls = AllAgree opening all.content all.log all.sets calls

pub finds_front : (opening : List ℕ) (all : Made) (xs ys : List Call) → Finds opening all (xs ++ ys) → Finds opening all xs
finds_front opening all [] ys f = tt
finds_front opening all (x ∷ xs) ys f = (f.0, finds_front opening all xs ys f.1)

pub finds_back : (opening : List ℕ) (all : Made) (xs ys : List Call) → Finds opening all (xs ++ ys) → Finds opening all ys
finds_back opening all [] ys f = f
finds_back opening all (x ∷ xs) ys f = finds_back opening all xs ys f.1

-- the flags that all sets of the store's words make, by whatever else says them
abbrev pub SameFlags : List ℕ → Made → (ℕ → ℕ → ℕ) → Type 0
SameFlags opening all flags = (at k : ℕ) → flags_at opening all.sets at k ≡ flags at k

-- an inquiry that reads shows what stands there
abbrev LooksShown : (ℕ → ℕ → List ℕ) → (ℕ → ℕ → ℕ) → Inquiry → Type 0
LooksShown content flags (Looks reading) = IsShown content flags reading
LooksShown content flags (Remarks what) = Unit {0}

inquiry_shown : (opening : List ℕ) (all : Made) (flags : ℕ → ℕ → ℕ) (what : Inquiry) → SameFlags opening all flags → Finds opening all (inquiry_calls what)
    → LooksShown all.content flags what
inquiry_shown opening all flags (Looks (readings.Slot row (Whole version words))) same f = f.0.0
inquiry_shown opening all flags (Looks (readings.Slot row (Free word))) same f = tt
inquiry_shown opening all flags (Looks (readings.Slot row (Busy first second))) same f = tt
inquiry_shown opening all flags (Looks (readings.Word word version value)) same f = f.0.0 ∙ same word version
inquiry_shown opening all flags (Remarks what) same f = tt

-- each of some, and one more
each_last : {A : Type 0} (P : A → Type 0) (xs : List A) (x : A) → Each P xs → P x → Each P (xs ++ x ∷ [])
each_last P [] x all one = (one, tt)
each_last P (y ∷ ys) x all one = (all.0, each_last P ys x all.1 one)

no_asked : (P : Inquiry → Type 0) (asked : List Inquiry) → [] ≡ map Inquires asked → Each P asked
no_asked P [] e = tt
no_asked P (i ∷ is) e = absurd (cc)

looks_shown : (opening : List ℕ) (all : Made) (flags : ℕ → ℕ → ℕ) (s : State) (asked : List Inquiry) (turns : List Turn) → SameFlags opening all flags → AreTurns s turns
    → steps_of turns ≡ map Inquires asked → Finds opening all (turns_calls turns) → Each (LooksShown all.content flags) asked
looks_shown opening all flags s asked [] same are e f = no_asked (LooksShown all.content flags) asked e
looks_shown opening all flags s asked (t ∷ ts) same are e f =
    let P : Inquiry → Type 0 = LooksShown all.content flags in
    let o : Front asked (steps_of ts) t.step = front_of asked (steps_of ts) t.step e in
    let before : Each P o.front = looks_shown opening all flags s o.front ts same are.1 o.steps_are (finds_back opening all t.calls (turns_calls ts) f) in
    let d : Inquired (state_after s ts) o.last t.calls t.entries t.after = inquired_at (state_after s ts) t.step o.last t o.step_is are.0 in
    let own : Finds opening all (inquiry_calls o.last) = subst (Finds opening all) d.calls_are (finds_front opening all t.calls (turns_calls ts) f) in
    let last : P o.last = inquiry_shown opening all flags o.last same own in
    subst (Each P) (sym o.is) (each_last P o.front o.last before last)

readings_shown : (content : ℕ → ℕ → List ℕ) (flags : ℕ → ℕ → ℕ) (rs : List Reading) (count : ℕ) → Each (LooksShown content flags) (map Looks rs ++ Remarks (remarks.Rows count) ∷ [])
    → All (IsShown content flags) rs
readings_shown content flags [] count each = All-nil (IsShown content flags)
readings_shown content flags (r ∷ rs) count each = All-cons (IsShown content flags) r rs each.0 (readings_shown content flags rs count each.1)

-- a query that its session answers by what it was told, its journal answers by what stands in the store
pub queried : (setting : Setting) (opening : List ℕ) (all : Made) (flags : ℕ → ℕ → ℕ) (s : State) (select : Select) (rs : List Reading) (count : ℕ) (turns : List Turn) (answer : Answer)
    → SameFlags opening all flags → AreTurns s turns → steps_of turns ≡ steps_for s (Querying rs count) → Finds opening all (turns_calls turns)
    → AnswersQuery setting select rs count answer → IsQueried setting all.content flags select (turns_entries turns) answer
queried setting opening all flags s select rs count turns answer same are steps f a =
    let e : steps_of turns ≡ map Inquires (asked_by rs count) = steps ∙ asked_steps rs count in
    let each = looks_shown opening all flags s (asked_by rs count) turns same are e f in
    record {
      readings = rs;
      whole = a.whole;
      shown = readings_shown all.content flags rs count each.1;
      told = (told s (asked_by rs count) turns are e).entries_are
          ∙ (asked_entries rs count ∙ ap (λ n. says.Query ∷ (map reading_entry rs ++ says.Rows n ∷ [])) a.counted);
      answered = a.answered;
    }
