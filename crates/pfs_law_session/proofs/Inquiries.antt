-- What inquiries write, which change nothing of their session.
use Rattle.std.proofs.Common.{ℕ, ◌≡◌, true, List, [], ◌∷◌, ◌++◌, map, refl, ap, sym, ◌∙◌, subst}
use Rattle.std.specs.Prelude.{Ok}
use Rattle.std.proofs.lemmas.List.{map-append}
use Rattle.pfs_event.specs.declared.entry.Entry.{Entry}
use Rattle.pfs_event.specs.declared.entry.Entry.TheVariants as says
use Rattle.pfs_model.specs.EntryAsks.{is_reading}
use Rattle.pfs_model.specs.Cuts.{cut}
use Rattle.pfs_model.specs.Shapes.{many, one}
use Rattle.pfs_model.specs.declared.shapes.Ask.TheVariants as asks
use Rattle.pfs_rows.specs.declared.table.Reading.{Reading}
use Rattle.pfs_rows.specs.declared.table.Reading.TheVariants as readings
use Rattle.pfs_rows.specs.declared.table.Seen.{Seen}
use Rattle.pfs_rows.specs.declared.table.Seen.TheVariants as seen
use Rattle.pfs_session.specs.Inquiries.{Inquiry, Looks, Remarks, inquiry_entry, reading_entry, remark_entry, seen_entry}
use Rattle.pfs_session.specs.SessionStates.{State}
use Rattle.pfs_session.specs.Turns.{Step, Inquires, Does, Inquired, Turn, AreTurns, state_after, steps_of, turns_entries}
use Rattle.pfs_session.specs.declared.remarks.Remark.{Remark}
use Rattle.pfs_session.specs.declared.remarks.Remark.TheVariants as remarks
use Rattle.pfs_law_session.proofs.ActionShapes.{AreAll, cut_many, is_quiet}
use Rattle.pfs_law_session.proofs.ShapeCuts.{cut_nothing, cut_one}
use Rattle.pfs_law_session.proofs.FewTurns.{snoc_nil}
use Rattle.pfs_law_session.specs.Deeds.{looks, remark}

-- the last of steps that are all inquiries
pub record Front (asked : List Inquiry) (steps : List Step) (step : Step) : Type 0 where
  pub front : List Inquiry
  pub last : Inquiry
  pub is : asked ≡ front ++ last ∷ []
  pub steps_are : steps ≡ map Inquires front
  pub step_is : step ≡ Inquires last

pub front_of : (asked : List Inquiry) (steps : List Step) (step : Step) → steps ++ step ∷ [] ≡ map Inquires asked → Front asked steps step
front_of [] steps step e = absurd (snoc_nil steps step e)
front_of (i ∷ []) [] step e = record { front = []; last = i; is = refl; steps_are = refl; step_is = cc }
front_of (i ∷ j ∷ is) [] step e = absurd (cc)
front_of (i ∷ is) (x ∷ xs) step e =
    let head : x ≡ Inquires i = cc in
    let tail : (xs ++ step ∷ []) ≡ map Inquires is = cc in
    let f : Front is xs step = front_of is xs step tail in
    record {
      front = i ∷ f.front;
      last = f.last;
      is = ap (λ z. i ∷ z) f.is;
      steps_are = ap (λ z. z ∷ xs) head ∙ ap (λ z. Inquires i ∷ z) f.steps_are;
      step_is = f.step_is;
    }

-- turns that did these inquiries write their entries, and leave the session as it was
pub record Told (s : State) (asked : List Inquiry) (turns : List Turn) : Type 0 where
  pub entries_are : turns_entries turns ≡ map inquiry_entry asked
  pub after_is : state_after s turns ≡ s

none_asked : (asked : List Inquiry) → [] ≡ map Inquires asked → map inquiry_entry asked ≡ []
none_asked [] e = refl
none_asked (i ∷ is) e = absurd (cc)

pub inquired_at : (s : State) (step : Step) (what : Inquiry) (t : Turn) → step ≡ Inquires what → Does s step t.calls t.entries t.after → Inquired s what t.calls t.entries t.after
inquired_at s step what t e d = subst (λ z. Does s z t.calls t.entries t.after) e d

pub told : (s : State) (asked : List Inquiry) (turns : List Turn) → AreTurns s turns → steps_of turns ≡ map Inquires asked → Told s asked turns
told s asked [] are e = record { entries_are = sym (none_asked asked e); after_is = refl }
told s asked (t ∷ ts) are e =
    let f : Front asked (steps_of ts) t.step = front_of asked (steps_of ts) t.step e in
    let before : Told s f.front ts = told s f.front ts are.1 f.steps_are in
    let d : Inquired (state_after s ts) f.last t.calls t.entries t.after = inquired_at (state_after s ts) t.step f.last t f.step_is are.0 in
    record {
      entries_are = ap (λ z. z ++ t.entries) before.entries_are ∙ (ap (λ z. map inquiry_entry f.front ++ z) d.entries_are
          ∙ (sym (map-append inquiry_entry f.front (f.last ∷ [])) ∙ ap (map inquiry_entry) (sym f.is)));
      after_is = d.after_is ∙ before.after_is;
    }

-- the inquiries of a SELECT
abbrev pub asked_by : List Reading → ℕ → List Inquiry
asked_by rs count = Remarks remarks.Query ∷ (map Looks rs ++ Remarks (remarks.Rows count) ∷ [])

looks_then : (rs : List Reading) (count : ℕ) → looks rs ++ remark (remarks.Rows count) ∷ [] ≡ map Inquires (map Looks rs ++ Remarks (remarks.Rows count) ∷ [])
looks_then [] count = refl
looks_then (r ∷ rs) count = ap (λ z. Inquires (Looks r) ∷ z) (looks_then rs count)

pub asked_steps : (rs : List Reading) (count : ℕ) → remark remarks.Query ∷ (looks rs ++ remark (remarks.Rows count) ∷ []) ≡ map Inquires (asked_by rs count)
asked_steps rs count = ap (λ z. remark remarks.Query ∷ z) (looks_then rs count)

-- and what they write
abbrev pub answers_to : List Reading → ℕ → List Entry
answers_to rs count = says.Query ∷ (map reading_entry rs ++ says.Rows count ∷ [])

looks_entries : (rs : List Reading) (count : ℕ) → map inquiry_entry (map Looks rs ++ Remarks (remarks.Rows count) ∷ []) ≡ map reading_entry rs ++ says.Rows count ∷ []
looks_entries [] count = refl
looks_entries (r ∷ rs) count = ap (λ z. reading_entry r ∷ z) (looks_entries rs count)

pub asked_entries : (rs : List Reading) (count : ℕ) → map inquiry_entry (asked_by rs count) ≡ answers_to rs count
asked_entries rs count = ap (λ z. says.Query ∷ z) (looks_entries rs count)

-- a reading's entry is one, and quiet
record IsLook (entry : Entry) : Type 0 where
  pub is_look : is_reading entry ≡ true
  pub quiet : is_quiet entry ≡ true

seen_look : (row : ℕ) (found : Seen) → IsLook (seen_entry row found)
seen_look row (seen.Whole version content) = record { is_look = refl; quiet = refl }
seen_look row (seen.Free word) = record { is_look = refl; quiet = refl }
seen_look row (seen.Busy first second) = record { is_look = refl; quiet = refl }

reading_look : (r : Reading) → IsLook (reading_entry r)
reading_look (readings.Slot row found) = seen_look row found
reading_look (readings.Word word version flags) = record { is_look = refl; quiet = refl }

are_looks : (rs : List Reading) → AreAll true is_reading (map reading_entry rs)
are_looks [] = tt
are_looks (r ∷ rs) = ((reading_look r).is_look, are_looks rs)

remark_quiet : (what : Remark) → is_quiet (remark_entry what) ≡ true
remark_quiet remarks.Query = refl
remark_quiet (remarks.Rows count) = refl
remark_quiet (remarks.Refused error) = refl

asked_quiet : (what : Inquiry) → is_quiet (inquiry_entry what) ≡ true
asked_quiet (Looks reading) = (reading_look reading).quiet
asked_quiet (Remarks what) = remark_quiet what

pub all_quiet : (asked : List Inquiry) → AreAll true is_quiet (map inquiry_entry asked)
all_quiet [] = tt
all_quiet (i ∷ is) = (asked_quiet i, all_quiet is)

pub answers_quiet : (rs : List Reading) (count : ℕ) → AreAll true is_quiet (answers_to rs count)
answers_quiet rs count = subst (AreAll true is_quiet) (asked_entries rs count) (all_quiet (asked_by rs count))

pub answers_shaped : (rs : List Reading) (count : ℕ) → cut (one asks.Query ∷ many asks.Reading ∷ one asks.Rows ∷ []) (answers_to rs count) ≡ Ok []
answers_shaped rs count =
    cut_one asks.Query (many asks.Reading ∷ one asks.Rows ∷ []) says.Query (map reading_entry rs ++ says.Rows count ∷ []) refl
    ∙ (cut_many asks.Reading (one asks.Rows ∷ []) (map reading_entry rs) (says.Rows count ∷ []) (are_looks rs) (refl, tt)
    ∙ (cut_one asks.Rows [] (says.Rows count) [] refl ∙ cut_nothing []))
