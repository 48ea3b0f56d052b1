-- What notes name of rows and words is what entries name; and notes that fit those before them, one after another.
use Rattle.std.proofs.Common.{ℕ, ◌≡◌, ◌/◌, List, [], ◌∷◌, ◌++◌, refl, ap, sym, ◌∙◌}
use Rattle.pfs_model.specs.Chains.{change_at}
use Rattle.pfs_model.specs.declared.changes.Change.{Change}
use Rattle.pfs_session.specs.Turns.{Step, StartsEvent, EndsEvent, Spends, SettlesHeld, Connects, Quits, Truncates, Changes, Inquires, Turn, turns_calls}
use Rattle.pfs_law_plain.proofs.InnerEntries.{told_then}
use Rattle.pfs_law_plain.specs.Notes.{Note, Wrote, Freed, Found, Vacant, Refused, Overdue, Switched, Saw, Acted, all_told}
use Rattle.pfs_law_plain.specs.SessionNotes.{head_of, turns_notes}

-- the rows and the words that a note names, at their versions
abbrev pub rows_in : Note → List Change
rows_in (Wrote row version) = change_at row version ∷ []
rows_in (Freed row version) = change_at row version ∷ []
rows_in (Found row version) = change_at row version ∷ []
rows_in (Refused row first second) = change_at row (first / 4) ∷ change_at row (second / 4) ∷ []
rows_in (Vacant row) = []
rows_in (Overdue row ticket) = []
rows_in (Switched word version flags) = []
rows_in (Saw word version) = []
rows_in (Acted number) = []

abbrev pub words_in : Note → List Change
words_in (Saw word version) = change_at word version ∷ []
words_in (Switched word version flags) = change_at word version ∷ []
words_in (Wrote row version) = []
words_in (Freed row version) = []
words_in (Found row version) = []
words_in (Refused row first second) = []
words_in (Vacant row) = []
words_in (Overdue row ticket) = []
words_in (Acted number) = []

-- those of notes one after another, the newest first
abbrev pub onto_rows : List Note → List Change → List Change
onto_rows [] rows = rows
onto_rows (n ∷ ns) rows = onto_rows ns (rows_in n ++ rows)

abbrev pub onto_words : List Note → List Change → List Change
onto_words [] words = words
onto_words (n ∷ ns) words = onto_words ns (words_in n ++ words)

pub onto_rows_then : (xs ys : List Note) (rows : List Change) → onto_rows (xs ++ ys) rows ≡ onto_rows ys (onto_rows xs rows)
onto_rows_then [] ys rows = refl
onto_rows_then (x ∷ xs) ys rows = onto_rows_then xs ys (rows_in x ++ rows)

pub onto_words_then : (xs ys : List Note) (words : List Change) → onto_words (xs ++ ys) words ≡ onto_words ys (onto_words xs words)
onto_words_then [] ys words = refl
onto_words_then (x ∷ xs) ys words = onto_words_then xs ys (words_in x ++ words)

-- all but the numbers of actions
abbrev pub unacted : List Note → List Note
unacted [] = []
unacted (Acted number ∷ ns) = unacted ns
unacted (Wrote row version ∷ ns) = Wrote row version ∷ unacted ns
unacted (Freed row version ∷ ns) = Freed row version ∷ unacted ns
unacted (Found row version ∷ ns) = Found row version ∷ unacted ns
unacted (Vacant row ∷ ns) = Vacant row ∷ unacted ns
unacted (Refused row first second ∷ ns) = Refused row first second ∷ unacted ns
unacted (Overdue row ticket ∷ ns) = Overdue row ticket ∷ unacted ns
unacted (Switched word version flags ∷ ns) = Switched word version flags ∷ unacted ns
unacted (Saw word version ∷ ns) = Saw word version ∷ unacted ns

unacted_then : (xs ys : List Note) → unacted (xs ++ ys) ≡ unacted xs ++ unacted ys
unacted_then [] ys = refl
unacted_then (Acted number ∷ xs) ys = unacted_then xs ys
unacted_then (Wrote row version ∷ xs) ys = ap (λ z. Wrote row version ∷ z) (unacted_then xs ys)
unacted_then (Freed row version ∷ xs) ys = ap (λ z. Freed row version ∷ z) (unacted_then xs ys)
unacted_then (Found row version ∷ xs) ys = ap (λ z. Found row version ∷ z) (unacted_then xs ys)
unacted_then (Vacant row ∷ xs) ys = ap (λ z. Vacant row ∷ z) (unacted_then xs ys)
unacted_then (Refused row first second ∷ xs) ys = ap (λ z. Refused row first second ∷ z) (unacted_then xs ys)
unacted_then (Overdue row ticket ∷ xs) ys = ap (λ z. Overdue row ticket ∷ z) (unacted_then xs ys)
unacted_then (Switched word version flags ∷ xs) ys = ap (λ z. Switched word version flags ∷ z) (unacted_then xs ys)
unacted_then (Saw word version ∷ xs) ys = ap (λ z. Saw word version ∷ z) (unacted_then xs ys)

-- so a line's steps tell just what its calls tell
head_unacted : (step : Step) → unacted (head_of step) ≡ []
head_unacted (Connects admin user host) = refl
head_unacted (Quits admin) = refl
head_unacted (Truncates admin what) = refl
head_unacted (Changes admin what) = refl
head_unacted (Inquires what) = refl
head_unacted (StartsEvent subject) = refl
head_unacted (EndsEvent numbers) = refl
head_unacted (Spends time) = refl
head_unacted SettlesHeld = refl

pub turns_unacted : (turns : List Turn) → unacted (turns_notes turns) ≡ unacted (all_told (turns_calls turns))
unfolding all_told
turns_unacted [] = refl
turns_unacted (t ∷ ts) =
    unacted_then (turns_notes ts) (head_of t.step ++ all_told t.calls)
    ∙ (ap (λ z. z ++ unacted (head_of t.step ++ all_told t.calls)) (turns_unacted ts)
    ∙ (ap (λ z. unacted (all_told (turns_calls ts)) ++ z) (unacted_then (head_of t.step) (all_told t.calls) ∙ ap (λ z. z ++ unacted (all_told t.calls)) (head_unacted t.step))
    ∙ (sym (unacted_then (all_told (turns_calls ts)) (all_told t.calls)) ∙ ap unacted (sym (told_then t.calls (turns_calls ts))))))

-- a fact of each note, by the rows and words that stand named before it
module _ (Fits : List Change → List Change → Note → Type 0) where
  abbrev pub AllFit : List Change → List Change → List Note → Type 0
  AllFit rows words [] = Unit {0}
  AllFit rows words (n ∷ ns) = Fits rows words n × AllFit (rows_in n ++ rows) (words_in n ++ words) ns

  pub fit_then : (rows words : List Change) (xs ys : List Note) → AllFit rows words xs → AllFit (onto_rows xs rows) (onto_words xs words) ys → AllFit rows words (xs ++ ys)
  fit_then rows words [] ys a b = b
  fit_then rows words (x ∷ xs) ys a b = (a.0, fit_then (rows_in x ++ rows) (words_in x ++ words) xs ys a.1 b)

  pub fit_front : (rows words : List Change) (xs ys : List Note) → AllFit rows words (xs ++ ys) → AllFit rows words xs
  fit_front rows words [] ys a = tt
  fit_front rows words (x ∷ xs) ys a = (a.0, fit_front (rows_in x ++ rows) (words_in x ++ words) xs ys a.1)

  pub fit_back : (rows words : List Change) (xs ys : List Note) → AllFit rows words (xs ++ ys) → AllFit (onto_rows xs rows) (onto_words xs words) ys
  fit_back rows words [] ys a = a
  fit_back rows words (x ∷ xs) ys a = fit_back (rows_in x ++ rows) (words_in x ++ words) xs ys a.1

  -- where a number of an action always fits
  pub fit_acted : ((rows words : List Change) (number : ℕ) → Fits rows words (Acted number)) → (rows words : List Change) (ns : List Note) → AllFit rows words (unacted ns) → AllFit rows words ns
  fit_acted acted rows words [] a = tt
  fit_acted acted rows words (Acted number ∷ ns) a = (acted rows words number, fit_acted acted rows words ns a)
  fit_acted acted rows words (Wrote row version ∷ ns) a = (a.0, fit_acted acted (change_at row version ∷ rows) words ns a.1)
  fit_acted acted rows words (Freed row version ∷ ns) a = (a.0, fit_acted acted (change_at row version ∷ rows) words ns a.1)
  fit_acted acted rows words (Found row version ∷ ns) a = (a.0, fit_acted acted (change_at row version ∷ rows) words ns a.1)
  fit_acted acted rows words (Vacant row ∷ ns) a = (a.0, fit_acted acted rows words ns a.1)
  fit_acted acted rows words (Refused row first second ∷ ns) a = (a.0, fit_acted acted (change_at row (first / 4) ∷ change_at row (second / 4) ∷ rows) words ns a.1)
  fit_acted acted rows words (Overdue row ticket ∷ ns) a = (a.0, fit_acted acted rows words ns a.1)
  fit_acted acted rows words (Switched word version flags ∷ ns) a = (a.0, fit_acted acted rows (change_at word version ∷ words) ns a.1)
  fit_acted acted rows words (Saw word version ∷ ns) a = (a.0, fit_acted acted rows (change_at word version ∷ words) ns a.1)

  pub fit_unacted : (rows words : List Change) (ns : List Note) → AllFit rows words ns → AllFit rows words (unacted ns)
  fit_unacted rows words [] a = tt
  fit_unacted rows words (Acted number ∷ ns) a = fit_unacted rows words ns a.1
  fit_unacted rows words (Wrote row version ∷ ns) a = (a.0, fit_unacted (change_at row version ∷ rows) words ns a.1)
  fit_unacted rows words (Freed row version ∷ ns) a = (a.0, fit_unacted (change_at row version ∷ rows) words ns a.1)
  fit_unacted rows words (Found row version ∷ ns) a = (a.0, fit_unacted (change_at row version ∷ rows) words ns a.1)
  fit_unacted rows words (Vacant row ∷ ns) a = (a.0, fit_unacted rows words ns a.1)
  fit_unacted rows words (Refused row first second ∷ ns) a = (a.0, fit_unacted (change_at row (first / 4) ∷ change_at row (second / 4) ∷ rows) words ns a.1)
  fit_unacted rows words (Overdue row ticket ∷ ns) a = (a.0, fit_unacted rows words ns a.1)
  fit_unacted rows words (Switched word version flags ∷ ns) a = (a.0, fit_unacted rows (change_at word version ∷ words) ns a.1)
  fit_unacted rows words (Saw word version ∷ ns) a = (a.0, fit_unacted rows (change_at word version ∷ words) ns a.1)

-- the same rows and words are named whether or not numbers of actions stand between
pub rows_unacted : (ns : List Note) (rows : List Change) → onto_rows (unacted ns) rows ≡ onto_rows ns rows
rows_unacted [] rows = refl
rows_unacted (Acted number ∷ ns) rows = rows_unacted ns rows
rows_unacted (Wrote row version ∷ ns) rows = rows_unacted ns (change_at row version ∷ rows)
rows_unacted (Freed row version ∷ ns) rows = rows_unacted ns (change_at row version ∷ rows)
rows_unacted (Found row version ∷ ns) rows = rows_unacted ns (change_at row version ∷ rows)
rows_unacted (Vacant row ∷ ns) rows = rows_unacted ns rows
rows_unacted (Refused row first second ∷ ns) rows = rows_unacted ns (change_at row (first / 4) ∷ change_at row (second / 4) ∷ rows)
rows_unacted (Overdue row ticket ∷ ns) rows = rows_unacted ns rows
rows_unacted (Switched word version flags ∷ ns) rows = rows_unacted ns rows
rows_unacted (Saw word version ∷ ns) rows = rows_unacted ns rows

pub words_unacted : (ns : List Note) (words : List Change) → onto_words (unacted ns) words ≡ onto_words ns words
words_unacted [] words = refl
words_unacted (Acted number ∷ ns) words = words_unacted ns words
words_unacted (Wrote row version ∷ ns) words = words_unacted ns words
words_unacted (Freed row version ∷ ns) words = words_unacted ns words
words_unacted (Found row version ∷ ns) words = words_unacted ns words
words_unacted (Vacant row ∷ ns) words = words_unacted ns words
words_unacted (Refused row first second ∷ ns) words = words_unacted ns words
words_unacted (Overdue row ticket ∷ ns) words = words_unacted ns words
words_unacted (Switched word version flags ∷ ns) words = words_unacted ns (change_at word version ∷ words)
words_unacted (Saw word version ∷ ns) words = words_unacted ns (change_at word version ∷ words)
