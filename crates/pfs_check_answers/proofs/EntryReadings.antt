-- What entries tell of readings.
use Rattle.std.proofs.Common.{◌≡◌, refl, ℕ, suc, ◌==◌, Bool, true, false, ◌&&◌, ◌||◌, List, [], ◌∷◌, ◌++◌, length, map, take, sym, ◌∙◌, ap, ◌⊎◌, inl, inr}
use Rattle.std.specs.Prelude.{All}
use Rattle.std.specs.List.{list_any}
use Rattle.std.proofs.lemmas.List.Elements.{All-head, All-tail}
use Rattle.pfs_event.specs.declared.entry.Entry.{Entry}
use Rattle.pfs_event.specs.declared.entry.Entry.TheVariants as says
use Rattle.pfs_readsets.specs.ReadSets.{IsNext, IsReadSet, is_whole, shows_whole, target_of}
use Rattle.pfs_readsets.specs.TablePlaces.{Scope}
use Rattle.pfs_readsets.specs.declared.target.Target.{Target}
use Rattle.pfs_readsets.specs.declared.target.Target.TheVariants.{Row, Word}
use Rattle.pfs_rows.specs.declared.table.Reading.{Reading}
use Rattle.pfs_rows.specs.declared.table.Reading.TheVariants as readings
use Rattle.pfs_rows.specs.declared.table.Seen.TheVariants.{Whole, Free, Busy}
use Rattle.pfs_rows.specs.declared.table.Table.{Table}
use Rattle.pfs_runs.specs.SelectAnswers.{IsShown}
use Rattle.pfs_session.specs.Inquiries.{reading_entry}
use Rattle.pfs_check_answers.proofs.FreeWords.{told}
use Rattle.pfs_check_answers.proofs.ReadPrefixes.{same_set}

-- ---- readings of the same entries are of the same targets, and find the same rows whole

target_in : Entry → Target
target_in (says.Seen row version) = Row row
target_in (says.Vacant row) = Row row
target_in (says.Busy row first second) = Row row
target_in (says.Saw word version) = Word word
target_in _ = Row 0

whole_in : ℕ → Entry → Bool
whole_in row (says.Seen other version) = (other == row) && true
whole_in row _ = false

one_target : (r : Reading) → target_of r ≡ target_in (reading_entry r)
unfolding target_in
one_target (readings.Slot row (Whole version content)) = refl
one_target (readings.Slot row (Free word)) = refl
one_target (readings.Slot row (Busy first second)) = refl
one_target (readings.Word word version flags) = refl

and_off : (a : Bool) → (a && false) ≡ false
and_off true = refl
and_off false = refl

one_whole : (row : ℕ) (r : Reading) → shows_whole row r ≡ whole_in row (reading_entry r)
unfolding whole_in
one_whole row (readings.Slot other (Whole version content)) = refl
one_whole row (readings.Slot other (Free word)) = and_off (other == row)
one_whole row (readings.Slot other (Busy first second)) = and_off (other == row)
one_whole row (readings.Word word version flags) = refl

all_targets : (rs : List Reading) → map target_of rs ≡ map target_in (map reading_entry rs)
all_targets [] = refl
all_targets (r ∷ rs) = ap (λ z. z ∷ map target_of rs) (one_target r) ∙ ap (λ z. target_in (reading_entry r) ∷ z) (all_targets rs)

all_whole : (row : ℕ) (rs : List Reading) → is_whole rs row ≡ list_any (whole_in row) (map reading_entry rs)
all_whole row [] = refl
all_whole row (r ∷ rs) = ap (λ z. z || is_whole rs row) (one_whole row r) ∙ ap (λ z. whole_in row (reading_entry r) || z) (all_whole row rs)

module _ (scope : Scope) (table : Table) (xs ys : List Reading) (same : map reading_entry xs ≡ map reading_entry ys) where
  targets_same : map target_of xs ≡ map target_of ys
  targets_same = all_targets xs ∙ (ap (map target_in) same ∙ sym (all_targets ys))

  whole_same : (row : ℕ) → is_whole xs row ≡ is_whole ys row
  whole_same row = all_whole row xs ∙ (ap (list_any (whole_in row)) same ∙ sym (all_whole row ys))

  pub next_alike : (target : Target) → IsNext scope table xs target → IsNext scope table ys target
  next_alike target next = (next.0, sym (same_set scope table xs ys whole_same) ∙ (next.1 ∙ ap (λ z. z ++ target ∷ next.0) targets_same))

  pub set_alike : IsReadSet scope table xs → IsReadSet scope table ys
  set_alike whole = sym targets_same ∙ (whole ∙ same_set scope table xs ys whole_same)

-- ---- and, where they show what stood there, they are the same but for lock words of FREE rows

told_by : (ℕ → ℕ → List ℕ) → (ℕ → ℕ → ℕ) → Entry → Reading
told_by content flags (says.Seen row version) = readings.Slot row (Whole version (content row version))
told_by content flags (says.Vacant row) = readings.Slot row (Free 0)
told_by content flags (says.Busy row first second) = readings.Slot row (Busy first second)
told_by content flags (says.Saw word version) = readings.Word word version (flags word version)
told_by content flags _ = readings.Word 0 0 0

one_told : (content : ℕ → ℕ → List ℕ) (flags : ℕ → ℕ → ℕ) (r : Reading) → IsShown content flags r → told r ≡ told_by content flags (reading_entry r)
unfolding told_by
one_told content flags (readings.Slot row (Whole version words)) h = ap (λ z. readings.Slot row (Whole version z)) h
one_told content flags (readings.Slot row (Free word)) h = refl
one_told content flags (readings.Slot row (Busy first second)) h = refl
one_told content flags (readings.Word word version value) h = ap (readings.Word word version) h

all_told : (content : ℕ → ℕ → List ℕ) (flags : ℕ → ℕ → ℕ) (rs : List Reading) → All (IsShown content flags) rs → map told rs ≡ map (told_by content flags) (map reading_entry rs)
all_told content flags [] all = refl
all_told content flags (r ∷ rs) all =
    ap (λ z. z ∷ map told rs) (one_told content flags r (All-head (IsShown content flags) r rs all))
    ∙ ap (λ z. told_by content flags (reading_entry r) ∷ z) (all_told content flags rs (All-tail (IsShown content flags) r rs all))

pub told_same : (content : ℕ → ℕ → List ℕ) (flags : ℕ → ℕ → ℕ) (xs ys : List Reading) → map reading_entry xs ≡ map reading_entry ys
    → All (IsShown content flags) xs → All (IsShown content flags) ys → map told xs ≡ map told ys
told_same content flags xs ys same all every = all_told content flags xs all ∙ (ap (map (told_by content flags)) same ∙ sym (all_told content flags ys every))

-- ---- how far entries are those of readings and of one more at last

-- the readings go on with this entry, or they end there and this is the one behind them
pub record GoesOn (rs xs : List Reading) (entry : Entry) : Type 0 where
  pub front : List Reading
  pub next : Reading
  pub others : List Reading
  pub are : rs ≡ front ++ next ∷ others
  pub same : map reading_entry front ≡ map reading_entry xs
  pub next_is : reading_entry next ≡ entry

pub record EndsThere (rs xs : List Reading) (last entry : Entry) : Type 0 where
  pub same : map reading_entry rs ≡ map reading_entry xs
  pub is_last : last ≡ entry

pub met : (last : Entry) → ((r : Reading) → reading_entry r ≡ last → ⊥) → (rs xs : List Reading) (entry : Entry)
    → take (suc (length xs)) (map reading_entry rs ++ last ∷ []) ≡ map reading_entry xs ++ entry ∷ [] → GoesOn rs xs entry ⊎ EndsThere rs xs last entry
met last never [] [] entry e = inr (record { same = refl; is_last = let f : last ≡ entry = cc in f })
met last never (r ∷ rs) [] entry e = inl (record { front = []; next = r; others = rs; are = refl; same = refl; next_is = let f : reading_entry r ≡ entry = cc in f })
met last never [] (x ∷ xs) entry e = absurd (never x (let f : reading_entry x ≡ last = cc in f))
met last never (r ∷ rs) (x ∷ xs) entry e =
    let head : reading_entry r ≡ reading_entry x = cc in
    on head (met last never rs xs entry (let f : take (suc (length xs)) (map reading_entry rs ++ last ∷ []) ≡ map reading_entry xs ++ entry ∷ [] = cc in f))
  where
    on : reading_entry r ≡ reading_entry x → GoesOn rs xs entry ⊎ EndsThere rs xs last entry → GoesOn (r ∷ rs) (x ∷ xs) entry ⊎ EndsThere (r ∷ rs) (x ∷ xs) last entry
    on head (inl g) = inl (record {
      front = r ∷ g.front;
      next = g.next;
      others = g.others;
      are = ap (λ z. r ∷ z) g.are;
      same = ap (λ z. z ∷ map reading_entry g.front) head ∙ ap (λ z. reading_entry x ∷ z) g.same;
      next_is = g.next_is;
    })
    on head (inr g) = inr (record { same = ap (λ z. z ∷ map reading_entry rs) head ∙ ap (λ z. reading_entry x ∷ z) g.same; is_last = g.is_last })

-- how many rows there are is no reading
pub rows_apart : (number : ℕ) (r : Reading) → reading_entry r ≡ says.Rows number → ⊥
rows_apart number (readings.Slot row (Whole version content)) e = cc
rows_apart number (readings.Slot row (Free word)) e = cc
rows_apart number (readings.Slot row (Busy first second)) e = cc
rows_apart number (readings.Word word version flags) e = cc
