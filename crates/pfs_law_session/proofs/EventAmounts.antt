-- Each event that ends and counts is brought once, or waits.
use Rattle.std.proofs.Common.{ℕ, ◌≡◌, ◌+◌, Bool, true, false, cond, List, [], ◌∷◌, ◌++◌, Option, Some, None, map, refl, ap, sym, ◌∙◌, arith}
use Rattle.std.specs.Prelude.{◌==◌}
use Rattle.std.proofs.lemmas.Bool.{eqb-true}
use Rattle.std.proofs.lemmas.List.{append_assoc}
use Rattle.pfs_event.specs.declared.entry.Entry.{Entry}
use Rattle.pfs_event.specs.declared.entry.Entry.TheVariants as says
use Rattle.pfs_levels.specs.JointCalls.{total}
use Rattle.pfs_levels.specs.declared.answers.Added.{Added}
use Rattle.pfs_levels.specs.declared.answers.Added.TheVariants.{Counted, Held}
use Rattle.pfs_model.specs.Contexts.{Context, Waiting, subject_of, noted, after_entries, held_for, held_else, brought, own_event, own_wait}
use Rattle.pfs_model.specs.EntryPlaces.{Placed, placed_part}
use Rattle.pfs_model.specs.declared.lines.Line.{Line}
use Rattle.pfs_model.specs.declared.lines.Opened.{Opened}
use Rattle.pfs_model.specs.declared.lines.Subject.{Subject}
use Rattle.pfs_session.specs.Ends.{added_entry}
use Rattle.pfs_law_session.proofs.LinePieces.{entries_then}
use Rattle.pfs_law_session.specs.Amounts.{in_row, counted_at, brought_at, counted_in, brought_in, IsOnce}

total_nil : (h : Waiting → ℕ) → total h [] ≡ 0
unfolding total
total_nil h = refl

total_more : (h : Waiting → ℕ) (one : Waiting) (others : List Waiting) → total h (one ∷ others) ≡ h one + total h others
unfolding total
total_more h one others = refl

pub total_both : (h : Waiting → ℕ) (xs ys : List Waiting) → total h (xs ++ ys) ≡ total h xs + total h ys
unfolding total
total_both h [] ys = omega arith
total_both h (x ∷ xs) ys = omega (arith, total_both h xs ys)

-- the events that these entries count, and those that they bring
abbrev pub counted_by : (ℕ → ℕ → ℕ) → (Waiting → ℕ) → Option Subject → Context → List Entry → ℕ
counted_by flags h subject context [] = 0
counted_by flags h subject context (e ∷ es) = total h (counted_at flags context e) + counted_by flags h subject (noted subject context e) es

abbrev pub brought_by : (Waiting → ℕ) → Option Subject → Context → List Entry → ℕ
brought_by h subject context [] = 0
brought_by h subject context (e ∷ es) = total h (brought_at context e) + brought_by h subject (noted subject context e) es

abbrev pub OnceBy : (ℕ → ℕ → ℕ) → Option Subject → Context → List Entry → Type 0
OnceBy flags subject context entries = (h : Waiting → ℕ) → counted_by flags h subject context entries + total h context.waiting
    ≡ brought_by h subject context entries + total h (after_entries subject context entries).waiting

counted_then : (flags : ℕ → ℕ → ℕ) (h : Waiting → ℕ) (subject : Option Subject) (context : Context) (es fs : List Entry)
    → counted_by flags h subject context (es ++ fs) ≡ counted_by flags h subject context es + counted_by flags h subject (after_entries subject context es) fs
counted_then flags h subject context [] fs = omega arith
counted_then flags h subject context (e ∷ es) fs = omega (arith, counted_then flags h subject (noted subject context e) es fs)

brought_then : (h : Waiting → ℕ) (subject : Option Subject) (context : Context) (es fs : List Entry)
    → brought_by h subject context (es ++ fs) ≡ brought_by h subject context es + brought_by h subject (after_entries subject context es) fs
brought_then h subject context [] fs = omega arith
brought_then h subject context (e ∷ es) fs = omega (arith, brought_then h subject (noted subject context e) es fs)

pub once_then : (flags : ℕ → ℕ → ℕ) (subject : Option Subject) (context : Context) (es fs : List Entry) → OnceBy flags subject context es
    → OnceBy flags subject (after_entries subject context es) fs → OnceBy flags subject context (es ++ fs)
once_then flags subject context es fs p q = λ h.
    let a = counted_then flags h subject context es fs in
    let b = brought_then h subject context es fs in
    let c : total h (after_entries subject context (es ++ fs)).waiting ≡ total h (after_entries subject (after_entries subject context es) fs).waiting =
    ap (λ (z : Context). total h z.waiting) (entries_then subject context es fs) in
    omega (arith, p h, q h, a, b, c)

-- an entry that counts and brings nothing
pub once_plain : (flags : ℕ → ℕ → ℕ) (subject : Option Subject) (context : Context) (e : Entry) → counted_at flags context e ≡ [] → brought_at context e ≡ []
    → (noted subject context e).waiting ≡ context.waiting → OnceBy flags subject context (e ∷ [])
once_plain flags subject context e c b w = λ h.
    let a1 : total h (counted_at flags context e) ≡ 0 = ap (total h) c ∙ total_nil h in
    let a2 : total h (brought_at context e) ≡ 0 = ap (total h) b ∙ total_nil h in
    let a3 : total h (noted subject context e).waiting ≡ total h context.waiting = ap (total h) w in
    omega (arith, a1, a2, a3)

-- what waits, row by row
split_waiting : (h : Waiting → ℕ) (row : ℕ) (waiting : List Waiting) → total h waiting ≡ total h (map (in_row row) (held_for row waiting)) + total h (held_else row waiting)
unfolding total
split_waiting h row [] = refl
split_waiting h row (one ∷ others) = by_test (one.row == row) refl (split_waiting h row others) where
  by_test : (b : Bool) → (one.row == row) ≡ b → total h others ≡ total h (map (in_row row) (held_for row others)) + total h (held_else row others)
      → h one + total h others ≡ total h (map (in_row row) (cond b (one.event ∷ []) [] ++ held_for row others)) + total h (cond b [] (one ∷ []) ++ held_else row others)
  by_test true e q =
      let same : h one ≡ h (in_row row one.event) = ap (λ z. h (in_row z one.event)) (eqb-true one.row row e) in
      omega (arith, q, same)
  by_test false e q = omega (arith, q)

-- an addition where no event has just ended
pub once_settled : (flags : ℕ → ℕ → ℕ) (subject : Option Subject) (context : Context) (row version : ℕ) → context.ended ≡ None
    → (noted subject context (says.Add row version)).waiting ≡ held_else row context.waiting → OnceBy flags subject context (says.Add row version ∷ [])
once_settled flags subject context row version ended w = λ h.
    let a : total h (map (in_row row) (brought context row)) ≡ total h (map (in_row row) (held_for row context.waiting)) =
    ap (λ z. total h (map (in_row row) (own_event z ++ held_for row context.waiting))) ended in
    let b : total h (noted subject context (says.Add row version)).waiting ≡ total h (held_else row context.waiting) = ap (total h) w in
    omega (arith, a, b, split_waiting h row context.waiting, total_nil h)

-- an addition that was tried of the event that has just ended: with what waited for the row it is brought there, or it
-- waits itself
abbrev pub IsShared : Option Subject → Context → Entry → ℕ → Opened → Type 0
IsShared subject context entry row event = (h : Waiting → ℕ)
    → total h (brought_at context entry) + total h (noted subject context entry).waiting ≡ h (in_row row event) + total h context.waiting

pub shared_added : (subject : Option Subject) (context : Context) (r version row : ℕ) (event : Opened) → r ≡ row → context.ended ≡ Some event
    → (noted subject context (says.Add r version)).waiting ≡ held_else r context.waiting → IsShared subject context (says.Add r version) row event
shared_added subject context r version row event same ended left = λ h.
    let c : total h (map (in_row r) (brought context r)) ≡ h (in_row row event) + total h (map (in_row row) (held_for row context.waiting)) =
    ap (λ z. total h (map (in_row r) (own_event z ++ held_for r context.waiting))) ended
    ∙ (ap (λ z. total h (map (in_row z) (event ∷ held_for z context.waiting))) same ∙ total_more h (in_row row event) (map (in_row row) (held_for row context.waiting))) in
    let d : total h (noted subject context (says.Add r version)).waiting ≡ total h (held_else row context.waiting) =
    ap (total h) left ∙ ap (λ z. total h (held_else z context.waiting)) same in
    omega (arith, c, d, split_waiting h row context.waiting)

pub shared_held : (subject : Option Subject) (context : Context) (r first second row : ℕ) (event : Opened) → r ≡ row → context.ended ≡ Some event
    → (noted subject context (says.Held r first second)).waiting ≡ own_wait r context.ended ++ context.waiting → IsShared subject context (says.Held r first second) row event
shared_held subject context r first second row event same ended left = λ h.
    let d : total h (noted subject context (says.Held r first second)).waiting ≡ h (in_row row event) + total h context.waiting =
    ap (total h) left ∙ (ap (λ z. total h (own_wait r z ++ context.waiting)) ended ∙ (ap (λ z. total h (in_row z event ∷ context.waiting)) same ∙ total_more h (in_row row event) context.waiting)) in
    omega (arith, d, total_nil h)

-- an addition counts nothing of its own
pub added_counts : (flags : ℕ → ℕ → ℕ) (context : Context) (answer : Added) → counted_at flags context (added_entry answer) ≡ []
added_counts flags context (Counted row version) = refl
added_counts flags context (Held row first second) = refl

-- an end with its addition
pub once_ended : (flags : ℕ → ℕ → ℕ) (subject : Option Subject) (context : Context) (end : Entry) (answer : Added) (row : ℕ) (event : Opened)
    → counted_at flags context end ≡ in_row row event ∷ [] → brought_at context end ≡ [] → (noted subject context end).waiting ≡ context.waiting
    → IsShared subject (noted subject context end) (added_entry answer) row event → OnceBy flags subject context (end ∷ added_entry answer ∷ [])
once_ended flags subject context end answer row event counted none waits shared = λ h.
    let mid : Context = noted subject context end in
    let a : total h (counted_at flags context end) ≡ h (in_row row event) + total h [] = ap (total h) counted ∙ total_more h (in_row row event) [] in
    let b : total h (brought_at context end) ≡ 0 = ap (total h) none ∙ total_nil h in
    let c : total h (counted_at flags mid (added_entry answer)) ≡ 0 = ap (total h) (added_counts flags mid answer) ∙ total_nil h in
    let w : total h mid.waiting ≡ total h context.waiting = ap (total h) waits in
    omega (arith, a, b, c, w, shared h, total_nil h)

-- an end with its addition and that to its digest's row
pub once_digested : (flags : ℕ → ℕ → ℕ) (subject : Option Subject) (context : Context) (end : Entry) (answer digest : Added) (row at : ℕ) (event : Opened)
    → counted_at flags context end ≡ in_row row event ∷ in_row at event ∷ [] → brought_at context end ≡ [] → (noted subject context end).waiting ≡ context.waiting
    → IsShared subject (noted subject context end) (added_entry answer) row event
    → IsShared subject (noted subject (noted subject context end) (added_entry answer)) (added_entry digest) at event
    → OnceBy flags subject context (end ∷ added_entry answer ∷ added_entry digest ∷ [])
once_digested flags subject context end answer digest row at event counted none waits shared more = λ h.
    let mid : Context = noted subject context end in
    let next : Context = noted subject mid (added_entry answer) in
    let a : total h (counted_at flags context end) ≡ h (in_row row event) + (h (in_row at event) + total h []) =
    ap (total h) counted ∙ (total_more h (in_row row event) (in_row at event ∷ []) ∙ ap (λ z. h (in_row row event) + z) (total_more h (in_row at event) [])) in
    let b : total h (brought_at context end) ≡ 0 = ap (total h) none ∙ total_nil h in
    let c : total h (counted_at flags mid (added_entry answer)) ≡ 0 = ap (total h) (added_counts flags mid answer) ∙ total_nil h in
    let d : total h (counted_at flags next (added_entry digest)) ≡ 0 = ap (total h) (added_counts flags next digest) ∙ total_nil h in
    let w : total h mid.waiting ≡ total h context.waiting = ap (total h) waits in
    omega (arith, a, b, c, d, w, shared h, more h, total_nil h)

-- of the entries of a line at their places
pub once_counted : (flags : ℕ → ℕ → ℕ) (h : Waiting → ℕ) (phase session : ℕ) (line : Line) (context : Context) (entries : List Entry)
    → total h (counted_in flags (placed_part phase session line context entries)) ≡ counted_by flags h (subject_of line) context entries
once_counted flags h phase session line context [] = total_nil h
once_counted flags h phase session line context (e ∷ es) =
    total_both h (counted_at flags context e) (counted_in flags (placed_part phase session line (noted (subject_of line) context e) es))
    ∙ ap (λ z. total h (counted_at flags context e) + z) (once_counted flags h phase session line (noted (subject_of line) context e) es)

pub once_brought : (h : Waiting → ℕ) (phase session : ℕ) (line : Line) (context : Context) (entries : List Entry)
    → total h (brought_in (placed_part phase session line context entries)) ≡ brought_by h (subject_of line) context entries
once_brought h phase session line context [] = total_nil h
once_brought h phase session line context (e ∷ es) =
    total_both h (brought_at context e) (brought_in (placed_part phase session line (noted (subject_of line) context e) es))
    ∙ ap (λ z. total h (brought_at context e) + z) (once_brought h phase session line (noted (subject_of line) context e) es)

counted_both : (flags : ℕ → ℕ → ℕ) (xs ys : List Placed) → counted_in flags (xs ++ ys) ≡ counted_in flags xs ++ counted_in flags ys
counted_both flags [] ys = refl
counted_both flags (x ∷ xs) ys =
    ap (λ z. counted_at flags x.context x.entry ++ z) (counted_both flags xs ys) ∙ sym (append_assoc (counted_at flags x.context x.entry) (counted_in flags xs) (counted_in flags ys))

brought_both : (xs ys : List Placed) → brought_in (xs ++ ys) ≡ brought_in xs ++ brought_in ys
brought_both [] ys = refl
brought_both (x ∷ xs) ys = ap (λ z. brought_at x.context x.entry ++ z) (brought_both xs ys) ∙ sym (append_assoc (brought_at x.context x.entry) (brought_in xs) (brought_in ys))

-- places behind others
pub once_both : (flags : ℕ → ℕ → ℕ) (xs ys : List Placed) (before mid behind : List Waiting) → IsOnce flags before xs mid → IsOnce flags mid ys behind → IsOnce flags before (xs ++ ys) behind
once_both flags xs ys before mid behind p q = λ h.
    let a : total h (counted_in flags (xs ++ ys)) ≡ total h (counted_in flags xs) + total h (counted_in flags ys) = ap (total h) (counted_both flags xs ys) ∙ total_both h (counted_in flags xs) (counted_in flags ys) in
    let b : total h (brought_in (xs ++ ys)) ≡ total h (brought_in xs) + total h (brought_in ys) = ap (total h) (brought_both xs ys) ∙ total_both h (brought_in xs) (brought_in ys) in
    omega (arith, p h, q h, a, b)

-- one line behind others
pub once_lines : (flags : ℕ → ℕ → ℕ) (phase session : ℕ) (line : Line) (context : Context) (entries : List Entry) (places : List Placed) (behind : List Waiting) → OnceBy flags (subject_of line) context entries
    → IsOnce flags (after_entries (subject_of line) context entries).waiting places behind → IsOnce flags context.waiting (placed_part phase session line context entries ++ places) behind
once_lines flags phase session line context entries places behind p q = λ h.
    let here : List Placed = placed_part phase session line context entries in
    let a : total h (counted_in flags (here ++ places)) ≡ counted_by flags h (subject_of line) context entries + total h (counted_in flags places) =
    ap (total h) (counted_both flags here places) ∙ (total_both h (counted_in flags here) (counted_in flags places) ∙ ap (λ z. z + total h (counted_in flags places)) (once_counted flags h phase session line context entries)) in
    let b : total h (brought_in (here ++ places)) ≡ brought_by h (subject_of line) context entries + total h (brought_in places) =
    ap (total h) (brought_both here places) ∙ (total_both h (brought_in here) (brought_in places) ∙ ap (λ z. z + total h (brought_in places)) (once_brought h phase session line context entries)) in
    omega (arith, p h, q h, a, b)
