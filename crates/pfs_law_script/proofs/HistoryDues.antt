-- What is due behind a start and an end, by what a session put to its histories before.
use Rattle.std.proofs.Common.{ℕ, ◌≡◌, ◌+◌, ◌*◌, ◌%◌, ◌==◌, Bool, true, false, cond, List, [], ◌∷◌, ◌++◌, length, Option, Some, None, eq-eqb, refl, ap, sym, ◌∙◌, subst, length-append, arith}
use Rattle.std.proofs.lemmas.Bool.{eqb-true}
use Rattle.std.proofs.Math.Nat.{mod-add-mod}
use Rattle.pfs_event.specs.Verdicts.{is_let_through}
use Rattle.pfs_event.specs.declared.entry.Entry.{Entry}
use Rattle.pfs_event.specs.declared.entry.Entry.TheVariants as says
use Rattle.pfs_event.specs.declared.kind.EventKind.{EventKind}
use Rattle.pfs_model.specs.EntryAsks.{cell_row, digest_row, is_head}
use Rattle.pfs_model.specs.Contexts.{Context, subject_of, noted, after_entries}
use Rattle.pfs_model.specs.EntryPlaces.{Placed, placed_part, by_session}
use Rattle.pfs_model.specs.Puts.{Due, Adds, Puts, PutsLong, due_if, in_slot, current_due, history_place, dues_at_end, dues_at_start, behind_it, ArePaid, IsBrought, AreBroughtBehind}
use Rattle.pfs_model.specs.Rings.{ring_number, history_row, history_put, history_puts}
use Rattle.pfs_model.specs.SetupFlags.{is_digested, is_offered_at_end, history_consumer, long_consumer}
use Rattle.pfs_model.specs.Shapes.{counted_slot}
use Rattle.pfs_model.specs.declared.lines.Line.{Line}
use Rattle.pfs_model.specs.declared.lines.Opened.{Opened}
use Rattle.pfs_model.specs.declared.lines.Subject.{Subject}

-- how many events of each kind a session put to its histories, but for tens
abbrev pub Marks : Type 0
Marks = EventKind → ℕ

-- the histories of an event that ends
abbrev pub history_by : (ℕ → ℕ → ℕ) → Option ℕ → Marks → Opened → Option ℕ → Option ℕ → List Due
history_by flags slot marks event c t =
    in_slot slot (λ own. due_if (is_offered_at_end history_consumer flags slot event c t) (Puts (history_row own (ring_number event.subject.kind) (marks event.subject.kind)))
    ++ due_if (is_offered_at_end long_consumer flags slot event c t) (PutsLong (ring_number event.subject.kind)))

-- an end is due its summary row; where it ends a digested statement, the row of its digest; and the places of its rings
abbrev pub own_dues : (ℕ → ℕ → ℕ) → Option ℕ → Marks → List Opened → Option ℕ → Option ℕ → List Due
own_dues flags slot marks [] c t = []
own_dues flags slot marks (event ∷ others) c t =
    cond (is_let_through event.verdict)
    (Adds (cell_row (counted_slot slot event.verdict) event.subject.cell)
    ∷ (due_if (is_digested flags slot event) (Adds (digest_row event.subject.digest))
    ++ (current_due flags slot event others ++ history_by flags slot marks event c t)))
    []

-- what an entry of a session with this slot adds to that
abbrev pub more : Option ℕ → Context → Entry → Marks → EventKind → ℕ
more None context e marks kind = marks kind
more (Some own) context e marks kind = length (history_put own (ring_number kind) context.slot e) + marks kind

abbrev pub all_more : Option ℕ → Option Subject → Context → List Entry → Marks → Marks
all_more home subject context [] marks = marks
all_more home subject context (e ∷ es) marks = all_more home subject (noted subject context e) es (more home context e marks)

-- the slot that a context tells of is the session's
abbrev pub IsHome : Option ℕ → Option ℕ → Type 0
IsHome home slot = (own : ℕ) → slot ≡ Some own → home ≡ Some own

-- what stands behind an entry up to the next with which a line or another event begins is just what is due there
abbrev pub PaidAt : (ℕ → ℕ → ℕ) → Option ℕ → Option Subject → Context → Marks → Entry → List Entry → Type 0
PaidAt flags home subject context marks (says.Start event verdict consumers thread class table) behind =
    ArePaid (dues_at_start flags context.slot (noted subject context (says.Start event verdict consumers thread class table)).opened) behind
PaidAt flags home subject context marks (says.End event last consumers thread) behind =
    ArePaid (own_dues flags context.slot marks context.opened consumers thread) behind × IsHome home context.slot
PaidAt flags home subject context marks entry behind = Unit {0}

abbrev pub front_of : List Entry → List Entry
front_of [] = []
front_of (e ∷ es) = cond (is_head e) [] (e ∷ front_of es)

abbrev pub AllPaid : (ℕ → ℕ → ℕ) → Option ℕ → Option Subject → Context → Marks → List Entry → Type 0
AllPaid flags home subject context marks [] = Unit {0}
AllPaid flags home subject context marks (e ∷ es) =
    PaidAt flags home subject context marks e (front_of es) × AllPaid flags home subject (noted subject context e) (more home context e marks) es

pub front_then : (es fs : List Entry) → front_of fs ≡ [] → front_of (es ++ fs) ≡ front_of es
front_then [] fs h = h
front_then (e ∷ es) fs h = ap (λ z. cond (is_head e) [] (e ∷ z)) (front_then es fs h)

pub paid_then : (flags : ℕ → ℕ → ℕ) (home : Option ℕ) (subject : Option Subject) (context : Context) (marks : Marks) (es fs : List Entry) → front_of fs ≡ [] → AllPaid flags home subject context marks es
    → AllPaid flags home subject (after_entries subject context es) (all_more home subject context es marks) fs → AllPaid flags home subject context marks (es ++ fs)
paid_then flags home subject context marks [] fs h a b = b
paid_then flags home subject context marks (e ∷ es) fs h a b = (
  subst (PaidAt flags home subject context marks e) (sym (front_then es fs h)) a.0,
  paid_then flags home subject (noted subject context e) (more home context e marks) es fs h a.1 b,
)

pub more_then : (home : Option ℕ) (subject : Option Subject) (context : Context) (es fs : List Entry) (marks : Marks)
    → all_more home subject context (es ++ fs) marks ≡ all_more home subject (after_entries subject context es) fs (all_more home subject context es marks)
more_then home subject context [] fs marks = refl
more_then home subject context (e ∷ es) fs marks = more_then home subject (noted subject context e) es fs (more home context e marks)

-- the marks of all sessions fit entries that stand before
abbrev pub AreCounted : (ℕ → Option ℕ) → (ℕ → Marks) → List Placed → Type 0
AreCounted slots all earlier = (session own : ℕ) → slots session ≡ Some own → (kind : EventKind)
    → length (history_puts own (ring_number kind) (by_session session earlier)) % 10 ≡ all session kind % 10

-- the next history place is by the marks as by the entries before
same_place : (slots : ℕ → Option ℕ) (all : ℕ → Marks) (earlier : List Placed) (session own : ℕ) (kind : EventKind) → AreCounted slots all earlier → slots session ≡ Some own
    → history_row own (ring_number kind) (all session kind) ≡ history_place earlier session own (ring_number kind)
same_place slots all earlier session own kind counted home = ap (λ z. 8450 + 56 * own + 16 + 10 * ring_number kind + z) (sym (counted session own home kind))

same_histories : (flags : ℕ → ℕ → ℕ) (slots : ℕ → Option ℕ) (all : ℕ → Marks) (earlier : List Placed) (place : Placed) (event : Opened) (c t slot : Option ℕ) → AreCounted slots all earlier
    → IsHome (slots place.session) slot
    → history_by flags slot (all place.session) event c t
    ≡ in_slot slot (λ own. due_if (is_offered_at_end history_consumer flags slot event c t) (Puts (history_place earlier place.session own (ring_number event.subject.kind)))
    ++ due_if (is_offered_at_end long_consumer flags slot event c t) (PutsLong (ring_number event.subject.kind)))
same_histories flags slots all earlier place event c t None counted home = refl
same_histories flags slots all earlier place event c t (Some own) counted home =
    ap (λ (row : ℕ). due_if (is_offered_at_end history_consumer flags (Some own) event c t) (Puts row) ++ due_if (is_offered_at_end long_consumer flags (Some own) event c t) (PutsLong (ring_number event.subject.kind)))
    (same_place slots all earlier place.session own event.subject.kind counted (home own refl))

dues_end : (flags : ℕ → ℕ → ℕ) (slots : ℕ → Option ℕ) (all : ℕ → Marks) (earlier : List Placed) (place : Placed) (opened : List Opened) (c t : Option ℕ) → AreCounted slots all earlier
    → IsHome (slots place.session) place.context.slot
    → own_dues flags place.context.slot (all place.session) opened c t ≡ dues_at_end flags earlier place opened c t
dues_end flags slots all earlier place [] c t counted home = refl
dues_end flags slots all earlier place (event ∷ others) c t counted home =
    let slot : Option ℕ = place.context.slot in
    let row : Due = Adds (cell_row (counted_slot slot event.verdict) event.subject.cell) in
    let digest : List Due = due_if (is_digested flags slot event) (Adds (digest_row event.subject.digest)) in
    let current : List Due = current_due flags slot event others in
    ap (λ (z : List Due). cond (is_let_through event.verdict) (row ∷ (digest ++ (current ++ z))) [])
    (same_histories flags slots all earlier place event c t slot counted home)

is_brought : (flags : ℕ → ℕ → ℕ) (slots : ℕ → Option ℕ) (all : ℕ → Marks) (earlier : List Placed) (place : Placed) (entry : Entry) (behind : List Entry) → AreCounted slots all earlier
    → PaidAt flags (slots place.session) (subject_of place.line) place.context (all place.session) entry behind → place.entry ≡ entry → IsBrought flags earlier place entry behind
is_brought flags slots all earlier place (says.Start event verdict consumers thread class table) behind counted paid e =
    subst (λ (z : Entry). ArePaid (dues_at_start flags place.context.slot (noted (subject_of place.line) place.context z).opened) behind) (sym e) paid
is_brought flags slots all earlier place (says.End event last consumers thread) behind counted paid e =
    subst (λ (z : List Due). ArePaid z behind) (dues_end flags slots all earlier place place.context.opened consumers thread counted paid.1) paid.0
is_brought flags slots all earlier place _ behind counted paid e = tt

-- the marks with these of a session
abbrev pub with_marks : (ℕ → Marks) → ℕ → Marks → ℕ → EventKind → ℕ
with_marks all session marks k kind = cond (session == k) (marks kind) (all k kind)

own_marks : (all : ℕ → Marks) (session : ℕ) (marks : Marks) (kind : EventKind) → with_marks all session marks session kind ≡ marks kind
own_marks all session marks kind = ap (λ (b : Bool). cond b (marks kind) (all session kind)) (eq-eqb session session refl)

-- numbers that are alike but for tens, each with as many more
swap : (n m : ℕ) → n + m ≡ m + n
swap n m = omega arith

pub alike_more : (n a b : ℕ) → a % 10 ≡ b % 10 → (n + a) % 10 ≡ (n + b) % 10
alike_more n a b e =
    ap (λ z. z % 10) (swap n a) ∙ (sym (mod-add-mod a 10 n) ∙ (ap (λ z. (z + n) % 10) e ∙ (mod-add-mod b 10 n ∙ ap (λ z. z % 10) (swap b n))))

-- one entry more of a session
counted_more : (slots : ℕ → Option ℕ) (all : ℕ → Marks) (marks : Marks) (earlier : List Placed) (place : Placed) → AreCounted slots (with_marks all place.session marks) earlier
    → AreCounted slots (with_marks all place.session (more (slots place.session) place.context place.entry marks)) (place ∷ earlier)
counted_more slots all marks earlier place counted = λ session own home kind. at session own home kind (place.session == session) refl (counted session own home kind) where
  at : (session own : ℕ) → slots session ≡ Some own → (kind : EventKind) (b : Bool) → (place.session == session) ≡ b
      → length (history_puts own (ring_number kind) (by_session session earlier)) % 10 ≡ cond (place.session == session) (marks kind) (all session kind) % 10
      → length (history_puts own (ring_number kind) (cond (place.session == session) (place ∷ []) [] ++ by_session session earlier)) % 10
      ≡ cond (place.session == session) (more (slots place.session) place.context place.entry marks kind) (all session kind) % 10
  at session own home kind true e before =
      let here = history_put own (ring_number kind) place.context.slot place.entry in
      let puts = history_puts own (ring_number kind) (by_session session earlier) in
      let was : length puts % 10 ≡ marks kind % 10 = before ∙ ap (λ (b : Bool). cond b (marks kind) (all session kind) % 10) e in
      let its : slots place.session ≡ Some own = ap slots (eqb-true place.session session e) ∙ home in
      let now : length (here ++ puts) % 10 ≡ more (slots place.session) place.context place.entry marks kind % 10 =
      ap (λ n. n % 10) (length-append here puts) ∙ (alike_more (length here) (length puts) (marks kind) was ∙ ap (λ (z : Option ℕ). more z place.context place.entry marks kind % 10) (sym its)) in
      ap (λ (b : Bool). length (history_puts own (ring_number kind) (cond b (place ∷ []) [] ++ by_session session earlier)) % 10) e
      ∙ (now ∙ ap (λ (b : Bool). cond b (more (slots place.session) place.context place.entry marks kind) (all session kind) % 10) (sym e))
  at session own home kind false e before =
      ap (λ (b : Bool). length (history_puts own (ring_number kind) (cond b (place ∷ []) [] ++ by_session session earlier)) % 10) e
      ∙ (before ∙ (ap (λ (b : Bool). cond b (marks kind) (all session kind) % 10) e
      ∙ ap (λ (b : Bool). cond b (more (slots place.session) place.context place.entry marks kind) (all session kind) % 10) (sym e)))

-- entries that begin so, and are brought, whatever stands before them that fits these marks
pub record AreFine (flags : ℕ → ℕ → ℕ) (slots : ℕ → Option ℕ) (all : ℕ → Marks) (places : List Placed) : Type 0 where
  pub headed : behind_it places ≡ []
  pub brought : (earlier : List Placed) → AreCounted slots all earlier → AreBroughtBehind flags earlier places

pub nothing_fine : (flags : ℕ → ℕ → ℕ) (slots : ℕ → Option ℕ) (all : ℕ → Marks) → AreFine flags slots all []
nothing_fine flags slots all = record { headed = refl; brought = λ earlier counted. tt }

-- the session's marks are those that it has
pub fine_again : (flags : ℕ → ℕ → ℕ) (slots : ℕ → Option ℕ) (all : ℕ → Marks) (session : ℕ) (places : List Placed) → AreFine flags slots (with_marks all session (all session)) places
    → AreFine flags slots all places
fine_again flags slots all session places fine = record {
  headed = fine.headed;
  brought = λ earlier counted. fine.brought earlier (λ k own home kind. counted k own home kind ∙ ap (λ n. n % 10) (sym (same k kind (session == k) refl)));
} where
  same : (k : ℕ) (kind : EventKind) (b : Bool) → (session == k) ≡ b → cond (session == k) (all session kind) (all k kind) ≡ all k kind
  same k kind true e = ap (λ (b : Bool). cond b (all session kind) (all k kind)) e ∙ ap (λ n. all n kind) (eqb-true session k e)
  same k kind false e = ap (λ (b : Bool). cond b (all session kind) (all k kind)) e

place_front : (phase session : ℕ) (line : Line) (context : Context) (es : List Entry) (rest : List Placed) → behind_it rest ≡ [] → behind_it (placed_part phase session line context es ++ rest) ≡ front_of es
place_front phase session line context [] rest h = h
place_front phase session line context (e ∷ es) rest h = ap (λ z. cond (is_head e) [] (e ∷ z)) (place_front phase session line (noted (subject_of line) context e) es rest h)

-- marks that are the same are due the same
paid_as : (flags : ℕ → ℕ → ℕ) (home : Option ℕ) (subject : Option Subject) (context : Context) (one other : Marks) → ((kind : EventKind) → one kind ≡ other kind) → (e : Entry) (behind : List Entry)
    → PaidAt flags home subject context one e behind → PaidAt flags home subject context other e behind
paid_as flags home subject context one other same e behind paid =
    let all : one ≡ other = λ i kind. same kind i in
    subst (λ (z : Marks). PaidAt flags home subject context z e behind) all paid

part_brought : (flags : ℕ → ℕ → ℕ) (slots : ℕ → Option ℕ) (all : ℕ → Marks) (marks : Marks) (earlier : List Placed) (phase session : ℕ) (line : Line) (context : Context) (es : List Entry) (rest : List Placed)
    → AreFine flags slots (with_marks all session (all_more (slots session) (subject_of line) context es marks)) rest → AllPaid flags (slots session) (subject_of line) context marks es
    → AreCounted slots (with_marks all session marks) earlier → AreBroughtBehind flags earlier (placed_part phase session line context es ++ rest)
part_brought flags slots all marks earlier phase session line context [] rest fine paid counted = fine.brought earlier counted
part_brought flags slots all marks earlier phase session line context (e ∷ es) rest fine paid counted =
    let next : Context = noted (subject_of line) context e in
    let place : Placed = record { phase = phase; session = session; line = line; context = context; entry = e } in
    let here : PaidAt flags (slots session) (subject_of line) context (with_marks all session marks session) e (front_of es) = paid_as flags (slots session) (subject_of line) context marks (with_marks all session marks session)
    (λ kind. sym (own_marks all session marks kind)) e (front_of es) paid.0 in (
      subst (IsBrought flags earlier place e) (sym (place_front phase session line next es rest fine.headed)) (is_brought flags slots (with_marks all session marks) earlier place e (front_of es) counted here refl),
      part_brought flags slots all (more (slots session) context e marks) (place ∷ earlier) phase session line next es rest fine paid.1 (counted_more slots all marks earlier place counted),
    )

pub part_fine : (flags : ℕ → ℕ → ℕ) (slots : ℕ → Option ℕ) (all : ℕ → Marks) (marks : Marks) (phase session : ℕ) (line : Line) (context : Context) (es : List Entry) (rest : List Placed) → front_of es ≡ []
    → AllPaid flags (slots session) (subject_of line) context marks es → AreFine flags slots (with_marks all session (all_more (slots session) (subject_of line) context es marks)) rest
    → AreFine flags slots (with_marks all session marks) (placed_part phase session line context es ++ rest)
part_fine flags slots all marks phase session line context es rest headed paid fine = record {
  headed = place_front phase session line context es rest fine.headed ∙ headed;
  brought = λ earlier counted. part_brought flags slots all marks earlier phase session line context es rest fine paid counted;
}
