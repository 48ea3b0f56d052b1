-- One entry more.
use Rattle.std.proofs.Common.{◌≡◌, refl, ℕ, zero, suc, ◌+◌, ◌-◌, ◌<◌, ◌≤◌, Bool, true, false, List, [], ◌∷◌, ◌++◌, length, take, drop, sym, ◌∙◌, ap, subst, arith, append_assoc}
use Rattle.std.specs.Prelude.{Option, Some, None, slice_get}
use Rattle.pfs_event.specs.declared.entry.Entry.{Entry}
use Rattle.pfs_model.specs.declared.lines.Line.{Line}
use Rattle.pfs_model.specs.declared.lines.Subject.{Subject}
use Rattle.pfs_model.specs.Contexts.{Context, noted, subject_of, after_entries}
use Rattle.pfs_model.specs.EntryPlaces.{Placed, placed_part}
use Rattle.pfs_check_faults.specs.ReportCases.{AllHave, Lacks}
use Rattle.pfs_check_walk.specs.declared.visits.Spot.{Spot}
use Rattle.pfs_check_walk.specs.Walks.{IsVisited, LacksFirst, entries_between, onto, place_of}

part_append : (phase session : ℕ) (line : Line) (context : Context) (xs ys : List Entry)
    → placed_part phase session line context (xs ++ ys)
    ≡ placed_part phase session line context xs ++ placed_part phase session line (after_entries (subject_of line) context xs) ys
part_append phase session line context [] ys = refl
part_append phase session line context (x ∷ xs) ys =
    ap (λ z. record { phase = phase; session = session; line = line; context = context; entry = x } ∷ z)
    (part_append phase session line (noted (subject_of line) context x) xs ys)

after_append : (subject : Option Subject) (context : Context) (xs ys : List Entry)
    → after_entries subject context (xs ++ ys) ≡ after_entries subject (after_entries subject context xs) ys
after_append subject context [] ys = refl
after_append subject context (x ∷ xs) ys = after_append subject (noted subject context x) xs ys

pub keep_append : (rule : List Placed → Placed → Type 0) (earlier xs ys : List Placed) → AllHave rule earlier xs
    → AllHave rule (onto earlier xs) ys → AllHave rule earlier (xs ++ ys)
keep_append rule earlier [] ys a b = b
keep_append rule earlier (x ∷ xs) ys a b = (a.0, keep_append rule (x ∷ earlier) xs ys a.1 b)

pub onto_append : (earlier xs ys : List Placed) → onto earlier (xs ++ ys) ≡ onto (onto earlier xs) ys
onto_append earlier [] ys = refl
onto_append earlier (x ∷ xs) ys = onto_append (x ∷ earlier) xs ys

lacks_behind : (rule : List Placed → Placed → Type 0) (earlier xs : List Placed) (y : Placed) (ys : List Placed) (n : ℕ) → n ≡ length xs
    → AllHave rule earlier xs → (rule (onto earlier xs) y → ⊥) → LacksFirst rule earlier (xs ++ y ∷ ys) n
lacks_behind rule earlier [] y ys zero e a f = f
lacks_behind rule earlier [] y ys (suc n) e a f = absurd (omega (arith, e))
lacks_behind rule earlier (x ∷ xs) y ys zero e a f = absurd (omega (arith, e))
lacks_behind rule earlier (x ∷ xs) y ys (suc n) e a f = (a.0, lacks_behind rule (x ∷ earlier) xs y ys n (omega (arith, e)) a.1 f)

item : Entry → Option Entry → Entry
item d None = d
item d (Some a) = a

some_same : (d x y : Entry) → Some x ≡ Some y → x ≡ y
unfolding item
some_same d x y e = ap (item d) e

none_taken : (m : ℕ) (xs : List Entry) → m ≡ 0 → take m xs ≡ []
none_taken zero xs z = refl
none_taken (suc m) xs z = absurd (omega (arith, z))

-- the entries from a place on, one more
take_get : (xs : List Entry) (n m : ℕ) (e : Entry) → slice_get xs n ≡ Some e → m ≡ n + 1 → take m xs ≡ take n xs ++ e ∷ []
take_get [] n m e g h = absurd (cc)
take_get (x ∷ xs) n zero e g h = absurd (omega (arith, h))
take_get (x ∷ xs) zero (suc m) e g h =
    ap (λ y. x ∷ y) (none_taken m xs (omega (arith, h))) ∙ ap (λ y. y ∷ []) (some_same x x e g)
take_get (x ∷ xs) (suc n) (suc m) e g h = ap (λ z. x ∷ z) (take_get xs n m e g (omega (arith, h)))

get_drop : (xs : List Entry) (start at k : ℕ) → at ≡ start + k → slice_get (drop start xs) k ≡ slice_get xs at
get_drop xs zero at k h = ap (slice_get xs) (omega (arith, h))
get_drop [] (suc start) at k h = refl
get_drop (x ∷ xs) (suc start) zero k h = absurd (omega (arith, h))
get_drop (x ∷ xs) (suc start) (suc at) k h = get_drop xs start at k (omega (arith, h))

pub between_more : (entries : List Entry) (start at : ℕ) (e : Entry) → start ≤ at → slice_get entries at ≡ Some e
    → entries_between entries start (at + 1) ≡ entries_between entries start at ++ e ∷ []
between_more entries start at e h g =
    take_get (drop start entries) (at - start) ((at + 1) - start) e
    (get_drop entries start at (at - start) (omega (arith, h)) ∙ g) (omega (arith, h))

-- the rest behind a place
rest_at : (xs : List Entry) (n m : ℕ) (e : Entry) → slice_get xs n ≡ Some e → n < m → (rest : List Entry) × (take m xs ≡ take n xs ++ e ∷ rest)
rest_at [] n m e g h = absurd (cc)
rest_at (x ∷ xs) n zero e g h = absurd (omega (arith, h))
rest_at (x ∷ xs) zero (suc m) e g h = (take m xs, ap (λ y. y ∷ take m xs) (some_same x x e g))
rest_at (x ∷ xs) (suc n) (suc m) e g h =
    let more : (rest : List Entry) × (take m xs ≡ take n xs ++ e ∷ rest) = rest_at xs n m e g (omega (arith, h)) in
    (more.0, ap (λ z. x ∷ z) more.1)

length_get : (xs : List Entry) (n : ℕ) (e : Entry) → slice_get xs n ≡ Some e → length (take n xs) ≡ n
length_get [] n e g = absurd (cc)
length_get (x ∷ xs) zero e g = refl
length_get (x ∷ xs) (suc n) e g = ap suc (length_get xs n e g)

-- the entries of a line up to a place
abbrev pub front_of : Spot → Line → Context → List Entry → ℕ → ℕ → List Placed
front_of spot line context entries start at =
    placed_part spot.phase spot.session line context (entries_between entries start at)

-- the rule is kept up to here, and so much is known
pub record IsUpTo (rule : List Placed → Placed → Type 0) (knows : List Placed → Type 0) (earlier places : List Placed) : Type 0 where
  pub keep : AllHave rule earlier places
  pub known : knows (onto earlier places)

pub step : (rule : List Placed → Placed → Type 0) (knows behind : List Placed → Type 0) (earlier : List Placed) (spot : Spot) (line : Line)
    (context : Context) (entries : List Entry) (start at : ℕ) (e : Entry) → start ≤ at → slice_get entries at ≡ Some e
    → IsUpTo rule knows earlier (front_of spot line context entries start at)
    → IsVisited rule (onto earlier (front_of spot line context entries start at))
    (place_of spot line (after_entries (subject_of line) context (entries_between entries start at)) e) behind true
    → IsUpTo rule behind earlier (front_of spot line context entries start (at + 1))
step rule knows behind earlier spot line context entries start at e h g u j =
    let place : Placed = place_of spot line (after_entries (subject_of line) context (entries_between entries start at)) e in
    let front : List Placed = front_of spot line context entries start at in
    let more : front_of spot line context entries start (at + 1) ≡ front ++ place ∷ [] =
    ap (placed_part spot.phase spot.session line context) (between_more entries start at e h g)
    ∙ part_append spot.phase spot.session line context (entries_between entries start at) (e ∷ []) in
    subst (IsUpTo rule behind earlier) (sym more) (record {
      keep = keep_append rule earlier front (place ∷ []) u.keep (j.0, tt);
      known = subst behind (sym (onto_append earlier front (place ∷ []))) j.1;
    })

placed_length : (phase session : ℕ) (line : Line) (context : Context) (es : List Entry) → length (placed_part phase session line context es) ≡ length es
placed_length phase session line context [] = refl
placed_length phase session line context (e ∷ es) = ap suc (placed_length phase session line (noted (subject_of line) context e) es)

pub stop : (rule : List Placed → Placed → Type 0) (knows behind : List Placed → Type 0) (earlier : List Placed) (spot : Spot) (line : Line)
    (context : Context) (entries : List Entry) (start at end : ℕ) (e : Entry) → start ≤ at → at < end → slice_get entries at ≡ Some e
    → IsUpTo rule knows earlier (front_of spot line context entries start at)
    → IsVisited rule (onto earlier (front_of spot line context entries start at))
    (place_of spot line (after_entries (subject_of line) context (entries_between entries start at)) e) behind false
    → LacksFirst rule earlier (front_of spot line context entries start end) (at - start)
stop rule knows behind earlier spot line context entries start at end e h l g u j =
    subst (λ z. LacksFirst rule earlier z (at - start)) (sym whole)
    (lacks_behind rule earlier (front_of spot line context entries start at) _ _ (at - start)
    (sym (placed_length spot.phase spot.session line context (entries_between entries start at)
    ∙ length_get (drop start entries) (at - start) e here)) u.keep j) where
      here : slice_get (drop start entries) (at - start) ≡ Some e
      here = get_drop entries start at (at - start) (omega (arith, h)) ∙ g

      rest : (rest : List Entry) × (take (end - start) (drop start entries) ≡ take (at - start) (drop start entries) ++ e ∷ rest)
      rest = rest_at (drop start entries) (at - start) (end - start) e here (omega (arith, h, l))

      whole : front_of spot line context entries start end ≡ front_of spot line context entries start at
          ++ place_of spot line (after_entries (subject_of line) context (entries_between entries start at)) e
          ∷ placed_part spot.phase spot.session line
          (noted (subject_of line) (after_entries (subject_of line) context (entries_between entries start at)) e) rest.0
      whole = ap (placed_part spot.phase spot.session line context) rest.1
          ∙ part_append spot.phase spot.session line context (entries_between entries start at) (e ∷ rest.0)

pub tracked_more : (tells : Context → Type 0) (line : Line) (context : Context) (entries : List Entry) (start at : ℕ) (e : Entry)
    → start ≤ at → slice_get entries at ≡ Some e
    → tells (noted (subject_of line) (after_entries (subject_of line) context (entries_between entries start at)) e)
    → tells (after_entries (subject_of line) context (entries_between entries start (at + 1)))
tracked_more tells line context entries start at e h g t =
    subst tells (sym (ap (after_entries (subject_of line) context) (between_more entries start at e h g)
    ∙ after_append (subject_of line) context (entries_between entries start at) (e ∷ []))) t

pub nothing_between : (entries : List Entry) (start : ℕ) → entries_between entries start start ≡ []
nothing_between entries start = none_taken (start - start) (drop start entries) (omega arith)

-- The place that is told is that of the first entry that lacks the rule.
pub first_lacks : (rule : List Placed → Placed → Type 0) (earlier places : List Placed) (at : ℕ) → LacksFirst rule earlier places at
    → Lacks rule earlier places at
first_lacks rule earlier [] at l = l
first_lacks rule earlier (place ∷ places) zero l = l
first_lacks rule earlier (place ∷ places) (suc at) l = first_lacks rule (place ∷ earlier) places at l.1

pub none_before : (rule : List Placed → Placed → Type 0) (earlier places : List Placed) (at : ℕ) → LacksFirst rule earlier places at
    → (other : ℕ) → other < at → Lacks rule earlier places other → ⊥
none_before rule earlier [] at l other h m = l
none_before rule earlier (place ∷ places) zero l other h m = omega (arith, h)
none_before rule earlier (place ∷ places) (suc at) l zero h m = m l.0
none_before rule earlier (place ∷ places) (suc at) l (suc other) h m =
    none_before rule (place ∷ earlier) places at l.1 other (omega (arith, h)) m
