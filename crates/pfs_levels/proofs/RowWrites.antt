-- A write to one row of a plain store leaves the others as they were.
use Rattle.std.proofs.Common.{ℕ, ◌≡◌, inl, inr, ◌<◌, ◌+◌, ◌==◌, cond, false, true, List, [], ◌∷◌, ◌++◌, map, slice_set, slice_index_or, length, refl, ap, sym, ◌∙◌, subst, arith, add-zero, eq-eqb, ne_eqb}
use Rattle.std.proofs.lemmas.Bool.{cases_eq}
use Rattle.std.proofs.lemmas.List.{get_or_read, get_or-set_same, get_or-set_other, get_or-map, get_or_append_left, map-set, ext_get_or, length-set, length-map, length-append}
use Rattle.std.proofs.lemmas.List.Sums.{sum_by-set}
use Rattle.pfs_stat.specs.declared.Stat.{Stat}
use Rattle.pfs_levels.specs.declared.plain.Slot.{Slot}
use Rattle.pfs_levels.specs.declared.slots.Head.{Head}
use Rattle.pfs_levels.specs.declared.slots.Home.{Home}
use Rattle.pfs_levels.specs.declared.slots.Home.TheVariants as home
use Rattle.pfs_levels.specs.declared.slots.Kept.{Kept}
use Rattle.pfs_levels.specs.RowWords.{merged}
use Rattle.pfs_levels.specs.RowHeads.{head_at, kept_at, words_at, slot_of, IsOwn, to_place, head_to_place, AreKept, contents_with, place_with}
use Rattle.pfs_levels.specs.PlainStore.{Merges, Becomes, Holds, Releases, slot, slot_by, slot_at}
use Rattle.pfs_levels.proofs.PlainCalls.{set_read}

abbrev no_head : Head
no_head = record { version = 0; taken = false; allocated = false; home = home.Zeros }

-- the row of the head that was read
read_slot : (slots : List Slot) (heads : List Head) (contents : List Kept) (row : ℕ) (head : Head) → map (slot_of contents) heads ≡ slots → row < length heads → head ≡ slice_index_or heads row head
    → slot_of contents head ≡ slot_at slots row
read_slot slots heads contents row head view low read =
    sym (get_or-map (slot_of contents) heads row head (slot 0 false false []) low ∙ ap (slot_of contents) (sym read)) ∙ ap (λ s. slot_at s row) view

read_head : (heads : List Head) (row : ℕ) (head : Head) → row < length heads → head ≡ slice_index_or heads row head → head ≡ head_at heads row
read_head heads row head low read = get_or_read heads row head low read no_head

-- the head of a row was changed, and no content
pub held : (slots : List Slot) (heads : List Head) (contents : List Kept) (row : ℕ) (head : Head) → map (slot_of contents) heads ≡ slots → row < length heads → head ≡ slice_index_or heads row head
    → map (slot_of contents) (slice_set heads row (record { version = head.version; taken = true; allocated = head.allocated; home = head.home })) ≡ slice_set slots row (slot_by Holds (slot_at slots row))
held slots heads contents row head view low read =
    let now : Head = record { version = head.version; taken = true; allocated = head.allocated; home = head.home } in
    map-set (slot_of contents) heads row now
    ∙ (ap (λ s. slice_set s row (slot_of contents now)) view
    ∙ ap (λ (s : Slot). slice_set slots row (slot_by Holds s)) (read_slot slots heads contents row head view low read))

pub released : (slots : List Slot) (heads : List Head) (contents : List Kept) (row : ℕ) (head : Head) → map (slot_of contents) heads ≡ slots → row < length heads → head ≡ slice_index_or heads row head
    → map (slot_of contents) (slice_set heads row (record { version = head.version; taken = false; allocated = false; home = head.home })) ≡ slice_set slots row (slot_by Releases (slot_at slots row))
released slots heads contents row head view low read =
    let now : Head = record { version = head.version; taken = false; allocated = false; home = head.home } in
    map-set (slot_of contents) heads row now
    ∙ (ap (λ s. slice_set s row (slot_of contents now)) view
    ∙ ap (λ (s : Slot). slice_set slots row (slot_by Releases s)) (read_slot slots heads contents row head view low read))

head_read : (heads : List Head) (x : Head) (at row : ℕ) → at < length heads → head_at (slice_set heads at x) row ≡ cond (at == row) x (head_at heads row)
head_read heads x at row k = elim (cases_eq at row) [
  | inl e ↦ (let P : ℕ → Type 0 = λ r. head_at (slice_set heads at x) r ≡ x in subst P e (get_or-set_same heads at x no_head k)) ∙ sym (ap (λ b. cond b x (head_at heads row)) (eq-eqb at row e))
  | inr e ↦ get_or-set_other heads at row x no_head (λ z. e (sym z)) ∙ sym (ap (λ b. cond b x (head_at heads row)) (ne_eqb at row e))
]

head_same : (heads : List Head) (x : Head) (at row : ℕ) → at < length heads → at ≡ row → head_at (slice_set heads at x) row ≡ x
head_same heads x at row k e = head_read heads x at row k ∙ ap (λ b. cond b x (head_at heads row)) (eq-eqb at row e)

head_other : (heads : List Head) (x : Head) (at row : ℕ) → at < length heads → (at ≡ row → ⊥) → head_at (slice_set heads at x) row ≡ head_at heads row
head_other heads x at row k e = head_read heads x at row k ∙ ap (λ b. cond b x (head_at heads row)) (ne_eqb at row e)

-- the contents after one was kept
last : (contents : List Kept) (content : Kept) → kept_at (contents ++ content ∷ []) (length contents) ≡ content
last [] content = refl
last (one ∷ contents) content = last contents content

kept_is : (contents : List Kept) (home : Home) (content : Kept) → IsOwn contents content.row home → kept_at (contents_with contents home content) (place_with contents home) ≡ content
kept_is contents home.ZeroStat content own = last contents content
kept_is contents home.Zeros content own = last contents content
kept_is contents (home.At place) content own = get_or-set_same contents place content (record { row = 0; words = [] }) own.0

longer : (contents : List Kept) (home : Home) (content : Kept) → length (contents_with contents home content) ≡ length contents + to_place home
longer contents home.ZeroStat content = length-append contents (content ∷ [])
longer contents home.Zeros content = length-append contents (content ∷ [])
longer contents (home.At place) content = length-set contents place content ∙ sym (add-zero (length contents))

placed_low : (contents : List Kept) (home : Home) (content : Kept) → IsOwn contents content.row home → place_with contents home < length (contents_with contents home content)
placed_low contents home.ZeroStat content own = omega (arith, length-append contents (content ∷ []))
placed_low contents home.Zeros content own = omega (arith, length-append contents (content ∷ []))
placed_low contents (home.At place) content own = omega (arith, length-set contents place content, own.0)

-- what another row has at its place stays
stays : (contents : List Kept) (home : Home) (content : Kept) (place : ℕ) → IsOwn contents content.row home → place < length contents → ((kept_at contents place).row ≡ content.row → ⊥)
    → kept_at (contents_with contents home content) place ≡ kept_at contents place
stays contents home.ZeroStat content place own low apart = get_or_append_left contents (content ∷ []) (record { row = 0; words = [] }) place low
stays contents home.Zeros content place own low apart = get_or_append_left contents (content ∷ []) (record { row = 0; words = [] }) place low
stays contents (home.At there) content place own low apart =
    get_or-set_other contents there place content (record { row = 0; words = [] }) (λ e. apart (ap (λ p. (kept_at contents p).row) e ∙ own.1))

words_stay : (contents : List Kept) (home other : Home) (content : Kept) (row : ℕ) → IsOwn contents content.row home → (content.row ≡ row → ⊥) → IsOwn contents row other
    → words_at (contents_with contents home content) other ≡ words_at contents other
words_stay contents there home.ZeroStat content row own apart its = refl
words_stay contents there home.Zeros content row own apart its = refl
words_stay contents there (home.At place) content row own apart its = ap (λ (k : Kept). k.words) (stays contents there content place own its.0 (λ e. apart (sym e ∙ its.1)))

own_stays : (contents : List Kept) (home other : Home) (content : Kept) (row : ℕ) → IsOwn contents content.row home → (content.row ≡ row → ⊥) → IsOwn contents row other
    → IsOwn (contents_with contents home content) row other
own_stays contents there home.ZeroStat content row own apart its = tt
own_stays contents there home.Zeros content row own apart its = tt
own_stays contents there (home.At place) content row own apart its =
    (omega (arith, its.0, longer contents there content), ap (λ (k : Kept). k.row) (stays contents there content place own its.0 (λ e. apart (sym e ∙ its.1))) ∙ its.1)

-- numbers that were merged in place
pub merged_at : (contents : List Kept) (there : Home) (row : ℕ) (amount : Stat) (place : ℕ) (found : Kept) (words : List ℕ) → there ≡ home.At place → IsOwn contents row there → found ≡ slice_index_or contents place found
    → words ≡ merged found.words amount → slice_set contents place (record { row = row; words = words }) ≡ contents_with contents there (record { row = row; words = merged (words_at contents there) amount })
merged_at contents there row amount place found words is own read sum =
    let its : IsOwn contents row (home.At place) = subst (IsOwn contents row) is own in
    rw is (ap (λ (w : List ℕ). slice_set contents place (record { row = row; words = w })) (sum ∙ ap (λ (k : Kept). merged k.words amount) (get_or_read contents place found its.0 read (record { row = 0; words = [] }))))

-- the other rows are as before
alike : (heads : List Head) (contents : List Kept) (capacity row : ℕ) (home : Home) (content : Kept) (x : Slot) → row < 14242 → content.row ≡ row → IsOwn contents content.row home → AreKept heads contents capacity
    → slice_set (map (slot_of (contents_with contents home content)) heads) row x ≡ slice_set (map (slot_of contents) heads) row x
alike heads contents capacity row home content x low its own kept =
    let after : List Kept = contents_with contents home content in
    let long : length (map (slot_of after) heads) ≡ length heads = length-map heads (slot_of after) in
    let long' : length (map (slot_of contents) heads) ≡ length heads = length-map heads (slot_of contents) in
    ext_get_or (slot 0 false false []) _ _ (length-set (map (slot_of after) heads) row x ∙ long ∙ sym long' ∙ sym (length-set (map (slot_of contents) heads) row x))
    (λ r few.
    let few' : r < length heads = omega (arith, few, length-set (map (slot_of after) heads) row x, long) in
    let few'' : r < 14242 = omega (arith, few', kept.wide) in
    set_read (map (slot_of after) heads) x row r (omega (arith, long, kept.wide)) ∙ elim (cases_eq row r) [
      | inl e ↦ ap (λ b. cond b x (slot_at (map (slot_of after) heads) r)) (eq-eqb row r e)
          ∙ sym (ap (λ b. cond b x (slot_at (map (slot_of contents) heads) r)) (eq-eqb row r e))
      | inr e ↦ ap (λ z. cond (row == r) x z)
          (get_or-map (slot_of after) heads r no_head (slot 0 false false []) few'
          ∙ (ap (slot (head_at heads r).version (head_at heads r).taken (head_at heads r).allocated) (words_stay contents home (head_at heads r).home content r own (λ z. e (sym its ∙ z)) (kept.own r few''))
          ∙ sym (get_or-map (slot_of contents) heads r no_head (slot 0 false false []) few')))
    ] ∙ sym (set_read (map (slot_of contents) heads) x row r (omega (arith, long', kept.wide))))

-- the rows after one was published
pub published : (slots : List Slot) (heads : List Head) (contents : List Kept) (capacity row : ℕ) (head : Head) (words : List ℕ) → map (slot_of contents) heads ≡ slots → row < 14242 → head ≡ slice_index_or heads row head
    → AreKept heads contents capacity
    → map (slot_of (contents_with contents head.home (record { row = row; words = words }))) (slice_set heads row (record { version = head.version + 1; taken = false; allocated = true; home = home.At (place_with contents head.home) }))
    ≡ slice_set slots row (slot_by (Becomes words) (slot_at slots row))
published slots heads contents capacity row head words view low read kept =
    let content : Kept = record { row = row; words = words } in
    let after : List Kept = contents_with contents head.home content in
    let now : Head = record { version = head.version + 1; taken = false; allocated = true; home = home.At (place_with contents head.home) } in
    let wide : row < length heads = omega (arith, kept.wide) in
    let own : IsOwn contents row head.home = subst (λ (h : Head). IsOwn contents row h.home) (sym (read_head heads row head wide read)) (kept.own row low) in
    let is : slot_of after now ≡ slot (head.version + 1) false true words = ap (λ (k : Kept). slot (head.version + 1) false true k.words) (kept_is contents head.home content own) in
    let x : Slot = slot_of after now in
    let same : slice_set (map (slot_of after) heads) row x ≡ slice_set (map (slot_of contents) heads) row x = alike heads contents capacity row head.home content x low refl own kept in
    map-set (slot_of after) heads row now
    ∙ (same
    ∙ (ap (λ s. slice_set s row x) view
    ∙ (ap (slice_set slots row) is
    ∙ ap (λ (s : Slot). slice_set slots row (slot (s.version + 1) false true words)) (read_slot slots heads contents row head view wide read))))

pub merged_in : (slots : List Slot) (heads : List Head) (contents : List Kept) (capacity row : ℕ) (head : Head) (amount : Stat) → map (slot_of contents) heads ≡ slots → row < 14242 → head ≡ slice_index_or heads row head
    → AreKept heads contents capacity
    → map (slot_of (contents_with contents head.home (record { row = row; words = merged (words_at contents head.home) amount }))) (slice_set heads row (record { version = head.version + 1; taken = false; allocated = true; home = home.At (place_with contents head.home) }))
    ≡ slice_set slots row (slot_by (Merges amount) (slot_at slots row))
merged_in slots heads contents capacity row head amount view low read kept =
    published slots heads contents capacity row head (merged (words_at contents head.home) amount) view low read kept
    ∙ ap (λ (s : Slot). slice_set slots row (slot ((slot_at slots row).version + 1) false true (merged s.content amount))) (read_slot slots heads contents row head view (omega (arith, kept.wide)) read)

pub published_kept : (heads : List Head) (contents : List Kept) (capacity row : ℕ) (head : Head) (words : List ℕ) → row < 14242 → head ≡ slice_index_or heads row head → AreKept heads contents capacity
    → AreKept (slice_set heads row (record { version = head.version + 1; taken = false; allocated = true; home = home.At (place_with contents head.home) }))
    (contents_with contents head.home (record { row = row; words = words })) capacity
published_kept heads contents capacity row head words low read kept =
    let content : Kept = record { row = row; words = words } in
    let now : Head = record { version = head.version + 1; taken = false; allocated = true; home = home.At (place_with contents head.home) } in
    let wide : row < length heads = omega (arith, kept.wide) in
    let is : head ≡ head_at heads row = read_head heads row head wide read in
    let own : IsOwn contents row head.home = subst (λ (h : Head). IsOwn contents row h.home) (sym is) (kept.own row low) in
    record {
      wide = length-set heads row now ∙ kept.wide;
      own = λ r few. elim (cases_eq row r) [
        | inl e ↦ subst (λ (h : Head). IsOwn (contents_with contents head.home content) r h.home) (sym (head_same heads now row r wide e))
            (placed_low contents head.home content own, ap (λ (k : Kept). k.row) (kept_is contents head.home content own) ∙ e)
        | inr e ↦ subst (λ (h : Head). IsOwn (contents_with contents head.home content) r h.home) (sym (head_other heads now row r wide e))
            (own_stays contents head.home (head_at heads r).home content r own e (kept.own r few))
      ];
      placed = omega (arith, kept.placed, sum_by-set head_to_place heads row now no_head wide, ap head_to_place is, longer contents head.home content);
      room = kept.room;
    }
