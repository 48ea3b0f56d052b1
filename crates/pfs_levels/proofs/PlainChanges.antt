-- The calls that led to a plain store have one order: their own.
use Rattle.std.proofs.Common.{ℕ, inl, inr, ◌≡◌, ◌<◌, ◌≤◌, ◌+◌, ◌*◌, ◌==◌, false, true, Bool, cond, ◌&&◌, List, [], ◌∷◌, slice_index, refl, ap, sym, ◌∙◌, subst, arith, eq-eqb, ne_eqb}
use Rattle.std.proofs.lemmas.Bool.{cases_eq, not-false}
use Rattle.pfs_rows.specs.declared.table.Seen.TheVariants.{Whole, Free}
use Rattle.pfs_rows.specs.declared.table.Seen.TheVariants as sees
use Rattle.pfs_levels.specs.declared.answers.Added.TheVariants.{Counted, Held}
use Rattle.pfs_levels.specs.declared.answers.RingPut.TheVariants.{Done, Busy, Late}
use Rattle.pfs_levels.specs.declared.plain.Slot.{Slot}
use Rattle.pfs_levels.specs.declared.answers.Word.{Word}
use Rattle.pfs_levels.specs.Calls.{Call, Adds, Rings, Reads, Loads, Draws, Takes, Puts, Frees, Sets, Enters, Leaves, Meets}
use Rattle.pfs_levels.specs.RowWords.{merged}
use Rattle.pfs_levels.specs.JointCalls.{total, At, at_put, at_free, changes_by, changes_of, count, IsCounted, Setting, sets_by, sets_of, word_version, flags_at, AreWordsCounted, draws_of, AreDrawn, opens_free, frees_at, IsNewer, Agrees, AllAgree, all_calls, Joint}
use Rattle.pfs_levels.specs.PlainStore.{Effect, Merges, Becomes, Renews, Holds, Releases, Op, op, ops_by, ops_of, slot_by, slot_after, AllAnswer, IsFresh, is_put, puts_in, content_by, content_at}
use Rattle.pfs_levels.proofs.PlainContents.{versions, contents, contents_kept, put_new, content_opens, word_versions, words_more, all_flags_kept, word_flags, count_more, frees_more}
use Rattle.pfs_levels.proofs.PlainCalls.{ring_high}

no_put : (b : Bool) (n : ℕ) → cond (b && false) (n + 1) n ≡ n
no_put true n = refl
no_put false n = refl

-- a row's changes are its publications
pub counts : (calls : List Call) (row : ℕ) → 0 < row → count (changes_of calls) row ≡ puts_in (ops_of calls) row
unfolding changes_of ops_of count puts_in
counts [] row up = refl
counts (Adds at amount (Counted r v) ∷ calls) row up = ap (λ n. cond ((r == row) && true) (n + 1) n) (counts calls row up)
counts (Adds at amount (Held r v w) ∷ calls) row up = counts calls row up
counts (Rings at content (Done v) ∷ calls) row up = ap (λ n. cond ((at == row) && true) (n + 1) n) (counts calls row up)
counts (Rings at content (Busy v w) ∷ calls) row up = counts calls row up
counts (Rings at content (Late t v) ∷ calls) row up = counts calls row up
counts (Reads at seen ∷ calls) row up = counts calls row up
counts (Loads at v found ∷ calls) row up = counts calls row up
counts (Draws kind ticket ∷ calls) row up = counts calls row up
counts (Meets versions ∷ calls) row up = counts calls row up
counts (Takes at v found ∷ calls) row up = counts calls row up ∙ sym (no_put (at == row) (puts_in (ops_of calls) row))
counts (Puts at content v ∷ calls) row up = ap (λ n. cond ((at == row) && true) (n + 1) n) (counts calls row up)
counts (Frees at v ∷ calls) row up = ap (λ n. cond ((at == row) && false) (n + 1) n) (counts calls row up)
counts (Sets at to v ∷ calls) row up = counts calls row up
counts (Enters label labels ∷ calls) row up = counts calls row up ∙ sym (no_put (0 == row) (puts_in (ops_of calls) row))
counts (Leaves ∷ calls) row up = counts calls row up ∙ sym (ap (λ b. cond (b && true) (puts_in (ops_of calls) row + 1) (puts_in (ops_of calls) row)) (ne_eqb 0 row (λ z. absurd (omega (arith, up, z)))))

-- the version of a row's slot is the number of its changes
pub slot_version : (calls : List Call) (row : ℕ) → 0 < row → (slot_after (ops_of calls) row).version ≡ count (changes_of calls) row
slot_version calls row up = versions (ops_of calls) row ∙ sym (counts calls row up)

pub plain_chain : (flags : List ℕ) (calls : List Call) → AllAnswer flags calls → IsCounted (changes_of calls)
unfolding changes_of
plain_chain flags [] a = tt
plain_chain flags (Adds at amount (Counted r v) ∷ calls) a =
    let P : ℕ → Type 0 = λ z. v ≡ count (changes_of calls) z + 1 in
    (subst P (sym a.0.1) (a.0.3 ∙ ap (λ z. z + 1) (slot_version calls at (omega (arith, a.0.0.0)))), plain_chain flags calls a.1)
plain_chain flags (Adds at amount (Held r v w) ∷ calls) a = absurd a.0
plain_chain flags (Rings at content (Done v) ∷ calls) a = (a.0.2 ∙ ap (λ z. z + 1) (slot_version calls at (ring_high at content a.0.0)), plain_chain flags calls a.1)
plain_chain flags (Rings at content (Busy v w) ∷ calls) a = absurd a.0
plain_chain flags (Rings at content (Late t v) ∷ calls) a = plain_chain flags calls a.1
plain_chain flags (Reads at seen ∷ calls) a = plain_chain flags calls a.1
plain_chain flags (Loads at v found ∷ calls) a = plain_chain flags calls a.1
plain_chain flags (Draws kind ticket ∷ calls) a = plain_chain flags calls a.1
plain_chain flags (Meets versions ∷ calls) a = plain_chain flags calls a.1
plain_chain flags (Takes at v found ∷ calls) a = plain_chain flags calls a.1
plain_chain flags (Puts at content v ∷ calls) a = (a.0.2 ∙ ap (λ z. z + 1) (slot_version calls at a.0.0.0), plain_chain flags calls a.1)
plain_chain flags (Frees at v ∷ calls) a = (a.0.2 ∙ slot_version calls at a.0.0.0, plain_chain flags calls a.1)
plain_chain flags (Sets at to v ∷ calls) a = plain_chain flags calls a.1
plain_chain flags (Enters label labels ∷ calls) a = plain_chain flags calls a.1
plain_chain flags (Leaves ∷ calls) a = plain_chain flags calls a.1

pub plain_words : (flags : List ℕ) (calls : List Call) → AllAnswer flags calls → AreWordsCounted (sets_of calls)
unfolding sets_of
plain_words flags [] a = tt
plain_words flags (Sets at to v ∷ calls) a = let w = plain_words flags calls a.1 in (a.0.1 ∙ ap (λ z. z + 1) (word_versions flags (sets_of calls) at w), w)
plain_words flags (Adds at amount answer ∷ calls) a = plain_words flags calls a.1
plain_words flags (Rings at content answer ∷ calls) a = plain_words flags calls a.1
plain_words flags (Reads at seen ∷ calls) a = plain_words flags calls a.1
plain_words flags (Loads at v found ∷ calls) a = plain_words flags calls a.1
plain_words flags (Draws kind ticket ∷ calls) a = plain_words flags calls a.1
plain_words flags (Meets versions ∷ calls) a = plain_words flags calls a.1
plain_words flags (Takes at v found ∷ calls) a = plain_words flags calls a.1
plain_words flags (Puts at content v ∷ calls) a = plain_words flags calls a.1
plain_words flags (Frees at v ∷ calls) a = plain_words flags calls a.1
plain_words flags (Enters label labels ∷ calls) a = plain_words flags calls a.1
plain_words flags (Leaves ∷ calls) a = plain_words flags calls a.1

pub plain_tickets : (flags : List ℕ) (calls : List Call) → AllAnswer flags calls → AreDrawn (draws_of calls)
unfolding draws_of
plain_tickets flags [] a = tt
plain_tickets flags (Draws kind ticket ∷ calls) a = (a.0.1, plain_tickets flags calls a.1)
plain_tickets flags (Meets versions ∷ calls) a = plain_tickets flags calls a.1
plain_tickets flags (Sets at to v ∷ calls) a = plain_tickets flags calls a.1
plain_tickets flags (Adds at amount answer ∷ calls) a = plain_tickets flags calls a.1
plain_tickets flags (Rings at content answer ∷ calls) a = plain_tickets flags calls a.1
plain_tickets flags (Reads at seen ∷ calls) a = plain_tickets flags calls a.1
plain_tickets flags (Loads at v found ∷ calls) a = plain_tickets flags calls a.1
plain_tickets flags (Takes at v found ∷ calls) a = plain_tickets flags calls a.1
plain_tickets flags (Puts at content v ∷ calls) a = plain_tickets flags calls a.1
plain_tickets flags (Frees at v ∷ calls) a = plain_tickets flags calls a.1
plain_tickets flags (Enters label labels ∷ calls) a = plain_tickets flags calls a.1
plain_tickets flags (Leaves ∷ calls) a = plain_tickets flags calls a.1

-- a row that is free was released at its version, or opened so
no_put_free : (b : Bool) (s t : Slot) → t.allocated ≡ true → (cond b t s).allocated ≡ false → s.allocated ≡ false
no_put_free true s t whole free = cc
no_put_free false s t whole free = free

held_free : (b : Bool) (s : Slot) → (cond b (slot_by Holds s) s).allocated ≡ false → s.allocated ≡ false
held_free true s free = free
held_free false s free = free

not_put : (b : Bool) (s t : Slot) → t.allocated ≡ true → (cond b t s).allocated ≡ false → b ≡ false
not_put true s t whole free = cc
not_put false s t whole free = refl

-- one more change: that of another row, or a release, which leaves how often the row was published
put_elsewhere : (b : Bool) (n : ℕ) → b ≡ false → cond (b && true) (n + 1) n ≡ n
put_elsewhere b n e = ap (λ z. cond (z && true) (n + 1) n) e

opens_freed : (row : ℕ) → opens_free row ≡ true → 0 < frees_at [] row 0
unfolding total
opens_freed row e = rw e (omega arith)

as_freed : (cs : List At) (row k n : ℕ) → k ≡ n → 0 < frees_at cs row n → 0 < frees_at cs row k
as_freed cs row k n e h = let F : ℕ → Type 0 = λ z. 0 < frees_at cs row z in subst F (sym e) h

still_freed : (x : At) (cs : List At) (row k : ℕ) → 0 < frees_at cs row k → 0 < frees_at (x ∷ cs) row k
still_freed x cs row k h = omega (arith, h, frees_more (x ∷ []) cs row k)

new_freed : (cs : List At) (at row v k : ℕ) → at ≡ row → v ≡ k → 0 < frees_at (at_free at v ∷ cs) row k
unfolding total
new_freed cs at row v k e f = rw (eq-eqb at row e, eq-eqb v k f) (omega arith)

pub frees : (flags : List ℕ) (calls : List Call) (row : ℕ) → AllAnswer flags calls → 0 < row → (slot_after (ops_of calls) row).allocated ≡ false → 0 < frees_at (changes_of calls) row (puts_in (ops_of calls) row)
unfolding slot_after ops_of changes_of puts_in
frees flags [] row a up free = opens_freed row (not-false (opens_free row) free)
frees flags (Adds at amount (Counted r v) ∷ calls) row a up free =
    let os = ops_of calls in
    let t = slot_by (Merges amount) (slot_after os row) in
    as_freed (at_put r v ∷ changes_of calls) row _ (puts_in os row) (put_elsewhere (r == row) (puts_in os row) (not_put (r == row) (slot_after os row) t refl free))
    (still_freed (at_put r v) (changes_of calls) row (puts_in os row) (frees flags calls row a.1 up (no_put_free (r == row) (slot_after os row) t refl free)))
frees flags (Adds at amount (Held r v w) ∷ calls) row a up free = absurd a.0
frees flags (Rings at content (Done v) ∷ calls) row a up free =
    let os = ops_of calls in
    let t = slot_by (Becomes content) (slot_after os row) in
    as_freed (at_put at v ∷ changes_of calls) row _ (puts_in os row) (put_elsewhere (at == row) (puts_in os row) (not_put (at == row) (slot_after os row) t refl free))
    (still_freed (at_put at v) (changes_of calls) row (puts_in os row) (frees flags calls row a.1 up (no_put_free (at == row) (slot_after os row) t refl free)))
frees flags (Rings at content (Busy v w) ∷ calls) row a up free = absurd a.0
frees flags (Rings at content (Late t v) ∷ calls) row a up free = frees flags calls row a.1 up free
frees flags (Reads at seen ∷ calls) row a up free = frees flags calls row a.1 up free
frees flags (Loads at v found ∷ calls) row a up free = frees flags calls row a.1 up free
frees flags (Draws kind ticket ∷ calls) row a up free = frees flags calls row a.1 up free
frees flags (Meets versions ∷ calls) row a up free = frees flags calls row a.1 up free
frees flags (Takes at v found ∷ calls) row a up free = as_freed (changes_of calls) row _ (puts_in (ops_of calls) row) (no_put (at == row) (puts_in (ops_of calls) row)) (frees flags calls row a.1 up (held_free (at == row) (slot_after (ops_of calls) row) free))
frees flags (Puts at content v ∷ calls) row a up free =
    let os = ops_of calls in
    let t = slot_by (Becomes content) (slot_after os row) in
    as_freed (at_put at v ∷ changes_of calls) row _ (puts_in os row) (put_elsewhere (at == row) (puts_in os row) (not_put (at == row) (slot_after os row) t refl free))
    (still_freed (at_put at v) (changes_of calls) row (puts_in os row) (frees flags calls row a.1 up (no_put_free (at == row) (slot_after os row) t refl free)))
frees flags (Frees at v ∷ calls) row a up free = as_freed (at_free at v ∷ changes_of calls) row _ (puts_in (ops_of calls) row) (no_put (at == row) (puts_in (ops_of calls) row)) (elim (cases_eq at row) [
  | inl e ↦ new_freed (changes_of calls) at row v (puts_in (ops_of calls) row) e (a.0.2 ∙ versions (ops_of calls) at ∙ ap (puts_in (ops_of calls)) e)
  | inr e ↦ still_freed (at_free at v) (changes_of calls) row (puts_in (ops_of calls) row) (frees flags calls row a.1 up (let R : Bool → Type 0 = λ b. (cond b (slot_by Releases (slot_after (ops_of calls) row)) (slot_after (ops_of calls) row)).allocated ≡ false in subst R (ne_eqb at row e) free))
])
frees flags (Sets at to v ∷ calls) row a up free = frees flags calls row a.1 up free
frees flags (Enters label labels ∷ calls) row a up free = as_freed (changes_of calls) row _ (puts_in (ops_of calls) row) (no_put (0 == row) (puts_in (ops_of calls) row)) (frees flags calls row a.1 up (held_free (0 == row) (slot_after (ops_of calls) row) free))
frees flags (Leaves ∷ calls) row a up free =
    let os = ops_of calls in
    let t = slot_by Renews (slot_after os row) in
    as_freed (changes_of calls) row _ (puts_in os row) (put_elsewhere (0 == row) (puts_in os row) (not_put (0 == row) (slot_after os row) t refl free)) (frees flags calls row a.1 up (no_put_free (0 == row) (slot_after os row) t refl free))

-- what a call found, with its version in range
abbrev Bound : List At → List Setting → Call → Type 0
Bound log sets (Adds row amount (Counted r k)) = (0 < r) × (k ≤ count log r)
Bound log sets (Adds row amount (Held r v w)) = Unit {0}
Bound log sets (Rings row put (Done k)) = (0 < row) × (k ≤ count log row)
Bound log sets (Rings row put (Busy v w)) = Unit {0}
Bound log sets (Rings row put (Late t v)) = 0 < row
Bound log sets (Reads row seen) = 0 < row
Bound log sets (Loads at k found) = Unit {0}
Bound log sets (Draws kind ticket) = Unit {0}
Bound log sets (Meets versions) = Unit {0}
Bound log sets (Takes row k found) = 0 < row
Bound log sets (Puts row put k) = (0 < row) × (k ≤ count log row)
Bound log sets (Frees row k) = Unit {0}
Bound log sets (Sets at to k) = k ≤ word_version sets at
Bound log sets (Enters label labels) = Unit {0}
Bound log sets Leaves = Unit {0}

abbrev AllBound : List ℕ → (ℕ → ℕ → List ℕ) → List At → List Setting → List Call → Type 0
AllBound flags content log sets [] = Unit {0}
AllBound flags content log sets (call ∷ calls) = (Agrees flags content log sets call × Bound log sets call) × AllBound flags content log sets calls

newer_more : (row : ℕ) (found found2 put : List ℕ) (m m2 : ℕ) → found ≡ found2 → (0 < m → 0 < m2) → IsNewer row found put m → IsNewer row found2 put m2
newer_more row found found2 put m m2 e f newer far = elim (newer far) [
  | inl h ↦ inl (f h)
  | inr h ↦ inr (omega (arith, ap (λ z. slice_index z 15) e, h))
]

-- more was done: what stood at a version that a row or word had still stands
record Extends (flags : List ℕ) (content content2 : ℕ → ℕ → List ℕ) (log log2 : List At) (sets sets2 : List Setting) : Type 0 where
  same : (row k : ℕ) → 0 < row → k ≤ count log row → content2 row k ≡ content row k
  more : (row : ℕ) → count log row ≤ count log2 row
  freed : (row k : ℕ) → 0 < frees_at log row k → 0 < frees_at log2 row k
  flag : (at k : ℕ) → k ≤ word_version sets at → flags_at flags sets2 at k ≡ flags_at flags sets at k
  words : (at : ℕ) → word_version sets at ≤ word_version sets2 at

agree_more : (flags : List ℕ) (content content2 : ℕ → ℕ → List ℕ) (log log2 : List At) (sets sets2 : List Setting) (call : Call) → Extends flags content content2 log log2 sets sets2
    → Agrees flags content log sets call × Bound log sets call → Agrees flags content2 log2 sets2 call × Bound log2 sets2 call
agree_more flags c c2 log log2 ss ss2 (Adds row amount (Counted r k)) x ((n, (e, q)), (up, low)) =
    ((n, (e, x.same r k up low ∙ q ∙ ap (λ z. merged z amount) (sym (x.same r n up (omega (arith, e, low)))))), (up, omega (arith, low, x.more r)))
agree_more flags c c2 log log2 ss ss2 (Adds row amount (Held r v w)) x f = (tt, tt)
agree_more flags c c2 log log2 ss ss2 (Rings row put (Done k)) x ((n, (e, q, newer)), (up, low)) =
    ((n, (e, x.same row k up low ∙ q, newer_more row (c row n) (c2 row n) put _ _ (sym (x.same row n up (omega (arith, e, low)))) (x.freed row n) newer)), (up, omega (arith, low, x.more row)))
agree_more flags c c2 log log2 ss ss2 (Rings row put (Busy v w)) x f = (tt, tt)
agree_more flags c c2 log log2 ss ss2 (Rings row put (Late t v)) x ((q, low), up) = ((ap (λ z. slice_index z 15) (x.same row v up low) ∙ q, omega (arith, low, x.more row)), up)
agree_more flags c c2 log log2 ss ss2 (Reads row (Whole k found)) x ((q, low), up) = ((q ∙ sym (x.same row k up low), omega (arith, low, x.more row)), up)
agree_more flags c c2 log log2 ss ss2 (Reads row (Free w)) x ((k, (e, q)), up) = ((k, (e, x.freed row k q)), up)
agree_more flags c c2 log log2 ss ss2 (Reads row (sees.Busy v w)) x f = f
agree_more flags c c2 log log2 ss ss2 (Loads at k found) x ((q, low), t) = ((q ∙ sym (x.flag at k low), omega (arith, low, x.words at)), tt)
agree_more flags c c2 log log2 ss ss2 (Draws kind ticket) x f = f
agree_more flags c c2 log log2 ss ss2 (Meets versions) x f = (λ at low. omega (arith, f.0 at low, x.words at), tt)
agree_more flags c c2 log log2 ss ss2 (Takes row k found) x ((q, low), up) = ((q ∙ sym (x.same row k up low), omega (arith, low, x.more row)), up)
agree_more flags c c2 log log2 ss ss2 (Puts row put k) x (q, (up, low)) = (x.same row k up low ∙ q, (up, omega (arith, low, x.more row)))
agree_more flags c c2 log log2 ss ss2 (Frees row k) x f = f
agree_more flags c c2 log log2 ss ss2 (Sets at to k) x (q, low) = (x.flag at k low ∙ q, omega (arith, low, x.words at))
agree_more flags c c2 log log2 ss ss2 (Enters label labels) x f = f
agree_more flags c c2 log log2 ss ss2 Leaves x f = f

all_more : (flags : List ℕ) (content content2 : ℕ → ℕ → List ℕ) (log log2 : List At) (sets sets2 : List Setting) (calls : List Call) → Extends flags content content2 log log2 sets sets2
    → AllBound flags content log sets calls → AllBound flags content2 log2 sets2 calls
all_more flags c c2 log log2 ss ss2 [] x f = tt
all_more flags c c2 log log2 ss ss2 (call ∷ calls) x f = (agree_more flags c c2 log log2 ss ss2 call x f.0, all_more flags c c2 log log2 ss ss2 calls x f.1)

extends : (flags : List ℕ) (call : Call) (calls : List Call) → AllAnswer flags (call ∷ calls) → Extends flags (content_at (ops_of calls)) (content_at (ops_of (call ∷ calls))) (changes_of calls) (changes_of (call ∷ calls)) (sets_of calls) (sets_of (call ∷ calls))
unfolding ops_of changes_of sets_of
extends flags call calls a = record {
  same = λ row k up low. contents_kept (ops_by call) (ops_of calls) row k (omega (arith, low, counts calls row up));
  more = count_more (changes_by call) (changes_of calls);
  freed = λ row k h. omega (arith, h, frees_more (changes_by call) (changes_of calls) row k);
  flag = λ at k low. all_flags_kept flags (sets_by call) (sets_of calls) at k (plain_words flags (call ∷ calls) a) low;
  words = words_more (sets_by call) (sets_of calls);
}

-- the content of a row, from its newest publication on
now_at : (os : List Op) (row k : ℕ) → k ≡ puts_in os row → (slot_after os row).content ≡ content_at os row k
now_at os row k e = contents os row k (omega (arith, e))

slot_puts : (os : List Op) (row v : ℕ) → v ≡ (slot_after os row).version + 1 → v ≡ puts_in os row + 1
slot_puts os row v e = e ∙ ap (λ z. z + 1) (versions os row)

-- the newest call
newest_put : (calls : List Call) (row : ℕ) (e : Effect) (v : ℕ) → is_put e ≡ true → v ≡ (slot_after (ops_of calls) row).version + 1 → content_at (op row e ∷ ops_of calls) row v ≡ content_by e (slot_after (ops_of calls) row).content
newest_put calls row e v put next = put_new (ops_of calls) row e v put (slot_puts (ops_of calls) row v next)

put_low : (cs : List At) (row v n : ℕ) → v ≡ n + 1 → count cs row ≡ n → v ≤ count (at_put row v ∷ cs) row
unfolding count
put_low cs row v n e f = rw (eq-eqb row row refl) (omega (arith, e, f))

fresh_newer : (calls : List Call) (flags : List ℕ) (row : ℕ) (put found : List ℕ) (log : List At) (n : ℕ) → AllAnswer flags calls → 0 < row → n ≡ puts_in (ops_of calls) row → found ≡ (slot_after (ops_of calls) row).content
    → ((0 < frees_at (changes_of calls) row n) → 0 < frees_at log row n) → IsFresh row (slot_after (ops_of calls) row) put → IsNewer row found put (frees_at log row n)
fresh_newer calls flags row put found log n a up e f more fresh far = elim (fresh far) [
  | inl h ↦ inl (more (as_freed (changes_of calls) row n (puts_in (ops_of calls) row) e (frees flags calls row a up h)))
  | inr h ↦ inr (omega (arith, ap (λ z. slice_index z 15) f, h))
]

newest_set : (flags : List ℕ) (at to v : ℕ) (ss : List Setting) → v ≡ word_version ss at + 1 → (flags_at flags (record { word = at; version = v; flags = to } ∷ ss) at v ≡ to) × (v ≤ word_version (record { word = at; version = v; flags = to } ∷ ss) at)
unfolding flags_at word_version
newest_set flags at to v ss next = (rw (eq-eqb at at refl, eq-eqb v v refl) refl, rw (eq-eqb at at refl) (omega (arith, next)))

newest : (flags : List ℕ) (call : Call) (calls : List Call) → AllAnswer flags (call ∷ calls) → Agrees flags (content_at (ops_of (call ∷ calls))) (changes_of (call ∷ calls)) (sets_of (call ∷ calls)) call × Bound (changes_of (call ∷ calls)) (sets_of (call ∷ calls)) call
unfolding ops_of changes_of sets_of
newest flags (Adds row amount (Counted r v)) calls a =
    let os = ops_of calls in
    let up : 0 < row = omega (arith, a.0.0.0) in
    let P : ℕ → Type 0 = λ z. ((n : ℕ) × ((v ≡ n + 1) × (content_at (op z (Merges amount) ∷ os) z v ≡ merged (content_at (op z (Merges amount) ∷ os) z n) amount))) × ((0 < z) × (v ≤ count (at_put z v ∷ changes_of calls) z)) in
    let n = puts_in os row in
    let next : v ≡ n + 1 = slot_puts os row v a.0.3 in
    let before : (slot_after os row).content ≡ content_at (op row (Merges amount) ∷ os) row n = now_at os row n refl ∙ sym (contents_kept (op row (Merges amount) ∷ []) os row n (omega arith)) in
    subst P (sym a.0.1) ((n, (next, newest_put calls row (Merges amount) v refl a.0.3 ∙ ap (λ z. merged z amount) before)), (up, put_low (changes_of calls) row v n next (counts calls row up)))
newest flags (Adds row amount (Held r v w)) calls a = absurd a.0
newest flags (Rings row put (Done v)) calls a =
    let os = ops_of calls in
    let up : 0 < row = ring_high row put a.0.0 in
    let n = puts_in os row in
    let next : v ≡ n + 1 = slot_puts os row v a.0.2 in
    let before : content_at (op row (Becomes put) ∷ os) row n ≡ (slot_after os row).content = contents_kept (op row (Becomes put) ∷ []) os row n (omega arith) ∙ sym (now_at os row n refl) in
    ((n, (next, newest_put calls row (Becomes put) v refl a.0.2, fresh_newer calls flags row put _ (at_put row v ∷ changes_of calls) n a.1 up refl before (still_freed (at_put row v) (changes_of calls) row n) a.0.3)), (up, put_low (changes_of calls) row v n next (counts calls row up)))
newest flags (Rings row put (Busy v w)) calls a = absurd a.0
newest flags (Rings row put (Late t v)) calls a =
    let os = ops_of calls in
    let up : 0 < row = ring_high row put a.0.0 in
    let e : v ≡ puts_in os row = a.0.5 ∙ versions os row in
    ((ap (λ z. slice_index z 15) (sym (now_at os row v e)) ∙ a.0.3, omega (arith, e, counts calls row up)), up)
newest flags (Reads row (Whole v found)) calls a =
    let up = a.0.0.0 in
    let e : v ≡ puts_in (ops_of calls) row = a.0.2 ∙ versions (ops_of calls) row in
    ((a.0.3 ∙ now_at (ops_of calls) row v e, omega (arith, e, counts calls row up)), up)
newest flags (Reads row (Free w)) calls a =
    let up = a.0.0.0 in
    ((puts_in (ops_of calls) row, (a.0.2 ∙ ap (λ z. 4 * z) (versions (ops_of calls) row), frees flags calls row a.1 up a.0.1)), up)
newest flags (Reads row (sees.Busy v w)) calls a = absurd a.0
newest flags (Loads at v found) calls a =
    let ws = plain_words flags calls a.1 in
    let e : v ≡ word_version (sets_of calls) at = ap (λ (y : Word). y.version) a.0.1 ∙ word_versions flags (sets_of calls) at ws in
    ((ap (λ (y : Word). y.flags) a.0.1 ∙ word_flags flags (sets_of calls) at ws ∙ ap (λ z. flags_at flags (sets_of calls) at z) (sym e), omega (arith, e)), tt)
newest flags (Draws kind ticket) calls a = (tt, tt)
newest flags (Meets versions) calls a = absurd a.0
newest flags (Takes row v found) calls a =
    let up = a.0.0.0 in
    let e : v ≡ puts_in (ops_of calls) row = a.0.2 ∙ versions (ops_of calls) row in
    ((a.0.3 ∙ now_at (ops_of calls) row v e ∙ sym (contents_kept (op row Holds ∷ []) (ops_of calls) row v (omega (arith, e))), omega (arith, e, counts calls row up)), up)
newest flags (Puts row put v) calls a =
    let up = a.0.0.0 in
    let n = puts_in (ops_of calls) row in
    let next : v ≡ n + 1 = slot_puts (ops_of calls) row v a.0.2 in
    (newest_put calls row (Becomes put) v refl a.0.2, (up, put_low (changes_of calls) row v n next (counts calls row up)))
newest flags (Frees row v) calls a = (tt, tt)
newest flags (Sets at to v) calls a = newest_set flags at to v (sets_of calls) (plain_words flags (Sets at to v ∷ calls) a).0
newest flags (Enters label labels) calls a = (tt, tt)
newest flags Leaves calls a = (tt, tt)

pub plain_found : (flags : List ℕ) (calls : List Call) → AllAnswer flags calls → AllBound flags (content_at (ops_of calls)) (changes_of calls) (sets_of calls) calls
plain_found flags [] a = tt
plain_found flags (call ∷ calls) a = (newest flags call calls a, all_more flags (content_at (ops_of calls)) (content_at (ops_of (call ∷ calls))) (changes_of calls) (changes_of (call ∷ calls)) (sets_of calls) (sets_of (call ∷ calls)) calls (extends flags call calls a) (plain_found flags calls a.1))

agree_all : (flags : List ℕ) (content : ℕ → ℕ → List ℕ) (log : List At) (sets : List Setting) (calls : List Call) → AllBound flags content log sets calls → AllAgree flags content log sets calls
agree_all flags content log sets [] f = tt
agree_all flags content log sets (call ∷ calls) f = (f.0.0, agree_all flags content log sets calls f.1)

-- any number of actors that used a plain store one after another, the last one first
pub plain_joint : (flags : List ℕ) (actors : List (List Call)) → AllAnswer flags (all_calls actors)
    → Joint flags actors (content_at (ops_of (all_calls actors))) (changes_of (all_calls actors)) (sets_of (all_calls actors)) (draws_of (all_calls actors))
plain_joint flags actors a =
    let calls = all_calls actors in
    record {
      chain = plain_chain flags calls a;
      words = plain_words flags calls a;
      tickets = plain_tickets flags calls a;
      opens = λ row up low. content_opens (ops_of calls) row;
      once = λ h. refl;
      sets_once = λ h. refl;
      draws_once = λ h. refl;
      agrees = agree_all flags (content_at (ops_of calls)) (changes_of calls) (sets_of calls) calls (plain_found flags calls a);
    }
