-- A log with one entry more.
use Rattle.std.proofs.Common.{ℕ, ◌≡◌, ◌<◌, ◌+◌, List, [], ◌∷◌, ◌++◌, Some, map, length, take, refl, ap, sym, subst, ◌∙◌, arith}
use Rattle.std.specs.List.{All}
use Rattle.std.proofs.lemmas.List.{map-append, get_or_append_left, length-append, take_more}
use Rattle.std.proofs.lemmas.Option.{get_or_from_slice_get, slice_get_within}
use Rattle.std.proofs.lemmas.List.Elements.{All-head, All-tail, All-push, All-weaker}
use Rattle.std.specs.Prelude.{slice_get, slice_index_or}
use Rattle.pfs_event.specs.declared.entry.Entry.{Entry}
use Rattle.pfs_event.specs.declared.packed.Packed.{Packed}
use Rattle.pfs_event.specs.declared.packed.Packed.TheVariants as packed
use Rattle.pfs_event.specs.declared.short.Short.{Short}
use Rattle.pfs_event.specs.declared.short.Short.TheVariants as short
use Rattle.pfs_event.specs.PackedEntries.{IsAmong, IsShort, entry_of, short_of, entries_of}

pub short_more : (others : List Packed) (shorts : List Short) (form : Short) (entry : Entry) → IsShort entry form → entries_of others (shorts ++ form ∷ []) ≡ entries_of others shorts ++ entry ∷ []
short_more others shorts form entry is =
    map-append (short_of others) shorts (form ∷ []) ∙ ap (λ e. map (short_of others) shorts ++ e ∷ []) (is.is others)

pub short_among : (others : ℕ) (shorts : List Short) (form : Short) (entry : Entry) → IsShort entry form → All (IsAmong others) shorts → All (IsAmong others) (shorts ++ form ∷ [])
short_among others shorts form entry is all = All-push (IsAmong others) shorts form all (is.alone others)

-- one more of the others changes nothing
same : (others : List Packed) (one : Packed) (form : Short) → IsAmong (length others) form → short_of (others ++ one ∷ []) form ≡ short_of others form
same others one (short.Long place) among = ap entry_of (get_or_append_left others (one ∷ []) packed.Settle place among)
same others one (short.Start verdict has_words has_table event consumers thread class table) among = refl
same others one (short.End is_through consumers thread event last) among = refl
same others one (short.Single which number) among = refl
same others one (short.Pair which row version) among = refl
same others one (short.Triple which row second third) among = refl
same others one short.Settle among = refl
same others one short.Query among = refl

kept : (others : List Packed) (one : Packed) (shorts : List Short) → All (IsAmong (length others)) shorts → entries_of (others ++ one ∷ []) shorts ≡ entries_of others shorts
kept others one [] all = refl
kept others one (form ∷ shorts) all =
    ap (λ e. e ∷ entries_of (others ++ one ∷ []) shorts) (same others one form (All-head (IsAmong (length others)) form shorts all))
    ∙ ap (λ es. short_of others form ∷ es) (kept others one shorts (All-tail (IsAmong (length others)) form shorts all))

last : (others : List Packed) (one : Packed) → slice_index_or (others ++ one ∷ []) (length others) packed.Settle ≡ one
last [] one = refl
last (other ∷ others) one = last others one

pub long_more : (others : List Packed) (shorts : List Short) (one : Packed) (entry : Entry) → entry_of one ≡ entry → All (IsAmong (length others)) shorts
    → entries_of (others ++ one ∷ []) (shorts ++ short.Long (length others) ∷ []) ≡ entries_of others shorts ++ entry ∷ []
long_more others shorts one entry is all =
    map-append (short_of (others ++ one ∷ [])) shorts (short.Long (length others) ∷ [])
    ∙ (ap (λ es. es ++ entry_of (slice_index_or (others ++ one ∷ []) (length others) packed.Settle) ∷ []) (kept others one shorts all)
    ∙ ap (λ e. entries_of others shorts ++ e ∷ []) (ap entry_of (last others one) ∙ is))

more : (n : ℕ) (form : Short) → IsAmong n form → IsAmong (n + 1) form
more n (short.Long place) among = omega (arith, among)
more n (short.Start verdict has_words has_table event consumers thread class table) among = tt
more n (short.End is_through consumers thread event last) among = tt
more n (short.Single which number) among = tt
more n (short.Pair which row version) among = tt
more n (short.Triple which row second third) among = tt
more n short.Settle among = tt
more n short.Query among = tt

pub long_among : (others : List Packed) (shorts : List Short) (one : Packed) → All (IsAmong (length others)) shorts
    → All (IsAmong (length (others ++ one ∷ []))) (shorts ++ short.Long (length others) ∷ [])
long_among others shorts one all =
    subst (λ n. All (IsAmong n) (shorts ++ short.Long (length others) ∷ [])) (sym (length-append others (one ∷ [])))
    (All-push (IsAmong (length others + 1)) shorts (short.Long (length others))
    (All-weaker (IsAmong (length others)) (IsAmong (length others + 1)) (more (length others)) shorts all) (omega arith))

-- the same of a log whose parts are told by equations
pub long_logged : (others others' : List Packed) (shorts shorts' : List Short) (one : Packed) (entry : Entry) (at : ℕ) → at ≡ length others → others' ≡ others ++ one ∷ [] → shorts' ≡ shorts ++ short.Long at ∷ []
    → entry_of one ≡ entry → All (IsAmong (length others)) shorts → entries_of others' shorts' ≡ entries_of others shorts ++ entry ∷ []
long_logged others others' shorts shorts' one entry at there added put is all =
    ap (λ os. entries_of os shorts') added
    ∙ (ap (entries_of (others ++ one ∷ [])) (put ∙ ap (λ n. shorts ++ short.Long n ∷ []) there)
    ∙ long_more others shorts one entry is all)

-- the first entries with the next one
pub taken : (xs : List Entry) (i : ℕ) (there : Entry) → slice_get xs i ≡ Some there → take (i + 1) xs ≡ take i xs ++ there ∷ []
taken xs i there stands = take_more xs i there (slice_get_within xs i there stands) ∙ ap (λ (e : Entry). take i xs ++ e ∷ []) (get_or_from_slice_get xs i there there stands)
