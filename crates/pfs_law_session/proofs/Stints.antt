-- Stints one after another: one more of them, those of one session, and by whom they are done.
use Rattle.std.proofs.Common.{ℕ, ◌≡◌, ◌==◌, Bool, true, false, cond, List, [], ◌∷◌, ◌++◌, refl, ap, sym, ◌∙◌, subst}
use Rattle.std.proofs.lemmas.Bool.{eqb-true}
use Rattle.std.proofs.lemmas.List.{append_assoc}
use Rattle.pfs_event.specs.declared.entry.Entry.{Entry}
use Rattle.pfs_model.specs.Contexts.{Context, subject_of, noted, turned, after}
use Rattle.pfs_model.specs.Contexts.{fresh as empty}
use Rattle.pfs_model.specs.EntryPlaces.{Block, Placed, placed_part, placed_lines, after_lines, told_by, places_behind, chosen, by_session}
use Rattle.pfs_model.specs.declared.lines.Line.{Line}
use Rattle.pfs_session.specs.SessionStates.{State, fresh}
use Rattle.pfs_law_session.proofs.JournalLines.{parts_number}
use Rattle.pfs_law_session.specs.Deeds.{Part}
use Rattle.pfs_law_session.specs.JournalLaws.{AreParts, lines_of, entries_of, state_behind, over_behind}
use Rattle.pfs_law_session.specs.Stints.{Stint, block_of, blocks_of, resumed, state_by, over_by, IsStint, AreStintsBehind, AreDone, StintsLaw}

-- one stint more
pub state_more : (session : ℕ) (s : State) (stints : List Stint) (stint : Stint)
    → state_by session s (stints ++ stint ∷ []) ≡ cond (stint.session == session) (resumed (state_behind (state_by session s stints) stint.parts)) (state_by session s stints)
state_more session s [] stint = refl
state_more session s (x ∷ xs) stint = state_more session (cond (x.session == session) (resumed (state_behind s x.parts)) s) xs stint

pub over_more : (session : ℕ) (over : Bool) (stints : List Stint) (stint : Stint)
    → over_by session over (stints ++ stint ∷ []) ≡ cond (stint.session == session) (over_behind (over_by session over stints) stint.parts) (over_by session over stints)
over_more session over [] stint = refl
over_more session over (x ∷ xs) stint = over_more session (cond (x.session == session) (over_behind over x.parts) over) xs stint

pub told_more : (session : ℕ) (c : Context) (blocks : List Block) (block : Block)
    → told_by session c (blocks ++ block ∷ []) ≡ cond (block.session == session) (after_lines (told_by session c blocks) block.lines block.parts) (told_by session c blocks)
told_more session c [] block = refl
told_more session c (x ∷ xs) block = told_more session (cond (x.session == session) (after_lines c x.lines x.parts) c) xs block

pub blocks_more : (stints : List Stint) (stint : Stint) → blocks_of (stints ++ stint ∷ []) ≡ blocks_of stints ++ block_of stint ∷ []
blocks_more [] stint = refl
blocks_more (x ∷ xs) stint = ap (λ z. block_of x ∷ z) (blocks_more xs stint)

-- the entries of a session's own stints, behind what its journal told before
abbrev pub own_places : ℕ → Context → List Stint → List Placed
own_places k context [] = []
own_places k context (stint ∷ stints) =
    cond (stint.session == k) (placed_lines stint.phase k context (lines_of stint.parts) (entries_of stint.parts)) []
    ++ own_places k (cond (stint.session == k) (after_lines context (lines_of stint.parts) (entries_of stint.parts)) context) stints

chosen_then : (test : Placed → Bool) (xs ys : List Placed) → chosen test (xs ++ ys) ≡ chosen test xs ++ chosen test ys
chosen_then test [] ys = refl
chosen_then test (x ∷ xs) ys =
    let own : List Placed = cond (test x) (x ∷ []) [] in
    ap (λ z. own ++ z) (chosen_then test xs ys) ∙ sym (append_assoc own (chosen test xs) (chosen test ys))

-- a block is one session's
part_own : (k phase session : ℕ) (line : Line) (context : Context) (es : List Entry) (b : Bool) → (session == k) ≡ b
    → by_session k (placed_part phase session line context es) ≡ cond b (placed_part phase session line context es) []
part_own k phase session line context [] true q = refl
part_own k phase session line context [] false q = refl
part_own k phase session line context (e ∷ es) true q =
    let here : Placed = record { phase = phase; session = session; line = line; context = context; entry = e } in
    let rest : List Placed = placed_part phase session line (noted (subject_of line) context e) es in
    ap (λ z. cond z (here ∷ []) [] ++ by_session k rest) q ∙ ap (λ z. here ∷ z) (part_own k phase session line (noted (subject_of line) context e) es true q)
part_own k phase session line context (e ∷ es) false q =
    let here : Placed = record { phase = phase; session = session; line = line; context = context; entry = e } in
    let rest : List Placed = placed_part phase session line (noted (subject_of line) context e) es in
    ap (λ z. cond z (here ∷ []) [] ++ by_session k rest) q ∙ part_own k phase session line (noted (subject_of line) context e) es false q

lines_own : (k phase session : ℕ) (context : Context) (lines : List Line) (parts : List (List Entry)) (b : Bool) → (session == k) ≡ b
    → by_session k (placed_lines phase session context lines parts) ≡ cond b (placed_lines phase session context lines parts) []
lines_own k phase session context [] parts true q = refl
lines_own k phase session context [] parts false q = refl
lines_own k phase session context (line ∷ lines) [] true q = refl
lines_own k phase session context (line ∷ lines) [] false q = refl
lines_own k phase session context (line ∷ lines) (part ∷ parts) true q =
    let here : List Placed = placed_part phase session line (turned context) part in
    let rest : List Placed = placed_lines phase session (after context line part) lines parts in
    chosen_then (λ place. place.session == k) here rest
    ∙ (ap (λ z. z ++ by_session k rest) (part_own k phase session line (turned context) part true q) ∙ ap (λ z. here ++ z) (lines_own k phase session (after context line part) lines parts true q))
lines_own k phase session context (line ∷ lines) (part ∷ parts) false q =
    let here : List Placed = placed_part phase session line (turned context) part in
    let rest : List Placed = placed_lines phase session (after context line part) lines parts in
    chosen_then (λ place. place.session == k) here rest
    ∙ (ap (λ z. z ++ by_session k rest) (part_own k phase session line (turned context) part false q) ∙ lines_own k phase session (after context line part) lines parts false q)

-- the entries of a session among all of them are those of its own stints
pub own_is : (k : ℕ) (earlier : List Block) (context : Context) (stints : List Stint) → told_by k empty earlier ≡ context
    → by_session k (places_behind earlier (blocks_of stints)) ≡ own_places k context stints
unfolding places_behind
own_is k earlier context [] e = refl
own_is k earlier context (stint ∷ stints) e =
    let lines : List Line = lines_of stint.parts in
    let parts : List (List Entry) = entries_of stint.parts in
    let here : List Placed = placed_lines stint.phase stint.session (told_by stint.session empty earlier) lines parts in
    let rest : List Placed = places_behind (earlier ++ block_of stint ∷ []) (blocks_of stints) in
    let behind : Context = cond (stint.session == k) (after_lines context lines parts) context in
    let next : told_by k empty (earlier ++ block_of stint ∷ []) ≡ behind =
    told_more k empty earlier (block_of stint) ∙ ap (λ z. cond (stint.session == k) (after_lines z lines parts) z) e in
    chosen_then (λ place. place.session == k) here rest
    ∙ (ap (λ z. z ++ by_session k rest) (first (stint.session == k) refl)
    ∙ ap (λ z. cond (stint.session == k) (placed_lines stint.phase k context lines parts) [] ++ z) (own_is k (earlier ++ block_of stint ∷ []) behind stints next)) where
      first : (b : Bool) → (stint.session == k) ≡ b
          → by_session k (placed_lines stint.phase stint.session (told_by stint.session empty earlier) (lines_of stint.parts) (entries_of stint.parts))
          ≡ cond b (placed_lines stint.phase k context (lines_of stint.parts) (entries_of stint.parts)) []
      first true q =
          lines_own k stint.phase stint.session (told_by stint.session empty earlier) (lines_of stint.parts) (entries_of stint.parts) true q
          ∙ (ap (λ z. placed_lines stint.phase z (told_by z empty earlier) (lines_of stint.parts) (entries_of stint.parts)) (eqb-true stint.session k q)
          ∙ ap (λ z. placed_lines stint.phase k z (lines_of stint.parts) (entries_of stint.parts)) e)
      first false q = lines_own k stint.phase stint.session (told_by stint.session empty earlier) (lines_of stint.parts) (entries_of stint.parts) false q

-- a session does its own stints, each from where the last one left it
abbrev pub IfOwn : Bool → Bool → State → List Part → Type 0
IfOwn true over s parts = IsStint over s parts
IfOwn false over s parts = Unit {0}

abbrev pub AreOwn : ℕ → Bool → State → List Stint → Type 0
AreOwn k over s [] = Unit {0}
AreOwn k over s (stint ∷ stints) =
    IfOwn (stint.session == k) over s stint.parts
    × AreOwn k (cond (stint.session == k) (over_behind over stint.parts) over) (cond (stint.session == k) (resumed (state_behind s stint.parts)) s) stints

pub own_stints : (stack : ℕ) (depths : ℕ → ℕ) (k : ℕ) (earlier : List Stint) (phase : ℕ) (stints : List Stint) → AreStintsBehind stack depths earlier phase stints
    → AreOwn k (over_by k false earlier) (state_by k (fresh k stack (depths k)) earlier) stints
own_stints stack depths k earlier phase [] are = tt
own_stints stack depths k earlier phase (stint ∷ stints) are =
    let over : Bool = over_by k false earlier in
    let s : State = state_by k (fresh k stack (depths k)) earlier in
    let next = own_stints stack depths k (earlier ++ stint ∷ []) stint.phase stints are.2 in
    let moved = subst (λ z. AreOwn k z (state_by k (fresh k stack (depths k)) (earlier ++ stint ∷ [])) stints) (over_more k false earlier stint) next in
    let rest = subst (λ z. AreOwn k (cond (stint.session == k) (over_behind over stint.parts) over) z stints) (state_more k (fresh k stack (depths k)) earlier stint) moved in
    (at (stint.session == k) refl, rest) where
      at : (b : Bool) → (stint.session == k) ≡ b → IfOwn b (over_by k false earlier) (state_by k (fresh k stack (depths k)) earlier) stint.parts
      at true e = subst (λ z. IsStint (over_by z false earlier) (state_by z (fresh z stack (depths z)) earlier) stint.parts) (eqb-true stint.session k e) are.1
      at false e = tt

-- sessions keep their numbers
abbrev KeepNumbers : ℕ → (ℕ → ℕ) → List Stint → Type 0
KeepNumbers stack depths earlier = (k : ℕ) → (state_by k (fresh k stack (depths k)) earlier).number ≡ k

numbers_next : (stack : ℕ) (depths : ℕ → ℕ) (earlier : List Stint) (stint : Stint) → KeepNumbers stack depths earlier
    → AreParts (state_by stint.session (fresh stint.session stack (depths stint.session)) earlier) stint.parts → KeepNumbers stack depths (earlier ++ stint ∷ [])
numbers_next stack depths earlier stint keep are =
    λ k. ap (λ (z : State). z.number) (state_more k (fresh k stack (depths k)) earlier stint) ∙ at k (stint.session == k) refl where
      at : (k : ℕ) (b : Bool) → (stint.session == k) ≡ b
          → (cond b (resumed (state_behind (state_by k (fresh k stack (depths k)) earlier) stint.parts)) (state_by k (fresh k stack (depths k)) earlier)).number ≡ k
      at k true e =
          parts_number (state_by k (fresh k stack (depths k)) earlier) stint.parts
          (subst (λ z. AreParts (state_by z (fresh z stack (depths z)) earlier) stint.parts) (eqb-true stint.session k e) are) ∙ keep k
      at k false e = keep k

done_behind : (stack : ℕ) (depths : ℕ → ℕ) (earlier : List Stint) (phase : ℕ) (stints : List Stint) → KeepNumbers stack depths earlier → AreStintsBehind stack depths earlier phase stints
    → AreDone stints
done_behind stack depths earlier phase [] keep are = tt
done_behind stack depths earlier phase (stint ∷ stints) keep are =
    let is : IsStint (over_by stint.session false earlier) (state_by stint.session (fresh stint.session stack (depths stint.session)) earlier) stint.parts = are.1 in (
      record { from = state_by stint.session (fresh stint.session stack (depths stint.session)) earlier; number_is = keep stint.session; are_parts = is.are_parts },
      done_behind stack depths (earlier ++ stint ∷ []) stint.phase stints (numbers_next stack depths earlier stint keep is.are_parts) are.2,
    )

pub done : StintsLaw
done = λ stack depths stints are. done_behind stack depths [] 0 stints (λ k. refl) are
