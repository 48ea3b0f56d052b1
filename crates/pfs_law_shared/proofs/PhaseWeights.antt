-- What all sessions print up to a phase weighs as what their calls did up to it, whoever ran when.
use Rattle.std.proofs.Common.{ℕ, ◌≡◌, ◌==◌, Bool, true, false, cond, List, [], ◌∷◌, ◌++◌, refl, ap, sym, ◌∙◌, subst, arith}
use Rattle.std.specs.Prelude.{nat_le}
use Rattle.std.proofs.lemmas.Bool.{eqb-true}
use Rattle.std.proofs.lemmas.List.{append_assoc}
use Rattle.pfs_event.specs.declared.entry.Entry.{Entry}
use Rattle.pfs_levels.specs.Calls.{Call}
use Rattle.pfs_levels.specs.JointCalls.{total, changes_of, sets_of}
use Rattle.pfs_model.specs.Actions.{settings_of, setting_at}
use Rattle.pfs_model.specs.Chains.{row_change, release_of, each_of}
use Rattle.pfs_model.specs.Contexts.{Context, noted, subject_of, turned, after}
use Rattle.pfs_model.specs.Contexts.{fresh as empty}
use Rattle.pfs_model.specs.EntryPlaces.{Block, Placed, placed_part, placed_lines, places_behind, after_lines, told_by, chosen, up_to_phase}
use Rattle.pfs_model.specs.declared.lines.Line.{Line}
use Rattle.pfs_session.specs.SessionStates.{State, fresh}
use Rattle.pfs_law_session.specs.Deeds.{Part, parts_calls}
use Rattle.pfs_law_session.specs.JournalLaws.{lines_of, entries_of, state_behind}
use Rattle.pfs_law_session.specs.Stints.{Stint, block_of, blocks_of, resumed, state_by, AreStintsBehind}
use Rattle.pfs_law_session.proofs.Stints.{state_more, told_more, blocks_more}
use Rattle.pfs_law_plain.specs.SessionNotes.{Sits, ToldLaw}
use Rattle.pfs_law_plain.specs.Spells.{Spell, parts_in, stint_of, stints_of}
use Rattle.pfs_law_plain.specs.Weights.{put_at, free_at, setting_of, AreWeighed, WeighedLaw}
use Rattle.pfs_law_joint.proofs.Sums.{total_then}
use Rattle.pfs_law_joint.proofs.MarkSums.{changes_then, sets_then}

-- entries one after another weigh as their calls one after another
pub each_then : {A : Type 0} (given : Entry → List A) (xs ys : List Placed) → each_of given (xs ++ ys) ≡ each_of given xs ++ each_of given ys
each_then given [] ys = refl
each_then given (x ∷ xs) ys = ap (λ z. given x.entry ++ z) (each_then given xs ys) ∙ sym (append_assoc (given x.entry) (each_of given xs) (each_of given ys))

pub settings_then : (xs ys : List Placed) → settings_of (xs ++ ys) ≡ settings_of xs ++ settings_of ys
settings_then [] ys = refl
settings_then (x ∷ xs) ys = ap (λ z. setting_at x.context.action x.entry ++ z) (settings_then xs ys) ∙ sym (append_assoc (setting_at x.context.action x.entry) (settings_of xs) (settings_of ys))

weighed_none : AreWeighed [] []
unfolding total changes_of sets_of
weighed_none = record { rows = λ h. refl; sets = λ h. refl }

weighed_then : (xs ys : List Placed) (first next : List Call) → AreWeighed xs first → AreWeighed ys next → AreWeighed (xs ++ ys) (next ++ first)
weighed_then xs ys first next a b = record {
  rows = λ h.
      (let p = ap (total (λ c. h (put_at c))) (each_then row_change xs ys) ∙ total_then (λ c. h (put_at c)) (each_of row_change xs) (each_of row_change ys) in
      let f = ap (total (λ c. h (free_at c))) (each_then release_of xs ys) ∙ total_then (λ c. h (free_at c)) (each_of release_of xs) (each_of release_of ys) in
      let c = ap (total h) (changes_then next first) ∙ total_then h (changes_of next) (changes_of first) in
      omega (arith, p, f, c, a.rows h, b.rows h));
  sets = λ h.
      (let s = ap (total (λ s. h (setting_of s))) (settings_then xs ys) ∙ total_then (λ s. h (setting_of s)) (settings_of xs) (settings_of ys) in
      let c = ap (total h) (sets_then next first) ∙ total_then h (sets_of next) (sets_of first) in
      omega (arith, s, c, a.sets h, b.sets h));
}

-- the entries of a block are all of its phase
pub chosen_then : (test : Placed → Bool) (xs ys : List Placed) → chosen test (xs ++ ys) ≡ chosen test xs ++ chosen test ys
chosen_then test [] ys = refl
chosen_then test (x ∷ xs) ys =
    let own : List Placed = cond (test x) (x ∷ []) [] in
    ap (λ z. own ++ z) (chosen_then test xs ys) ∙ sym (append_assoc own (chosen test xs) (chosen test ys))

part_up_to : (most phase session : ℕ) (line : Line) (context : Context) (es : List Entry) (b : Bool) → nat_le phase most ≡ b
    → up_to_phase most (placed_part phase session line context es) ≡ cond b (placed_part phase session line context es) []
part_up_to most phase session line context [] true q = refl
part_up_to most phase session line context [] false q = refl
part_up_to most phase session line context (e ∷ es) true q =
    let here : Placed = record { phase = phase; session = session; line = line; context = context; entry = e } in
    let rest : List Placed = placed_part phase session line (noted (subject_of line) context e) es in
    ap (λ z. cond z (here ∷ []) [] ++ up_to_phase most rest) q ∙ ap (λ z. here ∷ z) (part_up_to most phase session line (noted (subject_of line) context e) es true q)
part_up_to most phase session line context (e ∷ es) false q =
    let here : Placed = record { phase = phase; session = session; line = line; context = context; entry = e } in
    let rest : List Placed = placed_part phase session line (noted (subject_of line) context e) es in
    ap (λ z. cond z (here ∷ []) [] ++ up_to_phase most rest) q ∙ part_up_to most phase session line (noted (subject_of line) context e) es false q

pub lines_up_to : (most phase session : ℕ) (context : Context) (lines : List Line) (parts : List (List Entry)) (b : Bool) → nat_le phase most ≡ b
    → up_to_phase most (placed_lines phase session context lines parts) ≡ cond b (placed_lines phase session context lines parts) []
lines_up_to most phase session context [] parts true q = refl
lines_up_to most phase session context [] parts false q = refl
lines_up_to most phase session context (line ∷ lines) [] true q = refl
lines_up_to most phase session context (line ∷ lines) [] false q = refl
lines_up_to most phase session context (line ∷ lines) (part ∷ parts) true q =
    let here : List Placed = placed_part phase session line (turned context) part in
    let rest : List Placed = placed_lines phase session (after context line part) lines parts in
    chosen_then (λ place. nat_le place.phase most) here rest
    ∙ (ap (λ z. z ++ up_to_phase most rest) (part_up_to most phase session line (turned context) part true q) ∙ ap (λ z. here ++ z) (lines_up_to most phase session (after context line part) lines parts true q))
lines_up_to most phase session context (line ∷ lines) (part ∷ parts) false q =
    let here : List Placed = placed_part phase session line (turned context) part in
    let rest : List Placed = placed_lines phase session (after context line part) lines parts in
    chosen_then (λ place. nat_le place.phase most) here rest
    ∙ (ap (λ z. z ++ up_to_phase most rest) (part_up_to most phase session line (turned context) part false q) ∙ lines_up_to most phase session (after context line part) lines parts false q)

-- a session that has a slot is in that of its journal, block by block, whether or not it holds something
abbrev pub AllSit : ℕ → (ℕ → ℕ) → List Stint → Type 0
AllSit stack depths earlier = (k : ℕ) → Sits (told_by k empty (blocks_of earlier)) (state_by k (fresh k stack (depths k)) earlier)

pub sit_next : (stack : ℕ) (depths : ℕ → ℕ) (earlier : List Stint) (stint : Stint) → AllSit stack depths earlier
    → Sits (after_lines (told_by stint.session empty (blocks_of earlier)) (lines_of stint.parts) (entries_of stint.parts))
    (resumed (state_behind (state_by stint.session (fresh stint.session stack (depths stint.session)) earlier) stint.parts))
    → AllSit stack depths (earlier ++ stint ∷ [])
sit_next stack depths earlier stint all next = λ k. led k (by_test k (stint.session == k) refl) where
  led : (k : ℕ)
      → Sits (cond (stint.session == k) (after_lines (told_by k empty (blocks_of earlier)) (lines_of stint.parts) (entries_of stint.parts)) (told_by k empty (blocks_of earlier)))
      (cond (stint.session == k) (resumed (state_behind (state_by k (fresh k stack (depths k)) earlier) stint.parts)) (state_by k (fresh k stack (depths k)) earlier))
      → Sits (told_by k empty (blocks_of (earlier ++ stint ∷ []))) (state_by k (fresh k stack (depths k)) (earlier ++ stint ∷ []))
  led k r =
      let t = sym (ap (told_by k empty) (blocks_more earlier stint) ∙ told_more k empty (blocks_of earlier) (block_of stint)) in
      let m = sym (state_more k (fresh k stack (depths k)) earlier stint) in
      subst (λ z. Sits z (state_by k (fresh k stack (depths k)) (earlier ++ stint ∷ []))) t
      (subst (λ z. Sits (cond (stint.session == k) (after_lines (told_by k empty (blocks_of earlier)) (lines_of stint.parts) (entries_of stint.parts)) (told_by k empty (blocks_of earlier))) z) m r)

  by_test : (k : ℕ) (b : Bool) → (stint.session == k) ≡ b
      → Sits (cond b (after_lines (told_by k empty (blocks_of earlier)) (lines_of stint.parts) (entries_of stint.parts)) (told_by k empty (blocks_of earlier)))
      (cond b (resumed (state_behind (state_by k (fresh k stack (depths k)) earlier) stint.parts)) (state_by k (fresh k stack (depths k)) earlier))
  by_test k true e =
      let P : ℕ → Type 0 = λ z. Sits (after_lines (told_by z empty (blocks_of earlier)) (lines_of stint.parts) (entries_of stint.parts))
      (resumed (state_behind (state_by z (fresh z stack (depths z)) earlier) stint.parts)) in
      subst P (eqb-true stint.session k e) next
  by_test k false e = all k

-- the calls of the spells up to a phase, without those that begin and end actions
abbrev pub calls_up_to : ℕ → List Spell → List Call
calls_up_to most [] = []
calls_up_to most (spell ∷ spells) = calls_up_to most spells ++ cond (nat_le spell.phase most) (parts_calls (parts_in spell.doings)) []

weighed_if : (b : Bool) (here : List Placed) (calls : List Call) → AreWeighed here calls → AreWeighed (cond b here []) (cond b calls [])
weighed_if true here calls w = w
weighed_if false here calls w = weighed_none

weigh_behind : ToldLaw → WeighedLaw → (most stack : ℕ) (depths : ℕ → ℕ) (earlier : List Stint) (phase : ℕ) (spells : List Spell) → AllSit stack depths earlier
    → AreStintsBehind stack depths earlier phase (stints_of spells)
    → AreWeighed (up_to_phase most (places_behind (blocks_of earlier) (blocks_of (stints_of spells)))) (calls_up_to most spells)
unfolding places_behind
weigh_behind told weighed most stack depths earlier phase [] all are = weighed_none
weigh_behind told weighed most stack depths earlier phase (spell ∷ spells) all are =
    let k : ℕ = spell.session in
    let stint : Stint = stint_of spell in
    let ps : List Part = parts_in spell.doings in
    let context : Context = told_by k empty (blocks_of earlier) in
    let s : State = state_by k (fresh k stack (depths k)) earlier in
    let t = told context s ps (all k) are.1.are_parts in
    let here : List Placed = placed_lines spell.phase k context (lines_of ps) (entries_of ps) in
    let own : AreWeighed here (parts_calls ps) = weighed spell.phase k context s ps (all k) are.1.are_parts in
    let later : List Block = blocks_of (stints_of spells) in
    let rest : List Placed = places_behind (blocks_of earlier ++ block_of stint ∷ []) later in
    let r = weigh_behind told weighed most stack depths (earlier ++ stint ∷ []) spell.phase spells (sit_next stack depths earlier stint all (λ thread q. t.sits thread q)) are.2 in
    let moved : AreWeighed (up_to_phase most rest) (calls_up_to most spells) = subst (λ z. AreWeighed (up_to_phase most (places_behind z later)) (calls_up_to most spells)) (blocks_more earlier stint) r in
    let b : Bool = nat_le spell.phase most in
    let split : up_to_phase most (here ++ rest) ≡ cond b here [] ++ up_to_phase most rest =
    chosen_then (λ place. nat_le place.phase most) here rest ∙ ap (λ z. z ++ up_to_phase most rest) (lines_up_to most spell.phase k context (lines_of ps) (entries_of ps) b refl) in
    subst (λ z. AreWeighed z (calls_up_to most spells ++ cond b (parts_calls ps) [])) (sym split)
    (weighed_then (cond b here []) (up_to_phase most rest) (cond b (parts_calls ps) []) (calls_up_to most spells) (weighed_if b here (parts_calls ps) own) moved)

pub weighed_up_to : ToldLaw → WeighedLaw → (most stack : ℕ) (depths : ℕ → ℕ) (spells : List Spell) → AreStintsBehind stack depths [] 0 (stints_of spells)
    → AreWeighed (up_to_phase most (places_behind [] (blocks_of (stints_of spells)))) (calls_up_to most spells)
weighed_up_to told weighed most stack depths spells are = weigh_behind told weighed most stack depths [] 0 spells (λ k thread q. q) are
