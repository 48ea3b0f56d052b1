-- Along the blocks of all sessions each event is brought to its summary row, a digested statement to its digest's, and
-- both to the rings that they are offered to.
use Rattle.std.proofs.Common.{ℕ, ◌≡◌, ◌≤◌, ◌%◌, ◌==◌, Bool, true, false, cond, List, [], ◌∷◌, ◌++◌, Option, refl, ap, sym, ◌∙◌, subst}
use Rattle.pfs_event.specs.declared.kind.EventKind.{EventKind}
use Rattle.pfs_event.specs.declared.kind.EventKind.TheVariants.{Wait, Stage, Statement, Transaction}
use Rattle.std.proofs.lemmas.Bool.{eqb-true}
use Rattle.std.proofs.lemmas.List.{append_assoc}
use Rattle.pfs_model.specs.Chains.{Each}
use Rattle.pfs_model.specs.Contexts.{Context, subject_of, turned, after}
use Rattle.pfs_model.specs.Contexts.{fresh as empty}
use Rattle.pfs_model.specs.EntryPlaces.{Placed, placed_part, placed_lines, after_lines, told_by, places_behind, places}
use Rattle.pfs_law_session.proofs.JournalLines.{written, journaled}
use Rattle.pfs_law_session.proofs.Stints.{state_more, over_more, told_more, blocks_more}
use Rattle.pfs_law_session.proofs.SessionPhases.{resumed_stands}
use Rattle.pfs_model.specs.Puts.{AreBrought}
use Rattle.pfs_law_session.specs.Agreement.{Stands}
use Rattle.pfs_law_session.specs.Amounts.{AllPlaced}
use Rattle.pfs_law_session.specs.Deeds.{Part, is_over, line_of, part_entries}
use Rattle.pfs_law_session.specs.JournalLaws.{AreParts, MayDoAll, AllLoadsAgree, IsWritten, IsJournaled, lines_of, entries_of, state_behind, over_behind}
use Rattle.pfs_law_session.specs.Stints.{Stint, block_of, blocks_of, resumed, state_by, over_by, IsStint, AreStints, AreStintsBehind}
use Rattle.pfs_session.specs.SessionStates.{State, fresh, next_of}
use Rattle.pfs_session.specs.Turns.{state_after}
use Rattle.pfs_law_script.proofs.HistoryDues.{Marks, all_more, AreFine, nothing_fine, fine_again, part_fine, with_marks}
use Rattle.pfs_law_script.proofs.SessionSlots.{Keeps, part_keeps}
use Rattle.pfs_law_script.proofs.LineDues.{part_brings}
use Rattle.pfs_law_script.proofs.RingDues.{Fits}

-- the marks of a line are those of the next places before it, and behind it those behind it
lines_fine : (flags : ℕ → ℕ → ℕ) (slots : ℕ → Option ℕ) (all : ℕ → Marks) (over : Bool) (phase session : ℕ) (context : Context) (s : State) (ps : List Part) (rest : List Placed) → Stands flags over context s
    → MayDoAll over s ps → AreParts s ps → AllLoadsAgree flags ps → AllPlaced (slots session) session ps → Keeps (slots session) session s → (marks : Marks) → Fits marks s.nexts
    → ((m : Marks) → Fits m (state_behind s ps).nexts → AreFine flags slots (with_marks all session m) rest)
    → AreFine flags slots (with_marks all session marks) (placed_lines phase session context (lines_of ps) (entries_of ps) ++ rest)
lines_fine flags slots all over phase session context s [] rest stands may are loads placed keeps marks fits fine = fine marks fits
lines_fine flags slots all over phase session context s (p ∷ ps) rest stands may are loads placed keeps marks fits fine =
    let next : Context = after context (line_of p.deed) (part_entries p) in
    let w : IsWritten flags s.stack (is_over over p.deed) context (line_of p.deed) (part_entries p) (state_after s p.turns) = written flags over context s p stands may.0 are.0 loads.0 in
    let brings = part_brings flags (slots session) session over context s p stands may.0 are.0 loads.0 keeps marks fits in
    let here : List Placed = placed_part phase session (line_of p.deed) (turned context) (part_entries p) in
    let others : List Placed = placed_lines phase session next (lines_of ps) (entries_of ps) in
    let behind : Marks = all_more (slots session) (subject_of (line_of p.deed)) (turned context) (part_entries p) marks in
    let more : AreFine flags slots (with_marks all session behind) (others ++ rest) =
    lines_fine flags slots all (is_over over p.deed) phase session next (state_after s p.turns) ps rest w.stands may.1 are.1 loads.1 placed.1 (part_keeps (slots session) session s p keeps placed.0 are.0) behind brings.fits fine in
    subst (AreFine flags slots (with_marks all session marks)) (sym (append_assoc here others rest))
    (part_fine flags slots all marks phase session (line_of p.deed) (turned context) (part_entries p) (others ++ rest) brings.headed brings.paid more)

-- and what it keeps
parts_keep : (home : Option ℕ) (session : ℕ) (s : State) (ps : List Part) → Keeps home session s → AllPlaced home session ps → AreParts s ps → Keeps home session (state_behind s ps)
parts_keep home session s [] keeps placed are = keeps
parts_keep home session s (p ∷ ps) keeps placed are = parts_keep home session (state_after s p.turns) ps (part_keeps home session s p keeps placed.0 are.0) placed.1 are.1

-- every session stands as its journal tells, behind these stints
abbrev AllStand : (ℕ → ℕ → ℕ) → ℕ → (ℕ → ℕ) → List Stint → Type 0
AllStand flags stack depths earlier = (k : ℕ) → Stands flags (over_by k false earlier) (told_by k empty (blocks_of earlier)) (state_by k (fresh k stack (depths k)) earlier)

stand_next : (flags : ℕ → ℕ → ℕ) (stack : ℕ) (depths : ℕ → ℕ) (earlier : List Stint) (stint : Stint) → AllStand flags stack depths earlier
    → Stands flags (over_behind (over_by stint.session false earlier) stint.parts)
    (after_lines (told_by stint.session empty (blocks_of earlier)) (lines_of stint.parts) (entries_of stint.parts))
    (resumed (state_behind (state_by stint.session (fresh stint.session stack (depths stint.session)) earlier) stint.parts))
    → AllStand flags stack depths (earlier ++ stint ∷ [])
stand_next flags stack depths earlier stint all next = λ k. led k (by_test k (stint.session == k) refl) where
  led : (k : ℕ) → Stands flags (cond (stint.session == k) (over_behind (over_by k false earlier) stint.parts) (over_by k false earlier))
      (cond (stint.session == k) (after_lines (told_by k empty (blocks_of earlier)) (lines_of stint.parts) (entries_of stint.parts)) (told_by k empty (blocks_of earlier)))
      (cond (stint.session == k) (resumed (state_behind (state_by k (fresh k stack (depths k)) earlier) stint.parts)) (state_by k (fresh k stack (depths k)) earlier))
      → Stands flags (over_by k false (earlier ++ stint ∷ [])) (told_by k empty (blocks_of (earlier ++ stint ∷ []))) (state_by k (fresh k stack (depths k)) (earlier ++ stint ∷ []))
  led k r =
      let o = sym (over_more k false earlier stint) in
      let t = sym (ap (told_by k empty) (blocks_more earlier stint) ∙ told_more k empty (blocks_of earlier) (block_of stint)) in
      let m = sym (state_more k (fresh k stack (depths k)) earlier stint) in
      subst (λ z. Stands flags z (told_by k empty (blocks_of (earlier ++ stint ∷ []))) (state_by k (fresh k stack (depths k)) (earlier ++ stint ∷ []))) o
      (subst (λ z. Stands flags (cond (stint.session == k) (over_behind (over_by k false earlier) stint.parts) (over_by k false earlier)) z (state_by k (fresh k stack (depths k)) (earlier ++ stint ∷ []))) t
      (subst (λ z. Stands flags (cond (stint.session == k) (over_behind (over_by k false earlier) stint.parts) (over_by k false earlier))
      (cond (stint.session == k) (after_lines (told_by k empty (blocks_of earlier)) (lines_of stint.parts) (entries_of stint.parts)) (told_by k empty (blocks_of earlier))) z) m r))

  by_test : (k : ℕ) (b : Bool) → (stint.session == k) ≡ b → Stands flags (cond b (over_behind (over_by k false earlier) stint.parts) (over_by k false earlier))
      (cond b (after_lines (told_by k empty (blocks_of earlier)) (lines_of stint.parts) (entries_of stint.parts)) (told_by k empty (blocks_of earlier)))
      (cond b (resumed (state_behind (state_by k (fresh k stack (depths k)) earlier) stint.parts)) (state_by k (fresh k stack (depths k)) earlier))
  by_test k true e =
      let P : ℕ → Type 0 = λ z. Stands flags (over_behind (over_by z false earlier) stint.parts)
      (after_lines (told_by z empty (blocks_of earlier)) (lines_of stint.parts) (entries_of stint.parts))
      (resumed (state_behind (state_by z (fresh z stack (depths z)) earlier) stint.parts)) in
      subst P (eqb-true stint.session k e) next
  by_test k false e = all k

-- so does what they keep, and the marks fit their next places
abbrev AllKeep : (ℕ → Option ℕ) → ℕ → (ℕ → ℕ) → List Stint → Type 0
AllKeep slots stack depths earlier = (k : ℕ) → Keeps (slots k) k (state_by k (fresh k stack (depths k)) earlier)

abbrev AllFit : (ℕ → Marks) → ℕ → (ℕ → ℕ) → List Stint → Type 0
AllFit all stack depths earlier = (k : ℕ) → Fits (all k) (state_by k (fresh k stack (depths k)) earlier).nexts

-- what holds of the session of a stint behind it, and of all others before it, holds of all behind it
all_next : (P : ℕ → State → Type 0) (stack : ℕ) (depths : ℕ → ℕ) (earlier : List Stint) (stint : Stint) → ((k : ℕ) → P k (state_by k (fresh k stack (depths k)) earlier))
    → P stint.session (resumed (state_behind (state_by stint.session (fresh stint.session stack (depths stint.session)) earlier) stint.parts))
    → (k : ℕ) → P k (state_by k (fresh k stack (depths k)) (earlier ++ stint ∷ []))
all_next P stack depths earlier stint all next = λ k. subst (P k) (sym (state_more k (fresh k stack (depths k)) earlier stint)) (by_test k (stint.session == k) refl) where
  by_test : (k : ℕ) (b : Bool) → (stint.session == k) ≡ b
      → P k (cond (stint.session == k) (resumed (state_behind (state_by k (fresh k stack (depths k)) earlier) stint.parts)) (state_by k (fresh k stack (depths k)) earlier))
  by_test k true e =
      let Q : ℕ → Type 0 = λ z. P z (resumed (state_behind (state_by z (fresh z stack (depths z)) earlier) stint.parts)) in
      let its = subst Q (eqb-true stint.session k e) next in
      subst (λ (b : Bool). P k (cond b (resumed (state_behind (state_by k (fresh k stack (depths k)) earlier) stint.parts)) (state_by k (fresh k stack (depths k)) earlier))) (sym e) its
  by_test k false e =
      subst (λ (b : Bool). P k (cond b (resumed (state_behind (state_by k (fresh k stack (depths k)) earlier) stint.parts)) (state_by k (fresh k stack (depths k)) earlier))) (sym e) (all k)

keep_next : (slots : ℕ → Option ℕ) (stack : ℕ) (depths : ℕ → ℕ) (earlier : List Stint) (stint : Stint) → AllKeep slots stack depths earlier
    → Keeps (slots stint.session) stint.session (state_behind (state_by stint.session (fresh stint.session stack (depths stint.session)) earlier) stint.parts)
    → AllKeep slots stack depths (earlier ++ stint ∷ [])
keep_next slots stack depths earlier stint all next =
    all_next (λ k s. Keeps (slots k) k s) stack depths earlier stint all (record { number_is = next.number_is; seat = next.seat; stack = next.stack; placed = next.placed })

fit_next : (all : ℕ → Marks) (stack : ℕ) (depths : ℕ → ℕ) (earlier : List Stint) (stint : Stint) (marks : Marks) → AllFit all stack depths earlier
    → Fits marks (state_behind (state_by stint.session (fresh stint.session stack (depths stint.session)) earlier) stint.parts).nexts
    → AllFit (with_marks all stint.session marks) stack depths (earlier ++ stint ∷ [])
fit_next all stack depths earlier stint marks fits next = λ k kind.
    subst (λ (s : State). with_marks all stint.session marks k kind % 10 ≡ next_of kind s.nexts % 10) (sym (state_more k (fresh k stack (depths k)) earlier stint))
    (by_test k kind (stint.session == k) refl) where
      by_test : (k : ℕ) (kind : EventKind) (b : Bool) → (stint.session == k) ≡ b
          → cond (stint.session == k) (marks kind) (all k kind) % 10
          ≡ next_of kind (cond (stint.session == k) (resumed (state_behind (state_by k (fresh k stack (depths k)) earlier) stint.parts)) (state_by k (fresh k stack (depths k)) earlier)).nexts % 10
      by_test k kind true e =
          let Q : ℕ → Type 0 = λ z. marks kind % 10 ≡ next_of kind (state_behind (state_by z (fresh z stack (depths z)) earlier) stint.parts).nexts % 10 in
          let its = subst Q (eqb-true stint.session k e) (next kind) in
          subst (λ (b : Bool). cond b (marks kind) (all k kind) % 10
          ≡ next_of kind (cond b (resumed (state_behind (state_by k (fresh k stack (depths k)) earlier) stint.parts)) (state_by k (fresh k stack (depths k)) earlier)).nexts % 10) (sym e) its
      by_test k kind false e =
          subst (λ (b : Bool). cond b (marks kind) (all k kind) % 10
          ≡ next_of kind (cond b (resumed (state_behind (state_by k (fresh k stack (depths k)) earlier) stint.parts)) (state_by k (fresh k stack (depths k)) earlier)).nexts % 10) (sym e) (fits k kind)

blocks_fine : (flags : ℕ → ℕ → ℕ) (slots : ℕ → Option ℕ) (stack : ℕ) (depths : ℕ → ℕ) (earlier : List Stint) (phase : ℕ) (stints : List Stint) → AllStand flags stack depths earlier
    → AllKeep slots stack depths earlier → (all : ℕ → Marks) → AllFit all stack depths earlier → AreStintsBehind stack depths earlier phase stints → Each (λ stint. AllLoadsAgree flags stint.parts) stints
    → Each (λ stint. AllPlaced (slots stint.session) stint.session stint.parts) stints → AreFine flags slots all (places_behind (blocks_of earlier) (blocks_of stints))
unfolding places_behind
blocks_fine flags slots stack depths earlier phase [] stand keep all fit are loads placed = nothing_fine flags slots all
blocks_fine flags slots stack depths earlier phase (stint ∷ stints) stand keep all fit are loads placed =
    let k : ℕ = stint.session in
    let ps : List Part = stint.parts in
    let over : Bool = over_by k false earlier in
    let context : Context = told_by k empty (blocks_of earlier) in
    let s : State = state_by k (fresh k stack (depths k)) earlier in
    let is : IsStint over s ps = are.1 in
    let j : IsJournaled flags s.stack over context s ps = journaled flags over context s ps (stand k) is.may is.are_parts loads.0 in
    let next : AllStand flags stack depths (earlier ++ stint ∷ []) =
    stand_next flags stack depths earlier stint stand (resumed_stands flags (over_behind over ps) (after_lines context (lines_of ps) (entries_of ps)) (state_behind s ps) j.stands) in
    let kept : AllKeep slots stack depths (earlier ++ stint ∷ []) = keep_next slots stack depths earlier stint keep (parts_keep (slots k) k s ps (keep k) placed.0 is.are_parts) in
    let rest : (m : Marks) → Fits m (state_behind s ps).nexts → AreFine flags slots (with_marks all k m) (places_behind (blocks_of earlier ++ block_of stint ∷ []) (blocks_of stints)) = λ m fits.
    subst (λ z. AreFine flags slots (with_marks all k m) (places_behind z (blocks_of stints))) (blocks_more earlier stint)
    (blocks_fine flags slots stack depths (earlier ++ stint ∷ []) stint.phase stints next kept (with_marks all k m) (fit_next all stack depths earlier stint m fit fits) are.2 loads.1 placed.1) in
    fine_again flags slots all k _
    (lines_fine flags slots all over stint.phase k context s ps (places_behind (blocks_of earlier ++ block_of stint ∷ []) (blocks_of stints)) (stand k) is.may is.are_parts loads.0 placed.0 (keep k) (all k) (fit k) rest)

-- where each session gets its slot, and few statements may be nested
pub brought : (flags : ℕ → ℕ → ℕ) (slots : ℕ → Option ℕ) (stack : ℕ) (depths : ℕ → ℕ) (stints : List Stint) → stack ≤ 10 → AreStints stack depths stints → Each (λ stint. AllLoadsAgree flags stint.parts) stints
    → Each (λ stint. AllPlaced (slots stint.session) stint.session stint.parts) stints → AreBrought flags (places (blocks_of stints))
brought flags slots stack depths stints few are loads placed =
    let stand : AllStand flags stack depths [] = λ k. record { slot = refl; opened = tt; held = refl; drawn = refl; wide = refl; low = tt } in
    let keep : AllKeep slots stack depths [] = λ k. record { number_is = refl; seat = λ own q. cc; stack = few; placed = tt } in
    let fit : AllFit (λ k kind. 0) stack depths [] = λ k. first in
    (blocks_fine flags slots stack depths [] 0 stints stand keep (λ k kind. 0) fit are loads placed).brought [] (λ session own home kind. refl) where
      first : (kind : EventKind) → 0 % 10 ≡ next_of kind (record { waits = 0; stages = 0; statements = 0; transactions = 0 }) % 10
      first Wait = refl
      first Stage = refl
      first Statement = refl
      first Transaction = refl
