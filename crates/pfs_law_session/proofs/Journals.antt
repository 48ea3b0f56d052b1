-- The journals of all sessions.
use Rattle.std.proofs.Common.{ℕ, ◌≡◌, ◌==◌, Bool, true, false, cond, List, [], ◌∷◌, ◌++◌, refl, ap, sym, ◌∙◌, subst}
use Rattle.std.proofs.lemmas.Bool.{eqb-true}
use Rattle.pfs_model.specs.Chains.{Each}
use Rattle.pfs_model.specs.Contexts.{Context}
use Rattle.pfs_model.specs.Contexts.{fresh as empty}
use Rattle.pfs_model.specs.EventNumbers.{AreNumbered}
use Rattle.pfs_model.specs.EntryPlaces.{Block, Placed, places_behind, placed_lines, after_lines, told_by, AreShapedBehind}
use Rattle.pfs_model.specs.SetupFlags.{AreJudged}
use Rattle.pfs_session.specs.SessionStates.{State, fresh}
use Rattle.pfs_law_session.proofs.JournalLines.{journaled, parts_stack}
use Rattle.pfs_law_session.proofs.LinePieces.{judged_then, numbered_then}
use Rattle.pfs_law_session.proofs.Stints.{state_more, over_more, told_more, blocks_more}
use Rattle.pfs_law_session.proofs.SessionPhases.{resumed_stands}
use Rattle.pfs_law_session.specs.Agreement.{Stands}
use Rattle.pfs_law_session.specs.Deeds.{Part}
use Rattle.pfs_law_session.specs.JournalLaws.{AllLoadsAgree, lines_of, entries_of, state_behind, over_behind, IsJournaled}
use Rattle.pfs_law_session.specs.Stints.{Stint, block_of, blocks_of, resumed, state_by, over_by, IsStint, AreStintsBehind, JournalsLaw}

-- how a session stands between two of its stints
record IsReady (flags : ℕ → ℕ → ℕ) (stack : ℕ) (over : Bool) (context : Context) (s : State) : Type 0 where
  pub stands : Stands flags over context s
  pub stack_is : s.stack ≡ stack

-- of every session, behind these stints
abbrev AllReady : (ℕ → ℕ → ℕ) → ℕ → (ℕ → ℕ) → List Stint → Type 0
AllReady flags stack depths earlier =
    (k : ℕ) → IsReady flags stack (over_by k false earlier) (told_by k empty (blocks_of earlier)) (state_by k (fresh k stack (depths k)) earlier)

ready_next : (flags : ℕ → ℕ → ℕ) (stack : ℕ) (depths : ℕ → ℕ) (earlier : List Stint) (stint : Stint) → AllReady flags stack depths earlier
    → IsReady flags stack (over_behind (over_by stint.session false earlier) stint.parts)
    (after_lines (told_by stint.session empty (blocks_of earlier)) (lines_of stint.parts) (entries_of stint.parts))
    (resumed (state_behind (state_by stint.session (fresh stint.session stack (depths stint.session)) earlier) stint.parts))
    → AllReady flags stack depths (earlier ++ stint ∷ [])
ready_next flags stack depths earlier stint all next = λ k. led k (by_test k (stint.session == k) refl) where
  led : (k : ℕ) → IsReady flags stack (cond (stint.session == k) (over_behind (over_by k false earlier) stint.parts) (over_by k false earlier))
      (cond (stint.session == k) (after_lines (told_by k empty (blocks_of earlier)) (lines_of stint.parts) (entries_of stint.parts)) (told_by k empty (blocks_of earlier)))
      (cond (stint.session == k) (resumed (state_behind (state_by k (fresh k stack (depths k)) earlier) stint.parts)) (state_by k (fresh k stack (depths k)) earlier))
      → IsReady flags stack (over_by k false (earlier ++ stint ∷ [])) (told_by k empty (blocks_of (earlier ++ stint ∷ []))) (state_by k (fresh k stack (depths k)) (earlier ++ stint ∷ []))
  led k r =
      let o = sym (over_more k false earlier stint) in
      let t = sym (ap (told_by k empty) (blocks_more earlier stint) ∙ told_more k empty (blocks_of earlier) (block_of stint)) in
      let m = sym (state_more k (fresh k stack (depths k)) earlier stint) in
      subst (λ z. IsReady flags stack z (told_by k empty (blocks_of (earlier ++ stint ∷ []))) (state_by k (fresh k stack (depths k)) (earlier ++ stint ∷ []))) o
      (subst (λ z. IsReady flags stack (cond (stint.session == k) (over_behind (over_by k false earlier) stint.parts) (over_by k false earlier)) z (state_by k (fresh k stack (depths k)) (earlier ++ stint ∷ []))) t
      (subst (λ z. IsReady flags stack (cond (stint.session == k) (over_behind (over_by k false earlier) stint.parts) (over_by k false earlier))
      (cond (stint.session == k) (after_lines (told_by k empty (blocks_of earlier)) (lines_of stint.parts) (entries_of stint.parts)) (told_by k empty (blocks_of earlier))) z) m r))

  by_test : (k : ℕ) (b : Bool) → (stint.session == k) ≡ b → IsReady flags stack (cond b (over_behind (over_by k false earlier) stint.parts) (over_by k false earlier))
      (cond b (after_lines (told_by k empty (blocks_of earlier)) (lines_of stint.parts) (entries_of stint.parts)) (told_by k empty (blocks_of earlier)))
      (cond b (resumed (state_behind (state_by k (fresh k stack (depths k)) earlier) stint.parts)) (state_by k (fresh k stack (depths k)) earlier))
  by_test k true e =
      let P : ℕ → Type 0 = λ z. IsReady flags stack (over_behind (over_by z false earlier) stint.parts)
      (after_lines (told_by z empty (blocks_of earlier)) (lines_of stint.parts) (entries_of stint.parts))
      (resumed (state_behind (state_by z (fresh z stack (depths z)) earlier) stint.parts)) in
      subst P (eqb-true stint.session k e) next
  by_test k false e = all k

record AreGood (flags : ℕ → ℕ → ℕ) (stack : ℕ) (earlier : List Stint) (phase : ℕ) (stints : List Stint) : Type 0 where
  pub shaped : AreShapedBehind (blocks_of earlier) phase (blocks_of stints)
  pub judged : AreJudged stack flags (places_behind (blocks_of earlier) (blocks_of stints))
  pub numbered : AreNumbered (places_behind (blocks_of earlier) (blocks_of stints))

good : (flags : ℕ → ℕ → ℕ) (stack : ℕ) (depths : ℕ → ℕ) (earlier : List Stint) (phase : ℕ) (stints : List Stint) → AllReady flags stack depths earlier
    → AreStintsBehind stack depths earlier phase stints → Each (λ stint. AllLoadsAgree flags stint.parts) stints → AreGood flags stack earlier phase stints
unfolding places_behind
good flags stack depths earlier phase [] all are loads = record { shaped = tt; judged = tt; numbered = tt }
good flags stack depths earlier phase (stint ∷ stints) all are loads =
    let k : ℕ = stint.session in
    let ps : List Part = stint.parts in
    let over : Bool = over_by k false earlier in
    let context : Context = told_by k empty (blocks_of earlier) in
    let s : State = state_by k (fresh k stack (depths k)) earlier in
    let r : IsReady flags stack over context s = all k in
    let is : IsStint over s ps = are.1 in
    let j : IsJournaled flags s.stack over context s ps = journaled flags over context s ps r.stands is.may is.are_parts loads.0 in
    let next = ready_next flags stack depths earlier stint all (record {
      stands = resumed_stands flags (over_behind over ps) (after_lines context (lines_of ps) (entries_of ps)) (state_behind s ps) j.stands;
      stack_is = parts_stack s ps is.are_parts ∙ r.stack_is;
    }) in
    let g = good flags stack depths (earlier ++ stint ∷ []) stint.phase stints next are.2 loads.1 in
    let here : List Placed = placed_lines stint.phase k context (lines_of ps) (entries_of ps) in
    let B : List Block = blocks_of earlier ++ block_of stint ∷ [] in
    let more = blocks_more earlier stint in
    let later : List Block = blocks_of stints in
    let rest : List Placed = places_behind B later in
    let judged_here = subst (λ z. AreJudged z flags here) r.stack_is (j.judged stint.phase k) in
    record {
      shaped = (are.0, j.shaped, subst (λ z. AreShapedBehind z stint.phase later) more g.shaped);
      judged = judged_then stack flags here rest judged_here (subst (λ z. AreJudged stack flags (places_behind z later)) more g.judged);
      numbered = numbered_then here rest (j.numbered stint.phase k) (subst (λ z. AreNumbered (places_behind z later)) more g.numbered);
    }

pub journals : JournalsLaw
journals = λ flags stack depths stints are loads.
    (let ready : AllReady flags stack depths [] = λ k. record { stands = record { slot = refl; opened = tt; held = refl; drawn = refl; wide = refl; low = tt }; stack_is = refl } in
    let g = good flags stack depths [] 0 stints ready are loads in
    record { shaped = g.shaped; judged = g.judged; numbered = g.numbered })
