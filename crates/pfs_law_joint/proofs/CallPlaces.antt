-- A call among those of the actors of a phase: what is said of all calls holds of it, and it weighs in their sums.
use Rattle.std.proofs.Common.{ℕ, ◌≤◌, List, [], ◌∷◌, ◌++◌, ap, ◌∙◌, arith}
use Rattle.pfs_levels.specs.Calls.{Call, after_in}
use Rattle.pfs_levels.specs.JointCalls.{total, At, changes_by, changes_of, Setting, sets_by, sets_of, Agrees, AllAgree, all_calls}
use Rattle.pfs_levels.specs.CallOrder.{Mark, AllCalls, IsRising, AreRising, IsFloored, AreFloored, AreCaused, marks_of}
use Rattle.pfs_levels.specs.CallOrder.{HasCause as Cause}
use Rattle.pfs_levels.specs.PhaseFloors.{IsSince, AreSince}
use Rattle.pfs_law_joint.specs.Phases.{IsShared, Moment, own_of, phase_of}
use Rattle.pfs_law_joint.proofs.Sums.{total_then}
use Rattle.pfs_law_joint.proofs.MarkSums.{changes_then, sets_then}

-- of one actor among others
of_own : (P : List Call → Type 0) (front : List (List Call)) (own : List Call) (behind before : List (List Call)) → AllCalls P ((front ++ own ∷ behind) ++ before) → P own
of_own P [] own behind before all = all.0
of_own P (x ∷ front) own behind before all = of_own P front own behind before all.1

in_phase : (P : List Call → Type 0) (front : List (List Call)) (own : List Call) (behind : List (List Call)) → AllCalls P (front ++ own ∷ behind) → P own
in_phase P [] own behind all = all.0
in_phase P (x ∷ front) own behind all = in_phase P front own behind all.1

-- of one call among its own
rising_at : (later earlier : List Call) (call : Call) → AreRising (later ++ call ∷ earlier) → IsRising earlier call
rising_at [] earlier call all = all.0
rising_at (x ∷ later) earlier call all = rising_at later earlier call all.1

floored_at : (log words : List Mark) (later earlier : List Call) (call : Call) → AreFloored log words (later ++ call ∷ earlier) → IsFloored log words (after_in earlier) call
floored_at log words [] earlier call all = all.0
floored_at log words (x ∷ later) earlier call all = floored_at log words later earlier call all.1

caused_at : (log own : List Mark) (later earlier : List Call) (call : Call) → AreCaused log own (later ++ call ∷ earlier) → Cause log own earlier call
caused_at log own [] earlier call all = all.0
caused_at log own (x ∷ later) earlier call all = caused_at log own later earlier call all.1

since_at : (log : List At) (sets : List Setting) (later earlier : List Call) (call : Call) → AreSince log sets (later ++ call ∷ earlier) → IsSince log sets call
since_at log sets [] earlier call all = all.0
since_at log sets (x ∷ later) earlier call all = since_at log sets later earlier call all.1

agree_at : (flags : List ℕ) (content : ℕ → ℕ → List ℕ) (log : List At) (sets : List Setting) (later earlier : List Call) (call : Call) → AllAgree flags content log sets (later ++ call ∷ earlier) → Agrees flags content log sets call
agree_at flags content log sets [] earlier call all = all.0
agree_at flags content log sets (x ∷ later) earlier call all = agree_at flags content log sets later earlier call all.1

pub agree_front : (flags : List ℕ) (content : ℕ → ℕ → List ℕ) (log : List At) (sets : List Setting) (xs ys : List Call) → AllAgree flags content log sets (xs ++ ys) → AllAgree flags content log sets xs
agree_front flags content log sets [] ys all = tt
agree_front flags content log sets (x ∷ xs) ys all = (all.0, agree_front flags content log sets xs ys all.1)

pub agree_back : (flags : List ℕ) (content : ℕ → ℕ → List ℕ) (log : List At) (sets : List Setting) (xs ys : List Call) → AllAgree flags content log sets (xs ++ ys) → AllAgree flags content log sets ys
agree_back flags content log sets [] ys all = all
agree_back flags content log sets (x ∷ xs) ys all = agree_back flags content log sets xs ys all.1

agree_own : (flags : List ℕ) (content : ℕ → ℕ → List ℕ) (log : List At) (sets : List Setting) (front : List (List Call)) (own : List Call) (behind before : List (List Call))
    → AllAgree flags content log sets (all_calls ((front ++ own ∷ behind) ++ before)) → AllAgree flags content log sets own
unfolding all_calls
agree_own flags content log sets [] own behind before all = agree_front flags content log sets own (all_calls (behind ++ before)) all
agree_own flags content log sets (x ∷ front) own behind before all =
    agree_own flags content log sets front own behind before (agree_back flags content log sets x (all_calls ((front ++ own ∷ behind) ++ before)) all)

-- what a call changes weighs among all
call_changes : (h : At → ℕ) (later earlier : List Call) (call : Call) → total h (changes_by call) ≤ total h (changes_of (later ++ call ∷ earlier))
unfolding changes_of
call_changes h [] earlier call = let t = total_then h (changes_by call) (changes_of earlier) in omega (arith, t)
call_changes h (x ∷ later) earlier call = let t = total_then h (changes_by x) (changes_of (later ++ call ∷ earlier)) in omega (arith, t, call_changes h later earlier call)

own_changes : (h : At → ℕ) (front : List (List Call)) (own : List Call) (behind before : List (List Call)) → total h (changes_of own) ≤ total h (changes_of (all_calls ((front ++ own ∷ behind) ++ before)))
unfolding all_calls
own_changes h [] own behind before =
    let t = ap (total h) (changes_then own (all_calls (behind ++ before))) ∙ total_then h (changes_of own) (changes_of (all_calls (behind ++ before))) in
    omega (arith, t)
own_changes h (x ∷ front) own behind before =
    let rest = all_calls ((front ++ own ∷ behind) ++ before) in
    let t = ap (total h) (changes_then x rest) ∙ total_then h (changes_of x) (changes_of rest) in
    omega (arith, t, own_changes h front own behind before)

call_sets : (h : Setting → ℕ) (later earlier : List Call) (call : Call) → total h (sets_by call) ≤ total h (sets_of (later ++ call ∷ earlier))
unfolding sets_of
call_sets h [] earlier call = let t = total_then h (sets_by call) (sets_of earlier) in omega (arith, t)
call_sets h (x ∷ later) earlier call = let t = total_then h (sets_by x) (sets_of (later ++ call ∷ earlier)) in omega (arith, t, call_sets h later earlier call)

own_sets : (h : Setting → ℕ) (front : List (List Call)) (own : List Call) (behind before : List (List Call)) → total h (sets_of own) ≤ total h (sets_of (all_calls ((front ++ own ∷ behind) ++ before)))
unfolding all_calls
own_sets h [] own behind before =
    let t = ap (total h) (sets_then own (all_calls (behind ++ before))) ∙ total_then h (sets_of own) (sets_of (all_calls (behind ++ before))) in
    omega (arith, t)
own_sets h (x ∷ front) own behind before =
    let rest = all_calls ((front ++ own ∷ behind) ++ before) in
    let t = ap (total h) (sets_then x rest) ∙ total_then h (sets_of x) (sets_of rest) in
    omega (arith, t, own_sets h front own behind before)

-- all that is said of a call
pub record Facts (flags : List ℕ) (before : List (List Call)) (m : Moment) (s : IsShared flags before (phase_of m)) (call : Call) : Type 0 where
  pub agrees : Agrees flags s.content s.log s.sets call
  pub rising : IsRising m.earlier call
  pub floored : IsFloored s.marks s.words (after_in m.earlier) call
  pub caused : Cause s.marks (marks_of (own_of m)) m.earlier call
  pub since : IsSince (changes_of (all_calls before)) (sets_of (all_calls before)) call
  pub changes : (h : At → ℕ) → total h (changes_by call) ≤ total h s.log
  pub sets : (h : Setting → ℕ) → total h (sets_by call) ≤ total h s.sets

pub facts : (flags : List ℕ) (before : List (List Call)) (m : Moment) (s : IsShared flags before (phase_of m)) → Facts flags before m s m.call
facts flags before m s =
    let own = own_of m in
    let rises : AreRising own = of_own AreRising m.front own m.behind before s.order.rising in
    let floors : AreFloored s.marks s.words own = of_own (AreFloored s.marks s.words) m.front own m.behind before s.order.floored in
    let causes : AreCaused s.marks (marks_of own) own = of_own (λ calls. AreCaused s.marks (marks_of calls) calls) m.front own m.behind before s.order.caused in
    let sinces : AreSince (changes_of (all_calls before)) (sets_of (all_calls before)) own =
    in_phase (AreSince (changes_of (all_calls before)) (sets_of (all_calls before))) m.front own m.behind s.since in
    let agree : AllAgree flags s.content s.log s.sets own = agree_own flags s.content s.log s.sets m.front own m.behind before s.joint.agrees in
    record {
      agrees = agree_at flags s.content s.log s.sets m.later m.earlier m.call agree;
      rising = rising_at m.later m.earlier m.call rises;
      floored = floored_at s.marks s.words m.later m.earlier m.call floors;
      caused = caused_at s.marks (marks_of own) m.later m.earlier m.call causes;
      since = since_at (changes_of (all_calls before)) (sets_of (all_calls before)) m.later m.earlier m.call sinces;
      changes = λ h. omega (arith, call_changes h m.later m.earlier m.call, own_changes h m.front own m.behind before, s.joint.once h);
      sets = λ h. omega (arith, call_sets h m.later m.earlier m.call, own_sets h m.front own m.behind before, s.joint.sets_once h);
    }
