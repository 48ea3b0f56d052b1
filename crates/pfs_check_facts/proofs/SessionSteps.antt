-- The lines of sessions, block by block.
use Rattle.std.proofs.Common.{◌≡◌, refl, ℕ, zero, suc, ◌+◌, ◌<◌, ◌≤◌, Bool, true, false, cond, List, [], ◌∷◌, ◌++◌, length, map, get_or, take, sym, ◌∙◌, ap, subst, append_assoc, arith, Option, Some, None, Vec}
use Rattle.std.specs.Prelude.{◌==◌, filter, option_map, slice_get}
use Rattle.std.specs.BTreeMap.{BTreeMap, Updates, get, is_at}
use Rattle.std.specs.List.{flat_map}
use Rattle.std.specs.Map.{lookup}
use Rattle.std.specs.Ordering.{nat_cmp}
use Rattle.std.specs.declared.alloc.Global.{Global}
use Rattle.std.proofs.lemmas.Bool.{eqb-true, false≢true}
use Rattle.std.proofs.lemmas.Bool.Decides.{nat_tests}
use Rattle.std.proofs.lemmas.List.{append-nil, take_all, take_more}
use Rattle.std.proofs.lemmas.Option.{slice_get-map}
use Rattle.pfs_runs.specs.ScriptLines.{facts_if, facts_in, facts_of}
use Rattle.pfs_script.specs.Events.{Event, events_of, lines_for}
use Rattle.pfs_script.specs.Brackets.{brackets_from}
use Rattle.pfs_script.specs.Marks.{written_out}
use Rattle.pfs_script.specs.declared.blocks.Block.{Block}
use Rattle.pfs_script.specs.declared.blocks.BlockLine.{BlockLine}
use Rattle.pfs_script.specs.declared.blocks.Phase.{Phase}
use Rattle.pfs_check_facts.specs.declared.events.EventFacts.{EventFacts}
use Rattle.pfs_check_facts.specs.declared.moments.Course.{Course}
use Rattle.pfs_check_facts.specs.declared.moments.Moment.{Moment}
use Rattle.pfs_check_facts.proofs.EventMoments.{facts_are}
use Rattle.pfs_check_facts.specs.Closings.{facts_along}
use Rattle.pfs_check_facts.specs.Moments.{IsCourseOf}
use Rattle.pfs_check_facts.specs.SessionFacts.{AreCoursesOf, AreFactsFor, IsCourseFor, facts_in_list, facts_told, lines_of, told_or_none}

-- one block more
lines_then : (session : ℕ) (blocks : List Block) (block : Block) → lines_of session (blocks ++ block ∷ []) ≡ lines_of session blocks ++ cond (block.session == session) (written_out block.lines) []
lines_then session [] block = at (block.session == session) where
  at : (b : Bool) → flat_map (λ (one : Block). written_out one.lines) (cond b (block ∷ []) []) ≡ cond b (written_out block.lines) []
  at true = append-nil (written_out block.lines)
  at false = refl
lines_then session (one ∷ blocks) block = at (one.session == session) (lines_then session blocks block) where
  at : (b : Bool) → lines_of session (blocks ++ block ∷ []) ≡ lines_of session blocks ++ cond (block.session == session) (written_out block.lines) []
      → flat_map (λ (x : Block). written_out x.lines) (cond b (one ∷ filter (λ (x : Block). x.session == session) (blocks ++ block ∷ [])) (filter (λ (x : Block). x.session == session) (blocks ++ block ∷ [])))
      ≡ flat_map (λ (x : Block). written_out x.lines) (cond b (one ∷ filter (λ (x : Block). x.session == session) blocks) (filter (λ (x : Block). x.session == session) blocks)) ++ cond (block.session == session) (written_out block.lines) []
  at true e = ap (λ z. written_out one.lines ++ z) e ∙ sym (append_assoc (written_out one.lines) (lines_of session blocks) (cond (block.session == session) (written_out block.lines) []))
  at false e = e

pub one_more : (blocks : List Block) (block : Block) (old mid new : BTreeMap ℕ Course) (own : Course) → AreCoursesOf blocks old
    → ((lines : List BlockLine) → IsCourseFor lines (get nat_cmp old block.session) → IsCourseOf (lines ++ written_out block.lines) own)
    → ((other : ℕ) → (block.session == other) ≡ false → get nat_cmp mid other ≡ get nat_cmp old other)
    → ((other : ℕ) → get nat_cmp new other ≡ cond (block.session == other) (Some own) (get nat_cmp mid other))
    → AreCoursesOf (blocks ++ block ∷ []) new
one_more blocks block old mid new own are told others kept session =
    subst (λ z. IsCourseFor z (get nat_cmp new session)) (sym (lines_then session blocks block))
    (subst (λ z. IsCourseFor (lines_of session blocks ++ cond (block.session == session) (written_out block.lines) []) z) (sym (kept session))
    (at (block.session == session) refl)) where
      at : (b : Bool) → (block.session == session) ≡ b
          → IsCourseFor (lines_of session blocks ++ cond b (written_out block.lines) []) (cond b (Some own) (get nat_cmp mid session))
      at true e = let same : block.session ≡ session = eqb-true block.session session e in
          told (lines_of session blocks) (subst (λ z. IsCourseFor (lines_of session blocks) (get nat_cmp old z)) (sym same) (are session))
      at false e = subst (λ z. IsCourseFor z (get nat_cmp mid session)) (sym (append-nil (lines_of session blocks)))
          (subst (IsCourseFor (lines_of session blocks)) (sym (others session e)) (are session))

pub blocks_more : (before blocks : List Block) (place : ℕ) (block : Block) (courses : BTreeMap ℕ Course) → place < length blocks → block ≡ get_or blocks place block
    → AreCoursesOf ((before ++ take place blocks) ++ block ∷ []) courses → AreCoursesOf (before ++ take (place + 1) blocks) courses
blocks_more before blocks place block courses within is are = subst (λ z. AreCoursesOf z courses)
    (append_assoc before (take place blocks) (block ∷ []) ∙ ap (λ (z : Block). before ++ (take place blocks ++ z ∷ [])) is
    ∙ ap (λ z. before ++ z) (sym (take_more blocks place block within))) are

pub blocks_over : (before blocks : List Block) (place : ℕ) (courses : BTreeMap ℕ Course) → length blocks ≤ place → AreCoursesOf (before ++ take place blocks) courses → AreCoursesOf (before ++ blocks) courses
blocks_over before blocks place courses past are = subst (λ z. AreCoursesOf (before ++ z) courses) (take_all place blocks past) are

pub no_blocks : (before : List Block) (courses : BTreeMap ℕ Course) → AreCoursesOf before courses → AreCoursesOf (before ++ []) courses
no_blocks before courses are = subst (λ z. AreCoursesOf z courses) (sym (append-nil before)) are

-- one phase more
abbrev all_in : List Phase → List Block
all_in phases = flat_map (λ (phase : Phase). phase.blocks) phases

all_then : (phases : List Phase) (phase : Phase) → all_in (phases ++ phase ∷ []) ≡ all_in phases ++ phase.blocks
all_then [] phase = append-nil phase.blocks
all_then (one ∷ phases) phase = ap (λ z. one.blocks ++ z) (all_then phases phase) ∙ sym (append_assoc one.blocks (all_in phases) phase.blocks)

pub phases_more : (phases : List Phase) (place : ℕ) (phase : Phase) (blocks : List Block) (courses : BTreeMap ℕ Course) → place < length phases → phase ≡ get_or phases place phase
    → blocks ≡ phase.blocks → AreCoursesOf (all_in (take place phases) ++ blocks) courses → AreCoursesOf (all_in (take (place + 1) phases)) courses
phases_more phases place phase blocks courses within is own are = subst (λ z. AreCoursesOf z courses)
    (ap (λ z. all_in (take place phases) ++ z) own ∙ sym (all_then (take place phases) phase) ∙ ap (λ (z : Phase). all_in (take place phases ++ z ∷ [])) is
    ∙ ap all_in (sym (take_more phases place phase within))) are

pub phases_over : (phases : List Phase) (place : ℕ) (courses : BTreeMap ℕ Course) → length phases ≤ place → AreCoursesOf (all_in (take place phases)) courses → AreCoursesOf (all_in phases) courses
phases_over phases place courses past are = subst (λ z. AreCoursesOf (all_in z) courses) (take_all place phases past) are

-- what is kept of a session without a course, or with one
abbrev pub IsTurned : List BlockLine → Option Course → Option (Vec EventFacts Global) → Type 0
IsTurned lines None facts = AreFactsFor lines facts
IsTurned lines (Some course) facts = IsCourseOf lines course

no_events : events_of [] ≡ []
unfolding events_of brackets_from
no_events = refl

pub all_turned : (session : ℕ) (phases : List Phase) (facts : Option (Vec EventFacts Global)) (position : ℕ) → AreFactsFor (lines_for session phases) facts
    → facts_in_list facts position ≡ facts_in phases session position
all_turned session phases None position none =
    sym (ap (λ z. facts_if (slice_get (events_of z) position)) none ∙ ap (λ z. facts_if (slice_get z position)) no_events)
all_turned session phases (Some facts) position same =
    told (slice_get facts.items position) (slice_get (events_of (lines_for session phases)) position)
    (sym (slice_get-map facts_told facts.items position) ∙ ap (λ z. slice_get z position) same ∙ slice_get-map facts_of (events_of (lines_for session phases)) position)
  where
    told : (one : Option EventFacts) (other : Option Event) → option_map facts_told one ≡ option_map facts_of other → told_or_none one ≡ facts_if other
    told None None e = refl
    told None (Some event) e = cc
    told (Some one) None e = cc
    told (Some one) (Some event) e = cc

same_key : (a b : ℕ) → is_at (nat_cmp a) b ≡ (a == b)
same_key a b = grind (arith, nat_tests)

pub turned_more : (old mid : BTreeMap ℕ Course) (kept new : BTreeMap ℕ (Vec EventFacts Global)) (at : ℕ) (course : Course) (facts : Vec EventFacts Global)
    → Updates nat_cmp old mid at None → Updates nat_cmp kept new at (Some facts) → get nat_cmp old at ≡ Some course
    → ((lines : List BlockLine) → IsCourseOf lines course → AreFactsFor lines (Some facts))
    → (session : ℕ) (lines : List BlockLine) → IsTurned lines (get nat_cmp old session) (get nat_cmp kept session) → IsTurned lines (get nat_cmp mid session) (get nat_cmp new session)
turned_more old mid kept new at course facts taken put there told session lines are =
    subst (λ z. IsTurned lines z (get nat_cmp new session)) (sym (taken.0 session)) (subst (IsTurned lines (cond (is_at (nat_cmp at) session) None (get nat_cmp old session))) (sym (put.0 session))
    (by_key (is_at (nat_cmp at) session) (sym (same_key at session)))) where
      by_key : (b : Bool) → (at == session) ≡ b → IsTurned lines (cond b None (get nat_cmp old session)) (cond b (Some facts) (get nat_cmp kept session))
      by_key true e = let same : at ≡ session = eqb-true at session e in
          told lines (subst (λ z. IsTurned lines z (get nat_cmp kept session)) (ap (get nat_cmp old) (sym same) ∙ there) are)
      by_key false e = are

pub facts_kept : (lines : List BlockLine) (course : Course) (facts : Vec EventFacts Global) (moments : List Moment) → facts.items ≡ facts_along moments
    → moments ≡ course.moments.items → IsCourseOf lines course → AreFactsFor lines (Some facts)
facts_kept lines course facts moments made same are = ap (map facts_told) (made ∙ ap facts_along (same ∙ are.moments)) ∙ facts_are lines

pub no_more : (n : ℕ) → (0 < n → false ≡ true) → n ≡ 0
no_more zero h = refl
no_more (suc n) h = absurd (false≢true (h (omega arith)))

none_left : {K X : Type 0} (entries : List (K × X)) → length entries ≡ 0 → entries ≡ []
none_left [] e = refl
none_left (x ∷ xs) e = absurd (omega (arith, e))

pub all_done : (session : ℕ) (lines : List BlockLine) (courses : BTreeMap ℕ Course) (facts : Option (Vec EventFacts Global)) → length courses.entries ≡ 0
    → IsTurned lines (get nat_cmp courses session) facts → AreFactsFor lines facts
all_done session lines courses facts empty are =
    subst (λ (z : List (ℕ × Course)). IsTurned lines (lookup (is_at (nat_cmp session)) z) facts) (none_left courses.entries empty) are
