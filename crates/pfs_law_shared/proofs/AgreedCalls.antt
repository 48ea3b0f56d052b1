-- The calls of each session agree with what all have in common, and the printed sets give its flags.
use Rattle.std.proofs.Common.{ℕ, ◌≡◌, ◌≤◌, ◌==◌, Bool, true, false, cond, ◌&&◌, List, [], ◌∷◌, ◌++◌, map, slice_index_or, Option, Some, None, inl, inr, refl, ap, sym, ◌∙◌, subst, arith, append-nil, eq-eqb, lt-ltb}
use Rattle.std.specs.Prelude.{nat_lt}
use Rattle.std.proofs.lemmas.Bool.{cases_lt, false≢true}
use Rattle.pfs_board.specs.declared.view.Label.{Label}
use Rattle.pfs_levels.specs.Calls.{Call, Adds, Rings, Reads, Loads, Draws, Takes, Puts, Frees, Sets, Enters, Leaves, Meets}
use Rattle.pfs_levels.specs.JointCalls.{total, At, Setting, sets_of, flags_at, AllAgree, all_calls}
use Rattle.pfs_levels.specs.CallOrder.{AllCalls}
use Rattle.pfs_model.specs.Actions.{settings_of}
use Rattle.pfs_model.specs.Actions.{Setting as PrintedSetting}
use Rattle.pfs_model.specs.Chains.{Each}
use Rattle.pfs_model.specs.EntryPlaces.{Placed, up_to_phase}
use Rattle.pfs_model.specs.SetupFlags.{flags_at as printed_flags}
use Rattle.pfs_law_session.specs.Agreement.{LoadsAgree}
use Rattle.pfs_law_session.specs.Amounts.{ContentsAgree, AllContentsAgree, ContentsLaw}
use Rattle.pfs_law_session.specs.Deeds.{action_of, part_calls}
use Rattle.pfs_law_session.specs.JournalLaws.{AllLoadsAgree}
use Rattle.pfs_law_session.specs.Stints.{AreStints, JournalsLaw}
use Rattle.pfs_law_plain.specs.PlainJournals.{printed}
use Rattle.pfs_law_plain.specs.RunRules.{entries_of}
use Rattle.pfs_law_plain.specs.SessionNotes.{ToldLaw}
use Rattle.pfs_law_plain.specs.Spells.{Doing, Spell, around, entering, doing_calls, doings_calls, parts_in, stints_of}
use Rattle.pfs_law_plain.specs.Weights.{setting_of, AreWeighed, WeighedLaw}
use Rattle.pfs_law_plain.proofs.PhaseFronts.{entries_front}
use Rattle.pfs_law_joint.specs.Phases.{IsShared}
use Rattle.pfs_law_joint.specs.Versions.{FlagsLaw}
use Rattle.pfs_law_joint.proofs.Sums.{total_map}
use Rattle.pfs_law_joint.proofs.CallPlaces.{agree_front, agree_back}
use Rattle.pfs_law_shared.specs.Shares.{actors_of, spells_at, spells_before, AreShared}
use Rattle.pfs_law_shared.specs.Journals.{HaveAgreed}
use Rattle.pfs_law_shared.proofs.PhaseWeights.{calls_up_to, weighed_up_to}
use Rattle.pfs_law_shared.proofs.ActorSums.{sets_add, phase_sum}

-- of all calls of all actors, of those of each
pub agree_each : (flags : List ℕ) (content : ℕ → ℕ → List ℕ) (log : List At) (sets : List Setting) (actors : List (List Call)) → AllAgree flags content log sets (all_calls actors) → AllCalls (AllAgree flags content log sets) actors
unfolding all_calls
agree_each flags content log sets [] all = tt
agree_each flags content log sets (calls ∷ actors) all = (
  agree_front flags content log sets calls (all_calls actors) all,
  agree_each flags content log sets actors (agree_back flags content log sets calls (all_calls actors) all),
)

pub calls_front : (P : List Call → Type 0) (xs ys : List (List Call)) → AllCalls P (xs ++ ys) → AllCalls P xs
calls_front P [] ys all = tt
calls_front P (x ∷ xs) ys all = (all.0, calls_front P xs ys all.1)

pub calls_back : (P : List Call → Type 0) (xs ys : List (List Call)) → AllCalls P (xs ++ ys) → AllCalls P ys
calls_back P [] ys all = all
calls_back P (x ∷ xs) ys all = calls_back P xs ys all.1

-- each spell up to a phase is one of the actors of the phase, or of those before it
module _ (P : List Call → Type 0) where
  others : (b : Bool) (spell : Spell) (rest : List Spell) → AllCalls P (actors_of (cond b (spell ∷ []) [] ++ rest)) → AllCalls P (actors_of rest)
  others true spell rest all = calls_front P (actors_of rest) (doings_calls spell.doings ∷ []) all
  others false spell rest all = all

  its_own : (b : Bool) (spell : Spell) (rest : List Spell) → b ≡ true → AllCalls P (actors_of (cond b (spell ∷ []) [] ++ rest)) → P (doings_calls spell.doings)
  its_own true spell rest e all = (calls_back P (actors_of rest) (doings_calls spell.doings ∷ []) all).0
  its_own false spell rest e all = absurd (false≢true e)

  pub each_spell : (phase : ℕ) (spells : List Spell) → Each (λ spell. spell.phase ≤ phase) spells → AllCalls P (actors_of (spells_at phase spells)) → AllCalls P (actors_of (spells_before phase spells))
      → Each (λ spell. P (doings_calls spell.doings)) spells
  each_spell phase [] low at before = tt
  each_spell phase (spell ∷ spells) low at before =
      let rest = each_spell phase spells low.1 (others (spell.phase == phase) spell (spells_at phase spells) at) (others (nat_lt spell.phase phase) spell (spells_before phase spells) before) in
      elim (cases_lt spell.phase phase) [
        | inl less ↦ (its_own (nat_lt spell.phase phase) spell (spells_before phase spells) (lt-ltb spell.phase phase less) before, rest)
        | inr more ↦ (its_own (spell.phase == phase) spell (spells_at phase spells) (eq-eqb spell.phase phase (omega (arith, more, low.0))) at, rest)
      ]

-- contents and loads of parts
content_front : (content : ℕ → ℕ → List ℕ) (xs ys : List Call) → ContentsAgree content (xs ++ ys) → ContentsAgree content xs
content_front content [] ys a = tt
content_front content (x ∷ xs) ys a = (a.0, content_front content xs ys a.1)

content_back : (content : ℕ → ℕ → List ℕ) (xs ys : List Call) → ContentsAgree content (xs ++ ys) → ContentsAgree content ys
content_back content [] ys a = a
content_back content (x ∷ xs) ys a = content_back content xs ys a.1

around_contents : (content : ℕ → ℕ → List ℕ) (label : Label) (labels : List Label) (met : Option (List ℕ)) (action : Option ℕ) (calls : List Call) → ContentsAgree content (around label labels met action calls)
    → ContentsAgree content calls
around_contents content label labels met None calls a = a
around_contents content label labels met (Some number) calls a = content_front content calls (entering label labels met) a.1

doings_contents : (content : ℕ → ℕ → List ℕ) (ds : List Doing) → ContentsAgree content (doings_calls ds) → AllContentsAgree content (parts_in ds)
doings_contents content [] a = tt
doings_contents content (d ∷ ds) a = (
  around_contents content d.label d.labels d.met (action_of d.part.deed) (part_calls d.part) (content_back content (doings_calls ds) (doing_calls d) a),
  doings_contents content ds (content_front content (doings_calls ds) (doing_calls d) a),
)

load_front : (of : ℕ → ℕ → ℕ) (xs ys : List Call) → LoadsAgree of (xs ++ ys) → LoadsAgree of xs
load_front of [] ys a = tt
load_front of (x ∷ xs) ys a = (a.0, load_front of xs ys a.1)

load_back : (of : ℕ → ℕ → ℕ) (xs ys : List Call) → LoadsAgree of (xs ++ ys) → LoadsAgree of ys
load_back of [] ys a = a
load_back of (x ∷ xs) ys a = load_back of xs ys a.1

around_loads : (of : ℕ → ℕ → ℕ) (label : Label) (labels : List Label) (met : Option (List ℕ)) (action : Option ℕ) (calls : List Call) → LoadsAgree of (around label labels met action calls) → LoadsAgree of calls
around_loads of label labels met None calls a = a
around_loads of label labels met (Some number) calls a = load_front of calls (entering label labels met) a.1

doings_loads : (of : ℕ → ℕ → ℕ) (ds : List Doing) → LoadsAgree of (doings_calls ds) → AllLoadsAgree of (parts_in ds)
doings_loads of [] a = tt
doings_loads of (d ∷ ds) a = (
  around_loads of d.label d.labels d.met (action_of d.part.deed) (part_calls d.part) (load_back of (doings_calls ds) (doing_calls d) a),
  doings_loads of ds (load_front of (doings_calls ds) (doing_calls d) a),
)

loads_agree : (of : ℕ → ℕ → ℕ) (flags : List ℕ) (content : ℕ → ℕ → List ℕ) (log : List At) (sets : List Setting) (calls : List Call) → ((at k : ℕ) → flags_at flags sets at k ≡ of at k)
    → AllAgree flags content log sets calls → LoadsAgree of calls
loads_agree of flags content log sets [] same a = tt
loads_agree of flags content log sets (Loads at k found ∷ calls) same a = (a.0.0 ∙ same at k, loads_agree of flags content log sets calls same a.1)
loads_agree of flags content log sets (Adds row amount answer ∷ calls) same a = (tt, loads_agree of flags content log sets calls same a.1)
loads_agree of flags content log sets (Rings row put answer ∷ calls) same a = (tt, loads_agree of flags content log sets calls same a.1)
loads_agree of flags content log sets (Reads row seen ∷ calls) same a = (tt, loads_agree of flags content log sets calls same a.1)
loads_agree of flags content log sets (Draws kind ticket ∷ calls) same a = (tt, loads_agree of flags content log sets calls same a.1)
loads_agree of flags content log sets (Meets versions ∷ calls) same a = (tt, loads_agree of flags content log sets calls same a.1)
loads_agree of flags content log sets (Takes row k found ∷ calls) same a = (tt, loads_agree of flags content log sets calls same a.1)
loads_agree of flags content log sets (Puts row put k ∷ calls) same a = (tt, loads_agree of flags content log sets calls same a.1)
loads_agree of flags content log sets (Frees row k ∷ calls) same a = (tt, loads_agree of flags content log sets calls same a.1)
loads_agree of flags content log sets (Sets at to k ∷ calls) same a = (tt, loads_agree of flags content log sets calls same a.1)
loads_agree of flags content log sets (Enters label labels ∷ calls) same a = (tt, loads_agree of flags content log sets calls same a.1)
loads_agree of flags content log sets (Leaves ∷ calls) same a = (tt, loads_agree of flags content log sets calls same a.1)

-- printed sets, as those of the store
flags_printed : (flags : List ℕ) (settings : List PrintedSetting) (word k : ℕ) → flags_at flags (map setting_of settings) word k ≡ printed_flags (λ at. slice_index_or flags at 0) settings word k
unfolding flags_at
flags_printed flags [] word k = refl
flags_printed flags (s ∷ ss) word k = ap (λ n. cond ((s.word == word) && (s.version == k)) s.flags n) (flags_printed flags ss word k)

module _ (contents : ContentsLaw) (flags : List ℕ) (content : ℕ → ℕ → List ℕ) (log : List At) (sets : List Setting) (of : ℕ → ℕ → ℕ) (same : (at k : ℕ) → flags_at flags sets at k ≡ of at k) where
  all_contents : (spells : List Spell) → Each (λ spell. AllAgree flags content log sets (doings_calls spell.doings)) spells → Each (λ stint. AllContentsAgree content stint.parts) (stints_of spells)
  all_contents [] all = tt
  all_contents (spell ∷ spells) all = (doings_contents content spell.doings (contents.agree flags content log sets (doings_calls spell.doings) all.0), all_contents spells all.1)

  all_loads : (spells : List Spell) → Each (λ spell. AllAgree flags content log sets (doings_calls spell.doings)) spells → Each (λ stint. AllLoadsAgree of stint.parts) (stints_of spells)
  all_loads [] all = tt
  all_loads (spell ∷ spells) all = (doings_loads of spell.doings (loads_agree of flags content log sets (doings_calls spell.doings) same all.0), all_loads spells all.1)

pub agreed_all : FlagsLaw → ToldLaw → WeighedLaw → ContentsLaw → JournalsLaw → (flags : List ℕ) (stack : ℕ) (depths : ℕ → ℕ) (spells : List Spell) (last : ℕ)
    → AreStints stack depths (stints_of spells) → (shared : AreShared flags spells) → Each (λ spell. spell.phase ≤ last) spells → HaveAgreed flags stack last spells shared
agreed_all law told weighed contents journals flags stack depths spells last are shared low =
    let s : IsShared flags (actors_of (spells_before last spells)) (actors_of (spells_at last spells)) = shared last in
    let all : List Placed = entries_of spells in
    let whole : up_to_phase last all ≡ all = subst (λ z. up_to_phase last (entries_of z) ≡ all) (append-nil spells) (entries_front last spells [] low tt) in
    let w : AreWeighed (up_to_phase last all) (calls_up_to last spells) = weighed_up_to told weighed last stack depths spells are in
    let same : (h : Setting → ℕ) → total h (map setting_of (settings_of all)) ≡ total h s.sets =
    λ h. total_map setting_of h (settings_of all) ∙ (sym (ap (λ z. total (λ x. h (setting_of x)) (settings_of z)) whole)
    ∙ (w.sets h ∙ (sym (phase_sum (λ calls. total h (sets_of calls)) (sets_add h) last spells) ∙ s.joint.sets_once h))) in
    let flagged : (word k : ℕ) → printed flags all word k ≡ flags_at flags s.sets word k =
    λ word k. sym (flags_printed flags (settings_of all) word k) ∙ law flags s.sets (map setting_of (settings_of all)) s.joint.words same word k in
    let P : List Call → Type 0 = AllAgree flags s.content s.log s.sets in
    let each = agree_each flags s.content s.log s.sets (actors_of (spells_at last spells) ++ actors_of (spells_before last spells)) s.joint.agrees in
    let agree : Each (λ spell. P (doings_calls spell.doings)) spells =
    each_spell P last spells low (calls_front P (actors_of (spells_at last spells)) (actors_of (spells_before last spells)) each)
    (calls_back P (actors_of (spells_at last spells)) (actors_of (spells_before last spells)) each) in
    let of : ℕ → ℕ → ℕ = printed flags all in
    let loads = all_loads contents flags s.content s.log s.sets of (λ at k. sym (flagged at k)) spells agree in
    record {
      flagged = flagged;
      loads = loads;
      contents = all_contents contents flags s.content s.log s.sets of (λ at k. sym (flagged at k)) spells agree;
      journals = journals of stack depths (stints_of spells) are loads;
    }
