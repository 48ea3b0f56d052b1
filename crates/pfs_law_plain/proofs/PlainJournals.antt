-- Sessions one after another on a plain store: the law.
use Rattle.std.proofs.Common.{ℕ, ◌≡◌, ◌==◌, Bool, true, false, cond, List, [], ◌∷◌, ◌++◌, Option, Some, None, refl, ap, sym, ◌∙◌, subst}
use Rattle.std.proofs.lemmas.Bool.{eqb-true}
use Rattle.std.proofs.lemmas.List.{append-nil, append_assoc}
use Rattle.pfs_board.specs.declared.view.Label.{Label}
use Rattle.pfs_event.specs.declared.entry.Entry.{Entry}
use Rattle.pfs_levels.specs.Calls.{Call, Adds, Rings, Reads, Loads, Draws, Takes, Puts, Frees, Sets, Enters, Leaves, Meets}
use Rattle.pfs_levels.specs.JointCalls.{At, Setting, sets_of, changes_of, flags_at, all_calls, AllAgree}
use Rattle.pfs_levels.specs.PlainStore.{AllAnswer, ops_of, content_at}
use Rattle.pfs_levels.proofs.PlainChanges.{plain_joint, plain_words}
use Rattle.pfs_model.specs.Chains.{Each, each_of}
use Rattle.pfs_model.specs.Rings.{ticketed_at}
use Rattle.pfs_model.specs.declared.lines.Line.{Line}
use Rattle.pfs_model.specs.Contexts.{Context, subject_of, noted, turned, after, fresh as empty}
use Rattle.pfs_model.specs.EntryPlaces.{Block, Placed, places, places_behind, placed_part, placed_lines, after_lines, told_by}
use Rattle.pfs_model.proofs.PlainAgreement.{plain_keeps}
use Rattle.pfs_session.specs.SessionStates.{State, fresh, nothing_held}
use Rattle.pfs_law_session.specs.Agreement.{LoadsAgree}
use Rattle.pfs_session.specs.Turns.{state_after}
use Rattle.pfs_law_session.specs.Deeds.{Part, action_of, line_of, part_calls, part_entries}
use Rattle.pfs_law_session.specs.JournalLaws.{AllLoadsAgree, AreParts, lines_of, entries_of, state_behind}
use Rattle.pfs_law_session.specs.Stints.{Stint, block_of, blocks_of, resumed, state_by, over_by, IsStint, AreStintsBehind}
use Rattle.pfs_law_session.proofs.Journals.{journals}
use Rattle.pfs_law_session.proofs.Stints.{state_more, told_more, blocks_more}
use Rattle.pfs_law_plain.specs.Notes.{notes_of, all_told}
use Rattle.pfs_law_plain.specs.Spells.{Doing, Spell, around, entering, doing_calls, doings_calls, parts_in, stint_of, stints_of, calls_of, AllEntered, AreSpells}
use Rattle.pfs_law_plain.specs.PlainJournals.{AloneLaw, printed}
use Rattle.pfs_law_plain.specs.SessionNotes.{Sits}
use Rattle.pfs_law_plain.proofs.InnerEntries.{told_then}
use Rattle.pfs_law_plain.proofs.QuietSessions.{AreAdded, added_front, added_back, plain_added}
use Rattle.pfs_law_plain.proofs.LineNotes.{notes_join, told_all}
use Rattle.pfs_law_plain.proofs.LineAgreement.{AreQuietPlaces, agreed}
use Rattle.pfs_law_plain.proofs.NextNotes.{AreNextNotes}
use Rattle.pfs_law_plain.proofs.PrintedFlags.{printed_same}
use Rattle.pfs_law_plain.proofs.TicketDraws.{ArePaired, AreNextTickets, paired_then, all_ticketed, ticketed_then, tickets_next}
use Rattle.pfs_law_plain.proofs.StepTickets.{IsTicketed, tickets_in, turns_ticketed}
use Rattle.pfs_law_plain.proofs.StoreNotes.{told_next}
use Rattle.pfs_law_plain.proofs.BlockNotes.{quiet_join, block_told, loads_front, loads_back, block_loads}

-- how a session stands between two of its stints
record IsReady (context : Context) (s : State) : Type 0 where
  pub sits : Sits context s
  pub held : s.held ≡ nothing_held

-- of every session, behind these stints
abbrev AllReady : ℕ → (ℕ → ℕ) → List Stint → Type 0
AllReady stack depths earlier = (k : ℕ) → IsReady (told_by k empty (blocks_of earlier)) (state_by k (fresh k stack (depths k)) earlier)

ready_next : (stack : ℕ) (depths : ℕ → ℕ) (earlier : List Stint) (stint : Stint) → AllReady stack depths earlier
    → IsReady (after_lines (told_by stint.session empty (blocks_of earlier)) (lines_of stint.parts) (entries_of stint.parts))
    (resumed (state_behind (state_by stint.session (fresh stint.session stack (depths stint.session)) earlier) stint.parts))
    → AllReady stack depths (earlier ++ stint ∷ [])
ready_next stack depths earlier stint all next = λ k. led k (by_test k (stint.session == k) refl) where
  led : (k : ℕ)
      → IsReady (cond (stint.session == k) (after_lines (told_by k empty (blocks_of earlier)) (lines_of stint.parts) (entries_of stint.parts)) (told_by k empty (blocks_of earlier)))
      (cond (stint.session == k) (resumed (state_behind (state_by k (fresh k stack (depths k)) earlier) stint.parts)) (state_by k (fresh k stack (depths k)) earlier))
      → IsReady (told_by k empty (blocks_of (earlier ++ stint ∷ []))) (state_by k (fresh k stack (depths k)) (earlier ++ stint ∷ []))
  led k r =
      let t = sym (ap (told_by k empty) (blocks_more earlier stint) ∙ told_more k empty (blocks_of earlier) (block_of stint)) in
      let m = sym (state_more k (fresh k stack (depths k)) earlier stint) in
      subst (λ z. IsReady z (state_by k (fresh k stack (depths k)) (earlier ++ stint ∷ []))) t
      (subst (λ z. IsReady (cond (stint.session == k) (after_lines (told_by k empty (blocks_of earlier)) (lines_of stint.parts) (entries_of stint.parts)) (told_by k empty (blocks_of earlier))) z) m r)

  by_test : (k : ℕ) (b : Bool) → (stint.session == k) ≡ b
      → IsReady (cond b (after_lines (told_by k empty (blocks_of earlier)) (lines_of stint.parts) (entries_of stint.parts)) (told_by k empty (blocks_of earlier)))
      (cond b (resumed (state_behind (state_by k (fresh k stack (depths k)) earlier) stint.parts)) (state_by k (fresh k stack (depths k)) earlier))
  by_test k true e =
      let P : ℕ → Type 0 = λ z. IsReady (after_lines (told_by z empty (blocks_of earlier)) (lines_of stint.parts) (entries_of stint.parts))
      (resumed (state_behind (state_by z (fresh z stack (depths z)) earlier) stint.parts)) in
      subst P (eqb-true stint.session k e) next
  by_test k false e = all k

-- what journals tell is what their calls tell, and nothing is held or settled in them
record AreGood (earlier : List Stint) (spells : List Spell) : Type 0 where
  pub same : notes_of (places_behind (blocks_of earlier) (blocks_of (stints_of spells))) ≡ all_told (calls_of spells)
  pub quiet : AreQuietPlaces (places_behind (blocks_of earlier) (blocks_of (stints_of spells)))

good : (stack : ℕ) (depths : ℕ → ℕ) (earlier : List Stint) (phase : ℕ) (spells : List Spell) → AllReady stack depths earlier → AreStintsBehind stack depths earlier phase (stints_of spells)
    → AllEntered stack depths earlier spells → AreAdded (calls_of spells) → AreGood earlier spells
unfolding places_behind all_told
good stack depths earlier phase [] all are entered added = record { same = refl; quiet = tt }
good stack depths earlier phase (spell ∷ spells) all are entered added =
    let k : ℕ = spell.session in
    let stint : Stint = stint_of spell in
    let ps : List Part = parts_in spell.doings in
    let over : Bool = over_by k false earlier in
    let context : Context = told_by k empty (blocks_of earlier) in
    let s : State = state_by k (fresh k stack (depths k)) earlier in
    let r : IsReady context s = all k in
    let is : IsStint over s ps = are.1 in
    let l = told_all context s ps r.sits is.are_parts in
    let t = block_told spell.phase k context s spell.doings r.held is.are_parts entered.0 (added_back (calls_of spells) (doings_calls spell.doings) added) in
    let next = ready_next stack depths earlier stint all (record { sits = λ thread q. l.sits thread q; held = t.held }) in
    let g = good stack depths (earlier ++ stint ∷ []) spell.phase spells next are.2 entered.1 (added_front (calls_of spells) (doings_calls spell.doings) added) in
    let here : List Placed = placed_lines spell.phase k context (lines_of ps) (entries_of ps) in
    let B : List Block = blocks_of earlier ++ block_of stint ∷ [] in
    let more = blocks_more earlier stint in
    let later : List Block = blocks_of (stints_of spells) in
    let rest : List Placed = places_behind B later in
    record {
      same = notes_join here rest
          ∙ (ap (λ z. z ++ notes_of rest) (l.same spell.phase k ∙ t.same)
          ∙ ap (λ z. all_told (doings_calls spell.doings) ++ z) (subst (λ z. notes_of (places_behind z later) ≡ all_told (calls_of spells)) more g.same))
          ∙ sym (told_then (calls_of spells) (doings_calls spell.doings));
      quiet = quiet_join here rest t.quiet (subst (λ z. AreQuietPlaces (places_behind z later)) more g.quiet);
    }

all_loads : (flags : ℕ → ℕ → ℕ) (spells : List Spell) → LoadsAgree flags (calls_of spells) → Each (λ stint. AllLoadsAgree flags stint.parts) (stints_of spells)
all_loads flags [] loads = tt
all_loads flags (spell ∷ spells) loads = (
  block_loads flags spell.doings (loads_back flags (calls_of spells) (doings_calls spell.doings) loads),
  all_loads flags spells (loads_front flags (calls_of spells) (doings_calls spell.doings) loads),
)

loads_agree : (of : ℕ → ℕ → ℕ) (flags : List ℕ) (content : ℕ → ℕ → List ℕ) (log : List At) (sets : List Setting) (calls : List Call) → ((at k : ℕ) → flags_at flags sets at k ≡ of at k)
    → AllAgree flags content log sets calls → LoadsAgree of calls
loads_agree of flags content log sets [] same a = tt
loads_agree of flags content log sets (Loads at k found ∷ calls) same a = (a.0.0 ∙ same at k, loads_agree of flags content log sets calls same a.1)
loads_agree of flags content log sets (Adds row amount answer ∷ calls) same a = (tt, loads_agree of flags content log sets calls same a.1)
loads_agree of flags content log sets (Rings row put answer ∷ calls) same a = (tt, loads_agree of flags content log sets calls same a.1)
loads_agree of flags content log sets (Reads row seen ∷ calls) same a = (tt, loads_agree of flags content log sets calls same a.1)
loads_agree of flags content log sets (Draws kind ticket ∷ calls) same a = (tt, loads_agree of flags content log sets calls same a.1)
loads_agree of flags content log sets (Meets versions ∷ calls) same a = (tt, loads_agree of flags content log sets calls same a.1)
loads_agree of flags content log sets (Takes row k found ∷ calls) same a = (tt, loads_agree of flags content log sets calls same a.1)
loads_agree of flags content log sets (Puts row put k ∷ calls) same a = (tt, loads_agree of flags content log sets calls same a.1)
loads_agree of flags content log sets (Frees row k ∷ calls) same a = (tt, loads_agree of flags content log sets calls same a.1)
loads_agree of flags content log sets (Sets at to k ∷ calls) same a = (tt, loads_agree of flags content log sets calls same a.1)
loads_agree of flags content log sets (Enters label labels ∷ calls) same a = (tt, loads_agree of flags content log sets calls same a.1)
loads_agree of flags content log sets (Leaves ∷ calls) same a = (tt, loads_agree of flags content log sets calls same a.1)

pub one_actor : (calls : List Call) → all_calls (calls ∷ []) ≡ calls
unfolding all_calls
one_actor calls = append-nil calls

plain_loads : (of : ℕ → ℕ → ℕ) (flags : List ℕ) (calls : List Call) → ((at k : ℕ) → flags_at flags (sets_of calls) at k ≡ of at k) → AllAnswer flags calls → LoadsAgree of calls
plain_loads of flags calls same a =
    let e = one_actor calls in
    let j = plain_joint flags (calls ∷ []) (subst (AllAnswer flags) (sym e) a) in
    loads_agree of flags (content_at (ops_of calls)) (changes_of calls) (sets_of calls) calls same
    (subst (λ z. AllAgree flags (content_at (ops_of z)) (changes_of z) (sets_of z) z) e j.agrees)

-- the puts to the long history among all calls, and the tickets that the journals print
around_ticketed : (label : Label) (labels : List Label) (met : Option (List ℕ)) (action : Option ℕ) (calls : List Call) (entries : List Entry) → IsTicketed calls entries
    → IsTicketed (around label labels met action calls) entries
around_ticketed label labels met None calls entries t = t
around_ticketed label labels None (Some number) calls entries t = record {
  paired = paired_then None calls (entering label labels None) t.paired tt;
  same = t.same ∙ sym (append-nil (all_ticketed (calls ++ entering label labels None)) ∙ ticketed_then calls (entering label labels None));
}
around_ticketed label labels (Some versions) (Some number) calls entries t = record {
  paired = paired_then None calls (entering label labels (Some versions)) t.paired tt;
  same = t.same ∙ sym (append-nil (all_ticketed (calls ++ entering label labels (Some versions))) ∙ ticketed_then calls (entering label labels (Some versions)));
}

part_tickets : (phase session : ℕ) (line : Line) (context : Context) (es : List Entry) → each_of ticketed_at (placed_part phase session line context es) ≡ tickets_in es
part_tickets phase session line context [] = refl
part_tickets phase session line context (e ∷ es) = ap (λ z. ticketed_at e ++ z) (part_tickets phase session line (noted (subject_of line) context e) es)

tickets_join : (xs ys : List Placed) → each_of ticketed_at (xs ++ ys) ≡ each_of ticketed_at xs ++ each_of ticketed_at ys
tickets_join [] ys = refl
tickets_join (x ∷ xs) ys = ap (λ z. ticketed_at x.entry ++ z) (tickets_join xs ys) ∙ sym (append_assoc (ticketed_at x.entry) (each_of ticketed_at xs) (each_of ticketed_at ys))

record LinesTicketed (calls : List Call) (placed : List Placed) : Type 0 where
  paired : ArePaired None calls
  same : each_of ticketed_at placed ≡ all_ticketed calls

doings_ticketed : (phase session : ℕ) (context : Context) (s : State) (doings : List Doing) → AreParts s (parts_in doings)
    → LinesTicketed (doings_calls doings) (placed_lines phase session context (lines_of (parts_in doings)) (entries_of (parts_in doings)))
doings_ticketed phase session context s [] are = record { paired = tt; same = refl }
doings_ticketed phase session context s (d ∷ ds) are =
    let line : Line = line_of d.part.deed in
    let t = around_ticketed d.label d.labels d.met (action_of d.part.deed) (part_calls d.part) (part_entries d.part) (turns_ticketed s d.part.turns are.0.are_turns) in
    let next : Context = after context line (part_entries d.part) in
    let r = doings_ticketed phase session next (state_after s d.part.turns) ds are.1 in
    let here : List Placed = placed_part phase session line (turned context) (part_entries d.part) in
    let rest : List Placed = placed_lines phase session next (lines_of (parts_in ds)) (entries_of (parts_in ds)) in
    record {
      paired = paired_then None (doings_calls ds) (doing_calls d) r.paired t.paired;
      same = tickets_join here rest
          ∙ (ap (λ z. z ++ each_of ticketed_at rest) (part_tickets phase session line (turned context) (part_entries d.part) ∙ t.same)
          ∙ (ap (λ z. all_ticketed (doing_calls d) ++ z) r.same ∙ sym (ticketed_then (doings_calls ds) (doing_calls d))));
    }

spells_ticketed : (stack : ℕ) (depths : ℕ → ℕ) (earlier : List Stint) (phase : ℕ) (spells : List Spell) → AreStintsBehind stack depths earlier phase (stints_of spells)
    → LinesTicketed (calls_of spells) (places_behind (blocks_of earlier) (blocks_of (stints_of spells)))
unfolding places_behind
spells_ticketed stack depths earlier phase [] are = record { paired = tt; same = refl }
spells_ticketed stack depths earlier phase (spell ∷ spells) are =
    let k : ℕ = spell.session in
    let stint : Stint = stint_of spell in
    let context : Context = told_by k empty (blocks_of earlier) in
    let s : State = state_by k (fresh k stack (depths k)) earlier in
    let t = doings_ticketed spell.phase k context s spell.doings are.1.are_parts in
    let more = blocks_more earlier stint in
    let later : List Block = blocks_of (stints_of spells) in
    let g = spells_ticketed stack depths (earlier ++ stint ∷ []) spell.phase spells are.2 in
    let here : List Placed = placed_lines spell.phase k context (lines_of (parts_in spell.doings)) (entries_of (parts_in spell.doings)) in
    let rest : List Placed = places_behind (blocks_of earlier ++ block_of stint ∷ []) later in
    record {
      paired = paired_then None (calls_of spells) (doings_calls spell.doings) g.paired t.paired;
      same = tickets_join here rest
          ∙ (ap (λ z. z ++ each_of ticketed_at rest) t.same
          ∙ (ap (λ z. all_ticketed (doings_calls spell.doings) ++ z) (subst (λ z. each_of ticketed_at (places_behind z later) ≡ all_ticketed (calls_of spells)) more g.same)
          ∙ sym (ticketed_then (calls_of spells) (doings_calls spell.doings))));
    }

pub all_paired : (stack : ℕ) (depths : ℕ → ℕ) (spells : List Spell) → AreSpells stack depths spells → ArePaired None (calls_of spells)
all_paired stack depths spells are = (spells_ticketed stack depths [] 0 spells are.stints).paired

-- what all journals tell is what all calls tell, nothing is held or settled in them, and each load gave the flags that
-- the printed sets give
pub record AreTogether (flags : List ℕ) (spells : List Spell) : Type 0 where
  pub same : notes_of (places (blocks_of (stints_of spells))) ≡ all_told (calls_of spells)
  pub quiet : AreQuietPlaces (places (blocks_of (stints_of spells)))
  pub loads : Each (λ stint. AllLoadsAgree (printed flags (places (blocks_of (stints_of spells)))) stint.parts) (stints_of spells)

pub together : (flags : List ℕ) (stack : ℕ) (depths : ℕ → ℕ) (spells : List Spell) → AreSpells stack depths spells → AllAnswer flags (calls_of spells) → AreTogether flags spells
unfolding places_behind
together flags stack depths spells are answers =
    let calls = calls_of spells in
    let all : List Placed = places (blocks_of (stints_of spells)) in
    let ready : AllReady stack depths [] = λ k. record { sits = λ thread q. q; held = refl } in
    let g = good stack depths [] 0 spells ready are.stints are.entered (plain_added flags None calls answers (all_paired stack depths spells are)) in
    let of : ℕ → ℕ → ℕ = printed flags all in
    let same : (at k : ℕ) → flags_at flags (sets_of calls) at k ≡ of at k = λ at k. printed_same flags all calls at k (plain_words flags calls answers) g.same in
    record { same = g.same; quiet = g.quiet; loads = all_loads of spells (plain_loads of flags calls same answers) }

pub alone : AloneLaw
alone = λ flags stack depths spells are answers.
    let stints : List Stint = stints_of spells in
    let all : List Placed = places (blocks_of stints) in
    let t : AreTogether flags spells = together flags stack depths spells are answers in
    let j = journals (printed flags all) stack depths stints are.stints t.loads in
    let plain = agreed [] [] all (record { rows = refl; words = refl; numbers = refl; free = λ row. refl }) t.quiet (subst (AreNextNotes []) (sym t.same) (told_next flags (calls_of spells) answers))
    (subst (AreNextTickets []) (sym (spells_ticketed stack depths [] 0 spells are.stints).same) (tickets_next flags None (calls_of spells) answers (all_paired stack depths spells are))) in
    record {
      shaped = j.shaped;
      plain = plain;
      alone = plain_keeps (blocks_of stints) j.shaped plain;
      judged = j.judged;
      numbered = j.numbered;
    }
