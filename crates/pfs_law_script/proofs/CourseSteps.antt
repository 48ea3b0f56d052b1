-- The course before anything, and with one block more.
use Rattle.std.proofs.Common.{ℕ, ◌≡◌, ◌+◌, ◌≤◌, ◌==◌, Bool, true, false, cond, List, [], ◌∷◌, ◌++◌, length, Option, Some, None, eq-eqb, refl, ap, sym, ◌∙◌, subst, length-append, arith}
use Rattle.std.specs.Prelude.{IfSome}
use Rattle.std.specs.List.{flat_map}
use Rattle.std.proofs.lemmas.Bool.{eqb-true}
use Rattle.std.proofs.lemmas.List.{append-nil}
use Rattle.std.proofs.lemmas.List.Concat.{flat_map-append}
use Rattle.pfs_admin.specs.declared.changes.Change.{Change}
use Rattle.pfs_law_plain.proofs.NextSpell.{stints_of_more, last_phase, spells_more}
use Rattle.pfs_law_plain.specs.Spells.{Spell, parts_in, stint_of, stints_of}
use Rattle.pfs_board.specs.declared.view.Label.{Label}
use Rattle.pfs_classes.specs.declared.setting.Setting.{Setting}
use Rattle.pfs_model.specs.Chains.{Each}
use Rattle.pfs_law_session.proofs.JournalLines.{parts_number}
use Rattle.pfs_law_session.proofs.Stints.{state_more, over_more}
use Rattle.pfs_law_session.specs.Deeds.{Part}
use Rattle.pfs_law_session.specs.JournalLaws.{MayDoAll, state_behind, over_behind}
use Rattle.pfs_law_session.specs.Stints.{resumed, state_by, over_by}
use Rattle.pfs_law_script.specs.PlayableBlocks.{end_of}
use Rattle.pfs_law_plain.proofs.NextFold.{spell_folded, spell_first}
use Rattle.pfs_runs.specs.ScriptLines.{changes_in, change_in}
use Rattle.pfs_script.specs.Marks.{written_out}
use Rattle.pfs_script.specs.declared.blocks.Connect.{Connect}
use Rattle.pfs_script.specs.declared.blocks.Phase.{Phase}
use Rattle.pfs_session.specs.SessionStates.{State, fresh}
use Rattle.pfs_play.specs.Errands.{AreFor}
use Rattle.pfs_law_script.specs.Course.{PhasedBlock, IsSpellOf, AreSpellsOf, asks_of, own_blocks, own_changes, session_at, over_at}
use Rattle.pfs_law_script.specs.CourseSteps.{NoCourseLaw, OneMoreLaw, spell_at}
use Rattle.pfs_law_script.proofs.BlockChanges.{own_more, block_changes}
use Rattle.pfs_law_script.proofs.BlockActions.{are_entered, block_first, block_through, parts_made}
use Rattle.pfs_law_script.proofs.QuietLines.{HasQuietLines, quiet_lines}

pub no_course : NoCourseLaw
no_course = λ setting change depths. record {
  course = record {
    are_spells = record { stints = tt; entered = tt };
    folded = tt;
    first = tt;
    blocks = tt;
    numbers = λ session. refl;
    counted = λ session. refl;
  };
  sessions = λ session. refl;
  none_over = λ session. refl;
}

-- lists with one more
pub spells_of_more : (done : List PhasedBlock) (spells : List Spell) (one : PhasedBlock) (spell : Spell) → AreSpellsOf done spells → IsSpellOf one spell → AreSpellsOf (done ++ one ∷ []) (spells ++ spell ∷ [])
spells_of_more [] [] one spell are is = (is, tt)
spells_of_more [] (x ∷ xs) one spell are is = absurd are
spells_of_more (x ∷ xs) [] one spell are is = absurd are
spells_of_more (x ∷ xs) (y ∷ ys) one spell are is = (are.0, spells_of_more xs ys one spell are.1 is)

-- the blocks that are done stand in no later phase
last_low : (phase most : ℕ) (done : List PhasedBlock) (spells : List Spell) → phase ≤ most → Each (λ (earlier : PhasedBlock). earlier.phase ≤ most) done → AreSpellsOf done spells → last_phase phase (stints_of spells) ≤ most
last_low phase most [] [] low all are = low
last_low phase most [] (x ∷ xs) low all are = absurd are
last_low phase most (x ∷ xs) [] low all are = absurd are
last_low phase most (x ∷ xs) (y ∷ ys) low all are = last_low y.phase most xs ys (subst (λ n. n ≤ most) (sym are.0.phase) all.0) all.1 are.1

-- the sessions behind one spell more
pub session_more : (setting : Setting) (depths : ℕ → ℕ) (spells : List Spell) (spell : Spell) (session : ℕ)
    → session_at setting depths (spells ++ spell ∷ []) session
    ≡ cond (spell.session == session) (resumed (state_behind (session_at setting depths spells session) (parts_in spell.doings))) (session_at setting depths spells session)
session_more setting depths spells spell session =
    let from : State = fresh session setting.limits.statement_stack (depths session) in
    ap (state_by session from) (stints_of_more spells spell) ∙ state_more session from (stints_of spells) (stint_of spell)

pub over_at_more : (spells : List Spell) (spell : Spell) (session : ℕ)
    → over_at (spells ++ spell ∷ []) session ≡ cond (spell.session == session) (over_behind (over_at spells session) (parts_in spell.doings)) (over_at spells session)
over_at_more spells spell session = ap (over_by session false) (stints_of_more spells spell) ∙ over_more session false (stints_of spells) (stint_of spell)

changes_more : (session : ℕ) (done : List PhasedBlock) (one : PhasedBlock) → own_changes session (done ++ one ∷ []) ≡ own_changes session done ++ flat_map changes_in (cond (one.block.session == session) (one.block ∷ []) [])
changes_more session done one =
    ap (flat_map changes_in) (own_more session done one) ∙ flat_map-append changes_in (own_blocks session done) (cond (one.block.session == session) (one.block ∷ []) [])

-- what the session's own and other sessions keep
record Keeps (session made : ℕ) (s : State) : Type 0 where
  pub number : s.number ≡ session
  pub actions : s.actions ≡ made

keep_more : (setting : Setting) (depths : ℕ → ℕ) (done : List PhasedBlock) (spells : List Spell) (one : PhasedBlock) (spell : Spell) → spell.session ≡ one.block.session
    → ((session : ℕ) → Keeps session (length (own_changes session done)) (session_at setting depths spells session))
    → Keeps one.block.session (length (own_changes one.block.session done ++ changes_in one.block)) (state_behind (session_at setting depths spells one.block.session) (parts_in spell.doings))
    → (session : ℕ) → Keeps session (length (own_changes session (done ++ one ∷ []))) (session_at setting depths (spells ++ spell ∷ []) session)
keep_more setting depths done spells one spell same all own session =
    subst (Keeps session (length (own_changes session (done ++ one ∷ [])))) (sym (session_more setting depths spells spell session))
    (subst (λ z. Keeps session (length z) (cond (spell.session == session) (resumed (state_behind (session_at setting depths spells session) (parts_in spell.doings))) (session_at setting depths spells session)))
    (sym (changes_more session done one))
    (subst (λ n. Keeps session (length (own_changes session done ++ flat_map changes_in (cond (one.block.session == session) (one.block ∷ []) [])))
    (cond (n == session) (resumed (state_behind (session_at setting depths spells session) (parts_in spell.doings))) (session_at setting depths spells session))) (sym same)
    (at session (one.block.session == session) refl))) where
      at : (k : ℕ) (b : Bool) → (one.block.session == k) ≡ b
          → Keeps k (length (own_changes k done ++ flat_map changes_in (cond b (one.block ∷ []) [])))
          (cond b (resumed (state_behind (session_at setting depths spells k) (parts_in spell.doings))) (session_at setting depths spells k))
      at k true e =
          let here : Keeps k (length (own_changes k done ++ changes_in one.block)) (state_behind (session_at setting depths spells k) (parts_in spell.doings)) =
          subst (λ z. Keeps z (length (own_changes z done ++ changes_in one.block)) (state_behind (session_at setting depths spells z) (parts_in spell.doings))) (eqb-true one.block.session k e) own in
          record { number = here.number; actions = here.actions ∙ ap (λ z. length (own_changes k done ++ z)) (sym (append-nil (changes_in one.block))) }
      at k false e = record { number = (all k).number; actions = (all k).actions ∙ ap length (sym (append-nil (own_changes k done))) }

-- a block that connects is its session's first
first_made : (session made : ℕ) (before : List PhasedBlock) (connect : Option Connect) → made ≡ length (own_changes session before) → IfSome connect (λ names. own_blocks session before ≡ []) → IfSome connect (λ names. made ≡ 0)
first_made session made before None count first = tt
first_made session made before (Some names) count first = count ∙ ap (λ z. length (flat_map changes_in z)) first

pub one_more : OneMoreLaw
one_more = λ setting phases depths dones spells one doings c n p.
    (let session : ℕ = one.block.session in
    let s : State = session_at setting depths spells session in
    let spell : Spell = spell_at one doings in
    let parts : List Part = parts_in doings in
    let change : Label → Change = change_in phases in
    let has : HasQuietLines one.block.lines = quiet_lines n.before n.after one.block n.body in
    let asked : AreFor (asks_of one.block.connect (has.quiet ++ end_of has.quits)) parts = subst (λ z. AreFor (asks_of one.block.connect z) parts) has.written p.asked in
    let through = block_through s.actions one.block.connect has.quiet has.quits parts has.are_quiet asked in
    let changes = ap length (block_changes one.block has) in
    let both = length-append (own_changes session dones) (changes_in one.block) in
    let made : (state_behind s parts).actions ≡ length (own_changes session dones ++ changes_in one.block) = omega (arith, parts_made s parts p.are_parts, through.made_is, changes, both, c.counted session) in
    let keep : (k : ℕ) → Keeps k (length (own_changes k (dones ++ one ∷ []))) (session_at setting depths (spells ++ spell ∷ []) k) =
    keep_more setting depths dones spells one spell refl (λ k. record { number = c.numbers k; actions = c.counted k }) (record { number = parts_number s parts p.are_parts ∙ c.numbers session; actions = made }) in
    record {
      course = record {
        are_spells = spells_more setting.limits.statement_stack depths spells spell c.are_spells (last_low 0 one.phase dones spells (none_less one.phase) n.low c.blocks)
            (record { are_parts = p.are_parts; may = subst (λ b. MayDoAll b s parts) (sym p.goes_on) p.may }) (are_entered setting change s doings p.labelled p.folded);
        folded = spell_folded setting change spells spell c.folded p.folded;
        first = spell_first spells spell c.first
            (block_first s one.block.connect (written_out one.block.lines) doings p.asked p.labelled (first_made session s.actions dones one.block.connect (c.counted session) n.first));
        blocks = spells_of_more dones spells one spell c.blocks (record { phase = refl; session = refl; asked = p.asked });
        numbers = λ k. (keep k).number;
        counted = λ k. (keep k).actions;
      };
      own = session_more setting depths spells spell session
          ∙ ap (λ b. cond b (resumed (state_behind s parts)) s) (eq-eqb session session refl);
      own_over = over_at_more spells spell session
          ∙ (ap (λ b. cond b (over_behind (over_at spells session) parts) (over_at spells session)) (eq-eqb session session refl) ∙ ap (λ b. over_behind b parts) p.goes_on);
      others = λ k e. session_more setting depths spells spell k
          ∙ ap (λ b. cond b (resumed (state_behind (session_at setting depths spells k) parts)) (session_at setting depths spells k)) e;
      others_over = λ k e. over_at_more spells spell k ∙ ap (λ b. cond b (over_behind (over_at spells k) parts) (over_at spells k)) e;
    }) where
      none_less : (n : ℕ) → 0 ≤ n
      none_less n = omega arith
