-- The blocks of a session that begin among lines.
use Rattle.std.proofs.Common.{ℕ, ◌≡◌, ◌==◌, Bool, true, false, cond, List, [], ◌∷◌, ◌++◌, Some, None, refl, sym, ◌∙◌, inl, inr}
use Rattle.std.specs.Prelude.{filter}
use Rattle.std.specs.List.{list_any, flat_map}
use Rattle.std.proofs.lemmas.List.Elements.{filter-append}
use Rattle.std.proofs.lemmas.Bool.{cases_Bool}
use Rattle.pfs_lemmas.proofs.Bools.{or_first, or_second}
use Rattle.pfs_script.specs.declared.forms.Form.{Form}
use Rattle.pfs_script.specs.declared.forms.Form.TheVariants as form
use Rattle.pfs_script.specs.declared.blocks.Block.{Block}
use Rattle.pfs_script.specs.declared.blocks.Phase.{Phase}
use Rattle.pfs_script.specs.Sessions.{is_phase, is_session, is_block_of, ends_block}
use Rattle.pfs_script.specs.SessionNames.{connect_of}
use Rattle.pfs_script.specs.Blocks.{Sense, block_lines, block_behind, blocks_of, phases_of}
use Rattle.pfs_script.specs.Events.{blocks_for}
use Rattle.pfs_script.proofs.LinesBehind.{any_more}
use Rattle.pfs_script.proofs.BlockNests.{Stand}
use Rattle.pfs_script.proofs.FaultlessLines.{Passes}

pub none_block : (sense : Sense) (lines : List Form) (line : Form) → is_session line ≡ false
    → block_behind sense lines line ≡ None
none_block sense lines (form.Connect session user host) h = cc
none_block sense lines (form.Resume session) h = cc
none_block sense lines _ h = refl

-- before the first phase no session may stand
not_yet : (before : List Form) (line : Form) → Passes before line → list_any is_phase before ≡ false
    → is_session line ≡ false
not_yet before (form.Connect session user host) p none = let q = p.place in absurd (cc)
not_yet before (form.Resume session) p none = let q = p.place in absurd (cc)
not_yet before _ p none = refl

module _ (number : ℕ) (sense : Sense) where
  abbrev pub is_own : Block → Bool
  is_own block = block.session == number

  -- those up to the next phase, and those of later phases
  abbrev pub blocks_from : List Form → List Block
  blocks_from lines = filter is_own (blocks_of sense lines) ++ blocks_for number (phases_of sense lines)

  pub from_none : blocks_from [] ≡ []
  unfolding blocks_of phases_of
  from_none = refl

  pub from_phase : (lines : List Form) → blocks_from (form.Phase ∷ lines) ≡ blocks_from lines
  unfolding blocks_of phases_of
  from_phase lines =
      filter-append is_own (blocks_of sense lines)
      (flat_map (λ (phase : Phase). phase.blocks) (phases_of sense lines))

  pub from_other : (line : Form) (lines : List Form) → ends_block line ≡ false
      → blocks_from (line ∷ lines) ≡ blocks_from lines
  unfolding blocks_of phases_of
  from_other line lines e =
      rw (
        or_first (is_phase line) (is_session line) e,
        none_block sense lines line (or_second (is_phase line) (is_session line) e),
      ) refl

  abbrev pub with_own : Bool → Block → List Block → List Block
  with_own b block more = cond b (block ∷ more) more

  own_by : (b : Bool) (block : Block) (here later : List Block)
      → cond b (block ∷ here) here ++ later ≡ with_own b block (here ++ later)
  own_by true block here later = refl
  own_by false block here later = refl

  abbrev pub connected : ℕ → List ℕ → List ℕ → List Form → Block
  connected session user host lines = record {
    session = session;
    connect = Some (connect_of sense.names user host);
    lines = block_lines sense lines;
  }

  abbrev pub resumed : ℕ → List Form → Block
  resumed session lines = record { session = session; connect = None; lines = block_lines sense lines }

  pub from_connect : (session : ℕ) (user host : List ℕ) (lines : List Form)
      → blocks_from (form.Connect (Some session) user host ∷ lines)
      ≡ with_own (session == number) (connected session user host lines) (blocks_from lines)
  unfolding blocks_of phases_of
  from_connect session user host lines =
      own_by (session == number) _ (filter is_own (blocks_of sense lines)) (blocks_for number (phases_of sense lines))

  pub from_resume : (session : ℕ) (lines : List Form) → blocks_from (form.Resume (Some session) ∷ lines)
      ≡ with_own (session == number) (resumed session lines) (blocks_from lines)
  unfolding blocks_of phases_of
  from_resume session lines =
      own_by (session == number) _ (filter is_own (blocks_of sense lines)) (blocks_for number (phases_of sense lines))

  -- before the first phase no block begins
  pub no_blocks : (before lines : List Form) → Stand before lines → list_any is_phase before ≡ false
      → blocks_of sense lines ≡ []
  unfolding blocks_of
  no_blocks before [] s none = refl
  no_blocks before (line ∷ lines) s none =
      elim (cases_Bool (is_phase line)) [
        | inl p ↦ rw p refl
        | inr p ↦
            let later : list_any is_phase (before ++ line ∷ []) ≡ false = rw (any_more is_phase before line, none) p in
            rw (p, none_block sense lines line (not_yet before line s.0 none))
            (no_blocks (before ++ line ∷ []) lines s.1 later)
      ]

  -- so the blocks of all lines are those of the phases
  pub all_own : (lines : List Form) → Stand [] lines → blocks_from lines ≡ blocks_for number (phases_of sense lines)
  all_own lines s = rw (no_blocks [] lines s refl) refl

  -- where no line begins one, there is none
  none_by : (b : Bool) (block : Block) (more : List Block) → b ≡ false → more ≡ [] → with_own b block more ≡ []
  none_by true block more e h = cc
  none_by false block more e h = h

  none_step : (before lines : List Form) (line : Form) → Passes before line → is_block_of number line ≡ false
      → blocks_from lines ≡ [] → blocks_from (line ∷ lines) ≡ []
  none_step before lines form.Phase p e h = from_phase lines ∙ h
  none_step before lines (form.Connect (Some session) user host) p e h =
      from_connect session user host lines
      ∙ none_by (session == number) (connected session user host lines) (blocks_from lines) e h
  none_step before lines (form.Resume (Some session)) p e h =
      from_resume session lines ∙ none_by (session == number) (resumed session lines) (blocks_from lines) e h
  none_step before lines (form.Connect None user host) p e h = absurd (let q = p.number in cc)
  none_step before lines (form.Resume None) p e h = absurd (let q = p.number in cc)
  none_step before lines line p e h = from_other line lines refl ∙ h

  pub none_begun : (before lines : List Form) → Stand before lines → list_any (is_block_of number) lines ≡ false
      → blocks_from lines ≡ []
  none_begun before [] s e = from_none
  none_begun before (line ∷ lines) s e =
      none_step before lines line s.0 (or_first (is_block_of number line) (list_any (is_block_of number) lines) e)
      (none_begun (before ++ line ∷ []) lines s.1
      (or_second (is_block_of number line) (list_any (is_block_of number) lines) e))

  -- and where one does, there is one
  some_by : (b : Bool) (block : Block) (more : List Block) → b ≡ true → with_own b block more ≡ [] → ⊥
  some_by true block more e h = cc
  some_by false block more e h = cc

  rest_by : (b : Bool) (block : Block) (more : List Block) → with_own b block more ≡ [] → more ≡ []
  rest_by true block more h = cc
  rest_by false block more h = h

  some_here : (line : Form) (lines : List Form) → is_block_of number line ≡ true → blocks_from (line ∷ lines) ≡ [] → ⊥
  some_here (form.Connect (Some session) user host) lines e h =
      some_by (session == number) (connected session user host lines) (blocks_from lines) e
      (sym (from_connect session user host lines) ∙ h)
  some_here (form.Resume (Some session)) lines e h =
      some_by (session == number) (resumed session lines) (blocks_from lines) e (sym (from_resume session lines) ∙ h)
  some_here (form.Connect None user host) lines e h = cc
  some_here (form.Resume None) lines e h = cc
  some_here _ lines e h = cc

  some_step : (before lines : List Form) (line : Form) → Passes before line → blocks_from (line ∷ lines) ≡ []
      → blocks_from lines ≡ []
  some_step before lines form.Phase p h = sym (from_phase lines) ∙ h
  some_step before lines (form.Connect (Some session) user host) p h =
      rest_by (session == number) (connected session user host lines) (blocks_from lines)
      (sym (from_connect session user host lines) ∙ h)
  some_step before lines (form.Resume (Some session)) p h =
      rest_by (session == number) (resumed session lines) (blocks_from lines) (sym (from_resume session lines) ∙ h)
  some_step before lines (form.Connect None user host) p h = absurd (let q = p.number in cc)
  some_step before lines (form.Resume None) p h = absurd (let q = p.number in cc)
  some_step before lines line p h = sym (from_other line lines refl) ∙ h

  pub some_begun : (before lines : List Form) → Stand before lines → list_any (is_block_of number) lines ≡ true
      → blocks_from lines ≡ [] → ⊥
  some_begun before [] s e h = cc
  some_begun before (line ∷ lines) s e h =
      elim (cases_Bool (is_block_of number line)) [
        | inl own ↦ some_here line lines own h
        | inr other ↦
            let later : list_any (is_block_of number) lines ≡ true = rw other at e in
            some_begun (before ++ line ∷ []) lines s.1 later (some_step before lines line s.0 h)
      ]
