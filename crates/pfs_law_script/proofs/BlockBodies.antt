-- The lines of a block, but for a quit at their end.
use Rattle.std.proofs.Common.{ℕ, ◌≡◌, ◌==◌, Bool, true, false, ◌||◌, not, List, [], ◌∷◌, ◌++◌, Option, Some, None, refl, ap, sym, ◌∙◌, subst, inl, inr, arith, append_assoc}
use Rattle.std.specs.Prelude.{option_map, option_and_then, is_some}
use Rattle.std.specs.List.{list_any}
use Rattle.std.proofs.lemmas.Bool.{cases_Bool, eqb-true}
use Rattle.pfs_lemmas.proofs.Bools.{or_first, or_second, true_not_false}
use Rattle.pfs_classes.specs.declared.classes.ClassRef.{ClassRef}
use Rattle.pfs_classes.specs.declared.classes.ClassRef.TheVariants as refs
use Rattle.pfs_script.specs.declared.forms.Form.{Form}
use Rattle.pfs_script.specs.declared.forms.Form.TheVariants as form
use Rattle.pfs_script.specs.declared.blocks.BlockLine.{BlockLine}
use Rattle.pfs_script.specs.declared.blocks.BlockLine.TheVariants as said
use Rattle.pfs_script.specs.Headings.{head_of, resolved}
use Rattle.pfs_script.specs.Finds.{table_number, tables_of, digest_place}
use Rattle.pfs_script.specs.LineCounts.{is_in_repeat}
use Rattle.pfs_script.specs.KnownClasses.{IsKnownClass, IsKnown}
use Rattle.pfs_script.specs.Sessions as sessions
use Rattle.pfs_script.specs.Sessions.{is_block_of, phase_of, ends_block, session_now, lines_of, has_quit}
use Rattle.pfs_script.specs.Reasons.{is_event_class, is_outside, kinds_open}
use Rattle.pfs_script.specs.Brackets.{innermost}
use Rattle.pfs_event.specs.declared.kind.EventKind.{EventKind}
use Rattle.pfs_script.specs.Blocks.{Sense, sense_of, with_front, block_line, block_lines}
use Rattle.pfs_script.proofs.LinesBehind.{any_more, in_repeat-same}
use Rattle.pfs_script.proofs.SessionTurns.{open_more, now_same, lines_ends, lines_other, lines_own}
use Rattle.pfs_script.proofs.FaultlessLines.{Passes}
use Rattle.pfs_script.proofs.BlockNests.{Stand, event_other, kinds_along, along_more}
use Rattle.pfs_script.proofs.NameReferences.{resolved_within}
use Rattle.pfs_play.specs.Errands.{is_quit, IsKnownTable, IsKnownDigest}
use Rattle.pfs_law_script.specs.PlayableBlocks.{end_of}
use Rattle.pfs_law_script.proofs.Bools.{both_false, or_true, first_true}
use Rattle.pfs_law_script.proofs.LineBounds.{table_known}
use Rattle.pfs_law_script.proofs.ClassBounds.{few_classes}
use Rattle.pfs_law_script.proofs.DigestBounds.{digest_known}
use Rattle.pfs_law_script.proofs.OwnBlocks.{blocks_from, from_other, none_begun}

-- a session that has quit has quit for good

quit_by : (number : ℕ) (before : List Form) (line : Form) (own ends : Bool) → (session_now before == number) ≡ own
    → ends_block line ≡ ends → has_quit number before ≡ true → has_quit number (before ++ line ∷ []) ≡ true
quit_by number before line own true o e q = ap (list_any sessions.is_quit) (lines_ends number before line e) ∙ q
quit_by number before line false ends o e q = ap (list_any sessions.is_quit) (lines_other number before line o) ∙ q
quit_by number before line true false o e q =
    ap (list_any sessions.is_quit) (lines_own number before line o e)
    ∙ (any_more sessions.is_quit (lines_of number before) line
    ∙ first_true (list_any sessions.is_quit (lines_of number before)) (sessions.is_quit line) q)

quit_more : (number : ℕ) (before : List Form) (line : Form) → has_quit number before ≡ true
    → has_quit number (before ++ line ∷ []) ≡ true
quit_more number before line q =
    quit_by number before line (session_now before == number) (ends_block line) refl refl q

quit_here : (number : ℕ) (before : List Form) → (session_now before == number) ≡ true
    → has_quit number (before ++ form.Quit ∷ []) ≡ true
quit_here number before own =
    ap (list_any sessions.is_quit) (lines_own number before form.Quit own refl)
    ∙ (any_more sessions.is_quit (lines_of number before) form.Quit
    ∙ or_true (list_any sessions.is_quit (lines_of number before)) true refl)

connects_not : (number session : ℕ) (before : List Form) (b : Bool) → (session == number) ≡ b
    → (is_outside session || list_any (is_block_of session) before) ≡ false
    → list_any (is_block_of number) before ≡ true → b ≡ false
connects_not number session before true e p has =
    let same = eqb-true session number e in
    let none = or_second (is_outside session) (list_any (is_block_of session) before) p in
    absurd (true_not_false (list_any (is_block_of number) before) has
    (subst (λ number. list_any (is_block_of number) before ≡ false) same none))
connects_not number session before false e p has = refl

resumes_not : (number session : ℕ) (before : List Form) (b : Bool) → (session == number) ≡ b
    → (is_outside session || (not (list_any (is_block_of session) before)
    || (list_any (is_block_of session) (phase_of before) || has_quit session before))) ≡ false
    → has_quit number before ≡ true → b ≡ false
resumes_not number session before true e p quit =
    let same = eqb-true session number e in
    let in_phase = list_any (is_block_of session) (phase_of before) in
    let none = or_second in_phase (has_quit session before)
    (or_second (not (list_any (is_block_of session) before)) (in_phase || has_quit session before)
    (or_second (is_outside session) (not (list_any (is_block_of session) before)
    || (in_phase || has_quit session before)) p)) in
    absurd (true_not_false (has_quit number before) quit (subst (λ number. has_quit number before ≡ false) same none))
resumes_not number session before false e p quit = refl

begins_not : (number : ℕ) (before : List Form) (line : Form) → Passes before line
    → has_quit number before ≡ true → list_any (is_block_of number) before ≡ true → is_block_of number line ≡ false
begins_not number before (form.Connect (Some session) user host) p quit has =
    connects_not number session before (session == number) refl p.session has
begins_not number before (form.Connect None user host) p quit has = refl
begins_not number before (form.Resume (Some session)) p quit has =
    resumes_not number session before (session == number) refl p.session quit
begins_not number before (form.Resume None) p quit has = refl
begins_not number before _ p quit has = refl

never_again : (number : ℕ) (before lines : List Form) → Stand before lines → has_quit number before ≡ true
    → list_any (is_block_of number) before ≡ true → list_any (is_block_of number) lines ≡ false
never_again number before [] s quit has = refl
never_again number before (line ∷ lines) s quit has =
    both_false (is_block_of number line) (list_any (is_block_of number) lines)
    (begins_not number before line s.0 quit has)
    (never_again number (before ++ line ∷ []) lines s.1 (quit_more number before line quit)
    (any_more (is_block_of number) before line
    ∙ first_true (list_any (is_block_of number) before) (is_block_of number line) has))

-- behind a quit no line of its block says anything

module _ (sense : Sense) where
  -- each line that says something is refused there
  says_none : (before : List Form) (line : Form) → Passes before line → ends_block line ≡ false
      → has_quit (session_now before) before ≡ true → is_in_repeat before ≡ false
      → (block_line sense line ≡ None) × (is_in_repeat (before ++ line ∷ []) ≡ false)
  says_none before (form.Limit name value) p e quit out =
      (refl, in_repeat-same before (form.Limit name value) refl refl ∙ out)
  says_none before (form.Class name kind enabled timed) p e quit out =
      (refl, in_repeat-same before (form.Class name kind enabled timed) refl refl ∙ out)
  says_none before (form.Consumer name on) p e quit out =
      (refl, in_repeat-same before (form.Consumer name on) refl refl ∙ out)
  says_none before (form.Instrument pattern enabled timed) p e quit out =
      (refl, in_repeat-same before (form.Instrument pattern enabled timed) refl refl ∙ out)
  says_none before form.Silent p e quit out = (refl, in_repeat-same before form.Silent refl refl ∙ out)
  says_none before form.Phase p e quit out = cc
  says_none before (form.Connect session user host) p e quit out = cc
  says_none before (form.Resume session) p e quit out = cc
  says_none before form.Done p e quit out = absurd (let q = p.place in cc)
  says_none before form.Quit p e quit out =
      let blockless = or_first ((session_now before == 0) || has_quit (session_now before) before)
      (is_in_repeat before) p.place in
      absurd (true_not_false (has_quit (session_now before) before) quit
      (or_second (session_now before == 0) (has_quit (session_now before) before) blockless))
  says_none before (form.Repeat times) p e quit out =
      let blockless = or_first ((session_now before == 0) || has_quit (session_now before) before)
      (is_in_repeat before) p.place in
      absurd (true_not_false (has_quit (session_now before) before) quit
      (or_second (session_now before == 0) (has_quit (session_now before) before) blockless))
  says_none before _ p e quit out =
      absurd (true_not_false (has_quit (session_now before) before) quit
      (or_second (session_now before == 0) (has_quit (session_now before) before) p.place))

  pub first_said : (line : Form) (lines : List Form) → ends_block line ≡ false
      → block_lines sense (line ∷ lines) ≡ with_front (block_line sense line) (block_lines sense lines)
  unfolding block_lines
  first_said line lines n = rw n refl

  pub stop_said : (line : Form) (lines : List Form) → ends_block line ≡ true → block_lines sense (line ∷ lines) ≡ []
  unfolding block_lines
  stop_said line lines n = rw n refl

  pub last_said : block_lines sense [] ≡ []
  unfolding block_lines
  last_said = refl

  nothing_said : (before lines : List Form) → Stand before lines → has_quit (session_now before) before ≡ true
      → is_in_repeat before ≡ false → block_lines sense lines ≡ []
  nothing_said before [] s quit out = last_said
  nothing_said before (line ∷ lines) s quit out =
      elim (cases_Bool (ends_block line)) [
        | inl e ↦ stop_said line lines e
        | inr e ↦
            let here = says_none before line s.0 e quit out in
            let still : has_quit (session_now (before ++ line ∷ [])) (before ++ line ∷ []) ≡ true =
            ap (λ session. has_quit session (before ++ line ∷ [])) (now_same before line e)
            ∙ quit_more (session_now before) before line quit in
            first_said line lines e
            ∙ (ap (λ one. with_front one (block_lines sense lines)) here.0
            ∙ nothing_said (before ++ line ∷ []) lines s.1 still here.1)
      ]

-- it isn't the session's end, and its class, its table and the place of its digest text are known
abbrev IsSuch : BlockLine → Type 0
IsSuch line = (is_quit line ≡ false) × IsKnown 62 line × IsKnownTable line × IsKnownDigest line

abbrev pub AreSuch : List BlockLine → Type 0
AreSuch [] = Unit {0}
AreSuch (line ∷ lines) = IsSuch line × AreSuch lines

front_append : (one : Option BlockLine) (body more : List BlockLine)
    → with_front one (body ++ more) ≡ with_front one body ++ more
front_append None body more = refl
front_append (Some line) body more = refl

module _ (all : List Form) (stands : Stand [] all) where
  class_known : (before : List Form) (class : List ℕ) (ref : ClassRef) → not (is_event_class before class) ≡ false
      → resolved (head_of all) class ≡ Some ref → IsKnownClass 62 ref
  class_known before class (refs.Class id) p e =
      let within = resolved_within all class id (event_other before class p) e in
      omega (arith, within, few_classes all stands)
  class_known before class (refs.Lost kind) p e = tt

  such_class : (before : List Form) (class : List ℕ) (starts : ClassRef → BlockLine) (more : List BlockLine)
      (ref : Option ClassRef) → not (is_event_class before class) ≡ false → resolved (head_of all) class ≡ ref
      → ((one : ClassRef) → IsKnownClass 62 one → IsSuch (starts one)) → AreSuch more
      → AreSuch (with_front (option_map starts ref) more)
  such_class before class starts more None p e such h = h
  such_class before class starts more (Some ref) p e such h = (such ref (class_known before class ref p e), h)

  such_table : (before : List Form) (class schema name : List ℕ) (more : List BlockLine) (ref : Option ClassRef)
      (number : Option ℕ) → not (is_event_class before class) ≡ false → resolved (head_of all) class ≡ ref
      → table_number (tables_of all) schema name ≡ number → AreSuch more
      → AreSuch (with_front (option_and_then (λ one. option_map (said.TableWait one) number) ref) more)
  such_table before class schema name more None number p e t h = h
  such_table before class schema name more (Some ref) None p e t h = h
  such_table before class schema name more (Some ref) (Some number) p e t h =
      ((refl, class_known before class ref p e, table_known all schema name number stands t, tt), h)

  such_front : (before : List Form) (line : Form) (more : List BlockLine) → Passes before line
      → sessions.is_quit line ≡ false → AreSuch more → AreSuch (with_front (block_line (sense_of all) line) more)
  such_front before (form.Wait class) more p q h =
      such_class before class said.Wait more (resolved (head_of all) class) p.known refl (λ one k. (refl, k, tt, tt)) h
  such_front before (form.TableWait class schema name) more p q h =
      such_table before class schema name more (resolved (head_of all) class)
      (table_number (tables_of all) schema name) p.known refl refl h
  such_front before (form.Statement class text) more p q h =
      such_class before class (λ ref. said.Statement ref (digest_place (sense_of all).digests text)) more
      (resolved (head_of all) class) p.known refl (λ one k. (refl, k, tt, digest_known all text stands)) h
  such_front before (form.Stage class) more p q h =
      such_class before class said.Stage more (resolved (head_of all) class) p.known refl (λ one k. (refl, k, tt, tt)) h
  such_front before (form.Transaction access) more p q h = ((refl, tt, tt, tt), h)
  such_front before form.StageEnd more p q h = ((refl, tt, tt, tt), h)
  such_front before (form.Spend (Some time)) more p q h = ((refl, tt, tt, tt), h)
  such_front before (form.Spend None) more p q h = h
  such_front before form.End more p q h = ((refl, tt, tt, tt), h)
  such_front before (form.EndStatement numbers) more p q h = ((refl, tt, tt, tt), h)
  such_front before (form.Repeat (Some times)) more p q h = ((refl, tt, tt, tt), h)
  such_front before (form.Repeat None) more p q h = h
  such_front before (form.Sql text) more p q h = ((refl, tt, tt, tt), h)
  such_front before form.Done more p q h = ((refl, tt, tt, tt), h)
  such_front before form.Quit more p q h = cc
  such_front before line more p q h = h

  -- what the lines up to the next block say to their session
  pub record Said (number : ℕ) (before lines : List Form) : Type 0 where
    pub body : List BlockLine
    pub quits : Bool
    pub are : block_lines (sense_of all) lines ≡ body ++ end_of quits
    pub such : AreSuch body
    pub closed : quits ≡ true → kinds_along (kinds_open before) (block_lines (sense_of all) lines) ≡ []
    pub last : quits ≡ true → blocks_from number (sense_of all) lines ≡ []

  said_none : (number : ℕ) (before lines : List Form) → block_lines (sense_of all) lines ≡ []
      → Said number before lines
  said_none number before lines none = record {
    body = [];
    quits = false;
    are = none;
    such = tt;
    closed = λ e. cc;
    last = λ e. cc;
  }

  none_open : (kinds : List EventKind) → is_some (innermost kinds) ≡ false → kinds ≡ []
  none_open [] h = refl
  none_open (kind ∷ kinds) h = cc

  said_quit : (number : ℕ) (before lines : List Form) → (session_now before == number) ≡ true
      → list_any (is_block_of number) before ≡ true → Passes before form.Quit
      → Stand (before ++ form.Quit ∷ []) lines → Said number before (form.Quit ∷ lines)
  said_quit number before lines own has p s =
      let behind = before ++ form.Quit ∷ [] in
      let quit : has_quit number behind ≡ true = quit_here number before own in
      let now : session_now behind ≡ number = now_same before form.Quit refl
      ∙ eqb-true (session_now before) number own in
      let out : is_in_repeat behind ≡ false = in_repeat-same before form.Quit refl refl
      ∙ or_second ((session_now before == 0) || has_quit (session_now before) before) (is_in_repeat before)
      p.place in
      let none = nothing_said (sense_of all) behind lines s
      (ap (λ session. has_quit session behind) now ∙ quit) out in
      let still : list_any (is_block_of number) behind ≡ true = any_more (is_block_of number) before form.Quit
      ∙ first_true (list_any (is_block_of number) before) false has in
      let alone = first_said (sense_of all) form.Quit lines refl ∙ ap (λ more. said.Quit ∷ more) none in
      record {
        body = [];
        quits = true;
        are = alone;
        such = tt;
        closed = λ e. ap (kinds_along (kinds_open before)) alone ∙ none_open (kinds_open before) p.nesting;
        last = λ e.
            from_other number (sense_of all) form.Quit lines refl
            ∙ none_begun number (sense_of all) behind lines s (never_again number behind lines s quit still);
      }

  said_more : (number : ℕ) (before lines : List Form) (line : Form) → Passes before line
      → ends_block line ≡ false → sessions.is_quit line ≡ false → all ≡ before ++ line ∷ lines
      → Said number (before ++ line ∷ []) lines → Said number before (line ∷ lines)
  said_more number before lines line p e q is rest = record {
    body = with_front (block_line (sense_of all) line) rest.body;
    quits = rest.quits;
    are =
        first_said (sense_of all) line lines e
        ∙ (ap (with_front (block_line (sense_of all) line)) rest.are
        ∙ front_append (block_line (sense_of all) line) rest.body (end_of rest.quits));
    such = such_front before line rest.body p q rest.such;
    closed = λ quits.
        along_more all before lines line (kinds_open before) p e is
        ∙ (ap (λ kinds. kinds_along kinds (block_lines (sense_of all) lines)) (sym (open_more before line e))
        ∙ rest.closed quits);
    last = λ quits. from_other number (sense_of all) line lines e ∙ rest.last quits;
  }

  quit_is : (line : Form) → sessions.is_quit line ≡ true → line ≡ form.Quit
  quit_is form.Quit h = refl
  quit_is _ h = cc

  pub say : (number : ℕ) (before lines : List Form) → Stand before lines → all ≡ before ++ lines
      → (session_now before == number) ≡ true → list_any (is_block_of number) before ≡ true
      → Said number before lines
  say number before [] s is own has = said_none number before [] (last_said (sense_of all))
  say number before (line ∷ lines) s is own has =
      elim (cases_Bool (ends_block line)) [
        | inl e ↦ said_none number before (line ∷ lines) (stop_said (sense_of all) line lines e)
        | inr e ↦
            elim (cases_Bool (sessions.is_quit line)) [
              | inl q ↦
                  let same = quit_is line q in
                  subst (λ one. Said number before (one ∷ lines)) (sym same)
                  (said_quit number before lines own has (subst (λ one. Passes before one) same s.0)
                  (subst (λ one. Stand (before ++ one ∷ []) lines) same s.1))
              | inr q ↦
                  let now = ap (λ session. session == number) (now_same before line e) ∙ own in
                  let still = any_more (is_block_of number) before line
                  ∙ first_true (list_any (is_block_of number) before) (is_block_of number line) has in
                  said_more number before lines line s.0 e q is
                  (say number (before ++ line ∷ []) lines s.1 (is ∙ sym (append_assoc before (line ∷ []) lines)) now
                  still)
            ]
      ]
