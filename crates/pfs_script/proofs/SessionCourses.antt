-- The course agrees with the lines of the sessions, of the phase and of the block.
use Rattle.std.proofs.Common.{ℕ, ◌≡◌, ◌<◌, ◌≤◌, ◌+◌, ◌^◌, Bool, false, true, ◌||◌, ◌&&◌, ◌==◌, not, List, [], ◌∷◌, ◌++◌, Option, Some, None, refl, ap, sym, ◌∙◌, subst, length, length-set, map, inl, inr, arith}
use Rattle.std.specs.Prelude.{nat_le, get_or, slice_set, ◌⊎◌, IfSome, is_some, unwrap_or}
use Rattle.std.specs.List.{list_any}
use Rattle.std.proofs.lemmas.Bool.Decides.{nat_tests}
use Rattle.std.proofs.lemmas.Grind.{get_or-set_at}
use Rattle.std.proofs.lemmas.List.{get_or-set_other}
use Rattle.std.proofs.lemmas.Bool.{cases_Bool, eq-eqb, eqb-true, not-false}
use Rattle.pfs_lemmas.proofs.Bools.{or_false, or_first, or_second}
use Rattle.pfs_script.specs.declared.forms.Form.{Form}
use Rattle.pfs_script.specs.declared.forms.Form.TheVariants as form
use Rattle.pfs_script.specs.declared.courses.Course.{Course}
use Rattle.pfs_event.specs.declared.kind.EventKind.{EventKind}
use Rattle.pfs_script.specs.declared.open_kinds.OpenKinds.{OpenKinds}
use Rattle.pfs_script.specs.declared.open_kinds.SessionState.{SessionState}
use Rattle.pfs_script.specs.Marks.{Passes}
use Rattle.pfs_script.specs.Brackets.{brackets_from, open_in, kinds_of, innermost, kinds_behind, may_stand, is_in_statement}
use Rattle.pfs_script.specs.LineCounts.{ahead_of_last, is_repeat, is_done, is_in_repeat}
use Rattle.pfs_script.specs.Sessions.{is_phase, is_session, is_block_of, is_quit, ends_block, phase_of, session_now, lines_in, lines_of, has_quit}
use Rattle.pfs_script.specs.Reasons.{is_bad_number, is_bad_session, is_bad_nesting, mark_of_form, session_kinds, kinds_open}
use Rattle.pfs_script.specs.ReaderState.{KnowsSession, KnowsCourse, HasBegun, state_at, no_session, kinds_in}
use Rattle.pfs_script.proofs.LinesBehind.{ahead_more, behind_more, behind_none, any_more, in_repeat-begun, in_repeat-done, in_repeat-same}
use Rattle.pfs_script.proofs.SessionTurns.{now_none, now_more, now_same, lines_ends, lines_other, lines_own, kinds_own}

pub phase_new : (before : List Form) (line : Form) → is_phase line ≡ true → phase_of (before ++ line ∷ []) ≡ []
phase_new before line h = rw (behind_more is_phase before line, h) refl

pub phase_same : (before : List Form) (line : Form) → is_phase line ≡ false → phase_of (before ++ line ∷ []) ≡ phase_of before ++ line ∷ []
phase_same before line h = rw (behind_more is_phase before line, h) refl

pub not_block : (number : ℕ) (line : Form) → is_session line ≡ false → is_block_of number line ≡ false
not_block number (form.Connect session user host) h = cc
not_block number (form.Resume session) h = cc
not_block number _ h = refl

any_same : (test : Form → Bool) (before : List Form) (line : Form) → test line ≡ false → list_any test (before ++ line ∷ []) ≡ list_any test before
any_same test before line h = rw (any_more test before line, h) (or_false (list_any test before))

or_true : (a : Bool) → true ≡ (a || true)
or_true true = refl
or_true false = refl

length_more : (before : List Form) (line : Form) → length (before ++ line ∷ []) ≡ length before + 1
length_more [] line = refl
length_more (one ∷ before) line = omega (arith, length_more before line)

in_statement_open : (kinds : List EventKind) → is_in_statement kinds ≡ true → is_some (innermost kinds) ≡ true
in_statement_open [] h = cc
in_statement_open (kind ∷ kinds) h = refl

-- a line that breaks no rule of opening and ending may stand there
pub stands : (before : List Form) (line : Form) → is_bad_nesting before line ≡ false → may_stand (kinds_open before) (mark_of_form line) ≡ true
stands before (form.EndStatement numbers) h = in_statement_open (kinds_open before) (not-false (is_in_statement (kinds_open before)) h)
stands before form.Quit h = refl
stands before form.Done h = refl
stands before line h = not-false (may_stand (kinds_open before) (mark_of_form line)) h

-- one session behind one more line

-- the line is none of its own
session_keeps : (state : SessionState) (number : ℕ) (before : List Form) (line : Form) → KnowsSession state number before → is_block_of number line ≡ false → lines_of number (before ++ line ∷ []) ≡ lines_of number before
    → KnowsSession state number (before ++ line ∷ [])
session_keeps state number before line k b e = record {
  begun = k.begun ∙ sym (any_same (is_block_of number) before line b);
  quits = k.quits ∙ sym (ap (λ lines. list_any is_quit lines) e);
  kinds = k.kinds ∙ sym (ap (λ lines. kinds_of (open_in (map mark_of_form lines))) e);
  inside = k.inside;
  few_waits = omega (arith, k.few_waits, length_more before line);
  few_statements = omega (arith, k.few_statements, length_more before line);
}

-- the line is the last of its block so far
session_moves : (state after : SessionState) (number : ℕ) (before : List Form) (line : Form) → KnowsSession state number before → (session_now before == number) ≡ true → ends_block line ≡ false
    → after.has_begun ≡ state.has_begun → after.has_quit ≡ (state.has_quit || is_quit line) → kinds_in after.events ≡ kinds_behind (mark_of_form line) (kinds_in state.events)
    → (after.events.has_stage ≡ true → 1 ≤ after.events.statements) → after.events.waits ≤ state.events.waits + 1 → after.events.statements ≤ state.events.statements + 1
    → KnowsSession after number (before ++ line ∷ [])
session_moves state after number before line k h e b q o i w t = record {
  begun = b ∙ (k.begun ∙ sym (any_same (is_block_of number) before line (not_block number line (or_second (is_phase line) (is_session line) e))));
  quits = rw (lines_own number before line h e, any_more is_quit (lines_of number before) line) (rw (sym k.quits) q);
  kinds = o ∙ (ap (kinds_behind (mark_of_form line)) k.kinds ∙ sym (kinds_own number before line h e));
  inside = i;
  few_waits = omega (arith, k.few_waits, length_more before line, w);
  few_statements = omega (arith, k.few_statements, length_more before line, t);
}

-- the line says nothing to the session's events
session_idles : (state : SessionState) (number : ℕ) (before : List Form) (line : Form) → KnowsSession state number before → (session_now before == number) ≡ true → ends_block line ≡ false
    → is_quit line ≡ false → mark_of_form line ≡ Passes → KnowsSession state number (before ++ line ∷ [])
session_idles state number before line k h e q m =
    session_moves state state number before line k h e refl (rw q (sym (or_false state.has_quit))) (rw m refl) k.inside (omega arith) (omega arith)

-- a block of it begins
session_begins : (state : SessionState) (number : ℕ) (before : List Form) (line : Form) → KnowsSession state number before → is_block_of number line ≡ true → ends_block line ≡ true
    → KnowsSession (record state { has_begun = true }) number (before ++ line ∷ [])
session_begins state number before line k b e =
    let same = lines_ends number before line e in
    record {
      begun = rw (any_more (is_block_of number) before line, b) (or_true (list_any (is_block_of number) before));
      quits = k.quits ∙ sym (ap (λ lines. list_any is_quit lines) same);
      kinds = k.kinds ∙ sym (ap (λ lines. kinds_of (open_in (map mark_of_form lines))) same);
      inside = k.inside;
      few_waits = omega (arith, k.few_waits, length_more before line);
      few_statements = omega (arith, k.few_statements, length_more before line);
    }

not_equal : (number other : ℕ) → (number == other) ≡ false → ¬ (other ≡ number)
not_equal number other e same = absurd (grind (arith, nat_tests, e, same))

set_here : (sessions : List SessionState) (number other : ℕ) (state : SessionState) → (number == other) ≡ true → number < length sessions → state_at (slice_set sessions number state) other ≡ state
set_here sessions number other state e within = get_or-set_at sessions number other state no_session (sym (eqb-true number other e)) within

set_other : (sessions : List SessionState) (number other : ℕ) (state : SessionState) → (number == other) ≡ false → state_at (slice_set sessions number state) other ≡ state_at sessions other
set_other sessions number other state e = get_or-set_other sessions number other state no_session (not_equal number other e)

abbrev AllKnown : List SessionState → List Form → Type 0
AllKnown sessions before = (number : ℕ) → number < 65 → KnowsSession (state_at sessions number) number before

present_test : (course : Course) (before : List Form) (number : ℕ) (b : Bool) → KnowsCourse course before → (course.present == number) ≡ b → (session_now before == number) ≡ b
present_test course before number b k e = ap (λ session. session == number) (sym k.present) ∙ e

-- the session of the block moved
all_move : (course : Course) (after : List SessionState) (state : SessionState) (before : List Form) (line : Form) → KnowsCourse course before → ends_block line ≡ false → after ≡ slice_set course.sessions course.present state
    → KnowsSession state course.present (before ++ line ∷ []) → AllKnown after (before ++ line ∷ [])
all_move course after state before line k e s moved number low =
    elim (cases_Bool (course.present == number)) [
      | inl same ↦
          subst (λ n. KnowsSession (state_at after n) n (before ++ line ∷ [])) (eqb-true course.present number same)
          (subst (λ one. KnowsSession one course.present (before ++ line ∷ []))
          (sym (ap (λ sessions. state_at sessions course.present) s ∙ set_here course.sessions course.present course.present state (eq-eqb course.present course.present refl) (omega (arith, k.low, k.numbers)))) moved)
      | inr other ↦
          subst (λ one. KnowsSession one number (before ++ line ∷ [])) (sym (ap (λ sessions. state_at sessions number) s ∙ set_other course.sessions course.present number state other))
          (session_keeps (state_at course.sessions number) number before line (k.sessions number low) (not_block number line (or_second (is_phase line) (is_session line) e)) (lines_other number before line (present_test course before number false k other)))
    ]

-- the line says nothing to any session's events
all_idle : (course : Course) (after : List SessionState) (before : List Form) (line : Form) → KnowsCourse course before → ends_block line ≡ false → is_quit line ≡ false → mark_of_form line ≡ Passes → after ≡ course.sessions
    → AllKnown after (before ++ line ∷ [])
all_idle course after before line k e q m s number low =
    subst (λ sessions. KnowsSession (state_at sessions number) number (before ++ line ∷ [])) (sym s)
    (elim (cases_Bool (course.present == number)) [
      | inl same ↦ session_idles (state_at course.sessions number) number before line (k.sessions number low) (present_test course before number true k same) e q m
      | inr other ↦ session_keeps (state_at course.sessions number) number before line (k.sessions number low) (not_block number line (or_second (is_phase line) (is_session line) e)) (lines_other number before line (present_test course before number false k other))
    ])

-- a phase begins
all_phase : (course : Course) (after : List SessionState) (before : List Form) → KnowsCourse course before → after ≡ course.sessions → AllKnown after (before ++ form.Phase ∷ [])
all_phase course after before k s number low =
    subst (λ sessions. KnowsSession (state_at sessions number) number (before ++ form.Phase ∷ [])) (sym s)
    (session_keeps (state_at course.sessions number) number before form.Phase (k.sessions number low) refl (lines_ends number before form.Phase refl))

-- a block begins
all_begin : (course : Course) (after : List SessionState) (before : List Form) (line : Form) (first : ℕ) → KnowsCourse course before → first < 65 → ends_block line ≡ true → ((number : ℕ) → is_block_of number line ≡ (first == number))
    → after ≡ slice_set course.sessions first (record (state_at course.sessions first) { has_begun = true }) → AllKnown after (before ++ line ∷ [])
all_begin course after before line first k within e own s number low =
    elim (cases_Bool (first == number)) [
      | inl same ↦
          subst (λ n. KnowsSession (state_at after n) n (before ++ line ∷ [])) (eqb-true first number same)
          (subst (λ one. KnowsSession one first (before ++ line ∷ []))
          (sym (ap (λ sessions. state_at sessions first) s ∙ set_here course.sessions first first (record (state_at course.sessions first) { has_begun = true }) (eq-eqb first first refl) (omega (arith, within, k.numbers))))
          (session_begins (state_at course.sessions first) first before line (k.sessions first within) (own first ∙ eq-eqb first first refl) e))
      | inr other ↦
          subst (λ one. KnowsSession one number (before ++ line ∷ [])) (sym (ap (λ sessions. state_at sessions number) s ∙ set_other course.sessions first number (record (state_at course.sessions first) { has_begun = true }) other))
          (session_keeps (state_at course.sessions number) number before line (k.sessions number low) (own number ∙ other) (lines_ends number before line e))
    ]

-- the place behind one more line

none_kinds : (number : ℕ) → session_kinds number [] ≡ []
unfolding lines_in brackets_from
none_kinds number = refl

none_quits : (number : ℕ) → has_quit number [] ≡ false
unfolding lines_in
none_quits number = refl

none_known : (sessions : List SessionState) → ((number : ℕ) → number < 65 → state_at sessions number ≡ no_session) → AllKnown sessions []
none_known sessions s number low = subst (λ one. KnowsSession one number []) (sym (s number low)) (record {
  begun = refl;
  quits = sym (none_quits number);
  kinds = sym (none_kinds number);
  inside = λ h. absurd (cc);
  few_waits = omega arith;
  few_statements = omega arith;
})

pub none_knows : (course : Course) → ((number : ℕ) → number < 65 → state_at course.sessions number ≡ no_session) → length course.sessions ≡ 65
    → ((number : ℕ) → number < 65 → get_or course.here number false ≡ false) → length course.here ≡ 65 → course.present ≡ 0 → course.repeat ≡ None → KnowsCourse course []
none_knows course s n h m p r = record {
  sessions = none_known course.sessions s;
  numbers = n;
  here = λ number low. rw (behind_none is_phase) (h number low);
  here_numbers = m;
  present = p ∙ sym now_none;
  low = omega arith;
  repeats = rw r refl;
  first = rw r tt;
}

first_same : (course : Course) (before : List Form) (line : Form) → KnowsCourse course before → is_repeat line ≡ false → IfSome course.repeat (λ events. kinds_in events ≡ kinds_open (ahead_of_last is_repeat (before ++ line ∷ [])))
first_same course before line k r = rw (ahead_more is_repeat before line, r) k.first

not_first : (line : Form) → ends_block line ≡ false → is_phase line ≡ false
not_first line e = or_first (is_phase line) (is_session line) e

not_second : (line : Form) → ends_block line ≡ false → is_session line ≡ false
not_second line e = or_second (is_phase line) (is_session line) e

-- one line more of a block, or a line that says nothing here
inside_knows : (course after : Course) (before : List Form) (line : Form) → KnowsCourse course before → ends_block line ≡ false → AllKnown after.sessions (before ++ line ∷ []) → length after.sessions ≡ 65
    → after.here ≡ course.here → after.present ≡ course.present
    → is_some after.repeat ≡ is_in_repeat (before ++ line ∷ []) → IfSome after.repeat (λ events. kinds_in events ≡ kinds_open (ahead_of_last is_repeat (before ++ line ∷ [])))
    → KnowsCourse after (before ++ line ∷ [])
inside_knows course after before line k e s n h p r f = record {
  sessions = s;
  numbers = n;
  here = λ number low. rw (h, phase_same before line (not_first line e), any_same (is_block_of number) (phase_of before) line (not_block number line (not_second line e))) (k.here number low);
  here_numbers = rw h k.here_numbers;
  present = p ∙ (k.present ∙ sym (now_same before line e));
  low = rw p k.low;
  repeats = r;
  first = f;
}

-- a phase begins
pub phase_knows : (course after : Course) (before : List Form) → KnowsCourse course before → after.sessions ≡ course.sessions
    → ((number : ℕ) → number < 65 → get_or after.here number false ≡ false) → length after.here ≡ 65 → after.present ≡ 0 → after.repeat ≡ course.repeat → KnowsCourse after (before ++ form.Phase ∷ [])
phase_knows course after before k s h n p r = record {
  sessions = all_phase course after.sessions before k s;
  numbers = rw s k.numbers;
  here = λ number low. rw (phase_new before form.Phase refl) (h number low);
  here_numbers = n;
  present = p ∙ sym (now_more before form.Phase);
  low = omega arith;
  repeats = rw r (k.repeats ∙ sym (in_repeat-same before form.Phase refl refl));
  first = rw r (first_same course before form.Phase k refl);
}

is_or_not : (number other : ℕ) → (number ≡ other) ⊎ (¬ (number ≡ other))
is_or_not number other = elim (cases_Bool (number == other)) [ inl e ↦ inl (grind (arith, nat_tests, e)) | inr e ↦ inr (λ same. absurd (grind (arith, nat_tests, e, same))) ]

other_number : (number other : ℕ) → ¬ (number ≡ other) → (number == other) ≡ false
other_number number other e = grind (arith, nat_tests, e)

after_set : (flags : List Bool) (number other : ℕ) (b : Bool) → number < length flags → get_or flags other false ≡ b → get_or (slice_set flags number true) other false ≡ (b || number == other)
after_set flags number other b within h =
    elim (is_or_not number other) [
      | inl e ↦ rw (get_or-set_at flags number other true false (sym e) within, eq-eqb number other e) (or_true b)
      | inr n ↦ rw (get_or-set_other flags number other true false (λ e. n (sym e)), other_number number other n, or_false b) h
    ]

-- a block begins
block_knows : (course after : Course) (before : List Form) (line : Form) (first : ℕ) → KnowsCourse course before → first < 65 → is_phase line ≡ false → is_session line ≡ true
    → ((number : ℕ) → is_block_of number line ≡ (first == number)) → session_now (before ++ line ∷ []) ≡ first → is_repeat line ≡ false → is_done line ≡ false → HasBegun course after first → KnowsCourse after (before ++ line ∷ [])
block_knows course after before line first k low p c own now r d h = record {
  sessions = all_begin course after.sessions before line first k low (rw (p, c) refl) own h.sessions;
  numbers = rw h.sessions (omega (arith, length-set {A = SessionState}, k.numbers));
  here = λ other within. rw (h.here, phase_same before line p, any_more (is_block_of other) (phase_of before) line, own other) (after_set course.here first other (list_any (is_block_of other) (phase_of before)) (omega (arith, k.here_numbers)) (k.here other within));
  here_numbers = rw h.here (omega (arith, length-set {A = Bool}, k.here_numbers));
  present = h.present ∙ sym now;
  low = omega (arith, h.present, low);
  repeats = rw h.repeat (k.repeats ∙ sym (in_repeat-same before line r d));
  first = rw h.repeat (first_same course before line k r);
}

low_number : (number : ℕ) (taken : Bool) → (not (nat_le 1 number && nat_le number 64) || taken) ≡ false → number < 65
low_number number taken h = grind (arith, nat_tests, h)

pub connect_knows : (course after : Course) (before : List Form) (session : Option ℕ) (user host : List ℕ) → KnowsCourse course before
    → is_bad_number (form.Connect session user host) ≡ false → is_bad_session before (form.Connect session user host) ≡ false
    → (first : ℕ) → first ≡ unwrap_or session 0 → (first < 65 → HasBegun course after first) → KnowsCourse after (before ++ form.Connect session user host ∷ [])
connect_knows course after before None user host k bad session first is h = cc
connect_knows course after before (Some number) user host k bad session first is h =
    let line = form.Connect (Some number) user host in
    let low = low_number number (list_any (is_block_of number) before) session in
    block_knows course after before line number k low refl refl (λ other. refl) (now_more before line) refl refl (subst (λ n. HasBegun course after n) is (h (omega (arith, low, is))))

pub resume_knows : (course after : Course) (before : List Form) (session : Option ℕ) → KnowsCourse course before
    → is_bad_number (form.Resume session) ≡ false → is_bad_session before (form.Resume session) ≡ false
    → (first : ℕ) → first ≡ unwrap_or session 0 → (first < 65 → HasBegun course after first) → KnowsCourse after (before ++ form.Resume session ∷ [])
resume_knows course after before None k bad session first is h = cc
resume_knows course after before (Some number) k bad session first is h =
    let line = form.Resume (Some number) in
    let low = low_number number (not (list_any (is_block_of number) before) || (list_any (is_block_of number) (phase_of before) || has_quit number before)) session in
    block_knows course after before line number k low refl refl (λ other. refl) (now_more before line) refl refl (subst (λ n. HasBegun course after n) is (h (omega (arith, low, is))))

-- a repeat begins
pub repeat_knows : (course after : Course) (before : List Form) (times : Option ℕ) (events : OpenKinds) → KnowsCourse course before → kinds_in events ≡ kinds_open before
    → after.sessions ≡ course.sessions → after.here ≡ course.here → after.present ≡ course.present → after.repeat ≡ Some events → KnowsCourse after (before ++ form.Repeat times ∷ [])
repeat_knows course after before times events k o s h p r =
    let line = form.Repeat times in
    inside_knows course after before line k refl (all_idle course after.sessions before line k refl refl refl s) (rw s k.numbers) h p
    (rw r (sym (in_repeat-begun before line refl)))
    (rw (r, ahead_more is_repeat before line) o)

-- a repeat is done
pub done_knows : (course after : Course) (before : List Form) → KnowsCourse course before
    → after.sessions ≡ course.sessions → after.here ≡ course.here → after.present ≡ course.present → after.repeat ≡ None → KnowsCourse after (before ++ form.Done ∷ [])
done_knows course after before k s h p r =
    inside_knows course after before form.Done k refl (all_idle course after.sessions before form.Done k refl refl refl s) (rw s k.numbers) h p (rw r (sym (in_repeat-done before))) (rw r tt)

not_ending : (line : Form) → (line ≡ form.Phase → ⊥) → ((session : Option ℕ) (user host : List ℕ) → line ≡ form.Connect session user host → ⊥) → ((session : Option ℕ) → line ≡ form.Resume session → ⊥) → ends_block line ≡ false
not_ending form.Phase p c m = absurd (p refl)
not_ending (form.Connect session user host) p c m = absurd (c session user host refl)
not_ending (form.Resume session) p c m = absurd (m session refl)
not_ending _ p c m = refl

not_repeat : (line : Form) → ((times : Option ℕ) → line ≡ form.Repeat times → ⊥) → is_repeat line ≡ false
not_repeat (form.Repeat times) h = absurd (h times refl)
not_repeat _ h = refl

not_done : (line : Form) → (line ≡ form.Done → ⊥) → is_done line ≡ false
not_done form.Done h = absurd (h refl)
not_done _ h = refl

pub open_is : (course : Course) (before : List Form) → KnowsCourse course before → kinds_in (state_at course.sessions course.present).events ≡ kinds_open before
unfolding kinds_open
open_is course before k = (k.sessions course.present k.low).kinds ∙ ap (λ number. session_kinds number before) k.present

-- what a session's state says of one line more of its block
pub record Moved (state after : SessionState) (line : Form) : Type 0 where
  pub begun : after.has_begun ≡ state.has_begun
  pub quits : after.has_quit ≡ (state.has_quit || is_quit line)
  pub kinds : state.events.waits < 2 ^ 63 → state.events.statements < 2 ^ 63 → may_stand (kinds_in state.events) (mark_of_form line) ≡ true → (state.events.has_stage ≡ true → 1 ≤ state.events.statements) → kinds_in after.events ≡ kinds_behind (mark_of_form line) (kinds_in state.events)
  pub inside : may_stand (kinds_in state.events) (mark_of_form line) ≡ true → (state.events.has_stage ≡ true → 1 ≤ state.events.statements) → after.events.has_stage ≡ true → 1 ≤ after.events.statements
  pub waits : after.events.waits ≤ state.events.waits + 1
  pub statements : after.events.statements ≤ state.events.statements + 1

moved_knows : (course : Course) (state : SessionState) (before : List Form) (line : Form) → KnowsCourse course before → length before < 2 ^ 63 → is_bad_nesting before line ≡ false → ends_block line ≡ false
    → Moved (state_at course.sessions course.present) state line → KnowsSession state course.present (before ++ line ∷ [])
moved_knows course state before line k short nesting e m =
    let old = k.sessions course.present k.low in
    let may : may_stand (kinds_in (state_at course.sessions course.present).events) (mark_of_form line) ≡ true = rw (open_is course before k) (stands before line nesting) in
    session_moves (state_at course.sessions course.present) state course.present before line old (present_test course before course.present true k (eq-eqb course.present course.present refl)) e m.begun m.quits
    (m.kinds (omega (arith, old.few_waits)) (omega (arith, old.few_statements)) may old.inside) (m.inside may old.inside) m.waits m.statements

-- a line of another form starts and ends what it does
pub rest_knows : (course after : Course) (before : List Form) (line : Form) (state : SessionState) → KnowsCourse course before → length before < 2 ^ 63 → is_bad_nesting before line ≡ false → (line ≡ form.Phase → ⊥)
    → ((session : Option ℕ) (user host : List ℕ) → line ≡ form.Connect session user host → ⊥) → ((session : Option ℕ) → line ≡ form.Resume session → ⊥) → ((times : Option ℕ) → line ≡ form.Repeat times → ⊥) → (line ≡ form.Done → ⊥)
    → Moved (state_at course.sessions course.present) state line → (course.present < 65 → after.sessions ≡ slice_set course.sessions course.present state)
    → after.here ≡ course.here → after.present ≡ course.present → after.repeat ≡ course.repeat
    → KnowsCourse after (before ++ line ∷ [])
rest_knows course after before line state k short nesting p c m r d moved s h pr same =
    let e = not_ending line p c m in
    let other = not_repeat line r in
    let set = s k.low in
    inside_knows course after before line k e
    (all_move course after.sessions state before line k e set (moved_knows course state before line k short nesting e moved))
    (rw set (omega (arith, length-set {A = SessionState}, k.numbers)))
    h pr
    (rw same (k.repeats ∙ sym (in_repeat-same before line other (not_done line d))))
    (rw same (first_same course before line k other))
