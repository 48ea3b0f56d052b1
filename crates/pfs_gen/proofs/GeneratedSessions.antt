-- The sessions of a generated script, behind any of its lines.
use Rattle.std.proofs.Common.{ℕ, ◌≡◌, ◌≤◌, Bool, true, false, ◌||◌, ◌&&◌, ◌==◌, cond, List, [], ◌∷◌, ◌++◌, map, refl, ap, sym, ◌∙◌, arith}
use Rattle.std.specs.Prelude.{nat_le}
use Rattle.std.specs.List.{list_any}
use Rattle.std.proofs.lemmas.Bool.Decides.{nat_tests}
use Rattle.pfs_lemmas.proofs.Numbers.{eq_self}
use Rattle.pfs_lemmas.proofs.Bools.{or_false, or_first, or_second}
use Rattle.pfs_event.specs.declared.kind.EventKind.{EventKind}
use Rattle.pfs_script.specs.declared.forms.Form.{Form}
use Rattle.pfs_script.specs.declared.forms.Form.TheVariants as form
use Rattle.pfs_script.specs.Brackets.{brackets_from, open_in, kinds_of, kinds_behind}
use Rattle.pfs_script.specs.Sessions.{is_phase, is_session, is_block_of, is_quit, ends_block, phase_of, session_behind, session_now, lines_in, lines_of, has_quit}
use Rattle.pfs_script.specs.Reasons.{mark_of_form, session_kinds, kinds_open, is_blockless}
use Rattle.pfs_script.proofs.LinesBehind.{any_more, behind_none}
use Rattle.pfs_script.proofs.SessionTurns.{now_none, now_more, now_same, lines_ends, lines_other, lines_own, kinds_own}
use Rattle.pfs_script.proofs.SessionCourses.{phase_new, phase_same, not_block}

-- the numbers from 1 to this one
abbrev pub is_up_to : ℕ → ℕ → Bool
is_up_to most number = nat_le 1 number && nat_le number most

-- the next line is this session's; none has quit; events of these kinds are open in it, and none in others; sessions
-- up to the one number have had a block, and those up to the other in this phase
pub record Course (before : List Form) (now : ℕ) (kinds : List EventKind) (begun here : ℕ) : Type 0 where
  pub session : session_now before ≡ now
  pub quits : (number : ℕ) → has_quit number before ≡ false
  pub kinds_are : (number : ℕ) → session_kinds number before ≡ cond (now == number) kinds []
  pub blocks : (number : ℕ) → list_any (is_block_of number) before ≡ is_up_to begun number
  pub phase_blocks : (number : ℕ) → list_any (is_block_of number) (phase_of before) ≡ is_up_to here number

no_number : (number : ℕ) → false ≡ is_up_to 0 number
no_number number = grind (arith, nat_tests)

nothing : (b : Bool) → cond {A = List EventKind} b [] [] ≡ []
nothing true = refl
nothing false = refl

no_kinds : (number : ℕ) → session_kinds number [] ≡ []
unfolding lines_in brackets_from
no_kinds number = refl

no_quits : (number : ℕ) → has_quit number [] ≡ false
unfolding lines_in
no_quits number = refl

pub course_none : Course [] 0 [] 0 0
course_none = record {
  session = now_none;
  quits = no_quits;
  kinds_are = λ number. no_kinds number ∙ sym (nothing (0 == number));
  blocks = no_number;
  phase_blocks = λ number. rw (behind_none is_phase) (no_number number);
}

any_same : (test : Form → Bool) (before : List Form) (line : Form) → test line ≡ false → list_any test (before ++ line ∷ []) ≡ list_any test before
any_same test before line h = rw (any_more test before line, h) (or_false (list_any test before))

quits_by : (number : ℕ) (before : List Form) (line : Form) (b : Bool) → (session_now before == number) ≡ b → ends_block line ≡ false → is_quit line ≡ false → has_quit number before ≡ false → has_quit number (before ++ line ∷ []) ≡ false
quits_by number before line true t e q h = ap (list_any is_quit) (lines_own number before line t e) ∙ (any_same is_quit (lines_of number before) line q ∙ h)
quits_by number before line false t e q h = ap (list_any is_quit) (lines_other number before line t) ∙ h

open_by : (number : ℕ) (before : List Form) (line : Form) (kinds : List EventKind) (b : Bool) → (session_now before == number) ≡ b → ends_block line ≡ false → session_kinds number before ≡ cond b kinds []
    → session_kinds number (before ++ line ∷ []) ≡ cond b (kinds_behind (mark_of_form line) kinds) []
open_by number before line kinds true t e k = kinds_own number before line t e ∙ ap (kinds_behind (mark_of_form line)) k
open_by number before line kinds false t e k = ap (λ lines. kinds_of (open_in (map mark_of_form lines))) (lines_other number before line t) ∙ k

pub course_inside : (before : List Form) (line : Form) (now : ℕ) (kinds : List EventKind) (begun here : ℕ) → Course before now kinds begun here → ends_block line ≡ false → is_quit line ≡ false
    → Course (before ++ line ∷ []) now (kinds_behind (mark_of_form line) kinds) begun here
course_inside before line now kinds begun here c e q =
    let none : (number : ℕ) → is_block_of number line ≡ false = λ number. not_block number line (or_second (is_phase line) (is_session line) e) in
    record {
      session = now_same before line e ∙ c.session;
      quits = λ number. quits_by number before line (session_now before == number) refl e q (c.quits number);
      kinds_are = λ number. open_by number before line kinds (now == number) (ap (λ n. n == number) c.session) e (c.kinds_are number);
      blocks = λ number. any_same (is_block_of number) before line (none number) ∙ c.blocks number;
      phase_blocks = λ number. ap (list_any (is_block_of number)) (phase_same before line (or_first (is_phase line) (is_session line) e)) ∙ (any_same (is_block_of number) (phase_of before) line (none number) ∙ c.phase_blocks number);
    }

-- a line that begins a block, in a session in which nothing is open

pub course_block : (before : List Form) (line : Form) (now next begun here more further : ℕ) → Course before now [] begun here → is_phase line ≡ false → ends_block line ≡ true → session_behind (session_now before) line ≡ next
    → ((number : ℕ) → is_block_of number line ≡ (next == number)) → ((number : ℕ) → (is_up_to begun number || next == number) ≡ is_up_to more number) → ((number : ℕ) → (is_up_to here number || next == number) ≡ is_up_to further number)
    → Course (before ++ line ∷ []) next [] more further
course_block before line now next begun here more further c p e s own m f = record {
  session = now_more before line ∙ s;
  quits = λ number. ap (list_any is_quit) (lines_ends number before line e) ∙ c.quits number;
  kinds_are = λ number. ap (λ lines. kinds_of (open_in (map mark_of_form lines))) (lines_ends number before line e) ∙ (c.kinds_are number ∙ (nothing (now == number) ∙ sym (nothing (next == number))));
  blocks = λ number. rw (any_more (is_block_of number) before line, c.blocks number, own number) (m number);
  phase_blocks = λ number. rw (phase_same before line p, any_more (is_block_of number) (phase_of before) line, c.phase_blocks number, own number) (f number);
}

-- a phase begins
pub course_phase : (before : List Form) (now begun here : ℕ) → Course before now [] begun here → Course (before ++ form.Phase ∷ []) 0 [] begun 0
course_phase before now begun here c = record {
  session = now_more before form.Phase;
  quits = λ number. ap (list_any is_quit) (lines_ends number before form.Phase refl) ∙ c.quits number;
  kinds_are = λ number. ap (λ lines. kinds_of (open_in (map mark_of_form lines))) (lines_ends number before form.Phase refl) ∙ (c.kinds_are number ∙ (nothing (now == number) ∙ sym (nothing (0 == number))));
  blocks = λ number. any_same (is_block_of number) before form.Phase refl ∙ c.blocks number;
  phase_blocks = λ number. ap (list_any (is_block_of number)) (phase_new before form.Phase refl) ∙ no_number number;
}

pub kinds_now : (before : List Form) (now : ℕ) (kinds : List EventKind) (begun here : ℕ) → Course before now kinds begun here → kinds_open before ≡ kinds
unfolding kinds_open
kinds_now before now kinds begun here c =
    ap (λ number. session_kinds number before) c.session ∙ (c.kinds_are now ∙ ap (λ b. cond b kinds []) (eq_self now))

no_zero : (number : ℕ) → 1 ≤ number → (number == 0) ≡ false
no_zero number h = grind (arith, nat_tests, h)

pub in_block : (before : List Form) (now : ℕ) (kinds : List EventKind) (begun here : ℕ) → Course before now kinds begun here → 1 ≤ now → is_blockless before ≡ false
in_block before now kinds begun here c h = rw (c.session, no_zero now h) (c.quits now)
