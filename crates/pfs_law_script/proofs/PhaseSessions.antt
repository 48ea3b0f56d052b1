-- The sessions of a phase, and what one of them has before its block.
use Rattle.std.proofs.Common.{ℕ, zero, suc, ◌≡◌, ◌≤◌, ◌<◌, ◌==◌, Bool, true, false, ◌||◌, not, cond, List, [], ◌∷◌, ◌++◌, Some, None, refl, ap, sym, ◌∙◌, subst, length, get_or, map, ◌⊎◌, inl, inr, arith}
use Rattle.std.specs.Prelude.{Contains}
use Rattle.std.specs.List.{list_any}
use Rattle.std.proofs.lemmas.Bool.Decides.{nat_tests}
use Rattle.std.proofs.lemmas.Bool.{cases_Bool, not-false}
use Rattle.pfs_lemmas.proofs.Numbers.{eq_self}
use Rattle.pfs_lemmas.proofs.Bools.{or_first, or_second, true_not_false}
use Rattle.pfs_script.specs.declared.forms.Form.{Form}
use Rattle.pfs_script.specs.declared.forms.Form.TheVariants as form
use Rattle.pfs_script.specs.declared.blocks.Block.{Block}
use Rattle.pfs_script.specs.Brackets.{open_in, kinds_of}
use Rattle.pfs_script.specs.LineCounts.{behind_last}
use Rattle.pfs_script.specs.KnownClasses.{AreDistinct}
use Rattle.pfs_script.specs.Sessions.{is_phase, is_block_of, phase_of, session_behind, session_now, has_quit}
use Rattle.pfs_script.specs.Reasons.{mark_of_form, session_kinds, is_outside}
use Rattle.pfs_script.specs.Blocks.{Sense, with_front, block_behind, blocks_of}
use Rattle.pfs_script.proofs.LinesBehind.{any_more}
use Rattle.pfs_script.proofs.BlockNests.{Stand}
use Rattle.pfs_script.proofs.SessionCourses.{phase_same}
use Rattle.pfs_script.proofs.FaultlessLines.{Passes}
use Rattle.pfs_script.proofs.SessionTurns.{now_more, lines_ends, lines_other}

-- a session's number

pub low_of : (number : ℕ) → is_outside number ≡ false → 1 ≤ number
low_of number h = grind (arith, nat_tests, h)

pub high_of : (number : ℕ) → is_outside number ≡ false → number ≤ 64
high_of number h = grind (arith, nat_tests, h)

-- what no line has none of the last ones has
rest_none : (test last : Form → Bool) (line : Form) (lines : List Form) (a b : Bool)
    → (test line || list_any test lines) ≡ false → list_any test (behind_last last lines) ≡ false
    → list_any test (cond a (behind_last last lines) (cond b lines (line ∷ lines))) ≡ false
rest_none test last line lines true b h rest = rest
rest_none test last line lines false true h rest = or_second (test line) (list_any test lines) h
rest_none test last line lines false false h rest = h

last_none : (test last : Form → Bool) (before : List Form) → list_any test before ≡ false
    → list_any test (behind_last last before) ≡ false
unfolding behind_last
last_none test last [] h = refl
last_none test last (line ∷ before) h =
    rest_none test last line before (list_any last before) (last line) h
    (last_none test last before (or_second (test line) (list_any test before) h))

pub connect_new : (before : List Form) (number : ℕ) (user host : List ℕ)
    → Passes before (form.Connect (Some number) user host) → list_any (is_block_of number) before ≡ false
connect_new before number user host p =
    or_second (is_outside number) (list_any (is_block_of number) before) p.session

pub connect_free : (before : List Form) (number : ℕ) (user host : List ℕ)
    → Passes before (form.Connect (Some number) user host)
    → list_any (is_block_of number) (phase_of before) ≡ false
connect_free before number user host p =
    last_none (is_block_of number) is_phase before (connect_new before number user host p)

pub resume_old : (before : List Form) (number : ℕ) → Passes before (form.Resume (Some number))
    → list_any (is_block_of number) before ≡ true
resume_old before number p =
    let none = not (list_any (is_block_of number) before) in
    let busy = list_any (is_block_of number) (phase_of before) || has_quit number before in
    not-false (list_any (is_block_of number) before)
    (or_first none busy (or_second (is_outside number) (none || busy) p.session))

pub resume_free : (before : List Form) (number : ℕ) → Passes before (form.Resume (Some number))
    → list_any (is_block_of number) (phase_of before) ≡ false
resume_free before number p =
    let none = not (list_any (is_block_of number) before) in
    let here = list_any (is_block_of number) (phase_of before) in
    or_first here (has_quit number before)
    (or_second none (here || has_quit number before)
    (or_second (is_outside number) (none || (here || has_quit number before)) p.session))

-- different sessions

abbrev pub sessions_of : List Block → List ℕ
sessions_of blocks = map (λ (block : Block). block.session) blocks

contains_at : (x : ℕ) (xs : List ℕ) (y : ℕ) (k : ℕ) → k < length (x ∷ xs) → get_or (x ∷ xs) k y ≡ y
    → (x ≡ y) ⊎ Contains xs y
contains_at x xs y zero h e = inl e
contains_at x xs y (suc k) h e = inr (k, omega arith, e)

contains_none : (y : ℕ) → Contains [] y → ⊥
contains_none y c = omega (arith, c.1)

-- the blocks have different sessions, none of which has a block in the phase so far
pub record Apart (before : List Form) (sessions : List ℕ) : Type 0 where
  pub distinct : AreDistinct sessions
  pub free : (number : ℕ) → Contains sessions number → list_any (is_block_of number) (phase_of before) ≡ false

any_line : (before : List Form) (line : Form) (number : ℕ) → is_phase line ≡ false
    → list_any (is_block_of number) (phase_of (before ++ line ∷ [])) ≡ false
    → (list_any (is_block_of number) (phase_of before) || is_block_of number line) ≡ false
any_line before line number p h =
    sym (ap (list_any (is_block_of number)) (phase_same before line p)
    ∙ any_more (is_block_of number) (phase_of before) line) ∙ h

apart_less : (before : List Form) (line : Form) (sessions : List ℕ) → is_phase line ≡ false
    → Apart (before ++ line ∷ []) sessions → Apart before sessions
apart_less before line sessions p a = record {
  distinct = a.distinct;
  free = λ number h.
      or_first (list_any (is_block_of number) (phase_of before)) (is_block_of number line)
      (any_line before line number p (a.free number h));
}

apart_more : (before : List Form) (line : Form) (number : ℕ) (sessions : List ℕ) → is_phase line ≡ false
    → is_block_of number line ≡ true → list_any (is_block_of number) (phase_of before) ≡ false
    → Apart (before ++ line ∷ []) sessions → Apart before (number ∷ sessions)
apart_more before line number sessions p own free a =
    let less = apart_less before line sessions p a in
    record {
      distinct = (
        λ h. true_not_false (is_block_of number line) own
            (or_second (list_any (is_block_of number) (phase_of before)) (is_block_of number line)
            (any_line before line number p (a.free number h))),
        a.distinct,
      );
      free = λ other h. elim (contains_at number sessions other h.0 h.1 h.2) [
        | inl e ↦ subst (λ z. list_any (is_block_of z) (phase_of before) ≡ false) e free
        | inr c ↦ less.free other c
      ];
    }

apart_none : (before : List Form) → Apart before []
apart_none before = record { distinct = tt; free = λ number h. absurd (contains_none number h) }

apart_front : (sense : Sense) (before : List Form) (line : Form) (lines : List Form) (blocks : List Block)
    → Passes before line → is_phase line ≡ false → Apart (before ++ line ∷ []) (sessions_of blocks)
    → Apart before (sessions_of (with_front (block_behind sense lines line) blocks))
apart_front sense before (form.Connect (Some number) user host) lines blocks p h a =
    apart_more before (form.Connect (Some number) user host) number (sessions_of blocks) h (eq_self number)
    (connect_free before number user host p) a
apart_front sense before (form.Connect None user host) lines blocks p h a =
    apart_less before (form.Connect None user host) (sessions_of blocks) h a
apart_front sense before (form.Resume (Some number)) lines blocks p h a =
    apart_more before (form.Resume (Some number)) number (sessions_of blocks) h (eq_self number)
    (resume_free before number p) a
apart_front sense before (form.Resume None) lines blocks p h a =
    apart_less before (form.Resume None) (sessions_of blocks) h a
apart_front sense before form.Phase lines blocks p h a = cc
apart_front sense before line lines blocks p h a = apart_less before line (sessions_of blocks) h a

pub apart : (sense : Sense) (before lines : List Form) → Stand before lines
    → Apart before (sessions_of (blocks_of sense lines))
unfolding blocks_of
apart sense before [] s = apart_none before
apart sense before (line ∷ lines) s =
    elim (cases_Bool (is_phase line)) [
      | inl p ↦ rw p (apart_none before)
      | inr p ↦
          rw p (apart_front sense before line lines (blocks_of sense lines) s.0 p
          (apart sense (before ++ line ∷ []) lines s.1))
    ]

-- a session that has no block in the phase so far is as it was before the phase

pub record IsAsBefore (front before : List Form) (number : ℕ) : Type 0 where
  pub now : (session_now before == number) ≡ false
  pub kinds : session_kinds number before ≡ session_kinds number front
  pub begun : list_any (is_block_of number) before ≡ list_any (is_block_of number) front

abbrev pub AreAsBefore : List Form → List Form → Type 0
AreAsBefore front before = (number : ℕ) → 1 ≤ number → list_any (is_block_of number) (phase_of before) ≡ false
    → IsAsBefore front before number

no_zero : (number : ℕ) → 1 ≤ number → (0 == number) ≡ false
no_zero number h = grind (arith, nat_tests, h)

or_false : (a b : Bool) → b ≡ false → (a || b) ≡ a
or_false true b h = refl
or_false false b h = h

pub phase_first : (front : List Form) → AreAsBefore front (front ++ form.Phase ∷ [])
phase_first front = λ number some free. record {
  now = ap (λ session. session == number) (now_more front form.Phase) ∙ no_zero number some;
  kinds = ap (λ lines. kinds_of (open_in (map mark_of_form lines))) (lines_ends number front form.Phase refl);
  begun = any_more (is_block_of number) front form.Phase ∙ or_false (list_any (is_block_of number) front) false refl;
}

behind_other : (number session : ℕ) (line : Form) → 1 ≤ number → (session == number) ≡ false
    → is_block_of number line ≡ false → (session_behind session line == number) ≡ false
behind_other number session form.Phase h o b = no_zero number h
behind_other number session (form.Connect (Some other) user host) h o b = b
behind_other number session (form.Connect None user host) h o b = no_zero number h
behind_other number session (form.Resume (Some other)) h o b = b
behind_other number session (form.Resume None) h o b = no_zero number h
behind_other number session _ h o b = o

pub phase_more : (front before : List Form) (line : Form) → is_phase line ≡ false → AreAsBefore front before
    → AreAsBefore front (before ++ line ∷ [])
phase_more front before line p old = λ number some free.
    let parts = any_line before line number p free in
    let earlier = or_first (list_any (is_block_of number) (phase_of before)) (is_block_of number line) parts in
    let here = or_second (list_any (is_block_of number) (phase_of before)) (is_block_of number line) parts in
    let was = old number some earlier in
    record {
      now =
          ap (λ session. session == number) (now_more before line)
          ∙ behind_other number (session_now before) line some was.now here;
      kinds =
          ap (λ lines. kinds_of (open_in (map mark_of_form lines))) (lines_other number before line was.now)
          ∙ was.kinds;
      begun =
          any_more (is_block_of number) before line
          ∙ (or_false (list_any (is_block_of number) before) (is_block_of number line) here ∙ was.begun);
    }
