-- The session of the next line, and a session's lines and open events, with one line more.
use Rattle.std.proofs.Common.{ℕ, ◌≡◌, ◌≤◌, false, true, ◌||◌, ◌&&◌, ◌==◌, List, [], ◌∷◌, ◌++◌, refl, ap, sym, ◌∙◌, map, append_assoc, append-nil}
use Rattle.std.specs.Prelude.{fold}
use Rattle.std.proofs.lemmas.List.Sums.{fold_push}
use Rattle.std.proofs.lemmas.Bool.{eq-eqb}
use Rattle.pfs_lemmas.proofs.Bools.{and_false}
use Rattle.pfs_script.specs.declared.forms.Form.{Form}
use Rattle.pfs_script.specs.declared.forms.Form.TheVariants as form
use Rattle.pfs_script.specs.Brackets.{kinds_behind}
use Rattle.pfs_script.specs.Sessions.{ends_block, session_behind, session_now, own_line, lines_in, lines_of}
use Rattle.pfs_script.specs.Reasons.{mark_of_form, session_kinds, kinds_open}
use Rattle.pfs_script.proofs.MarkNests.{kinds_more}

pub now_none : session_now [] ≡ 0
unfolding session_now
now_none = refl

pub now_more : (before : List Form) (line : Form) → session_now (before ++ line ∷ []) ≡ session_behind (session_now before) line
unfolding session_now
now_more before line = fold_push session_behind 0 before line

behind_same : (session : ℕ) (line : Form) → ends_block line ≡ false → session_behind session line ≡ session
behind_same session form.Phase e = cc
behind_same session (form.Connect number user host) e = cc
behind_same session (form.Resume number) e = cc
behind_same session _ e = refl

pub now_same : (before : List Form) (line : Form) → ends_block line ≡ false → session_now (before ++ line ∷ []) ≡ session_now before
now_same before line e = now_more before line ∙ behind_same (session_now before) line e

in_more : (number session : ℕ) (before : List Form) (line : Form) → lines_in number session (before ++ line ∷ []) ≡ lines_in number session before ++ own_line number (fold session_behind session before) line
unfolding lines_in
in_more number session [] line = append-nil (own_line number session line)
in_more number session (one ∷ before) line =
    ap (λ z. own_line number session one ++ z) (in_more number (session_behind session one) before line)
    ∙ sym (append_assoc (own_line number session one) (lines_in number (session_behind session one) before) (own_line number (fold session_behind (session_behind session one) before) line))

lines_more : (number : ℕ) (before : List Form) (line : Form) → lines_of number (before ++ line ∷ []) ≡ lines_of number before ++ own_line number (session_now before) line
unfolding session_now
lines_more number before line = in_more number 0 before line

own_ends : (number session : ℕ) (line : Form) → ends_block line ≡ true → own_line number session line ≡ []
own_ends number session line e = rw (e, and_false (session == number)) refl

own_other : (number session : ℕ) (line : Form) → (session == number) ≡ false → own_line number session line ≡ []
own_other number session line o = rw o refl

own_here : (number session : ℕ) (line : Form) → (session == number) ≡ true → ends_block line ≡ false → own_line number session line ≡ line ∷ []
own_here number session line h e = rw (h, e) refl

-- what begins a block or a phase is no session's line
pub lines_ends : (number : ℕ) (before : List Form) (line : Form) → ends_block line ≡ true → lines_of number (before ++ line ∷ []) ≡ lines_of number before
lines_ends number before line e =
    lines_more number before line ∙ (ap (λ z. lines_of number before ++ z) (own_ends number (session_now before) line e) ∙ append-nil (lines_of number before))

-- a line is none of another session
pub lines_other : (number : ℕ) (before : List Form) (line : Form) → (session_now before == number) ≡ false → lines_of number (before ++ line ∷ []) ≡ lines_of number before
lines_other number before line o =
    lines_more number before line ∙ (ap (λ z. lines_of number before ++ z) (own_other number (session_now before) line o) ∙ append-nil (lines_of number before))

-- and the last of its own
pub lines_own : (number : ℕ) (before : List Form) (line : Form) → (session_now before == number) ≡ true → ends_block line ≡ false → lines_of number (before ++ line ∷ []) ≡ lines_of number before ++ line ∷ []
lines_own number before line h e = lines_more number before line ∙ ap (λ z. lines_of number before ++ z) (own_here number (session_now before) line h e)

map_more : {A B : Type 0} (f : A → B) (xs : List A) (x : A) → map f (xs ++ x ∷ []) ≡ map f xs ++ f x ∷ []
map_more f [] x = refl
map_more f (y ∷ xs) x = ap (λ ys. f y ∷ ys) (map_more f xs x)

pub kinds_own : (number : ℕ) (before : List Form) (line : Form) → (session_now before == number) ≡ true → ends_block line ≡ false → session_kinds number (before ++ line ∷ []) ≡ kinds_behind (mark_of_form line) (session_kinds number before)
kinds_own number before line h e =
    rw (lines_own number before line h e, map_more mark_of_form (lines_of number before) line) (kinds_more (map mark_of_form (lines_of number before)) (mark_of_form line))

pub open_more : (before : List Form) (line : Form) → ends_block line ≡ false → kinds_open (before ++ line ∷ []) ≡ kinds_behind (mark_of_form line) (kinds_open before)
unfolding kinds_open
open_more before line e =
    ap (λ number. session_kinds number (before ++ line ∷ [])) (now_same before line e) ∙ kinds_own (session_now before) before line (eq-eqb (session_now before) (session_now before) refl) e
