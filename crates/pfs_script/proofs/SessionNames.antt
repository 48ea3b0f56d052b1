-- The names of a script are those of its classes and of its sessions, in the order of their first appearance.
use Rattle.std.proofs.Common.{ℕ, zero, suc, ◌≡◌, Bool, true, false, List, [], ◌∷◌, ◌++◌, length, map, get_or, Option, Some, Contains, inl, inr, refl, sym, ap, ◌∙◌, subst, codes, arith}
use Rattle.std.specs.Prelude.{slice_get, fold, option_map}
use Rattle.std.specs.List.{list_any, flat_map}
use Rattle.std.specs.Str.{bytes_eq}
use Rattle.std.proofs.lemmas.Bool.{false≢true}
use Rattle.std.proofs.lemmas.List.{append-nil, append_assoc}
use Rattle.std.proofs.lemmas.List.Sums.{passes_at_first}
use Rattle.std.proofs.lemmas.Option.{slice_get-get_or, slice_get-map}
use Rattle.std.proofs.lemmas.Slice.Eq.{bytes_eq-Decides}
use Rattle.pfs_names.specs.InternedTexts.{id_of, interned}
use Rattle.pfs_classes.specs.Builtins.{builtins, with_rows}
use Rattle.pfs_script.specs.declared.forms.Form.{Form}
use Rattle.pfs_script.specs.declared.forms.Form.TheVariants as form
use Rattle.pfs_script.specs.Headings.{Naming, naming_under, with_class, naming_behind, naming_of, limits_of, head_of}
use Rattle.pfs_script.specs.SessionNames.{with_session, names_of, connect_of}
use Rattle.pfs_script.specs.Appearances.{IsFirstAt, names_given, names_told, AreNamed}
use Rattle.pfs_script.proofs.AppearanceLemmas.{contains_at, at_contains, push_old, push_new, first_once, Kept, kept_same, kept_more}
use Rattle.pfs_script.proofs.NameIds.{contains_from_any, any_from_contains, interned_known, interned_new, id_within}

-- no name stands twice
abbrev IsOnce : List (List ℕ) → Type 0
IsOnce names = (i j : ℕ) (text : List ℕ) → slice_get names i ≡ Some text → slice_get names j ≡ Some text → i ≡ j

-- there is always room for a name
abbrev Never : List (List ℕ) → Type 0
Never names = ⊥

name_by : (named : List (Option (List ℕ))) (names : List (List ℕ)) (text : List ℕ) (there : Bool) → list_any (λ one. bytes_eq one text) names ≡ there → Kept Never named names → Kept Never (named ++ Some text ∷ []) (interned names text)
name_by named names text true e k =
    let has = contains_from_any names text e in
    subst (λ all. Kept Never (named ++ Some text ∷ []) all) (sym (interned_known names text has))
    (kept_same Never named names (Some text) k (λ value is. let same : text ≡ value = cc in inl (subst (λ one. Contains names one) same has)))
name_by named names text false e k =
    let absent : ¬ Contains names text = λ has. false≢true (sym e ∙ any_from_contains names text has) in
    subst (λ all. Kept Never (named ++ Some text ∷ []) all) (sym (interned_new names text absent))
    (kept_more Never named names text k absent (λ full. full))

name_kept : (named : List (Option (List ℕ))) (names : List (List ℕ)) (text : List ℕ) → Kept Never named names → Kept Never (named ++ Some text ∷ []) (interned names text)
name_kept named names text k = name_by named names text (list_any (λ one. bytes_eq one text) names) refl k

session_kept : (named : List (Option (List ℕ))) (names : List (List ℕ)) (line : Form) → Kept Never named names → Kept Never (named ++ names_given line) (with_session names line)
session_kept named names (form.Connect session user host) k =
    subst (λ all. Kept Never all (interned (interned names user) host)) (append_assoc named (Some user ∷ []) (Some host ∷ []))
    (name_kept (named ++ Some user ∷ []) (interned names user) host (name_kept named names user k))
session_kept named names _ k = rw append-nil k

sessions_kept : (named : List (Option (List ℕ))) (names : List (List ℕ)) (lines : List Form) → Kept Never named names → Kept Never (named ++ flat_map names_given lines) (fold with_session names lines)
sessions_kept named names [] k = rw append-nil k
sessions_kept named names (line ∷ lines) k =
    subst (λ all. Kept Never all (fold with_session (with_session names line) lines)) (append_assoc named (names_given line) (flat_map names_given lines))
    (sessions_kept (named ++ names_given line) (with_session names line) lines (session_kept named names line k))

-- names that stand once are in their own order
told_at : (names : List (List ℕ)) (k : ℕ) (text : List ℕ) → slice_get (map Some names) k ≡ Some (Some text) → slice_get names k ≡ Some text
told_at [] k text at = cc
told_at (name ∷ names) zero text at = cc
told_at (name ∷ names) (suc k) text at = told_at names k text at

first_told : (names : List (List ℕ)) (k : ℕ) (text : List ℕ) → IsOnce names → slice_get names k ≡ Some text → IsFirstAt (map Some names) text k
first_told names k text once at = record {
  here = slice_get-map Some names k ∙ ap (option_map Some) at;
  first = λ earlier lt there. let same = once earlier k text (told_at names earlier text there) at in omega arith;
}

told_kept : (names : List (List ℕ)) → IsOnce names → Kept Never (map Some names) names
told_kept names once = record {
  listed = record {
    once = once;
    each = λ value has. let there = at_contains names value has in (there.0, first_told names there.0 value once there.1);
    order = λ a b i j m n at bt fa fb.
        let left = first_once (map Some names) a i m (first_told names i a once at) fa in
        let right = first_once (map Some names) b j n (first_told names j b once bt) fb in
        (λ lt. omega arith, λ lt. omega arith);
  };
  missing = λ place value at. inl (contains_at names place value (told_at names place value at));
}

-- the names of classes stand once
once_more : (names : List (List ℕ)) (text : List ℕ) → IsOnce names → IsOnce (interned names text)
once_more names text once = (name_kept (map Some names) names text (told_kept names once)).listed.once

once_all : (names texts : List (List ℕ)) → IsOnce names → IsOnce (fold interned names texts)
once_all names [] once = once
once_all names (text ∷ texts) once = once_all (interned names text) texts (once_more names text once)

once_class : (naming : Naming) (line : Form) → IsOnce naming.names → IsOnce (naming_behind naming line).names
unfolding with_class
once_class naming (form.Class name kind enabled timed) once = once_more naming.names name once
once_class naming (form.Instrument pattern enabled timed) once = once
once_class naming _ once = once

once_classes : (naming : Naming) (lines : List Form) → IsOnce naming.names → IsOnce (fold naming_behind naming lines).names
once_classes naming [] once = once
once_classes naming (line ∷ lines) once = once_classes (naming_behind naming line) lines (once_class naming line once)

once_none : IsOnce []
once_none i j text at bt = cc

once_head : (lines : List Form) → IsOnce (head_of lines).names
unfolding head_of naming_of naming_under
once_head lines = once_classes (naming_under (limits_of lines)) lines (once_more (with_rows [] builtins) (codes "transaction") (once_all [] (map (λ row. row.name) builtins) once_none))

-- a name that is there stays, at its place
at_by : (names : List (List ℕ)) (text one : List ℕ) (id : ℕ) (there : Bool) → list_any (λ one. bytes_eq one text) names ≡ there → slice_get names id ≡ Some one → slice_get (interned names text) id ≡ Some one
at_by names text one id true e at = ap (λ (all : List (List ℕ)). slice_get all id) (interned_known names text (contains_from_any names text e)) ∙ at
at_by names text one id false e at =
    ap (λ (all : List (List ℕ)). slice_get all id) (interned_new names text (λ has. false≢true (sym e ∙ any_from_contains names text has))) ∙ push_old names text one id at

at_interned : (names : List (List ℕ)) (text one : List ℕ) (id : ℕ) → slice_get names id ≡ Some one → slice_get (interned names text) id ≡ Some one
at_interned names text one id at = at_by names text one id (list_any (λ one. bytes_eq one text) names) refl at

at_session : (names : List (List ℕ)) (line : Form) (one : List ℕ) (id : ℕ) → slice_get names id ≡ Some one → slice_get (with_session names line) id ≡ Some one
at_session names (form.Connect session user host) one id at = at_interned (interned names user) host one id (at_interned names user one id at)
at_session names _ one id at = at

at_sessions : (names : List (List ℕ)) (lines : List Form) (one : List ℕ) (id : ℕ) → slice_get names id ≡ Some one → slice_get (fold with_session names lines) id ≡ Some one
at_sessions names [] one id at = at
at_sessions names (line ∷ lines) one id at = at_sessions (with_session names line) lines one id (at_session names line one id at)

-- a name that is interned is there
has_interned : (names : List (List ℕ)) (text : List ℕ) → (there : Bool) → list_any (λ one. bytes_eq one text) names ≡ there → (id : ℕ) × (slice_get (interned names text) id ≡ Some text)
has_interned names text true e =
    let place = at_contains names text (contains_from_any names text e) in
    (place.0, at_interned names text text place.0 place.1)
has_interned names text false e = (length names, ap (λ (all : List (List ℕ)). slice_get all (length names)) (interned_new names text (λ has. false≢true (sym e ∙ any_from_contains names text has))) ∙ push_new names text)

-- the user and the host of a line are there behind it, and behind all lines
both_here : (names : List (List ℕ)) (lines : List Form) (user host : List ℕ) → Contains (fold with_session (interned (interned names user) host) lines) user × Contains (fold with_session (interned (interned names user) host) lines) host
both_here names lines user host =
    let first = has_interned names user (list_any (λ one. bytes_eq one user) names) refl in
    let second = has_interned (interned names user) host (list_any (λ one. bytes_eq one host) (interned names user)) refl in
    let all = fold with_session (interned (interned names user) host) lines in (
      contains_at all first.0 user (at_sessions (interned (interned names user) host) lines user first.0 (at_interned (interned names user) host user first.0 first.1)),
      contains_at all second.0 host (at_sessions (interned (interned names user) host) lines host second.0 second.1),
    )

both_there : (names : List (List ℕ)) (lines : List Form) (place : ℕ) (session : Option ℕ) (user host : List ℕ) → slice_get lines place ≡ Some (form.Connect session user host)
    → Contains (fold with_session names lines) user × Contains (fold with_session names lines) host
both_there names [] place session user host at = cc
both_there names (line ∷ lines) zero session user host at =
    let same : form.Connect session user host ≡ line = cc in
    subst (λ (one : Form). Contains (fold with_session (with_session names one) lines) user × Contains (fold with_session (with_session names one) lines) host) same (both_here names lines user host)
both_there names (line ∷ lines) (suc place) session user host at = both_there (with_session names line) lines place session user host at

-- the id of a name that is there
text_at_id : (names : List (List ℕ)) (text : List ℕ) → Contains names text → slice_get names (id_of names text) ≡ Some text
text_at_id names text has =
    let within = id_within names text has in
    slice_get-get_or names (id_of names text) text within
    ∙ ap Some ((bytes_eq-Decides (get_or names (id_of names text) text) text).0 (passes_at_first (λ (one : List ℕ). bytes_eq one text) names text within))

given : (lines : List Form) (place : ℕ) (session : Option ℕ) (user host : List ℕ) → slice_get lines place ≡ Some (form.Connect session user host)
    → (slice_get (names_of lines) (connect_of (names_of lines) user host).user ≡ Some user) × (slice_get (names_of lines) (connect_of (names_of lines) user host).host ≡ Some host)
unfolding names_of
given lines place session user host at =
    let both = both_there (head_of lines).names lines place session user host at in
    (text_at_id (names_of lines) user both.0, text_at_id (names_of lines) host both.1)

all_kept : (lines : List Form) → Kept Never (names_told lines) (names_of lines)
unfolding names_of
all_kept lines = sessions_kept (map Some (head_of lines).names) (head_of lines).names lines (told_kept (head_of lines).names (once_head lines))

has_all : (lines : List Form) (place : ℕ) (text : List ℕ) → slice_get (names_told lines) place ≡ Some (Some text) → Contains (names_of lines) text
has_all lines place text at = elim ((all_kept lines).missing place text at) [
  | inl has ↦ has
  | inr full ↦ absurd full.0
]

class_stays : (lines : List Form) (id : ℕ) (text : List ℕ) → slice_get (head_of lines).names id ≡ Some text → slice_get (names_of lines) id ≡ Some text
unfolding names_of
class_stays lines id text at = at_sessions (head_of lines).names lines text id at

pub are_named : (lines : List Form) → AreNamed lines (names_of lines)
are_named lines = record {
  listed = (all_kept lines).listed;
  all = has_all lines;
  classes = class_stays lines;
  given = given lines;
}
