-- How many events lines open, how much time they let pass, and where their brackets stand.
use Rattle.std.proofs.Common.{ℕ, zero, suc, ◌≡◌, ◌+◌, ◌-◌, ◌≤◌, ◌<◌, Bool, true, false, List, [], ◌∷◌, ◌++◌, length, map, filter, reverse, take, Some, refl, ap, sym, ◌∙◌, subst, zero-add, arith}
use Rattle.std.specs.Prelude.{slice_get}
use Rattle.std.specs.List.{sum_by}
use Rattle.std.proofs.lemmas.List.{map-append, reverse-append}
use Rattle.std.proofs.lemmas.List.Sums.{sum_by-append}
use Rattle.pfs_model.proofs.EachLists.{each_join}
use Rattle.pfs_model.specs.Chains.{Each}
use Rattle.pfs_script.specs.declared.blocks.BlockLine.{BlockLine}
use Rattle.pfs_script.specs.Brackets.{Bracket, closing_from, brackets_from}
use Rattle.pfs_script.specs.Events.{time_of}
use Rattle.pfs_script.specs.Marks.{Mark, Opens, Ends, EndsStage, Passes, mark_of}
use Rattle.pfs_law_plain.specs.Tracks.{marks_of, opened_by, passed_in}

-- the marks that open an event
abbrev pub opens : List Mark → ℕ
opens [] = 0
opens (Opens kind ∷ marks) = suc (opens marks)
opens (Ends ∷ marks) = opens marks
opens (EndsStage ∷ marks) = opens marks
opens (Passes ∷ marks) = opens marks

pub counted : (place : ℕ) (marks : List Mark) → length (brackets_from place marks) ≡ opens marks
unfolding brackets_from
counted place [] = refl
counted place (Opens kind ∷ marks) = ap suc (counted (place + 1) marks)
counted place (Ends ∷ marks) = counted (place + 1) marks
counted place (EndsStage ∷ marks) = counted (place + 1) marks
counted place (Passes ∷ marks) = counted (place + 1) marks

opens_then : (xs ys : List Mark) → opens (xs ++ ys) ≡ opens xs + opens ys
opens_then [] ys = omega arith
opens_then (Opens kind ∷ xs) ys = let rest = opens_then xs ys in omega (arith, rest)
opens_then (Ends ∷ xs) ys = opens_then xs ys
opens_then (EndsStage ∷ xs) ys = opens_then xs ys
opens_then (Passes ∷ xs) ys = opens_then xs ys

pub opened_is : (lines : List BlockLine) → opened_by lines ≡ opens (marks_of lines)
opened_is lines = counted 0 (marks_of lines)

-- one line more
pub opened_more : (done : List BlockLine) (line : BlockLine) → opened_by (done ++ line ∷ []) ≡ opened_by done + opens (mark_of line ∷ [])
opened_more done line =
    opened_is (done ++ line ∷ []) ∙ (ap opens (map-append mark_of done (line ∷ [])) ∙ (opens_then (marks_of done) (mark_of line ∷ [])
    ∙ ap (λ n. n + opens (mark_of line ∷ [])) (sym (opened_is done))))

pub passed_more : (done : List BlockLine) (line : BlockLine) → passed_in (done ++ line ∷ []) ≡ passed_in done + time_of line
passed_more done line = sum_by-append time_of done (line ∷ []) ∙ one
  where
    one : passed_in done + sum_by time_of (line ∷ []) ≡ passed_in done + time_of line
    one = ap (λ n. passed_in done + n) (zero-add (time_of line))

-- a bracket stands behind as many as marks open before its own
pub standing : (place : ℕ) (marks : List Mark) (i : ℕ) (b : Bracket) → slice_get (brackets_from place marks) i ≡ Some b
    → (place ≤ b.opened) × (b.opened < place + length marks) × (i ≡ opens (take (b.opened - place) marks))
unfolding brackets_from
standing place [] i b e = cc
standing place (Opens kind ∷ marks) zero b e =
    let first : ◌≡◌ {A = Bracket} (record { opened = place; kind = kind; closed = closing_from (place + 1) kind 0 marks }) b = cc in
    let same : place ≡ b.opened = ap (λ (one : Bracket). one.opened) first in
    let none : b.opened - place ≡ 0 = omega arith in
    (omega arith, omega arith, rw none refl)
standing place (Opens kind ∷ marks) (suc i) b e =
    let rest = standing (place + 1) marks i b e in
    let more : b.opened - place ≡ suc (b.opened - (place + 1)) = omega (arith, rest.0) in
    (omega (arith, rest.0), omega (arith, rest.1), rw more (ap suc rest.2))
standing place (Ends ∷ marks) i b e =
    let rest = standing (place + 1) marks i b e in
    let more : b.opened - place ≡ suc (b.opened - (place + 1)) = omega (arith, rest.0) in
    (omega (arith, rest.0), omega (arith, rest.1), rw more rest.2)
standing place (EndsStage ∷ marks) i b e =
    let rest = standing (place + 1) marks i b e in
    let more : b.opened - place ≡ suc (b.opened - (place + 1)) = omega (arith, rest.0) in
    (omega (arith, rest.0), omega (arith, rest.1), rw more rest.2)
standing place (Passes ∷ marks) i b e =
    let rest = standing (place + 1) marks i b e in
    let more : b.opened - place ≡ suc (b.opened - (place + 1)) = omega (arith, rest.0) in
    (omega (arith, rest.0), omega (arith, rest.1), rw more rest.2)

-- a fact of each, and lists that are turned round or told by a test
pub each_as : {A : Type 0} (P Q : A → Type 0) (xs : List A) → ((x : A) → P x → Q x) → Each P xs → Each Q xs
each_as P Q [] f are = tt
each_as P Q (x ∷ xs) f are = (f x are.0, each_as P Q xs f are.1)

pub each_map : {A B : Type 0} (P : B → Type 0) (f : A → B) (xs : List A) → Each (λ x. P (f x)) xs → Each P (map f xs)
each_map P f [] are = tt
each_map P f (x ∷ xs) are = (are.0, each_map P f xs are.1)

pub each_filter : {A : Type 0} (P : A → Type 0) (test : A → Bool) (xs : List A) → Each P xs → Each (λ x. P x × (test x ≡ true)) (filter test xs)
each_filter P test [] are = tt
each_filter P test (x ∷ xs) are = at (test x) refl (each_filter P test xs are.1)
  where
    at : (b : Bool) → test x ≡ b → Each (λ x. P x × (test x ≡ true)) (filter test xs) → Each (λ x. P x × (test x ≡ true)) (filter test (x ∷ xs))
    at true q rest = rw q ((are.0, q), rest)
    at false q rest = rw q rest

pub each_reverse : {A : Type 0} (P : A → Type 0) (xs : List A) → Each P xs → Each P (reverse xs)
each_reverse P [] are = tt
each_reverse P (x ∷ xs) are = subst (Each P) (sym (reverse-append (x ∷ []) xs)) (each_join P (reverse xs) (x ∷ []) (each_reverse P xs are.1) (are.0, tt))

-- each of a list stands somewhere in it
pub each_at : {A : Type 0} (xs : List A) → Each (λ x. (i : ℕ) × (slice_get xs i ≡ Some x)) xs
each_at [] = tt
each_at (x ∷ xs) = ((0, refl), each_as (λ y. (i : ℕ) × (slice_get xs i ≡ Some y)) (λ y. (i : ℕ) × (slice_get (x ∷ xs) i ≡ Some y)) xs (λ y at. (suc at.0, at.1)) (each_at xs))
