-- Kinds of objects by their names, and numbers in a row.
use Rattle.std.proofs.Common.{◌≡◌, ◌≢◌, ◌+◌, ℕ, zero, suc, Bool, true, false, cond, List, [], ◌∷◌, ◌++◌, Option, Some, None, MatchOption, refl, sym, ◌∙◌, ap, subst, arith}
use Rattle.std.specs.List.{range_with_len}
use Rattle.std.specs.Str.{bytes_eq}
use Rattle.std.proofs.lemmas.Slice.Eq.{bytes_eq-Decides}
use Rattle.pfs_matching.specs.ObjectRules.{kind_name}
use Rattle.pfs_matching.specs.declared.object_rows.ObjectKind.{ObjectKind}
use Rattle.pfs_matching.specs.declared.object_rows.ObjectKind.TheVariants.{Event, Function, Procedure, Table as ObjectTable, Trigger}
use Rattle.pfs_exec.specs.Plans.{kind_named}

differs_at : (a b : List ℕ) → a ≢ b → (t : Bool) → bytes_eq a b ≡ t → bytes_eq a b ≡ false
differs_at a b ne true e = absurd (ne ((bytes_eq-Decides a b).0 e))
differs_at a b ne false e = e

differs : (a b : List ℕ) → a ≢ b → bytes_eq a b ≡ false
differs a b ne = differs_at a b ne (bytes_eq a b) refl

none_of : (a b c d e : Bool) → a ≡ false → b ≡ false → c ≡ false → d ≡ false → e ≡ false → cond a (Some Event) (cond b (Some Function) (cond c (Some Procedure) (cond d (Some ObjectTable) (cond e (Some Trigger) None)))) ≡ None
none_of a b c d e f g h i j = rw (f, g, h, i, j) refl

pub kind_is : (text : List ℕ) (r : Option ObjectKind) → MatchOption r ((kind : ObjectKind) → kind_name kind ≢ text) (λ kind. kind_name kind ≡ text) → r ≡ kind_named text
kind_is text (Some Event) e = subst (λ (t : List ℕ). Some Event ≡ kind_named t) e refl
kind_is text (Some Function) e = subst (λ (t : List ℕ). Some Function ≡ kind_named t) e refl
kind_is text (Some Procedure) e = subst (λ (t : List ℕ). Some Procedure ≡ kind_named t) e refl
kind_is text (Some ObjectTable) e = subst (λ (t : List ℕ). Some ObjectTable ≡ kind_named t) e refl
kind_is text (Some Trigger) e = subst (λ (t : List ℕ). Some Trigger ≡ kind_named t) e refl
kind_is text None none =
    sym (none_of (bytes_eq (kind_name Event) text) (bytes_eq (kind_name Function) text) (bytes_eq (kind_name Procedure) text) (bytes_eq (kind_name ObjectTable) text) (bytes_eq (kind_name Trigger) text)
    (differs (kind_name Event) text (none Event)) (differs (kind_name Function) text (none Function)) (differs (kind_name Procedure) text (none Procedure)) (differs (kind_name ObjectTable) text (none ObjectTable)) (differs (kind_name Trigger) text (none Trigger)))

range_more : (a n : ℕ) → range_with_len a (n + 1) ≡ range_with_len a n ++ (a + n) ∷ []
range_more a zero = let e : a ≡ a + 0 = omega arith in ap (λ (m : ℕ). m ∷ []) e
range_more a (suc n) =
    let longer : suc n + 1 ≡ suc (n + 1) = omega arith in
    let shifted : a + 1 + n ≡ a + suc n = omega arith in
    ap (range_with_len a) longer ∙ (ap (λ (l : List ℕ). a ∷ l) (range_more (a + 1) n) ∙ ap (λ (m : ℕ). a ∷ (range_with_len (a + 1) n ++ m ∷ [])) shifted)

-- one number more
pub range_next : (n : ℕ) → range_with_len 0 (n + 1) ≡ range_with_len 0 n ++ n ∷ []
range_next n = let same : 0 + n ≡ n = omega arith in range_more 0 n ∙ ap (λ (m : ℕ). range_with_len 0 n ++ m ∷ []) same
