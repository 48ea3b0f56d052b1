-- What names stand for behind any lines.
use Rattle.std.proofs.Common.{◌≡◌, ℕ, ◌+◌, ◌<◌, ◌≤◌, Bool, true, false, cond, eqb, ◌||◌, List, [], ◌∷◌, ◌++◌, length, map, Option, Some, None, MatchOption, Contains, inl, inr, refl, sym, ap, ◌∙◌, subst, arith}
use Rattle.std.specs.Prelude.{codes, fold, nat_lt, slice_get, is_some}
use Rattle.std.specs.List.{list_any}
use Rattle.std.specs.Str.{bytes_eq}
use Rattle.std.proofs.lemmas.Bool.{false≢true, or_right, lt-ltb, le-ltb, eqb-true, eqb-false}
use Rattle.std.proofs.lemmas.Bool.Decides.{nat_tests}
use Rattle.std.proofs.lemmas.List.Folds.{list_any-append}
use Rattle.std.proofs.lemmas.Slice.Eq.{bytes_eq-Decides}
use Rattle.pfs_lemmas.proofs.Bools.{or_false}
use Rattle.pfs_rows.specs.declared.limits.Limits.{Limits}
use Rattle.pfs_classes.specs.declared.kind.Kind.{Kind}
use Rattle.pfs_classes.specs.declared.classes.ClassRef.{ClassRef}
use Rattle.pfs_classes.specs.Registry.{is_given, RefersTo, registered}
use Rattle.pfs_classes.specs.Builtins.{Row, builtins, builtin_of}
use Rattle.pfs_names.specs.InternedTexts.{Interns, id_of, interned}
use Rattle.pfs_script.specs.declared.forms.Form.{Form}
use Rattle.pfs_script.specs.declared.forms.Form.TheVariants as form
use Rattle.pfs_script.specs.Headings.{Naming, Head, IsSound, count_named, ref_of, resolved, is_class_named, is_builtin, is_known, naming_behind, naming_under, naming_of, limits_of, with_class, with_flags_like, head_of}
use Rattle.pfs_script.proofs.CountLemmas.{count-registered, count-flags, ref-counted, ref-none, ref-found}
use Rattle.pfs_script.proofs.NameIds.{contains_from_any, any_from_contains, interns, id_within, id_absent, id_pushed}
use Rattle.pfs_script.proofs.BuiltinNames.{builtin_names, names-builtin, count-builtin}

-- the names are those known, and each stands for something
pub record Knows (naming : Naming) (known : List ℕ → Bool) : Type 0 where
  pub names : (name : List ℕ) → list_any (λ one. bytes_eq one name) naming.names ≡ known name
  pub given : (id : ℕ) → nat_lt 0 (count_named naming.classes id) ≡ nat_lt id (length naming.names)

any_map : (test : List ℕ → Bool) (rows : List Row) → list_any test (map (λ row. row.name) rows) ≡ list_any (λ row. test row.name) rows
any_map test [] = refl
any_map test (row ∷ rows) = ap (λ b. test row.name || b) (any_map test rows)

or_assoc : (a b c : Bool) → ((a || b) || c) ≡ (a || (b || c))
or_assoc true b c = refl
or_assoc false b c = refl

builtin_test : (name : List ℕ) → list_any (λ one. bytes_eq one name) builtin_names ≡ is_builtin name
unfolding is_builtin
builtin_test name =
    let test : List ℕ → Bool = λ one. bytes_eq one name in
    list_any-append test (map (λ row. row.name) builtins) (codes "transaction" ∷ [])
    ∙ (ap (λ b. b || (bytes_eq (codes "transaction") name || false)) (any_map test builtins)
    ∙ ap (λ b. list_any (λ row. bytes_eq row.name name) builtins || b) (or_false (bytes_eq (codes "transaction") name)))

some_counted : (b : Bool) → nat_lt 0 (cond {A = ℕ} b 1 0) ≡ b
some_counted true = refl
some_counted false = refl

knows_builtin : (limits : Limits) → Knows (naming_under limits) is_builtin
unfolding naming_under
knows_builtin limits = record {
  names = λ name. ap (list_any (λ one. bytes_eq one name)) names-builtin ∙ builtin_test name;
  given = λ id.
      ap (λ (texts : List (List ℕ)). nat_lt 0 (count_named (builtin_of texts limits) id)) names-builtin
      ∙ (ap (nat_lt 0) (count-builtin limits id)
      ∙ (some_counted (nat_lt id 25) ∙ ap (nat_lt id) (sym (ap {B = ℕ} length names-builtin))));
}

same_test : (known : List ℕ → Bool) (names : List (List ℕ)) (name other : List ℕ) (same : Bool) → bytes_eq name other ≡ same
    → list_any (λ one. bytes_eq one name) names ≡ true → list_any (λ one. bytes_eq one other) names ≡ known other → list_any (λ one. bytes_eq one other) names ≡ (known other || same)
same_test known names name other true e there test =
    let is : name ≡ other = (bytes_eq-Decides name other).0 e in
    let here : list_any (λ one. bytes_eq one other) names ≡ true = ap (λ (text : List ℕ). list_any (λ one. bytes_eq one text) names) (sym is) ∙ there in
    here ∙ sym (or_right (known other) true refl)
same_test known names name other false e there test = test ∙ sym (or_false (known other))

pub length_push : (names : List (List ℕ)) (name : List ℕ) → length (names ++ name ∷ []) ≡ length names + 1
length_push [] name = refl
length_push (first ∷ names) name = omega (arith, length_push names name)

-- one more of the first names
counted_old : (count id place n : ℕ) (same : Bool) → eqb place id ≡ same → place < n → nat_lt 0 count ≡ nat_lt id n → nat_lt 0 (count + cond {A = ℕ} same 1 0) ≡ nat_lt id n
counted_old count id place n true e lt given =
    let here : place ≡ id = eqb-true place id e in
    lt-ltb 0 (count + 1) (omega arith) ∙ sym (lt-ltb id n (omega arith))
counted_old count id place n false e lt given = ap (nat_lt 0) (omega arith) ∙ given

-- one more name
counted_new : (count id n m : ℕ) (same : Bool) → eqb n id ≡ same → m ≡ n + 1 → nat_lt 0 count ≡ nat_lt id n → nat_lt 0 (count + cond {A = ℕ} same 1 0) ≡ nat_lt id m
counted_new count id n m true e more given =
    let here : n ≡ id = eqb-true n id e in
    lt-ltb 0 (count + 1) (omega arith) ∙ sym (lt-ltb id m (omega arith))
counted_new count id n m false e more given =
    let other = eqb-false n id e in
    ap (nat_lt 0) (omega arith) ∙ (given ∙ grind (arith, nat_tests))

class_by : (naming : Naming) (known : List ℕ → Bool) (name : List ℕ) (kind : Kind) (enabled timed : Bool) (names : List (List ℕ)) → Interns naming.names names name → Knows naming known
    → Knows (record { names = names; classes = registered naming.classes (record { name = id_of names name; kind = kind; enabled = enabled; timed = timed }) }) (λ other. known other || bytes_eq name other)
class_by naming known name kind enabled timed names (inl (has, same)) knows = record {
  names = λ other.
      subst (λ (all : List (List ℕ)). list_any (λ one. bytes_eq one other) all ≡ (known other || bytes_eq name other)) (sym same)
      (same_test known naming.names name other (bytes_eq name other) refl (any_from_contains naming.names name has) (knows.names other));
  given = λ id.
      ap (nat_lt 0) (count-registered naming.classes (record { name = id_of names name; kind = kind; enabled = enabled; timed = timed }) id)
      ∙ subst (λ (all : List (List ℕ)). nat_lt 0 (count_named naming.classes id + cond {A = ℕ} (eqb (id_of all name) id) 1 0) ≡ nat_lt id (length all)) (sym same)
      (counted_old (count_named naming.classes id) id (id_of naming.names name) (length naming.names) (eqb (id_of naming.names name) id) refl (id_within naming.names name has) (knows.given id));
}
class_by naming known name kind enabled timed names (inr (absent, more)) knows = record {
  names = λ other.
      subst (λ (all : List (List ℕ)). list_any (λ one. bytes_eq one other) all ≡ (known other || bytes_eq name other)) (sym more)
      (list_any-append (λ one. bytes_eq one other) naming.names (name ∷ [])
      ∙ (ap (λ b. b || (bytes_eq name other || false)) (knows.names other) ∙ ap (λ b. known other || b) (or_false (bytes_eq name other))));
  given = λ id.
      ap (nat_lt 0) (count-registered naming.classes (record { name = id_of names name; kind = kind; enabled = enabled; timed = timed }) id)
      ∙ subst (λ (all : List (List ℕ)). nat_lt 0 (count_named naming.classes id + cond {A = ℕ} (eqb (id_of all name) id) 1 0) ≡ nat_lt id (length all)) (sym more)
      (ap (λ n. nat_lt 0 (count_named naming.classes id + cond {A = ℕ} (eqb n id) 1 0)) (id_pushed naming.names name absent)
      ∙ counted_new (count_named naming.classes id) id (length naming.names) (length (naming.names ++ name ∷ [])) (eqb (length naming.names) id) refl (length_push naming.names name) (knows.given id));
}

knows_class : (naming : Naming) (known : List ℕ → Bool) (name : List ℕ) (kind : Kind) (enabled timed : Bool) → Knows naming known
    → Knows (with_class naming name kind enabled timed) (λ other. known other || bytes_eq name other)
unfolding with_class
knows_class naming known name kind enabled timed knows =
    class_by naming known name kind enabled timed (interned naming.names name) (interns naming.names name (list_any (λ one. bytes_eq one name) naming.names) refl) knows

knows_none : (naming : Naming) (known : List ℕ → Bool) → Knows naming known → Knows naming (λ other. known other || false)
knows_none naming known knows = record { names = λ name. knows.names name ∙ sym (or_false (known name)); given = knows.given }

knows_flags : (naming : Naming) (known : List ℕ → Bool) (pattern : List ℕ) (enabled timed : Bool) → Knows naming known → Knows (with_flags_like naming pattern enabled timed) (λ other. known other || false)
knows_flags naming known pattern enabled timed knows = record {
  names = λ name. knows.names name ∙ sym (or_false (known name));
  given = λ id. ap (nat_lt 0) (count-flags naming.classes naming.names pattern enabled timed id) ∙ knows.given id;
}

knows_step : (naming : Naming) (known : List ℕ → Bool) (line : Form) → Knows naming known → Knows (naming_behind naming line) (λ other. known other || is_class_named other line)
knows_step naming known (form.Class name kind enabled timed) knows = knows_class naming known name kind enabled timed knows
knows_step naming known (form.Instrument pattern enabled timed) knows = knows_flags naming known pattern enabled timed knows
knows_step naming known form.Silent knows = knows_none naming known knows
knows_step naming known _ knows = knows_none naming known knows

knows_lines : (naming : Naming) (known : List ℕ → Bool) (lines : List Form) → Knows naming known → Knows (fold naming_behind naming lines) (λ other. known other || list_any (is_class_named other) lines)
knows_lines naming known [] knows = knows_none naming known knows
knows_lines naming known (line ∷ lines) knows =
    let rest = knows_lines (naming_behind naming line) (λ other. known other || is_class_named other line) lines (knows_step naming known line knows) in
    record {
      names = λ name. rest.names name ∙ or_assoc (known name) (is_class_named name line) (list_any (is_class_named name) lines);
      given = rest.given;
    }

knows_all : (lines : List Form) → Knows (naming_of lines) (is_known lines)
unfolding naming_of is_known
knows_all lines = knows_lines (naming_under (limits_of lines)) is_builtin lines (knows_builtin (limits_of lines))

id_test : (names : List (List ℕ)) (name : List ℕ) (b : Bool) → list_any (λ one. bytes_eq one name) names ≡ b → nat_lt (id_of names name) (length names) ≡ b
id_test names name true e = lt-ltb (id_of names name) (length names) (id_within names name (contains_from_any names name e))
id_test names name false e =
    let absent : ¬ Contains names name = λ has. false≢true (sym e ∙ any_from_contains names name has) in
    le-ltb (id_of names name) (length names) (let same = id_absent names name absent in omega arith)

pub knows_resolved : (lines : List Form) (name : List ℕ) → is_some (resolved (head_of lines) name) ≡ is_known lines name
unfolding resolved head_of
knows_resolved lines name =
    let naming : Naming = naming_of lines in
    let all = knows_all lines in
    let id : ℕ = id_of naming.names name in
    ref-counted naming.classes id ∙ (all.given id ∙ id_test naming.names name (is_known lines name) (all.names name))

-- a name that isn't there stands for nothing
pub uncounted : (head : Head) (id : ℕ) → IsSound head → id ≡ length head.names → count_named head.classes id ≡ 0
uncounted head id sound e =
    let few = sound.once id in
    let out : nat_lt id (length head.names) ≡ false = le-ltb id (length head.names) (omega arith) in
    let most : count_named head.classes id ≤ cond {A = ℕ} false 1 0 = subst (λ (b : Bool). count_named head.classes id ≤ cond {A = ℕ} b 1 0) out few in
    omega arith

pub resolved_absent : (head : Head) (name : List ℕ) → IsSound head → ¬ Contains head.names name → resolved head name ≡ None
unfolding resolved
resolved_absent head name sound absent = ref-none head.classes (id_of head.names name) (uncounted head (id_of head.names name) sound (id_absent head.names name absent))

one_at_most : (b : Bool) → cond {A = ℕ} b 1 0 ≤ 1
one_at_most true = omega arith
one_at_most false = omega arith

pub resolved_at : (head : Head) (name : List ℕ) (id : ℕ) (o : Option ClassRef) → IsSound head → slice_get head.names id ≡ Some name → MatchOption o (is_given head.classes id ≡ false) (λ ref. RefersTo head.classes id ref) → o ≡ resolved head name
unfolding resolved
resolved_at head name id o sound at found =
    let few : count_named head.classes id ≤ 1 = let most = sound.once id in let one = one_at_most (nat_lt id (length head.names)) in omega arith in
    ref-found head.classes id few o found ∙ ap (ref_of head.classes) (sym (sound.places id name at))
