-- Ids of texts among names, and what interning makes of them.
use Rattle.std.proofs.Common.{◌≡◌, ℕ, ◌<◌, Bool, true, false, cond, List, [], ◌∷◌, ◌++◌, length, get_or, Some, Contains, inl, inr, refl, sym, ap, ◌∙◌, subst, arith}
use Rattle.std.specs.Prelude.{slice_get}
use Rattle.std.specs.List.{list_any}
use Rattle.std.specs.Str.{bytes_eq}
use Rattle.std.proofs.lemmas.Bool.{false≢true}
use Rattle.std.proofs.lemmas.List.Folds.{Any-from_list_any, list_any_at}
use Rattle.std.proofs.lemmas.List.Sums.{position_or_len_is}
use Rattle.std.proofs.lemmas.Option.{slice_get-get_or, slice_get_within, get_or_from_slice_get}
use Rattle.std.proofs.lemmas.Slice.Eq.{bytes_eq-Decides}
use Rattle.pfs_names.specs.InternedTexts.{AreNames, Interns, InterningAgrees, id_of, interned}
use Rattle.pfs_names.proofs.Lookups.{Contains-from_slice_get, slice_get-from_Contains}

-- the test for a text, and that it is there
pub contains_from_any : (texts : List (List ℕ)) (text : List ℕ) → list_any (λ one. bytes_eq one text) texts ≡ true → Contains texts text
contains_from_any texts text h =
    let found = Any-from_list_any (λ (one : List ℕ). bytes_eq one text) texts h in
    let e : found.1 ≡ text = (bytes_eq-Decides found.1 text).0 found.4 in
    subst (λ (one : List ℕ). Contains texts one) e (found.0, found.2, found.3)

pub any_from_contains : (texts : List (List ℕ)) (text : List ℕ) → Contains texts text → list_any (λ one. bytes_eq one text) texts ≡ true
any_from_contains texts text (k, within, is) =
    list_any_at (λ (one : List ℕ). bytes_eq one text) texts k text within ((bytes_eq-Decides (get_or texts k text) text).1 is)

pub interned_known : (texts : List (List ℕ)) (text : List ℕ) → Contains texts text → interned texts text ≡ texts
unfolding interned
interned_known texts text has = rw (any_from_contains texts text has) refl

new_by : (texts : List (List ℕ)) (text : List ℕ) (b : Bool) → list_any (λ one. bytes_eq one text) texts ≡ b → ¬ Contains texts text → cond b texts (texts ++ text ∷ []) ≡ texts ++ text ∷ []
new_by texts text true e absent = absurd (absent (contains_from_any texts text e))
new_by texts text false e absent = refl

pub interned_new : (texts : List (List ℕ)) (text : List ℕ) → ¬ Contains texts text → interned texts text ≡ texts ++ text ∷ []
unfolding interned
interned_new texts text absent = new_by texts text (list_any (λ one. bytes_eq one text) texts) refl absent

pub interned_is : (before after : List (List ℕ)) (text : List ℕ) → Interns before after text → after ≡ interned before text
interned_is before after text (inl (has, same)) = same ∙ sym (interned_known before text has)
interned_is before after text (inr (absent, more)) = more ∙ sym (interned_new before text absent)

not_before : (texts : List (List ℕ)) (id k : ℕ) (text : List ℕ) → AreNames texts → slice_get texts id ≡ Some text → k < id → (b : Bool) → bytes_eq (get_or texts k text) text ≡ b → bytes_eq (get_or texts k text) text ≡ false
not_before texts id k text names at lt true e =
    let within : id < length texts = slice_get_within texts id text at in
    let here : slice_get texts k ≡ Some text = slice_get-get_or texts k text (omega arith) ∙ ap Some ((bytes_eq-Decides (get_or texts k text) text).0 e) in
    let same : k ≡ id = names.distinct k id text here at in
    absurd (omega arith)
not_before texts id k text names at lt false e = e

-- a text at a place of names has it as its id
pub id_is : (texts : List (List ℕ)) (id : ℕ) (text : List ℕ) → AreNames texts → slice_get texts id ≡ Some text → id_of texts text ≡ id
id_is texts id text names at =
    let within : id < length texts = slice_get_within texts id text at in
    position_or_len_is (λ (one : List ℕ). bytes_eq one text) texts id text (omega arith)
    (λ k lt. not_before texts id k text names at lt (bytes_eq (get_or texts k text) text) refl)
    (λ _. (bytes_eq-Decides (get_or texts id text) text).1 (get_or_from_slice_get texts id text text at))

interns : (texts : List (List ℕ)) (text : List ℕ) (b : Bool) → list_any (λ one. bytes_eq one text) texts ≡ b → Interns texts (interned texts text) text
interns texts text true e = let has = contains_from_any texts text e in inl (has, interned_known texts text has)
interns texts text false e =
    let absent : ¬ Contains texts text = λ has. false≢true (sym e ∙ any_from_contains texts text has) in
    inr (absent, interned_new texts text absent)

is_interned : (old new : List (List ℕ)) (text : List ℕ) → new ≡ interned old text → Interns old new text
is_interned old new text e = subst (λ (names : List (List ℕ)). Interns old names text) (sym e) (interns old text (list_any (λ one. bytes_eq one text) old) refl)

is_id : (texts : List (List ℕ)) (id : ℕ) (text : List ℕ) → AreNames texts → Contains texts text → id ≡ id_of texts text → slice_get texts id ≡ Some text
is_id texts id text names has e =
    let place = slice_get-from_Contains texts text has in
    subst (λ (n : ℕ). slice_get texts n ≡ Some text) (sym (e ∙ id_is texts place.0 text names place.1)) place.1

-- the definitions say the same
pub agrees : InterningAgrees
agrees = record {
  interns = λ old new text. (interned_is old new text, is_interned old new text);
  ids = λ texts id text names. (
    λ at. (Contains-from_slice_get texts id text at, sym (id_is texts id text names at)),
    λ is. is_id texts id text names is.0 is.1,
  );
}
