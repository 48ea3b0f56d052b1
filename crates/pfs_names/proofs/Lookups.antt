-- A look-up that agrees with the texts, and what a new text does to it.
use Rattle.std.proofs.Common.{◌≡◌, ℕ, ◌<◌, ◌≤◌, Bool, true, false, List, [], ◌∷◌, ◌++◌, length, map, Some, None, Option, String, string_bytes, Contains, MatchOption, ◌↔◌, zero, suc, ◌⊎◌, inl, inr, sym, refl, ap, ◌∙◌, subst, arith, length-append}
use Rattle.std.specs.BTreeMap.{BTreeMap, get_by_text}
use Rattle.std.specs.List.{slice_get}
use Rattle.std.specs.Map.{update}
use Rattle.std.specs.Str.{bytes_eq}
use Rattle.std.specs.Cmp.Lexicographic.{bytes_decides}
use Rattle.std.proofs.lemmas.Bool.{false≢true}
use Rattle.std.proofs.lemmas.List.{length-map, map_push}
use Rattle.std.proofs.lemmas.Option.{same_Some, slice_get-get_or, slice_get_within, get_or_from_slice_get}
use Rattle.pfs_names.specs.InternedTexts.{AreNames, Agrees}

-- a text at a place is among the texts
pub Contains-from_slice_get : (texts : List (List ℕ)) (i : ℕ) (text : List ℕ) → slice_get texts i ≡ Some text → Contains texts text
Contains-from_slice_get texts i text at = (i, slice_get_within texts i text at, get_or_from_slice_get texts i text text at)

-- a text among the texts is at a place
pub slice_get-from_Contains : (texts : List (List ℕ)) (text : List ℕ) → Contains texts text → (i : ℕ) × (slice_get texts i ≡ Some text)
slice_get-from_Contains texts text (i, within, is) = (i, slice_get-get_or texts i text within ∙ ap Some is)

module _ {Y Z : Type 0} where
  -- a text that is looked up has one place
  pub names_from_agrees : (texts : List (String Y)) (ids : BTreeMap (String Z) ℕ) → Agrees texts ids → AreNames (map string_bytes texts)
  names_from_agrees texts ids agrees = record {
    distinct = λ i j text at_i at_j. same_Some i j (sym ((agrees.places text i).1 at_i) ∙ (agrees.places text j).1 at_j);
    short = agrees.short;
    few = subst (λ n. n ≤ 65536) (sym (length-map texts string_bytes)) agrees.few;
  }

  -- what a look-up finds
  pub found_from_agrees : (texts : List (String Y)) (ids : BTreeMap (String Z) ℕ) (text : List ℕ) (o : Option ℕ) → Agrees texts ids → o ≡ get_by_text ids text
      → MatchOption o (¬ Contains (map string_bytes texts) text) (λ id. slice_get (map string_bytes texts) id ≡ Some text)
  found_from_agrees texts ids text (Some id) agrees is = (agrees.places text id).0 (sym is)
  found_from_agrees texts ids text None agrees is = λ has.
      let place = slice_get-from_Contains (map string_bytes texts) text has in
      let found : get_by_text ids text ≡ Some place.0 = (agrees.places text place.0).1 place.1 in
      cc

-- what stood at a place stands there when one more text comes
slice_get_push_old : (texts : List (List ℕ)) (new : List ℕ) (i : ℕ) (text : List ℕ) → slice_get texts i ≡ Some text → slice_get (texts ++ new ∷ []) i ≡ Some text
slice_get_push_old [] new i text at = cc
slice_get_push_old (t ∷ ts) new zero text at = at
slice_get_push_old (t ∷ ts) new (suc i) text at = slice_get_push_old ts new i text at

-- the new text stands at the end
slice_get_push_new : (texts : List (List ℕ)) (new : List ℕ) → slice_get (texts ++ new ∷ []) (length texts) ≡ Some new
slice_get_push_new [] new = refl
slice_get_push_new (t ∷ ts) new = slice_get_push_new ts new

-- a text of the longer list is an old one at its place, or the new one at the end
slice_get_push_cases : (texts : List (List ℕ)) (new : List ℕ) (i : ℕ) (text : List ℕ) → slice_get (texts ++ new ∷ []) i ≡ Some text → (slice_get texts i ≡ Some text) ⊎ ((i ≡ length texts) × (new ≡ text))
slice_get_push_cases [] new zero text at = inr (refl, same_Some new text at)
slice_get_push_cases [] new (suc i) text at = cc
slice_get_push_cases (t ∷ ts) new zero text at = inl at
slice_get_push_cases (t ∷ ts) new (suc i) text at = elim (slice_get_push_cases ts new i text at) [
  | inl old ↦ inl old
  | inr (last, is) ↦ inr (ap suc last, is)
]

-- a look-up that gets one more text at the end agrees with the texts and that one
places_push : (texts : List (List ℕ)) (new : List ℕ) (before after : List ℕ → Option ℕ)
    → ((text : List ℕ) (i : ℕ) → (before text ≡ Some i) ↔ (slice_get texts i ≡ Some text)) → ¬ Contains texts new
    → ((text : List ℕ) → after text ≡ update bytes_eq before new (Some (length texts)) text)
    → (text : List ℕ) (i : ℕ) (same : Bool) → bytes_eq new text ≡ same → (after text ≡ Some i) ↔ (slice_get (texts ++ new ∷ []) i ≡ Some text)
places_push texts new before after agrees absent sets text i true is_same =
    let is : new ≡ text = (bytes_decides new text).0 is_same in
    let now : after text ≡ Some (length texts) = sets text ∙ rw is_same refl in (
      λ found. let last : i ≡ length texts = same_Some i (length texts) (sym found ∙ now) in rw (last, ← is) (slice_get_push_new texts new),
      λ at. elim (slice_get_push_cases texts new i text at) [
        | inl old ↦ absurd (absent (Contains-from_slice_get texts i new (old ∙ ap Some (sym is))))
        | inr (last, _) ↦ now ∙ ap Some (sym last)
      ],
    )
places_push texts new before after agrees absent sets text i false differs =
    let now : after text ≡ before text = sets text ∙ rw differs refl in (
      λ found. slice_get_push_old texts new i text ((agrees text i).0 (sym now ∙ found)),
      λ at. elim (slice_get_push_cases texts new i text at) [
        | inl old ↦ now ∙ (agrees text i).1 old
        | inr (_, is) ↦ absurd (false≢true (sym differs ∙ (bytes_decides new text).1 is))
      ],
    )

-- no text over the limit comes with a new one that keeps it
short_push : (texts : List (List ℕ)) (new : List ℕ) → ((text : List ℕ) → Contains texts text → length text ≤ 1024) → length new ≤ 1024 → (text : List ℕ) → Contains (texts ++ new ∷ []) text → length text ≤ 1024
short_push texts new short fits text has =
    let place = slice_get-from_Contains (texts ++ new ∷ []) text has in
    elim (slice_get_push_cases texts new place.0 text place.1) [
      | inl old ↦ short text (Contains-from_slice_get texts place.0 text old)
      | inr (_, is) ↦ subst (λ t. length t ≤ 1024) is fits
    ]

module _ {Y Z : Type 0} where
  -- what `intern` keeps when it adds a text
  pub agrees_push : (texts : List (String Y)) (kept : String Y) (ids new_ids : BTreeMap (String Z) ℕ) (new : List ℕ) → Agrees texts ids
      → ¬ Contains (map string_bytes texts) new → length texts < 65536 → length new ≤ 1024 → string_bytes kept ≡ new
      → ((text : List ℕ) → get_by_text new_ids text ≡ update bytes_eq (get_by_text ids) new (Some (length texts)) text)
      → Agrees (texts ++ kept ∷ []) new_ids
  agrees_push texts kept ids new_ids new agrees absent room fits is sets =
      let now : map string_bytes (texts ++ kept ∷ []) ≡ map string_bytes texts ++ new ∷ [] = map_push string_bytes texts kept ∙ ap (λ t. map string_bytes texts ++ t ∷ []) is in
      let here : (text : List ℕ) → get_by_text new_ids text ≡ update bytes_eq (get_by_text ids) new (Some (length (map string_bytes texts))) text = λ text. sets text ∙ ap (λ n. update bytes_eq (get_by_text ids) new (Some n) text) (sym (length-map texts string_bytes)) in
      record {
        places = λ text i. subst (λ ts. (get_by_text new_ids text ≡ Some i) ↔ (slice_get ts i ≡ Some text)) (sym now) (places_push (map string_bytes texts) new (get_by_text ids) (get_by_text new_ids) agrees.places absent here text i (bytes_eq new text) refl);
        short = λ text has. short_push (map string_bytes texts) new agrees.short fits text (subst (λ ts. Contains ts text) now has);
        few = omega (arith, length-append texts (kept ∷ []));
      }
