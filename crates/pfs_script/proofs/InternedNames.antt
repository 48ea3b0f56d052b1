-- Names that are interned behind those of classes.
use Rattle.std.proofs.Common.{◌≡◌, ℕ, ◌+◌, ◌<◌, ◌≤◌, Bool, true, false, cond, eqb, List, length, drop, get_or, None, inl, inr, refl, sym, ap, ◌∙◌, subst, arith}
use Rattle.std.specs.Prelude.{nat_lt, fold}
use Rattle.std.specs.Str.{bytes_eq, IsUtf8}
use Rattle.std.proofs.lemmas.Bool.{le-ltb, eqb-true}
use Rattle.std.proofs.lemmas.List.{drop_more}
use Rattle.std.proofs.lemmas.List.Folds.{position_or_len_push}
use Rattle.std.proofs.Math.ListN.{drop_of_length-le}
use Rattle.pfs_names.specs.InternedTexts.{AreNames, Interns, id_of}
use Rattle.pfs_classes.specs.Settings.{ComesFrom}
use Rattle.pfs_script.specs.Headings.{Head, IsSound, count_named, ref_of, resolved}
use Rattle.pfs_script.specs.declared.drafts.Owner.{Owner}
use Rattle.pfs_script.specs.Drafts.{with_owner}
use Rattle.pfs_script.specs.SessionNames.{head_named}
use Rattle.pfs_script.proofs.CountLemmas.{ref-none}
use Rattle.pfs_script.proofs.NameIds.{id_is}
use Rattle.pfs_script.proofs.RegisterLemmas.{longer, more_room, utf8_after}

-- what is no id of the names stands for nothing
beyond : (head : Head) (id : ℕ) → IsSound head → length head.names ≤ id → ref_of head.classes id ≡ None
beyond head id sound out =
    let few = sound.once id in
    let past : nat_lt id (length head.names) ≡ false = le-ltb id (length head.names) out in
    let most : count_named head.classes id ≤ cond {A = ℕ} false 1 0 = subst (λ (b : Bool). count_named head.classes id ≤ cond {A = ℕ} b 1 0) past few in
    ref-none head.classes id (omega arith)

same_by : (head : Head) (text name : List ℕ) (last : Bool) → IsSound head → eqb (id_of head.names name) (length head.names) ≡ last
    → ref_of head.classes (cond {A = ℕ} last (length head.names + cond {A = ℕ} (bytes_eq text name) 0 1) (id_of head.names name)) ≡ ref_of head.classes (id_of head.names name)
same_by head text name true sound e =
    let at : id_of head.names name ≡ length head.names = eqb-true (id_of head.names name) (length head.names) e in
    beyond head (length head.names + cond {A = ℕ} (bytes_eq text name) 0 1) sound (omega arith) ∙ sym (beyond head (id_of head.names name) sound (omega arith))
same_by head text name false sound e = refl

-- one more name leaves what stands for a class
pub same_resolved : (head : Head) (after : List (List ℕ)) (text name : List ℕ) → IsSound head → Interns head.names after text → resolved (head_named head after) name ≡ resolved head name
unfolding resolved
same_resolved head after text name sound (inl (has, same)) = ap (λ (names : List (List ℕ)). ref_of head.classes (id_of names name)) same
same_resolved head after text name sound (inr (absent, more)) =
    ap (λ (names : List (List ℕ)). ref_of head.classes (id_of names name)) more
    ∙ (ap (ref_of head.classes) (position_or_len_push (λ (one : List ℕ). bytes_eq one name) head.names text)
    ∙ same_by head text name (eqb (id_of head.names name) (length head.names)) sound refl)

-- and the head sound
pub sound_named : (head : Head) (after : List (List ℕ)) (text : List ℕ) → IsSound head → Interns head.names after text → AreNames after → IsUtf8 text → ComesFrom after head.classes → IsSound (head_named head after)
sound_named head after text sound so names utf8 come = record {
  in_range = sound.in_range;
  same_limits = sound.same_limits;
  come = come;
  once = λ id.
      let few = sound.once id in
      let more = more_room id (length head.names) (length after) (nat_lt id (length head.names)) refl (longer head.names after text so) in
      omega arith;
  places = λ id one there. id_is after id one names there;
  utf8 = utf8_after head.names after text so utf8 sound.utf8;
}

-- the names of owner after owner
pub named_step : (head after : Head) (owners : List Owner) (at : ℕ) (any : Owner) (target : Head) → at < length owners → after ≡ head_named head (with_owner head.names (get_or owners at any))
    → head_named head (fold with_owner head.names (drop at owners)) ≡ target → head_named after (fold with_owner after.names (drop (at + 1) owners)) ≡ target
named_step head after owners at any target within made so =
    ap (λ (one : Head). head_named one (fold with_owner one.names (drop (at + 1) owners))) made
    ∙ (sym (ap (λ (all : List Owner). head_named head (fold with_owner head.names all)) (drop_more owners at any within)) ∙ so)

pub named_end : (head : Head) (owners : List Owner) (at : ℕ) (target : Head) → length owners ≤ at → head_named head (fold with_owner head.names (drop at owners)) ≡ target → head ≡ target
named_end head owners at target past so = sym (ap (λ (all : List Owner). head_named head (fold with_owner head.names all)) (drop_of_length-le owners past)) ∙ so
