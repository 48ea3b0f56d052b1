-- A replay with one change more.
use Rattle.std.proofs.Common.{◌≡◌, refl, ℕ, zero, suc, ◌+◌, ◌-◌, ◌<◌, ◌≤◌, ◌==◌, Bool, true, false, ◌&&◌, cond, nat_lt, nat_le, List, [], ◌∷◌, ◌++◌, map, length, take, drop, get_or, sym, ◌∙◌, ap, subst, ◌⊎◌, inl, inr, arith, Option, Some, None}
use Rattle.std.specs.Prelude.{slice_get}
use Rattle.std.specs.Option.{option_to_list}
use Rattle.std.specs.BTreeMap.{BTreeMap, get}
use Rattle.std.specs.Ordering.{nat_cmp}
use Rattle.std.proofs.lemmas.Bool.{eqb-false, eqb-true}
use Rattle.std.proofs.lemmas.Bool.Decides.{nat_tests}
use Rattle.std.proofs.lemmas.List.{take-append-drop, take_all, take_more}
use Rattle.std.proofs.lemmas.Option.{slice_get-get_or}
use Rattle.pfs_model.specs.declared.changes.Change.{Change}
use Rattle.pfs_model.specs.Chains.{Each, change_at, is_that}
use Rattle.pfs_model.specs.Contents.{opening_words}
use Rattle.pfs_check_contents.specs.declared.changes.Effect.{Effect}
use Rattle.pfs_check_contents.specs.declared.changes.Effect.TheVariants as effects
use Rattle.pfs_check_contents.specs.declared.changes.RowChange.{RowChange}
use Rattle.pfs_check_contents.specs.declared.replays.Last.{Last}
use Rattle.pfs_check_contents.specs.declared.replays.Replayed.{Replayed}
use Rattle.pfs_check_contents.specs.declared.shelf.Shelf.{Shelf}
use Rattle.pfs_check_contents.specs.ChangeReplays.{AllFollow, AreKept, Follows, HasGiven, IsReplayTold, IsShelfFor, change_of, done_of, last_in, picked_onto, words_in}
use Rattle.pfs_check_contents.specs.KeptContents.{change_cmp, content_at, or_zeros}
use Rattle.pfs_check_contents.specs.RowEffects.{effect_on}
use Rattle.pfs_check_contents.specs.RunningReplays.{IsReplay, Tells, given_test, last_at, next_test, or_opening}
use Rattle.pfs_check_contents.proofs.PickedPlaces.{picked_more}
use Rattle.pfs_check_contents.proofs.ReplayedChanges.{same_effect}

pub none_replayed : (replay : Replayed) → ((row : ℕ) → get nat_cmp replay.last row ≡ None) → IsReplay [] replay
unfolding words_in
none_replayed replay none = record {
  follow = tt;
  versions = λ row. ap (λ o. (or_opening row o).version) (none row);
  words = λ row. ap (λ o. (or_opening row o).words) (none row);
  kept = λ row version h. opens row version (omega (arith, h));
} where
  opens : (row version : ℕ) → version ≡ 0 → content_at replay.shelf row version ≡ opening_words row
  opens row version e = ap (content_at replay.shelf row) e

-- the tests
next_is : (last version : ℕ) → next_test last version ≡ true → version ≡ last + 1
next_is last version e = grind (arith, nat_tests)

not_next : (last version : ℕ) → next_test last version ≡ false → version ≡ last + 1 → ⊥
not_next last version e q = grind (arith, nat_tests)

given_is : (done : List RowChange) (replay : Replayed) (effect : Effect) → IsReplay done replay → Tells (HasGiven done effect) (given_test replay.last effect)
given_is done replay (effects.Give from version) is = on (nat_le version (last_at replay.last from).version) refl where
  on : (b : Bool) → nat_le version (last_at replay.last from).version ≡ b → Tells (version ≤ last_in from done) b
  on true e = let v : (last_at replay.last from).version ≡ last_in from done = is.versions from in grind (arith, nat_tests)
  on false e = λ l. let v : (last_at replay.last from).version ≡ last_in from done = is.versions from in grind (arith, nat_tests)
given_is done replay (effects.Add amount) is = tt
given_is done replay effects.Take is = tt
given_is done replay (effects.Put words) is = tt

pub follows_told : (done : List RowChange) (replay : Replayed) (one : RowChange) → IsReplay done replay
    → Tells (Follows done one) (next_test (last_at replay.last one.row).version one.version && given_test replay.last one.effect)
follows_told done replay one is = on (next_test (last_at replay.last one.row).version one.version) (given_test replay.last one.effect) refl (given_is done replay one.effect is) where
  last : (last_at replay.last one.row).version ≡ last_in one.row done
  last = is.versions one.row

  on : (a b : Bool) → next_test (last_at replay.last one.row).version one.version ≡ a → Tells (HasGiven done one.effect) b → Tells (Follows done one) (a && b)
  on true true e t = record { next = next_is (last_at replay.last one.row).version one.version e ∙ ap (λ z. z + 1) last; source = t }
  on true false e t = λ f. t f.source
  on false b e t = λ f. not_next (last_at replay.last one.row).version one.version e (f.next ∙ ap (λ z. z + 1) (sym last))

-- at another row or version the contents stay
other_words : (done : List RowChange) (one : RowChange) (row version : ℕ) → is_that (change_at row version) (change_of one) ≡ false
    → words_in (one ∷ done) row version ≡ words_in done row version
unfolding words_in
other_words done one row version e =
    ap (λ b. cond b (effect_on one.effect (words_in done) (words_in done row (version - 1))) (words_in done row version)) e

self_that : (change : Change) → is_that change change ≡ true
self_that change = both (change.row == change.row) (change.version == change.version) (self change.row) (self change.version) where
  self : (n : ℕ) → (n == n) ≡ true
  self n = grind (arith, nat_tests)

  both : (a b : Bool) → a ≡ true → b ≡ true → (a && b) ≡ true
  both true true p q = refl
  both true false p q = absurd (cc)
  both false b p q = absurd (cc)

own_words : (done : List RowChange) (one : RowChange)
    → words_in (one ∷ done) one.row one.version ≡ effect_on one.effect (words_in done) (words_in done one.row (one.version - 1))
unfolding words_in
own_words done one =
    ap (λ b. cond b (effect_on one.effect (words_in done) (words_in done one.row (one.version - 1))) (words_in done one.row one.version)) (self_that (change_of one))

-- what the effect makes of what is kept is the content behind the change
new_words : (done : List RowChange) (replay : Replayed) (one : RowChange) (words : List ℕ) → IsReplay done replay → Follows done one
    → words ≡ effect_on one.effect (content_at replay.shelf) (last_at replay.last one.row).words
    → words ≡ words_in (one ∷ done) one.row one.version
new_words done replay one words is f e =
    e ∙ by one.effect f.source (is.words one.row ∙ ap (words_in done one.row) (below one.version (last_in one.row done) f.next))
    ∙ sym (own_words done one) where
      below : (v l : ℕ) → v ≡ l + 1 → l ≡ v - 1
      below v l e = omega (arith, e)

      by : (effect : Effect) → HasGiven done effect → (last_at replay.last one.row).words ≡ words_in done one.row (one.version - 1)
          → effect_on effect (content_at replay.shelf) (last_at replay.last one.row).words
          ≡ effect_on effect (words_in done) (words_in done one.row (one.version - 1))
      by (effects.Add amount) h here = ap (effect_on (effects.Add amount) (content_at replay.shelf)) here
      by effects.Take h here = refl
      by (effects.Give from version) h here =
          ap (effect_on (effects.Give from version) (content_at replay.shelf)) here
          ∙ ap (λ z. effect_on (effects.Give from version) (λ row at. z) (words_in done one.row (one.version - 1)))
          (is.kept from (version - 1) (omega (arith, h)))
      by (effects.Put words) h here = refl

pub one_more : (done : List RowChange) (old new : Replayed) (one : RowChange) (words : List ℕ) → IsReplay done old → Follows done one
    → words ≡ effect_on one.effect (content_at old.shelf) (last_at old.last one.row).words
    → ((other : Change) → get change_cmp new.shelf.kept other ≡ cond (is_that other (change_of one)) (Some words) (get change_cmp old.shelf.kept other))
    → ((other : ℕ) → get nat_cmp new.last other ≡ cond (one.row == other) (Some (record { version = one.version; words = words })) (get nat_cmp old.last other))
    → IsReplay (one ∷ done) new
one_more done old new one words is f e kept lasts = record {
  follow = (f, is.follow);
  versions = λ row. version_at row (one.row == row) refl;
  words = λ row. words_at row (one.row == row) refl;
  kept = λ row version l. content_is row version l (one.row == row) (one.version == version) refl refl;
} where
  made : words ≡ words_in (one ∷ done) one.row one.version
  made = new_words done old one words is f e

  version_at : (row : ℕ) (b : Bool) → (one.row == row) ≡ b → (last_at new.last row).version ≡ last_in row (one ∷ done)
  version_at row true q =
      ap (λ o. (or_opening row o).version) (lasts row ∙ ap (λ b. cond b (Some (record { version = one.version; words = words })) (get nat_cmp old.last row)) q)
      ∙ sym (ap (λ b. cond b one.version (last_in row done)) q)
  version_at row false q =
      ap (λ o. (or_opening row o).version) (lasts row ∙ ap (λ b. cond b (Some (record { version = one.version; words = words })) (get nat_cmp old.last row)) q)
      ∙ is.versions row ∙ sym (ap (λ b. cond b one.version (last_in row done)) q)

  apart : (row version : ℕ) → (one.row == row) ≡ false → is_that (change_at row version) (change_of one) ≡ false
  apart row version q = ap (λ b. b && (one.version == version)) q

  words_at : (row : ℕ) (b : Bool) → (one.row == row) ≡ b → (last_at new.last row).words ≡ words_in (one ∷ done) row (last_in row (one ∷ done))
  words_at row true q =
      ap (λ o. (or_opening row o).words) (lasts row ∙ ap (λ b. cond b (Some (record { version = one.version; words = words })) (get nat_cmp old.last row)) q)
      ∙ made ∙ ap (λ z. words_in (one ∷ done) z one.version) (eqb-true one.row row q)
      ∙ sym (ap (λ b. words_in (one ∷ done) row (cond b one.version (last_in row done))) q)
  words_at row false q =
      ap (λ o. (or_opening row o).words) (lasts row ∙ ap (λ b. cond b (Some (record { version = one.version; words = words })) (get nat_cmp old.last row)) q)
      ∙ is.words row ∙ sym (other_words done one row (last_in row done) (apart row (last_in row done) q))
      ∙ sym (ap (λ b. words_in (one ∷ done) row (cond b one.version (last_in row done))) q)

  new_at : (row version : ℕ) → is_that (change_at row version) (change_of one) ≡ true → (version == 0) ≡ false → content_at new.shelf row version ≡ words
  new_at row version t z =
      ap (λ b. cond b (opening_words row) (or_zeros (get change_cmp new.shelf.kept (change_at row version)))) z
      ∙ ap or_zeros (kept (change_at row version) ∙ ap (λ b. cond b (Some words) (get change_cmp old.shelf.kept (change_at row version))) t)

  old_at : (row version : ℕ) → is_that (change_at row version) (change_of one) ≡ false → version ≤ last_in row done
      → content_at new.shelf row version ≡ words_in (one ∷ done) row version
  old_at row version t l = by (version == 0) refl where
    same : (b : Bool) → (version == 0) ≡ b → content_at new.shelf row version ≡ content_at old.shelf row version
    same true z =
        ap (λ b. cond b (opening_words row) (or_zeros (get change_cmp new.shelf.kept (change_at row version)))) z
        ∙ sym (ap (λ b. cond b (opening_words row) (or_zeros (get change_cmp old.shelf.kept (change_at row version)))) z)
    same false z =
        ap (λ o. cond (version == 0) (opening_words row) (or_zeros o))
        (kept (change_at row version) ∙ ap (λ b. cond b (Some words) (get change_cmp old.shelf.kept (change_at row version))) t)

    by : (b : Bool) → (version == 0) ≡ b → content_at new.shelf row version ≡ words_in (one ∷ done) row version
    by b z = same b z ∙ is.kept row version l ∙ sym (other_words done one row version t)

  positive : (v : ℕ) → v ≡ last_in one.row done + 1 → (v == 0) ≡ false
  positive v q = grind (arith, nat_tests)

  content_is : (row version : ℕ) → version ≤ last_in row (one ∷ done) → (a b : Bool) → (one.row == row) ≡ a → (one.version == version) ≡ b
      → content_at new.shelf row version ≡ words_in (one ∷ done) row version
  content_is row version l true true p q =
      let r : one.row ≡ row = eqb-true one.row row p in
      let v : one.version ≡ version = eqb-true one.version version q in
      new_at row version (ap (λ z. z && (one.version == version)) p ∙ q) (positive version (sym v ∙ f.next))
      ∙ made ∙ ap (λ z. words_in (one ∷ done) z one.version) r ∙ ap (words_in (one ∷ done) row) v
  content_is row version l true false p q =
      let most : version ≤ one.version = subst (λ b. version ≤ cond b one.version (last_in row done)) p l in
      let own : last_in one.row done ≡ last_in row done = ap (λ z. last_in z done) (eqb-true one.row row p) in
      let next : one.version ≡ last_in one.row done + 1 = f.next in
      let differ : one.version ≡ version → ⊥ = eqb-false one.version version q in
      old_at row version (ap (λ z. z && (one.version == version)) p ∙ q) (omega (arith, most, own, next, differ))
  content_is row version l false b p q =
      old_at row version (apart row version p) (subst (λ b. version ≤ cond b one.version (last_in row done)) p l)

-- what follows so far
follow_rest : (changes : List RowChange) (places : List ℕ) (done : List RowChange) → AllFollow (picked_onto changes places done) → AllFollow done
follow_rest changes [] done f = f
follow_rest changes (place ∷ places) done f = on (slice_get changes place) (follow_rest changes places (option_to_list (slice_get changes place) ++ done) f) where
  on : (o : Option RowChange) → AllFollow (option_to_list o ++ done) → AllFollow done
  on None g = g
  on (Some one) g = g.1

picked_append : (changes : List RowChange) (places more : List ℕ) (done : List RowChange)
    → picked_onto changes (places ++ more) done ≡ picked_onto changes more (picked_onto changes places done)
picked_append changes [] more done = refl
picked_append changes (place ∷ places) more done = picked_append changes places more (option_to_list (slice_get changes place) ++ done)

pub replayed_more : (changes : List RowChange) (order : List ℕ) (k d : ℕ) (one : RowChange) → k < length order → slice_get changes (get_or order k d) ≡ Some one
    → done_of changes (take (k + 1) order) ≡ one ∷ done_of changes (take k order)
replayed_more changes order k d one l g =
    ap (done_of changes) (take_more order k d l) ∙ picked_more changes (take k order) (get_or order k d) []
    ∙ ap (λ o. option_to_list o ++ done_of changes (take k order)) g

pub place_within : (n : ℕ) (order : List ℕ) (k d : ℕ) → Each (λ place. place < n) order → k < length order → get_or order k d < n
place_within n [] k d e l = absurd (omega (arith, l))
place_within n (place ∷ order) zero d e l = e.0
place_within n (place ∷ order) (suc k) d e l = place_within n order k d e.1 (omega (arith, l))

-- where one doesn't follow, they don't all follow
pub replay_breaks : (changes : List RowChange) (order : List ℕ) (k d : ℕ) (one : RowChange) (replay : Replayed) (test : Bool) → k < length order
    → slice_get changes (get_or order k d) ≡ Some one → IsReplay (done_of changes (take k order)) replay
    → ((done : List RowChange) → IsReplay done replay → Tells (Follows done one) test) → test ≡ false
    → IsReplayTold changes order None
replay_breaks changes order k d one replay test l g is tells e = λ f.
    (subst (Tells (Follows (done_of changes (take k order)) one)) e (tells (done_of changes (take k order)) is))
    (subst AllFollow (replayed_more changes order k d one l g)
    (follow_rest changes (drop (k + 1) order) (done_of changes (take (k + 1) order))
    (subst AllFollow (ap (done_of changes) (sym (take-append-drop (k + 1) order)) ∙ picked_append changes (take (k + 1) order) (drop (k + 1) order) []) f))).0

pub replay_ends : (changes : List RowChange) (order : List ℕ) (k : ℕ) (replay : Replayed) → length order ≤ k
    → IsReplay (done_of changes (take k order)) replay → IsReplayTold changes order (Some replay.shelf)
replay_ends changes order k replay l is =
    let all : take k order ≡ order = take_all k order l in
    let whole : IsReplay (done_of changes order) replay = subst (λ z. IsReplay (done_of changes z) replay) all is in
    record { follow = whole.follow; kept = whole.kept }

-- one more is replayed
pub replay_more : (changes : List RowChange) (order : List ℕ) (k d : ℕ) (one : RowChange) (old new : Replayed) (test : Bool) → k < length order
    → slice_get changes (get_or order k d) ≡ Some one → IsReplay (done_of changes (take k order)) old
    → ((done : List RowChange) → IsReplay done old → Tells (Follows done one) test) → test ≡ true
    → ((done : List RowChange) → IsReplay done old → Follows done one → IsReplay (one ∷ done) new)
    → IsReplay (done_of changes (take (k + 1) order)) new
replay_more changes order k d one old new test l g is tells e more =
    subst (λ z. IsReplay z new) (sym (replayed_more changes order k d one l g))
    (more (done_of changes (take k order)) is (subst (Tells (Follows (done_of changes (take k order)) one)) e (tells (done_of changes (take k order)) is)))
