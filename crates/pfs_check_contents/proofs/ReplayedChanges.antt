-- Changes that were replayed, and the entries that they are of.
use Rattle.std.proofs.Common.{◌≡◌, refl, ℕ, ◌+◌, ◌-◌, ◌<◌, ◌≤◌, ◌==◌, Bool, true, false, ◌&&◌, cond, List, [], ◌∷◌, ◌++◌, map, sym, ◌∙◌, ap, subst, ◌⊎◌, inl, inr, arith, Some}
use Rattle.std.specs.List.{AllZip}
use Rattle.std.proofs.lemmas.Bool.{eqb-true}
use Rattle.std.proofs.lemmas.Bool.Decides.{nat_tests}
use Rattle.pfs_event.specs.declared.entry.Entry.{Entry}
use Rattle.pfs_event.specs.declared.entry.Entry.TheVariants as says
use Rattle.pfs_stat.specs.Stat.{merge_of, stat_of_words, words_of}
use Rattle.pfs_model.specs.declared.changes.Change.{Change}
use Rattle.pfs_model.specs.Actions.{IsAmong}
use Rattle.pfs_model.specs.Chains.{change_at, each_of, is_that, row_change}
use Rattle.pfs_model.specs.Contents.{Given, content_after}
use Rattle.pfs_model.specs.EntryPlaces.{Placed}
use Rattle.pfs_model.specs.PlainAgreement.{AreNext, last_of}
use Rattle.pfs_law_replay.specs.ContentReplays.{HasSource, IsReplayed, content_in, written_over}
use Rattle.pfs_check_contents.specs.declared.changes.Effect.{Effect}
use Rattle.pfs_check_contents.specs.declared.changes.Effect.TheVariants as effects
use Rattle.pfs_check_contents.specs.declared.changes.RowChange.{RowChange}
use Rattle.pfs_check_contents.specs.ChangeReplays.{AllFollow, Follows, HasGiven, change_of, last_in, words_in}
use Rattle.pfs_check_contents.specs.PlacedChanges.{IsChangeOf, IsSourceOf}
use Rattle.pfs_check_contents.specs.RowEffects.{effect_on}

-- an effect goes by contents that are the same
pub same_effect : (effect : Effect) (one other : ℕ → ℕ → List ℕ) (here there : List ℕ)
    → ((row version : ℕ) → one row version ≡ other row version) → here ≡ there → effect_on effect one here ≡ effect_on effect other there
same_effect (effects.Add amount) one other here there same e = ap (λ z. effect_on (effects.Add amount) one z) e
same_effect effects.Take one other here there same e = refl
same_effect (effects.Give from version) one other here there same e =
    ap (λ z. words_of (merge_of (stat_of_words here) (stat_of_words z))) (same from (version - 1))
    ∙ ap (λ z. words_of (merge_of (stat_of_words z) (stat_of_words (other from (version - 1))))) e
same_effect (effects.Put words) one other here there same e = refl

-- the contents of a replay are those of its changes
pub same_words : (given : Given) (places : List Placed) (done : List RowChange) → AllZip (IsChangeOf given) places done
    → (row version : ℕ) → content_in given places row version ≡ words_in done row version
unfolding content_in words_in
same_words given [] [] z row version = refl
same_words given [] (one ∷ done) z row version = absurd z
same_words given (place ∷ places) [] z row version = absurd z
same_words given (place ∷ places) (one ∷ done) z row version =
    ap (λ changes. written_over changes row version
    (content_after given (content_in given places) place place.context (content_in given places row (version - 1)) place.entry)
    (content_in given places row version)) z.0.change
    ∙ ap (λ new. cond (is_that (change_at row version) (change_of one)) new (content_in given places row version))
    (z.0.effect (content_in given places) (content_in given places row (version - 1))
    ∙ same_effect one.effect (content_in given places) (words_in done) (content_in given places row (version - 1)) (words_in done row (version - 1))
    (same_words given places done z.1) (same_words given places done z.1 row (version - 1)))
    ∙ ap (λ old. cond (is_that (change_at row version) (change_of one))
    (effect_on one.effect (words_in done) (words_in done row (version - 1))) old) (same_words given places done z.1 row version)

pub same_changes : (given : Given) (places : List Placed) (done : List RowChange) → AllZip (IsChangeOf given) places done
    → each_of row_change places ≡ map change_of done
same_changes given [] [] z = refl
same_changes given [] (one ∷ done) z = absurd z
same_changes given (place ∷ places) [] z = absurd z
same_changes given (place ∷ places) (one ∷ done) z =
    ap (λ changes. changes ++ each_of row_change places) z.0.change ∙ ap (λ changes. change_of one ∷ changes) (same_changes given places done z.1)

-- a give's source was taken before
same_source : (given : Given) (place : Placed) (one : RowChange) (places : List Placed) (done : List RowChange) (entry : Entry)
    → each_of row_change places ≡ map change_of done → IsSourceOf place.context entry one.effect → HasGiven done one.effect
    → HasSource places place.context entry
same_source given place one places done (says.Give row version from) e source has = (source.0, low (subst (HasGiven done) source.1 has)) where
  low : place.context.source_version ≤ last_in from done → place.context.source_version ≤ last_of from (each_of row_change places)
  low l = subst (λ changes. place.context.source_version ≤ last_of from changes) (sym e) l
same_source given place one places done _ e source has = tt

-- what follows is replayed
pub same_replay : (given : Given) (places : List Placed) (done : List RowChange) → AllZip (IsChangeOf given) places done
    → AllFollow done → IsReplayed places
same_replay given [] [] z f = tt
same_replay given [] (one ∷ done) z f = absurd z
same_replay given (place ∷ places) [] z f = absurd z
same_replay given (place ∷ places) (one ∷ done) z f = (
  subst (AreNext (each_of row_change places)) (sym z.0.change)
      (subst (λ changes. AreNext changes (change_of one ∷ [])) (sym (same_changes given places done z.1)) (f.0.next, tt)),
  same_source given place one places done place.entry (same_changes given places done z.1) z.0.source f.0.source,
  same_replay given places done z.1 f.1,
)

-- the last version of a row is the greatest
pub last_most : (done : List RowChange) (one : RowChange) → AllFollow done → IsAmong one done → one.version ≤ last_in one.row done
last_most [] one f i = absurd i
last_most (c ∷ done) one f (inl e) = subst (λ (z : RowChange). z.version ≤ last_in z.row (c ∷ done)) e (rw (self c.row) (omega arith)) where
  self : (n : ℕ) → (n == n) ≡ true
  self n = grind (arith, nat_tests)
last_most (c ∷ done) one f (inr i) = on (c.row == one.row) refl (last_most done one f.1 i) where
  on : (b : Bool) → (c.row == one.row) ≡ b → one.version ≤ last_in one.row done → one.version ≤ cond b c.version (last_in one.row done)
  on false q l = l
  on true q l =
      let next : c.version ≡ last_in c.row done + 1 = f.0.next in
      let own : last_in c.row done ≡ last_in one.row done = ap (λ z. last_in z done) (eqb-true c.row one.row q) in
      omega (arith, l, next, own)

-- and it is that of a change, where it isn't 0
pub record IsLast (done : List RowChange) (row : ℕ) : Type 0 where
  pub one : RowChange
  pub there : IsAmong one done
  pub row_is : one.row ≡ row
  pub version_is : one.version ≡ last_in row done

pub last_there : (done : List RowChange) (row : ℕ) → (last_in row done ≡ 0) ⊎ IsLast done row
last_there [] row = inl refl
last_there (c ∷ done) row = on (c.row == row) refl (last_there done row) where
  on : (b : Bool) → (c.row == row) ≡ b → (last_in row done ≡ 0) ⊎ IsLast done row
      → (cond b c.version (last_in row done) ≡ 0) ⊎ IsLast (c ∷ done) row
  on true q h = inr (record {
    one = c;
    there = inl refl;
    row_is = eqb-true c.row row q;
    version_is = sym (ap (λ b. cond b c.version (last_in row done)) q);
  })
  on false q (inl e) = inl e
  on false q (inr h) = inr (record {
    one = h.one;
    there = inr h.there;
    row_is = h.row_is;
    version_is = h.version_is ∙ sym (ap (λ b. cond b c.version (last_in row done)) q);
  })
