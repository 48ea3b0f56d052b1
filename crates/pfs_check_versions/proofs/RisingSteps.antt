-- One change more whose version rises along its session.
use Rattle.std.proofs.Common.{◌≡◌, refl, ℕ, ◌+◌, ◌<◌, ◌≤◌, ◌==◌, Bool, true, false, cond, nat_lt, List, [], ◌∷◌, ◌++◌, length, get_or, take, sym, ◌∙◌, ap, subst, arith, Option, Some, None, inl, inr}
use Rattle.std.specs.Prelude.{slice_get}
use Rattle.std.specs.BTreeMap.{BTreeMap, get}
use Rattle.std.specs.Ordering.{nat_cmp}
use Rattle.std.proofs.lemmas.Bool.{eqb-false, eqb-true, ltb-false, ltb-true, true≢false}
use Rattle.std.proofs.lemmas.List.{take_more}
use Rattle.std.proofs.lemmas.Option.{get_or_from_slice_get, slice_get-get_or}
use Rattle.pfs_model.proofs.EachLists.{each_join}
use Rattle.pfs_model.proofs.Floors.{each_map}
use Rattle.pfs_model.proofs.Members.{among_back, among_front}
use Rattle.pfs_model.specs.Actions.{IsAmong}
use Rattle.pfs_model.specs.Chains.{Each}
use Rattle.pfs_check_versions.specs.declared.changes.PlacedChange.{PlacedChange}
use Rattle.pfs_check_versions.specs.RisingTests.{AreRisen, RisesAtPlace, RisesIn, above_test}
use Rattle.pfs_check_versions.proofs.LinkSteps.{below_next}

each_at : {A : Type 0} (fact : A → Type 0) (x : A) (xs : List A) → Each fact xs → IsAmong x xs → fact x
each_at fact x [] h i = absurd i
each_at fact x (y ∷ xs) h (inl e) = subst fact e h.0
each_at fact x (y ∷ xs) h (inr i) = each_at fact x xs h.1 i

-- a change of the session has this version
pub record HasLast (before : List PlacedChange) (session last : ℕ) : Type 0 where
  pub one : PlacedChange
  pub there : IsAmong one before
  pub own : one.session ≡ session
  pub version : one.change.version ≡ last

-- the last version of a session, and no change of it is above; or it has none
abbrev pub LastOf : List PlacedChange → ℕ → Option ℕ → Type 0
LastOf before session None = Each (λ (other : PlacedChange). other.session ≡ session → ⊥) before
LastOf before session (Some last) = Each (λ (other : PlacedChange). other.session ≡ session → other.change.version ≤ last) before
    × HasLast before session last

pub record AreLast (lasts : BTreeMap ℕ ℕ) (before : List PlacedChange) : Type 0 where
  pub each : (session : ℕ) → LastOf before session (get nat_cmp lasts session)

pub none_last : (lasts : BTreeMap ℕ ℕ) (cs : List PlacedChange) → ((session : ℕ) → get nat_cmp lasts session ≡ None) → AreLast lasts (take 0 cs)
none_last lasts cs h = record { each = λ session. subst (LastOf [] session) (sym (h session)) tt }

rises : (before : List PlacedChange) (one : PlacedChange) (o : Option ℕ) → LastOf before one.session o → above_test o one.change.version ≡ true → RisesIn before one
rises before one None l t =
    each_map (λ (other : PlacedChange). other.session ≡ one.session → ⊥)
    (λ (other : PlacedChange). other.session ≡ one.session → other.change.version < one.change.version) (λ other none e. absurd (none e)) before l
rises before one (Some last) l t =
    let more : last < one.change.version = ltb-true last one.change.version t in
    each_map (λ (other : PlacedChange). other.session ≡ one.session → other.change.version ≤ last)
    (λ (other : PlacedChange). other.session ≡ one.session → other.change.version < one.change.version)
    (λ other most e. omega (arith, most e, more)) before l.0

falls : (before : List PlacedChange) (one : PlacedChange) (o : Option ℕ) → LastOf before one.session o → above_test o one.change.version ≡ false
    → RisesIn before one → ⊥
falls before one None l t r = true≢false t
falls before one (Some last) l t r =
    let most : one.change.version ≤ last = ltb-false last one.change.version t in
    let less : l.1.one.change.version < one.change.version =
    each_at (λ (other : PlacedChange). other.session ≡ one.session → other.change.version < one.change.version) l.1.one before r l.1.there l.1.own in
    omega (arith, most, less, l.1.version)

last_more : (before : List PlacedChange) (one : PlacedChange) (session : ℕ) (o : Option ℕ) (b : Bool) → (one.session == session) ≡ b → RisesIn before one
    → LastOf before session o → LastOf (before ++ one ∷ []) session (cond b (Some one.change.version) o)
last_more before one session o true e r l =
    let same : one.session ≡ session = eqb-true one.session session e in (
      each_join (λ (other : PlacedChange). other.session ≡ session → other.change.version ≤ one.change.version) before (one ∷ [])
          (each_map (λ (other : PlacedChange). other.session ≡ one.session → other.change.version < one.change.version)
          (λ (other : PlacedChange). other.session ≡ session → other.change.version ≤ one.change.version)
          (λ other less s. let more : other.change.version < one.change.version = less (s ∙ sym same) in omega (arith, more)) before r)
          ((λ s. omega arith), tt),
      record { one = one; there = among_back one before (one ∷ []) (inl refl); own = same; version = refl },
    )
last_more before one session None false e r l =
    each_join (λ (other : PlacedChange). other.session ≡ session → ⊥) before (one ∷ []) l (eqb-false one.session session e, tt)
last_more before one session (Some last) false e r l = (
  each_join (λ (other : PlacedChange). other.session ≡ session → other.change.version ≤ last) before (one ∷ []) l.0
      ((λ s. absurd (eqb-false one.session session e s)), tt),
  record { one = l.1.one; there = among_front l.1.one before (one ∷ []) l.1.there; own = l.1.own; version = l.1.version },
)

pub last_kept : (old new : BTreeMap ℕ ℕ) (cs : List PlacedChange) (place : ℕ) (d : PlacedChange) → place < length cs
    → ((session : ℕ) → get nat_cmp new session ≡ cond ((get_or cs place d).session == session) (Some (get_or cs place d).change.version) (get nat_cmp old session))
    → RisesIn (take place cs) (get_or cs place d) → AreLast old (take place cs) → AreLast new (take (place + 1) cs)
last_kept old new cs place d h step r before = record {
  each = λ session.
      subst (λ z. LastOf z session (get nat_cmp new session)) (sym (take_more cs place d h))
      (subst (LastOf (take place cs ++ get_or cs place d ∷ []) session) (sym (step session))
      (last_more (take place cs) (get_or cs place d) session (get nat_cmp old session) ((get_or cs place d).session == session) refl r (before.each session)));
}

-- What a loop over the changes has.
pub record RisenSoFar (cs : List PlacedChange) (lasts : BTreeMap ℕ ℕ) (place : ℕ) : Type 0 where
  pub last : AreLast lasts (take place cs)
  pub risen : (other : ℕ) → other < place → RisesAtPlace cs other

pub risen_more : (cs : List PlacedChange) (old new : BTreeMap ℕ ℕ) (place : ℕ) (d : PlacedChange) (test : Bool) → place < length cs
    → test ≡ above_test (get nat_cmp old (get_or cs place d).session) (get_or cs place d).change.version → test ≡ true
    → ((session : ℕ) → get nat_cmp new session ≡ cond ((get_or cs place d).session == session) (Some (get_or cs place d).change.version) (get nat_cmp old session))
    → RisenSoFar cs old place → RisenSoFar cs new (place + 1)
risen_more cs old new place d test h t passed step before =
    let here : RisesIn (take place cs) (get_or cs place d) =
    rises (take place cs) (get_or cs place d) (get nat_cmp old (get_or cs place d).session) (before.last.each (get_or cs place d).session)
    (sym t ∙ passed) in
    record {
      last = last_kept old new cs place d h step here before.last;
      risen = below_next (RisesAtPlace cs) place before.risen (λ one g. subst (RisesIn (take place cs)) (get_or_from_slice_get cs place one d g) here);
    }

pub falls_here : (cs : List PlacedChange) (lasts : BTreeMap ℕ ℕ) (place : ℕ) (d : PlacedChange) (test : Bool) → place < length cs
    → test ≡ above_test (get nat_cmp lasts (get_or cs place d).session) (get_or cs place d).change.version → test ≡ false
    → RisenSoFar cs lasts place → AreRisen cs place
falls_here cs lasts place d test h t failed before = record {
  within = omega (arith, h);
  risen = before.risen;
  falls = λ m r. falls (take place cs) (get_or cs place d) (get nat_cmp lasts (get_or cs place d).session) (before.last.each (get_or cs place d).session)
      (sym t ∙ failed) (r (get_or cs place d) (slice_get-get_or cs place d h));
}

pub risen_all : (cs : List PlacedChange) (lasts : BTreeMap ℕ ℕ) (n place : ℕ) → n ≡ length cs → length cs ≤ place → place ≤ length cs
    → RisenSoFar cs lasts place → AreRisen cs n
risen_all cs lasts n place e h w before = record {
  within = omega (arith, e);
  risen = λ other l. before.risen other (omega (arith, l, e, h, w));
  falls = λ m r. absurd (omega (arith, m, e));
}
