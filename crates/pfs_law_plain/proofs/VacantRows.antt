-- What is found vacant stood free: it was released at its last version, which no floor is above, or it opened so and has
-- no change.
use Rattle.std.proofs.Common.{ℕ, ◌≡◌, ◌≤◌, ◌==◌, Bool, true, false, cond, nat_le, List, [], ◌∷◌, ◌++◌, refl, ap, ◌∙◌, ◌⊎◌, inl, inr, arith}
use Rattle.std.proofs.lemmas.Bool.{eqb-true, false≢true}
use Rattle.pfs_event.specs.declared.entry.Entry.{Entry}
use Rattle.pfs_event.specs.declared.entry.Entry.TheVariants as says
use Rattle.pfs_model.proofs.Floors.{Agreed, up_to_all}
use Rattle.pfs_model.proofs.ChainGrowth.{onto}
use Rattle.pfs_model.proofs.PlainAgreement.{IsAt, floor_most}
use Rattle.pfs_model.specs.Causes.{SomeReleased, WasFree}
use Rattle.pfs_model.specs.Chains.{Each, change_at, each_of, opens_free, release_of, row_change}
use Rattle.pfs_model.specs.Floors.{floor_of}
use Rattle.pfs_model.specs.EntryPlaces.{Placed, chosen}
use Rattle.pfs_model.specs.PlainAgreement.{Agrees, is_free, last_of, stands_free}
use Rattle.pfs_model.specs.declared.changes.Change.{Change}

-- releases along lists, and above a lower floor
released_front : (row floor : ℕ) (xs ys : List Change) → SomeReleased row floor xs → SomeReleased row floor (xs ++ ys)
released_front row floor [] ys some = absurd some
released_front row floor (x ∷ xs) ys (inl here) = inl here
released_front row floor (x ∷ xs) ys (inr some) = inr (released_front row floor xs ys some)

released_back : (row floor : ℕ) (xs ys : List Change) → SomeReleased row floor ys → SomeReleased row floor (xs ++ ys)
released_back row floor [] ys some = some
released_back row floor (x ∷ xs) ys some = inr (released_back row floor xs ys some)

released_split : (row floor : ℕ) (xs ys : List Change) → SomeReleased row floor (xs ++ ys) → SomeReleased row floor xs ⊎ SomeReleased row floor ys
released_split row floor [] ys some = inr some
released_split row floor (x ∷ xs) ys (inl here) = inl (inl here)
released_split row floor (x ∷ xs) ys (inr some) = first (released_split row floor xs ys some) where
  first : SomeReleased row floor xs ⊎ SomeReleased row floor ys → SomeReleased row floor (x ∷ xs) ⊎ SomeReleased row floor ys
  first (inl own) = inl (inr own)
  first (inr past) = inr past

released_lower : (row low floor : ℕ) (xs : List Change) → low ≤ floor → SomeReleased row floor xs → SomeReleased row low xs
released_lower row low floor [] le some = absurd some
released_lower row low floor (x ∷ xs) le (inl here) = inl (here.0, omega (arith, le, here.1))
released_lower row low floor (x ∷ xs) le (inr some) = inr (released_lower row low floor xs le some)

-- those of the lines before are among all that are chosen, where these are
chosen_one : (row floor : ℕ) (b : Bool) (p : Placed) (others : List Placed) → b ≡ true → SomeReleased row floor (release_of p.entry) → SomeReleased row floor (each_of release_of (cond b (p ∷ []) [] ++ others))
chosen_one row floor true p others e some = released_front row floor (release_of p.entry) (each_of release_of others) some
chosen_one row floor false p others e some = absurd (false≢true e)

chosen_past : (row floor : ℕ) (b : Bool) (p : Placed) (others : List Placed) → SomeReleased row floor (each_of release_of others) → SomeReleased row floor (each_of release_of (cond b (p ∷ []) [] ++ others))
chosen_past row floor true p others some = released_back row floor (release_of p.entry) (each_of release_of others) some
chosen_past row floor false p others some = some

released_onto : (row floor : ℕ) (choose : Placed → Bool) (earlier rest : List Placed) → Each (λ p. choose p ≡ true) earlier
    → SomeReleased row floor (each_of release_of earlier) ⊎ SomeReleased row floor (each_of release_of (chosen choose rest)) → SomeReleased row floor (each_of release_of (chosen choose (onto earlier rest)))
released_onto row floor choose [] rest all (inl some) = absurd some
released_onto row floor choose [] rest all (inr some) = some
released_onto row floor choose (p ∷ earlier) rest all (inr some) = released_onto row floor choose earlier (p ∷ rest) all.1 (inr (chosen_past row floor (choose p) p (chosen choose rest) some))
released_onto row floor choose (p ∷ earlier) rest all (inl some) =
    released_onto row floor choose earlier (p ∷ rest) all.1 (by (released_split row floor (release_of p.entry) (each_of release_of earlier) some)) where
      by : SomeReleased row floor (release_of p.entry) ⊎ SomeReleased row floor (each_of release_of earlier)
          → SomeReleased row floor (each_of release_of earlier) ⊎ SomeReleased row floor (each_of release_of (chosen choose (p ∷ rest)))
      by (inl own) = inr (chosen_one row floor (choose p) p (chosen choose rest) all.0 own)
      by (inr past) = inl past

-- it opened free and has no change, or it was released at its last version
abbrev StoodFree : ℕ → ℕ → List Change → Type 0
StoodFree row last releases = ((opens_free row ≡ true) × (last ≡ 0)) ⊎ SomeReleased row last releases

by_change : (row version last : ℕ) (releases : List Change) (b free : Bool) → cond b false free ≡ true → (free ≡ true → StoodFree row last releases) → StoodFree row (cond b version last) releases
by_change row version last releases true free e rest = absurd (false≢true e)
by_change row version last releases false free e rest = rest e

by_release : (row at version last : ℕ) (releases : List Change) (b free : Bool) → (at == row) ≡ b → (at ≡ row → version ≡ last) → cond b true free ≡ true → (free ≡ true → StoodFree row last releases)
    → StoodFree row last (change_at at version ∷ releases)
by_release row at version last releases true free here is e rest =
    let same : at ≡ row = eqb-true at row here in
    let le : last ≤ version = omega (arith, is same) in
    inr (inl (same, le))
by_release row at version last releases false free here is e rest = more (rest e) where
  more : StoodFree row last releases → StoodFree row last (change_at at version ∷ releases)
  more (inl opened) = inl opened
  more (inr some) = inr (inr some)

stood_free : (row : ℕ) (earlier : List Placed) → Agreed earlier → is_free earlier row ≡ true → StoodFree row (last_of row (each_of row_change earlier)) (each_of release_of earlier)
stood_free row [] agreed free = inl (free, refl)
stood_free row (p ∷ earlier) agreed free = by p.entry agreed.0.others free (stood_free row earlier agreed.1) where
  last : ℕ
  last = last_of row (each_of row_change earlier)

  releases : List Change
  releases = each_of release_of earlier

  by : (e : Entry) → Agrees earlier e → stands_free e row (is_free earlier row) ≡ true → (is_free earlier row ≡ true → StoodFree row last releases)
      → StoodFree row (last_of row (row_change e ++ each_of row_change earlier)) (release_of e ++ releases)
  by (says.Free at version) is f rest = by_release row at version last releases (at == row) (is_free earlier row) refl (λ same. is ∙ ap (λ z. last_of z (each_of row_change earlier)) same) f rest
  by (says.Add at version) is f rest = by_change row version last releases (at == row) (is_free earlier row) f rest
  by (says.Ring at version) is f rest = by_change row version last releases (at == row) (is_free earlier row) f rest
  by (says.Long at version ticket) is f rest = by_change row version last releases (at == row) (is_free earlier row) f rest
  by (says.Take at version) is f rest = by_change row version last releases (at == row) (is_free earlier row) f rest
  by (says.Give at version from) is f rest = by_change row version last releases (at == row) (is_free earlier row) f rest
  by (says.Tag at version) is f rest = by_change row version last releases (at == row) (is_free earlier row) f rest
  by _ is f rest = rest f

-- so what is free among the lines before shows its cause
pub was_free : (row : ℕ) (earlier : List Placed) (p : Placed) (ps : List Placed) → IsAt earlier p ps → is_free earlier row ≡ true → WasFree (onto earlier (p ∷ ps)) earlier p row
was_free row earlier p ps i free =
    by (stood_free row earlier i.agreed free) (floor_most row earlier p ps i) where
      all : List Placed
      all = onto earlier (p ∷ ps)

      by : StoodFree row (last_of row (each_of row_change earlier)) (each_of release_of earlier) → floor_of all earlier p row ≤ last_of row (each_of row_change earlier) → WasFree all earlier p row
      by (inl opened) low = inl (opened.0, omega (arith, low, opened.1))
      by (inr some) low = inr (released_onto row (floor_of all earlier p row) (λ place. nat_le place.phase p.phase) earlier (p ∷ ps) (up_to_all p.phase (p ∷ earlier) i.up_to).1
          (inl (released_lower row (floor_of all earlier p row) (last_of row (each_of row_change earlier)) (each_of release_of earlier) low some)))
