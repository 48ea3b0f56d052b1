-- No release is above the last version of its row.
use Rattle.std.proofs.Common.{◌≡◌, refl, ℕ, ◌+◌, ◌≤◌, Bool, true, false, cond, nat_le, List, [], ◌∷◌, ◌++◌, sym, ◌∙◌, arith}
use Rattle.pfs_event.specs.declared.entry.Entry.{Entry}
use Rattle.pfs_event.specs.declared.entry.Entry.TheVariants as says
use Rattle.pfs_model.proofs.ChainGrowth.{times_append}
use Rattle.pfs_model.specs.Chains.{Each, each_of, is_of, release_of, row_change, times}
use Rattle.pfs_model.specs.Floors.{AreFlooredBehind, NamingsKeep, namings_of}
use Rattle.pfs_model.specs.EntryPlaces.{Placed, up_to_phase}
use Rattle.pfs_model.specs.declared.changes.Change.{Change}
use Rattle.pfs_law_summaries.proofs.HistoryPlaces.{last_version}

below : (a b c : ℕ) → nat_le a b ≡ true → nat_le b c ≡ true → nat_le a c ≡ true
below a b c q r = grind arith

-- a row has no fewer versions in a later phase
versions_rise : (row at phase : ℕ) (ps : List Placed) → nat_le at phase ≡ true → last_version (up_to_phase at ps) row ≤ last_version (up_to_phase phase ps) row
versions_rise row at phase [] l = omega arith
versions_rise row at phase (p ∷ ps) l = on (nat_le p.phase at) refl (nat_le p.phase phase) refl (versions_rise row at phase ps l) where
  a : times (is_of row) (row_change p.entry ++ each_of row_change (up_to_phase at ps)) ≡ times (is_of row) (row_change p.entry) + last_version (up_to_phase at ps) row
  a = times_append (is_of row) (row_change p.entry) (each_of row_change (up_to_phase at ps))

  b : times (is_of row) (row_change p.entry ++ each_of row_change (up_to_phase phase ps)) ≡ times (is_of row) (row_change p.entry) + last_version (up_to_phase phase ps) row
  b = times_append (is_of row) (row_change p.entry) (each_of row_change (up_to_phase phase ps))

  on : (x : Bool) → nat_le p.phase at ≡ x → (y : Bool) → nat_le p.phase phase ≡ y → last_version (up_to_phase at ps) row ≤ last_version (up_to_phase phase ps) row
      → last_version (cond x (p ∷ []) [] ++ up_to_phase at ps) row ≤ last_version (cond y (p ∷ []) [] ++ up_to_phase phase ps) row
  on true q true r ih = omega (arith, a, b, ih)
  on true q false r ih = absurd (let k : true ≡ false = sym (below p.phase at phase q l) ∙ r in cc)
  on false q true r ih = omega (arith, b, ih)
  on false q false r ih = ih

-- of the entries up to a phase
pub releases_had : (phase row : ℕ) (all earlier ps : List Placed) → AreFlooredBehind all earlier ps
    → Each (λ (release : Change). release.row ≡ row → release.version ≤ last_version (up_to_phase phase all) row) (each_of release_of (up_to_phase phase ps))
releases_had phase row all earlier [] f = tt
releases_had phase row all earlier (p ∷ ps) f = on (nat_le p.phase phase) refl (releases_had phase row all (p ∷ earlier) ps f.2) where
  Had : Change → Type 0
  Had release = release.row ≡ row → release.version ≤ last_version (up_to_phase phase all) row

  by : (e : Entry) → nat_le p.phase phase ≡ true → NamingsKeep all earlier p (namings_of e) → (rest : List Change) → Each Had rest → Each Had (release_of e ++ rest)
  by (says.Free at version) q n rest h = (within, h) where
    within : at ≡ row → version ≤ last_version (up_to_phase phase all) row
    within e =
        let l : version ≤ last_version (up_to_phase p.phase all) at = n.1 in
        let m : last_version (up_to_phase p.phase all) at ≤ last_version (up_to_phase phase all) at = versions_rise at p.phase phase all q in
        rw (sym e) (omega (arith, l, m))
  by _ q n rest h = h

  on : (b : Bool) → nat_le p.phase phase ≡ b → Each Had (each_of release_of (up_to_phase phase ps)) → Each Had (each_of release_of (cond b (p ∷ []) [] ++ up_to_phase phase ps))
  on true q h = by p.entry q f.0 (each_of release_of (up_to_phase phase ps)) h
  on false q h = h
