-- From a version of an info row to the action that made it, and back.
use Rattle.std.proofs.Common.{◌≡◌, refl, ℕ, ◌+◌, ◌<◌, ◌≤◌, ◌==◌, ◌&&◌, Bool, true, false, cond, List, [], ◌∷◌, ◌++◌, sym, ap, subst, ◌∙◌, ◌⊎◌, inl, inr, arith}
use Rattle.std.proofs.lemmas.Bool.{and_parts, eqb-true}
use Rattle.pfs_lemmas.proofs.Numbers.{eq_self}
use Rattle.pfs_event.specs.declared.entry.Entry.{Entry}
use Rattle.pfs_event.specs.declared.entry.Entry.TheVariants as says
use Rattle.pfs_model.proofs.ChainGrowth.{times_append}
use Rattle.pfs_model.specs.Actions.{Deed, deed_at, deeds_of, IsAmong}
use Rattle.pfs_model.specs.ActionAsks.{Freed, Tagged, did, of_action}
use Rattle.pfs_model.specs.Chains.{Each, times, change_at, row_change, release_of, each_of, is_that}
use Rattle.pfs_model.specs.EntryPlaces.{Placed}
use Rattle.pfs_law_conservation.proofs.InfoActions.{IsAbove, deed_of}
use Rattle.pfs_model.proofs.Members.{among_back, among_either}

-- a tag writes the words of its action
abbrev pub SaysWords : (ℕ → ℕ → List ℕ) → (ℕ → ℕ → List ℕ) → ℕ → Entry → Type 0
SaysWords content words action (says.Tag row version) = content row version ≡ words action row
SaysWords content words action _ = Unit {0}

-- a release names a version that its row has had
abbrev pub SaysHad : (ℕ → ℕ) → Entry → Type 0
SaysHad last (says.Free row version) = version ≤ last row
SaysHad last _ = Unit {0}

that_self : (row version : ℕ) → ((row == row) && (version == version)) ≡ true
that_self row version = ap (λ b. b && (version == version)) (eq_self row) ∙ eq_self version

one_more : (b : Bool) (n : ℕ) → b ≡ true → 1 ≤ cond {A = ℕ} b 1 0 + n
one_more b n q = subst (λ z. 1 ≤ cond {A = ℕ} z 1 0 + n) (sym q) (omega arith)

same_deed : (a b r s v w : ℕ) (x : Bool) → a ≡ b → r ≡ s → v ≡ w → deed_of a r v x ≡ deed_of b s w x
same_deed a b r s v w x e f g = ap (λ n. deed_of n r v x) e ∙ (ap (λ n. deed_of b n v x) f ∙ ap (λ n. deed_of b s n x) g)

-- the deed that made a version, and what it wrote
pub record IsMadeBy (content words : ℕ → ℕ → List ℕ) (row version action : ℕ) (ps : List Placed) : Type 0 where
  pub among : IsAmong (deed_of action row version false) (deeds_of ps)
  pub wrote : content row version ≡ words action row

module _ (content words : ℕ → ℕ → List ℕ) (row : ℕ) (low : row < 129) where
  pub made_more : (p : Placed) (ps : List Placed) (version action : ℕ) → IsMadeBy content words row version action ps → IsMadeBy content words row version action (p ∷ ps)
  made_more p ps version action m = record { among = among_back (deed_of action row version false) (deed_at p.context.action p.entry) (deeds_of ps) m.among; wrote = m.wrote }

  -- each version has one
  pub maker : (version : ℕ) (ps : List Placed) → Each (λ (p : Placed). IsAbove p.entry) ps → Each (λ (p : Placed). SaysWords content words p.context.action p.entry) ps
      → 1 ≤ times (is_that (change_at row version)) (each_of row_change ps) → (action : ℕ) × IsMadeBy content words row version action ps
  maker version [] h w l = absurd (omega (arith, l))
  maker version (p ∷ ps) h w l = by p.entry refl h.0 w.0 l (λ k. maker version ps h.1 w.1 k) where
    Found : Type 0
    Found = (action : ℕ) × IsMadeBy content words row version action (p ∷ ps)

    Go : Type 0
    Go = 1 ≤ times (is_that (change_at row version)) (each_of row_change ps) → (action : ℕ) × IsMadeBy content words row version action ps

    more : (action : ℕ) × IsMadeBy content words row version action ps → Found
    more (action, m) = (action, made_more p ps version action m)

    other : (at v : ℕ) → 129 ≤ at → 1 ≤ cond {A = ℕ} ((at == row) && (v == version)) 1 0 + times (is_that (change_at row version)) (each_of row_change ps) → Go → Found
    other at v h l go = on (at == row) refl l where
      on : (b : Bool) → (at == row) ≡ b → 1 ≤ cond {A = ℕ} (b && (v == version)) 1 0 + times (is_that (change_at row version)) (each_of row_change ps) → Found
      on true q l = (let e : at ≡ row = eqb-true at row q in absurd (omega (arith, e, h, low)))
      on false q l = more (go (omega (arith, l)))

    tagged : (at v : ℕ) → p.entry ≡ says.Tag at v → content at v ≡ words p.context.action at
        → 1 ≤ cond {A = ℕ} ((at == row) && (v == version)) 1 0 + times (is_that (change_at row version)) (each_of row_change ps) → Go → Found
    tagged at v is w l go = on ((at == row) && (v == version)) refl l where
      on : (b : Bool) → ((at == row) && (v == version)) ≡ b → 1 ≤ cond {A = ℕ} b 1 0 + times (is_that (change_at row version)) (each_of row_change ps) → Found
      on true q l =
          let e : at ≡ row = eqb-true at row (and_parts (at == row) (v == version) q).0 in
          let f : v ≡ version = eqb-true v version (and_parts (at == row) (v == version) q).1 in (
            p.context.action,
            record {
              among = subst (λ z. IsAmong (deed_of p.context.action row version false) (deed_at p.context.action z ++ deeds_of ps)) (sym is) (inl (same_deed p.context.action p.context.action at row v version false refl e f));
              wrote = ap (λ z. content z version) (sym e) ∙ (ap (content at) (sym f) ∙ (w ∙ ap (words p.context.action) e));
            },
          )
      on false q l = more (go (omega (arith, l)))

    by : (e : Entry) → p.entry ≡ e → IsAbove e → SaysWords content words p.context.action e → 1 ≤ times (is_that (change_at row version)) (row_change e ++ each_of row_change ps) → Go → Found
    by (says.Add at v) is h w l go = other at v h l go
    by (says.Ring at v) is h w l go = other at v h l go
    by (says.Long at v ticket) is h w l go = other at v h l go
    by (says.Take at v) is h w l go = other at v h l go
    by (says.Give at v from) is h w l go = other at v h l go
    by (says.Tag at v) is h w l go = tagged at v is w l go
    by _ is h w l go = more (go l)

  -- and each tag of an action made one
  pub tagger : (action : ℕ) (ps : List Placed) → Each (λ (p : Placed). SaysWords content words p.context.action p.entry) ps → IsAmong (Tagged row) (each_of did (of_action action ps))
      → (version : ℕ) × IsMadeBy content words row version action ps
  tagger action [] w m = absurd m
  tagger action (p ∷ ps) w m = on (p.context.action == action) refl m (λ k. tagger action ps w.1 k) where
    Found : Type 0
    Found = (version : ℕ) × IsMadeBy content words row version action (p ∷ ps)

    Go : Type 0
    Go = IsAmong (Tagged row) (each_of did (of_action action ps)) → (version : ℕ) × IsMadeBy content words row version action ps

    more : (version : ℕ) × IsMadeBy content words row version action ps → Found
    more (version, m) = (version, made_more p ps version action m)

    same_row : (a b : ℕ) → Tagged a ≡ Tagged b → a ≡ b
    same_row a b e = cc

    here : (e : Entry) → p.entry ≡ e → p.context.action ≡ action → SaysWords content words p.context.action e → IsAmong (Tagged row) (did e) → Found
    here (says.Tag at v) is a w (inl e) =
        let f : at ≡ row = same_row at row e in (
          v,
          record {
            among = subst (λ z. IsAmong (deed_of action row v false) (deed_at p.context.action z ++ deeds_of ps)) (sym is) (inl (same_deed p.context.action action at row v v false a f refl));
            wrote = ap (λ z. content z v) (sym f) ∙ (w ∙ (ap (λ z. words z at) a ∙ ap (words action) f));
          },
        )
    here (says.Tag at v) is a w (inr m) = absurd m
    here (says.Take at v) is a w (inl e) = absurd (cc)
    here (says.Take at v) is a w (inr m) = absurd m
    here (says.Give at v from) is a w (inl e) = absurd (cc)
    here (says.Give at v from) is a w (inr m) = absurd m
    here (says.Free at v) is a w (inl e) = absurd (cc)
    here (says.Free at v) is a w (inr m) = absurd m
    here (says.Set word v flags) is a w (inl e) = absurd (cc)
    here (says.Set word v flags) is a w (inr m) = absurd m
    here _ is a w m = absurd m

    on : (b : Bool) → (p.context.action == action) ≡ b → IsAmong (Tagged row) (each_of did (cond b (p ∷ []) [] ++ of_action action ps)) → Go → Found
    on true q m go = split (among_either (Tagged row) (did p.entry) (each_of did (of_action action ps)) m) where
      split : IsAmong (Tagged row) (did p.entry) ⊎ IsAmong (Tagged row) (each_of did (of_action action ps)) → Found
      split (inl m) = here p.entry refl (eqb-true p.context.action action q) w.0 m
      split (inr m) = more (go m)
    on false q m go = more (go m)

-- a release, as a deed, and at a version that the row has had
pub record IsFreedBy (last : ℕ → ℕ) (row version action : ℕ) (ps : List Placed) : Type 0 where
  pub among : IsAmong (deed_of action row version true) (deeds_of ps)
  pub stands : 1 ≤ times (is_that (change_at row version)) (each_of release_of ps)
  pub had : version ≤ last row

module _ (last : ℕ → ℕ) (row : ℕ) where
  freed_more : (p : Placed) (ps : List Placed) (version action : ℕ) → IsFreedBy last row version action ps → IsFreedBy last row version action (p ∷ ps)
  freed_more p ps version action m = record {
    among = among_back (deed_of action row version true) (deed_at p.context.action p.entry) (deeds_of ps) m.among;
    stands = (let l : 1 ≤ times (is_that (change_at row version)) (each_of release_of ps) = m.stands in
        omega (arith, l, times_append (is_that (change_at row version)) (release_of p.entry) (each_of release_of ps)));
    had = m.had;
  }

  freed_here : (p : Placed) (ps : List Placed) (at v version action : ℕ) → p.entry ≡ says.Free at v → p.context.action ≡ action → at ≡ row → v ≡ version → v ≤ last at → IsFreedBy last row version action (p ∷ ps)
  freed_here p ps at v version action is a f g h = record {
    among = subst (λ z. IsAmong (deed_of action row version true) (deed_at p.context.action z ++ deeds_of ps)) (sym is) (inl (same_deed p.context.action action at row v version true a f g));
    stands = subst (λ z. 1 ≤ times (is_that (change_at row version)) (release_of z ++ each_of release_of ps)) (sym is)
        (one_more ((at == row) && (v == version)) _ (subst (λ z. ((z == row) && (v == version)) ≡ true) (sym f) (subst (λ z. ((row == row) && (z == version)) ≡ true) (sym g) (that_self row version))));
    had = subst (λ z. z ≤ last row) g (subst (λ z. v ≤ last z) f h);
  }

  pub freer : (version : ℕ) (ps : List Placed) → Each (λ (p : Placed). SaysHad last p.entry) ps → 1 ≤ times (is_that (change_at row version)) (each_of release_of ps)
      → (action : ℕ) × IsFreedBy last row version action ps
  freer version [] h l = absurd (omega (arith, l))
  freer version (p ∷ ps) h l = by p.entry refl h.0 l (λ k. freer version ps h.1 k) where
    Found : Type 0
    Found = (action : ℕ) × IsFreedBy last row version action (p ∷ ps)

    Go : Type 0
    Go = 1 ≤ times (is_that (change_at row version)) (each_of release_of ps) → (action : ℕ) × IsFreedBy last row version action ps

    more : (action : ℕ) × IsFreedBy last row version action ps → Found
    more (action, m) = (action, freed_more p ps version action m)

    freed : (at v : ℕ) → p.entry ≡ says.Free at v → v ≤ last at → 1 ≤ cond {A = ℕ} ((at == row) && (v == version)) 1 0 + times (is_that (change_at row version)) (each_of release_of ps) → Go → Found
    freed at v is h l go = on ((at == row) && (v == version)) refl l where
      on : (b : Bool) → ((at == row) && (v == version)) ≡ b → 1 ≤ cond {A = ℕ} b 1 0 + times (is_that (change_at row version)) (each_of release_of ps) → Found
      on true q l = (p.context.action, freed_here p ps at v version p.context.action is refl (eqb-true at row (and_parts (at == row) (v == version) q).0) (eqb-true v version (and_parts (at == row) (v == version) q).1) h)
      on false q l = more (go (omega (arith, l)))

    by : (e : Entry) → p.entry ≡ e → SaysHad last e → 1 ≤ times (is_that (change_at row version)) (release_of e ++ each_of release_of ps) → Go → Found
    by (says.Free at v) is h l go = freed at v is h l go
    by _ is h l go = more (go l)

  pub releaser : (action : ℕ) (ps : List Placed) → Each (λ (p : Placed). SaysHad last p.entry) ps → IsAmong (Freed row) (each_of did (of_action action ps))
      → (version : ℕ) × IsFreedBy last row version action ps
  releaser action [] h m = absurd m
  releaser action (p ∷ ps) h m = on (p.context.action == action) refl m (λ k. releaser action ps h.1 k) where
    Found : Type 0
    Found = (version : ℕ) × IsFreedBy last row version action (p ∷ ps)

    Go : Type 0
    Go = IsAmong (Freed row) (each_of did (of_action action ps)) → (version : ℕ) × IsFreedBy last row version action ps

    more : (version : ℕ) × IsFreedBy last row version action ps → Found
    more (version, m) = (version, freed_more p ps version action m)

    same_row : (a b : ℕ) → Freed a ≡ Freed b → a ≡ b
    same_row a b e = cc

    here : (e : Entry) → p.entry ≡ e → p.context.action ≡ action → SaysHad last e → IsAmong (Freed row) (did e) → Found
    here (says.Free at v) is a h (inl e) = (v, freed_here p ps at v v action is a (same_row at row e) refl h)
    here (says.Free at v) is a h (inr m) = absurd m
    here (says.Take at v) is a h (inl e) = absurd (cc)
    here (says.Take at v) is a h (inr m) = absurd m
    here (says.Give at v from) is a h (inl e) = absurd (cc)
    here (says.Give at v from) is a h (inr m) = absurd m
    here (says.Tag at v) is a h (inl e) = absurd (cc)
    here (says.Tag at v) is a h (inr m) = absurd m
    here (says.Set word v flags) is a h (inl e) = absurd (cc)
    here (says.Set word v flags) is a h (inr m) = absurd m
    here _ is a h m = absurd m

    on : (b : Bool) → (p.context.action == action) ≡ b → IsAmong (Freed row) (each_of did (cond b (p ∷ []) [] ++ of_action action ps)) → Go → Found
    on true q m go = split (among_either (Freed row) (did p.entry) (each_of did (of_action action ps)) m) where
      split : IsAmong (Freed row) (did p.entry) ⊎ IsAmong (Freed row) (each_of did (of_action action ps)) → Found
      split (inl m) = here p.entry refl (eqb-true p.context.action action q) h.0 m
      split (inr m) = more (go m)
    on false q m go = more (go m)

-- what a deed made is a change
pub deed_change : (action row version : ℕ) (ps : List Placed) → IsAmong (deed_of action row version false) (deeds_of ps) → 1 ≤ times (is_that (change_at row version)) (each_of row_change ps)
deed_change action row version [] m = absurd m
deed_change action row version (p ∷ ps) m = on (among_either (deed_of action row version false) (deed_at p.context.action p.entry) (deeds_of ps) m) (λ k. deed_change action row version ps k) where
  here : (at v : ℕ) (x : Deed) → deed_of p.context.action at v false ≡ x → x ≡ deed_of action row version false → 1 ≤ cond {A = ℕ} ((at == row) && (v == version)) 1 0 + times (is_that (change_at row version)) (each_of row_change ps)
  here at v x e f =
      let r : at ≡ row = ap (λ (z : Deed). z.row) (e ∙ f) in
      let k : v ≡ version = ap (λ (z : Deed). z.version) (e ∙ f) in
      one_more ((at == row) && (v == version)) _ (subst (λ z. ((z == row) && (v == version)) ≡ true) (sym r) (subst (λ z. ((row == row) && (z == version)) ≡ true) (sym k) (that_self row version)))

  own : (e : Entry) → IsAmong (deed_of action row version false) (deed_at p.context.action e) → 1 ≤ times (is_that (change_at row version)) (row_change e ++ each_of row_change ps)
  own (says.Take at v) (inl e) = here at v _ refl e
  own (says.Take at v) (inr m) = absurd m
  own (says.Give at v from) (inl e) = here at v _ refl e
  own (says.Give at v from) (inr m) = absurd m
  own (says.Tag at v) (inl e) = here at v _ refl e
  own (says.Tag at v) (inr m) = absurd m
  own (says.Free at v) (inl e) = absurd (let k : true ≡ false = ap (λ (z : Deed). z.releases) e in cc)
  own (says.Free at v) (inr m) = absurd m
  own _ m = absurd m

  on : IsAmong (deed_of action row version false) (deed_at p.context.action p.entry) ⊎ IsAmong (deed_of action row version false) (deeds_of ps)
      → (IsAmong (deed_of action row version false) (deeds_of ps) → 1 ≤ times (is_that (change_at row version)) (each_of row_change ps)) → 1 ≤ times (is_that (change_at row version)) (row_change p.entry ++ each_of row_change ps)
  on (inl m) go = own p.entry m
  on (inr m) go = (let l : 1 ≤ times (is_that (change_at row version)) (each_of row_change ps) = go m in
      omega (arith, l, times_append (is_that (change_at row version)) (row_change p.entry) (each_of row_change ps)))
