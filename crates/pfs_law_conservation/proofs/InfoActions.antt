-- What actions do to info rows, in the entries and in what they were asked.
use Rattle.std.proofs.Common.{◌≡◌, refl, ℕ, ◌+◌, ◌<◌, ◌≤◌, ◌==◌, Bool, true, false, cond, List, [], ◌∷◌, ◌++◌, sym, ap, subst, ◌∙◌, ◌⊎◌, inl, inr, arith}
use Rattle.pfs_admin.specs.FoldLaws.{row_of}
use Rattle.pfs_admin.specs.Works.{Sign, Releases, Tags, Work}
use Rattle.pfs_law_session.specs.Demands.{asked_by, signs_asked}
use Rattle.pfs_law_session.specs.Orders.{signed_words}
use Rattle.pfs_event.specs.declared.entry.Entry.{Entry}
use Rattle.pfs_event.specs.declared.entry.Entry.TheVariants as says
use Rattle.pfs_model.proofs.ChainGrowth.{times_append}
use Rattle.pfs_model.specs.Actions.{is_acted, Deed, deed_at, deeds_of, IsAmong}
use Rattle.pfs_model.specs.ActionAsks.{Did, Freed, Tagged, Move, Flagging, did, given_to, moved_by, signed_by, flagged_by, asked_of, of_action}
use Rattle.pfs_model.specs.Chains.{Each, times, each_of}
use Rattle.pfs_model.specs.EntryPlaces.{Placed}
use Rattle.std.specs.Prelude.{if◌then◌else◌, Option, Some, None}
use Rattle.std.proofs.lemmas.Bool.{eqb-true}
use Rattle.pfs_lemmas.proofs.Numbers.{eq_self}
use Rattle.pfs_law_conservation.proofs.InfoNews.{news}
use Rattle.pfs_model.proofs.Members.{among_front, among_back, among_either}

-- a row is released or written
abbrev pub names : ℕ → Did → Bool
names row (Freed at) = at == row
names row (Tagged at) = at == row
names row _ = false

abbrev pub signs_at : ℕ → Sign → Bool
signs_at row sign = row_of sign == row

-- so often as it was asked
signed_count : (row : ℕ) (signs : List Sign) → times (names row) (signed_by (signs_asked signs)) ≡ times (signs_at row) signs
signed_count row [] = refl
signed_count row (Releases at ∷ signs) = ap (λ n. cond {A = ℕ} (at == row) 1 0 + n) (signed_count row signs)
signed_count row (Tags at words ∷ signs) = ap (λ n. cond {A = ℕ} (at == row) 1 0 + n) (signed_count row signs)

given_count : (row from : ℕ) (to : List ℕ) → times (names row) (given_to from to) ≡ 0
given_count row from [] = refl
given_count row from (x ∷ to) = (let e : times (names row) (given_to from to) ≡ 0 = given_count row from to in omega (arith, e))

moved_count : (row : ℕ) (counted : ℕ → Bool) (moves : List Move) → times (names row) (moved_by counted moves) ≡ 0
moved_count row counted [] = refl
moved_count row counted (m ∷ ms) = on (counted m.from) (moved_count row counted ms) where
  on : (b : Bool) → times (names row) (moved_by counted ms) ≡ 0 → 0 + times (names row) (cond b (given_to m.from m.to) [] ++ moved_by counted ms) ≡ 0
  on true e = (let g : times (names row) (given_to m.from m.to) ≡ 0 = given_count row m.from m.to in
      let j : times (names row) (given_to m.from m.to ++ moved_by counted ms) ≡ times (names row) (given_to m.from m.to) + times (names row) (moved_by counted ms) = times_append (names row) (given_to m.from m.to) (moved_by counted ms) in
      omega (arith, e, g, j))
  on false e = (omega (arith, e))

flagged_count : (row : ℕ) (flags : List Flagging) → times (names row) (flagged_by flags) ≡ 0
flagged_count row [] = refl
flagged_count row (f ∷ fs) = (let e : times (names row) (flagged_by fs) ≡ 0 = flagged_count row fs in omega (arith, e))

pub asked_count : (row : ℕ) (counted : ℕ → Bool) (work : Work) → times (names row) (asked_of counted (asked_by work)) ≡ times (signs_at row) work.signs
asked_count row counted work =
    let a : times (names row) (moved_by counted (asked_by work).moves ++ (signed_by (signs_asked work.signs) ++ flagged_by (asked_by work).sets))
    ≡ times (names row) (moved_by counted (asked_by work).moves) + times (names row) (signed_by (signs_asked work.signs) ++ flagged_by (asked_by work).sets)
    = times_append (names row) (moved_by counted (asked_by work).moves) (signed_by (signs_asked work.signs) ++ flagged_by (asked_by work).sets) in
    let b : times (names row) (signed_by (signs_asked work.signs) ++ flagged_by (asked_by work).sets) ≡ times (names row) (signed_by (signs_asked work.signs)) + times (names row) (flagged_by (asked_by work).sets)
    = times_append (names row) (signed_by (signs_asked work.signs)) (flagged_by (asked_by work).sets) in
    omega (arith, a, b, moved_count row counted (asked_by work).moves, signed_count row work.signs, flagged_count row (asked_by work).sets)

pub asked_among : (d : Did) (counted : ℕ → Bool) (work : Work) → IsAmong d (signed_by (signs_asked work.signs)) → IsAmong d (asked_of counted (asked_by work))
asked_among d counted work m =
    among_back d (moved_by counted (asked_by work).moves) _ (among_front d (signed_by (signs_asked work.signs)) (flagged_by (asked_by work).sets) m)

-- what signs do to a row: nothing, or they release it, or they write it
pub record IsUnsigned (signs : List Sign) (row : ℕ) : Type 0 where
  pub none : times (signs_at row) signs ≡ 0
  pub same : (old : Option (List ℕ)) → news signs row old ≡ old

pub record IsReleased (signs : List Sign) (row : ℕ) : Type 0 where
  pub among : IsAmong (Freed row) (signed_by (signs_asked signs))
  pub new : (old : Option (List ℕ)) → news signs row old ≡ None

pub record IsWritten (signs : List Sign) (row : ℕ) (words : List ℕ) : Type 0 where
  pub among : IsAmong (Tagged row) (signed_by (signs_asked signs))
  pub says : signed_words signs row ≡ words
  pub new : (old : Option (List ℕ)) → news signs row old ≡ Some words

abbrev pub Class : List Sign → ℕ → Type 0
Class signs row = IsUnsigned signs row ⊎ (IsReleased signs row ⊎ ((words : List ℕ) × IsWritten signs row words))

pub classify : (row : ℕ) (signs : List Sign) → Class signs row
classify row [] = inl (record { none = refl; same = λ old. refl })
classify row (Releases at ∷ signs) = on (at == row) refl (classify row signs) where
  on : (b : Bool) → (at == row) ≡ b → Class signs row → Class (Releases at ∷ signs) row
  on true q c = inr (inl (record {
    among = inl (ap Freed (eqb-true at row q));
    new = λ old. ap (λ b. cond b None (news signs row old)) q;
  }))
  on false q (inl c) = inl (record {
    none = ap (λ b. cond {A = ℕ} b 1 0 + times (signs_at row) signs) q ∙ (let n : times (signs_at row) signs ≡ 0 = c.none in omega (arith, n));
    same = λ old. ap (λ b. cond b None (news signs row old)) q ∙ c.same old;
  })
  on false q (inr (inl c)) = inr (inl (record {
    among = inr c.among;
    new = λ old. ap (λ b. cond b None (news signs row old)) q ∙ c.new old;
  }))
  on false q (inr (inr (words, c))) = inr (inr (
    words,
    record {
      among = inr c.among;
      says = c.says;
      new = λ old. ap (λ b. cond b None (news signs row old)) q ∙ c.new old;
    },
  ))
classify row (Tags at content ∷ signs) = on (at == row) refl (classify row signs) where
  on : (b : Bool) → (at == row) ≡ b → Class signs row → Class (Tags at content ∷ signs) row
  on true q c = inr (inr (
    content,
    record {
      among = inl (ap Tagged (eqb-true at row q));
      says = ap (λ b. if b then content else signed_words signs row) q;
      new = λ old. ap (λ b. cond b (Some content) (news signs row old)) q;
    },
  ))
  on false q (inl c) = inl (record {
    none = ap (λ b. cond {A = ℕ} b 1 0 + times (signs_at row) signs) q ∙ (let n : times (signs_at row) signs ≡ 0 = c.none in omega (arith, n));
    same = λ old. ap (λ b. cond b (Some content) (news signs row old)) q ∙ c.same old;
  })
  on false q (inr (inl c)) = inr (inl (record {
    among = inr c.among;
    new = λ old. ap (λ b. cond b (Some content) (news signs row old)) q ∙ c.new old;
  }))
  on false q (inr (inr (words, c))) = inr (inr (
    words,
    record {
      among = inr c.among;
      says = ap (λ b. if b then content else signed_words signs row) q ∙ c.says;
      new = λ old. ap (λ b. cond b (Some content) (news signs row old)) q ∙ c.new old;
    },
  ))

-- a change that is no tag is of a row above the info rows
abbrev pub IsAbove : Entry → Type 0
IsAbove (says.Add row version) = 129 ≤ row
IsAbove (says.Ring row version) = 129 ≤ row
IsAbove (says.Long row version ticket) = 129 ≤ row
IsAbove (says.Take row version) = 129 ≤ row
IsAbove (says.Give row version from) = 129 ≤ row
IsAbove _ = Unit {0}

abbrev pub deed_of : ℕ → ℕ → ℕ → Bool → Deed
deed_of action row version releases = record { action = action; row = row; version = version; releases = releases }

-- how often the entries of an action name a row
abbrev pub named : ℕ → ℕ → List Placed → ℕ
named row action [] = 0
named row action (p ∷ ps) = cond (p.context.action == action) (times (names row) (did p.entry)) 0 + named row action ps

pub named_is : (row action : ℕ) (ps : List Placed) → times (names row) (each_of did (of_action action ps)) ≡ named row action ps
named_is row action [] = refl
named_is row action (p ∷ ps) = on (p.context.action == action) (named_is row action ps) where
  on : (b : Bool) → times (names row) (each_of did (of_action action ps)) ≡ named row action ps
      → times (names row) (each_of did (cond b (p ∷ []) [] ++ of_action action ps)) ≡ cond b (times (names row) (did p.entry)) 0 + named row action ps
  on true e = times_append (names row) (did p.entry) (each_of did (of_action action ps)) ∙ ap (λ n. times (names row) (did p.entry) + n) e
  on false e = (omega (arith, e))

module _ (row : ℕ) (low : row < 129) where
  -- a deed of the row, in its entry
  one_deed : (action : ℕ) (e : Entry) (d : Deed) → IsAbove e → d.row ≡ row → IsAmong d (deed_at action e) → (1 ≤ times (names row) (did e)) × (d.action ≡ action)
  one_deed action (says.Take at v) d h r (inl e) = (let k : at ≡ d.row = ap (λ (z : Deed). z.row) e in let l : 129 ≤ at = h in absurd (omega (arith, k, l, r, low)))
  one_deed action (says.Take at v) d h r (inr m) = absurd m
  one_deed action (says.Give at v from) d h r (inl e) = (let k : at ≡ d.row = ap (λ (z : Deed). z.row) e in let l : 129 ≤ at = h in absurd (omega (arith, k, l, r, low)))
  one_deed action (says.Give at v from) d h r (inr m) = absurd m
  one_deed action (says.Tag at v) d h r (inl e) = (named_once at (ap (λ (z : Deed). z.row) e ∙ r), sym (ap (λ (z : Deed). z.action) e)) where
    named_once : (at : ℕ) → at ≡ row → 1 ≤ cond {A = ℕ} (at == row) 1 0 + 0
    named_once at e = subst (λ z. 1 ≤ cond {A = ℕ} (z == row) 1 0 + 0) (sym e) (subst (λ b. 1 ≤ cond {A = ℕ} b 1 0 + 0) (sym (eq_self row)) (omega arith))
  one_deed action (says.Tag at v) d h r (inr m) = absurd m
  one_deed action (says.Free at v) d h r (inl e) = (named_once at (ap (λ (z : Deed). z.row) e ∙ r), sym (ap (λ (z : Deed). z.action) e)) where
    named_once : (at : ℕ) → at ≡ row → 1 ≤ cond {A = ℕ} (at == row) 1 0 + 0
    named_once at e = subst (λ z. 1 ≤ cond {A = ℕ} (z == row) 1 0 + 0) (sym e) (subst (λ b. 1 ≤ cond {A = ℕ} b 1 0 + 0) (sym (eq_self row)) (omega arith))
  one_deed action (says.Free at v) d h r (inr m) = absurd m
  one_deed action _ d h r m = absurd m

  same_deed : (action : ℕ) (e : Entry) (d f : Deed) → IsAmong d (deed_at action e) → IsAmong f (deed_at action e) → d ≡ f
  same_deed action e d f m n = on (deed_at action e) (short action e) m n where
    Short : List Deed → Type 0
    Short [] = Unit {0}
    Short (x ∷ xs) = xs ≡ []

    short : (action : ℕ) (e : Entry) → Short (deed_at action e)
    short action (says.Take at v) = refl
    short action (says.Give at v from) = refl
    short action (says.Tag at v) = refl
    short action (says.Free at v) = refl
    short action _ = tt

    on : (ds : List Deed) → Short ds → IsAmong d ds → IsAmong f ds → d ≡ f
    on [] s m n = absurd m
    on (x ∷ []) s (inl e) (inl g) = sym e ∙ g
    on (x ∷ []) s (inl e) (inr n) = absurd n
    on (x ∷ []) s (inr m) n = absurd m
    on (x ∷ (y ∷ xs)) s m n = absurd (cc)

  own_bit : (p : Placed) (d : Deed) → IsAbove p.entry → d.row ≡ row → IsAmong d (deed_at p.context.action p.entry) → 1 ≤ cond (p.context.action == d.action) (times (names row) (did p.entry)) 0
  own_bit p d h r m =
      let k : (1 ≤ times (names row) (did p.entry)) × (d.action ≡ p.context.action) = one_deed p.context.action p.entry d h r m in
      subst (λ z. 1 ≤ cond (p.context.action == z) (times (names row) (did p.entry)) 0) (sym k.1)
      (subst (λ b. 1 ≤ cond b (times (names row) (did p.entry)) 0) (sym (eq_self p.context.action)) k.0)

  -- an action that does something to the row names it
  pub deed_named : (d : Deed) (ps : List Placed) → Each (λ (p : Placed). IsAbove p.entry) ps → d.row ≡ row → IsAmong d (deeds_of ps) → 1 ≤ named row d.action ps
  deed_named d [] h r m = absurd m
  deed_named d (p ∷ ps) h r m = on (among_either d (deed_at p.context.action p.entry) (deeds_of ps) m) (λ k. deed_named d ps h.1 r k) where
    on : IsAmong d (deed_at p.context.action p.entry) ⊎ IsAmong d (deeds_of ps) → (IsAmong d (deeds_of ps) → 1 ≤ named row d.action ps)
        → 1 ≤ cond (p.context.action == d.action) (times (names row) (did p.entry)) 0 + named row d.action ps
    on (inl m) go = (let k : 1 ≤ cond (p.context.action == d.action) (times (names row) (did p.entry)) 0 = own_bit p d h.0 r m in omega (arith, k))
    on (inr m) go = (let k : 1 ≤ named row d.action ps = go m in omega (arith, k))

  -- and one that does two things names it twice
  pub deeds_named : (d f : Deed) (ps : List Placed) → Each (λ (p : Placed). IsAbove p.entry) ps → d.row ≡ row → f.row ≡ row → f.action ≡ d.action → (d ≡ f → ⊥)
      → IsAmong d (deeds_of ps) → IsAmong f (deeds_of ps) → 2 ≤ named row d.action ps
  deeds_named d f [] h r s a ne m n = absurd m
  deeds_named d f (p ∷ ps) h r s a ne m n =
      on (among_either d (deed_at p.context.action p.entry) (deeds_of ps) m) (among_either f (deed_at p.context.action p.entry) (deeds_of ps) n)
      (λ k l. deeds_named d f ps h.1 r s a ne k l) where
        own : ℕ
        own = cond (p.context.action == d.action) (times (names row) (did p.entry)) 0

        on : IsAmong d (deed_at p.context.action p.entry) ⊎ IsAmong d (deeds_of ps) → IsAmong f (deed_at p.context.action p.entry) ⊎ IsAmong f (deeds_of ps)
            → (IsAmong d (deeds_of ps) → IsAmong f (deeds_of ps) → 2 ≤ named row d.action ps)
            → 2 ≤ cond (p.context.action == d.action) (times (names row) (did p.entry)) 0 + named row d.action ps
        on (inl m) (inl n) go = absurd (ne (same_deed p.context.action p.entry d f m n))
        on (inl m) (inr n) go =
            let k : 1 ≤ cond (p.context.action == d.action) (times (names row) (did p.entry)) 0 = own_bit p d h.0 r m in
            let l : 1 ≤ named row d.action ps = subst (λ z. 1 ≤ named row z ps) a (deed_named f ps h.1 s n) in
            omega (arith, k, l)
        on (inr m) (inl n) go =
            let k : 1 ≤ cond (p.context.action == d.action) (times (names row) (did p.entry)) 0 = subst (λ z. 1 ≤ cond (p.context.action == z) (times (names row) (did p.entry)) 0) a (own_bit p f h.0 s n) in
            let l : 1 ≤ named row d.action ps = deed_named d ps h.1 r m in
            omega (arith, k, l)
        on (inr m) (inr n) go = (let k : 2 ≤ named row d.action ps = go m n in omega (arith, k))

-- the number of a deed is that of its entry's action
pub deed_range : (n : ℕ) (d : Deed) (ps : List Placed) → Each (λ (p : Placed). is_acted p.entry ≡ true → (1 ≤ p.context.action) × (p.context.action ≤ n)) ps → IsAmong d (deeds_of ps)
    → (1 ≤ d.action) × (d.action ≤ n)
deed_range n d [] h m = absurd m
deed_range n d (p ∷ ps) h m = on (among_either d (deed_at p.context.action p.entry) (deeds_of ps) m) (λ k. deed_range n d ps h.1 k) where
  here : (e : Entry) → (is_acted e ≡ true → (1 ≤ p.context.action) × (p.context.action ≤ n)) → IsAmong d (deed_at p.context.action e) → (1 ≤ d.action) × (d.action ≤ n)
  here (says.Take at v) h (inl e) = subst (λ z. (1 ≤ z) × (z ≤ n)) (ap (λ (z : Deed). z.action) e) (h refl)
  here (says.Take at v) h (inr m) = absurd m
  here (says.Give at v from) h (inl e) = subst (λ z. (1 ≤ z) × (z ≤ n)) (ap (λ (z : Deed). z.action) e) (h refl)
  here (says.Give at v from) h (inr m) = absurd m
  here (says.Tag at v) h (inl e) = subst (λ z. (1 ≤ z) × (z ≤ n)) (ap (λ (z : Deed). z.action) e) (h refl)
  here (says.Tag at v) h (inr m) = absurd m
  here (says.Free at v) h (inl e) = subst (λ z. (1 ≤ z) × (z ≤ n)) (ap (λ (z : Deed). z.action) e) (h refl)
  here (says.Free at v) h (inr m) = absurd m
  here _ h m = absurd m

  on : IsAmong d (deed_at p.context.action p.entry) ⊎ IsAmong d (deeds_of ps) → (IsAmong d (deeds_of ps) → (1 ≤ d.action) × (d.action ≤ n)) → (1 ≤ d.action) × (d.action ≤ n)
  on (inl m) go = here p.entry h.0 m
  on (inr m) go = go m
