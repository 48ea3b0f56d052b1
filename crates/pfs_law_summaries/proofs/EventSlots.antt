-- A session's starts and ends stand in the slot that its one connect printed.
use Rattle.std.proofs.Common.{◌≡◌, refl, ℕ, ◌==◌, Bool, true, false, cond, List, [], ◌∷◌, ◌++◌, Option, Some, None, sym, ap, subst, ◌∙◌, inl, inr}
use Rattle.std.specs.Prelude.{◌⊎◌}
use Rattle.std.proofs.lemmas.Bool.{eqb-true}
use Rattle.pfs_event.specs.declared.entry.Entry.{Entry}
use Rattle.pfs_event.specs.declared.entry.Entry.TheVariants as says
use Rattle.pfs_model.specs.Chains.{Each}
use Rattle.pfs_model.specs.Contexts.{Context, noted, subject_of}
use Rattle.pfs_model.specs.EntryPlaces.{Placed, by_session}
use Rattle.pfs_model.specs.declared.lines.Subject.{Subject}
use Rattle.pfs_law_conservation.proofs.EntryWalk.{Comes, Follow, then_told}
use Rattle.pfs_law_conservation.specs.RunEvents.{given_by}
use Rattle.pfs_law_conservation.specs.Premises.{AreFirstBehind, IsFirst}
use Rattle.pfs_law_summaries.proofs.Rounds.{is_event}
use Rattle.pfs_law_summaries.specs.ThreadHistories.{slots_at}

abbrev is_connect : Entry → Bool
is_connect (says.Connect action thread account user host) = true
is_connect _ = false

no_slot : (p : Placed) (e : Entry) → is_connect e ≡ false → slots_at p e ≡ []
no_slot p (says.Connect action thread account user host) c = absurd (cc)
no_slot p _ c = refl

same_slot : (subject : Option Subject) (context : Context) (e : Entry) → is_connect e ≡ false → (noted subject context e).slot ≡ context.slot
same_slot subject context (says.Connect action thread account user host) c = absurd (cc)
same_slot subject context _ c = refl

no_event : (e : Entry) → is_connect e ≡ true → is_event e ≡ false
no_event (says.Connect action thread account user host) c = refl
no_event _ c = absurd (cc)

come_slot : (c d : Context) (slot : Option ℕ) → Comes c d → c.slot ≡ slot → d.slot ≡ slot
come_slot c d slot (inl e) h = ap (λ (z : Context). z.slot) e ∙ h
come_slot c d slot (inr e) h = ap (λ (z : Context). z.slot) e ∙ h

module _ (session : ℕ) where
  -- the session has entries before
  abbrev HasBegun : List Placed → Type 0
  HasBegun earlier = by_session session earlier ≡ [] → ⊥

  begun_more : (p : Placed) (earlier : List Placed) → HasBegun earlier → HasBegun (p ∷ earlier)
  begun_more p earlier h e = on (p.session == session) e where
    on : (b : Bool) → cond b (p ∷ []) [] ++ by_session session earlier ≡ [] → ⊥
    on true e = absurd (cc)
    on false e = h e

  begun_now : (p : Placed) (earlier : List Placed) → (p.session == session) ≡ true → HasBegun (p ∷ earlier)
  begun_now p earlier q e = absurd (let f : p ∷ by_session session earlier ≡ [] = sym (ap (λ b. cond b (p ∷ []) [] ++ by_session session earlier) q) ∙ e in cc)

  first_connects : (earlier : List Placed) (p : Placed) (e : Entry) → IsFirst earlier p e → is_connect e ≡ true → by_session p.session earlier ≡ []
  first_connects earlier p (says.Connect action thread account user host) f c = f
  first_connects earlier p _ f c = absurd (cc)

  -- then it connects no more
  no_more : (earlier : List Placed) (p : Placed) → IsFirst earlier p p.entry → HasBegun earlier → (p.session == session) ≡ true → is_connect p.entry ≡ false
  no_more earlier p f h q = on (is_connect p.entry) refl where
    on : (b : Bool) → is_connect p.entry ≡ b → b ≡ false
    on true c = absurd (h (subst (λ s. by_session s earlier ≡ []) (eqb-true p.session session q) (first_connects earlier p p.entry f c)))
    on false c = refl

  none_later : (earlier ps : List Placed) → AreFirstBehind earlier ps → HasBegun earlier → given_by slots_at session ps ≡ []
  none_later earlier [] f h = refl
  none_later earlier (p ∷ ps) f h = on (p.session == session) refl (none_later (p ∷ earlier) ps f.1 (begun_more p earlier h)) where
    on : (b : Bool) → (p.session == session) ≡ b → given_by slots_at session ps ≡ [] → cond b (slots_at p p.entry) [] ++ given_by slots_at session ps ≡ []
    on true q r = ap (λ z. z ++ given_by slots_at session ps) (no_slot p p.entry (no_more earlier p f.0 h q)) ∙ r
    on false q r = r

  -- before the connect, and behind it
  abbrev Stands : ℕ → Context → List Placed → List Placed → Type 0
  Stands slot c earlier ps = ((by_session session earlier ≡ []) × (given_by slots_at session ps ≡ slot ∷ [])) ⊎ ((c.slot ≡ Some slot) × HasBegun earlier)

  abbrev IsSeated : ℕ → Placed → Type 0
  IsSeated slot p = (p.session == session) ≡ true → is_event p.entry ≡ true → p.context.slot ≡ Some slot

  -- behind an entry of another session
  other_stands : (slot : ℕ) (c : Context) (earlier : List Placed) (p : Placed) (ps : List Placed) → (p.session == session) ≡ false → Stands slot c earlier (p ∷ ps) → Stands slot (then_told session c p) (p ∷ earlier) ps
  other_stands slot c earlier p ps q (inl s) = inl (
    ap (λ b. cond b (p ∷ []) [] ++ by_session session earlier) q ∙ s.0,
    sym (ap (λ b. cond b (slots_at p p.entry) [] ++ given_by slots_at session ps) q) ∙ s.1,
  )
  other_stands slot c earlier p ps q (inr s) = inr (
    ap (λ b. (cond b (noted (subject_of p.line) p.context p.entry) c).slot) q ∙ s.0,
    begun_more p earlier s.1,
  )

  -- behind one of its own, once it is seated
  own_stands : (slot : ℕ) (c : Context) (earlier : List Placed) (p : Placed) (ps : List Placed) → (p.session == session) ≡ true → (noted (subject_of p.line) p.context p.entry).slot ≡ Some slot → Stands slot (then_told session c p) (p ∷ earlier) ps
  own_stands slot c earlier p ps q s = inr (ap (λ b. (cond b (noted (subject_of p.line) p.context p.entry) c).slot) q ∙ s, begun_now p earlier q)

  -- the connect prints the slot
  connect_slot : (slot : ℕ) (p : Placed) (e : Entry) (rest : List ℕ) → is_connect e ≡ true → rest ≡ [] → slots_at p e ++ rest ≡ slot ∷ [] → (noted (subject_of p.line) p.context e).slot ≡ Some slot
  connect_slot slot p (says.Connect action (Some thread) account user host) rest c r g = ap Some (first thread rest g) where
    first : (thread : ℕ) (rest : List ℕ) → thread ∷ rest ≡ slot ∷ [] → thread ≡ slot
    first thread rest g = cc
  connect_slot slot p (says.Connect action None account user host) rest c r g = absurd (let f : [] ≡ slot ∷ [] = sym r ∙ g in cc)
  connect_slot slot p _ rest c r g = absurd (cc)

  pub seats_walk : (slot : ℕ) (c : Context) (earlier ps : List Placed) → Follow session c ps → AreFirstBehind earlier ps → Stands slot c earlier ps → Each (IsSeated slot) ps
  seats_walk slot c earlier [] f a s = tt
  seats_walk slot c earlier (p ∷ ps) f a s = (here s, seats_walk slot (then_told session c p) (p ∷ earlier) ps f.1 a.1 (next (p.session == session) refl s)) where
    -- what is printed from here on, of the session's own entry
    printed : (p.session == session) ≡ true → given_by slots_at session (p ∷ ps) ≡ slot ∷ [] → slots_at p p.entry ++ given_by slots_at session ps ≡ slot ∷ []
    printed q g = sym (ap (λ b. cond b (slots_at p p.entry) [] ++ given_by slots_at session ps) q) ∙ g

    rest : (p.session == session) ≡ true → given_by slots_at session ps ≡ []
    rest q = none_later (p ∷ earlier) ps a.1 (begun_now p earlier q)

    -- a session's first entry is its connect
    connects : (p.session == session) ≡ true → given_by slots_at session (p ∷ ps) ≡ slot ∷ [] → is_connect p.entry ≡ true
    connects q g = on (is_connect p.entry) refl where
      on : (b : Bool) → is_connect p.entry ≡ b → b ≡ true
      on true n = refl
      on false n = absurd (let e : [] ≡ slot ∷ [] = sym (ap (λ z. z ++ given_by slots_at session ps) (no_slot p p.entry n) ∙ rest q) ∙ printed q g in cc)

    here : Stands slot c earlier (p ∷ ps) → IsSeated slot p
    here (inl s) q e = absurd (let k : true ≡ false = sym e ∙ no_event p.entry (connects q s.1) in cc)
    here (inr s) q e = come_slot c p.context (Some slot) (f.0 q) s.0

    next : (b : Bool) → (p.session == session) ≡ b → Stands slot c earlier (p ∷ ps) → Stands slot (then_told session c p) (p ∷ earlier) ps
    next false q s = other_stands slot c earlier p ps q s
    next true q (inl s) = own_stands slot c earlier p ps q (connect_slot slot p p.entry (given_by slots_at session ps) (connects q s.1) (rest q) (printed q s.1))
    next true q (inr s) = own_stands slot c earlier p ps q (same_slot (subject_of p.line) p.context p.entry (no_more earlier p a.0 s.1 q) ∙ come_slot c p.context (Some slot) (f.0 q) s.0)
