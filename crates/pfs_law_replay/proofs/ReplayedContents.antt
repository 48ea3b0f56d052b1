-- A replay makes contents, and there are no others.
use Rattle.std.proofs.Common.{◌≡◌, refl, ℕ, ◌+◌, ◌-◌, ◌≤◌, ◌==◌, Bool, true, false, ◌&&◌, cond, List, [], ◌∷◌, ◌++◌, sym, ◌∙◌, ap, subst, ◌⊎◌, inl, inr, arith}
use Rattle.pfs_event.specs.declared.entry.Entry.{Entry}
use Rattle.pfs_event.specs.declared.entry.Entry.TheVariants as says
use Rattle.pfs_stat.specs.Stat.{merge_of, stat_of_words, words_of}
use Rattle.pfs_model.specs.declared.changes.Change.{Change}
use Rattle.pfs_model.specs.Actions.{IsAmong}
use Rattle.pfs_model.specs.Chains.{Each, change_at, each_of, is_that, row_change}
use Rattle.pfs_model.specs.Contents.{AllContents, AreContents, Given, IsContent, IsNext, content_after, opening_words}
use Rattle.pfs_model.specs.EntryPlaces.{Placed}
use Rattle.pfs_model.specs.PlainAgreement.{AreNext, last_of}
use Rattle.pfs_law_replay.specs.ContentReplays.{AgreeOn, HasSource, IsReplayOf, IsReplayed, MadeLaw, OnlyLaw, WholeLaw, content_in, written_over}
use Rattle.pfs_law_replay.proofs.RowChanges.{last_grows, row_one}

-- a new change is above the versions that its row had
pub over_old : (before : List Change) (changes : List Change) (row version : ℕ) (new old : List ℕ) → AreNext before changes → version ≤ last_of row before → written_over changes row version new old ≡ old
over_old before [] row version new old n h = refl
over_old before (c ∷ cs) row version new old n h = at (c.row == row) (c.version == version) refl refl where
  at : (a b : Bool) → (c.row == row) ≡ a → (c.version == version) ≡ b → cond (a && b) new old ≡ old
  at false b p q = refl
  at true false p q = refl
  at true true p q =
      let r : c.row ≡ row = same c.row row p in
      let v : c.version ≡ version = same c.version version q in
      let u : c.version ≡ last_of c.row before + 1 = n.0 in
      let w : last_of c.row before ≡ last_of row before = ap (λ r. last_of r before) r in
      absurd (omega (arith, h, v, u, w)) where
        same : (a b : ℕ) → (a == b) ≡ true → a ≡ b
        same a b q = grind arith

pub stays : (given : Given) (place : Placed) (done : List Placed) → AreNext (each_of row_change done) (row_change place.entry) → AgreeOn done (content_in given (place ∷ done)) (content_in given done)
unfolding content_in
stays given place done n row version h = over_old (each_of row_change done) (row_change place.entry) row version _ _ n h

grows : (place : Placed) (done : List Placed) → AreNext (each_of row_change done) (row_change place.entry) → (row : ℕ) → last_of row (each_of row_change done) ≤ last_of row (each_of row_change (place ∷ done))
grows place done n row = last_grows (each_of row_change done) (row_change place.entry) n row (row_one place.entry)

-- what agrees behind a change agreed before it
agreed : (given : Given) (content : ℕ → ℕ → List ℕ) (place : Placed) (done : List Placed) → AreNext (each_of row_change done) (row_change place.entry) → AgreeOn (place ∷ done) content (content_in given (place ∷ done)) → AgreeOn done content (content_in given done)
agreed given content place done n a row version h =
    let g : last_of row (each_of row_change done) ≤ last_of row (each_of row_change (place ∷ done)) = grows place done n row in
    a row version (omega (arith, h, g)) ∙ stays given place done n row version h

made_here : (content other : ℕ → ℕ → List ℕ) (make made : List ℕ → List ℕ) (row version last : ℕ) → version ≡ last + 1 → content row version ≡ made (other row (version - 1)) → content row last ≡ other row last → ((here : List ℕ) → made here ≡ make here) → IsNext content make row version
made_here content other make made row version last v c d m =
    let w : version - 1 ≡ last = omega (arith, v) in
    (last, v, c ∙ ap made (ap (other row) w ∙ sym d) ∙ m (content row last))

pub is_self : (row version : ℕ) → is_that (change_at row version) (change_at row version) ≡ true
is_self row version = both (row == row) (version == version) (eq_self row) (eq_self version) where
  eq_self : (n : ℕ) → (n == n) ≡ true
  eq_self n = grind arith

  both : (a b : Bool) → a ≡ true → b ≡ true → (a && b) ≡ true
  both true true p q = refl
  both true false p q = absurd (cc)
  both false b p q = absurd (cc)

pub last_here : (row version : ℕ) (before : List Change) → last_of row (change_at row version ∷ before) ≡ version
last_here row version before = ap (λ b. cond b version (last_of row before)) (eq_self row) where
  eq_self : (n : ℕ) → (n == n) ≡ true
  eq_self n = grind arith

-- the content that a change makes, where the rest agrees
new_here : (given : Given) (content : ℕ → ℕ → List ℕ) (place : Placed) (done : List Placed) (row version : ℕ) → row_change place.entry ≡ change_at row version ∷ [] → AgreeOn (place ∷ done) content (content_in given (place ∷ done))
    → content row version ≡ content_after given (content_in given done) place place.context (content_in given done row (version - 1)) place.entry
unfolding content_in
new_here given content place done row version q a =
    a row version (rw q (rw (last_here row version (each_of row_change done)) (omega arith)))
    ∙ ap (λ cs. written_over cs row version (content_after given (content_in given done) place place.context (content_in given done row (version - 1)) place.entry) (content_in given done row version)) q
    ∙ ap (λ b. cond b (content_after given (content_in given done) place place.context (content_in given done row (version - 1)) place.entry) (content_in given done row version)) (is_self row version)

made_at : (given : Given) (content : ℕ → ℕ → List ℕ) (place : Placed) (done : List Placed) → AreNext (each_of row_change done) (row_change place.entry) → HasSource done place.context place.entry → AgreeOn (place ∷ done) content (content_in given (place ∷ done)) → IsContent given content place place.entry
made_at given content place done n s a = on place.entry refl n s where
  before : AgreeOn done content (content_in given done)
  before = agreed given content place done n a

  next : (row version : ℕ) (e : Entry) → place.entry ≡ e → row_change e ≡ change_at row version ∷ [] → AreNext (each_of row_change done) (row_change e)
      → ((here : List ℕ) → content_after given (content_in given done) place place.context here e ≡ content_after given content place place.context here e)
      → IsNext content (λ here. content_after given content place place.context here place.entry) row version
  next row version e p q n same =
      let v : version ≡ last_of row (each_of row_change done) + 1 = (subst (AreNext (each_of row_change done)) q n).0 in
      made_here content (content_in given done) (λ here. content_after given content place place.context here place.entry) (λ here. content_after given (content_in given done) place place.context here place.entry) row version (last_of row (each_of row_change done)) v
      (new_here given content place done row version (ap row_change p ∙ q) a)
      (before row (last_of row (each_of row_change done)) (omega arith))
      (λ here. ap (content_after given (content_in given done) place place.context here) p ∙ same here ∙ ap (content_after given content place place.context here) (sym p))

  on : (e : Entry) → place.entry ≡ e → AreNext (each_of row_change done) (row_change e) → HasSource done place.context e → IsContent given content place e
  on (says.Add row version) p n s = next row version (says.Add row version) p refl n (λ here. refl)
  on (says.Take row version) p n s = next row version (says.Take row version) p refl n (λ here. refl)
  on (says.Tag row version) p n s = next row version (says.Tag row version) p refl n (λ here. refl)
  on (says.Ring row version) p n s = next row version (says.Ring row version) p refl n (λ here. refl)
  on (says.Long row version ticket) p n s = next row version (says.Long row version ticket) p refl n (λ here. refl)
  on (says.Give row version from) p n s =
      let h : place.context.source_version ≤ last_of from (each_of row_change done) = s.1 in
      (s.0, next row version (says.Give row version from) p refl n (λ here. ap (λ words. words_of (merge_of (stat_of_words here) (stat_of_words words))) (sym (before from (place.context.source_version - 1) (omega (arith, h))))))
  on _ p n s = tt

made_all : (given : Given) (content : ℕ → ℕ → List ℕ) (done : List Placed) → IsReplayed done → AgreeOn done content (content_in given done) → AllContents given content done
made_all given content [] r a = tt
made_all given content (place ∷ done) r a = (made_at given content place done r.0 r.1 a, made_all given content done r.2 (agreed given content place done r.0 a))

pub made_law : MadeLaw
made_law given done r = made_all given (content_in given done) done r (λ row version h. refl)

-- what a content is made of there, it is in the replay
only_next : (given : Given) (content : ℕ → ℕ → List ℕ) (place : Placed) (done : List Placed) (e : Entry) (row version : ℕ) → place.entry ≡ e → row_change e ≡ change_at row version ∷ []
    → AgreeOn done content (content_in given done) → AreNext (each_of row_change done) (row_change e)
    → ((here : List ℕ) → content_after given content place place.context here e ≡ content_after given (content_in given done) place place.context here e)
    → IsNext content (λ here. content_after given content place place.context here place.entry) row version
    → content row version ≡ content_in given (place ∷ done) row version
unfolding content_in
only_next given content place done e row version p q a n same next =
    let v : version ≡ last_of row (each_of row_change done) + 1 = (subst (AreNext (each_of row_change done)) q n).0 in
    let w : version ≡ next.0 + 1 = next.1 in
    let b : next.0 ≡ version - 1 = omega (arith, w) in
    next.2
    ∙ ap (content_after given content place place.context (content row next.0)) p
    ∙ same (content row next.0)
    ∙ ap (λ here. content_after given (content_in given done) place place.context here e) (a row next.0 (omega (arith, v, w)) ∙ ap (content_in given done row) b)
    ∙ ap (content_after given (content_in given done) place place.context (content_in given done row (version - 1))) (sym p)
    ∙ sym (ap (λ b. cond b (content_after given (content_in given done) place place.context (content_in given done row (version - 1)) place.entry) (content_in given done row version)) (is_self row version))
    ∙ sym (ap (λ cs. written_over cs row version (content_after given (content_in given done) place place.context (content_in given done row (version - 1)) place.entry) (content_in given done row version)) (ap row_change p ∙ q))

Told : Given → (ℕ → ℕ → List ℕ) → Placed → List Placed → List Change → Type 0
Told given content place done changes = Each (λ c. content c.row c.version ≡ content_in given (place ∷ done) c.row c.version) changes

only_at : (given : Given) (content : ℕ → ℕ → List ℕ) (place : Placed) (done : List Placed) (e : Entry) → place.entry ≡ e → AgreeOn done content (content_in given done) → AreNext (each_of row_change done) (row_change e) → HasSource done place.context e
    → IsContent given content place e → Told given content place done (row_change e)
unfolding Told
only_at given content place done (says.Add row version) p a n s i = (only_next given content place done (says.Add row version) row version p refl a n (λ here. refl) i, tt)
only_at given content place done (says.Take row version) p a n s i = (only_next given content place done (says.Take row version) row version p refl a n (λ here. refl) i, tt)
only_at given content place done (says.Tag row version) p a n s i = (only_next given content place done (says.Tag row version) row version p refl a n (λ here. refl) i, tt)
only_at given content place done (says.Ring row version) p a n s i = (only_next given content place done (says.Ring row version) row version p refl a n (λ here. refl) i, tt)
only_at given content place done (says.Long row version ticket) p a n s i = (only_next given content place done (says.Long row version ticket) row version p refl a n (λ here. refl) i, tt)
only_at given content place done (says.Give row version from) p a n s i =
    let h : place.context.source_version ≤ last_of from (each_of row_change done) = s.1 in
    (only_next given content place done (says.Give row version from) row version p refl a n (λ here. ap (λ words. words_of (merge_of (stat_of_words here) (stat_of_words words))) (a from (place.context.source_version - 1) (omega (arith, h)))) i.1, tt)
only_at given content place done _ p a n s i = tt

only_more : (given : Given) (content : ℕ → ℕ → List ℕ) (place : Placed) (done : List Placed) (cs : List Change) → (cs ≡ []) ⊎ ((c : Change) × (cs ≡ c ∷ [])) → row_change place.entry ≡ cs → AreNext (each_of row_change done) (row_change place.entry)
    → Told given content place done (row_change place.entry) → AgreeOn done content (content_in given done) → AgreeOn (place ∷ done) content (content_in given (place ∷ done))
unfolding Told
only_more given content place done cs (inl e) q n t a row version h =
    a row version (subst (λ z. version ≤ last_of row (z ++ each_of row_change done)) (q ∙ e) h)
    ∙ sym (stays given place done n row version (subst (λ z. version ≤ last_of row (z ++ each_of row_change done)) (q ∙ e) h))
only_more given content place done cs (inr (c, e)) q n t a row version h = at (c.row == row) refl (subst (λ z. version ≤ last_of row (z ++ each_of row_change done)) (q ∙ e) h) where
  told : content c.row c.version ≡ content_in given (place ∷ done) c.row c.version
  told = (subst (Told given content place done) (q ∙ e) t).0

  next : c.version ≡ last_of c.row (each_of row_change done) + 1
  next = (subst (AreNext (each_of row_change done)) (q ∙ e) n).0

  same : (a b : ℕ) → (a == b) ≡ true → a ≡ b
  same a b q = grind arith

  old : version ≤ last_of row (each_of row_change done) → content row version ≡ content_in given (place ∷ done) row version
  old h = a row version h ∙ sym (stays given place done n row version h)

  new : c.row ≡ row → version ≤ c.version → content row version ≡ content_in given (place ∷ done) row version
  new r h =
      let w : last_of c.row (each_of row_change done) ≡ last_of row (each_of row_change done) = ap (λ r. last_of r (each_of row_change done)) r in
      by (version == c.version) refl w where
        by : (b : Bool) → (version == c.version) ≡ b → last_of c.row (each_of row_change done) ≡ last_of row (each_of row_change done) → content row version ≡ content_in given (place ∷ done) row version
        by true p w = let v : version ≡ c.version = same version c.version p in ap (λ r. content r version) (sym r) ∙ ap (content c.row) v ∙ told ∙ ap (content_in given (place ∷ done) c.row) (sym v) ∙ ap (λ r. content_in given (place ∷ done) r version) r
        by false p w = old (below p w) where
          below : (version == c.version) ≡ false → last_of c.row (each_of row_change done) ≡ last_of row (each_of row_change done) → version ≤ last_of row (each_of row_change done)
          below p w = let d : (version ≡ c.version) → ⊥ = differ version c.version p in omega (arith, h, w, next, d) where
            differ : (a b : ℕ) → (a == b) ≡ false → a ≡ b → ⊥
            differ a b p e = grind arith

  at : (b : Bool) → (c.row == row) ≡ b → version ≤ cond b c.version (last_of row (each_of row_change done)) → content row version ≡ content_in given (place ∷ done) row version
  at true p h = new (same c.row row p) h
  at false p h = old h

only_law_at : (given : Given) (content : ℕ → ℕ → List ℕ) (done : List Placed) → IsReplayed done → AreContents given content done → AgreeOn done content (content_in given done)
unfolding content_in
only_law_at given content [] r c = λ row version h. ap (content row) (omega (arith, h)) ∙ c.opens row
only_law_at given content (place ∷ done) r c =
    let before : AgreeOn done content (content_in given done) = only_law_at given content done r.2 (record { opens = c.opens; made = c.made.1 }) in
    only_more given content place done (row_change place.entry) (row_one place.entry) refl r.0
    (only_at given content place done place.entry refl before r.0 r.1 c.made.0)
    before

pub only_law : OnlyLaw
only_law given content done r c row version h = only_law_at given content done r c row version h

opened : (given : Given) (done : List Placed) → IsReplayed done → (row : ℕ) → content_in given done row 0 ≡ opening_words row
unfolding content_in
opened given [] r row = refl
opened given (place ∷ done) r row = stays given place done r.0 row 0 (omega arith) ∙ opened given done r.2 row

among : (given : Given) (content : ℕ → ℕ → List ℕ) (p : Placed) (done : List Placed) → AllContents given content done → IsAmong p done → IsContent given content p p.entry
among given content p [] a i = absurd i
among given content p (q ∷ qs) a (inl e) = subst (λ (z : Placed). IsContent given content z z.entry) e a.0
among given content p (q ∷ qs) a (inr i) = among given content p qs a.1 i

unchanged : (given : Given) (content : ℕ → ℕ → List ℕ) (p : Placed) (e : Entry) → row_change e ≡ [] → IsContent given content p e
unchanged given content p (says.Add row version) q = absurd (cc)
unchanged given content p (says.Take row version) q = absurd (cc)
unchanged given content p (says.Tag row version) q = absurd (cc)
unchanged given content p (says.Ring row version) q = absurd (cc)
unchanged given content p (says.Long row version ticket) q = absurd (cc)
unchanged given content p (says.Give row version from) q = absurd (cc)
unchanged given content p _ q = tt

all_made : (given : Given) (content : ℕ → ℕ → List ℕ) (done all : List Placed) → AllContents given content done → Each (λ p. (row_change p.entry ≡ []) ⊎ IsAmong p done) all → AllContents given content all
all_made given content done [] a h = tt
all_made given content done (p ∷ ps) a h = (at h.0, all_made given content done ps a h.1) where
  at : (row_change p.entry ≡ []) ⊎ IsAmong p done → IsContent given content p p.entry
  at (inl q) = unchanged given content p p.entry q
  at (inr i) = among given content p done a i

pub replay_contents : (given : Given) (all done : List Placed) → IsReplayOf all done → AreContents given (content_in given done) all
replay_contents given all done r = record {
  opens = opened given done r.replayed;
  made = all_made given (content_in given done) done all (made_law given done r.replayed) r.whole;
}

own_each : (all ps : List Placed) → Each (λ p. IsAmong p all) ps → Each (λ p. (row_change p.entry ≡ []) ⊎ IsAmong p all) ps
own_each all [] a = tt
own_each all (p ∷ ps) a = (inr a.0, own_each all ps a.1)

pub replay_only : (given : Given) (content : ℕ → ℕ → List ℕ) (all done : List Placed) → IsReplayOf all done → AreContents given content all → AgreeOn done content (content_in given done)
replay_only given content all done r c =
    only_law_at given content done r.replayed (record { opens = c.opens; made = all_made given content all done c.made (own_each all done r.own) })

pub whole_law : WholeLaw
whole_law = record { contents = replay_contents; only = replay_only }
