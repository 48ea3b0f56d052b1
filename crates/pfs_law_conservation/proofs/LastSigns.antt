-- An info row says under a phase's end what the last action made of it that signed it.
use Rattle.std.proofs.Common.{◌≡◌, refl, ℕ, zero, suc, ◌<◌, ◌≤◌, ◌==◌, ◌&&◌, ◌||◌, Bool, true, false, cond, nat_lt, nat_le, List, Option, Some, None, sym, ap, subst, ◌∙◌, inl, inr, arith}
use Rattle.std.specs.Prelude.{IfSome, is_none}
use Rattle.std.proofs.lemmas.Bool.{leb-false, leb-true}
use Rattle.pfs_admin.specs.Works.{Sign}
use Rattle.pfs_law_session.specs.Demands.{signs_asked}
use Rattle.pfs_law_session.specs.Orders.{signed_words}
use Rattle.pfs_model.specs.Actions.{is_acted, Deed, deeds_of, IsAmong, StandsBefore, NeverFall}
use Rattle.pfs_model.specs.ActionAsks.{Did, did, signed_by, of_action}
use Rattle.pfs_model.specs.Chains.{Each, times, change_at, row_change, release_of, each_of, is_of, is_that, IsChained, opens_free, is_free_after}
use Rattle.pfs_model.specs.EntryPlaces.{Placed}
use Rattle.pfs_law_conservation.proofs.InfoActions.{names, signs_at, named, named_is, deed_of, deed_named, deeds_named, deed_range, IsAbove, Class, IsReleased, IsWritten, classify}
use Rattle.pfs_law_conservation.proofs.InfoNews.{news}
use Rattle.pfs_law_conservation.proofs.VersionActions.{SaysWords, SaysHad, IsMadeBy, maker, tagger, IsFreedBy, freer, releaser, deed_change}

abbrev pub version_of : List Placed → ℕ → ℕ
version_of ps row = times (is_of row) (each_of row_change ps)

-- what is known of entries: info rows are changed by tags alone; what an action does has its number, from 1 to n; tags
-- write the words of their action; releases name versions that were; the versions of a row are a chain, and along it
-- the numbers of actions never fall
pub record IsKnown (n : ℕ) (content words : ℕ → ℕ → List ℕ) (ps : List Placed) : Type 0 where
  pub above : Each (λ (p : Placed). IsAbove p.entry) ps
  pub range : Each (λ (p : Placed). is_acted p.entry ≡ true → (1 ≤ p.context.action) × (p.context.action ≤ n)) ps
  pub says : Each (λ (p : Placed). SaysWords content words p.context.action p.entry) ps
  pub had : Each (λ (p : Placed). SaysHad (version_of ps) p.entry) ps
  pub chain : IsChained (each_of row_change ps)
  pub ordered : NeverFall (deeds_of ps)

-- and of the actions, for a row: each does its signs, no row twice, and what is to be said goes by them
pub record AreSigned (n : ℕ) (signs : ℕ → List Sign) (words : ℕ → ℕ → List ℕ) (row : ℕ) (said : ℕ → Option (List ℕ)) (ps : List Placed) : Type 0 where
  pub count : (k : ℕ) → 1 ≤ k → k ≤ n → times (names row) (each_of did (of_action k ps)) ≡ times (signs_at row) (signs k)
  pub among : (k : ℕ) → 1 ≤ k → k ≤ n → (d : Did) → IsAmong d (signed_by (signs_asked (signs k))) → IsAmong d (each_of did (of_action k ps))
  pub once : (k : ℕ) → 1 ≤ k → k ≤ n → times (signs_at row) (signs k) ≤ 1
  pub wording : (k : ℕ) → words k row ≡ signed_words (signs k) row
  pub opens : said 0 ≡ None
  pub steps : (k : ℕ) → k < n → said (suc k) ≡ news (signs (suc k)) row (said k)

-- the row is FREE where nothing is to be said, and else has these words at its last version
pub record Says (content : ℕ → ℕ → List ℕ) (ps : List Placed) (row : ℕ) (said : Option (List ℕ)) : Type 0 where
  pub free : is_free_after ps row ≡ is_none said
  pub words : IfSome said (λ words. content row (version_of ps row) ≡ words)

yes_free : (m v : ℕ) (b : Bool) → 1 ≤ m → nat_lt 0 m || ((v == 0) && b) ≡ true
yes_free m v b l = ap (λ z. z || ((v == 0) && b)) (positive m l) where
  positive : (m : ℕ) → 1 ≤ m → nat_lt 0 m ≡ true
  positive m l = grind arith

opening_free : (m v row : ℕ) → v ≡ 0 → 0 < row → row < 129 → nat_lt 0 m || ((v == 0) && opens_free row) ≡ true
opening_free m v row e l h = ap (λ z. nat_lt 0 m || ((z == 0) && opens_free row)) e ∙ (ap (λ z. nat_lt 0 m || z) (opens row l h) ∙ either (nat_lt 0 m)) where
  opens : (row : ℕ) → 0 < row → row < 129 → opens_free row ≡ true
  opens row l h = ap (λ z. (z && nat_lt row 129) || nat_le 8450 row) (up row l) ∙ ap (λ z. z || nat_le 8450 row) (low row h) where
    up : (row : ℕ) → 0 < row → nat_lt 0 row ≡ true
    up row l = grind arith

    low : (row : ℕ) → row < 129 → nat_lt row 129 ≡ true
    low row h = grind arith

  either : (b : Bool) → b || true ≡ true
  either true = refl
  either false = refl

not_free : (m v : ℕ) (b : Bool) → (1 ≤ m → ⊥) → 1 ≤ v → nat_lt 0 m || ((v == 0) && b) ≡ false
not_free m v b n l = ap (λ z. z || ((v == 0) && b)) (none (nat_lt 0 m) refl) ∙ ap (λ z. z && b) (apart v l) where
  up : (m : ℕ) → nat_lt 0 m ≡ true → 1 ≤ m
  up m q = grind arith

  none : (z : Bool) → nat_lt 0 m ≡ z → z ≡ false
  none true q = absurd (n (up m q))
  none false q = refl

  apart : (v : ℕ) → 1 ≤ v → (v == 0) ≡ false
  apart v l = grind arith

module _ (n : ℕ) (signs : ℕ → List Sign) (content words : ℕ → ℕ → List ℕ) (row : ℕ) (said : ℕ → Option (List ℕ)) (ps : List Placed) (positive : 0 < row) (low : row < 129)
    (known : IsKnown n content words ps) (signed : AreSigned n signs words row said ps) where
  -- a deed is of an action that signs the row
  by_signs : (action version : ℕ) (releases : Bool) → IsAmong (deed_of action row version releases) (deeds_of ps) → ((1 ≤ action) × (action ≤ n)) × (1 ≤ times (signs_at row) (signs action))
  by_signs action version releases m =
      let r : (1 ≤ action) × (action ≤ n) = deed_range n (deed_of action row version releases) ps known.range m in
      let k : 1 ≤ named row action ps = deed_named row low (deed_of action row version releases) ps known.above refl m in
      (r, subst (λ z. 1 ≤ z) (sym (named_is row action ps) ∙ signed.count action r.0 r.1) k)

  -- and its only one there
  alone : (action v w : ℕ) (x y : Bool) → IsAmong (deed_of action row v x) (deeds_of ps) → IsAmong (deed_of action row w y) (deeds_of ps) → (deed_of action row v x ≡ deed_of action row w y → ⊥) → ⊥
  alone action v w x y m o ne =
      let r : ((1 ≤ action) × (action ≤ n)) × (1 ≤ times (signs_at row) (signs action)) = by_signs action v x m in
      let k : 2 ≤ named row action ps = deeds_named row low (deed_of action row v x) (deed_of action row w y) ps known.above refl refl refl ne m o in
      let e : named row action ps ≡ times (signs_at row) (signs action) = sym (named_is row action ps) ∙ signed.count action r.0.0 r.0.1 in
      let o : times (signs_at row) (signs action) ≤ 1 = signed.once action r.0.0 r.0.1 in
      absurd (omega (arith, k, e, o))

  -- a version from 1 to the last has a change
  chained : (version : ℕ) → 1 ≤ version → version ≤ version_of ps row → 1 ≤ times (is_that (change_at row version)) (each_of row_change ps)
  chained version l h = subst (λ z. 1 ≤ z) (sym (known.chain (change_at row version) ∙ ap (λ b. cond {A = ℕ} b 1 0) (both version (version_of ps row) l h))) (omega arith) where
    both : (v m : ℕ) → 1 ≤ v → v ≤ m → (nat_lt 0 v && nat_le v m) ≡ true
    both v m l h = grind arith

  ranged : (version : ℕ) → 1 ≤ times (is_that (change_at row version)) (each_of row_change ps) → (1 ≤ version) × (version ≤ version_of ps row)
  ranged version l = on (nat_lt 0 version) refl (nat_le version (version_of ps row)) refl (known.chain (change_at row version)) where
    up : (v : ℕ) → nat_lt 0 v ≡ true → 1 ≤ v
    up v q = grind arith

    on : (a : Bool) → nat_lt 0 version ≡ a → (b : Bool) → nat_le version (version_of ps row) ≡ b → times (is_that (change_at row version)) (each_of row_change ps) ≡ cond (a && b) 1 0 → (1 ≤ version) × (version ≤ version_of ps row)
    on true q true r e = (up version q, leb-true version (version_of ps row) r)
    on true q false r e = absurd (omega (arith, l, e))
    on false q b r e = absurd (omega (arith, l, e))

  -- no action behind this one signs the row
  abbrev Quiet : ℕ → Type 0
  Quiet k = (later : ℕ) → k < later → later ≤ n → times (signs_at row) (signs later) ≡ 0

  not_later : (k action version : ℕ) (releases : Bool) → Quiet k → IsAmong (deed_of action row version releases) (deeds_of ps) → action ≤ k
  not_later k action version releases quiet m = on (nat_le action k) refl where
    r : ((1 ≤ action) × (action ≤ n)) × (1 ≤ times (signs_at row) (signs action))
    r = by_signs action version releases m

    on : (b : Bool) → nat_le action k ≡ b → action ≤ k
    on true q = leb-true action k q
    on false q = (let z : times (signs_at row) (signs action) ≡ 0 = quiet action (leb-false action k q) r.0.1 in
        let o : 1 ≤ times (signs_at row) (signs action) = r.1 in
        absurd (omega (arith, z, o)))

  -- no deed stands before another of an action up to it
  before : (first next v w : ℕ) (x y : Bool) → IsAmong (deed_of first row v x) (deeds_of ps) → IsAmong (deed_of next row w y) (deeds_of ps)
      → StandsBefore (deed_of first row v x) (deed_of next row w y) → next ≤ first → (deed_of first row v x ≡ deed_of first row w y → ⊥) → ⊥
  before first next v w x y m o s l ne =
      let r : first ≤ next = known.ordered (deed_of first row v x) (deed_of next row w y) m o s in
      let e : next ≡ first = omega (arith, l, r) in
      alone first v w x y m (subst (λ z. IsAmong (deed_of z row w y) (deeds_of ps)) e o) ne

  -- the last version's maker stands no later than the deed of the last action
  last_made : (k v : ℕ) (x : Bool) → Quiet k → IsAmong (deed_of k row v x) (deeds_of ps) → v < version_of ps row → ⊥
  last_made k v x quiet m l = on (maker content words row low (version_of ps row) ps known.above known.says (chained (version_of ps row) (omega (arith, l)) (omega arith))) where
    on : (action : ℕ) × IsMadeBy content words row (version_of ps row) action ps → ⊥
    on (action, b) =
        before k action v (version_of ps row) x false m b.among (refl, inl l) (not_later k action (version_of ps row) false quiet b.among)
        (λ e. let f : v ≡ version_of ps row = ap (λ (d : Deed). d.version) e in absurd (omega (arith, f, l)))

  -- no action signs it
  none_says : Quiet 0 → Says content ps row None
  none_says quiet = record { free = opening_free _ (version_of ps row) row (empty (version_of ps row) refl) positive low; words = tt } where
    empty : (v : ℕ) → version_of ps row ≡ v → v ≡ 0
    empty zero e = refl
    empty (suc v) e = on (maker content words row low (version_of ps row) ps known.above known.says (chained (version_of ps row) (omega (arith, e)) (omega arith))) where
      on : (action : ℕ) × IsMadeBy content words row (version_of ps row) action ps → suc v ≡ 0
      on (action, b) =
          let l : action ≤ 0 = not_later 0 action (version_of ps row) false quiet b.among in
          let r : 1 ≤ action = (by_signs action (version_of ps row) false b.among).0.0 in
          absurd (omega (arith, l, r))

  -- the last that signs it releases it
  freed_says : (k : ℕ) → 1 ≤ k → k ≤ n → Quiet k → IsReleased (signs k) row → Says content ps row None
  freed_says k l h quiet c = on (releaser (version_of ps) row k ps known.had (signed.among k l h _ c.among)) where
    on : (version : ℕ) × IsFreedBy (version_of ps) row version k ps → Says content ps row None
    on (version, b) = record { free = yes_free _ (version_of ps row) (opens_free row) (at (nat_le (version_of ps row) version) refl); words = tt } where
      at : (z : Bool) → nat_le (version_of ps row) version ≡ z → 1 ≤ times (is_that (change_at row (version_of ps row))) (each_of release_of ps)
      at true q =
          let h : version ≤ version_of ps row = b.had in
          let g : version_of ps row ≤ version = leb-true (version_of ps row) version q in
          let e : version ≡ version_of ps row = omega (arith, h, g) in
          subst (λ v. 1 ≤ times (is_that (change_at row v)) (each_of release_of ps)) e b.stands
      at false q = absurd (last_made k version true quiet b.among (leb-false (version_of ps row) version q))

  -- the last that signs it writes it
  written_says : (k : ℕ) → 1 ≤ k → k ≤ n → Quiet k → (new : List ℕ) → IsWritten (signs k) row new → Says content ps row (Some new)
  written_says k l h quiet new c = on (tagger content words row low k ps known.says (signed.among k l h _ c.among)) where
    on : (version : ℕ) × IsMadeBy content words row version k ps → Says content ps row (Some new)
    on (version, b) = record {
      free = not_free _ (version_of ps row) (opens_free row) unreleased (omega (arith, r.0, r.1));
      words = ap (content row) (sym is) ∙ (b.wrote ∙ (signed.wording k ∙ c.says));
    } where
      r : (1 ≤ version) × (version ≤ version_of ps row)
      r = ranged version (deed_change k row version ps b.among)

      at : (z : Bool) → nat_le (version_of ps row) version ≡ z → version ≡ version_of ps row
      at true q = (let g : version_of ps row ≤ version = leb-true (version_of ps row) version q in let f : version ≤ version_of ps row = r.1 in omega (arith, f, g))
      at false q = absurd (last_made k version false quiet b.among (leb-false (version_of ps row) version q))

      is : version ≡ version_of ps row
      is = at (nat_le (version_of ps row) version) refl

      unreleased : 1 ≤ times (is_that (change_at row (version_of ps row))) (each_of release_of ps) → ⊥
      unreleased s = by (freer (version_of ps) row (version_of ps row) ps known.had s) where
        by : (action : ℕ) × IsFreedBy (version_of ps) row (version_of ps row) action ps → ⊥
        by (action, f) =
            before k action version (version_of ps row) false true b.among f.among (refl, inr (is, refl, refl)) (not_later k action (version_of ps row) true quiet f.among)
            (λ e. absurd (let t : false ≡ true = ap (λ (d : Deed). d.releases) e in cc))

  says_to : (k : ℕ) → k ≤ n → Quiet k → Says content ps row (said k)
  says_to zero l quiet = subst (Says content ps row) (sym signed.opens) (none_says quiet)
  says_to (suc k) l quiet = on (classify row (signs (suc k))) (λ q. says_to k (omega (arith, l)) q) where
    step : said (suc k) ≡ news (signs (suc k)) row (said k)
    step = signed.steps k (omega (arith, l))

    on : Class (signs (suc k)) row → (Quiet k → Says content ps row (said k)) → Says content ps row (said (suc k))
    on (inl c) go = subst (Says content ps row) (sym (step ∙ c.same (said k))) (go earlier) where
      earlier : Quiet k
      earlier later a b = at (nat_le later (suc k)) refl where
        at : (z : Bool) → nat_le later (suc k) ≡ z → times (signs_at row) (signs later) ≡ 0
        at true q =
            let u : later ≤ suc k = leb-true later (suc k) q in
            let e : suc k ≡ later = omega (arith, u, a) in
            subst (λ z. times (signs_at row) (signs z) ≡ 0) e c.none
        at false q = quiet later (leb-false later (suc k) q) b
    on (inr (inl c)) go = subst (Says content ps row) (sym (step ∙ c.new (said k))) (freed_says (suc k) (omega arith) l quiet c)
    on (inr (inr (new, c))) go = subst (Says content ps row) (sym (step ∙ c.new (said k))) (written_says (suc k) (omega arith) l quiet new c)

  pub says_last : Says content ps row (said n)
  says_last = says_to n (omega arith) (λ later a b. absurd (omega (arith, a, b)))
