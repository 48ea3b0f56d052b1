-- The steps on a word: a seat's load, the writer's load and its store.
use Rattle.std.proofs.Common.{◌≡◌, ℕ, subst, ◌+◌, ◌/◌, ◌%◌, ◌<◌, ◌≤◌, ◌≢◌, true, false, List, ◌∷◌, length, get_or, set, sym, refl, ap, ◌∙◌, ⊎_elim, arith, length-set, get_or-set_other, get_or-set_same}
use mathlib.Core.Logic.{dite}
use mathlib.Core.Option.{some, none, some-injective}
use native.Mathlib.Decide.{ℕ_discrete}
use lib.ListN.{get_elem?}
use lib.Seq.{set-get_or}
use Rattle.atomic_table.specs.Table.{State, Me, step, keeps, stepped, Allows}
use Rattle.atomic_table.proofs.Lists.{at_set, set_here, set_else}
use Rattle.pfs_switches.specs.declared.view.Loaded.{Loaded}
use Rattle.pfs_switches.specs.declared.view.Met.{Met}
use Rattle.pfs_switches.specs.declared.view.Setting.{Setting}
use Rattle.pfs_switches.specs.declared.view.View.{View}
use Rattle.pfs_switches.specs.History.{Each, version, flags_at, setting}
use Rattle.pfs_switches.specs.Knowledge.{last_version, loaded, was_set}
use Rattle.pfs_switches.specs.Plays.{looks, weighs, sets, tells, checks}
use Rattle.pfs_switches.specs.Rule.{IsLoad, IsMeet, Fits, IsWriter, IsWord, Ruled}
use Rattle.pfs_switches.proofs.HistoryFacts.{each_map, version_here, version_other, version_more, flags_here, flags_other, flags_later}
use Rattle.pfs_switches.proofs.StepNumbers.{Near, numbers_set}
use Rattle.pfs_switches.proofs.MeetKnowledge.{told}
use Rattle.pfs_switches.proofs.ViewFacts.{at_below, seen_set}

module _ (start : List ℕ) where
  -- what was known stays so where the seat has seen more
  pub more_seen : (log : List Setting) (seen seen' : List ℕ) → ((r : ℕ) → get_or seen r 0 ≤ get_or seen' r 0) → (xs : List Loaded) → Each (IsLoad start log (λ r. get_or seen r 0)) xs → Each (IsLoad start log (λ r. get_or seen' r 0)) xs
  more_seen log seen seen' up xs e = each_map (IsLoad start log (λ r. get_or seen r 0)) (IsLoad start log (λ r. get_or seen' r 0))
      (λ x g. let b = g.below in let u = up x.word in record { below = omega arith; flags_are = g.flags_are; least_is = g.least_is; first_is = g.first_is }) xs e

  pub more_met : (log : List Setting) (seen seen' : List ℕ) → ((r : ℕ) → get_or seen r 0 ≤ get_or seen' r 0) → (ms : List Met) → Each (IsMeet start log (λ r. get_or seen r 0)) ms → Each (IsMeet start log (λ r. get_or seen' r 0)) ms
  more_met log seen seen' up ms e = each_map (IsMeet start log (λ r. get_or seen r 0)) (IsMeet start log (λ r. get_or seen' r 0)) (λ m g. record { below = λ r. let b = g.below r in let u = up r in omega arith; least_is = g.least_is; start_is = g.start_is }) ms e

  -- a set leaves what a seat knows
  pub fits_later : (log : List Setting) (p : Setting) → p.version ≡ version log p.word + 1 → (v : View) → Fits start log v → Fits start (p ∷ log) v
  fits_later log p numbered v f = record {
    start_is = f.start_is;
    wide = f.wide;
    seen = λ r. let a = f.seen r in let b = version_more p log r in omega arith;
    first = f.first;
    loads = each_map (IsLoad start log (λ r. get_or v.seen r 0)) (IsLoad start (p ∷ log) (λ r. get_or v.seen r 0))
        (λ x g. let b = g.below in let c = f.seen x.word in record { below = g.below; flags_are = g.flags_are ∙ sym (flags_later p log start x.word x.version numbered (omega arith)); least_is = g.least_is; first_is = g.first_is }) v.loads f.loads;
    meets = each_map (IsMeet start log (λ r. get_or v.seen r 0)) (IsMeet start (p ∷ log) (λ r. get_or v.seen r 0)) (λ m g. record { below = g.below; least_is = g.least_is; start_is = g.start_is }) v.meets f.meets;
    order = f.order;
  }

module _ (S : Type 0) (start : List ℕ) where
  abbrev St : Type 0
  St = State S View

  abbrev M : Type 0
  M = Me S View

  abbrev Rule : St → Type 0
  Rule = Ruled {S = S} start

  pub writer_here : (s : St) (r : Rule s) (id : ℕ) (v : View) → get_elem? s.views id ≡ some v → v.writes ≡ true → IsWriter start r.log v
  writer_here s r id v at writes = let e = r.only id v at writes in subst (IsWriter start r.log) (some-injective _ _ (sym r.writer.1 ∙ (ap (get_elem? s.views) (sym e) ∙ at))) r.writer.2

  -- the writer, after a seat's view was changed
  pub writer_set : (s : St) (r : Rule s) (log' : List Setting) (id : ℕ) (v w : View) → get_elem? s.views id ≡ some v → (IsWriter start r.log v → IsWriter start log' w) → (r.pen ≢ id → (u : View) → IsWriter start r.log u → IsWriter start log' u)
      → (u : View) × (get_elem? (set s.views id w) r.pen ≡ some u) × IsWriter start log' u
  writer_set s r log' id v w at own other = dite (ℕ_discrete r.pen id)
      (λ e. (w, ap (get_elem? (set s.views id w)) e ∙ set_here s.views id w (at_below s.views id v at), own (subst (IsWriter start r.log) (some-injective _ _ (sym r.writer.1 ∙ (ap (get_elem? s.views) e ∙ at))) r.writer.2)))
      (λ n. (r.writer.0, set_else s.views id r.pen w n ∙ r.writer.1, other n r.writer.0 r.writer.2))

  pub only_set : (s : St) (r : Rule s) (id : ℕ) (v w : View) → get_elem? s.views id ≡ some v → w.writes ≡ v.writes → (j : ℕ) (u : View) → get_elem? (set s.views id w) j ≡ some u → u.writes ≡ true → j ≡ r.pen
  only_set s r id v w at same j u there writes = ⊎_elim (λ (h : (j ≡ id) × (w ≡ u)). h.0 ∙ r.only id v at (sym same ∙ (ap (λ (x : View). x.writes) h.1 ∙ writes))) (λ (h : (j ≢ id) × (get_elem? s.views j ≡ some u)). r.only j u h.1 writes) (at_set s.views id j w u there)

  pub seats_set : (s : St) (r : Rule s) (log' : List Setting) (id : ℕ) (w : View) → Fits start log' w → ((u : View) → Fits start r.log u → Fits start log' u) → (j : ℕ) (u : View) → get_elem? (set s.views id w) j ≡ some u → u.live ≡ true → Fits start log' u
  seats_set s r log' id w mine later j u there live = ⊎_elim (λ (h : (j ≡ id) × (w ≡ u)). subst (Fits start log') h.1 mine) (λ (h : (j ≢ id) × (get_elem? s.views j ≡ some u)). later u (r.seats j u h.1 live)) (at_set s.views id j w u there)

  -- a step that changes no word
  pub unmoved : (s : St) (r : Rule s) (i id : ℕ) (cs : List (ℕ × S)) (v w : View) → get_elem? s.views id ≡ some v → w.writes ≡ v.writes → Near v w → (IsWriter start r.log v → IsWriter start r.log w) → Fits start r.log w → Rule (stepped s i (get_or s.words i 0) id cs w keeps)
  unmoved s r i id cs v w at same near own mine = subst (λ (ws : List ℕ). Rule record { words = ws; homes = s.homes; views = set s.views id w }) (sym (set-get_or s.words i 0)) record {
    log = r.log;
    pen = r.pen;
    wide = r.wide;
    chain = r.chain;
    writer = writer_set s r r.log id v w at own (λ _ u g. g);
    only = only_set s r id v w at same;
    seats = seats_set s r r.log id w mine (λ u g. g);
    words = r.words;
    numbers = numbers_set s.views id v w at near r.numbers;
  }

  looked : (log : List Setting) (v : View) (q k flags : ℕ) → q < length start → k ≡ version log q → flags ≡ flags_at start log q k → Fits start log v → Fits start log (loaded v q k flags)
  looked log v q k flags inside version_is flags_is f = let wide = f.wide in let within : q < length v.seen = omega arith in let had = f.seen q in
      let up : (r : ℕ) → get_or v.seen r 0 ≤ get_or (set v.seen q k) r 0 = seen_set (λ r n. get_or v.seen r 0 ≤ n) v.seen q k within (omega arith) (λ r _. omega arith) in
      let now : get_or (set v.seen q k) q 0 ≡ k = get_or-set_same v.seen q k 0 within in record {
        start_is = f.start_is;
        wide = length-set v.seen q k ∙ f.wide;
        seen = seen_set (λ r n. n ≤ version log r) v.seen q k within (omega arith) (λ r _. f.seen r);
        first = λ r. let a = f.first r in let b = up r in omega arith;
        loads = (record { below = omega arith; flags_are = flags_is; least_is = omega arith; first_is = f.first q }, more_seen start log v.seen (set v.seen q k) up v.loads f.loads);
        meets = more_met start log v.seen (set v.seen q k) up v.meets f.meets;
        order = let o = f.order in record {
          places = ((λ _. omega arith), each_map (λ (x : Loaded). x.by ≡ v.number → x.place < v.made) (λ (x : Loaded). x.by ≡ v.number → x.place < v.made + 1) (λ x g e. let b = g e in omega arith) v.loads o.places);
          meets = each_map (λ (m : Met). m.by ≡ v.number → m.place ≤ v.made) (λ (m : Met). m.by ≡ v.number → m.place ≤ v.made + 1) (λ m g e. let b = g e in omega arith) v.meets o.meets;
          rising = (each_map (IsLoad start log (λ r. get_or v.seen r 0)) (λ (y : Loaded). y.by ≡ v.number → y.word ≡ q → y.version ≤ k) (λ y g _ e. let b = g.below in let z = ap (λ i. get_or v.seen i 0) e in omega arith) v.loads f.loads, o.rising);
          above = (each_map (IsMeet start log (λ r. get_or v.seen r 0)) (λ (m : Met). m.by ≡ v.number → m.place ≤ v.made → get_or m.versions q 0 ≤ k) (λ m g _ _. let b = g.below q in omega arith) v.meets f.meets, o.above);
          own = λ n. let a = o.own n in ((refl, a.0), a.1);
        };
      }

  pub look_keeps : (slots id : ℕ) (me : M) (q : ℕ) → q < length start → me.0.live ≡ true → me.0.writes ≡ false → Allows Rule slots id me q (λ n. n) (looks (step slots q 0 0 none) me)
  look_keeps slots id me q inside live reads s r _ at _ = let v : View = me.0 in let n : ℕ = get_or s.words q 0 in let k : ℕ = n / 65536 in let w : View = loaded v q k (n % 65536) in let f = r.seats id v at live in
      let g = r.words q inside in let a = g.word_is in let b = g.flags_fit in let had = f.seen q in
      let version_is : k ≡ version r.log q = omega arith in let flags_is : n % 65536 ≡ flags_at start r.log q (version r.log q) = omega arith in (
        w,
        keeps,
        tt,
        unmoved s r q id me.1 v w at refl record { seated_is = refl; number_is = refl; seats_are = refl; makers_are = λ P here m. ((here, m.0), m.1) } (λ (x : IsWriter start r.log v). let z : true ≡ false = sym x.writing ∙ reads in cc) (looked r.log v q k (n % 65536) inside version_is (flags_is ∙ ap (flags_at start r.log q) (sym version_is)) f),
        (refl, omega arith),
      )

  pub weigh_keeps : (slots id : ℕ) (me : M) (q : ℕ) → q < length start → me.0.live ≡ true → me.0.writes ≡ true → Allows Rule slots id me q (λ n. n) (weighs (step slots q 0 0 none) me)
  weigh_keeps slots id me q inside live writes s r _ at _ = let v : View = me.0 in let n : ℕ = get_or s.words q 0 in
      let g = r.words q inside in let a = g.word_is in let b = g.flags_fit in let c = g.version_fits in let had = (writer_here s r id v at writes).seen q inside in (
        v,
        keeps,
        tt,
        unmoved s r q id me.1 v v at refl record { seated_is = refl; number_is = refl; seats_are = refl; makers_are = λ P _ m. m } (λ x. x) (r.seats id v at live),
        (refl, omega arith, omega arith),
      )

  pub tell_keeps : (slots id : ℕ) (me : M) (q : ℕ) → me.0.live ≡ true → me.0.writes ≡ true → Allows Rule slots id me q (λ n. n) (tells (step slots q 0 0 none) me)
  tell_keeps slots id me q live writes s r _ at _ = let v : View = me.0 in let f = r.seats id v at live in (
    v,
    keeps,
    tt,
    unmoved s r q id me.1 v v at refl record { seated_is = refl; number_is = refl; seats_are = refl; makers_are = λ P _ m. m } (λ x. x) f,
    (refl, told start r.log v v r.chain f (writer_here s r id v at writes)),
  )

  pub check_keeps : (slots id : ℕ) (me : M) (q : ℕ) → q < length start → me.0.live ≡ true → me.0.writes ≡ true → Allows Rule slots id me q (λ n. n) (checks (step slots q 0 0 none) me)
  check_keeps slots id me q inside live writes s r _ at _ = let v : View = me.0 in let n : ℕ = get_or s.words q 0 in let k : ℕ = n / 65536 in let w : View = loaded v q k (n % 65536) in let f = r.seats id v at live in
      let own = writer_here s r id v at writes in let had = own.seen q inside in let g = r.words q inside in let a = g.word_is in let b = g.flags_fit in let wide = f.wide in let within : q < length v.seen = omega arith in
      let version_is : k ≡ version r.log q = omega arith in let flags_is : n % 65536 ≡ flags_at start r.log q (version r.log q) = omega arith in let flags_now : n % 65536 ≡ flags_at start r.log q k = flags_is ∙ ap (flags_at start r.log q) (sym version_is) in
      let mine : Fits start r.log w = looked r.log v q k (n % 65536) inside version_is flags_now f in
      let writing : IsWriter start r.log w = record { writing = writes; here = live; sets = own.sets; seen = seen_set (λ j m. j < length start → m ≡ version r.log j) v.seen q k within (λ _. version_is) (λ j _ low. own.seen j low) } in (
        w,
        keeps,
        tt,
        unmoved s r q id me.1 v w at refl record { seated_is = refl; number_is = refl; seats_are = refl; makers_are = λ P here m. ((here, m.0), m.1) } (λ _. writing) mine,
        (refl, version_is ∙ sym had, flags_now ∙ (λ i. flags_at (sym f.start_is i) (sym own.sets i) q k), told start r.log w v r.chain mine own),
      )

  pub set_keeps : (slots id : ℕ) (me : M) (q x : ℕ) → q < length start → me.0.live ≡ true → me.0.writes ≡ true → x / 65536 ≡ get_or me.0.seen q 0 + 1 → x / 65536 ≤ last_version → Allows Rule slots id me q (λ _. x) (λ _. sets (step slots q x 0 none) me x)
  set_keeps slots id me q x inside live writes next room s r _ at _ = let v : View = me.0 in let k : ℕ = x / 65536 in let w : View = was_set v q k (x % 65536) in let f = r.seats id v at live in
      let own = writer_here s r id v at writes in let had = own.seen q inside in let p : Setting = setting q k (x % 65536) in let log' : List Setting = p ∷ r.log in
      let numbered : k ≡ version r.log q + 1 = omega arith in let wide = f.wide in let words_wide = r.wide in let within : q < length v.seen = omega arith in
      let here : version log' q ≡ version r.log q + 1 = version_here p r.log q refl in
      let later : (u : View) → Fits start r.log u → Fits start log' u = λ u g. fits_later start r.log p numbered u g in let l = later v f in
      let up : (j : ℕ) → get_or v.seen j 0 ≤ get_or (set v.seen q k) j 0 = seen_set (λ j n. get_or v.seen j 0 ≤ n) v.seen q k within (omega arith) (λ j _. omega arith) in
      let mine : Fits start log' w = record {
        start_is = f.start_is;
        wide = length-set v.seen q k ∙ f.wide;
        seen = seen_set (λ j n. n ≤ version log' j) v.seen q k within (omega arith) (λ j _. l.seen j);
        first = λ j. let a = f.first j in let b = up j in omega arith;
        loads = more_seen start log' v.seen (set v.seen q k) up v.loads l.loads;
        meets = more_met start log' v.seen (set v.seen q k) up v.meets l.meets;
        order = let o = f.order in record { places = o.places; meets = o.meets; rising = o.rising; above = o.above; own = o.own };
      } in
      let writing : IsWriter start log' w = record {
        writing = writes;
        here = live;
        sets = ap (λ z. p ∷ z) own.sets;
        seen = seen_set (λ j n. j < length start → n ≡ version log' j) v.seen q k within (λ _. omega arith) (λ j n low. own.seen j low ∙ sym (version_other p r.log j (λ e. n (sym e))));
      } in
      let pen_is = r.only id v at writes in (
        w,
        keeps,
        tt,
        record {
          log = log';
          pen = r.pen;
          wide = length-set s.words q x ∙ r.wide;
          chain = (numbered, r.chain);
          writer = writer_set s r log' id v w at (λ _. writing) (λ n. absurd (n (sym pen_is)));
          only = only_set s r id v w at refl;
          seats = seats_set s r log' id w mine later;
          numbers = numbers_set s.views id v w at record { seated_is = refl; number_is = refl; seats_are = refl; makers_are = λ P _ m. m } r.numbers;
          words = λ j low. dite (ℕ_discrete j q)
              (λ e. subst (IsWord start log' (set s.words q x)) (sym e) (let flags_now : flags_at start log' q (version log' q) ≡ x % 65536 = flags_here p r.log start q (version log' q) refl (numbered ∙ sym here) in
              let word_now : get_or (set s.words q x) q 0 ≡ x = get_or-set_same s.words q x 0 (omega arith) in record { word_is = omega arith; flags_fit = omega arith; version_fits = omega arith }))
              (λ n. let g = r.words j low in let other : q ≢ j = λ e. n (sym e) in let version_now : version log' j ≡ version r.log j = version_other p r.log j other in
              let flags_now : flags_at start log' j (version log' j) ≡ flags_at start r.log j (version r.log j) = flags_other p r.log start j (version log' j) other ∙ ap (flags_at start r.log j) version_now in
              let word_now : get_or (set s.words q x) j 0 ≡ get_or s.words j 0 = get_or-set_other s.words q j x 0 n in let a = g.word_is in let b = g.flags_fit in let c = g.version_fits in
              record { word_is = omega arith; flags_fit = omega arith; version_fits = omega arith });
        },
        refl,
      )
