-- Entries of a kind that stand only behind an entry that they come from: of a part, if its line asks for them only there.
use Rattle.std.proofs.Common.{◌≡◌, refl, ℕ, Bool, true, false, ◌&&◌, ◌||◌, not, cond, List, [], ◌∷◌, ◌++◌, sym, subst, Option}
use Rattle.std.specs.Prelude.{Ok, Err, if◌then◌else◌}
use Rattle.std.proofs.lemmas.Bool.{and_from, and_parts}
use Rattle.pfs_event.specs.declared.entry.Entry.{Entry}
use Rattle.pfs_model.specs.EntryAsks.{fits, is_head}
use Rattle.pfs_model.specs.Cuts.{behind, step, then_cut, cut}
use Rattle.pfs_model.specs.Shapes.{ending, ending_first, ending_stage, ending_both, is_stage}
use Rattle.pfs_model.specs.declared.lines.Opened.{Opened}
use Rattle.pfs_model.specs.declared.shapes.Ask.{Ask}
use Rattle.pfs_model.specs.declared.shapes.Item.{Item}
use Rattle.pfs_model.specs.declared.shapes.Often.{Often}
use Rattle.pfs_model.specs.declared.shapes.Often.TheVariants.{One, Maybe, Many}

-- whether a source is at hand behind an entry
abbrev pub reach : (Entry → Bool) → Bool → Entry → Bool
reach is_source hand entry = cond (is_head entry) (is_source entry) hand

-- no entry of the kind stands where no source is at hand
abbrev pub AreSourced : (Entry → Bool) → (Entry → Bool) → Bool → List Entry → Type 0
AreSourced is_kind is_source hand [] = Unit {0}
AreSourced is_kind is_source hand (entry ∷ entries) =
    (hand ≡ false → is_kind entry ≡ false) × AreSourced is_kind is_source (reach is_source hand entry) entries

-- whether a source is at hand behind an item, and whether the item may be asked
abbrev pub leaves : (Ask → Bool → Bool) → Often → Ask → Bool → Bool
leaves then_hand One ask hand = then_hand ask hand
leaves then_hand Maybe ask hand = hand && then_hand ask hand
leaves then_hand Many ask hand = false

abbrev pub may : (Ask → Bool) → Often → Ask → Bool → Bool
may asks_kind One ask hand = not (asks_kind ask) || hand
may asks_kind Maybe ask hand = not (asks_kind ask) || hand
may asks_kind Many ask hand = not (asks_kind ask)

-- entries of the kind are asked only where a source is at hand
abbrev pub guards : (Ask → Bool) → (Ask → Bool → Bool) → Bool → List Item → Bool
guards asks_kind then_hand hand [] = true
guards asks_kind then_hand hand (item ∷ items) =
    may asks_kind item.often item.ask hand && guards asks_kind then_hand (leaves then_hand item.often item.ask hand) items

pub record SourcedKind : Type 0 where
  pub is_kind : Entry → Bool
  pub is_source : Entry → Bool
  pub asks_kind : Ask → Bool
  pub then_hand : Ask → Bool → Bool
  -- what isn't asked as one is none
  pub quiet : (ask : Ask) (entry : Entry) → not (asks_kind ask) ≡ true → fits ask entry ≡ true → is_kind entry ≡ false
  -- a source at hand behind what is asked is at hand behind the entry
  pub handed : (ask : Ask) (entry : Entry) (hand : Bool) → fits ask entry ≡ true → then_hand ask hand ≡ true → cond (is_head entry) (is_source entry) hand ≡ true
  -- more is asked where a source is at hand
  pub then_more : (ask : Ask) → then_hand ask false ≡ true → then_hand ask true ≡ true

module _ (kind : SourcedKind) where
  abbrev Behind : Bool → List Entry → Type 0
  Behind = AreSourced kind.is_kind kind.is_source

  abbrev guarded : Bool → List Item → Bool
  guarded = guards kind.asks_kind kind.then_hand

  pub sourced_more : (hand : Bool) (entries : List Entry) → Behind false entries → Behind hand entries
  sourced_more false entries p = p
  sourced_more true [] p = tt
  sourced_more true (e ∷ es) p = ((λ q. absurd (cc)), at (is_head e) refl p.1 (sourced_more true es)) where
    at : (b : Bool) → is_head e ≡ b → Behind (cond (is_head e) (kind.is_source e) false) es → (Behind false es → Behind true es) → Behind (cond (is_head e) (kind.is_source e) true) es
    at true q r go = subst (λ z. Behind (cond z (kind.is_source e) true) es) (sym q) (subst (λ z. Behind (cond z (kind.is_source e) false) es) q r)
    at false q r go = subst (λ z. Behind (cond z (kind.is_source e) true) es) (sym q) (go (subst (λ z. Behind (cond z (kind.is_source e) false) es) q r))

  -- one entry that was asked
  taken : (ask : Ask) (e : Entry) (es : List Entry) (hand : Bool) → not (kind.asks_kind ask) || hand ≡ true → fits ask e ≡ true → (after : Bool) → (after ≡ true → kind.then_hand ask hand ≡ true) → Behind after es → Behind hand (e ∷ es)
  taken ask e es hand m f after t p = (own hand m, rest after t p) where
    own : (hand : Bool) → not (kind.asks_kind ask) || hand ≡ true → hand ≡ false → kind.is_kind e ≡ false
    own true m q = absurd (cc)
    own false m q = at (not (kind.asks_kind ask)) refl m where
      at : (b : Bool) → not (kind.asks_kind ask) ≡ b → b || false ≡ true → kind.is_kind e ≡ false
      at true q m = kind.quiet ask e q f
      at false q m = absurd (cc)

    rest : (after : Bool) → (after ≡ true → kind.then_hand ask hand ≡ true) → Behind after es → Behind (reach kind.is_source hand e) es
    rest true t p = subst (λ z. Behind z es) (sym (kind.handed ask e hand f (t refl))) p
    rest false t p = sourced_more (reach kind.is_source hand e) es p

  many : (ask : Ask) (hand : Bool) (part : List Entry) → not (kind.asks_kind ask) ≡ true → Behind false (behind ask part) → Behind hand part
  unfolding behind
  many ask hand [] a p = tt
  many ask hand (e ∷ es) a p = at (fits ask e) refl p (many ask (reach kind.is_source hand e) es a) where
    at : (b : Bool) → fits ask e ≡ b → Behind false (if b then behind ask es else e ∷ es) → (Behind false (behind ask es) → Behind (reach kind.is_source hand e) es) → Behind hand (e ∷ es)
    at true f p go = ((λ q. kind.quiet ask e a f), go p)
    at false f p go = sourced_more hand (e ∷ es) p

  pub cut_sourced : (items : List Item) (part : List Entry) (hand : Bool) → guarded hand items ≡ true → cut items part ≡ Ok [] → Behind hand part
  unfolding cut
  cut_sourced [] part hand h s = let none : part ≡ [] = cc in subst (Behind hand) (sym none) tt
  cut_sourced (item ∷ items) part hand h s = by item.often part (and_parts _ _ h).0 (and_parts _ _ h).1 s (cut_sourced items) where
    Go : Type 0
    Go = (part : List Entry) (hand : Bool) → guarded hand items ≡ true → cut items part ≡ Ok [] → Behind hand part

    by : (often : Often) (part : List Entry) → may kind.asks_kind often item.ask hand ≡ true → guarded (leaves kind.then_hand often item.ask hand) items ≡ true → then_cut (step often item.ask part) (cut items) ≡ Ok [] → Go → Behind hand part
    by One [] m g s go = absurd (cc)
    by One (e ∷ es) m g s go = at (fits item.ask e) refl s where
      at : (b : Bool) → fits item.ask e ≡ b → then_cut (if b then Ok es else Err (e ∷ es)) (cut items) ≡ Ok [] → Behind hand (e ∷ es)
      at true f s = taken item.ask e es hand m f (kind.then_hand item.ask hand) (λ q. q) (go es (kind.then_hand item.ask hand) g s)
      at false f s = absurd (cc)
    by Maybe [] m g s go = tt
    by Maybe (e ∷ es) m g s go = at (fits item.ask e) refl s where
      less : (part : List Entry) → Behind (hand && kind.then_hand item.ask hand) part → Behind hand part
      less part p = on hand (hand && kind.then_hand item.ask hand) refl p where
        on : (a b : Bool) → (hand && kind.then_hand item.ask hand ≡ b) → Behind b part → Behind hand part
        on a true q p = subst (λ z. Behind z part) (sym (and_parts _ _ q).0) p
        on a false q p = sourced_more hand part p

      at : (b : Bool) → fits item.ask e ≡ b → then_cut (if b then Ok es else Ok (e ∷ es)) (cut items) ≡ Ok [] → Behind hand (e ∷ es)
      at true f s = taken item.ask e es hand m f (hand && kind.then_hand item.ask hand) (λ q. (and_parts _ _ q).1) (go es (hand && kind.then_hand item.ask hand) g s)
      at false f s = less (e ∷ es) (go (e ∷ es) (hand && kind.then_hand item.ask hand) g s)
    by Many part m g s go = many item.ask hand part m (go (behind item.ask part) false g s)

  guards_more : (items : List Item) → guarded false items ≡ true → guarded true items ≡ true
  guards_more [] g = refl
  guards_more (item ∷ items) g = by item.often (and_parts _ _ g).0 (and_parts _ _ g).1 (guards_more items) where
    free : (b : Bool) → b || false ≡ true → b || true ≡ true
    free true m = refl
    free false m = refl

    up : (a b : Bool) → (a ≡ true → b ≡ true) → guarded a items ≡ true → (guarded false items ≡ true → guarded true items ≡ true) → guarded b items ≡ true
    up true b t g go = subst (λ z. guarded z items ≡ true) (sym (t refl)) g
    up false true t g go = go g
    up false false t g go = g

    by : (often : Often) → may kind.asks_kind often item.ask false ≡ true → guarded (leaves kind.then_hand often item.ask false) items ≡ true → (guarded false items ≡ true → guarded true items ≡ true)
        → may kind.asks_kind often item.ask true && guarded (leaves kind.then_hand often item.ask true) items ≡ true
    by One m g go = and_from _ _ (free (not (kind.asks_kind item.ask)) m) (up (kind.then_hand item.ask false) (kind.then_hand item.ask true) (kind.then_more item.ask) g go)
    by Maybe m g go = and_from _ _ (free (not (kind.asks_kind item.ask)) m) (up false (kind.then_hand item.ask true) (λ q. absurd (cc)) g go)
    by Many m g go = and_from _ _ m g

  guards_any : (hand : Bool) (items : List Item) → guarded false items ≡ true → guarded hand items ≡ true
  guards_any true items g = guards_more items g
  guards_any false items g = g

  pub guards_join : (hand : Bool) (xs ys : List Item) → guarded hand xs ≡ true → guarded false ys ≡ true → guarded hand (xs ++ ys) ≡ true
  guards_join hand [] ys c d = guards_any hand ys d
  guards_join hand (x ∷ xs) ys c d = two (may kind.asks_kind x.often x.ask hand) (guarded (leaves kind.then_hand x.often x.ask hand) xs) (guarded (leaves kind.then_hand x.often x.ask hand) (xs ++ ys)) c (λ k. guards_join (leaves kind.then_hand x.often x.ask hand) xs ys k d) where
    two : (a b z : Bool) → a && b ≡ true → (b ≡ true → z ≡ true) → a && z ≡ true
    two true b z c go = go c
    two false b z c go = absurd (cc)

  guards_if : (b : Bool) (xs : List Item) → guarded false xs ≡ true → guarded false (if b then xs else []) ≡ true
  guards_if true xs c = c
  guards_if false xs c = refl

  -- what ends of open events ask for, if each end does
  module _ (guards_ending : (slot : Option ℕ) (event : Opened) → guarded false (ending slot event) ≡ true) where
    guards_first : (slot : Option ℕ) (events : List Opened) → guarded false (ending_first slot events) ≡ true
    guards_first slot [] = refl
    guards_first slot (event ∷ events) = guards_ending slot event

    pub guards_stage : (slot : Option ℕ) (events : List Opened) → guarded false (ending_stage slot events) ≡ true
    guards_stage slot [] = refl
    guards_stage slot (event ∷ events) = guards_if (is_stage event.subject.kind) _ (guards_ending slot event)

    pub guards_both : (slot : Option ℕ) (events : List Opened) → guarded false (ending_both slot events) ≡ true
    guards_both slot [] = refl
    guards_both slot (event ∷ events) = guards_join false (ending slot event) _ (guards_ending slot event) (guards_if (is_stage event.subject.kind) _ (guards_first slot events))
