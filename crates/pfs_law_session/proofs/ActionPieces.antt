-- Some entries of a line, one piece behind another.
use Rattle.std.proofs.Common.{ℕ, ◌≡◌, ◌==◌, Bool, true, false, cond, List, [], ◌∷◌, ◌++◌, Option, refl, ap, sym, ◌∙◌}
use Rattle.std.proofs.lemmas.Bool.{false≢true}
use Rattle.std.proofs.lemmas.List.{append_assoc}
use Rattle.pfs_model.proofs.EachLists.{each_join}
use Rattle.pfs_event.specs.declared.entry.Entry.{Entry}
use Rattle.pfs_event.specs.declared.entry.Entry.TheVariants as says
use Rattle.pfs_model.specs.Actions.{is_acted}
use Rattle.pfs_model.specs.ActionAsks.{AreAnswered, Did, IsAnswered, did, of_action}
use Rattle.pfs_model.specs.Chains.{Each, each_of}
use Rattle.pfs_model.specs.Contents.{Given, IsFoundAsCounted, AreFoundAsCounted}
use Rattle.pfs_model.specs.Contexts.{Context, noted, after_entries, subject_of}
use Rattle.pfs_model.specs.EntryPlaces.{Placed, placed_part}
use Rattle.pfs_model.specs.declared.lines.Line.{Line}
use Rattle.pfs_model.specs.declared.lines.Subject.{Subject}
use Rattle.pfs_law_session.proofs.RingPuts.{ring_keeps}
use Rattle.pfs_law_session.proofs.DoneWork.{dids}
use Rattle.pfs_law_session.specs.Demands.{Orders}
use Rattle.pfs_law_session.specs.DoneActions.{IsMade, AreMade}

pub placed_then : (phase session : ℕ) (line : Line) (context : Context) (es fs : List Entry)
    → placed_part phase session line context (es ++ fs) ≡ placed_part phase session line context es ++ placed_part phase session line (after_entries (subject_of line) context es) fs
placed_then phase session line context [] fs = refl
placed_then phase session line context (e ∷ es) fs =
    ap (λ z. record { phase = phase; session = session; line = line; context = context; entry = e } ∷ z) (placed_then phase session line (noted (subject_of line) context e) es fs)

-- an entry of an action's work keeps its number
pub acted_keeps : (subject : Option Subject) (context : Context) (e : Entry) → is_acted e ≡ true → (noted subject context e).action ≡ context.action
acted_keeps subject context (says.Take row version) q = refl
acted_keeps subject context (says.Give row version from) q = refl
acted_keeps subject context (says.Tag row version) q = refl
acted_keeps subject context (says.Free row version) q = refl
acted_keeps subject context (says.Set word version flags) q = refl
acted_keeps subject context _ q = absurd (false≢true q)

abbrev pub AreActed : List Entry → Type 0
AreActed [] = Unit {0}
AreActed (e ∷ es) = (is_acted e ≡ true) × AreActed es

pub acted_then : (es fs : List Entry) → AreActed es → AreActed fs → AreActed (es ++ fs)
acted_then [] fs a b = b
acted_then (e ∷ es) fs a b = (a.0, acted_then es fs a.1 b)

pub all_keep : (subject : Option Subject) (context : Context) (es : List Entry) → AreActed es → (after_entries subject context es).action ≡ context.action
all_keep subject context [] a = refl
all_keep subject context (e ∷ es) a = all_keep subject (noted subject context e) es a.1 ∙ acted_keeps subject context e a.0

-- what is said of each place
pub record Fact (orders : Orders) (given : Given) (content : ℕ → ℕ → List ℕ) (place : Placed) : Type 0 where
  pub found : IsFoundAsCounted content orders.counted place.context.action place.entry
  pub made : IsMade given content place place.entry
  pub answered : IsAnswered orders.rooms orders.answers place place.entry

pub all_found : (orders : Orders) (given : Given) (content : ℕ → ℕ → List ℕ) (ps : List Placed) → Each (Fact orders given content) ps → AreFoundAsCounted content orders.counted ps
all_found orders given content [] a = tt
all_found orders given content (p ∷ ps) a = (a.0.found, all_found orders given content ps a.1)

pub all_made : (orders : Orders) (given : Given) (content : ℕ → ℕ → List ℕ) (ps : List Placed) → Each (Fact orders given content) ps → AreMade given content ps
all_made orders given content [] a = tt
all_made orders given content (p ∷ ps) a = (a.0.made, all_made orders given content ps a.1)

pub all_answered : (orders : Orders) (given : Given) (content : ℕ → ℕ → List ℕ) (ps : List Placed) → Each (Fact orders given content) ps
    → AreAnswered orders.rooms orders.answers ps
all_answered orders given content [] a = tt
all_answered orders given content (p ∷ ps) a = (a.0.answered, all_answered orders given content ps a.1)

-- what is chosen of two lists, and what they give
pub each_of_then : (xs ys : List Placed) → each_of did (xs ++ ys) ≡ each_of did xs ++ each_of did ys
each_of_then [] ys = refl
each_of_then (x ∷ xs) ys = ap (λ z. did x.entry ++ z) (each_of_then xs ys) ∙ sym (append_assoc (did x.entry) (each_of did xs) (each_of did ys))

pub chosen_then : (number : ℕ) (xs ys : List Placed) → of_action number (xs ++ ys) ≡ of_action number xs ++ of_action number ys
chosen_then number [] ys = refl
chosen_then number (x ∷ xs) ys =
    let own : List Placed = cond (x.context.action == number) (x ∷ []) [] in
    ap (λ z. own ++ z) (chosen_then number xs ys) ∙ sym (append_assoc own (of_action number xs) (of_action number ys))

-- what a piece does under each number
pub record IsBit (orders : Orders) (given : Given) (content : ℕ → ℕ → List ℕ) (due : ℕ → List Did) (places : List Placed) : Type 0 where
  pub done : (number : ℕ) → each_of did (of_action number places) ≡ due number
  pub facts : Each (Fact orders given content) places

pub bit_then : (orders : Orders) (given : Given) (content : ℕ → ℕ → List ℕ) (due more : ℕ → List Did) (xs ys : List Placed) → IsBit orders given content due xs → IsBit orders given content more ys
    → IsBit orders given content (λ n. due n ++ more n) (xs ++ ys)
bit_then orders given content due more xs ys a b = record {
  done = λ n. ap (each_of did) (chosen_then n xs ys) ∙ (each_of_then (of_action n xs) (of_action n ys) ∙ (ap (λ z. z ++ each_of did (of_action n ys)) (a.done n) ∙ ap (λ z. due n ++ z) (b.done n)));
  facts = each_join (Fact orders given content) xs ys a.facts b.facts;
}

-- entries that say nothing was done
abbrev pub AreStill : List Placed → Type 0
AreStill places = Each (λ place. did place.entry ≡ []) places

still_done : (number : ℕ) (ps : List Placed) → AreStill ps → each_of did (of_action number ps) ≡ []
still_done number [] a = refl
still_done number (p ∷ ps) a = at (p.context.action == number) (still_done number ps a.1) where
  at : (b : Bool) → each_of did (of_action number ps) ≡ [] → each_of did (cond b (p ∷ []) [] ++ of_action number ps) ≡ []
  at true rest = ap (λ z. z ++ each_of did (of_action number ps)) a.0 ∙ rest
  at false rest = rest

pub still_bit : (orders : Orders) (given : Given) (content : ℕ → ℕ → List ℕ) (ps : List Placed) → AreStill ps → Each (Fact orders given content) ps → IsBit orders given content (λ n. []) ps
still_bit orders given content ps a f = record { done = λ n. still_done n ps a; facts = f }

-- entries that neither begin an action nor are of one
abbrev pub is_calm : Entry → Bool
is_calm (says.Start _ _ _ _ _ _) = true
is_calm (says.End _ _ _ _) = true
is_calm (says.Add _ _) = true
is_calm (says.Held _ _ _) = true
is_calm says.Settle = true
is_calm (says.Ring _ _) = true
is_calm (says.Long _ _ _) = true
is_calm (says.Busy _ _ _) = true
is_calm (says.Late _ _ _) = true
is_calm says.Query = true
is_calm (says.Seen _ _) = true
is_calm (says.Vacant _) = true
is_calm (says.Saw _ _) = true
is_calm (says.Rows _) = true
is_calm _ = false

abbrev pub AreCalm : List Entry → Type 0
AreCalm [] = Unit {0}
AreCalm (e ∷ es) = (is_calm e ≡ true) × AreCalm es

pub calm_then : (es fs : List Entry) → AreCalm es → AreCalm fs → AreCalm (es ++ fs)
calm_then [] fs a b = b
calm_then (e ∷ es) fs a b = (a.0, calm_then es fs a.1 b)

calm_did : (e : Entry) → is_calm e ≡ true → did e ≡ []
calm_did (says.Start _ _ _ _ _ _) q = refl
calm_did (says.End _ _ _ _) q = refl
calm_did (says.Add _ _) q = refl
calm_did (says.Held _ _ _) q = refl
calm_did says.Settle q = refl
calm_did (says.Ring _ _) q = refl
calm_did (says.Long _ _ _) q = refl
calm_did (says.Busy _ _ _) q = refl
calm_did (says.Late _ _ _) q = refl
calm_did says.Query q = refl
calm_did (says.Seen _ _) q = refl
calm_did (says.Vacant _) q = refl
calm_did (says.Saw _ _) q = refl
calm_did (says.Rows _) q = refl
calm_did _ q = absurd (false≢true q)

calm_keeps : (subject : Option Subject) (context : Context) (e : Entry) → is_calm e ≡ true → (noted subject context e).action ≡ context.action
calm_keeps subject context (says.Start _ _ _ _ _ _) q = refl
calm_keeps subject context (says.End _ _ _ _) q = refl
calm_keeps subject context (says.Add _ _) q = refl
calm_keeps subject context (says.Held _ _ _) q = refl
calm_keeps subject context says.Settle q = refl
calm_keeps subject context (says.Ring r v) q = ap (λ (z : Context). z.action) (ring_keeps subject context (says.Ring r v) refl)
calm_keeps subject context (says.Long r v t) q = ap (λ (z : Context). z.action) (ring_keeps subject context (says.Long r v t) refl)
calm_keeps subject context (says.Busy r f s) q = ap (λ (z : Context). z.action) (ring_keeps subject context (says.Busy r f s) refl)
calm_keeps subject context (says.Late r t g) q = ap (λ (z : Context). z.action) (ring_keeps subject context (says.Late r t g) refl)
calm_keeps subject context says.Query q = refl
calm_keeps subject context (says.Seen _ _) q = refl
calm_keeps subject context (says.Vacant _) q = refl
calm_keeps subject context (says.Saw _ _) q = refl
calm_keeps subject context (says.Rows _) q = refl
calm_keeps subject context _ q = absurd (false≢true q)

calm_fact : (orders : Orders) (given : Given) (content : ℕ → ℕ → List ℕ) (phase session : ℕ) (line : Line) (context : Context) (e : Entry) → is_calm e ≡ true
    → Fact orders given content (record { phase = phase; session = session; line = line; context = context; entry = e })
calm_fact orders given content phase session line context (says.Start _ _ _ _ _ _) q = record { found = tt; made = tt; answered = tt }
calm_fact orders given content phase session line context (says.End _ _ _ _) q = record { found = tt; made = tt; answered = tt }
calm_fact orders given content phase session line context (says.Add _ _) q = record { found = tt; made = tt; answered = tt }
calm_fact orders given content phase session line context (says.Held _ _ _) q = record { found = tt; made = tt; answered = tt }
calm_fact orders given content phase session line context says.Settle q = record { found = tt; made = tt; answered = tt }
calm_fact orders given content phase session line context (says.Ring _ _) q = record { found = tt; made = tt; answered = tt }
calm_fact orders given content phase session line context (says.Long _ _ _) q = record { found = tt; made = tt; answered = tt }
calm_fact orders given content phase session line context (says.Busy _ _ _) q = record { found = tt; made = tt; answered = tt }
calm_fact orders given content phase session line context (says.Late _ _ _) q = record { found = tt; made = tt; answered = tt }
calm_fact orders given content phase session line context says.Query q = record { found = tt; made = tt; answered = tt }
calm_fact orders given content phase session line context (says.Seen _ _) q = record { found = tt; made = tt; answered = tt }
calm_fact orders given content phase session line context (says.Vacant _) q = record { found = tt; made = tt; answered = tt }
calm_fact orders given content phase session line context (says.Saw _ _) q = record { found = tt; made = tt; answered = tt }
calm_fact orders given content phase session line context (says.Rows _) q = record { found = tt; made = tt; answered = tt }
calm_fact orders given content phase session line context _ q = absurd (false≢true q)

calm_still : (phase session : ℕ) (line : Line) (context : Context) (es : List Entry) → AreCalm es → AreStill (placed_part phase session line context es)
calm_still phase session line context [] a = tt
calm_still phase session line context (e ∷ es) a = (calm_did e a.0, calm_still phase session line (noted (subject_of line) context e) es a.1)

calm_facts : (orders : Orders) (given : Given) (content : ℕ → ℕ → List ℕ) (phase session : ℕ) (line : Line) (context : Context) (es : List Entry) → AreCalm es
    → Each (Fact orders given content) (placed_part phase session line context es)
calm_facts orders given content phase session line context [] a = tt
calm_facts orders given content phase session line context (e ∷ es) a =
    (calm_fact orders given content phase session line context e a.0, calm_facts orders given content phase session line (noted (subject_of line) context e) es a.1)

pub calm_bit : (orders : Orders) (given : Given) (content : ℕ → ℕ → List ℕ) (phase session : ℕ) (line : Line) (context : Context) (es : List Entry) → AreCalm es
    → IsBit orders given content (λ n. []) (placed_part phase session line context es)
calm_bit orders given content phase session line context es a =
    still_bit orders given content (placed_part phase session line context es) (calm_still phase session line context es a) (calm_facts orders given content phase session line context es a)

pub calm_idle : (phase session : ℕ) (line : Line) (context : Context) (es : List Entry) → AreCalm es → context.action ≡ 0
    → Each (λ place. place.context.action ≡ 0) (placed_part phase session line context es)
calm_idle phase session line context [] a z = tt
calm_idle phase session line context (e ∷ es) a z = (z, calm_idle phase session line (noted (subject_of line) context e) es a.1 (calm_keeps (subject_of line) context e a.0 ∙ z))

-- all entries of one action
pub all_of : (number action : ℕ) (ps : List Placed) → Each (λ place. place.context.action ≡ action) ps → of_action number ps ≡ cond (action == number) ps []
all_of number action [] a = at (action == number) where
  nobody : List Placed
  nobody = []

  at : (b : Bool) → nobody ≡ cond b nobody nobody
  at true = refl
  at false = refl
all_of number action (p ∷ ps) a =
    ap (λ z. cond (z == number) (p ∷ []) [] ++ of_action number ps) a.0
    ∙ (ap (λ z. cond (action == number) (p ∷ []) [] ++ z) (all_of number action ps a.1) ∙ at (action == number)) where
      at : (b : Bool) → (cond b (p ∷ []) [] ++ cond b ps []) ≡ cond b (p ∷ ps) []
      at true = refl
      at false = refl

pub each_placed : (phase session : ℕ) (line : Line) (context : Context) (es : List Entry) → each_of did (placed_part phase session line context es) ≡ dids es
each_placed phase session line context [] = refl
each_placed phase session line context (e ∷ es) = ap (λ z. did e ++ z) (each_placed phase session line (noted (subject_of line) context e) es)

pub acted_at : (phase session : ℕ) (line : Line) (context : Context) (action : ℕ) (es : List Entry) → AreActed es → context.action ≡ action
    → Each (λ place. place.context.action ≡ action) (placed_part phase session line context es)
acted_at phase session line context action [] a e = tt
acted_at phase session line context action (x ∷ xs) a e =
    (e, acted_at phase session line (noted (subject_of line) context x) action xs a.1 (acted_keeps (subject_of line) context x a.0 ∙ e))
