-- What the takes along a row's chain found, put together, is what stood one version before each printed take.
use Rattle.std.proofs.Common.{◌≡◌, refl, ℕ, ◌-◌, ◌≤◌, ◌==◌, Bool, true, false, cond, List, [], ◌∷◌, ◌++◌, fold, sym, ap, ◌∙◌}
use Rattle.std.proofs.lemmas.Bool.{eqb-true}
use Rattle.pfs_conservation.specs.RowChains.{Change, Added, Taken, Given}
use Rattle.pfs_conservation.specs.Conservation.{takes_of}
use Rattle.pfs_conservation.specs.PrintedChanges.{Adds, Takes, Gives, Tagged, change_of, chain_from}
use Rattle.pfs_event.specs.declared.entry.Entry.{Entry}
use Rattle.pfs_event.specs.declared.entry.Entry.TheVariants as says
use Rattle.pfs_model.specs.Chains.{Each, each_of}
use Rattle.pfs_model.specs.EntryPlaces.{Placed}
use Rattle.pfs_stat.specs.Stat.{MergeIsMonoid, merge_of, stat_of_words}
use Rattle.pfs_stat.specs.declared.Stat.{Stat}
use Rattle.pfs_law_conservation.specs.RunTerms.{found_at}
use Rattle.pfs_law_conservation.specs.KindLines.{brought_by, lines_at, all_lines, lines_on}
use Rattle.pfs_law_conservation.proofs.AnyOrder as unordered

module _ (found : ℕ → Stat) (row : ℕ) (monoid : MergeIsMonoid) where
  -- a take adds what it found
  abbrev pub taken : Stat → Change → Stat
  taken here (Added events) = here
  taken here (Taken action) = merge_of here (found action)
  taken here (Given action from) = here

  pub by_takes : (cs : List Change) (here : Stat) → fold (λ sum action. merge_of sum (found action)) here (takes_of cs) ≡ fold taken here cs
  by_takes [] here = refl
  by_takes (Added events ∷ cs) here = by_takes cs here
  by_takes (Taken action ∷ cs) here = by_takes cs (merge_of here (found action))
  by_takes (Given action from ∷ cs) here = by_takes cs here

  swapped : (here : Stat) (c d : Change) → taken (taken here c) d ≡ taken (taken here d) c
  swapped here (Added events) d = refl
  swapped here (Given action from) d = refl
  swapped here (Taken a) (Added events) = refl
  swapped here (Taken a) (Given action from) = refl
  swapped here (Taken a) (Taken b) =
      monoid.associates here (found a) (found b) ∙ (ap (merge_of here) (monoid.commutes (found a) (found b)) ∙ sym (monoid.associates here (found b) (found a)))

  abbrev pub of_line : Stat → Tagged → Stat
  of_line here line = cond (line.row == row) (taken here (change_of line)) here

  -- so the chain's takes are those of the lines
  pub chain_lines : (count : ℕ) (lines : List Tagged) → Each (λ (line : Tagged). line.row ≡ row → (1 ≤ line.version) × (line.version ≤ count)) lines
      → (here : Stat) → fold taken here (chain_from lines row 1 count) ≡ fold of_line here lines
  chain_lines = unordered.chain_lines taken row swapped

  module _ (content : ℕ → ℕ → List ℕ) (test : ℕ → Bool) (t : test row ≡ true) where
    -- a take of the row found what stood one version before
    abbrev pub FoundBefore : Tagged → Type 0
    FoundBefore line = (action : ℕ) → line.row ≡ row → change_of line ≡ Taken action → found action ≡ stat_of_words (content row (line.version - 1))

    pub printed : (ps : List Placed) → Each FoundBefore (lines_on test (all_lines ps))
        → (here : Stat) → fold of_line here (lines_on test (all_lines ps)) ≡ fold merge_of here (each_of (found_at content row) ps)
    printed [] h here = refl
    printed (p ∷ ps) h here = by p.entry h (λ there k. printed ps k there) where
      Rest : Type 0
      Rest = (there : Stat) → Each FoundBefore (lines_on test (all_lines ps)) → fold of_line there (lines_on test (all_lines ps)) ≡ fold merge_of there (each_of (found_at content row) ps)

      other : (line : Tagged) → ((there : Stat) → taken there (change_of line) ≡ there) → (c : Bool) → Each FoundBefore (cond c (line ∷ []) [] ++ lines_on test (all_lines ps)) → Rest
          → fold of_line here (cond c (line ∷ []) [] ++ lines_on test (all_lines ps)) ≡ fold merge_of here (each_of (found_at content row) ps)
      other line still false h ih = ih here h
      other line still true h ih = ap (λ x. fold of_line x (lines_on test (all_lines ps))) (same (line.row == row)) ∙ ih here h.1 where
        same : (b : Bool) → cond b (taken here (change_of line)) here ≡ here
        same true = still here
        same false = refl

      took : (at version : ℕ) (b : Bool) → (at == row) ≡ b → (c : Bool) → test at ≡ c
          → Each FoundBefore (cond c (record { session = p.session; action = p.context.action; row = at; version = version; kind = Takes } ∷ []) [] ++ lines_on test (all_lines ps)) → Rest
          → fold of_line here (cond c (record { session = p.session; action = p.context.action; row = at; version = version; kind = Takes } ∷ []) [] ++ lines_on test (all_lines ps))
          ≡ fold merge_of here (cond (at == row) (stat_of_words (content row (version - 1)) ∷ []) [] ++ each_of (found_at content row) ps)
      took at version true q true s h ih =
          ap (λ b. fold of_line (cond b (merge_of here (found p.context.action)) here) (lines_on test (all_lines ps))) q
          ∙ (ap (λ x. fold of_line (merge_of here x) (lines_on test (all_lines ps))) (h.0 p.context.action (eqb-true at row q) refl)
          ∙ (ih (merge_of here (stat_of_words (content row (version - 1)))) h.1
          ∙ sym (ap (λ b. fold merge_of here (cond b (stat_of_words (content row (version - 1)) ∷ []) [] ++ each_of (found_at content row) ps)) q)))
      took at version true q false s h ih = absurd (let z : false ≡ true = sym s ∙ (ap test (eqb-true at row q) ∙ t) in cc)
      took at version false q true s h ih =
          ap (λ b. fold of_line (cond b (merge_of here (found p.context.action)) here) (lines_on test (all_lines ps))) q
          ∙ (ih here h.1 ∙ sym (ap (λ b. fold merge_of here (cond b (stat_of_words (content row (version - 1)) ∷ []) [] ++ each_of (found_at content row) ps)) q))
      took at version false q false s h ih =
          ih here h ∙ sym (ap (λ b. fold merge_of here (cond b (stat_of_words (content row (version - 1)) ∷ []) [] ++ each_of (found_at content row) ps)) q)

      by : (e : Entry) → Each FoundBefore (lines_on test (lines_at p e ++ all_lines ps)) → Rest
          → fold of_line here (lines_on test (lines_at p e ++ all_lines ps)) ≡ fold merge_of here (found_at content row e ++ each_of (found_at content row) ps)
      by (says.Add at version) h ih = other (record { session = p.session; action = p.context.action; row = at; version = version; kind = Adds (brought_by p at) }) (λ there. refl) (test at) h ih
      by (says.Take at version) h ih = took at version (at == row) refl (test at) refl h ih
      by (says.Give at version from) h ih = other (record { session = p.session; action = p.context.action; row = at; version = version; kind = Gives from }) (λ there. refl) (test at) h ih
      by _ h ih = ih here h
