-- What the journals of sessions at once keep by what these have in common: chains of rows and words, the flags and the
-- contents by version, and with them what each line asks for. Some of their additions may be held and settled.
use Rattle.std.specs.Prelude.{ℕ, ◌≡◌, ◌≤◌, List}
use Rattle.pfs_levels.specs.JointCalls.{flags_at}
use Rattle.pfs_law_plain.specs.PlainJournals.{printed}
use Rattle.pfs_law_plain.specs.RunRules.{entries_of}
use Rattle.pfs_law_plain.specs.Spells.{Spell, stints_of}
use Rattle.pfs_law_session.specs.Amounts.{AllContentsAgree}
use Rattle.pfs_law_session.specs.JournalLaws.{AllLoadsAgree}
use Rattle.pfs_law_session.specs.Stints.{AreStints, AreJournals}
use Rattle.pfs_law_shared.specs.Shares.{AreShared}
use Rattle.pfs_model.specs.Chains.{Each, AreChained, row_change, word_change}

-- at each phase's end the changes of rows that are printed are chains, and so are the sets of words
pub record HaveChains (spells : List Spell) : Type 0 where
  pub rows : AreChained row_change (entries_of spells)
  pub words : AreChained word_change (entries_of spells)

abbrev pub ChainedLaw : Type 0
ChainedLaw = (flags : List ℕ) (stack : ℕ) (depths : ℕ → ℕ) (spells : List Spell)
    → AreStints stack depths (stints_of spells) → AreShared flags spells → HaveChains spells

-- The printed sets give the flags that the sessions have in common at the end of their last phase; each part loaded
-- these, and found and left the contents that they have in common then. So the journals are what their lines ask for,
-- each verdict is that of the flags at the versions that its start names, and each event has its numbers
pub record HaveAgreed (flags : List ℕ) (stack last : ℕ) (spells : List Spell) (shared : AreShared flags spells) : Type 0
  where
    pub flagged : (word version : ℕ)
        → printed flags (entries_of spells) word version ≡ flags_at flags (shared last).sets word version
    pub loads : Each (λ stint. AllLoadsAgree (printed flags (entries_of spells)) stint.parts) (stints_of spells)
    pub contents : Each (λ stint. AllContentsAgree (shared last).content stint.parts) (stints_of spells)
    pub journals : AreJournals (printed flags (entries_of spells)) stack (stints_of spells)

abbrev pub AgreedLaw : Type 0
AgreedLaw = (flags : List ℕ) (stack : ℕ) (depths : ℕ → ℕ) (spells : List Spell) (last : ℕ)
    → AreStints stack depths (stints_of spells) → (shared : AreShared flags spells)
    → Each (λ spell. spell.phase ≤ last) spells → HaveAgreed flags stack last spells shared
