-- A plain store's calls name the next versions, numbers and tickets, or the last ones.
use Rattle.std.proofs.Common.{ℕ, ◌+◌, ◌*◌, List, [], ◌∷◌, ap, ◌∙◌, arith}
use Rattle.pfs_rows.specs.declared.table.Seen.TheVariants.{Whole, Free}
use Rattle.pfs_rows.specs.declared.table.Seen.TheVariants as sees
use Rattle.pfs_levels.specs.declared.answers.Added.TheVariants.{Counted, Held}
use Rattle.pfs_levels.specs.declared.answers.RingPut.TheVariants.{Done, Busy, Late}
use Rattle.pfs_levels.specs.declared.answers.Word.{Word}
use Rattle.pfs_levels.specs.Calls.{Call, Adds, Rings, Reads, Loads, Draws, Takes, Puts, Frees, Sets, Enters, Leaves, Meets}
use Rattle.pfs_levels.specs.JointCalls.{sets_of}
use Rattle.pfs_levels.specs.PlainStore.{AllAnswer, IsNext, AreNext}
use Rattle.pfs_levels.proofs.PlainChanges.{slot_version, plain_words}
use Rattle.pfs_levels.proofs.PlainContents.{word_versions}
use Rattle.pfs_levels.proofs.PlainCalls.{ring_high}

next : (flags : List ℕ) (call : Call) (calls : List Call) → AllAnswer flags (call ∷ calls) → IsNext calls call
next flags (Adds at amount (Counted r v)) calls a = (a.0.1, a.0.3 ∙ ap (λ z. z + 1) (slot_version calls at (omega (arith, a.0.0.0))))
next flags (Adds at amount (Held r v w)) calls a = a.0
next flags (Rings at content (Done v)) calls a = a.0.2 ∙ ap (λ z. z + 1) (slot_version calls at (ring_high at content a.0.0))
next flags (Rings at content (Busy v w)) calls a = a.0
next flags (Rings at content (Late t v)) calls a = (a.0.4, a.0.5 ∙ slot_version calls at (ring_high at content a.0.0))
next flags (Reads at (Whole v found)) calls a = a.0.2 ∙ slot_version calls at a.0.0.0
next flags (Reads at (Free w)) calls a = a.0.2 ∙ ap (λ z. 4 * z) (slot_version calls at a.0.0.0)
next flags (Reads at (sees.Busy v w)) calls a = a.0
next flags (Loads at v found) calls a = ap (λ (y : Word). y.version) a.0.1 ∙ word_versions flags (sets_of calls) at (plain_words flags calls a.1)
next flags (Draws kind ticket) calls a = a.0.1
next flags (Meets versions) calls a = a.0
next flags (Takes at v found) calls a = a.0.2 ∙ slot_version calls at a.0.0.0
next flags (Puts at content v) calls a = a.0.2 ∙ ap (λ z. z + 1) (slot_version calls at a.0.0.0)
next flags (Frees at v) calls a = a.0.2 ∙ slot_version calls at a.0.0.0
next flags (Sets at to v) calls a = a.0.1 ∙ ap (λ z. z + 1) (word_versions flags (sets_of calls) at (plain_words flags calls a.1))
next flags (Enters label labels) calls a = a.0.1
next flags Leaves calls a = tt

pub plain_next : (flags : List ℕ) (calls : List Call) → AllAnswer flags calls → AreNext calls
plain_next flags [] a = tt
plain_next flags (call ∷ calls) a = (next flags call calls a, plain_next flags calls a.1)
