-- The changes that puts of events make.
use Rattle.std.proofs.Common.{◌≡◌, ℕ, List, sym, ◌∙◌, ap, subst, Option, Some, None}
use Rattle.pfs_event.specs.declared.entry.Entry.{Entry}
use Rattle.pfs_event.specs.declared.entry.Entry.TheVariants as says
use Rattle.pfs_model.specs.Chains.{row_change}
use Rattle.pfs_model.specs.Contents.{Given, Written, content_after, event_at, words_at, words_written, written_at}
use Rattle.pfs_model.specs.EntryPlaces.{Placed}
use Rattle.pfs_check_amounts.specs.EventTerms.{AreWords, AreWordsTold}
use Rattle.pfs_check_contents.specs.declared.changes.Effect.TheVariants as effects
use Rattle.pfs_check_contents.specs.PlacedChanges.{IsSourceOf, acting}
use Rattle.pfs_check_made.specs.TagWords.{IsTagTold}
use Rattle.pfs_check_made.specs.MadeChanges.{IsKnownIn, IsMade, IsPutTold, put_to}

pub put_told : (given : Given) (place : Placed) (session : ℕ) (ticket : Option ℕ) (written : Written) (result : Option (List ℕ)) → written_at place.context ≡ Some written
    → place.session ≡ session
    → AreWordsTold (words_at given.flags session place.context.slot (given.facts session written.event.index) ticket written) result → IsPutTold given place ticket result
put_told given place session ticket written result w s h = on result h where
  same : words_at given.flags session place.context.slot (given.facts session written.event.index) ticket written ≡ event_at given place place.context ticket
  same = ap (λ z. words_written given z place.context.slot ticket (Some written)) (sym s) ∙ ap (words_written given place.session place.context.slot ticket) (sym w)

  on : (result : Option (List ℕ)) → AreWordsTold (words_at given.flags session place.context.slot (given.facts session written.event.index) ticket written) result
      → IsPutTold given place ticket result
  on None h = λ known. h (subst AreWords (sym same) known.words)
  on (Some told) h = h ∙ same

pub ring_made : (given : Given) (place : Placed) (row version : ℕ) (words : Option (List ℕ)) → place.entry ≡ says.Ring row version
    → IsPutTold given place None words → IsMade given place (put_to row version 0 words)
ring_made given place row version None q h = λ known. h (subst (λ (e : Entry). IsKnownIn given place e) q known)
ring_made given place row version (Some words) q h = record {
  change = ap row_change q;
  action = sym (ap (acting place.context.action) q);
  source = subst (λ (e : Entry). IsSourceOf place.context e (effects.Put words)) (sym q) tt;
  effect = λ content here. ap (content_after given content place place.context here) q ∙ sym h;
}

pub long_made : (given : Given) (place : Placed) (row version ticket : ℕ) (words : Option (List ℕ)) → place.entry ≡ says.Long row version ticket
    → IsPutTold given place (Some ticket) words → IsMade given place (put_to row version 0 words)
long_made given place row version ticket None q h = λ known. h (subst (λ (e : Entry). IsKnownIn given place e) q known)
long_made given place row version ticket (Some words) q h = record {
  change = ap row_change q;
  action = sym (ap (acting place.context.action) q);
  source = subst (λ (e : Entry). IsSourceOf place.context e (effects.Put words)) (sym q) tt;
  effect = λ content here. ap (content_after given content place place.context here) q ∙ sym h;
}

pub tag_made : (given : Given) (place : Placed) (row version action : ℕ) (words : Option (List ℕ)) → place.entry ≡ says.Tag row version → place.context.action ≡ action
    → IsTagTold (given.info_words action row) words → IsMade given place (put_to row version action words)
tag_made given place row version action None q a h = λ known. subst (λ (e : Entry). IsKnownIn given place e) q known (ap (λ z. given.info_words z row) a ∙ h)
tag_made given place row version action (Some words) q a h = record {
  change = ap row_change q;
  action = sym (ap (acting place.context.action) q ∙ a);
  source = subst (λ (e : Entry). IsSourceOf place.context e (effects.Put words)) (sym q) tt;
  effect = λ content here. ap (content_after given content place place.context here) q ∙ ap (λ z. given.info_words z row) a ∙ sym h;
}
