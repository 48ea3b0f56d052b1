use Rattle.std.proofs.Common.{ℕ, ◌≡◌, ◌∙◌, List, [], Err, ap, sym, append-nil}
use Rattle.pfs_script.specs.declared.blocks.Phase.{Phase}
use Rattle.pfs_script.specs.declared.forms.Form.{Form}
use Rattle.pfs_script.specs.declared.reading.Reader.{Reader}
use Rattle.pfs_script.specs.declared.reading.ScriptFault.{ScriptFault}
use Rattle.pfs_script.specs.declared.reading.ScriptFault.TheVariants.{Bad, NoMemory}
use Rattle.pfs_script.specs.Blocks.{sense_of, phases_of}
use Rattle.std.specs.List.{fold}
use Rattle.pfs_script.specs.Drafts.{with_owner, phases_behind}
use Rattle.pfs_script.specs.SessionNames.{head_named}
use Rattle.pfs_script.specs.Headings.{Head}
use Rattle.pfs_script.specs.ReaderAnswers.{IsBehind, Reads, Gives}
use Rattle.pfs_script.proofs.Exactness.{found_text, found_first, script_made}
use Rattle.pfs_script.proofs.NextFinds.{few_named, names_as, setting_as}
use Rattle.pfs_script.proofs.ReaderSteps.{say_refl}
use Rattle.pfs_script.proofs.scripts.Script.read.Goals as goal

fault_given : (text : List ℕ) (fault : ScriptFault) → Reads text (Err fault) → Gives text (Err fault)
fault_given text (Bad number reason) h = found_first text number reason h
fault_given text NoMemory h = tt

-- the drafts are the phases of all lines
all_drafted : (reader : Reader) (lines : List Form) (phases : List Phase) → IsBehind reader lines → phases ≡ phases_behind (sense_of lines) reader.drafts [] → phases ≡ phases_of (sense_of lines) lines
all_drafted reader lines phases b e =
    e ∙ (sym (b.drafted (sense_of lines) [] (say_refl (sense_of lines) lines)) ∙ ap (λ (all : List Form). phases_of (sense_of lines) all) (append-nil lines))

pub returns-in-Err : goal.returns-in-Err
returns-in-Err c = fault_given c.args.bytes.now c.in-Err.fault c.in-Err.ensures

pub into_setting-setting-requires-clause-few_digests : goal.into_setting-setting-requires-clause-few_digests
into_setting-setting-requires-clause-few_digests c =
    few_named c.in-Ok.reader.heading c.name_owners.new.self c.in-Ok.reader.finds c.in-Ok.ensures.0 _ c.in-Ok.ensures.2.head c.in-Ok.ensures.2.finds c.in_ok-name_owners.ensures.names

pub returns : goal.returns
returns c =
    let reader = c.in-Ok.reader in
    let lines = c.in-Ok.ensures.0 in
    let b = c.in-Ok.ensures.2 in
    let made = c.into_setting-setting.ensures in
    let owners : c.name_owners.new.self ≡ head_named reader.heading (fold with_owner reader.heading.names reader.drafts.owners.items) = c.in_ok-name_owners.ensures.names ∙ ap (λ all. head_named reader.heading (fold with_owner reader.heading.names all)) c.as_slice.ensures.value in
    let names : c.name_owners.new.self.names ≡ (sense_of lines).names = ap (λ (head : Head). head.names) owners ∙ names_as reader.heading lines reader.drafts.owners.items b.head b.owners in
    script_made c.args.bytes.now lines _ _ (found_text c.args.bytes.now lines c.in-Ok.ensures.1)
    (setting_as reader.heading c.name_owners.new.self reader.finds lines reader.drafts.owners.items c.into_setting-setting.result b.head b.finds owners b.owners made.names made.classes made.tables made.digests made.limits made.consumers)
    (all_drafted reader lines c.in_ok-phases.phases b (c.in_ok-phases.ensures (sense_of lines) names))

pub invariant_of-result : goal.invariant_of-result
invariant_of-result c =
    let reader = c.in-Ok.reader in
    let lines = c.in-Ok.ensures.0 in
    let b = c.in-Ok.ensures.2 in
    let made = c.into_setting-setting.ensures in
    let owners : c.name_owners.new.self ≡ head_named reader.heading (fold with_owner reader.heading.names reader.drafts.owners.items) = c.in_ok-name_owners.ensures.names ∙ ap (λ all. head_named reader.heading (fold with_owner reader.heading.names all)) c.as_slice.ensures.value in
    let names : c.name_owners.new.self.names ≡ (sense_of lines).names = ap (λ (head : Head). head.names) owners ∙ names_as reader.heading lines reader.drafts.owners.items b.head b.owners in
    record {
      given = ∣ (
        c.args.bytes.now,
        script_made c.args.bytes.now lines _ _ (found_text c.args.bytes.now lines c.in-Ok.ensures.1)
            (setting_as reader.heading c.name_owners.new.self reader.finds lines reader.drafts.owners.items c.into_setting-setting.result b.head b.finds owners b.owners made.names made.classes made.tables made.digests made.limits made.consumers)
            (all_drafted reader lines c.in_ok-phases.phases b (c.in_ok-phases.ensures (sense_of lines) names)),
      ) ∣₁;
    }
