use Rattle.std.proofs.Common.{◌≡◌, ◌∙◌, refl, ◌<◌, ◌++◌, ◌∷◌, [], ap, sym, subst, length, map, Contains, string_bytes, arith}
use Rattle.std.proofs.lemmas.List.{length-map}
use Rattle.std.proofs.lemmas.Map.Text.{btree_map_updates_text}
use Rattle.std.proofs.lemmas.Result.{IfOk-at_ok}
use Rattle.pfs_names.specs.InternedTexts.{Agrees}
use Rattle.pfs_names.proofs.Lookups.{agrees_push, names_from_agrees}
use Rattle.pfs_names.proofs.interned.Names.add.Goals as goal

-- the new text gets the next place
pub invariant_of-self-2 : goal.invariant_of-self-2
invariant_of-self-2 c =
    let kept_is = IfOk-at_ok (λ s. string_bytes s ≡ c.args.text.now) c.in_ok-kept.was c.from_str.ensures.ok in
    let key_is = IfOk-at_ok (λ s. string_bytes s ≡ c.args.text.now) c.in_ok-key.was c.from_str-2.ensures.ok in
    let sets = btree_map_updates_text (string_bytes c.in_ok-key.key) c.self.inside.ids c.insert.new.self _ c.in_ok-insert.ensures.updates in
    let next : c.len.result ≡ length c.self.inside.texts.items = omega arith in
    let room : length (map string_bytes c.self.inside.texts.items) < 65536 = subst (λ ts. length ts < 65536) (sym c.self.view_is) c.requires.room in
    let fits : length c.self.inside.texts.items < 65536 = subst (λ n. n < 65536) (length-map c.self.inside.texts.items string_bytes) room in
    let items : c.push_reserved.new.self.items ≡ c.self.inside.texts.items ++ c.in_ok-kept.kept ∷ [] = c.push_reserved.ensures.items ∙ ap (λ ts. ts ++ c.in_ok-kept.kept ∷ []) c.reserve.ensures.items in
    subst (λ ts. Agrees ts c.insert.new.self) (sym items)
    (agrees_push _ _ c.self.inside.ids c.insert.new.self c.args.text.now c.self.invariant
    (subst (λ ts. ¬ Contains ts c.args.text.now) (sym c.self.view_is) c.requires.absent) fits c.requires.short kept_is
    (λ text. sets text ∙ rw (key_is, next) refl))

pub returns-clause-names : goal.returns-clause-names
returns-clause-names c = names_from_agrees c.push_reserved.new.self.items c.insert.new.self (invariant_of-self-2 c)
