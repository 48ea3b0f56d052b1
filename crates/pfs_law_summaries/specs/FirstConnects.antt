-- When each session of blocks connects in its first block alone, as the first line there.
use Rattle.std.specs.Prelude.{ℕ, ◌≡◌, ◌==◌, Bool, true, false, List, [], ◌∷◌, ◌++◌}
use Rattle.pfs_model.specs.Chains.{Each}
use Rattle.pfs_model.specs.EntryPlaces.{Block, IsShaped, places}
use Rattle.pfs_model.specs.declared.lines.Line.{Line}
use Rattle.pfs_model.specs.declared.lines.Line.TheVariants as told
use Rattle.pfs_law_conservation.specs.Premises.{AreFirstBehind}

abbrev pub is_connect : Line → Bool
is_connect told.Connect = true
is_connect line = false

-- none of the lines connects
abbrev pub AreUnconnected : List Line → Type 0
AreUnconnected lines = Each (λ line. is_connect line ≡ false) lines

-- none of the blocks is of the session
abbrev pub NoneOf : ℕ → List Block → Type 0
NoneOf session blocks = Each (λ (block : Block). (block.session == session) ≡ false) blocks

-- the first of the lines may connect, where this holds, and no other
abbrev pub Begins : Type 0 → List Line → Type 0
Begins fact [] = Unit {0}
Begins fact (line ∷ lines) = (is_connect line ≡ true → fact) × AreUnconnected lines

-- of blocks behind others
abbrev pub AreBegunBehind : List Block → List Block → Type 0
AreBegunBehind earlier [] = Unit {0}
AreBegunBehind earlier (block ∷ blocks) =
    Begins (NoneOf block.session earlier) block.lines × AreBegunBehind (earlier ++ block ∷ []) blocks

-- then a session's connect is its first entry
abbrev pub BegunLaw : Type 0
BegunLaw = (blocks : List Block) → IsShaped blocks → AreBegunBehind [] blocks → AreFirstBehind [] (places blocks)
