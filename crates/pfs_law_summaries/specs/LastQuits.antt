-- When each session of blocks quits in its last block alone, and behind its quit stands only the end of that block.
use Rattle.std.specs.Prelude.{◌≡◌, true, List, [], ◌∷◌}
use Rattle.pfs_model.specs.EntryPlaces.{Block, IsShaped, places}
use Rattle.pfs_model.specs.declared.lines.Line.{Line}
use Rattle.pfs_model.specs.declared.lines.Line.TheVariants as told
use Rattle.pfs_law_conservation.specs.RunEvents.{is_quit}
use Rattle.pfs_law_conservation.specs.Premises.{AreLastBehind}
use Rattle.pfs_law_summaries.specs.FirstConnects.{NoneOf}

-- where one of the lines quits, only the end of the block is behind it, and this holds
abbrev pub Quits : Type 0 → List Line → Type 0
Quits fact [] = Unit {0}
Quits fact (line ∷ lines) = (is_quit line ≡ true → (lines ≡ told.Close ∷ []) × fact) × Quits fact lines

-- of blocks one after another
abbrev pub AreQuit : List Block → Type 0
AreQuit [] = Unit {0}
AreQuit (block ∷ blocks) = Quits (NoneOf block.session blocks) block.lines × AreQuit blocks

-- then nothing is behind a session's quit but what the quit does
abbrev pub QuitLaw : Type 0
QuitLaw = (blocks : List Block) → IsShaped blocks → AreQuit blocks → AreLastBehind [] (places blocks)
