-- Contradictory results by pairs of effects, without splitting: what a faster test for 25 works out.
use Rattle.std.specs.Prelude.{Bool, false, ◌&&◌, ◌||◌, List, [], ◌∷◌}
use Rattle.sheet.specs.declared.Literals.{Literals}
use Rattle.sheet.specs.declared.Effect.{Effect}
use Rattle.sheet.specs.Literals.{join, clash, consistent}
use Rattle.sheet.specs.Lists.{any_of}

-- the results of e and f clash, and d admits both conditions
abbrev pub opposed : Effect → Literals → Effect → Bool
opposed e d f = clash e.result f.result && consistent (join d (join e.condition f.condition))

-- some two effects are opposed in d
unfoldable pub contradicts : List Effect → Literals → Bool
contradicts [] d = false
contradicts (e ∷ es) d = any_of (opposed e d) es || contradicts es d
