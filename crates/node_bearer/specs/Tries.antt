-- The draws of a job: each before the last found the counter at the mark, and what became of that mark.
use Rattle.std.specs.Prelude.{◌≡◌, ◌≢◌, ℕ, List, [], ◌∷◌, Option, Some, None}
use Rattle.locked_node.specs.Node.{Rise}
use Rattle.seq_word.specs.Dry.{DryView}
use Rattle.seq_word.specs.Seen.{AfterLost, DrawerView, Finds, HasCause}
use Rattle.seq_word.specs.declared.miss.Miss.TheVariants as missed
use Rattle.node_bearer.specs.declared.bearer.Drawn.{Drawn}
use Rattle.node_bearer.specs.declared.bearer.Drawn.TheVariants as D

-- between v and w each of these draws, the latest first, found the counter at or above the mark, and nothing else was done; but that the seat may
-- owe the next draw behind each, where the mark was raised for it
abbrev pub DryDraws : List DryView → DrawerView → DrawerView → Type 0
DryDraws [] v w = w ≡ v
DryDraws (t ∷ tries) v w =
    (u x : DrawerView) × DryDraws tries v u × AfterLost (HasCause (missed.Dry t)) u x × (w ≡ record x { owes = w.owes })

-- the draw that ended them gave this pair, or found that the IV Index is spent
abbrev pub EndsIn : Drawn → DrawerView → DrawerView → Type 0
EndsIn (D.Pair p) v w = AfterLost (Finds p) v w
EndsIn (D.Spent iv) v w = AfterLost (HasCause (missed.Spent iv)) v w

-- some draws found the counter at the mark, and the next ended them
abbrev pub DrawsUntil : Drawn → DrawerView → DrawerView → Type 0
DrawsUntil drawn v w = (tries : List DryView) × (u : DrawerView) × DryDraws tries v u × EndsIn drawn u w

-- a refill was asked for where this mark was seen, and another one is published since
abbrev pub IsRaised : ℕ → Option Rise → Type 0
IsRaised mark (Some r) = (r.seen ≡ mark) × (r.mark ≢ r.seen)
IsRaised mark None = ⊥
