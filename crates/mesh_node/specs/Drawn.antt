-- What a log tells of the words that were drawn, and of those that were seen.
use Rattle.std.specs.Prelude.{◌≡◌, ◌≢◌, ◌⊎◌, ◌↔◌, ℕ, ◌+◌, ◌-◌, ◌*◌, ◌^◌, ◌<◌, ◌≤◌, true, false, List, map, All, AllPairs, Option, Some, None, ⊤}
use Rattle.std.specs.List.{Contains}
use Rattle.mesh_base.specs.Pairs.{word_of}
use Rattle.mesh_base.specs.declared.pair.Pair.{Pair}
use Rattle.mesh_types.specs.declared.lines.Outcome.{Outcome}
use Rattle.mesh_types.specs.declared.lines.Outcome.TheVariants as O
use Rattle.mesh_types.specs.declared.report.Opened.{Opened}
use Rattle.mesh_types.specs.declared.report.Opened.TheVariants as W
use Rattle.report_definitions.specs.Record.{Life, shown}
use Rattle.run_definitions.specs.RunOf.{draws, is_on}
use Rattle.seq_word.specs.Rule.{once_below, passed_over, times}
use Rattle.seq_word.specs.Seen.{ClosedView}
use Rattle.seq_word.specs.Word.{seq_of}
use Rattle.locked_node.specs.Asked.{AreAsked}
use Rattle.node_bearer.specs.Marked.{HasOwnLooks, IsSpentSeen, ends_told}

-- these words are those of these pairs, each once, and no other
pub record AreWordsOf (words : List ℕ) (pairs : List Pair) : Type 0 where
  pub once : AllPairs (λ x y. x ≢ y) words
  pub each : (x : ℕ) → Contains words x ↔ Contains (map word_of pairs) x

-- the word that the counter is opened at: the mark that the life opened with
abbrev pub opened_at : Opened → ℕ
opened_at (W.On state mark) = mark
opened_at _ = 0

-- No number is left under an IV Index only where the life opened at the end of that, or the last number under it was drawn.
abbrev pub IsSpentBy : ℕ → List ℕ → Outcome → Type 0
IsSpentBy opened words (O.Spent iv) =
    (iv * 2 ^ 25 + 2 ^ 24 ≡ opened) ⊎ Contains words (iv * 2 ^ 25 + 2 ^ 24 - 1)
IsSpentBy opened words _ = ⊤

-- What was drawn are the pairs of the lines that draw, none of them below the mark that the life opened with. A line says that no number is
-- left under an IV Index only where a seat of this life saw the counter at the end of that IV Index, and the numbers under it were used up.
pub record TellsWords (life : Life) (closed : ClosedView) : Type 0 where
  pub ran : is_on life.opened ≡ true
  pub words : AreWordsOf closed.drawn (draws (shown life))
  pub since : All (λ x. opened_at life.opened ≤ x) closed.drawn
  pub spent : All (λ s. IsSpentSeen closed.looks s.outcome) (shown life)
  -- each such line has a look of its own
  pub own : HasOwnLooks (ends_told (shown life)) closed.looks
  pub ends : All (λ s. IsSpentBy (opened_at life.opened) closed.drawn s.outcome) (shown life)
  -- No number was lost in the life: each word from the mark that it opened with on and below the counter was drawn or passed over, once, and
  -- no other was. Only to SEQ 0 of an IV Index did the counter go on.
  pub all : (x : ℕ)
      → times x closed.drawn + passed_over x closed.advances + once_below x (opened_at life.opened)
      ≡ once_below x closed.next
  pub firsts : All (λ a. seq_of a.1 ≡ 0) closed.advances
  pub reached : All (λ a. a.1 ≤ closed.next) closed.advances
  -- At the end fewer than 256 words that were published are left, which the next life loses: so no refill was published
  -- behind which the counter stayed.
  pub near : closed.mark < closed.next + 256
  -- No refill was stored before there was a job that draws: so a life that had none stored none.
  pub asked : AreAsked life.entries life.refills

-- nothing is told of a life that wasn't run
abbrev pub TellsDrawn : Life → Option ClosedView → Type 0
TellsDrawn life None = is_on life.opened ≡ false
TellsDrawn life (Some closed) = TellsWords life closed
