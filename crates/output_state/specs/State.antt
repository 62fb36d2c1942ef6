-- What contracts see of an output's state, without where its buffer's word lies in memory.
use Rattle.std.specs.Prelude.{ℕ, List}
use Rattle.output_state.specs.declared.state.OutputCounts.{OutputCounts}

-- an output: the line of the configuration where it begins, its buffer's path or `*`, its numbers
pub record StateView : Type 0 where
  pub line : ℕ
  pub buffer : List ℕ
  pub counts : OutputCounts
