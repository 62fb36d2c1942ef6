-- What the snapshots of a session tell.
use Rattle.std.specs.Prelude.{suc, [], ◌∷◌, ◌++◌, map}
use Rattle.forward_core.specs.declared.past.AskedLink.{AskedLink}
use Rattle.forward_core.specs.declared.past.AskedLink.TheVariants as asked
use Rattle.forward_core.specs.declared.past.TakenLink.{TakenLink}
use Rattle.forward_core.specs.declared.past.TakenLink.TheVariants as taken
use Rattle.forward_core.specs.Demands.{asked_in, wanted}
use Rattle.forward_core.specs.Told.{ToldAsked, ToldAnswers}

-- what was asked for up to here
abbrev pub asked_before : {A : Type 0} → AskedLink A → ToldAsked
asked_before asked.Start = record { times = 0; all = [] }
asked_before (asked.Then before demands) = record {
  times = suc before.value.times;
  all = before.value.all ++ asked_in (map wanted demands.value.items);
}

-- the answers up to here
abbrev pub taken_before : {A : Type 0} → TakenLink A → ToldAnswers
taken_before taken.Start = record { times = 0; all = [] }
taken_before (taken.Then before reserved) =
    record { times = suc before.value.times; all = before.value.all ++ reserved.value ∷ [] }
