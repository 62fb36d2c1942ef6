-- What a worker did, as its diary has it.
use Rattle.std.specs.Prelude.{List, [], ◌∷◌}
use Rattle.flush_pool.specs.Acts as acts
use Rattle.flush_pool.specs.Acts.{Act}
use Rattle.flush_pool.specs.declared.diary.Deed.{Deed}
use Rattle.flush_pool.specs.declared.diary.Deed.TheVariants as deed
use Rattle.flush_pool.specs.declared.diary.Link.{Link}
use Rattle.flush_pool.specs.declared.diary.Link.TheVariants.{Start, Then}

-- an entry of the diary
abbrev pub act_of : {A : Type 0} → Deed A → Act
act_of (deed.Looked stop) = acts.Looked stop
act_of deed.Unclaimed = acts.Unclaimed
act_of (deed.Claimed claim) = acts.Claimed claim.value.serial
act_of (deed.Judged judged) = acts.Judged judged.serial judged.verdict
act_of (deed.Asked serial answer) = acts.Asked serial answer
act_of (deed.Carried serial evidence) = acts.Carried serial evidence.value
act_of (deed.NotCarried serial fault) = acts.NotCarried serial fault
act_of (deed.Checked serial failed) = acts.Checked serial failed
act_of (deed.Purged serial evidence) = acts.Purged serial evidence.value
act_of (deed.NotPurged serial evidence fault) = acts.NotPurged serial evidence.value fault
act_of (deed.Noted noted) = acts.Noted noted.serial
act_of (deed.NotNoted serial) = acts.NotNoted serial
act_of (deed.Forgot forgotten) = acts.Forgot forgotten.serial
act_of (deed.GaveBack claim) = acts.GaveBack claim.serial

-- the whole diary, the last act first
abbrev pub acts_in : {A : Type 0} → Link A → List Act
acts_in Start = []
acts_in (Then entry before) = act_of entry.value ∷ before.value
