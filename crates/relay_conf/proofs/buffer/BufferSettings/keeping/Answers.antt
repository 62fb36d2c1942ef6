use Rattle.std.proofs.Common.{rules}
use Rattle.conf_values.specs.Words as words
use Rattle.relay_conf.proofs.buffer.BufferSettings.keeping.Goals as goal

-- each value of so short a section is read as it stands
pub returns-clause-means : goal.returns-clause-means
unfolding words.boolean_of
returns-clause-means g c = search rules
