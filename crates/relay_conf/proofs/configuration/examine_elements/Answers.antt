use Rattle.std.proofs.Common.{map}
use Rattle.conf_text.specs.Views.{tree_of}
use Rattle.relay_conf.proofs.Refusals.{faultless, refused, not_read, read_alone}
use Rattle.relay_conf.proofs.configuration.examine_elements.Goals as goal

pub returns-clause-faultless : goal.returns-clause-faultless
returns-clause-faultless g c = faultless (map tree_of c.args.elements.now) c.examine_all.result c.examine_all.ensures

pub returns-clause-refused : goal.returns-clause-refused
returns-clause-refused g c = refused (map tree_of c.args.elements.now) c.examine_all.result c.examine_all.ensures

pub returns-clause-fault : goal.returns-clause-fault
returns-clause-fault g c = not_read (map tree_of c.args.elements.now) c.examine_all.result c.examine_all.ensures

pub returns-clause-only : goal.returns-clause-only
returns-clause-only g c = read_alone (map tree_of c.args.elements.now) c.examine_all.result c.examine_all.ensures
