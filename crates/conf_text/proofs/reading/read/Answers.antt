use Rattle.std.proofs.Common.{map, subst}
use Rattle.conf_text.specs.Views.{tree_of}
use Rattle.conf_text.specs.Answers.{Gives}
use Rattle.conf_text.proofs.Whole.{complete_ok, complete_err, found_is, refused_is}
use Rattle.conf_text.proofs.reading.read.Goals as goal

pub returns-clause-found : goal.returns-clause-found
returns-clause-found g c = found_is (λ v. map tree_of v.items) c.args.text.now c.parsed.result c.parsed.ensures

pub returns-clause-only : goal.returns-clause-only
returns-clause-only g c = λ elements conf. subst (λ r. Gives (λ v. map tree_of v.items) c.parsed.result r) (complete_ok c.args.text.now elements conf) c.parsed.ensures

pub returns-clause-refused : goal.returns-clause-refused
returns-clause-refused g c = refused_is (λ v. map tree_of v.items) c.args.text.now c.parsed.result c.parsed.ensures

pub returns-clause-fault : goal.returns-clause-fault
returns-clause-fault g c = λ f has. subst (λ r. Gives (λ v. map tree_of v.items) c.parsed.result r) (complete_err c.args.text.now f.kind f.line has) c.parsed.ensures
