use Rattle.std.proofs.Common.{not, rules}
use Rattle.std.proofs.lemmas.List.Elements.{filter_from_retain}
use Rattle.disk_files.proofs.memory_file.sweep.Goals as goal

pub returns : goal.returns
returns g c = filter_from_retain _ (λ e. not e.state.is_removed) (λ p x b q h. search rules) _ c.args.files.now.items c.retain.new.self.items c.retain.ensures.filtered
