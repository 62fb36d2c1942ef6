use Rattle.std.proofs.Common.{ℕ, Option, None, ap, ◌∙◌, []}
use Rattle.std.specs.Option.{option_map_or}
use Rattle.std.specs.List.{last_or}
use Rattle.std.specs.BTreeSet.{BTreeSet}
use Rattle.buffer_state.proofs.Serials.{last_key}
use Rattle.buffer_state.proofs.tags.TagIndex.newest.Goals as goal

pub returns : goal.returns
returns g c = c.copied.ensures ∙ last_key c.in_ok-serials.serials.now.keys c.last.result c.last.ensures.variant.1 c.last.ensures.last
    ∙ ap (λ (o : Option (BTreeSet ℕ)). last_or None (option_map_or (λ v. v.keys) o [])) c.in_ok-serials.ensures.value
