use Rattle.std.proofs.Common.{◌∙◌, ap}
use Rattle.folder_counts.specs.Metrics.{with_buffers, with_sinks}
use Rattle.folder_counts.specs.Outputs.{with_samples}
use Rattle.folder_counts.proofs.metrics.status_metrics.Goals as goal

pub returns : goal.returns
returns g c =
    let folder = c.args.folder.now in
    c.in_ok-put_outputs.ensures ∙ ap (λ text. with_samples text c.args.outputs.now)
    (c.in_ok-put_sinks.ensures ∙ ap (λ sinks. with_sinks c.put_buffers.new.text.items sinks) c.sinks.ensures
    ∙ ap (λ text. with_sinks text folder.sinks)
    (c.in_ok-put_buffers.ensures ∙ ap (λ buffers. with_buffers c.new-text.result.items buffers) c.buffers.ensures
    ∙ ap (λ text. with_buffers text folder.buffers) c.new-text.ensures.items))
