use Rattle.std.proofs.Common.{ℕ, List, ◌≡◌, ◌++◌, ◌∙◌, ap, codes, subst, Result, Ok, Err}
use Rattle.std.specs.Prelude.{OnOk}
use Rattle.folder_counts.specs.Lines.{flaw_line, sink_line}
use Rattle.folder_counts.specs.declared.counts.SinkCounts.{SinkCounts}
use Rattle.folder_counts.proofs.Written.{then_more}
use Rattle.folder_counts.proofs.lines.put_sink.Goals as goal

last_more : {S E : Type 0} (result : Result S E) (old mid new text more : List ℕ) → mid ≡ old ++ text → OnOk result (new ≡ mid ++ more) → OnOk result (new ≡ old ++ (text ++ more))
last_more (Ok done) old mid new text more first next = then_more old mid new text more first next
last_more (Err e) old mid new text more first next = tt

pub returns : goal.returns
returns g c =
    let old = c.args.lines.now.items in
    let sink = c.args.sink.now in
    let counts = c.counts-counts.result in
    let one = sink_line sink in
    let mid = c.put_flaw.new.lines.items in
    let new = c.put_flaw-2.new.lines.items in
    let damaged : List ℕ → ℕ → List ℕ = λ name n. flaw_line name (codes " damaged ") n in
    let unread : List ℕ → ℕ → List ℕ = λ name n. flaw_line name (codes " unread ") n in
    let first : mid ≡ old ++ (one ++ damaged c.path.result.now counts.damaged) =
    then_more old c.put_sink_line.new.lines.items mid one (damaged c.path.result.now counts.damaged) c.in_ok-put_sink_line.ensures c.in_ok-put_flaw.ensures in
    subst (λ z. OnOk c.put_flaw-2.result (new ≡ old ++ z))
    (ap (λ z. one ++ damaged z counts.damaged ++ unread c.path-2.result.now counts.unread) c.path.ensures
    ∙ ap (λ z. one ++ damaged sink.path counts.damaged ++ unread z counts.unread) c.path-2.ensures
    ∙ ap (λ (z : SinkCounts). one ++ damaged sink.path z.damaged ++ unread sink.path z.unread) c.counts-counts.ensures)
    (last_more c.put_flaw-2.result old mid new (one ++ damaged c.path.result.now counts.damaged) (unread c.path-2.result.now counts.unread) first c.put_flaw-2.ensures)
