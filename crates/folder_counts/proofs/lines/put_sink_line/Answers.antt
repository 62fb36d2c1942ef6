use Rattle.std.proofs.Common.{ℕ, List, ◌≡◌, ◌++◌, ◌∷◌, ◌∙◌, [], ap, append-nil, append_assoc, codes, decimal}
use Rattle.folder_counts.specs.Lines.{time_field}
use Rattle.folder_counts.specs.declared.counts.SinkCounts.{SinkCounts}
use Rattle.folder_counts.proofs.Written.{then_text}
use Rattle.folder_counts.proofs.lines.put_sink_line.Goals as goal

abbrev front : List ℕ → SinkCounts → List ℕ → List ℕ
front path counts newest =
    codes "sink " ++ (path ++ (codes " files " ++ (decimal counts.files ++ (codes " events " ++ (decimal counts.events ++ (codes " bytes " ++ (decimal counts.bytes ++ (codes " torn " ++ (decimal counts.torn
    ++ (codes " newest " ++ newest))))))))))

abbrev row : List ℕ → SinkCounts → List ℕ → List ℕ → List ℕ
row path counts newest more =
    codes "sink " ++ path ++ codes " files " ++ decimal counts.files ++ codes " events " ++ decimal counts.events ++ codes " bytes " ++ decimal counts.bytes ++ codes " torn " ++ decimal counts.torn
    ++ codes " newest " ++ newest ++ more

row_is : (path : List ℕ) (counts : SinkCounts) (newest more : List ℕ) → front path counts newest ++ more ≡ row path counts newest more
row_is path counts newest more = simp append_assoc

pub returns : goal.returns
returns g c =
    let old = c.args.lines.now.items in
    let sink = c.args.sink.now in
    let counts = c.counts-counts.result in
    let word = codes " newest event " in
    let mid = c.put_pieces.new.text.items in
    let new = c.put_time.new.line.items in
    let path = c.as_bytes.result.now in
    let newest = c.as_bytes-2.result.now in
    let first : mid ≡ old ++ front path counts newest = c.in_ok-put_pieces.ensures ∙ ap (λ z. old ++ front path counts z) (append-nil newest) in
    let timed : new ≡ old ++ row path counts newest (time_field word counts.newest_event) =
    c.in_ok-put_time.ensures ∙ ap (λ z. z ++ time_field word counts.newest_event) first ∙ append_assoc old (front path counts newest) (time_field word counts.newest_event)
    ∙ ap (λ z. old ++ z) (row_is path counts newest (time_field word counts.newest_event)) in
    then_text c.extend_from_slice.result old new c.extend_from_slice.new.self.items (row path counts newest (time_field word counts.newest_event))
    (row sink.path sink.counts sink.newest (time_field word sink.counts.newest_event)) (10 ∷ []) timed
    (ap (λ z. row z counts newest (time_field word counts.newest_event)) (c.as_bytes.ensures.value ∙ c.path.ensures)
    ∙ ap (λ z. row sink.path counts z (time_field word counts.newest_event)) (c.as_bytes-2.ensures.value ∙ c.newest.ensures)
    ∙ ap (λ (z : SinkCounts). row sink.path z sink.newest (time_field word z.newest_event)) c.counts-counts.ensures)
    c.extend_from_slice.ensures.items
