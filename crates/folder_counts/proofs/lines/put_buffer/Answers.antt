use Rattle.std.proofs.Common.{◌≡◌, ◌++◌, ◌∷◌, ◌∙◌, [], ap, append-nil, codes, refl}
use Rattle.folder_counts.specs.Lines.{with_found}
use Rattle.folder_counts.proofs.Written.{found_behind, then_text}
use Rattle.folder_counts.proofs.lines.put_buffer.Goals as goal

pub returns : goal.returns
returns g c =
    let old = c.args.lines.now.items in
    let buffer = c.args.buffer.now in
    let front = codes "buffer " ++ buffer.path in
    let mid = c.put_pieces.new.text.items in
    let new = c.put_found.new.line.items in
    let named : mid ≡ old ++ front =
    c.in_ok-put_pieces.ensures ∙ ap (λ z. old ++ (codes "buffer " ++ z)) (append-nil c.as_bytes-path.result.now ∙ c.as_bytes-path.ensures.value ∙ c.path.ensures) in
    let found : new ≡ old ++ with_found front buffer.found =
    c.in_ok-put_found.ensures ∙ ap (λ f. with_found mid f) c.found.ensures ∙ ap (λ z. with_found z buffer.found) named ∙ found_behind old front buffer.found in
    then_text c.extend_from_slice.result old new c.extend_from_slice.new.self.items (with_found front buffer.found) (with_found front buffer.found) (10 ∷ []) found refl
    c.extend_from_slice.ensures.items
