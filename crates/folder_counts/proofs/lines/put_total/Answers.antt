use Rattle.std.proofs.Common.{ℕ, List, ◌≡◌, ◌++◌, ◌∷◌, ◌∙◌, [], ap, append_assoc, codes}
use Rattle.folder_counts.specs.Lines.{total_of, with_chunks}
use Rattle.folder_counts.specs.declared.counts.ChunkCounts.{ChunkCounts}
use Rattle.folder_counts.proofs.Written.{then_text}
use Rattle.folder_counts.proofs.lines.put_total.Goals as goal

chunks_behind : (front text : List ℕ) (chunks : ChunkCounts) → with_chunks (front ++ text) chunks ≡ front ++ with_chunks text chunks
chunks_behind front text chunks = simp append_assoc

pub returns : goal.returns
returns g c =
    let old = c.args.lines.now.items in
    let sum = c.in_ok-sum.sum in
    let mid = c.put_chunks.new.line.items in
    let counted : mid ≡ old ++ with_chunks (codes "total") sum =
    c.in_ok-put_chunks.ensures ∙ ap (λ z. with_chunks z sum) c.in_ok-extend_from_slice.ensures.items ∙ chunks_behind old (codes "total") sum in
    then_text c.extend_from_slice-2.result old mid c.extend_from_slice-2.new.self.items (with_chunks (codes "total") sum) (with_chunks (codes "total") (total_of c.args.buffers.now)) (10 ∷ []) counted
    (ap (with_chunks (codes "total")) c.in_ok-sum.ensures) c.extend_from_slice-2.ensures.items
