use Rattle.std.proofs.Common.{Bor, ◌≡◌, ◌+◌, ◌<◌, ◌++◌, ◌∙◌, ℕ, List, ap, flat_map, get_or, length, sym, take}
use Rattle.std.proofs.lemmas.List.{flat_map_more, take_more}
use Rattle.way_listing.proofs.pieces.put_pieces.Goals as goal

piece_more : (pieces : List (Bor (List ℕ))) (i : ℕ) (d : Bor (List ℕ)) (old mid new : List ℕ) → i < length pieces → mid ≡ old ++ flat_map (λ piece. piece.now) (take i pieces) → new ≡ mid ++ (get_or pieces i d).now
    → new ≡ old ++ flat_map (λ piece. piece.now) (take (i + 1) pieces)
piece_more pieces i d old mid new less is more =
    let F = λ (piece : Bor (List ℕ)). piece.now in
    let one = get_or pieces i d in
    more ∙ ap (λ t. t ++ one.now) is ∙ flat_map_more F old (take i pieces) one ∙ ap (λ ps. old ++ flat_map F ps) (sym (take_more pieces i d less))

pub loop-piece-preserved : goal.loop-piece-preserved
loop-piece-preserved g c =
    piece_more c.args.pieces.now c.loop-piece.piece-index _ c.args.text.now.items c.loop-piece.text.items c.extend_from_slice.new.self.items c.loop-piece-test.true c.loop-piece.invariant c.in_ok-extend_from_slice.ensures.items
