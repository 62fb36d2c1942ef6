use Rattle.std.proofs.Common.{◌≡◌, ◌+◌, ◌<◌, ◌++◌, ℕ, List, [], ap, get_or, length, sym, take, ◌∙◌, arith}
use Rattle.std.specs.List.{flat_map}
use Rattle.std.proofs.lemmas.List.{flat_map_more, map_more, take_all}
use Rattle.relay_conf.specs.declared.output.BufferNo.{BufferNo}
use Rattle.route_graph.specs.Listing.{numbers_of}
use Rattle.way_listing.specs.Lines.{buffer_text}
use Rattle.way_listing.proofs.listing.buffers_text.Goals as goal

texts_more : (F : ℕ → List ℕ) (buffers : List BufferNo) (i : ℕ) (d : BufferNo) (before after : List ℕ) → i < length buffers → before ≡ flat_map F (numbers_of (take i buffers)) → after ≡ before ++ F (get_or buffers i d).0
    → after ≡ flat_map F (numbers_of (take (i + 1) buffers))
texts_more F buffers i d before after less is more =
    let number = (get_or buffers i d).0 in
    more ∙ ap (λ text. text ++ F number) is ∙ flat_map_more F [] (numbers_of (take i buffers)) number ∙ ap (flat_map F) (sym (map_more (λ (buffer : BufferNo). buffer.0) buffers i d less))

pub loop-buffer-preserved : goal.loop-buffer-preserved
loop-buffer-preserved g c =
    texts_more (buffer_text c.args.net.now c.args.place) c.args.buffers.now c.loop-buffer.buffer-index _ c.loop-buffer.text.items c.put_buffer.new.text.items (omega arith) c.loop-buffer.invariant c.in_ok-put_buffer.ensures

pub returns : goal.returns
returns g c = rw (take_all c.loop-buffer.buffer-index c.args.buffers.now c.loop-buffer-test.false) at c.loop-buffer.invariant
