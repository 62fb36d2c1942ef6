use Rattle.std.proofs.Common.{ℕ, ◌≡◌, ◌+◌, ◌<◌, ◌++◌, List, length, Option, Some, None, Bor, subst, sym, vec_capacity, vec_len, OnErr}
use Rattle.std.specs.Prelude.{codes}
use Rattle.std.proofs.lemmas.Result.{on_err_weaker}
use Rattle.msgpack_bytes.specs.Spelling.{uint_of, str_of, map_header_of}
use Rattle.event_modes.specs.declared.chunk_id.ChunkId.{ChunkId}
use Rattle.event_modes.specs.ChunkIds.{chunk_text}
use Rattle.event_modes.specs.Packed.{option_of, chunk_of}
use Rattle.event_modes.proofs.Puts.{no_room_at_first, no_room_behind, any_err}
use Rattle.event_modes.proofs.packed.put_option.Goals as goal

-- there is no room for the option of this chunk
abbrev Lacks : ℕ → ℕ → ℕ → Option (Bor ChunkId) → Type 0
Lacks capacity len count chunk = capacity < len + length (option_of count (chunk_of chunk))

at_chunk : (capacity len count : ℕ) (chunk same : Option (Bor ChunkId)) → chunk ≡ same → Lacks capacity len count same → Lacks capacity len count chunk
at_chunk capacity len count chunk same e lacks = subst (Lacks capacity len count) (sym e) lacks

pub returns-in_err-put_map-in-None-clause-full : goal.returns-in_err-put_map-in-None-clause-full
returns-in_err-put_map-in-None-clause-full g c =
    any_err c.from_residual.result (at_chunk _ _ c.args.count c.args.chunk None c.in-None.is (no_room_at_first (map_header_of 1) (str_of (codes "size") ++ uint_of c.args.count) _ _ c.in_err-put_map-in-None.ensures.full))

pub returns-in_ok-put_map-in-None-clause-full : goal.returns-in_ok-put_map-in-None-clause-full
returns-in_ok-put_map-in-None-clause-full g c =
    on_err_weaker c.put_size.result
    (λ full. at_chunk _ _ c.args.count c.args.chunk None c.in-None.is
    (no_room_behind _ _ (map_header_of 1) (str_of (codes "size") ++ uint_of c.args.count) _ _ _ _ c.args.out.now.ok.0 c.put_map.new.out.ok.0 c.in_ok-put_map-in-None.ensures.ok c.in_ok-put_map-in-None.ensures.kept full))
    c.put_size.ensures.full

-- the key of the chunk, and the chunk
abbrev named : Bor ChunkId → List ℕ
named id = str_of (codes "chunk") ++ str_of (chunk_text id.now)

-- the size and the chunk
abbrev behind : ℕ → Bor ChunkId → List ℕ
behind count id = (str_of (codes "size") ++ uint_of count) ++ named id

pub returns-in_err-put_map-in-Some-clause-full : goal.returns-in_err-put_map-in-Some-clause-full
returns-in_err-put_map-in-Some-clause-full g c =
    any_err c.from_residual-in_err-put_map-in-Some.result
    (at_chunk _ _ c.args.count c.args.chunk (Some c.in-Some.chunk) c.in-Some.is (no_room_at_first (map_header_of 2) (behind c.args.count c.in-Some.chunk) _ _ c.in_err-put_map-in-Some.ensures.full))

pub returns-in_err-put_size-in-Some-clause-full : goal.returns-in_err-put_size-in-Some-clause-full
returns-in_err-put_size-in-Some-clause-full g c =
    any_err c.from_residual-in_err-put_size-in-Some.result
    (at_chunk _ _ c.args.count c.args.chunk (Some c.in-Some.chunk) c.in-Some.is
    (no_room_behind _ _ (map_header_of 2) (behind c.args.count c.in-Some.chunk) _ _ _ _ c.args.out.now.ok.0 c.put_map-in-Some.new.out.ok.0 c.in_ok-put_map-in-Some.ensures.ok c.in_ok-put_map-in-Some.ensures.kept
    (no_room_at_first (str_of (codes "size") ++ uint_of c.args.count) (named c.in-Some.chunk) _ _ c.in_err-put_size-in-Some.ensures.full)))

pub returns-in_err-put_str-in-Some-clause-full : goal.returns-in_err-put_str-in-Some-clause-full
returns-in_err-put_str-in-Some-clause-full g c =
    any_err c.from_residual-in_err-put_str-in-Some.result
    (at_chunk _ _ c.args.count c.args.chunk (Some c.in-Some.chunk) c.in-Some.is
    (no_room_behind _ _ (map_header_of 2) (behind c.args.count c.in-Some.chunk) _ _ _ _ c.args.out.now.ok.0 c.put_map-in-Some.new.out.ok.0 c.in_ok-put_map-in-Some.ensures.ok c.in_ok-put_map-in-Some.ensures.kept
    (no_room_behind _ _ (str_of (codes "size") ++ uint_of c.args.count) (named c.in-Some.chunk) _ _ _ _ c.put_map-in-Some.new.out.ok.0 c.put_size-in-Some.new.out.ok.0 c.in_ok-put_size-in-Some.ensures.ok c.in_ok-put_size-in-Some.ensures.kept
    (no_room_at_first (str_of (codes "chunk")) (str_of (chunk_text c.in-Some.chunk.now)) _ _ c.in_err-put_str-in-Some.ensures.full))))

pub returns-in_ok-put_str-in-Some-clause-full : goal.returns-in_ok-put_str-in-Some-clause-full
returns-in_ok-put_str-in-Some-clause-full g c =
    on_err_weaker c.put_str-in-Some.result
    (λ full. at_chunk _ _ c.args.count c.args.chunk (Some c.in-Some.chunk) c.in-Some.is
    (no_room_behind _ _ (map_header_of 2) (behind c.args.count c.in-Some.chunk) _ _ _ _ c.args.out.now.ok.0 c.put_map-in-Some.new.out.ok.0 c.in_ok-put_map-in-Some.ensures.ok c.in_ok-put_map-in-Some.ensures.kept
    (no_room_behind _ _ (str_of (codes "size") ++ uint_of c.args.count) (named c.in-Some.chunk) _ _ _ _ c.put_map-in-Some.new.out.ok.0 c.put_size-in-Some.new.out.ok.0 c.in_ok-put_size-in-Some.ensures.ok c.in_ok-put_size-in-Some.ensures.kept
    (no_room_behind _ _ (str_of (codes "chunk")) (str_of (chunk_text c.in-Some.chunk.now)) _ _ _ _ c.put_size-in-Some.new.out.ok.0 c.put_str.new.out.ok.0 c.in_ok-put_str-in-Some.ensures.ok c.in_ok-put_str-in-Some.ensures.kept full))))
    (subst (λ (t : List ℕ). OnErr c.put_str-in-Some.result (vec_capacity c.put_str.new.out < vec_len c.put_str.new.out + length (str_of t))) c.text.ensures c.put_str-in-Some.ensures.full)
