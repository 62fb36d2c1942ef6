use Rattle.std.proofs.Common.{ℕ, ◌≡◌, ◌+◌, ◌<◌, ◌++◌, List, length, subst, vec_capacity, vec_len, OnErr}
use Rattle.std.specs.List.{concat}
use Rattle.std.proofs.lemmas.Result.{on_err_weaker}
use Rattle.msgpack_bytes.specs.Spelling.{str_of, bin_of, array_header_of}
use Rattle.event_modes.specs.Packed.{option_of, chunk_of}
use Rattle.event_modes.proofs.Puts.{no_room_at_first, no_room_behind, any_err}
use Rattle.event_modes.proofs.packed.put_parts.Goals as goal

-- there is no room for the parts
abbrev Lacks : ℕ → ℕ → List ℕ → List ℕ → List ℕ → Type 0
Lacks capacity len tag option bytes = capacity < len + length (array_header_of 3 ++ (str_of tag ++ (bin_of bytes ++ option)))

of_entries : (capacity len : ℕ) (tag option bytes all : List ℕ) → bytes ≡ all → Lacks capacity len tag option bytes → Lacks capacity len tag option all
of_entries capacity len tag option bytes all e lacks = subst (Lacks capacity len tag option) e lacks

pub returns-in_err-put_array-clause-full : goal.returns-in_err-put_array-clause-full
returns-in_err-put_array-clause-full g c =
    let option = option_of (length c.args.entries.now) (chunk_of c.args.chunk) in
    any_err c.from_residual.result (no_room_at_first (array_header_of 3) (str_of c.args.tag.now ++ (bin_of (concat c.args.entries.now) ++ option)) _ _ c.in_err-put_array.ensures.full)

pub returns-in_err-put_str-clause-full : goal.returns-in_err-put_str-clause-full
returns-in_err-put_str-clause-full g c =
    let option = option_of (length c.args.entries.now) (chunk_of c.args.chunk) in
    let rest = bin_of (concat c.args.entries.now) ++ option in
    any_err c.from_residual-in_err-put_str.result
    (no_room_behind _ _ (array_header_of 3) (str_of c.args.tag.now ++ rest) _ _ _ _ c.args.out.now.ok.0 c.put_array.new.out.ok.0 c.in_ok-put_array.ensures.ok c.in_ok-put_array.ensures.kept
    (no_room_at_first (str_of c.args.tag.now) rest _ _ c.in_err-put_str.ensures.full))

pub returns-in_err-put_bin-clause-full : goal.returns-in_err-put_bin-clause-full
returns-in_err-put_bin-clause-full g c =
    let option = option_of (length c.args.entries.now) (chunk_of c.args.chunk) in
    let bytes = c.as_bytes-bytes.result.now in
    any_err c.from_residual-in_err-put_bin.result
    (of_entries _ _ c.args.tag.now option bytes (concat c.args.entries.now) c.as_bytes-bytes.ensures.all
    (no_room_behind _ _ (array_header_of 3) (str_of c.args.tag.now ++ (bin_of bytes ++ option)) _ _ _ _ c.args.out.now.ok.0 c.put_array.new.out.ok.0 c.in_ok-put_array.ensures.ok c.in_ok-put_array.ensures.kept
    (no_room_behind _ _ (str_of c.args.tag.now) (bin_of bytes ++ option) _ _ _ _ c.put_array.new.out.ok.0 c.put_str.new.out.ok.0 c.in_ok-put_str.ensures.ok c.in_ok-put_str.ensures.kept
    (no_room_at_first (bin_of bytes) option _ _ c.in_err-put_bin.ensures.full))))

pub returns-clause-full : goal.returns-clause-full
returns-clause-full g c =
    let option = option_of (length c.args.entries.now) (chunk_of c.args.chunk) in
    let bytes = c.as_bytes-bytes.result.now in
    on_err_weaker c.put_option.result
    (λ full. of_entries _ _ c.args.tag.now option bytes (concat c.args.entries.now) c.as_bytes-bytes.ensures.all
    (no_room_behind _ _ (array_header_of 3) (str_of c.args.tag.now ++ (bin_of bytes ++ option)) _ _ _ _ c.args.out.now.ok.0 c.put_array.new.out.ok.0 c.in_ok-put_array.ensures.ok c.in_ok-put_array.ensures.kept
    (no_room_behind _ _ (str_of c.args.tag.now) (bin_of bytes ++ option) _ _ _ _ c.put_array.new.out.ok.0 c.put_str.new.out.ok.0 c.in_ok-put_str.ensures.ok c.in_ok-put_str.ensures.kept
    (no_room_behind _ _ (bin_of bytes) option _ _ _ _ c.put_str.new.out.ok.0 c.put_bin.new.out.ok.0 c.in_ok-put_bin.ensures.ok c.in_ok-put_bin.ensures.kept full))))
    (subst (λ (n : ℕ). OnErr c.put_option.result (vec_capacity c.put_bin.new.out < vec_len c.put_bin.new.out + length (option_of n (chunk_of c.args.chunk)))) c.count.ensures c.put_option.ensures.full)
