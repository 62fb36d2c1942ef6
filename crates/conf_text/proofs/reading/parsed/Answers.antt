use Rattle.std.proofs.Common.{◌+◌, ◌==◌, take, count_by, ap, ◌∙◌}
use Rattle.std.proofs.lemmas.Str.{is_utf8-from_IsUtf8}
use Rattle.conf_text.specs.Reading.{reading}
use Rattle.conf_text.proofs.Loop.{bad_bytes}
use Rattle.conf_text.proofs.reading.parsed.Goals as goal

pub returns-in-Ok : goal.returns-in-Ok
unfolding reading
returns-in-Ok g c =
    let ok = is_utf8-from_IsUtf8 c.args.bytes.now c.in-Ok.ensures.cases.1 in
    rw (ok, ← c.in-Ok.ensures.cases.0) c.elements.ensures

pub returns-in-Err : goal.returns-in-Err
returns-in-Err g c = bad_bytes c.args.bytes.now c.line_behind.result c.in-Err.ensures.cases.0 (c.line_behind.ensures ∙ ap (λ n. count_by (λ b. b == 10) (take n c.args.bytes.now) + 1) (c.valid_up_to.ensures ∙ c.in-Err.ensures.valid_len))
