use Rattle.std.proofs.Common.{[], ◌∷◌, inl, ◌++◌}
use Rattle.msgpack_bytes.specs.Spelling.{str_of}
use Rattle.sink_series.proofs.Items.{parts, begins, header, tag_says, body_is}
use Rattle.sink_series.proofs.reading.parts_of.Goals as goal

pub returns-in_err-tag : goal.returns-in_err-tag
returns-in_err-tag c event rest is same =
    let p = parts c.args.bytes.now event rest is same in
    let h = c.in_ok-behind.ensures.only (0x93 ∷ []) (str_of event.tag ++ (p.time ++ (p.fields ++ rest))) header (begins c.args.bytes.now event rest is same) in
    absurd (c.in_err-tag.ensures.only (str_of event.tag) event.tag (p.time ++ (p.fields ++ rest)) (inl (tag_says event.tag is.short)) h)

pub returns-in_err-after : goal.returns-in_err-after
returns-in_err-after c event rest is same =
    let p = parts c.args.bytes.now event rest is same in
    let h = c.in_ok-behind.ensures.only (0x93 ∷ []) (str_of event.tag ++ (p.time ++ (p.fields ++ rest))) header (begins c.args.bytes.now event rest is same) in
    let t = c.in_ok-tag.ensures.only (str_of event.tag) event.tag (p.time ++ (p.fields ++ rest)) (inl (tag_says event.tag is.short)) h in
    absurd (c.in_err-after.ensures.only p.time (p.fields ++ rest) p.is_time t.1)

pub returns-in_err-rest : goal.returns-in_err-rest
returns-in_err-rest c event rest is same =
    let p = parts c.args.bytes.now event rest is same in
    let h = c.in_ok-behind.ensures.only (0x93 ∷ []) (str_of event.tag ++ (p.time ++ (p.fields ++ rest))) header (begins c.args.bytes.now event rest is same) in
    let t = c.in_ok-tag.ensures.only (str_of event.tag) event.tag (p.time ++ (p.fields ++ rest)) (inl (tag_says event.tag is.short)) h in
    let a = c.in_ok-after.ensures.only p.time (p.fields ++ rest) p.is_time t.1 in
    absurd (c.in_err-rest.ensures.only p.fields rest p.is_fields a.1)

pub returns : goal.returns
returns c event rest is same =
    let p = parts c.args.bytes.now event rest is same in
    let h = c.in_ok-behind.ensures.only (0x93 ∷ []) (str_of event.tag ++ (p.time ++ (p.fields ++ rest))) header (begins c.args.bytes.now event rest is same) in
    let t = c.in_ok-tag.ensures.only (str_of event.tag) event.tag (p.time ++ (p.fields ++ rest)) (inl (tag_says event.tag is.short)) h in
    let a = c.in_ok-after.ensures.only p.time (p.fields ++ rest) p.is_time t.1 in
    let r = c.in_ok-rest.ensures.only p.fields rest p.is_fields a.1 in
    (t.0, body_is event.entry p rest _ _ _ t.1 r.1 c.split_at.ensures.front)

pub returns-in_err-behind : goal.returns-in_err-behind
returns-in_err-behind c event rest is same =
    let p = parts c.args.bytes.now event rest is same in
    absurd (c.in_err-behind.ensures.only (0x93 ∷ []) (str_of event.tag ++ (p.time ++ (p.fields ++ rest))) header (begins c.args.bytes.now event rest is same))
