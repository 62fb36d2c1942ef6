use Rattle.std.proofs.Common.{[], ◌∷◌, refl, slice_range, to_z, of_z}
use Rattle.std.specs.Prelude.{codes}
use Rattle.std.specs.Int.{w128}
use Rattle.std.specs.Fmt.{signed_decimal}
use Rattle.json.specs.Token.{boolean, null, number}
use Rattle.msgpack_bytes.specs.declared.answers.Head.TheVariants as head
use Rattle.event_listing.specs.Json.{base64_tokens, ext_tokens, marked, IsScalarJson, IsTextJson, Nil, Boolean, Integer, Str, Bin, Ext}
use Rattle.event_listing.proofs.Integers.{int_kept}
use Rattle.event_listing.proofs.Wholes.{nil_whole, bool_whole, int_whole, float_whole, bin_whole, ext_whole, found_head}
use Rattle.event_listing.proofs.Scalars.{str_whole}
use Rattle.event_listing.proofs.Steps.{adds_as, adds_one, adds_these}
use Rattle.event_listing.proofs.item.put_scalar.Goals as goal

pub returns-in-Nil : goal.returns-in-Nil
returns-in-Nil g c =
    adds_one c.null.result (IsScalarJson c.args.item.now) null c.args.writer.now c.null.new.self
    (Nil (nil_whole c.args.item.now c.requires.item (found_head c.args.item.now c.args.found head.Nil c.in-Nil.is c.requires.head)) refl) c.null.ensures.ok c.null.ensures.room.0

pub returns-in-Bool : goal.returns-in-Bool
returns-in-Bool g c =
    adds_one c.boolean.result (IsScalarJson c.args.item.now) (boolean c.in-Bool.value) c.args.writer.now c.boolean.new.self
    (Boolean c.in-Bool.value (bool_whole c.args.item.now c.in-Bool.value c.requires.item (found_head c.args.item.now c.args.found (head.Bool c.in-Bool.value) c.in-Bool.is c.requires.head)) refl)
    c.boolean.ensures.ok c.boolean.ensures.room.0

pub put_integer-requires : goal.put_integer-requires
put_integer-requires g c =
    int_kept c.args.item.now c.in-Int.value c.type_inv.item (int_whole c.args.item.now c.in-Int.value c.requires.item (found_head c.args.item.now c.args.found (head.Int c.in-Int.value) c.in-Int.is c.requires.head))

pub returns-in-Int : goal.returns-in-Int
returns-in-Int g c =
    let is = int_kept c.args.item.now c.in-Int.value c.type_inv.item
    (int_whole c.args.item.now c.in-Int.value c.requires.item (found_head c.args.item.now c.args.found (head.Int c.in-Int.value) c.in-Int.is c.requires.head)) in
    let value = to_z w128 (of_z w128 c.in-Int.value) in
    adds_these c.put_integer.result (IsScalarJson c.args.item.now) (number (signed_decimal value) ∷ []) c.args.writer.now c.put_integer.new.writer
    (Integer value is refl) c.put_integer.ensures

pub put_float-requires : goal.put_float-requires
put_float-requires g c = float_whole c.args.item.now c.requires.item (found_head c.args.item.now c.args.found head.Float c.in-Float.is c.requires.head)

pub returns-in-Str : goal.returns-in-Str
returns-in-Str g c =
    let content = slice_range c.args.item.now c.in-Str.start c.in-Str.end in
    let is = str_whole c.args.item.now c.in-Str.start c.in-Str.end c.requires.item
    (found_head c.args.item.now c.args.found (head.Str c.in-Str.start c.in-Str.end) c.in-Str.is c.requires.head) in
    adds_as c.put_text.result (IsTextJson content) (IsScalarJson c.args.item.now) c.args.writer.now c.put_text.new.writer (λ ts text. Str content is text) c.put_text.ensures

pub returns-in-Bin : goal.returns-in-Bin
returns-in-Bin g c =
    let content = slice_range c.args.item.now c.in-Bin.start c.in-Bin.end in
    let is = bin_whole c.args.item.now c.in-Bin.start c.in-Bin.end c.requires.item
    (found_head c.args.item.now c.args.found (head.Bin c.in-Bin.start c.in-Bin.end) c.in-Bin.is c.requires.head) in
    adds_these c.put_bytes.result (IsScalarJson c.args.item.now) (marked (codes "$bin") (base64_tokens content)) c.args.writer.now c.put_bytes.new.writer
    (Bin content is refl) c.put_bytes.ensures

pub returns-in-Ext : goal.returns-in-Ext
returns-in-Ext g c =
    let content = slice_range c.args.item.now c.in-Ext.start c.in-Ext.end in
    let is = ext_whole c.args.item.now c.in-Ext.kind c.in-Ext.start c.in-Ext.end c.requires.item
    (found_head c.args.item.now c.args.found (head.Ext c.in-Ext.kind c.in-Ext.start c.in-Ext.end) c.in-Ext.is c.requires.head) in
    adds_these c.put_ext.result (IsScalarJson c.args.item.now) (ext_tokens c.in-Ext.kind content) c.args.writer.now c.put_ext.new.writer
    (Ext c.in-Ext.kind content is refl) c.put_ext.ensures
