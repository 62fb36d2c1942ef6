use Rattle.std.proofs.Common.{[], ◌∷◌, ◌++◌, length, subst, sym, ◌∙◌}
use Rattle.std.specs.Prelude.{codes}
use Rattle.json.specs.Token.{begin_object, key}
use Rattle.event_modes.specs.Entry.{IsTime}
use Rattle.event_listing.proofs.Eventful.{event_written, more}
use Rattle.event_listing.proofs.Stored.{two_items, first_is, second_is}
use Rattle.event_listing.proofs.event.put_members.Goals as goal

pub first_item-time-requires-clause-items : goal.first_item-time-requires-clause-items
first_item-time-requires-clause-items g c = two_items c.args.entry.now c.split_at.result.1.now c.split_at.ensures.back c.requires

pub put_time-requires-clause-time : goal.put_time-requires-clause-time
put_time-requires-clause-time g c =
    let item = first_is c.args.entry.now c.split_at.result.1.now c.first_item-time.result.item.now _ c.split_at.ensures.back c.requires c.first_item-time.ensures.first in
    subst IsTime (sym item.0) c.requires.kept.is_time

pub returns : goal.returns
returns g c =
    let parts = first_is c.args.entry.now c.split_at.result.1.now c.first_item-time.result.item.now _ c.split_at.ensures.back c.requires c.first_item-time.ensures.first in
    let fields = second_is c.first_item-fields.result.item.now c.requires.kept.fields _ _ parts.1 c.first_item-fields.ensures.first in
    let old = c.args.writer.now.tokens in
    let tags = c.in_ok-put_text.ensures in
    let times = c.in_ok-put_time.ensures in
    let values = c.in_ok-put_item.ensures in
    let front = begin_object ∷ key (codes "tag") ∷ [] in
    let to_key = more old (begin_object ∷ []) (key (codes "tag") ∷ []) c.begin_object.new.self.tokens c.key.new.self.tokens c.in_ok-begin_object.ensures.ok c.in_ok-key.ensures.ok in
    let to_tag = more old front tags.tokens c.key.new.self.tokens c.put_text.new.writer.tokens to_key tags.appends.tokens_are in
    let to_second = more old (front ++ tags.tokens) (key (codes "time") ∷ []) c.put_text.new.writer.tokens c.key-2.new.self.tokens to_tag c.in_ok-key-2.ensures.ok in
    let to_time = more old ((front ++ tags.tokens) ++ key (codes "time") ∷ []) times.tokens c.key-2.new.self.tokens c.put_time.new.writer.tokens to_second times.appends.tokens_are in
    let to_third = more old (((front ++ tags.tokens) ++ key (codes "time") ∷ []) ++ times.tokens) (key (codes "record") ∷ []) c.put_time.new.writer.tokens c.key-3.new.self.tokens to_time c.in_ok-key-3.ensures.ok in
    let to_record =
    more old ((((front ++ tags.tokens) ++ key (codes "time") ∷ []) ++ times.tokens) ++ key (codes "record") ∷ []) values.tokens c.key-3.new.self.tokens c.put_item.new.writer.tokens to_third values.appends.tokens_are in
    let before =
    values.appends.before ∙ c.in_ok-key-3.ensures.room.0 ∙ times.appends.before ∙ c.in_ok-key-2.ensures.room.0 ∙ tags.appends.before ∙ c.in_ok-key.ensures.room.0 ∙ c.in_ok-begin_object.ensures.room.0 in
    event_written c.end_object.result c.args.tag.now c.args.entry.now c.first_item-time.result.item.now c.first_item-fields.result.item.now (length c.first_item-fields.result.item.now)
    tags.tokens times.tokens values.tokens c.args.writer.now c.put_item.new.writer c.end_object.new.self c.requires parts.0 fields tags.is times.is values.is to_record before
    c.end_object.ensures.ok c.end_object.ensures.room.0
