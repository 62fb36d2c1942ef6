use Rattle.std.proofs.Common.{◌∙◌, ap, map, reverse}
use Rattle.std.specs.Str.{bytes_eq}
use Rattle.conf_text.specs.Frames.{frame_of}
use Rattle.conf_text.specs.Views.{tree_of}
use Rattle.conf_text.specs.Reading.{closed}
use Rattle.conf_text.proofs.Stacks.{outer_push, close_gives, same_text}
use Rattle.conf_text.proofs.section.Reader.close.Goals as goal

pub returns : goal.returns
returns g c =
    close_gives c.args.line c.args.name.now (frame_of c.args.self.now.innermost) _ (frame_of c.in-Some.parent) (reverse (map frame_of c.pop.new.self.items)) (tree_of c.into_element.result) (frame_of c.replace-section.new.dest) (frame_of c.add_child.new.self)
    (ap (λ xs. reverse (map frame_of xs)) c.in-Some.ensures.items ∙ outer_push frame_of c.pop.new.self.items c.in-Some.parent)
    (rw (← c.as_str.ensures.value) (same_text (bytes_eq c.as_str.result.now c.args.name.now) _ c.ne.ensures c.if-ne.false))
    (c.into_element.ensures ∙ ap (λ s. closed (frame_of s)) c.replace-section.ensures.value)
    (ap (λ s. frame_of s) c.replace-section.ensures.after)
    c.in_ok-add_child.ensures
