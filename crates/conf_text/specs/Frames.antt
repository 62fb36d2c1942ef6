-- Open sections without where they lie in memory.
use Rattle.std.specs.Prelude.{string_bytes, map, reverse}
use Rattle.conf_text.specs.declared.section.Section.{Section}
use Rattle.conf_text.specs.declared.section.Reader.{Reader}
use Rattle.conf_text.specs.Views.{setting, tree_of}
use Rattle.conf_text.specs.Reading.{headed, Frame, frame, Stack, stack}

-- one of them
abbrev pub frame_of : {A : Type 0} → Section A → Frame
frame_of s = frame (headed (string_bytes s.name) (string_bytes s.argument) s.line)
    (map setting s.pairs.items) (map tree_of s.children.items)

-- the sections round the innermost lie from the outside in
abbrev pub stack_of : {A : Type 0} → Reader A → Stack
stack_of r = stack (frame_of r.innermost) (reverse (map frame_of r.outer.items))
