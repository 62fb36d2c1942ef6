use Rattle.std.proofs.Common.{rules}
use Rattle.event_modes.specs.Stream.{Sent, Heartbeat}
use Rattle.event_modes.specs.Reading.{meaning}
use Rattle.stream_listing.proofs.ArrivalSteps.{Listed-none, Listed-taken}
use Rattle.stream_listing.proofs.decode.list_arrivals.Goals as goal

pub loop-message-init : goal.loop-message-init
loop-message-init g c = Listed-none c.args.feed.now.held c.args.lines.now.items

pub loop-message-preserved-in_ok-put_message-in-Message : goal.loop-message-preserved-in_ok-put_message-in-Message
loop-message-preserved-in_ok-put_message-in-Message g c =
    Listed-taken c.args.feed.now.held c.args.lines.now.items c.loop-message.lines.items c.put_message.new.lines.items (Sent (meaning c.in-Message.message)) c.loop-message.feed c.next.new.self
    c.loop-message.invariant (rw c.in-Message.is at c.in_ok-message.ensures.ok) c.in_ok-put_message-in-Message.ensures.ok

pub loop-message-preserved-in_ok-put_message-in-Message-2 : goal.loop-message-preserved-in_ok-put_message-in-Message-2
loop-message-preserved-in_ok-put_message-in-Message-2 g c =
    Listed-taken c.args.feed.now.held c.args.lines.now.items c.loop-message.lines.items c.put_message.new.lines.items (Sent (meaning c.in-Message.message)) c.loop-message.feed c.next.new.self
    c.loop-message.invariant (rw c.in-Message.is at c.in_ok-message.ensures.ok) c.in_ok-put_message-in-Message.ensures.ok

pub loop-message-preserved : goal.loop-message-preserved
loop-message-preserved g c =
    Listed-taken c.args.feed.now.held c.args.lines.now.items c.loop-message.lines.items c.extend_from_slice.new.self.items Heartbeat c.loop-message.feed c.next.new.self
    c.loop-message.invariant (rw c.in-Heartbeat.is at c.in_ok-message.ensures.ok) (search rules)
