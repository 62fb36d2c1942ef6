use Rattle.folder_listing.specs.Files.{Named}
use Rattle.std.proofs.Common.{◌≡◌}
use Rattle.folder_counts.specs.Folders.{name_of, OfBuffer, OfSink}
use Rattle.folder_counts.proofs.Files.{takes_buffer, takes_sink}
use Rattle.folder_counts.proofs.folder.FolderCounts.take.Goals as goal

pub returns-in_ok-buffer-in-Journal : goal.returns-in_ok-buffer-in-Journal
returns-in_ok-buffer-in-Journal g c =
    let buffer = c.in_ok-buffer-in-Journal.buffer in
    let file : Named = (c.args.kind, c.args.name.now) in
    let same : name_of (OfBuffer buffer) ≡ file = cc (c.in-Journal.is, c.in_ok-buffer-in-Journal.ensures.name) in
    takes_buffer (g.O.Open.text_of c.args.files.now) file c.args.self.now c.put_buffer.new.self buffer c.put_buffer.result c.in_ok-buffer-in-Journal.ensures.is same c.put_buffer.ensures

pub returns-in_ok-sink-in-Sink : goal.returns-in_ok-sink-in-Sink
returns-in_ok-sink-in-Sink g c =
    let sink = c.in_ok-sink-in-Sink.sink in
    let file : Named = (c.args.kind, c.args.name.now) in
    let same : name_of (OfSink sink) ≡ file = cc (c.in-Sink.is, c.in_ok-sink-in-Sink.ensures.name) in
    takes_sink (g.O.Open.text_of c.args.files.now) file c.args.self.now c.put_sink.new.self sink c.put_sink.result c.in_ok-sink-in-Sink.ensures.is same c.put_sink.ensures
