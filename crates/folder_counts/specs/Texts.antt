-- The texts of a data folder and of the outputs of its relay, in three forms.
use Rattle.std.specs.Prelude.{ℕ, List, [], ◌∷◌, ◌++◌}
use Rattle.std.specs.List.{flat_map}
use Rattle.json.specs.Print.{print}
use Rattle.json.specs.Token.{Token, begin_object, end_object}
use Rattle.program_text.specs.Lines.{line}
use Rattle.folder_counts.specs.Lines.{buffer_line, over_lines, sink_lines, total_line}
use Rattle.folder_counts.specs.Metrics.{with_sinks}
use Rattle.folder_counts.specs.Metrics as samples
use Rattle.folder_counts.specs.Object.{with_buffers, with_overs, with_total}
use Rattle.folder_counts.specs.Object as object
use Rattle.folder_counts.specs.Outputs.{output_line, with_outputs, with_samples}
use Rattle.folder_counts.specs.Views.{FolderView, OutputView}
use Rattle.folder_counts.specs.declared.limits.Limits.{Limits}

-- All lines: those of the buffers and of the sinks, in their order, those of the outputs, the one
-- of what all buffers hold, and those of the limits that some are above.
abbrev pub status_lines : Limits → FolderView → List OutputView → List ℕ
status_lines limits folder outputs =
    flat_map buffer_line folder.buffers ++ flat_map sink_lines folder.sinks
    ++ flat_map (output_line folder.buffers) outputs ++ total_line folder.buffers
    ++ flat_map (over_lines limits) folder.buffers

-- the members of all that
abbrev pub with_folder : List Token → Limits → FolderView → List OutputView → List Token
with_folder tokens limits folder outputs =
    with_overs
    (with_total
    (with_outputs (object.with_sinks (with_buffers tokens folder.buffers) folder.sinks)
    folder.buffers outputs) folder.buffers) limits folder.buffers

-- the object of them
abbrev pub with_status : List Token → Limits → FolderView → List OutputView → List Token
with_status tokens limits folder outputs =
    with_folder (tokens ++ begin_object ∷ []) limits folder outputs ++ end_object ∷ []

-- its text, in a line
abbrev pub status_object : Limits → FolderView → List OutputView → List ℕ
status_object limits folder outputs = line (print (with_status [] limits folder outputs))

-- the samples
abbrev pub status_metrics : FolderView → List OutputView → List ℕ
status_metrics folder outputs =
    with_samples (with_sinks (samples.with_buffers [] folder.buffers) folder.sinks) outputs
