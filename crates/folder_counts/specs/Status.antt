-- What is printed of a data folder's status.
use Rattle.std.specs.Prelude.{ℕ, ◌≡◌, ◌⊎◌, List, Option}
use Rattle.folder_listing.specs.Files.{Named}
use Rattle.program_text.specs.Lines.{memory_line}
use Rattle.program_text.specs.Output.{IsPrinted}
use Rattle.program_text.specs.declared.status.Status.{Status}
use Rattle.program_text.specs.declared.status.Status.TheVariants.{Usage}
use Rattle.folder_counts.specs.Folders.{AreCounted}
use Rattle.folder_counts.specs.Limits.{status_of}
use Rattle.folder_counts.specs.Order.{IsInOrder}
use Rattle.folder_counts.specs.Outputs.{state_name, AreOutputs}
use Rattle.folder_counts.specs.Texts.{status_lines, status_metrics, status_object}
use Rattle.folder_counts.specs.Views.{FolderView, OutputView}
use Rattle.folder_counts.specs.declared.limits.Limits.{Limits}
use Rattle.folder_counts.specs.declared.status.Form.{Form}
use Rattle.folder_counts.specs.declared.status.Form.TheVariants.{Lines, Object, Metrics}

-- the text of a folder and of its relay's outputs, in a form
abbrev pub text_of : Limits → Form → FolderView → List OutputView → List ℕ
text_of limits Lines folder outputs = status_lines limits folder outputs
text_of limits Object folder outputs = status_object limits folder outputs
text_of limits Metrics folder outputs = status_metrics folder outputs

-- this is the text of a folder and of some outputs, which are those that are wanted
pub record IsTextOfSome (wanted : List OutputView → Type 0) (limits : Limits) (form : Form)
    (folder : FolderView) (text : List ℕ) : Type 0 where
  pub outputs : List OutputView
  pub are_wanted : wanted outputs
  pub text_is : text ≡ text_of limits form folder outputs

-- These files are counted, and this is the text of what they hold, in the order of names, and of
-- what the relay says of its outputs; and the status that the files mean.
pub record IsSaid (named : List ℕ → Option (List ℕ)) (files : List Named) (limits : Limits)
    (form : Form) (text : List ℕ) (status : Status) : Type 0 where
  pub counted : FolderView
  pub folder : FolderView
  pub are_counted : AreCounted named files counted
  pub in_order : IsInOrder counted folder
  pub outputs : List OutputView
  pub outputs_are : AreOutputs (named state_name) outputs
  pub text_is : text ≡ text_of limits form folder outputs
  pub status_is : status ≡ status_of limits folder

-- what these files hold is printed
pub record PrintsSaid (named : List ℕ → Option (List ℕ)) (files : List Named) (limits : Limits)
    (form : Form) (old new : Option (List ℕ)) (status : Status) : Type 0 where
  pub text : List ℕ
  pub meant : Status
  pub said : IsSaid named files limits form text meant
  pub printed : IsPrinted old new text meant status

-- all that `status` does to a writer, and its status: the text of what the files hold, or that
-- memory ran out
abbrev pub PrintsStatus : (List ℕ → Option (List ℕ)) → List Named → Limits → Form → Option (List ℕ)
    → Option (List ℕ) → Status → Type 0
PrintsStatus named files limits form old new status =
    PrintsSaid named files limits form old new status ⊎ IsPrinted old new memory_line Usage status
