-- Files that are counted one after another.
use Rattle.std.proofs.Common.{ℕ, List, [], ◌∷◌, ◌++◌, ◌≡◌, ◌≤◌, length, map, take, refl, sym, ap, ◌∙◌, subst, Option, Result, Ok, Err}
use Rattle.std.specs.Prelude.{OnOk}
use Rattle.std.proofs.lemmas.Grind.{fold-append}
use Rattle.std.proofs.lemmas.List.{map-append, take_all}
use Rattle.folder_listing.specs.Files.{Named}
use Rattle.folder_counts.specs.Folders.{name_of, folder_with, no_folder, AreCounted, IsCounted, OfBuffer, OfSink, Takes}
use Rattle.event_listing.proofs.Items.{each_append}
use Rattle.folder_counts.specs.Views.{BufferView, FolderView, SinkView}

pub none_counted : (named : List ℕ → Option (List ℕ)) (folder : FolderView) → folder ≡ no_folder → AreCounted named [] folder
none_counted named folder is = record { counted = []; files_are = refl; each = tt; folder_is = is }

-- one file more
pub counted_more : (named : List ℕ → Option (List ℕ)) (files : List Named) (file : Named) (folder new : FolderView) → AreCounted named files folder → Takes named file folder new
    → AreCounted named (files ++ file ∷ []) new
counted_more named files file folder new so_far takes =
    let one = takes.one in
    record {
      counted = so_far.counted ++ one ∷ [];
      files_are = map-append name_of so_far.counted (one ∷ []) ∙ ap (λ l. l ++ name_of one ∷ []) so_far.files_are ∙ ap (λ f. files ++ f ∷ []) takes.file_is;
      each = each_append (IsCounted named) so_far.counted (one ∷ []) so_far.each (takes.is, tt);
      folder_is = takes.more ∙ ap (λ f. folder_with f one) so_far.folder_is ∙ sym (fold-append folder_with no_folder so_far.counted (one ∷ []));
    }

-- no file is left
pub counted_all : {X : Type 0} (named : List ℕ → Option (List ℕ)) (name : X → Named) (listed : List X) (n : ℕ) (folder : FolderView) → length listed ≤ n
    → AreCounted named (map name (take n listed)) folder → AreCounted named (map name listed) folder
counted_all named name listed n folder end so_far = subst (λ files. AreCounted named (map name files) folder) (take_all n listed end) so_far

-- the file is a journal's
pub takes_buffer : {S E : Type 0} (named : List ℕ → Option (List ℕ)) (file : Named) (old new : FolderView) (buffer : BufferView) (result : Result S E) → IsCounted named (OfBuffer buffer)
    → name_of (OfBuffer buffer) ≡ file → OnOk result (new ≡ folder_with old (OfBuffer buffer)) → OnOk result (Takes named file old new)
takes_buffer named file old new buffer (Ok done) is same more = record { one = OfBuffer buffer; is = is; file_is = same; more = more }
takes_buffer named file old new buffer (Err e) is same more = tt

-- the file is a sink's
pub takes_sink : {S E : Type 0} (named : List ℕ → Option (List ℕ)) (file : Named) (old new : FolderView) (sink : SinkView) (result : Result S E) → IsCounted named (OfSink sink)
    → name_of (OfSink sink) ≡ file → OnOk result (new ≡ folder_with old (OfSink sink)) → OnOk result (Takes named file old new)
takes_sink named file old new sink (Ok done) is same more = record { one = OfSink sink; is = is; file_is = same; more = more }
takes_sink named file old new sink (Err e) is same more = tt
