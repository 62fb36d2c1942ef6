-- Files that are listed one behind another.
use Rattle.std.proofs.Common.{ℕ, List, [], ◌∷◌, ◌++◌, ◌≡◌, Result, Ok, Err, inl, inr, refl, sym, ap, ◌∙◌, Bool, true, false, append-nil}
use Rattle.std.specs.Prelude.{Option, ◌&&◌, IfOk}
use Rattle.std.specs.List.{AllByRecursion, flat_map}
use Rattle.std.proofs.lemmas.Grind.{flat_map-append}
use Rattle.std.proofs.lemmas.List.{map-append}
use Rattle.program_text.specs.Texts.{IsTextOf}
use Rattle.folder_listing.specs.Files.{Finding, Unread, Named, Shown, lines_of, is_sound, all_sound, IsFindingOf, IsIn, IsShown, IsShownAs, AreShown}
use Rattle.folder_listing.specs.declared.kind.Kind.{Kind}

-- none is listed
pub none_shown : (named : List ℕ → Option (List ℕ)) → AreShown named [] [] true
none_shown named = record { shown = []; files_are = refl; each = tt; lines_are = refl; sound_is = refl }

each_push : (P : Shown → Type 0) (shown : List Shown) (one : Shown) → AllByRecursion P shown → P one → AllByRecursion P (shown ++ one ∷ [])
each_push P [] one all is = (is, tt)
each_push P (first ∷ shown) one all is = (all.0, each_push P shown one all.1 is)

and_one : (a : Bool) → (a && true) ≡ a
and_one true = refl
and_one false = refl

and_more : (a b c : Bool) → (a && b) && c ≡ (a && (b && c))
and_more true b c = refl
and_more false b c = refl

sound_push : (shown : List Shown) (one : Shown) → (all_sound shown && is_sound one.finding) ≡ all_sound (shown ++ one ∷ [])
sound_push [] one = sym (and_one (is_sound one.finding))
sound_push (first ∷ shown) one = and_more (is_sound first.finding) (all_sound shown) (is_sound one.finding) ∙ ap (λ b. is_sound first.finding && b) (sound_push shown one)

-- one more is listed
pub shown_push : (named : List ℕ → Option (List ℕ)) (files : List Named) (file : Named) (lines one new : List ℕ) (sound one_sound new_sound : Bool) → AreShown named files lines sound → IsShown named file.0 file.1 one one_sound
    → new ≡ lines ++ one → new_sound ≡ (sound && one_sound) → AreShown named (files ++ file ∷ []) new new_sound
shown_push named files file lines one new sound one_sound new_sound so_far is more still =
    let last : Shown = record { file = file; finding = is.0 } in
    record {
      shown = so_far.shown ++ last ∷ [];
      files_are = map-append (λ one. one.file) so_far.shown (last ∷ []) ∙ ap (λ l. l ++ file ∷ []) so_far.files_are;
      each = each_push (λ one. IsFindingOf one.file.0 (named one.file.1) one.finding) so_far.shown last so_far.each is.1;
      lines_are = more ∙ ap (λ l. l ++ one) so_far.lines_are ∙ ap (λ l. flat_map lines_of so_far.shown ++ l) (is.2.0 ∙ sym (append-nil (lines_of last))) ∙ sym (flat_map-append lines_of so_far.shown (last ∷ []));
      sound_is = still ∙ ap (λ b. b && one_sound) so_far.sound_is ∙ ap (λ b. all_sound so_far.shown && b) is.2.1 ∙ sound_push so_far.shown last;
    }

-- a file in whose bytes this is found is listed so
pub found_so : {S E : Type 0} (kind : Kind) (name bytes : List ℕ) (finding : Finding) (listed : Result S E) (lines : S → List ℕ) (sound : S → Bool) → IsIn kind bytes finding
    → IfOk listed (λ said. IsShownAs kind name finding (lines said) (sound said)) → IfOk listed (λ said. (x : Finding) × IsIn kind bytes x × IsShownAs kind name x (lines said) (sound said))
found_so kind name bytes finding (Ok said) lines sound is shown = (finding, is, shown)
found_so kind name bytes finding (Err e) lines sound is shown = tt

-- a file that isn't read is listed so
pub unread_so : {S E : Type 0} (kind : Kind) (known : Option (List ℕ)) (name : List ℕ) (listed : Result S E) (lines : S → List ℕ) (sound : S → Bool)
    → IfOk listed (λ said. IsShownAs kind name Unread (lines said) (sound said)) → IfOk listed (λ said. (x : Finding) × IsFindingOf kind known x × IsShownAs kind name x (lines said) (sound said))
unread_so kind known name (Ok said) lines sound shown = (Unread, inr refl, shown)
unread_so kind known name (Err e) lines sound shown = tt

-- a file that is read is listed by what is found in its bytes
pub read_so : {S E : Type 0} (kind : Kind) (known : Option (List ℕ)) (name bytes : List ℕ) (listed : Result S E) (lines : S → List ℕ) (sound : S → Bool) → IsTextOf known bytes
    → IfOk listed (λ said. (x : Finding) × IsIn kind bytes x × IsShownAs kind name x (lines said) (sound said)) → IfOk listed (λ said. (x : Finding) × IsFindingOf kind known x × IsShownAs kind name x (lines said) (sound said))
read_so kind known name bytes (Ok said) lines sound is shown = (shown.0, inl (bytes, is, shown.1), shown.2)
read_so kind known name bytes (Err e) lines sound is shown = tt
