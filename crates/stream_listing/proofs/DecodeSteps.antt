-- Steps of a decoder from piece to piece, and what all of them make.
use Rattle.std.proofs.Common.{◌≡◌, ◌<◌, ◌⊎◌, inl, inr, ℕ, List, [], ◌++◌, Option, Some, None, length, length-append, arith, refl, sym, ap, ◌∙◌, subst, append_assoc, append-nil}
use Rattle.std.specs.Char.{is_ascii_whitespace}
use Rattle.std.specs.Prelude.{not, Result}
use Rattle.std.proofs.Common.{Ok, Err}
use Rattle.std.specs.Io.KnownBytes.{Appends, Consumes, IsAtEnd}
use Rattle.std.proofs.KnownBytes.{Appends-trans, Consumes-trans, Consumes-whole}
use Rattle.std.proofs.lemmas.List.Elements.{filter-append}
use Rattle.std.specs.List.{flat_map}
use Rattle.std.proofs.lemmas.Grind.{flat_map-append}
use Rattle.event_modes.specs.Stream.{Arrival, Splits}
use Rattle.program_text.specs.declared.status.Status.{Status}
use Rattle.program_text.specs.declared.status.Status.TheVariants.{Usage}
use Rattle.stream_listing.specs.declared.decode.Stop.{Stop}
use Rattle.stream_listing.specs.declared.decode.Stop.TheVariants.{Hex, Stream, Memory, Read}
use Rattle.stream_listing.specs.HexText.{digits_of, AreDigitsUpTo}
use Rattle.program_text.specs.Lines.{memory_line, read_line}
use Rattle.stream_listing.specs.Listing.{arrival_lines, IsPending, Ends, at_end, at_fault, at_bad_hex, IsCut, IsListingBy, PrintsListing}
use Rattle.event_modes.specs.Feeding.{Feeding}
use Rattle.program_text.specs.Output.{TakesPart, IsPrinted}
use Rattle.stream_listing.specs.Decoding.{ReadsOn, Lists, StopsAt, IsLast, IsLastAtEnd, PrintsLast}
use Rattle.program_text.specs.Texts.{IsTextOf}
use Rattle.stream_listing.proofs.HexSteps.{AreDigitsUpTo-none, AreDigitsUpTo-append, AreDigitsUpTo-more}
use Rattle.stream_listing.proofs.ArrivalSteps.{Splits-trans, Splits-more}

-- ---- reading on

-- the digits of two texts, one after the other
pub digits_of-append : (text more : List ℕ) → digits_of (text ++ more) ≡ digits_of text ++ digits_of more
digits_of-append text more = filter-append (λ c. not (is_ascii_whitespace c)) text more

pub ReadsOn-trans : (l0 h0 d1 l1 h1 d2 l2 h2 : List ℕ) (a1 a2 : List Arrival) → ReadsOn l0 h0 d1 a1 l1 h1 → ReadsOn l1 h1 d2 a2 l2 h2
    → ReadsOn l0 h0 (d1 ++ d2) (a1 ++ a2) l2 h2
ReadsOn-trans l0 h0 d1 l1 h1 d2 l2 h2 a1 a2 h k = record {
  bytes = h.bytes ++ k.bytes;
  read = subst (λ d. AreDigitsUpTo d (h.bytes ++ k.bytes) l2) (append_assoc l0 d1 d2) (AreDigitsUpTo-append (l0 ++ d1) d2 h.bytes k.bytes l1 l2 h.read k.read);
  splits = subst (λ b. Splits b (a1 ++ a2) h2) (append_assoc h0 h.bytes k.bytes)
      (Splits-trans ((h0 ++ h.bytes) ++ k.bytes) (h1 ++ k.bytes) h2 a1 a2 (Splits-more (h0 ++ h.bytes) h1 k.bytes a1 h.splits) k.splits);
}

-- digits that follow are left over too
pub ReadsOn-more : (l0 h0 digits left held more : List ℕ) (arrivals : List Arrival) → ReadsOn l0 h0 digits arrivals left held
    → ReadsOn l0 h0 (digits ++ more) arrivals (left ++ more) held
ReadsOn-more l0 h0 digits left held more arrivals h = record {
  bytes = h.bytes;
  read = subst (λ d. AreDigitsUpTo d h.bytes (left ++ more)) (append_assoc l0 digits more) (AreDigitsUpTo-more (l0 ++ digits) h.bytes left more h.read);
  splits = h.splits;
}

-- the text of all pieces so far
pub reads_piece : (text piece hex held left held' : List ℕ) (arrivals more : List Arrival) → ReadsOn [] [] (digits_of text) arrivals hex held
    → ReadsOn hex held (digits_of piece) more left held' → ReadsOn [] [] (digits_of (text ++ piece)) (arrivals ++ more) left held'
reads_piece text piece hex held left held' arrivals more h k =
    subst (λ d. ReadsOn [] [] d (arrivals ++ more) left held') (sym (digits_of-append text piece))
    (ReadsOn-trans [] [] (digits_of text) hex held (digits_of piece) left held' arrivals more h k)

-- a text of which the front was read
pub reads_front : (text more left held : List ℕ) (arrivals : List Arrival) → ReadsOn [] [] (digits_of text) arrivals left held
    → ReadsOn [] [] (digits_of (text ++ more)) arrivals (left ++ digits_of more) held
reads_front text more left held arrivals h =
    subst (λ d. ReadsOn [] [] d arrivals (left ++ digits_of more) held) (sym (digits_of-append text more))
    (ReadsOn-more [] [] (digits_of text) left held (digits_of more) arrivals h)

-- nothing is read yet
pub reads_none : ReadsOn [] [] [] [] [] []
reads_none = record { bytes = []; read = AreDigitsUpTo-none []; splits = refl }

-- ---- writing

-- the lines of a piece, behind those before it
pub writes_piece : (before lines unseen written : List ℕ) (arrivals more : List Arrival) → before ≡ flat_map arrival_lines arrivals → lines ≡ flat_map arrival_lines more
    → written ++ unseen ≡ lines → (before ++ written) ++ unseen ≡ flat_map arrival_lines (arrivals ++ more)
writes_piece before lines unseen written arrivals more e k h =
    append_assoc before written unseen ∙ ap (λ l. before ++ l) (h ∙ k) ∙ ap (λ l. l ++ flat_map arrival_lines more) e ∙ sym (flat_map-append arrival_lines arrivals more)

-- the lines of a piece that are written whole, behind those before it
pub lines_written : (o0 o1 o2 : Option (List ℕ)) (lines : List ℕ) (arrivals more : List Arrival) → Appends o0 o1 (flat_map arrival_lines arrivals) → lines ≡ flat_map arrival_lines more
    → TakesPart o1 o2 lines [] → Appends o0 o2 (flat_map arrival_lines (arrivals ++ more))
lines_written o0 o1 o2 lines arrivals more written whole takes =
    let all : flat_map arrival_lines arrivals ++ takes.written ≡ flat_map arrival_lines (arrivals ++ more) =
    ap (λ l. flat_map arrival_lines arrivals ++ l) (sym (append-nil takes.written) ∙ takes.whole ∙ whole) ∙ sym (flat_map-append arrival_lines arrivals more) in
    subst (Appends o0 o2) all (Appends-trans o0 o1 o2 (flat_map arrival_lines arrivals) takes.written written takes.appends)

-- what is longer than something isn't empty
longer : (xs ys : List ℕ) → 0 < length xs → 0 < length (xs ++ ys)
longer xs ys some = omega (arith, some, length-append xs ys)

-- the lines so far, and a last one that is printed behind them
printed_behind : (o0 o1 o2 : Option (List ℕ)) (lines last : List ℕ) (meant status : Status) → Appends o0 o1 lines → IsPrinted o1 o2 last meant status
    → IsPrinted o0 o2 (lines ++ last) meant status
printed_behind o0 o1 o2 lines last meant status written prints = (
  prints.0,
  record {
    written = lines ++ prints.1.written;
    appends = Appends-trans o0 o1 o2 lines prints.1.written written prints.1.appends;
    whole = append_assoc lines prints.1.written prints.0 ∙ ap (λ l. lines ++ l) prints.1.whole;
  },
  prints.2,
)

-- ---- what all of it makes

-- a whole listing, or one that is cut short
abbrev IsListed : List ℕ → Status → List ℕ → Type 0
IsListed text meant lines = IsListingBy Ends text meant lines ⊎ IsListingBy IsCut text meant lines

listed_by : (EndsSo : (left held last : List ℕ) → Status → Type 0) (text left held last : List ℕ) (arrivals : List Arrival) (meant : Status)
    → ReadsOn [] [] (digits_of text) arrivals left held → EndsSo left held last meant → IsListingBy EndsSo text meant (flat_map arrival_lines arrivals ++ last)
listed_by EndsSo text left held last arrivals meant reads ends = record {
  front = reads.read.front;
  left = left;
  digits = reads.read.whole;
  bytes = reads.bytes;
  spelled = reads.read.spelled;
  arrivals = arrivals;
  held = held;
  splits = reads.splits;
  last = last;
  ends = ends;
  lines_are = refl;
}

cut_listed : (text left held last : List ℕ) (arrivals : List Arrival) (meant : Status) → ReadsOn [] [] (digits_of text) arrivals left held
    → (last ≡ memory_line) ⊎ (last ≡ read_line) → meant ≡ Usage → IsListed text meant (flat_map arrival_lines arrivals ++ last)
cut_listed text left held last arrivals meant reads is_last is_status =
    inr (listed_by IsCut text left held last arrivals meant reads (is_last, is_status))

whole_listed : {said : List ℕ} {status : Status} (text left held last : List ℕ) (arrivals : List Arrival) (meant : Status) → ReadsOn [] [] (digits_of text) arrivals left held
    → Ends left held said status → last ≡ said → meant ≡ status → IsListed text meant (flat_map arrival_lines arrivals ++ last)
whole_listed text left held last arrivals meant reads ends is_last is_status =
    inl (listed_by Ends text left held last arrivals meant reads
    (subst (λ l. Ends left held l meant) (sym is_last) (subst (Ends left held _) (sym is_status) ends)))

-- nothing more is read: the text is what was read and what was not
stop_listed : (text more left held last : List ℕ) (arrivals : List Arrival) (stop : Stop) (meant : Status) → ReadsOn [] [] (digits_of text) arrivals left held
    → StopsAt stop left held → IsLast stop last meant → IsListed (text ++ more) meant (flat_map arrival_lines arrivals ++ last)
stop_listed text more left held last arrivals Hex meant h at is_last =
    whole_listed (text ++ more) (left ++ digits_of more) held last arrivals meant (reads_front text more left held arrivals h)
    (at_bad_hex (at.0 (digits_of more)) at.1) is_last.0 is_last.1
stop_listed text more left held last arrivals (Stream fault) meant h at is_last =
    let reads = reads_front text more left held arrivals h in
    elim is_last [
      | inl whole ↦ whole_listed (text ++ more) (left ++ digits_of more) held last arrivals meant reads (at_fault fault at) whole.0 whole.1
      | inr memory ↦ cut_listed (text ++ more) (left ++ digits_of more) held last arrivals meant reads (inl memory.0) memory.1
    ]
stop_listed text more left held last arrivals Memory meant h at is_last =
    cut_listed (text ++ more) (left ++ digits_of more) held last arrivals meant (reads_front text more left held arrivals h) (inl is_last.0) is_last.1
stop_listed text more left held last arrivals Read meant h at is_last =
    cut_listed (text ++ more) (left ++ digits_of more) held last arrivals meant (reads_front text more left held arrivals h) (inr is_last.0) is_last.1

-- the text is at its end
end_listed : (text hex held last : List ℕ) (arrivals : List Arrival) (meant : Status) → ReadsOn [] [] (digits_of text) arrivals hex held → IsPending held
    → IsLastAtEnd hex held last meant → IsListed text meant (flat_map arrival_lines arrivals ++ last)
end_listed text hex held last arrivals meant h pending at =
    elim at [
      | inl whole ↦ whole_listed text hex held last arrivals meant h (at_end whole.0 pending) whole.1 whole.2
      | inr other ↦ elim other [
        | inl broken ↦ whole_listed text hex held last arrivals meant h (at_bad_hex broken.0 pending) broken.1 broken.2
        | inr memory ↦ cut_listed text hex held last arrivals meant h (inl memory.0) memory.1
      ]
    ]

-- what holds of a text that goes on in any way holds of all that a reader had
known_text : (a b : Option (List ℕ)) (text : List ℕ) (P : List ℕ → Type 0) → Consumes a b text → ((more : List ℕ) → P (text ++ more))
    → (all : List ℕ) × IsTextOf a all × P all
known_text None b text P h k = (text ++ [], tt, k [])
known_text (Some x) None text P h k = absurd h
known_text (Some x) (Some y) text P h k = (text ++ y, sym h, k y)

-- nothing more is read after the text so far
pub early_output : (i0 i1 o0 o1 o2 : Option (List ℕ)) (text left held : List ℕ) (arrivals : List Arrival) (stop : Stop) (status : Status)
    → Consumes i0 i1 text → ReadsOn [] [] (digits_of text) arrivals left held → Appends o0 o1 (flat_map arrival_lines arrivals)
    → StopsAt stop left held → PrintsLast (IsLast stop) o1 o2 status → PrintsListing i0 o0 o2 status
early_output i0 i1 o0 o1 o2 text left held arrivals stop status consumed reads written at prints =
    let all = known_text i0 i1 text (λ t. IsListed t prints.meant (flat_map arrival_lines arrivals ++ prints.last)) consumed
    (λ more. stop_listed text more left held prints.last arrivals stop prints.meant reads at prints.is_last) in record {
      text = all.0;
      text_is = all.1;
      lines = flat_map arrival_lines arrivals ++ prints.last;
      meant = prints.meant;
      listed = all.2;
      printed = printed_behind o0 o1 o2 (flat_map arrival_lines arrivals) prints.last prints.meant status written prints.printed;
    }

-- nothing more is read after a piece
pub piece_output : (i0 i1 i2 o0 o1 o2 o3 : Option (List ℕ)) (text piece lines hex hex' : List ℕ) (feed feed' : Feeding) (arrivals : List Arrival) (stop : Stop) (status : Status)
    → Consumes i0 i1 text → Consumes i1 i2 piece → ReadsOn [] [] (digits_of text) arrivals hex feed.held → Appends o0 o1 (flat_map arrival_lines arrivals)
    → Lists hex feed piece lines (Err stop) hex' feed' → TakesPart o1 o2 lines [] → PrintsLast (IsLast stop) o2 o3 status → PrintsListing i0 o0 o3 status
piece_output i0 i1 i2 o0 o1 o2 o3 text piece lines hex hex' feed feed' arrivals stop status consumed more_consumed reads written lists shown prints =
    early_output i0 i2 o0 o2 o3 (text ++ piece) lists.left lists.held (arrivals ++ lists.arrivals) stop status
    (Consumes-trans i0 i1 i2 text piece consumed more_consumed)
    (reads_piece text piece hex feed.held lists.left lists.held arrivals lists.arrivals reads lists.reads)
    (lines_written o0 o1 o2 lines arrivals lists.arrivals written lists.whole shown) lists.after prints

-- the writer failed in the lines of a piece: it has a beginning of what is printed where memory was
-- wanted then
pub cut_output : (i0 i1 i2 o0 o1 o2 : Option (List ℕ)) (text piece lines unseen hex hex' : List ℕ) (feed feed' : Feeding) (arrivals : List Arrival)
    (result : Result (Unit {0}) Stop) → Consumes i0 i1 text → Consumes i1 i2 piece → ReadsOn [] [] (digits_of text) arrivals hex feed.held → Appends o0 o1 (flat_map arrival_lines arrivals)
    → Lists hex feed piece lines result hex' feed' → TakesPart o1 o2 lines unseen → 0 < length unseen → PrintsListing i0 o0 o2 Usage
cut_output i0 i1 i2 o0 o1 o2 text piece lines unseen hex hex' feed feed' arrivals result consumed more_consumed reads written lists shown some =
    let came = arrivals ++ lists.arrivals in
    let on = reads_piece text piece hex feed.held lists.left lists.held arrivals lists.arrivals reads lists.reads in
    let all = known_text i0 i2 (text ++ piece) (λ t. IsListed t Usage (flat_map arrival_lines came ++ memory_line)) (Consumes-trans i0 i1 i2 text piece consumed more_consumed)
    (λ more. cut_listed ((text ++ piece) ++ more) (lists.left ++ digits_of more) lists.held memory_line came Usage
    (reads_front (text ++ piece) more lists.left lists.held came on) (inl refl) refl) in record {
      text = all.0;
      text_is = all.1;
      lines = flat_map arrival_lines came ++ memory_line;
      meant = Usage;
      listed = all.2;
      printed = (
        unseen ++ memory_line,
        record {
          written = flat_map arrival_lines arrivals ++ shown.written;
          appends = Appends-trans o0 o1 o2 (flat_map arrival_lines arrivals) shown.written written shown.appends;
          whole = sym (append_assoc (flat_map arrival_lines arrivals ++ shown.written) unseen memory_line)
              ∙ ap (λ l. l ++ memory_line) (writes_piece (flat_map arrival_lines arrivals) lines unseen shown.written arrivals lists.arrivals refl lists.whole shown.whole);
        },
        inr (refl, longer unseen memory_line some),
      );
    }

-- the reader is at its end
pub finish_output : (i0 i1 o0 o1 o2 : Option (List ℕ)) (text hex held : List ℕ) (arrivals : List Arrival) (status : Status)
    → Consumes i0 i1 text → IsAtEnd i1 → ReadsOn [] [] (digits_of text) arrivals hex held → Appends o0 o1 (flat_map arrival_lines arrivals)
    → IsPending held → PrintsLast (IsLastAtEnd hex held) o1 o2 status → PrintsListing i0 o0 o2 status
finish_output i0 i1 o0 o1 o2 text hex held arrivals status consumed ended reads written pending prints = record {
  text = text;
  text_is = Consumes-whole i0 i1 text (λ all. text ≡ all) consumed ended refl;
  lines = flat_map arrival_lines arrivals ++ prints.last;
  meant = prints.meant;
  listed = end_listed text hex held prints.last arrivals prints.meant reads pending prints.is_last;
  printed = printed_behind o0 o1 o2 (flat_map arrival_lines arrivals) prints.last prints.meant status written prints.printed;
}

-- ---- a piece that didn't end it

pub piece_read : (text piece lines hex hex' : List ℕ) (feed feed' : Feeding) (arrivals : List Arrival) (u : Unit {0})
    → ReadsOn [] [] (digits_of text) arrivals hex feed.held → (lists : Lists hex feed piece lines (Ok u) hex' feed')
    → ReadsOn [] [] (digits_of (text ++ piece)) (arrivals ++ lists.arrivals) hex' feed'.held
piece_read text piece lines hex hex' feed feed' arrivals u reads lists =
    subst (λ d. ReadsOn [] [] (digits_of (text ++ piece)) (arrivals ++ lists.arrivals) d feed'.held) lists.after.digits
    (subst (ReadsOn [] [] (digits_of (text ++ piece)) (arrivals ++ lists.arrivals) lists.left) lists.after.bytes
    (reads_piece text piece hex feed.held lists.left lists.held arrivals lists.arrivals reads lists.reads))

pub piece_pending : (piece lines hex hex' : List ℕ) (feed feed' : Feeding) (u : Unit {0}) → Lists hex feed piece lines (Ok u) hex' feed' → IsPending feed'.held
piece_pending piece lines hex hex' feed feed' u lists = subst IsPending lists.after.bytes lists.after.pending
