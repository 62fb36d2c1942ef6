-- Bytes that spell events, as a sink's file, read on piece by piece.
use Rattle.std.proofs.Common.{ℕ, List, [], ◌++◌, ◌≡◌, ◌<◌, ◌≤◌, ◌+◌, ◌-◌, length, take, drop, refl, sym, ap, ◌∙◌, subst, arith, append_assoc, append-nil, Option, Some, None, Result, Ok, Err}
use Rattle.std.specs.Prelude.{IfSome}
use Rattle.std.specs.Io.KnownBytes.{Consumes, IsAtEnd}
use Rattle.std.proofs.KnownBytes.{Consumes-trans, Consumes-whole}
use Rattle.std.proofs.lemmas.List.{length-append, length-take-le, take-append-drop}
use Rattle.event_listing.specs.Forms.{Form, spelled_run, BeginsNo, IsIn}
use Rattle.event_listing.specs.Choices.{Chosen}
use Rattle.event_listing.specs.Lines.{PrintsAll, PrintsSome, IsPrintedOf}
use Rattle.event_listing.specs.Reading.{longest_item, IsEnd, PrintsFile, PrintsPiece}
use Rattle.event_listing.specs.Shown.{IsPut, Shown, ShowsAll}
use Rattle.event_listing.specs.declared.sink.End.TheVariants.{Ended, Damaged}
use Rattle.event_listing.specs.declared.stop.Stop.{Stop}
use Rattle.event_listing.specs.declared.stop.Stop.TheVariants.{Memory, Read, Output}
use Rattle.folder_listing.proofs.Fed.{known_is}
use Rattle.event_listing.proofs.Items.{each_append, none_further, nothing_begins, run_append}
use Rattle.event_listing.proofs.Listed.{listed_append}
use Rattle.event_listing.proofs.Outputs.{shown_behind, shown_lost, shown_so, shows_more, shows_none}

-- ---- what is printed

-- of no bytes nothing
pub prints_none : (form : Form) (chosen : Chosen) (held : List ℕ) → held ≡ [] → PrintsAll form chosen [] [] held
prints_none form chosen held e = record {
  events = [];
  each = tt;
  whole = sym e;
  torn = subst (BeginsNo form) (sym e) (nothing_begins form);
  printed = record { listings = []; each = tt; text_is = refl };
}

-- of a piece more
pub prints_more : (form : Form) (chosen : Chosen) (read piece text held behind left : List ℕ) → PrintsAll form chosen read text held → PrintsAll form chosen (held ++ piece) behind left
    → PrintsAll form chosen (read ++ piece) (text ++ behind) left
prints_more form chosen read piece text held behind left first more = record {
  events = first.events ++ more.events;
  each = each_append (IsIn form) first.events more.events first.each more.each;
  whole = ap (λ z. z ++ piece) first.whole ∙ append_assoc (spelled_run form first.events) held piece ∙ ap (λ z. spelled_run form first.events ++ z) more.whole
      ∙ run_append form first.events more.events left;
  torn = more.torn;
  printed = listed_append (IsPrintedOf chosen) first.events more.events text behind first.printed more.printed;
}

-- where some of a piece more is printed
pub some_more : (form : Form) (chosen : Chosen) (read piece text held behind more : List ℕ) → PrintsAll form chosen read text held → PrintsSome form chosen (held ++ piece) behind
    → PrintsSome form chosen ((read ++ piece) ++ more) (text ++ behind)
some_more form chosen read piece text held behind more first some = record {
  events = first.events ++ some.events;
  each = each_append (IsIn form) first.events some.events first.each some.each;
  rest = some.rest ++ more;
  whole = ap (λ z. (z ++ piece) ++ more) first.whole ∙ ap (λ z. z ++ more) (append_assoc (spelled_run form first.events) held piece)
      ∙ ap (λ z. (spelled_run form first.events ++ z) ++ more) some.whole
      ∙ ap (λ z. z ++ more) (run_append form first.events some.events some.rest) ∙ append_assoc (spelled_run form (first.events ++ some.events)) some.rest more;
  printed = listed_append (IsPrintedOf chosen) first.events some.events text behind first.printed some.printed;
}

-- what is printed of a beginning of the bytes
pub some_of_all : (form : Form) (chosen : Chosen) (read text held more : List ℕ) → PrintsAll form chosen read text held → PrintsSome form chosen (read ++ more) text
some_of_all form chosen read text held more all = record {
  events = all.events;
  each = all.each;
  rest = held ++ more;
  whole = ap (λ z. z ++ more) all.whole ∙ append_assoc (spelled_run form all.events) held more;
  printed = all.printed;
}

-- none is printed
pub some_of_none : (form : Form) (chosen : Chosen) (bytes : List ℕ) → PrintsSome form chosen bytes []
some_of_none form chosen bytes = record { events = []; each = tt; rest = bytes; whole = refl; printed = record { listings = []; each = tt; text_is = refl } }

-- all that the bytes hold is printed, where more is held than an event has
pub all_of_long : (form : Form) (chosen : Chosen) (read text held more : List ℕ) → longest_item < length held → PrintsAll form chosen read text held → PrintsAll form chosen (read ++ more) text (held ++ more)
all_of_long form chosen read text held more long all = record {
  events = all.events;
  each = all.each;
  whole = ap (λ z. z ++ more) all.whole ∙ append_assoc (spelled_run form all.events) held more;
  torn = none_further form held more long all.torn;
  printed = all.printed;
}

-- ---- a file

-- reading stops between two pieces
pub file_stopped : (form : Form) (chosen : Chosen) (known now : Option (List ℕ)) (old new : Shown) (read text held : List ℕ) (stop : Stop) → Consumes known now read → ShowsAll old new text → PrintsAll form chosen read text held
    → PrintsFile form chosen known old new (Err stop)
file_stopped form chosen known now old new read text held stop consumed appends all = record {
  text = text;
  shown = shown_so old new text stop appends;
  ends = known_is known now read (λ bytes. PrintsSome form chosen bytes text) consumed (λ more. some_of_all form chosen read text held more all);
}

-- reading stops in a piece
pub file_cut : (form : Form) (chosen : Chosen) (known now : Option (List ℕ)) (old mid new : Shown) (read piece text held : List ℕ) (at : ℕ) (left : ℕ × List ℕ) (stop : Stop) → Consumes known now (read ++ piece) → ShowsAll old mid text
    → PrintsAll form chosen read text held → PrintsPiece form chosen (at, held ++ piece) left mid new (Err stop) → PrintsFile form chosen known old new (Err stop)
file_cut form chosen known now old mid new read piece text held at left stop consumed appends all off = record {
  text = text ++ off.text;
  shown = shown_behind old mid new text off.text stop appends off.shown;
  ends = known_is known now (read ++ piece) (λ bytes. PrintsSome form chosen bytes (text ++ off.text)) consumed (λ more. some_more form chosen read piece text held off.text more all off.ends);
}

-- nothing of a piece is printed
pub piece_lost : (form : Form) (chosen : Chosen) (held left : ℕ × List ℕ) (old : Shown) (stop : Stop) → PrintsPiece form chosen held left old old (Err stop)
piece_lost form chosen held left old stop = record { text = []; shown = shown_so old old [] stop (shows_none old); ends = some_of_none form chosen held.1 }

some_held : (form : Form) (chosen : Chosen) (held text rest : List ℕ) → PrintsAll form chosen held text rest → PrintsSome form chosen held text
some_held form chosen held text rest all = subst (λ z. PrintsSome form chosen z text) (append-nil held) (some_of_all form chosen held text rest [] all)

lost_or_cut : (form : Form) (chosen : Chosen) (held left : ℕ × List ℕ) (old new : Shown) (text rest : List ℕ) (stop : Stop) → PrintsAll form chosen held.1 text rest → IsPut old new text (Err stop)
    → PrintsPiece form chosen held left old new (Err stop)
lost_or_cut form chosen held left old new text rest Memory all same = record { text = []; shown = shown_lost old new same; ends = some_of_none form chosen held.1 }
lost_or_cut form chosen held left old new text rest Read all put = absurd put
lost_or_cut form chosen held left old new text rest Output all put = record { text = text; shown = put; ends = some_held form chosen held.1 text rest all }

-- what the bytes hold isn't all printed
pub piece_unput : (form : Form) (chosen : Chosen) (held left : ℕ × List ℕ) (old new : Shown) (read grown text given rest : List ℕ) (stop : Stop) → read ≡ grown → grown ≡ held.1 → PrintsAll form chosen read text rest → given ≡ text
    → IsPut old new given (Err stop) → PrintsPiece form chosen held left old new (Err stop)
piece_unput form chosen held left old new read grown text given rest stop first more all same put =
    lost_or_cut form chosen held left old new text rest stop (subst (λ b. PrintsAll form chosen b text rest) (first ∙ more) all) (subst (λ t. IsPut old new t (Err stop)) same put)

-- what the bytes hold is printed, and they are not taken off
pub piece_cut : (form : Form) (chosen : Chosen) (held left : ℕ × List ℕ) (old new : Shown) (text rest : List ℕ) (stop : Stop) → PrintsAll form chosen held.1 text rest → ShowsAll old new text
    → PrintsPiece form chosen held left old new (Err stop)
piece_cut form chosen held left old new text rest stop all shows = record { text = text; shown = shown_so old new text stop shows; ends = some_held form chosen held.1 text rest all }

-- they are taken off
pub piece_whole : (form : Form) (chosen : Chosen) (at used next : ℕ) (bytes left text : List ℕ) (old new : Shown) → PrintsAll form chosen bytes text (drop used bytes) → used ≤ length bytes → left ≡ drop used bytes → next ≡ at + used
    → ShowsAll old new text → PrintsPiece form chosen (at, bytes) (next, left) old new (Ok tt)
piece_whole form chosen at used next bytes left text old new all fits same place shows = record {
  text = text;
  shown = shows;
  ends = (
    subst (λ z. PrintsAll form chosen bytes text z) (sym same) all,
    omega (arith, fits, place, ap length same, ap length (take-append-drop used bytes), length-append (take used bytes) (drop used bytes), length-take-le used bytes fits),
  );
}

-- the place where the events end
place : (bytes rest at : ℕ) → at + rest ≡ bytes → at ≡ bytes - rest
place bytes rest at e = omega (arith, e)

-- nothing is left to read
pub file_ended : (form : Form) (chosen : Chosen) (known now : Option (List ℕ)) (old new : Shown) (read text held : List ℕ) (at behind : ℕ) → Consumes known now read → IsAtEnd now → ShowsAll old new text
    → PrintsAll form chosen read text held → at + length held ≡ length read → behind ≡ length held → PrintsFile form chosen known old new (Ok (Ended at behind))
file_ended form chosen known now old new read text held at behind consumed none appends all at_is behind_is = record {
  text = text;
  shown = appends;
  ends = Consumes-whole known now read (λ bytes. (rest : List ℕ) × PrintsAll form chosen bytes text rest × IsEnd bytes rest (Ended at behind)) consumed none (
    held,
    all,
    (place (length read) (length held) at at_is, behind_is),
  );
}

-- more is held than an item has
file_long : (form : Form) (chosen : Chosen) (known now : Option (List ℕ)) (old new : Shown) (read text held : List ℕ) (at : ℕ) → Consumes known now read → longest_item < length held → ShowsAll old new text
    → PrintsAll form chosen read text held → at + length held ≡ length read → PrintsFile form chosen known old new (Ok (Damaged at))
file_long form chosen known now old new read text held at consumed long appends all at_is = record {
  text = text;
  shown = appends;
  ends = known_is known now read (λ bytes. (rest : List ℕ) × PrintsAll form chosen bytes text rest × IsEnd bytes rest (Damaged at)) consumed (λ more. (
    held ++ more,
    all_of_long form chosen read text held more long all,
    (omega (arith, at_is, length-append read more, length-append held more), omega (arith, long, length-append held more)),
  ));
}

none_of : (form : Form) (chosen : Chosen) (known : Option (List ℕ)) → IfSome known (λ bytes. PrintsSome form chosen bytes [])
none_of form chosen None = tt
none_of form chosen (Some bytes) = some_of_none form chosen bytes

-- the place, a piece further
place_more : (read piece held left : List ℕ) (at next : ℕ) → at + length held ≡ length read → next + length left ≡ at + length (held ++ piece) → next + length left ≡ length (read ++ piece)
place_more read piece held left at next before after = omega (arith, before, after, length-append read piece, length-append held piece)

-- no file is read
pub file_unread : (form : Form) (chosen : Chosen) (known : Option (List ℕ)) (old : Shown) (stop : Stop) → PrintsFile form chosen known old old (Err stop)
file_unread form chosen known old stop = record { text = []; shown = shown_so old old [] stop (shows_none old); ends = none_of form chosen known }

-- ---- the pieces of a file, one behind another

-- what is printed of the pieces so far, of which these bytes are held, from this place of the file
-- on
pub record FileOn (form : Form) (chosen : Chosen) (known now : Option (List ℕ)) (old new : Shown) (held : List ℕ) (at : ℕ) : Type 0 where
  pub read : List ℕ
  pub text : List ℕ
  pub consumed : Consumes known now read
  pub written : ShowsAll old new text
  pub printed : PrintsAll form chosen read text held
  pub at_is : at + length held ≡ length read

-- a piece more
pub piece_more : (form : Form) (chosen : Chosen) (known now later : Option (List ℕ)) (old mid new : Shown) (held piece left : List ℕ) (at next : ℕ) (result : Result (Unit {0}) Stop) (u : Unit {0}) → FileOn form chosen known now old mid held at
    → Consumes now later piece → PrintsPiece form chosen (at, held ++ piece) (next, left) mid new result → result ≡ Ok u → FileOn form chosen known later old new left next
piece_more form chosen known now later old mid new held piece left at next result u on consumes prints is =
    let whole : PrintsPiece form chosen (at, held ++ piece) (next, left) mid new (Ok u) = subst (λ r. PrintsPiece form chosen (at, held ++ piece) (next, left) mid new r) is prints in
    record {
      read = on.read ++ piece;
      text = on.text ++ whole.text;
      consumed = Consumes-trans known now later on.read piece on.consumed consumes;
      written = shows_more old mid new on.text whole.text on.written whole.shown;
      printed = prints_more form chosen on.read piece on.text held whole.text left on.printed whole.ends.0;
      at_is = place_more on.read piece held left at next on.at_is whole.ends.1;
    }

-- more is held behind it than an item has
pub piece_long : (form : Form) (chosen : Chosen) (known now : Option (List ℕ)) (old new : Shown) (held : List ℕ) (at : ℕ) → FileOn form chosen known now old new held at → longest_item < length held → PrintsFile form chosen known old new (Ok (Damaged at))
piece_long form chosen known now old new held at on long = file_long form chosen known now old new on.read on.text held at on.consumed long on.written on.printed on.at_is
