use Rattle.std.proofs.Common.{◌+◌, ◌++◌, [], ◌∷◌, take, get_or, refl, sym, subst, rules}
use Rattle.std.proofs.lemmas.List.{append_assoc, append-nil}
use Rattle.stream_listing.specs.HexText.{digits_of, AreDigitsUpTo}
use Rattle.stream_listing.proofs.HexSteps.{AreDigitsUpTo-none, read_digit, read_space, break_digit}
use Rattle.stream_listing.proofs.hex_text.HexText.read.Goals.{then-not-is_ascii_whitespace+in_ok-byte+in-Some, then-not-is_ascii_whitespace+in_ok-byte+in_default, else-not-is_ascii_whitespace}
use Rattle.stream_listing.proofs.hex_text.HexText.read.Goals as goal

pub loop-digit-init : goal.loop-digit-init
loop-digit-init g c = record {
  room = search rules;
  added = [];
  read = subst (λ l. AreDigitsUpTo l [] c.args.self.now) (sym (append-nil c.args.self.now)) (AreDigitsUpTo-none c.args.self.now);
  grown = search rules;
}

pub returns-in_err-byte-clause-broken : goal.returns-in_err-byte-clause-broken
returns-in_err-byte-clause-broken g c =
    λ _. (
      c.loop-digit.invariant.added,
      break_digit c.args.piece.now c.args.self.now c.loop-digit.invariant.added c.loop-digit.self c.loop-digit.digit-index
          (get_or c.args.piece.now c.loop-digit.digit-index 0) c.loop-digit-test.true refl (cc) c.loop-digit.invariant.read c.in_err-byte.ensures.broken,
      c.loop-digit.invariant.grown,
    )

pub loop-digit-preserved : goal.loop-digit-preserved
loop-digit-preserved g c =
    let text = c.args.piece.now in
    let i = c.loop-digit.digit-index in
    let added = c.loop-digit.invariant.added in
    elim c.if-not-is_ascii_whitespace.branch [
      | then-not-is_ascii_whitespace+in_ok-byte+in-Some w ↦
          let step : AreDigitsUpTo (c.loop-digit.self ++ get_or text i 0 ∷ []) (w.in-Some.byte ∷ []) w.step.new.self = rw w.in-Some.is at w.in_ok-byte.ensures.ok in
          record {
            room = search rules;
            added = added ++ w.in-Some.byte ∷ [];
            read = subst (λ t. AreDigitsUpTo (c.args.self.now ++ digits_of (take (i + 1) text)) (added ++ w.in-Some.byte ∷ []) t) (sym w.self-is)
                (read_digit text c.args.self.now added (w.in-Some.byte ∷ []) c.loop-digit.self w.step.new.self i (get_or text i 0) c.loop-digit-test.true refl (cc) c.loop-digit.invariant.read step);
            grown = search (rules, append_assoc);
          }
      | then-not-is_ascii_whitespace+in_ok-byte+in_default w ↦
          let step : AreDigitsUpTo (c.loop-digit.self ++ get_or text i 0 ∷ []) [] w.step.new.self = rw w.in_default.is at w.in_ok-byte.ensures.ok in
          record {
            room = search rules;
            added = added ++ [];
            read = subst (λ t. AreDigitsUpTo (c.args.self.now ++ digits_of (take (i + 1) text)) (added ++ []) t) (sym w.self-is)
                (read_digit text c.args.self.now added [] c.loop-digit.self w.step.new.self i (get_or text i 0) c.loop-digit-test.true refl (cc) c.loop-digit.invariant.read step);
            grown = search (rules, append-nil);
          }
      | else-not-is_ascii_whitespace w ↦
          record {
            room = search rules;
            added = added;
            read = subst (λ t. AreDigitsUpTo (c.args.self.now ++ digits_of (take (i + 1) text)) added t) (sym w.self-is)
                (read_space text c.args.self.now added c.loop-digit.self i (get_or text i 0) c.loop-digit-test.true refl (cc) c.loop-digit.invariant.read);
            grown = search rules;
          }
    ]
