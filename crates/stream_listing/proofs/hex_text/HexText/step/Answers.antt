use Rattle.std.proofs.Common.{◌≡◌, ◌++◌, ◌∷◌, [], sym, subst, rules}
use Rattle.std.specs.Option.{option_to_list}
use Rattle.stream_listing.specs.HexText.{AreDigitsUpTo, Breaks}
use Rattle.stream_listing.proofs.HexSteps.{AreDigitsUpTo-none, two_digits, two_broken}
use Rattle.stream_listing.proofs.hex_text.HexText.step.Goals as goal

pub returns-in_default-clause-ok : goal.returns-in_default-clause-ok
returns-in_default-clause-ok c =
    let none : c.args.self.now ≡ [] = search rules in
    subst (λ l. AreDigitsUpTo (l ++ c.args.digit ∷ []) [] (c.args.digit ∷ [])) (sym none) (AreDigitsUpTo-none (c.args.digit ∷ []))

pub returns-in_default-byte_of-clause-broken : goal.returns-in_default-byte_of-clause-broken
returns-in_default-byte_of-clause-broken c =
    let held : c.args.self.now ≡ c.in-Some.high ∷ [] = search rules in
    subst (λ l. Breaks (l ++ c.args.digit ∷ []) []) (sym held) (two_broken c.in-Some.high c.args.digit (search rules))

pub returns-clause-ok : goal.returns-clause-ok
returns-clause-ok c =
    let held : c.args.self.now ≡ c.in-Some.high ∷ [] = search rules in
    let none : option_to_list c.take.new.self ≡ [] = search rules in
    let read : AreDigitsUpTo (c.in-Some.high ∷ c.args.digit ∷ []) (c.in-Some-byte_of.byte ∷ []) [] = two_digits c.in-Some.high c.args.digit c.in-Some-byte_of.byte (search rules) in
    subst (λ l. AreDigitsUpTo (l ++ c.args.digit ∷ []) (c.in-Some-byte_of.byte ∷ []) (option_to_list c.take.new.self)) (sym held)
    (subst (AreDigitsUpTo (c.in-Some.high ∷ c.args.digit ∷ []) (c.in-Some-byte_of.byte ∷ [])) (sym none) read)
